-- Entries of a list by their keys: which of them no earlier one repeats, over all keys and over a range of keys, and what a table of bits says of the entries so far.
-- Assumes nothing.
use Rattle.std.specs.Prelude.{ℕ, ◌+◌, ◌*◌, ◌/◌, ◌%◌, ◌^◌, ◌≤◌, ◌<◌, ◌≡◌, Bool, true, false, not, ◌&&◌, ◌||◌, ◌⊎◌, Option, MatchOption, List, eqb, ltb, leb, length, get_or, set}
use Rattle.std.specs.Int.Bits.{bit_or}
use Rattle.laws.specs.Bits.{holds}
use Rattle.foundry_rule.specs.Judged.{is_some}

-- how many keys the table has a bit for
abbrev pub span : ℕ
span = 262144

-- as few ranges as hold so many keys
abbrev pub ranges_of : ℕ → ℕ
ranges_of keys = (keys + 262143) / span

-- an entry before v has the key k
abbrev pub seen : (ℕ → ℕ) → ℕ → ℕ → Bool
seen key k v = is_some (λ (u : ℕ). eqb k (key u)) v

-- no entry before v has its key
abbrev pub fresh : (ℕ → ℕ) → ℕ → Bool
fresh key v = not (seen key (key v) v)

-- the same, asked only of an entry whose key is below b, or from b on in the range of a table
abbrev pub fresh_below : (ℕ → ℕ) → ℕ → ℕ → Bool
fresh_below key b v = not (ltb (key v) b && seen key (key v) v)

abbrev pub in_span : ℕ → ℕ → Bool
in_span b k = leb b k && ltb k (b + span)

abbrev pub fresh_in : (ℕ → ℕ) → ℕ → ℕ → Bool
fresh_in key b v = not (in_span b (key v) && seen key (key v) v)

-- the key of entry v, none where it is not sound
abbrev pub KeyIf : (ℕ → Bool) → (ℕ → ℕ) → ℕ → Option ℕ → Type 0
KeyIf sound key v r = MatchOption r (sound v ≡ false) (λ k. (sound v ≡ true) × (k ≡ key v))

-- how far the key k is behind the base b of a range; none where it is not in the range
abbrev pub PlaceIn : ℕ → ℕ → Option ℕ → Type 0
PlaceIn b k r = MatchOption r ((k < b) ⊎ (b + span ≤ k)) (λ p. (p < span) × (k ≡ b + p))

-- none of the entries from v up to the end has its key in the range from b on
abbrev pub FarFrom : (ℕ → ℕ) → ℕ → ℕ → ℕ → Type 0
FarFrom key b v end = (i : ℕ) → v ≤ i → i < end → (key i < b) ⊎ (b + span ≤ key i)

-- the bit of the key k, of a table in words of 64 bits
abbrev pub bit_at : List ℕ → ℕ → Bool
bit_at table k = holds (get_or table (k / 64) 0) (k % 64)

-- a table of 4,096 words says of each key of the range from b on whether an entry before v has it
pub record Table (key : ℕ → ℕ) (b v : ℕ) (table : List ℕ) : Type 0 where
  pub long : length table ≡ 4096
  pub says : (k : ℕ) → k < span → bit_at table k ≡ seen key (b + k) v

-- no entry before v repeats an earlier one, of those with keys in the range, and the table is behind them
pub record Passed (key : ℕ → ℕ) (b v : ℕ) (table : List ℕ) : Type 0 where
  pub new : (i : ℕ) → i < v → fresh_in key b i ≡ true
  pub behind : Table key b v table

-- the bit of k is set, and no other is changed
pub record Marked (k : ℕ) (table table' : List ℕ) : Type 0 where
  pub is : table' ≡ set table (k / 64) (bit_or (get_or table (k / 64) 0) (1 * 2 ^ (k % 64) % 18446744073709551616))
  pub as_long : length table' ≡ length table
  pub bits : (m : ℕ) → m < 64 * length table → bit_at table' m ≡ (eqb m k || bit_at table m)

-- the keys of the entries before v rise, if so it is said: none repeats an earlier one, and all are below `last`
pub record Rising (key : ℕ → ℕ) (v last : ℕ) (rises : Bool) : Type 0 where
  pub new : rises ≡ true → (u : ℕ) → u < v → fresh key u ≡ true
  pub under : rises ≡ true → (u : ℕ) → u < v → key u < last
