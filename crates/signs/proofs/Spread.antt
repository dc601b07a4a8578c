-- 64 bytes of 0 or 1 in one word: byte 8 k + l is bit k of the word's byte l. With rows and columns exchanged they stand in order.
-- Assumes nothing.
use mathlib.Core.Path.{◌≡◌, refl, sym, ap, ap₂, ◌∙◌}
use mathlib.Core.Bool.{Bool, true, false, cond}
use mathlib.Core.Logic.{◌⊎◌, inl, inr}
use mathlib.Core.List.{List}
use Prim.Native.Nat.{ℕ, ◌+◌, ◌-◌, ◌*◌, ◌/◌, ◌%◌, ◌^◌, ◌≤◌, ◌<◌}
use native.Mathlib.Nat.{add-zero, mod-lt, eq-or-lt_of_le}
use native.Mathlib.Omega.{arith}
use borrow.Author.Tests.{lt-ltb, le-ltb, le-leb, lt-leb, eq-eqb, ne_eqb, eqb-true, eqb-false}
use lib.Bits.{bit_or, or_lt, or_zero_l, or_zero_r}
use lib.Dec.{leb, ltb, eqb}
use lib.ListN.{length, get_or, take, drop}
use lib.Pow.{pow_pos}
use Rattle.laws.specs.Pack.{pack}
use Rattle.laws.proofs.Pack.{pack_none, pack_lt, pack_cong, pack_more}
use Rattle.laws.proofs.Tests.{lt_or_ge}
use Rattle.laws.proofs.Words.{Word, word_of, word_bit, or_digit}
use Rattle.signs.specs.Steps.{BitBytes, eight_bytes}
use Rattle.signs.proofs.Windows.{part_of}
use Rattle.signs.proofs.Swaps.{left_digit}

-- a bit, or 0 where a test fails, is a bit
only_le : (c : Bool) (x : ℕ) → x ≤ 1 → cond c x 0 ≤ 1
only_le true x h = h
only_le false x h = omega arith

-- bit m of the word of eight bytes from the index p on
abbrev eight_at : List ℕ → ℕ → ℕ → ℕ
eight_at bytes p m = cond (eqb (m % 8) 0) (get_or bytes (p + m / 8) 0) 0

-- bit m of the word that has k times eight of the bytes of word w
abbrev pub spread_at : List ℕ → ℕ → ℕ → ℕ → ℕ
spread_at bytes w k m = cond (ltb (m % 8) k) (get_or bytes (64 * w + (8 * (m % 8) + m / 8)) 0) 0

-- eight bytes, as they are lent
pub part_word : (bytes : List ℕ) (p : ℕ) → p + 8 ≤ length bytes → eight_bytes (take (p + 8 - p) (drop p bytes)) 0 ≡ eight_bytes bytes p
part_word bytes p h = omega (arith, at 0 (omega arith), ap (λ (i : ℕ). get_or bytes i 0) (add-zero p), at 1 (omega arith), at 2 (omega arith), at 3 (omega arith), at 4 (omega arith), at 5 (omega arith), at 6 (omega arith), at 7 (omega arith))
  where
    at : (x : ℕ) → x < 8 → get_or (take (p + 8 - p) (drop p bytes)) x 0 ≡ get_or bytes (p + x) 0
    at = (part_of bytes p (p + 8) 8 (omega arith) h).at

-- no byte yet
pub spread_none : (bytes : List ℕ) (w : ℕ) → 0 ≡ pack (spread_at bytes w 0) 64
spread_none bytes w = sym (pack_more (spread_at bytes w 0) 0 64 (λ i a b. none i) ∙ pack_none (spread_at bytes w 0))
  where
    none : (i : ℕ) → spread_at bytes w 0 i ≡ 0
    none i = simp (le-ltb (i % 8) 0 (omega arith))

module _ (bytes : List ℕ) (small : BitBytes bytes) where
  eight_word : (p x : ℕ) → x ≡ eight_bytes bytes p → Word x (eight_at bytes p) 64
  unfolding pack
  eight_word p x e = record {
    is = omega (arith, e, ap (λ (i : ℕ). get_or bytes i 0) (add-zero p));
    bit = λ m. only_le (eqb (m % 8) 0) (get_or bytes (p + m / 8) 0) (small (p + m / 8));
  }

  -- bit i of the eight bytes, k places further up
  late_digit : (p x k i : ℕ) → Word x (eight_at bytes p) 64 → k < 8 → i < 64 → x * 2 ^ k % 2 ^ 64 / 2 ^ i % 2 ≡ cond (eqb (i % 8) k) (get_or bytes (p + i / 8) 0) 0
  late_digit p x k i is hk hi = left_digit x k i hi ∙ go (lt_or_ge i k)
    where
      before : i < k → i % 8 ≡ k → ⊥
      before l e = omega arith

      first : k ≤ i → i % 8 ≡ k → (i - k) % 8 ≡ 0
      first l e = omega arith

      byte : k ≤ i → i % 8 ≡ k → (i - k) / 8 ≡ i / 8
      byte l e = omega arith

      other : k ≤ i → (i % 8 ≡ k → ⊥) → (i - k) % 8 ≡ 0 → ⊥
      other l n e = n (omega arith)

      here : k ≤ i → (b : Bool) → eqb (i % 8) k ≡ b → eight_at bytes p (i - k) ≡ cond b (get_or bytes (p + i / 8) 0) 0
      here l true e =
          let q = eqb-true (i % 8) k e in
          rw (eq-eqb ((i - k) % 8) 0 (first l q)) (ap (λ (n : ℕ). get_or bytes (p + n) 0) (byte l q))
      here l false e = rw (ne_eqb ((i - k) % 8) 0 (other l (eqb-false (i % 8) k e))) refl

      go : (i < k) ⊎ (k ≤ i) → cond (leb k i) (x / 2 ^ (i - k) % 2) 0 ≡ cond (eqb (i % 8) k) (get_or bytes (p + i / 8) 0) 0
      go (inl l) = rw (lt-leb k i l, ne_eqb (i % 8) k (before l)) refl
      go (inr l) = rw (le-leb k i l) (word_bit is (i - k) (omega arith) ∙ here l (eqb (i % 8) k) refl)

  spread_bit : (w k m : ℕ) → spread_at bytes w k m ≤ 1
  spread_bit w k m = only_le (ltb (m % 8) k) (get_or bytes (64 * w + (8 * (m % 8) + m / 8)) 0) (small (64 * w + (8 * (m % 8) + m / 8)))

  spread_word : (w k : ℕ) → Word (pack (spread_at bytes w k) 64) (spread_at bytes w k) 64
  spread_word w k = record { is = refl; bit = spread_bit w k }

  -- eight bytes more
  pub spread_more : (w k : ℕ) → k < 8 → (x : ℕ) → x ≡ eight_bytes bytes (64 * w + 8 * k)
      → bit_or (pack (spread_at bytes w k) 64) (x * 2 ^ k % 2 ^ 64) ≡ pack (spread_at bytes w (k + 1)) 64
  spread_more w k h x e = (word_of (bit_or old new) 64 fits).is ∙ pack_cong _ _ 64 digit
    where
      old : ℕ
      old = pack (spread_at bytes w k) 64

      new : ℕ
      new = x * 2 ^ k % 2 ^ 64

      fits : bit_or old new < 2 ^ 64
      fits = or_lt 64 old new (pack_lt (spread_at bytes w k) (spread_bit w k) 64) (mod-lt (x * 2 ^ k) (pow_pos 64))

      place : (i : ℕ) → i % 8 ≡ k → 64 * w + 8 * k + i / 8 ≡ 64 * w + (8 * (i % 8) + i / 8)
      place i q = omega arith

      -- the bit of row k is new, those of the rows before it were there
      go : (i : ℕ) → (i % 8 < k) ⊎ (k ≤ i % 8) → bit_or (spread_at bytes w k i) (cond (eqb (i % 8) k) (get_or bytes (64 * w + 8 * k + i / 8) 0) 0) ≡ spread_at bytes w (k + 1) i
      go i (inl l) =
          rw (lt-ltb (i % 8) k l, lt-ltb (i % 8) (k + 1) (omega arith), ne_eqb (i % 8) k (λ q. omega arith))
          (or_zero_r (get_or bytes (64 * w + (8 * (i % 8) + i / 8)) 0))
      go i (inr l) = there (eq-or-lt_of_le l)
        where
          there : (k ≡ i % 8) ⊎ (k < i % 8) → bit_or (spread_at bytes w k i) (cond (eqb (i % 8) k) (get_or bytes (64 * w + 8 * k + i / 8) 0) 0) ≡ spread_at bytes w (k + 1) i
          there (inl q) =
              rw (le-ltb (i % 8) k l, lt-ltb (i % 8) (k + 1) (omega arith), eq-eqb (i % 8) k (sym q))
              (or_zero_l (get_or bytes (64 * w + 8 * k + i / 8) 0) ∙ ap (λ (n : ℕ). get_or bytes n 0) (place i (sym q)))
          there (inr g) = rw (le-ltb (i % 8) k l, le-ltb (i % 8) (k + 1) (omega arith), ne_eqb (i % 8) k (λ q. omega arith)) (or_zero_l 0)

      digit : (i : ℕ) → i < 64 → bit_or old new / 2 ^ i % 2 ≡ spread_at bytes w (k + 1) i
      digit i l =
          or_digit old new i
          ∙ ap₂ bit_or (word_bit (spread_word w k) i l) (late_digit (64 * w + 8 * k) x k i (eight_word (64 * w + 8 * k) x e) h l)
          ∙ go i (lt_or_ge (i % 8) k)

  -- all 64 bytes, with rows and columns exchanged
  pub spread_exchanged : (w y : ℕ) → y ≡ pack (spread_at bytes w 8) 64 → pack (λ (i : ℕ). y / 2 ^ (8 * (i % 8) + i / 8) % 2) 64 ≡ pack (λ (i : ℕ). get_or bytes (64 * w + i) 0) 64
  spread_exchanged w y e = pack_cong _ _ 64 digit
    where
      is : Word y (spread_at bytes w 8) 64
      is = record { is = e; bit = spread_bit w 8 }

      row : (i : ℕ) → i < 64 → (8 * (i % 8) + i / 8) % 8 < 8
      row i h = omega arith

      place : (i : ℕ) → i < 64 → 8 * ((8 * (i % 8) + i / 8) % 8) + (8 * (i % 8) + i / 8) / 8 ≡ i
      place i h = omega arith

      digit : (i : ℕ) → i < 64 → y / 2 ^ (8 * (i % 8) + i / 8) % 2 ≡ get_or bytes (64 * w + i) 0
      digit i h =
          word_bit is (8 * (i % 8) + i / 8) (omega arith)
          ∙ rw (lt-ltb ((8 * (i % 8) + i / 8) % 8) 8 (row i h)) (ap (λ (n : ℕ). get_or bytes (64 * w + n) 0) (place i h))
