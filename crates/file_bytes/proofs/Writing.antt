-- A text copied byte by byte, and a number put from its last digit to its first.
-- Assumes nothing.
use Prim.Native.Nat.{ℕ, suc, ◌+◌, ◌-◌, ◌/◌, ◌%◌, ◌≤◌, ◌<◌}
use mathlib.Core.Path.{◌≡◌, refl, ap, sym, ◌∙◌}
use mathlib.Core.Logic.{◌⊎◌, inl, inr}
use mathlib.Core.List.{List, [], ◌∷◌, ◌++◌, append_assoc, append-nil}
use native.Mathlib.Numerals.{add-one}
use native.Mathlib.Omega.{arith}
use lib.ListN.{length, get_or, set, take, length-append}
use lib.Seq.{sets, take-suc, take_all, length-take-le}
use Rattle.laws.specs.Put.{Put}
use Rattle.laws.proofs.Stores.{sets_append, set-sets}
use Rattle.laws.proofs.Puts.{put_one, put_then, put_as}
use Rattle.laws.proofs.Tests.{lt_or_ge}
use Rattle.file_bytes.specs.Bytes.{digit, decimal, little_endian}
use Rattle.file_bytes.proofs.Decimal.{decimal_small, decimal_large, length_small, length_large, length_some}
use Rattle.file_bytes.proofs.Little.{little_one, little_four, little_eight}

-- ---- a text

pub copy_more : (out₀ out text : List ℕ) (at i : ℕ) → out ≡ sets out₀ at (take i text) → i < length text → set out (at + i) (get_or text i 0) ≡ sets out₀ at (take (i + 1) text)
copy_more out₀ out text at i e h =
    rw (e, add-one i, take-suc text i 0 h)
    (ap (λ (k : ℕ). set (sets out₀ at (take i text)) (at + k) (get_or text i 0)) (sym (length-take-le i text (omega arith)))
    ∙ sets_append out₀ at (take i text) (get_or text i 0 ∷ []))

pub copy_all : (out₀ out text : List ℕ) (at i : ℕ) → out ≡ sets out₀ at (take i text) → i ≡ length text → Put out₀ at text out (at + i)
copy_all out₀ out text at i e f = record { stored = e ∙ ap (sets out₀ at) (take_all i text (omega arith)); behind = omega arith }

-- ---- a number, from behind

module _ (out₀ : List ℕ) (at n : ℕ) where
  -- the digits behind those of `left` are put, from `next` on
  pub record DigitsBehind (out : List ℕ) (next left : ℕ) : Type 0 where
    pub behind : List ℕ
    pub stored : out ≡ sets out₀ next behind
    pub whole : decimal left ++ behind ≡ decimal n
    pub place : next ≡ at + length (decimal left)

  -- some are left, or all are put
  abbrev pub PutDown : List ℕ → ℕ → ℕ → Type 0
  PutDown out next left = DigitsBehind out next left ⊎ ((next ≡ at) × (out ≡ sets out₀ at (decimal n)))

  pub down_start : (next : ℕ) → next ≡ at + length (decimal n) → PutDown out₀ next n
  down_start next e = inl (record { behind = []; stored = refl; whole = append-nil (decimal n); place = e })

  -- one digit more
  pub down_more : (out : List ℕ) (next left b : ℕ) → b ≡ digit (left % 10) → (next ≡ at → ⊥) → PutDown out next left → PutDown (set out (next - 1) b) (next - 1) (left / 10)
  down_more out next left b is some (inr d) = absurd (some d.0)
  down_more out next left b is some (inl d) = rw is (go (lt_or_ge left 10))
    where
      here : (rest : ℕ) → next ≡ suc rest → set out rest (digit (left % 10)) ≡ sets out₀ rest (digit (left % 10) ∷ d.behind)
      here rest e = rw (d.stored, e) (set-sets out₀ rest (suc rest) (digit (left % 10)) d.behind (omega arith))

      go : (left < 10) ⊎ (10 ≤ left) → PutDown (set out (next - 1) (digit (left % 10))) (next - 1) (left / 10)
      go (inl l) =
          let one : next ≡ suc at = omega (arith, d.place, length_small left l) in
          let low : next - 1 ≡ at = omega (arith, one) in
          inr (low, rw low (here at one ∙ ap (sets out₀ at) (rw (decimal_small left l) at d.whole)))
      go (inr g) =
          let up : next ≡ suc (at + length (decimal (left / 10))) = omega (arith, d.place, length_large left g) in
          let low : next - 1 ≡ at + length (decimal (left / 10)) = omega (arith, up) in
          inl (record {
            behind = digit (left % 10) ∷ d.behind;
            stored = rw low (here (at + length (decimal (left / 10))) up);
            whole = sym (append_assoc (decimal (left / 10)) (digit (left % 10) ∷ []) d.behind) ∙ rw (decimal_large left g) at d.whole;
            place = low;
          })

  pub down_end : (out : List ℕ) (next left : ℕ) → next ≡ at → PutDown out next left → out ≡ sets out₀ at (decimal n)
  down_end out next left e (inr d) = d.1
  down_end out next left e (inl d) = absurd (omega (arith, e, d.place, length_some left))

  -- where there is room for the number, there is room for its digits
  pub down_inside : (out : List ℕ) (next left : ℕ) → PutDown out next left → (at ≤ next) × (next ≤ at + length (decimal n))
  down_inside out next left (inr d) = (omega (arith, d.0), omega (arith, d.0))
  down_inside out next left (inl d) =
      (omega (arith, d.place), omega (arith, d.place, length-append (decimal left) d.behind, ap length d.whole))

-- ---- bytes

pub one_put : (out : List ℕ) (at v : ℕ) → v < 256 → Put out at (little_endian 1 v) (set out at v) (at + 1)
one_put out at v h = put_as (little_one v h) (put_one out at v)

-- four bytes one behind the other
four_stored : (out : List ℕ) (at p q r a b c d : ℕ) → p ≡ suc at → q ≡ suc (suc at) → r ≡ suc (suc (suc at))
    → set (set (set (set out at a) p b) q c) r d ≡ sets out at (a ∷ b ∷ c ∷ d ∷ [])
four_stored out at p q r a b c d e f g = rw (e, f, g)

pub four_put : (out : List ℕ) (at v a b c d : ℕ) → v < 4294967296 → a ≡ v % 256 → b ≡ v / 256 % 256 → c ≡ v / 65536 % 256 → d ≡ v / 16777216
    → Put out at (little_endian 4 v) (set (set (set (set out at a) (at + 1) b) (at + 2) c) (at + 3) d) (at + 4)
four_put out at v a b c d h e f g i =
    rw (e, f, g, i) (put_as (little_four v h) (record { stored = four_stored out at (at + 1) (at + 2) (at + 3) _ _ _ _ (omega arith) (omega arith) (omega arith); behind = refl }))

-- the lower four and then the upper four
pub eight_put : {out mid after : List ℕ} {at middle next : ℕ} (v : ℕ) → Put out at (little_endian 4 (v % 4294967296)) mid middle → Put mid middle (little_endian 4 (v / 4294967296)) after next
    → Put out at (little_endian 8 v) after next
eight_put v p q = put_as (little_eight v) (put_then (little_endian 4 (v / 4294967296)) p q)
