-- The places of a word that count: the words that have them, and what a word under such a mask keeps.
-- Assumes nothing.
use mathlib.Core.Path.{◌≡◌, sym, ap, ap₂, ◌∙◌}
use mathlib.Core.Logic.{◌⊎◌, inl, inr}
use mathlib.Core.Bool.{Bool, true, false, false≢true, ◌&&◌, and_comm}
use Prim.Native.Nat.{ℕ, ◌+◌, ◌-◌, ◌*◌, ◌/◌, ◌%◌, ◌^◌, ◌≤◌, ◌<◌}
use native.Mathlib.Omega.{arith}
use borrow.Author.Tests.{lt-ltb, le-ltb, ltb-true}
use lib.Bits.{bit_and}
use lib.Dec.{ltb}
use Rattle.laws.specs.Bits.{bit}
use Rattle.laws.specs.Pack.{pack}
use Rattle.laws.proofs.Pack.{pack_cong, pack_full, pack_more}
use Rattle.laws.proofs.Tests.{lt_or_ge}
use Rattle.laws.proofs.Words.{Word, word_tests, word_under, word_masked, mask_keeps, mask_clears}
use Rattle.mesh_rule.specs.Grid.{between}
use Rattle.planes.specs.Planes.{limit_of, inner_of}

-- ---- the masks

-- the m lowest places are those below n
pub limit_part : (n w m : ℕ) → m ≤ 64 → ((i : ℕ) → i < m → 64 * w + i < n) → ((i : ℕ) → m ≤ i → i < 64 → n ≤ 64 * w + i)
    → 2 ^ m - 1 ≡ limit_of n w
limit_part n w m h ins out =
    sym (pack_full f m (λ i a. ap bit (lt-ltb (64 * w + i) n (ins i a))))
    ∙ sym (pack_more f m (64 - m) (λ i a b. ap bit (le-ltb (64 * w + i) n (out i a (omega arith)))))
    ∙ ap (pack f) all
  where
    f : ℕ → ℕ
    f = λ i. bit (ltb (64 * w + i) n)

    all : m + (64 - m) ≡ 64
    all = omega arith

-- the places before the last have a next one
pub below_last : (x n : ℕ) → ltb x (n - 1) ≡ ltb (x + 1) n
below_last x n = go (lt_or_ge (x + 1) n)
  where
    go : (x + 1 < n) ⊎ (n ≤ x + 1) → ltb x (n - 1) ≡ ltb (x + 1) n
    go (inl l) = lt-ltb x (n - 1) (omega arith) ∙ sym (lt-ltb (x + 1) n l)
    go (inr g) = le-ltb x (n - 1) (omega arith) ∙ sym (le-ltb (x + 1) n g)

-- the first word has the first place, which is not inner
pub inner_first : (nx : ℕ) → bit_and (limit_of (nx - 1) 0) 18446744073709551614 ≡ inner_of nx 0
unfolding pack
inner_first nx =
    (word_under (λ i. ltb (64 * 0 + i) (nx - 1)) (λ i. ltb 0 i) (word_tests (λ i. ltb (64 * 0 + i) (nx - 1)) 64)).is
    ∙ pack_cong _ _ 64 (λ i h. ap bit (same i))
  where
    place : (i : ℕ) → i ≡ 64 * 0 + i
    place i = omega arith

    same : (i : ℕ) → ltb (64 * 0 + i) (nx - 1) && ltb 0 i ≡ between nx (64 * 0 + i)
    same i =
        and_comm (ltb (64 * 0 + i) (nx - 1)) (ltb 0 i)
        ∙ ap₂ (λ (a b : Bool). a && b) (ap (ltb 0) (place i)) (below_last (64 * 0 + i) nx)

-- the others do not
pub inner_other : (nx w : ℕ) → (w ≡ 0 → ⊥) → limit_of (nx - 1) w ≡ inner_of nx w
inner_other nx w ne =
    pack_cong _ _ 64
    (λ i h. ap bit (below_last (64 * w + i) nx ∙ ap (λ (a : Bool). a && ltb (64 * w + i + 1) nx) (sym (lt-ltb 0 (64 * w + i) (omega arith)))))

-- ---- a word under a mask

-- the bits inside are kept, and the others cleared
module _ (a n w i : ℕ) (h : i < 64) where
  pub limit_keeps : 64 * w + i < n → bit_and a (limit_of n w) / 2 ^ i % 2 ≡ a / 2 ^ i % 2
  limit_keeps l = mask_keeps (λ i. ltb (64 * w + i) n) 64 a i h (lt-ltb (64 * w + i) n l)

  pub limit_clears : n ≤ 64 * w + i → bit_and a (limit_of n w) / 2 ^ i % 2 ≡ 0
  limit_clears g = mask_clears (λ i. ltb (64 * w + i) n) 64 a i h (le-ltb (64 * w + i) n g)

  pub inner_clears : between n (64 * w + i) ≡ false → bit_and a (inner_of n w) / 2 ^ i % 2 ≡ 0
  inner_clears e = mask_clears (λ i. between n (64 * w + i)) 64 a i h e

-- the same of whole words
module _ {a : ℕ} {f : ℕ → ℕ} (p : ℕ → Bool) (x : Word a f 64) (n w : ℕ) where
  pub word_limited : ((i : ℕ) → i < 64 → 64 * w + i < n → f i ≡ bit (p i))
      → Word (bit_and a (limit_of n w)) (λ i. bit (ltb (64 * w + i) n && p i)) 64
  word_limited e = word_masked (λ i. ltb (64 * w + i) n) p x (λ i h t. e i h (ltb-true (64 * w + i) n t))

  pub word_inner : ((i : ℕ) → i < 64 → between n (64 * w + i) ≡ true → f i ≡ bit (p i))
      → Word (bit_and a (inner_of n w)) (λ i. bit (between n (64 * w + i) && p i)) 64
  word_inner e = word_masked (λ i. between n (64 * w + i)) p x e

-- no place past the end is inner
pub not_between : (n x : ℕ) → n ≤ x + 1 → between n x ≡ false
not_between n x h = and_comm (ltb 0 x) (ltb (x + 1) n) ∙ ap (λ (b : Bool). b && ltb 0 x) (le-ltb (x + 1) n h)

-- an inner place has a neighbour on either side
pub inner_in : (n x : ℕ) → between n x ≡ true → (0 < x) × (x + 1 < n)
inner_in n x t = go (lt_or_ge 0 x) (lt_or_ge (x + 1) n)
  where
    none : {A : Type 0} → between n x ≡ false → A
    none e = absurd (false≢true (sym e ∙ t))

    go : (0 < x) ⊎ (x ≤ 0) → (x + 1 < n) ⊎ (n ≤ x + 1) → (0 < x) × (x + 1 < n)
    go (inl p) (inl q) = (p, q)
    go (inl p) (inr q) = none (not_between n x q)
    go (inr p) r = none (ap (λ (b : Bool). b && ltb (x + 1) n) (le-ltb 0 x p))
