-- A row without an active cube: no word of it has one, and no cube of it has a loop, whatever the loops of a cube are. Assumes nothing.
use Prim.Native.Nat.{ℕ, zero, suc, ◌+◌, ◌*◌, ◌-◌, ◌/◌, ◌%◌, ◌^◌, ◌≤◌, ◌<◌}
use mathlib.Core.Path.{◌≡◌, refl, ap, sym, ◌∙◌}
use mathlib.Core.Logic.{⊎_elim}
use mathlib.Core.Bool.{Bool, true, false, ◌&&◌, and_assoc}
use mathlib.Core.List.{List, []}
use native.Mathlib.Nat.{eq-or-lt_of_le, zero-div, zero-add, add-zero}
use native.Mathlib.Numerals.{add-one}
use native.Mathlib.Omega.{arith}
use borrow.Author.Tests.{eqb-true}
use lib.Dec.{eqb}
use Rattle.std.specs.List.{list_all, range_with_len}
use Rattle.std.proofs.lemmas.Grind.{common_steps}
use Rattle.laws.specs.Below.{below}
use Rattle.laws.proofs.Tests.{and_both}
use Rattle.laws.proofs.Visit.{below_skip, below_none}
use Rattle.block.specs.declared.Cut.{Cut}
use Rattle.cube_rule.specs.Laws.{CubeLaws}
use Rattle.cube_rule.specs.Links.{Decider}
use Rattle.planes.specs.Planes.{eight_of, active_of}
use Rattle.planes.proofs.Masks.{limit_keeps}
use Rattle.rows.specs.Quiet.{active_in, words_in_row, every, quiet_row}
use Rattle.rows.specs.Rows.{loops_at, RowReady}
use Rattle.rows.proofs.Words.{quiet}

-- a word of zero has no bit
no_bit : {d : ℕ} → d ≡ 0 → (i : ℕ) → d / 2 ^ i % 2 ≡ 0
no_bit e i = rw (e, zero-div (2 ^ i))

-- ---- a test of every number below n, one by one

module _ (f : ℕ → Bool) where
  pub every_start : true ≡ every f 0
  unfolding every
  every_start = refl

  -- it holds of one more
  pub every_more : (n : ℕ) → true ≡ every f n → f n ≡ true → true ≡ every f (n + 1)
  unfolding every
  every_more n q e = rw (add-one, ← q, e)

  -- it fails of one
  pub every_not : (m n : ℕ) → f m ≡ false → m < n → false ≡ every f n
  unfolding every
  every_not m zero e l = absurd (omega arith)
  every_not m (suc n) e l =
      ⊎_elim (λ (d : m ≡ n). sym (ap (λ (p : Bool). every f n && p) (ap f (sym d) ∙ e) ∙ no (every f n))) (λ (h : m < n). ap (λ (p : Bool). p && f n) (every_not m n e h)) (eq-or-lt_of_le (under l))
    where
      under : m < suc n → m ≤ n
      under h = omega arith

      no : (p : Bool) → (p && false) ≡ false
      no true = refl
      no false = refl

  -- as it is found, from the number a on
  every_from : (a n : ℕ) → every f a && list_all f (range_with_len a n) ≡ every f (a + n)
  unfolding every
  every_from a zero = rw add-zero (grind (arith, common_steps))
  every_from a (suc n) =
      let next : every f a && f a ≡ every f (a + 1) = rw add-one refl in
      let place : a + 1 + n ≡ a + suc n = omega arith in
      sym (and_assoc (every f a) (f a) _) ∙ ap (λ (p : Bool). p && list_all f (range_with_len (a + 1) n)) next ∙ every_from (a + 1) n ∙ ap (every f) place

  pub every_found : (n : ℕ) → list_all f (range_with_len 0 n) ≡ every f n
  unfolding every
  every_found n = every_from 0 n ∙ ap (every f) (zero-add n)

  -- it holds of each
  pub every_at : (n m : ℕ) → every f n ≡ true → m < n → f m ≡ true
  unfolding every
  every_at zero m q l = absurd (omega arith)
  every_at (suc n) m q l = ⊎_elim (λ (d : m ≡ n). ap f d ∙ (and_both (every f n) (f n) q).1) (λ (h : m < n). every_at n m (and_both (every f n) (f n) q).0 h) (eq-or-lt_of_le (under l))
    where
      under : m < suc n → m ≤ n
      under h = omega arith

-- ---- a row without an active cube

-- no word has one
pub quiet_word : (a b : List ℕ) (nx j w : ℕ) → quiet_row a b nx j ≡ true → w < words_in_row nx → active_in a b nx j w ≡ 0
quiet_word a b nx j w q l = eqb-true (active_in a b nx j w) 0 (every_at (λ (w : ℕ). eqb (active_in a b nx j w) 0) (words_in_row nx) w q l)

module _ (a b : List ℕ) (nx j : ℕ) where
  -- the cube 64 w + i of the row is not active
  pub quiet_bit : quiet_row a b nx j ≡ true → (w i : ℕ) → i < 64 → 64 * w + i < nx - 1 → active_of (eight_of a b (5 * j + w)) / 2 ^ i % 2 ≡ 0
  quiet_bit q w i h l = sym (limit_keeps (active_of (eight_of a b (5 * j + w))) (nx - 1) w i h l) ∙ no_bit (quiet_word a b nx j w q (omega arith)) i

-- no cube of it has a loop
module _ {D : Decider} {loops_of : Cut → List ℕ → List ℕ} (laws : CubeLaws D loops_of) {lo hi : List ℕ} {cut : Cut} {a b : List ℕ} {nx j : ℕ} (ready : RowReady lo hi cut a b nx j)
    (q : quiet_row a b nx j ≡ true) where
  pub quiet_loops : (x : ℕ) → x < nx - 1 → loops_at loops_of lo hi cut nx x ≡ []
  quiet_loops x l =
      let w = x / 64 in
      let i = x % 64 in
      let place : 64 * w + i ≡ x = omega arith in
      ap (loops_at loops_of lo hi cut nx) (sym place)
      ∙ quiet laws ready w (omega (arith, ready.long)) i (omega arith) (omega arith) (no_bit (quiet_word a b nx j w q (omega arith)) i)

  -- so nothing that hangs on its loops
  pub quiet_all : {A : Type 0} (give : ℕ → List A) → ((x : ℕ) → loops_at loops_of lo hi cut nx x ≡ [] → give x ≡ []) → below give (nx - 1) ≡ []
  quiet_all give none = ap (below give) (sym (zero-add (nx - 1))) ∙ below_skip give 0 (nx - 1) (λ x l. ap give (zero-add x) ∙ none x (quiet_loops x l)) ∙ below_none give
