-- A list with one element set, as a function from vertices.
-- Assumes nothing.
use Prim.Native.Nat.{ℕ, ◌<◌}
use mathlib.Core.Path.{◌≡◌, refl, ap, ◌∙◌}
use mathlib.Core.Bool.{Bool, true, false, cond}
use mathlib.Core.List.{List}
use lib.Dec.{eqb}
use lib.ListN.{length, get_or, set}
use borrow.Author.Tests.{eqb-true, eqb-false}
use lib.Seq.{get_or-set_same, get_or-set_other}
use Rattle.trees.specs.Forest.{at}

-- a list with one element set, as a function
pub set_as : (l : List ℕ) (i x : ℕ) → i < length l → ◌≡◌ {A = ℕ → ℕ} (at (set l i x)) (λ v. cond (eqb v i) x (at l v))
set_as l i x h = λ p v. here v p
  where
    go : (v : ℕ) (b : Bool) → eqb v i ≡ b → get_or (set l i x) v 0 ≡ cond b x (get_or l v 0)
    go v true e = ap (λ (j : ℕ). get_or (set l i x) j 0) (eqb-true v i e) ∙ get_or-set_same l i x 0 h
    go v false e = get_or-set_other l i v x 0 (eqb-false v i e)

    here : (v : ℕ) → get_or (set l i x) v 0 ≡ cond (eqb v i) x (get_or l v 0)
    here v = go v (eqb v i) refl
