-- The cubes of a word visited by its set bits: those skipped are not picked.
-- Assumes nothing.
use Prim.Native.Nat.{ℕ, ◌+◌, ◌-◌, ◌/◌, ◌%◌, ◌^◌, ◌≤◌, ◌<◌}
use mathlib.Core.Path.{◌≡◌, ap, sym, ◌∙◌}
use mathlib.Core.Bool.{true, cond}
use mathlib.Core.List.{List, [], ◌++◌}
use native.Mathlib.Omega.{arith}
use borrow.Author.Tests.{eq-eqb}
use lib.Count.{count_trailing_zeros}
use lib.Dec.{eqb}
use lib.ListN.{length}
use Rattle.laws.specs.Below.{below}
use Rattle.laws.specs.Bits.{holds}
use Rattle.laws.proofs.Below.{length-below}
use Rattle.laws.proofs.Visit.{Left, left_start, left_in, left_set, left_skip, left_end, below_none, below_one, below_skip}
use Rattle.laws.proofs.Words.{word_of}
use Rattle.rows.specs.Rows.{picked}

-- the bits of a word
abbrev pub bits_of : ℕ → ℕ → ℕ
bits_of act x = act / 2 ^ x % 2

pub visit_start : (act : ℕ) → act < 2 ^ 64 → Left (bits_of act) 64 0 act
visit_start act h = left_start (word_of act 64 h)

pub picked_set : {A : Type 0} (act : ℕ) (f : ℕ → List A) (x : ℕ) → holds act x ≡ true → picked act f x ≡ f x
picked_set act f x e = rw e

pub picked_unset : {A : Type 0} (act : ℕ) (f : ℕ → List A) (x : ℕ) → bits_of act x ≡ 0 → picked act f x ≡ []
picked_unset {A} act f x e = ap (λ (d : ℕ). cond (eqb d 1) (f x) []) e

module _ (act : ℕ) {i w : ℕ} (l : Left (bits_of act) 64 i w) where
  -- the lowest bit left is set
  pub visit_set : (w ≡ 0 → ⊥) → holds act (i + count_trailing_zeros 64 w) ≡ true
  visit_set ne = eq-eqb (bits_of act (i + count_trailing_zeros 64 w)) 1 (left_set l (omega arith) ne)

  pub visit_in : (w ≡ 0 → ⊥) → i + count_trailing_zeros 64 w < 64
  visit_in ne = left_in l ne

  module _ {A : Type 0} (f : ℕ → List A) where
    pub to_next : (w ≡ 0 → ⊥) → below (picked act f) (i + count_trailing_zeros 64 w) ≡ below (picked act f) i
    to_next ne =
        below_skip (picked act f) i (count_trailing_zeros 64 w) (λ j h. picked_unset act f (i + j) (left_skip l ne j h))

    pub picked_next : (w ≡ 0 → ⊥) → below (picked act f) (i + count_trailing_zeros 64 w + 1) ≡ below (picked act f) i ++ f (i + count_trailing_zeros 64 w)
    picked_next ne =
        below_one (picked act f) (i + count_trailing_zeros 64 w)
        ∙ ap (λ (b : List A). b ++ picked act f (i + count_trailing_zeros 64 w)) (to_next ne)
        ∙ ap (λ (b : List A). below (picked act f) i ++ b) (picked_set act f (i + count_trailing_zeros 64 w) (visit_set ne))

    pub picked_end : w ≡ 0 → below (picked act f) i ≡ below (picked act f) 64
    picked_end e =
        sym (below_skip (picked act f) i (64 - i) (λ j h. picked_unset act f (i + j) (left_end l e j h)))
        ∙ ap (below (picked act f)) (all l.in_n)
      where
        all : i ≤ 64 → i + (64 - i) ≡ 64
        all h = omega arith

    -- what is passed and the next are no more than all
    pub picked_room : (w ≡ 0 → ⊥) → length (below (picked act f) i) + length (f (i + count_trailing_zeros 64 w)) ≤ length (below (picked act f) 64)
    picked_room ne =
        omega (arith, ap length (to_next ne), ap length (picked_set act f (i + count_trailing_zeros 64 w) (visit_set ne)), length-below (picked act f) 64 (i + count_trailing_zeros 64 w) (visit_in ne))

pub nothing_visited : {A : Type 0} (act : ℕ) (f : ℕ → List A) → [] ≡ below (picked act f) 0
nothing_visited act f = sym (below_none (picked act f))

-- no bit, nothing picked
pub picked_none : {A : Type 0} (act : ℕ) (f : ℕ → List A) → act ≡ 0 → [] ≡ below (picked act f) 64
picked_none act f e = nothing_visited act f ∙ picked_end act (visit_start act (rw e (omega arith))) f e
