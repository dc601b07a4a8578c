-- The promises of `next`, `sound`, `closed` and `closed_with` fix their answers and the lent memory: any two outcomes that they allow are equal. With room enough
-- the last two answer the same.
-- Assumes nothing.
use mathlib.Core.Path.{◌≡◌, refl, ap, ap₂, sym, ◌∙◌}
use mathlib.Core.Bool.{Bool}
use mathlib.Core.List.{List, [], ◌∷◌}
use Prim.Native.Nat.{ℕ, ◌≤◌}
use native.Mathlib.Omega.{arith}
use lib.ListN.{length}
use borrow.Author.Tests.{le-leb}
use Rattle.laws.specs.Fixed.{Fixes}
use Rattle.laws.proofs.Fixed.{Injective, said_fixes, equation_fixes}
use Rattle.block.specs.declared.Checked.{Checked}
use Rattle.block.specs.declared.Checked.TheVariants.{Passes, Refuses}
use Rattle.block.specs.Answer.{in_order, judged}
use Rattle.block.specs.Rows.{room_row}
use Rattle.block.proofs.Rows.{unless_passes}
use Rattle.lists.specs.Rows.{length_row}
use Rattle.closed.specs.declared.Closure.{Closure}
use Rattle.closed.specs.declared.Closure.TheVariants.{Closed, Open, Refused}
use Rattle.closed.specs.Closed.{finding_of, said_closure, ClosedAnswered}
use Rattle.closed.specs.Chains.{words_needed, ClosedWith}
use Rattle.closed.specs.Steps.{next_place, sound_side}

pub next_fixed : (n : ℕ) → Fixes (λ (r : ℕ). r ≡ next_place n)
next_fixed n = equation_fixes (next_place n)

pub sound_fixed : (a b there back : ℕ) → Fixes (λ (r : Bool). r ≡ sound_side a b there back)
sound_fixed a b there back = equation_fixes (sound_side a b there back)

pub said_closure_injective : Injective said_closure
said_closure_injective Closed Closed e = refl
said_closure_injective Closed (Open q s) e = let z : ◌≡◌ {A = ℕ} 0 1 = cc in absurd (omega arith)
said_closure_injective Closed (Refused r) e = let z : ◌≡◌ {A = ℕ} 0 1 = cc in absurd (omega arith)
said_closure_injective (Open q s) Closed e = let z : ◌≡◌ {A = ℕ} 0 1 = cc in absurd (omega arith)
said_closure_injective (Open q s) (Open p t) e = cc
said_closure_injective (Open q s) (Refused r) e = let z : ◌≡◌ {A = ℕ} 0 1 = cc in absurd (omega arith)
said_closure_injective (Refused r) Closed e = let z : ◌≡◌ {A = ℕ} 0 1 = cc in absurd (omega arith)
said_closure_injective (Refused r) (Open q s) e = let z : ◌≡◌ {A = ℕ} 0 1 = cc in absurd (omega arith)
said_closure_injective (Refused r) (Refused q) e = cc

pub closed_fixed : (quads : List ℕ) → Fixes (ClosedAnswered quads)
closed_fixed quads = said_fixes said_closure _ said_closure_injective

-- ---- with lent memory

pub closed_with_fixed : (quads work : List ℕ) → Fixes (λ (x : Closure × List ℕ). ClosedWith quads work x.0 x.1)
closed_with_fixed quads work a b p q =
    ap₂ (λ (x : Closure) (y : List ℕ). (x, y)) (said_closure_injective a.0 b.0 (p.answer ∙ sym q.answer)) (p.chained ∙ sym q.chained)

-- a further row that passes
one_more : (k l : Checked) → l ≡ Passes → in_order (k ∷ []) ≡ in_order (k ∷ l ∷ [])
unfolding in_order
one_more Passes l e = rw e
one_more (Refuses x) l e = refl

-- with room enough it answers what `closed` answers
pub same_answer : (quads work work' : List ℕ) (r r' : Closure) → words_needed quads ≤ length work → ClosedAnswered quads r → ClosedWith quads work r' work' → r ≡ r'
same_answer quads work work' r r' room p q = said_closure_injective r r' (p ∙ ap (λ (k : Checked). judged k (finding_of quads)) (one_more (length_row quads) (room_row (words_needed quads) (length work)) (sym (unless_passes _ 15 _ (le-leb (words_needed quads) (length work) room)))) ∙ sym q.answer)
