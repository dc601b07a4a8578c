-- The head line's last field, from what the closed question answers of a list whose length is a multiple of 4.
-- Assumes nothing.
use Prim.Native.Nat.{ℕ, ◌%◌}
use mathlib.Core.Path.{◌≡◌, refl, subst}
use mathlib.Core.List.{List, [], ◌∷◌}
use native.Mathlib.Omega.{arith}
use lib.ListN.{length}
use borrow.Author.Tests.{eq-eqb}
use Rattle.block.specs.declared.Refusal.{Refusal}
use Rattle.block.specs.declared.Checked.{Checked}
use Rattle.block.specs.declared.Checked.TheVariants.{Passes}
use Rattle.block.specs.Answer.{Answer, accepted, refused, in_order, judged, decided}
use Rattle.closed.specs.declared.Closure.{Closure}
use Rattle.closed.specs.declared.Closure.TheVariants.{Closed, Open, Refused}
use Rattle.closed.specs.Closed.{Finding, all_sound, open_at, finding_of, said_closure, ClosedAnswered}
use Rattle.lists.specs.Rows.{length_row}
use Rattle.lines.specs.Output.{closed_field}

module _ (quads : List ℕ) (four : length quads % 4 ≡ 0) where
  -- such a list is not refused
  said_finding : (r : Closure) → ClosedAnswered quads r → said_closure r ≡ accepted (finding_of quads)
  unfolding in_order decided
  said_finding r e = subst (λ (k : Checked). said_closure r ≡ judged (in_order (k ∷ [])) (finding_of quads)) passes e
    where
      passes : length_row quads ≡ Passes
      passes = rw (eq-eqb (length quads % 4) 0 four)

  pub field_closed : (r : Closure) → ClosedAnswered quads r → r ≡ Closed → 1 ≡ closed_field (finding_of quads)
  field_closed r e h = go (finding_of quads) (rw h at (said_finding r e))
    where
      go : (f : Finding) → accepted all_sound ≡ accepted f → 1 ≡ closed_field f
      go all_sound d = refl
      go (open_at q s) d = let z : ◌≡◌ {A = ℕ} 0 1 = cc in absurd (omega arith)

  pub field_open : (r : Closure) (q s : ℕ) → ClosedAnswered quads r → r ≡ Open q s → 0 ≡ closed_field (finding_of quads)
  field_open r q s e h = go (finding_of quads) (rw h at (said_finding r e))
    where
      go : (f : Finding) → accepted (open_at q s) ≡ accepted f → 0 ≡ closed_field f
      go all_sound d = let z : ◌≡◌ {A = ℕ} 0 1 = cc in absurd (omega arith)
      go (open_at q' s') d = refl

  pub field_refused : (r : Closure) (x : Refusal) → ClosedAnswered quads r → r ≡ Refused x → 0 ≡ closed_field (finding_of quads)
  field_refused r x e h = absurd (clash (rw h at (said_finding r e)))
    where
      clash : ◌≡◌ {A = Answer Finding} (refused x) (accepted (finding_of quads)) → ⊥
      clash d = let z : ◌≡◌ {A = ℕ} 0 1 = cc in omega arith
