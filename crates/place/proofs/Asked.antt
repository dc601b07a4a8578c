-- The edge question answers its fraction at a crossed edge of a cube, by a threshold that row 3 passes.
-- Assumes nothing.
use mathlib.Core.Path.{◌≡◌, refl, sym, ap, ◌∙◌}
use mathlib.Core.Bool.{Bool, true, false, cond}
use mathlib.Core.List.{List}
use Prim.Native.Nat.{ℕ}
use Rattle.block.specs.declared.Checked.TheVariants.{Passes}
use Rattle.block.specs.declared.Cut.{Cut}
use Rattle.block.specs.Answer.{refuses}
use Rattle.block.specs.Grey.{no_threshold}
use Rattle.block.specs.Rows.{threshold_row}
use Rattle.block.proofs.Order.{passes_refuses}
use Rattle.cube_rule.specs.Edges.{lower, upper, corner_sample}
use Rattle.place.specs.declared.Crossing.{Crossing}
use Rattle.place.specs.declared.Crossing.TheVariants.{At}
use Rattle.place.specs.Crossing.{edge_answer, EdgeAnswered}
use Rattle.place.specs.Place.{fraction_at}
use Rattle.place.specs.Steps.{Fractional}
use Rattle.place.proofs.Answers.{edge_answers_fraction}
use Rattle.place.proofs.Fixed.{said_edge_injective}

-- row 3 passes the threshold
pub passed_threshold : (cut : Cut) → threshold_row cut ≡ Passes → no_threshold cut ≡ false
passed_threshold cut = go (no_threshold cut)
  where
    go : (b : Bool) → cond b (refuses 3 cut.t) Passes ≡ Passes → b ≡ false
    go true h = absurd (passes_refuses (sym h))
    go false h = refl

module _ (cut : Cut) (corners : List ℕ) (e : ℕ) (asked : Fractional cut corners e) where
  -- the promise of `edge`, asked at the edge's ends, leaves one answer
  pub edge_at : (l u : ℕ) → l ≡ lower e → u ≡ upper e → (r : Crossing) → EdgeAnswered (corner_sample corners l) (corner_sample corners u) cut.t r
      → r ≡ At (fraction_at cut corners e)
  unfolding fraction_at
  edge_at l u is-lower is-upper r said =
      said_edge_injective r (At (fraction_at cut corners e))
      (said
      ∙ ap (λ (c : ℕ). edge_answer (corner_sample corners c) (corner_sample corners u) cut.t) is-lower
      ∙ ap (λ (c : ℕ). edge_answer (corner_sample corners (lower e)) (corner_sample corners c) cut.t) is-upper
      ∙ edge_answers_fraction (corner_sample corners (lower e)) (corner_sample corners (upper e)) cut.t
      (passed_threshold cut asked.threshold)
      asked.crossed)
