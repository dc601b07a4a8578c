-- The place of a word among those of a cube's loops, as the code finds it: nothing is linked where at most five edges are crossed.
-- Assumes nothing.
use Rattle.std.proofs.Common.{◌≡◌, ℕ, ◌-◌, ◌≤◌, ◌<◌, Bool, true, false, cond, eqb, List, [], ◌∷◌, refl, ◌⊎◌, inl, inr, arith}
use Rattle.std.specs.Bool.{then_some}
use native.Mathlib.Nat.{eq-zero-or-pos}
use lib.Count.{ones}
use borrow.Author.Tests.{ne_eqb, lt-leb}
use Rattle.laws.specs.Filled.{filled}
use Rattle.block.specs.declared.Cut.{Cut}
use Rattle.cube_rule.specs.Decider.{loops_of}
use Rattle.cube_rule.specs.Edges.{pattern_of, crossed_mask}
use Rattle.cell.specs.Answer.{mark_of}
use Rattle.foundry_rule.specs.Spots.{word_place}
use Rattle.foundry_rule.proofs.ByMask.{few_edges, quiet_loops}
use Rattle.foundry_vertices.specs.Steps.{IsPlace}

module _ (cut : Cut) (corners : List ℕ) where
  abbrev all : ℕ
  all = crossed_mask (pattern_of cut corners)

  -- at most five crossed edges are one loop or none
  few_four : ones all ≤ 5 → filled 4 0 (loops_of cut corners) ≡ all ∷ 0 ∷ 0 ∷ 0 ∷ []
  unfolding filled
  few_four f = go (eq-zero-or-pos all)
    where
      go : (all ≡ 0) ⊎ (0 < all) → filled 4 0 (loops_of cut corners) ≡ all ∷ 0 ∷ 0 ∷ 0 ∷ []
      go (inl z) = rw (quiet_loops cut corners z, z)
      go (inr p) = rw (few_edges cut corners f p)

  -- by the mark k and the crossed edges x, as they were found
  pub found_few : (w k x : ℕ) → k ≡ mark_of corners → x ≡ all → k < w → ones x ≤ 5 → IsPlace (word_place cut corners w) (then_some (eqb (w - k) x) 0)
  unfolding word_place
  found_few w k x m e h f = rw (lt-leb w (mark_of corners) (rw m at h), few_four (rw e at f), e, m) (single (eqb (w - mark_of corners) all))
    where
      d : ℕ
      d = w - mark_of corners

      single : (b : Bool) → IsPlace (cond b 0 (cond (eqb d 0) 1 (cond (eqb d 0) 2 (cond (eqb d 0) 3 4)))) (then_some b 0)
      single true = (refl, omega arith)
      single false = rw (ne_eqb d 0 (λ z. omega (arith, z, h, m)))
