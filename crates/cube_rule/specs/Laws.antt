-- All that the layers above ask of the loops of a cube, whatever decides its faces. `loops_of cut corners` are the masks, in order.
-- Assumes nothing.
use Rattle.std.specs.Prelude.{ℕ, ◌≤◌, ◌<◌, ◌≡◌, Bool, true, length}
use mathlib.Core.List.{List, [], ◌∷◌, Memᴰ}
use Rattle.std.specs.Int.Count.{ones}
use Rattle.laws.specs.Bits.{bit, holds}
use Rattle.block.specs.declared.Cut.{Cut}
use Rattle.block.specs.Grey.{positive}
use Rattle.cube_rule.specs.Edges.{corner_sample, pattern_of, crossed_mask, crossed_at}
use Rattle.cube_rule.specs.Faces.{ring_edge}
use Rattle.cube_rule.specs.Links.{Decider, linked_at}
use Rattle.cube_rule.specs.Rule.{holders, first_holder}
use Rattle.cube_rule.specs.Plain.{mixed, plain}

pub record CubeLaws (D : Decider) (loops_of : Cut → List ℕ → List ℕ) : Type 0 where
  -- an edge of the cube is in exactly one loop if it is crossed, else in none
  pub each : (cut : Cut) (cs : List ℕ) (e : ℕ) → e < 12 → holders e (loops_of cut cs) ≡ bit (crossed_at cut cs e)
  -- two edges that a face links are in the same loop
  pub linked : (cut : Cut) (cs : List ℕ) (f i k : ℕ) → f < 6 → i < 4 → k < 4 → linked_at D cut cs f i k ≡ true
      → first_holder (ring_edge f i) (loops_of cut cs) ≡ first_holder (ring_edge f k) (loops_of cut cs)
  -- a loop has 3 to 12 edges
  pub sized : (cut : Cut) (cs : List ℕ) (m : ℕ) → Memᴰ m (loops_of cut cs) → (3 ≤ ones m) × (ones m ≤ 12) × (m < 4096)
  -- at most four loops
  pub four : (cut : Cut) (cs : List ℕ) → length (loops_of cut cs) ≤ 4
  -- equal signs: no loop
  pub quiet : (cut : Cut) (cs : List ℕ) (s : Bool) → ((c : ℕ) → c < 8 → positive cut (corner_sample cs c) ≡ s) → loops_of cut cs ≡ []
  -- mixed signs: a loop
  pub some : (cut : Cut) (cs : List ℕ) → mixed (holds (pattern_of cut cs)) ≡ true → 0 < length (loops_of cut cs)
  -- a plain cube: one loop, the mask itself
  pub single : (cut : Cut) (cs : List ℕ) → plain (holds (pattern_of cut cs)) ≡ true → loops_of cut cs ≡ crossed_mask (pattern_of cut cs) ∷ []
