-- `join_all` meets its contract: the first q quads are joined.
-- Assumes nothing.
use mathlib.Core.Path.{◌≡◌}
use Prim.Native.Nat.{◌/◌, ◌-◌, ◌≤◌}
use lib.ListN.{length}
use Rattle.trees.specs.Forest.{after}
use Rattle.trees.specs.Steps.{stored}
use Rattle.pieces.proofs.join_all.Given as goal

abbrev pub invariant-loop-q : goal.invariant-loop-q
invariant-loop-q l = (l.q ≤ l.all) × (l.all ≡ length l.quads / 4) × (length l.up ≡ length l.initial.up) × (length l.size ≡ length l.initial.size) × (stored l.up l.size l.longest ≡ after (length l.initial.up) l.quads l.q)

abbrev pub decreases-loop-q : goal.decreases-loop-q
decreases-loop-q l = l.all - l.q
