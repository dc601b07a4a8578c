-- `chain_sides` meets its contract: the sides from m on are chained.
-- Assumes nothing.
use Rattle.closed_with.specs.Steps.{Chained}
use Rattle.closed_with.proofs.chain_sides.Given as goal

abbrev pub invariant-loop-m : goal.invariant-loop-m
invariant-loop-m l = Chained l.quads l.top l.m l.initial.work l.work
