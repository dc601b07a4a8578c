-- `is_good` meets its contract.
-- Assumes nothing.
use lib.Ieee.{of_bits, of_int}
use Rattle.laws.proofs.Tests.{and_fails, and_last}
use Rattle.ply.specs.Rows.{good_spacing}
use Rattle.ply.proofs.is_good.Goals as goal

pub returns-then-s : goal.returns-then-s
unfolding good_spacing of_bits of_int
returns-then-s c = and_last c.if-s.true

pub returns : goal.returns
unfolding good_spacing of_bits of_int
returns c = and_fails _ c.if-s.false
