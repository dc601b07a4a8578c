-- `in_unit` meets its contract.
-- Assumes nothing.
use lib.Ieee.{of_bits, le}
use Rattle.laws.proofs.Tests.{and_fails, and_last}
use Rattle.place.specs.Place.{one}
use Rattle.vertex_lists.specs.Rows.{from_zero_to_one}
use Rattle.vertex_lists.proofs.in_unit.Goals as goal

pub returns-then-x : goal.returns-then-x
unfolding from_zero_to_one of_bits
returns-then-x c = and_last {b = le c.args.x one} c.if-x.true

pub returns : goal.returns
unfolding from_zero_to_one of_bits
returns c = and_fails _ c.if-x.false
