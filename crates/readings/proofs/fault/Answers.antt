-- `fault` meets its contract, by cases on the float.
-- Assumes nothing.
use lib.Ieee.{of_bits}
use Rattle.readings.proofs.Cases.{fault_none_said, fault_past, fault_before}
use Rattle.readings.proofs.fault.Goals as goal

pub returns-else-x-clause-value : goal.returns-else-x-clause-value
unfolding of_bits
returns-else-x-clause-value c = fault_before c.args.x c.if-x.false

pub returns-else-x-2-clause-value : goal.returns-else-x-2-clause-value
unfolding of_bits
returns-else-x-2-clause-value c = fault_past c.args.x c.requires c.if-x.true c.if-x-2.false

pub returns-then-x-2-clause-value : goal.returns-then-x-2-clause-value
unfolding of_bits
returns-then-x-2-clause-value c = fault_none_said c.args.x c.if-x.true c.if-x-2.true
