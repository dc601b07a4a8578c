-- `finish` meets its promise.
-- Assumes nothing.
use Rattle.std.proofs.Common.{arith}
use Rattle.by_planes.proofs.Rows.{end_early, end_given}
use Rattle.by_planes.proofs.finish.Goals as goal

pub returns-then-stream : goal.returns-then-stream
returns-then-stream c = end_early c.args.stream (omega (arith, c.struct_known-1.given)) c.if-stream.true

pub returns : goal.returns
returns c = end_given c.args.stream (omega (arith, c.if-stream.false))
