-- `row_bytes` meets its contract: no byte is written at first, and none is 1.
-- Assumes nothing.
use Rattle.std.proofs.Common.{refl}
use Rattle.signs.proofs.Rows.{bytes_none}
use Rattle.signs.proofs.row_bytes.Goals as goal

pub loop-i-init : goal.loop-i-init
loop-i-init g c = record { long = refl; signs = bytes_none _ c.args.t c.args.p 256 }
