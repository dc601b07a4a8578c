-- `block_signs` meets its contract: the words of each row are put behind those of the rows before.
-- Assumes nothing.
use Rattle.std.proofs.Common.{List, ℕ, ap, ◌∙◌, arith}
use Rattle.laws.specs.Below.{over}
use Rattle.laws.proofs.Over.{over_none}
use Rattle.signs.proofs.Planes.{plane_made}
use Rattle.signs.proofs.RowSigns.{row_stored}
use Rattle.signs.proofs.block_signs.Goals as goal

pub loop-j-init : goal.loop-j-init
loop-j-init g c = over_none _ _

pub loop-j-preserved : goal.loop-j-preserved
loop-j-preserved g c = row_stored _ c.args.cut c.nx-nx.result c.ny-ny.result c.loop-j.j c.args.k _ _ _ c.loop-j.invariant c.row_of.ensures (omega arith)

pub returns : goal.returns
returns g c = c.loop-j.invariant ∙ ap (λ (ws : List ℕ). over ws c.args.plane.now) (plane_made c.args.size _ c.args.cut c.args.k _ _ _ c.nx-nx.ensures c.ny-ny.ensures (omega arith))
