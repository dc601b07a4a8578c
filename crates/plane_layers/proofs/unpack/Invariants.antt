-- `unpack` meets its contract: the samples of the words before i stand at the front.
-- Assumes nothing.
use Prim.Native.Nat.{◌*◌}
use Rattle.plane_layers.specs.Memory.{Windowed}
use Rattle.plane_layers.proofs.unpack.Given as goal

abbrev pub invariant-loop-i : goal.invariant-loop-i
invariant-loop-i l = Windowed l.part (2 * l.i) l.window
