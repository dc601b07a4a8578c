-- `fill` meets its contract: the samples before the one in hand stand at the front of the buffer.
-- Assumes nothing.
use Prim.Native.Nat.{ℕ, ◌+◌, ◌*◌, ◌-◌, ◌/◌, ◌%◌, ◌≤◌, ◌<◌}
use mathlib.Core.Path.{refl}
use Rattle.reading.proofs.Reading.{sample_place_small}
use native.Mathlib.Omega.{arith}
use borrow.Author.Rules.{rules}
use Rattle.laws.proofs.Over.{over_none, over_put}
use Rattle.reading.specs.Steps.{sample_read}
use Rattle.reading.proofs.fill.Goals as goal

pub loop-i-init : goal.loop-i-init
loop-i-init c = (search rules, over_none _ _, refl)

pub loop-i-preserved : goal.loop-i-preserved
loop-i-preserved c = (
  search rules,
  over_put (sample_read c.args.input.now c.args.nx) _ _ _ _ c.loop-i.invariant.1 c.number.ensures (omega (arith, c.loop-i-test.true, c.requires.3)),
  search rules,
)

pub overflow_mul-i : goal.overflow_mul-i
overflow_mul-i c =
    let width : ℕ = c.args.nx in
    let small : c.loop-i.i < c.args.count → (c.loop-i.i / width * (4 * width + 1) ≤ 16896) × (4 * (c.loop-i.i % width) < 32) = λ t. sample_place_small (width) c.loop-i.i c.requires.0 c.requires.1 (omega (arith, t, c.requires.2)) in
    omega (arith, (small c.loop-i-test.true).0)
