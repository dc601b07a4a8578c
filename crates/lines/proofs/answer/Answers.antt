-- `answer` meets its contract: the samples that were read are those of the block.
-- Assumes nothing.
use mathlib.Core.Path.{sym, subst}
use native.Mathlib.Omega.{arith}
use Prim.Native.Nat.{ℕ}
use mathlib.Core.List.{List}
use lib.Seq.{length-take-le}
use Rattle.block.specs.Grey.{SixteenBit}
use Rattle.block.specs.Size.{size_of}
use Rattle.block.proofs.Sizes.{axes_within}
use Rattle.lines.specs.Output.{block_text}
use Rattle.laws.specs.Put.{Put}
use Rattle.reading.proofs.Axes.{at_most_eight}
use Rattle.reading.proofs.Samples.{block_small, samples_grey, samples_front}
use Rattle.lines.proofs.answer.Goals as goal

pub overflow_mul-count : goal.overflow_mul-count
overflow_mul-count c = omega (arith, (at_most_eight _ _ _ c.requires.readable.small).rows)

pub overflow_mul-count-2 : goal.overflow_mul-count-2
overflow_mul-count-2 c = omega (arith, block_small _ _ _ (at_most_eight _ _ _ c.requires.readable.small))

pub overflow_cast-count : goal.overflow_cast-count
overflow_cast-count c = omega (arith, block_small _ _ _ (at_most_eight _ _ _ c.requires.readable.small))

pub fill-requires : goal.fill-requires
fill-requires c =
    let e = at_most_eight _ _ _ c.requires.readable.small in
    let s = block_small _ _ _ e in
    (omega (arith, (axes_within _ _ _ c.requires.readable.axes).x_low), e.x, s, s)

pub slice_bounds-samples-end : goal.slice_bounds-samples-end
slice_bounds-samples-end c = omega (arith, block_small _ _ _ (at_most_eight _ _ _ c.requires.readable.small), c.fill.auto)

pub slice_bounds-put_block-end : goal.slice_bounds-put_block-end
slice_bounds-put_block-end c = sym (length-take-le _ c.fill.new.samples (omega (arith, block_small _ _ _ (at_most_eight _ _ _ c.requires.readable.small), c.fill.auto)))

pub put_block-requires-clause-readable : goal.put_block-requires-clause-readable
put_block-requires-clause-readable c =
    let f = c.fill in (
      c.requires.readable,
      length-take-le _ f.new.samples (omega (arith, block_small _ _ _ (at_most_eight _ _ _ c.requires.readable.small), f.auto)),
      subst SixteenBit (sym (samples_front c.args.input.now (size_of c.args.nx c.args.ny c.args.nz) _ _ f.ensures))
          (samples_grey c.args.input.now (size_of c.args.nx c.args.ny c.args.nz)),
    )

pub returns : goal.returns
returns c =
    let n = size_of c.args.nx c.args.ny c.args.nz in
    subst (λ (s : List ℕ). Put c.args.out.now 0 (block_text n s (record { t = c.args.t; noise = 0 })) c.put_block.new.out c.put_block.result)
    (samples_front c.args.input.now n _ _ c.fill.ensures) c.put_block.ensures
