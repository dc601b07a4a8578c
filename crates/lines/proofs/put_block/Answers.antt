-- `put_block` meets its contract: no row refuses the block, so that the return of the other case is never reached, and the mesh is printed.
-- Assumes nothing.
use mathlib.Core.Path.{subst}
use native.Mathlib.Omega.{arith}
use lib.ListN.{length-replicate}
use lib.Ieee.{Float, of_bits, binary64}
use Prim.Native.Nat.{ℕ}
use mathlib.Core.List.{List}
use Rattle.laws.specs.Put.{Put}
use Rattle.lines.proofs.Blocks.{no_refusal, accepted_front}
use Rattle.lines.proofs.put_block.Goals as goal

pub returns-in_default : goal.returns-in_default
returns-in_default c =
    absurd (no_refusal c.args.nx c.args.ny c.args.nz c.args.t c.args.samples.now _ _ _ _ _ _ _ c.requires.readable.0 c.requires.readable.1
    (length-replicate {A = ℕ} 2744 0) (length-replicate {A = Float} 4116 (of_bits binary64 0)) (length-replicate {A = ℕ} 3024 0) c.mesh-counted.ensures _ c.in_default.is)

pub put_front-requires-clause-vertices_bound : goal.put_front-requires-clause-vertices_bound
put_front-requires-clause-vertices_bound c =
    let f = accepted_front c.args.nx c.args.ny c.args.nz c.args.t c.args.samples.now _ _ _ _ _ _ _ c.requires.readable.0 c.requires.readable.1
    (length-replicate {A = ℕ} 2744 0) (length-replicate {A = Float} 4116 (of_bits binary64 0)) (length-replicate {A = ℕ} 3024 0) c.mesh-counted.ensures _ c.in-Counts.is c.requires.readable.2 in
    (f.few.0, f.few.1, c.requires.in_bounds)

pub put_front-requires-clause-vertices_in_bounds : goal.put_front-requires-clause-vertices_in_bounds
put_front-requires-clause-vertices_in_bounds c =
    let f = accepted_front c.args.nx c.args.ny c.args.nz c.args.t c.args.samples.now _ _ _ _ _ _ _ c.requires.readable.0 c.requires.readable.1
    (length-replicate {A = ℕ} 2744 0) (length-replicate {A = Float} 4116 (of_bits binary64 0)) (length-replicate {A = ℕ} 3024 0) c.mesh-counted.ensures _ c.in-Counts.is c.requires.readable.2 in
    (omega (arith, f.few.0, c.mesh-counted.auto), omega (arith, f.few.0, c.mesh-counted.auto), omega (arith, f.few.1, c.mesh-counted.auto))

pub put_front-requires-clause-numbers : goal.put_front-requires-clause-numbers
put_front-requires-clause-numbers c =
    let f = accepted_front c.args.nx c.args.ny c.args.nz c.args.t c.args.samples.now _ _ _ _ _ _ _ c.requires.readable.0 c.requires.readable.1
    (length-replicate {A = ℕ} 2744 0) (length-replicate {A = Float} 4116 (of_bits binary64 0)) (length-replicate {A = ℕ} 3024 0) c.mesh-counted.ensures _ c.in-Counts.is c.requires.readable.2 in
    f.numbers

pub returns : goal.returns
returns c =
    let p = c.put_front in
    subst (λ (x : List ℕ). Put c.args.out.now 0 x p.new.out p.result)
    (accepted_front c.args.nx c.args.ny c.args.nz c.args.t c.args.samples.now _ _ _ _ _ _ _ c.requires.readable.0 c.requires.readable.1
    (length-replicate {A = ℕ} 2744 0) (length-replicate {A = Float} 4116 (of_bits binary64 0)) (length-replicate {A = ℕ} 3024 0) c.mesh-counted.ensures _ c.in-Counts.is c.requires.readable.2).text p.ensures
