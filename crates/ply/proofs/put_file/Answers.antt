-- `put_file` meets its contract: the header, the vertices and the faces.
-- Assumes nothing.
use native.Mathlib.Omega.{arith}
use lib.ListN.{length}
use Rattle.block.specs.Size.{size_of}
use Rattle.ply.proofs.Accepted.{accepted_is, all_numbers}
use Rattle.ply.proofs.Files.{file_put}
use Rattle.ply.proofs.put_file.Goals as goal

pub put_header-a-requires : goal.put_header-a-requires
put_header-a-requires c =
    let ok = accepted_is c.args.nx c.args.ny c.args.nz c.args.words.now c.args.offsets.now c.args.quads.now c.args.s (length c.args.out.now) c.requires in
    omega (arith, ok.fits)

pub put_vertices-b-requires : goal.put_vertices-b-requires
put_vertices-b-requires c =
    let ok = accepted_is c.args.nx c.args.ny c.args.nz c.args.words.now c.args.offsets.now c.args.quads.now c.args.s (length c.args.out.now) c.requires in
    record {
      le_nx = (ok.limits.x_low, ok.limits.y_low, ok.most);
      count_in_bounds = (omega (arith, ok.twice), omega (arith, ok.thrice), omega (arith, ok.fits, c.put_header-a.ensures.value, c.put_header-a.auto.out));
      all_numbers = all_numbers c.args.nx c.args.ny c.args.nz c.args.words.now c.args.offsets.now c.args.quads.now c.args.s (length c.args.out.now) ok;
    }

pub put_faces-requires : goal.put_faces-requires
put_faces-requires c =
    let ok = accepted_is c.args.nx c.args.ny c.args.nz c.args.words.now c.args.offsets.now c.args.quads.now c.args.s (length c.args.out.now) c.requires in
    (omega (arith, ok.whole), omega (arith, ok.fits, c.put_header-a.ensures.value, c.put_header-a.auto.out, c.put_vertices-b.ensures.value, c.put_vertices-b.auto.out))

pub returns : goal.returns
returns c =
    let a = c.args in
    file_put (size_of a.nx a.ny a.nz) a.words.now a.offsets.now a.quads.now a.s c.put_header-a.ensures.put c.put_vertices-b.ensures.put c.put_faces.ensures
