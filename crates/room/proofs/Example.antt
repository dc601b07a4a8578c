-- Blocks whose crossed edges are computed: that of document 01, "The program", which reaches both bounds, also with a sample at the ceiling; the smallest block;
-- and one metal sample on a face, on an edge and at a corner of the box.
-- Assumes nothing.
use mathlib.Core.Path.{◌≡◌, refl}
use mathlib.Core.List.{[], ◌∷◌, ◌++◌}
use lib.ListN.{replicate}
use Rattle.laws.specs.Counting.{count}
use Rattle.block.specs.Grey.{ceiling}
use Rattle.mesh_rule.proofs.Example.{size, cut, samples}
use Rattle.room.specs.Crossed.{crossed_count}

-- 8 vertices and 6 quads (`the_vertices`, `the_quads`): 3 · 8 is 4 · 6
pub six_edges : crossed_count (size 3) samples cut ≡ 6
unfolding crossed_count count
six_edges = refl

pub nine_edges : crossed_count (size 3) (replicate 13 0 ++ 400 ∷ replicate 12 0 ++ ceiling ∷ []) cut ≡ 9
unfolding crossed_count count
nine_edges = refl

-- the smallest block: with metal at one corner, and as a checkerboard
pub three_edges : crossed_count (size 2) (400 ∷ replicate 7 0) cut ≡ 3
unfolding crossed_count count
three_edges = refl

pub all_edges : crossed_count (size 2) (400 ∷ 0 ∷ 0 ∷ 400 ∷ 0 ∷ 400 ∷ 400 ∷ 0 ∷ []) cut ≡ 12
unfolding crossed_count count
all_edges = refl

-- one metal sample: at (1,1,0) on a face of the box, at (1,0,0) on an edge, at (2,2,2) at a corner
pub five_on_face : crossed_count (size 3) (replicate 4 0 ++ 400 ∷ replicate 22 0) cut ≡ 5
unfolding crossed_count count
five_on_face = refl

pub four_on_edge : crossed_count (size 3) (0 ∷ 400 ∷ replicate 25 0) cut ≡ 4
unfolding crossed_count count
four_on_edge = refl

pub three_at_corner : crossed_count (size 3) (replicate 26 0 ++ 400 ∷ []) cut ≡ 3
unfolding crossed_count count
three_at_corner = refl
