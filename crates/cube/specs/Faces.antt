-- The links of a face as the code has them, by masks of the cube's edges.
-- Assumes nothing.
use Rattle.std.specs.Prelude.{ℕ, Bool, cond, eqb}
use Rattle.std.specs.Int.Bits.{bit_xor}
use Rattle.cube.specs.declared.Face.{Face}
use Rattle.cube.specs.declared.Links.{Links}

-- The links of a face of whose edges those in m are crossed. With four crossed edges they are the two that meet at its first corner, if
-- `first` says so, else the two that meet at the next, and the other two. With two, these.
abbrev pub cut_face : Face → ℕ → Bool → Links
cut_face face m first = record {
  first = cond (eqb m face.ring) (cond first face.corner face.next) m;
  second = cond (eqb m face.ring) (cond first (bit_xor face.ring face.corner) (bit_xor face.ring face.next)) 0;
}
