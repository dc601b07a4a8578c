-- What it means that all samples on the six faces of the box are of one sign, and that a face of the box cuts the surface off (document 02, Four).
use Rattle.std.specs.Prelude.{ℕ, ◌≡◌, Bool, true, false, ◌||◌, List}
use Rattle.block.specs.declared.Cut.{Cut}
use Rattle.block.specs.declared.Size.{Size}
use Rattle.block.specs.Numbering.{Axis}
use Rattle.mesh_rule.specs.Grid.{InBox, EdgeIn, metal, inner, crossed_from, at_end}

-- (i,j,k) lies on one of the six faces of the box: one of its coordinates is at an end
abbrev pub on_box_face : Size → ℕ → ℕ → ℕ → Bool
on_box_face n i j k = at_end n.nx i || at_end n.ny j || at_end n.nz k

-- each sample there is metal, or each is hollow
abbrev pub FacesAre : Bool → Size → List ℕ → Cut → Type 0
FacesAre sign n s cut = (i j k : ℕ) → InBox n i j k → on_box_face n i j k ≡ true → metal n s cut i j k ≡ sign

-- an edge of the block that is no inner one, so that it lies on a face of the box, is crossed: there the face cuts the surface off
pub record CutOff (n : Size) (s : List ℕ) (cut : Cut) : Type 0 where
  pub axis : Axis
  pub i : ℕ
  pub j : ℕ
  pub k : ℕ
  pub in_block : EdgeIn n axis i j k
  pub on_face_lem : inner n axis i j k ≡ false
  pub is_crossed : crossed_from n s cut axis i j k ≡ true
