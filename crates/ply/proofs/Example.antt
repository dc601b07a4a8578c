-- Files and verdicts, computed (document 02, Three): parts of the file of 01's example with spacings 0.1, 0.2 and 0.5, each row by itself, the values at the
-- ends of what passes, and each row before the next.
-- Assumes nothing.
use Prim.Native.Nat.{ℕ}
use mathlib.Core.Path.{◌≡◌, refl}
use mathlib.Core.Bool.{true, false}
use mathlib.Core.List.{List, [], ◌∷◌}
use lib.IntN.{pos, negsuc}
use lib.ListN.{length}
use lib.Ieee.{Float, nan, inf, fin, add, mul, of_int, to_bits, lt, le}
use Rattle.laws.specs.Below.{below}
use Rattle.laws.specs.Leading.{leading}
use Rattle.block.specs.declared.Checked.{Checked}
use Rattle.block.specs.declared.Checked.TheVariants.{Passes}
use Rattle.block.specs.Answer.{refuses, in_order}
use Rattle.block.specs.Rows.{lowest, lowest_row, search_row}
use Rattle.block.specs.Size.{size_of}
use Rattle.place.specs.Place.{plus_zero, one}
use Rattle.file_bytes.specs.Bytes.{ascii, decimal_in, little_endian}
use Rattle.vertex_lists.specs.Rows.{from_zero_to_one}
use Rattle.ply.specs.declared.Spacing.{Spacing}
use Rattle.ply.specs.Rows.{good_spacing}
use Rattle.ply.specs.File.{header, millimetres, double, vertex_bytes, face_bytes, ply_file}
use Rattle.ply.specs.Answer.{ply_verdict}

-- ---- parts of files

abbrev tenth : Float
tenth = fin false 3602879701896397 (negsuc 54)

abbrev half : Float
half = fin false 1 (negsuc 0)

-- 0.1, 0.2 and 0.5
abbrev paper : Spacing
paper = record { x = tenth; y = fin false 3602879701896397 (negsuc 53); z = half }

abbrev three_quarters : Float
three_quarters = fin false 3 (negsuc 1)

pub record Parts : Type 0 where
  pub the_header : header 8 6
      ≡ ascii "ply\nformat binary_little_endian 1.0\nelement vertex 8\nproperty double x\nproperty double y\nproperty double z\nelement face 6\nproperty list uchar int vertex_indices\nend_header\n"
  pub many_digits : header 10 100
      ≡ ascii "ply\nformat binary_little_endian 1.0\nelement vertex 10\nproperty double x\nproperty double y\nproperty double z\nelement face 100\nproperty list uchar int vertex_indices\nend_header\n"
  -- its first vertex, in cube 0
  pub first_vertex : vertex_bytes (size_of 3 3 3) (0 ∷ 0 ∷ []) (three_quarters ∷ three_quarters ∷ three_quarters ∷ []) paper 0
      ≡ 0x34 ∷ 0x33 ∷ 0x33 ∷ 0x33 ∷ 0x33 ∷ 0x33 ∷ 0xb3 ∷ 0x3f ∷ 0x34 ∷ 0x33 ∷ 0x33 ∷ 0x33 ∷ 0x33 ∷ 0x33 ∷ 0xc3 ∷ 0x3f ∷ 0 ∷ 0 ∷ 0 ∷ 0 ∷ 0 ∷ 0 ∷ 0xd8 ∷ 0x3f ∷ []
  -- its first face
  pub first_face : face_bytes (0 ∷ 4 ∷ 6 ∷ 2 ∷ []) 0 ≡ 4 ∷ 0 ∷ 0 ∷ 0 ∷ 0 ∷ 4 ∷ 0 ∷ 0 ∷ 0 ∷ 6 ∷ 0 ∷ 0 ∷ 0 ∷ 2 ∷ 0 ∷ 0 ∷ 0 ∷ []
  -- plus and then times: 3 and a quarter, times 0.1. The sum of 3 times 0.1 and a quarter of 0.1 ends in CE
  pub plus_then_times : double (millimetres 3 (fin false 1 (negsuc 1)) tenth) ≡ 0xcd ∷ 0xcc ∷ 0xcc ∷ 0xcc ∷ 0xcc ∷ 0xcc ∷ 0xd4 ∷ 0x3f ∷ []
  -- the file of no vertices and no faces
  pub empty : length (ply_file (size_of 2 2 2) [] [] [] paper) ≡ 172

pub parts : Parts
unfolding header ascii decimal_in little_endian below vertex_bytes face_bytes double millimetres ply_file add mul of_int to_bits
parts = record { the_header = refl; many_digits = refl; first_vertex = refl; first_face = refl; plus_then_times = refl; empty = refl }

-- ---- each row by itself, of a block of one cube

abbrev verdict : List ℕ → List Float → List ℕ → Spacing → ℕ → Checked
verdict words offsets quads s room = ply_verdict 2 2 2 words offsets quads s room

-- of one vertex with this offset along z, and with this spacing along z
abbrev offset_verdict : Float → Checked
offset_verdict x = verdict (0 ∷ 0 ∷ []) (half ∷ half ∷ x ∷ []) [] paper 196

abbrev spacing_verdict : Float → Checked
spacing_verdict x = verdict [] [] [] (record { x = tenth; y = tenth; z = x }) 172

pub record RowsAlone : Type 0 where
  pub axis : ply_verdict 2 1 2 [] [] [] paper 172 ≡ refuses 1 1
  pub shape : verdict (0 ∷ []) [] [] paper 172 ≡ refuses 22 1
  pub cube : verdict (1 ∷ 0 ∷ []) (half ∷ half ∷ half ∷ []) [] paper 196 ≡ refuses 23 0
  pub offset : offset_verdict nan ≡ refuses 24 0
  pub quad_length : verdict [] [] (0 ∷ []) paper 172 ≡ refuses 7 1
  pub spacing : spacing_verdict plus_zero ≡ refuses 13 2
  pub number : verdict (0 ∷ 0 ∷ []) (half ∷ half ∷ half ∷ []) (0 ∷ 0 ∷ 0 ∷ 1 ∷ []) paper 213 ≡ refuses 14 0
  pub room : verdict [] [] [] paper 171 ≡ refuses 15 172
  pub none : verdict (0 ∷ 0 ∷ []) (half ∷ half ∷ half ∷ []) (0 ∷ 0 ∷ 0 ∷ 0 ∷ []) paper 213 ≡ Passes
  -- offsets: minus zero and one pass; the next above one, the greatest below zero and the infinities do not
  pub minus_zero : offset_verdict (fin true 0 (pos 0)) ≡ Passes
  pub at_one : offset_verdict one ≡ Passes
  pub above_one : offset_verdict (fin false 4503599627370497 (negsuc 51)) ≡ refuses 24 0
  pub below_zero : offset_verdict (fin true 1 (negsuc 1073)) ≡ refuses 24 0
  pub infinite : offset_verdict (inf false) ≡ refuses 24 0
  pub minus_infinite : offset_verdict (inf true) ≡ refuses 24 0
  -- spacings: the least above zero and 1000 pass; the next above 1000, minus zero, one below zero, a NaN and the infinities do not
  pub least : spacing_verdict (fin false 1 (negsuc 1073)) ≡ Passes
  pub thousand : spacing_verdict (fin false 125 (pos 3)) ≡ Passes
  pub above_thousand : spacing_verdict (fin false 8796093022208001 (negsuc 42)) ≡ refuses 13 2
  pub minus_zero_spacing : spacing_verdict (fin true 0 (pos 0)) ≡ refuses 13 2
  pub negative_spacing : spacing_verdict (fin true 1 (pos 0)) ≡ refuses 13 2
  pub nan_spacing : spacing_verdict nan ≡ refuses 13 2
  pub infinite_spacing : spacing_verdict (inf false) ≡ refuses 13 2
  pub minus_infinite_spacing : spacing_verdict (inf true) ≡ refuses 13 2

pub rows_alone : RowsAlone
unfolding in_order lowest lowest_row search_row leading from_zero_to_one good_spacing lt le of_int header ascii decimal_in little_endian below vertex_bytes face_bytes double millimetres ply_file add mul to_bits
rows_alone = record {
  axis = refl;
  shape = refl;
  cube = refl;
  offset = refl;
  quad_length = refl;
  spacing = refl;
  number = refl;
  room = refl;
  none = refl;
  minus_zero = refl;
  at_one = refl;
  above_one = refl;
  below_zero = refl;
  infinite = refl;
  minus_infinite = refl;
  least = refl;
  thousand = refl;
  above_thousand = refl;
  minus_zero_spacing = refl;
  negative_spacing = refl;
  nan_spacing = refl;
  infinite_spacing = refl;
  minus_infinite_spacing = refl;
}

-- ---- two rows that are neighbours in the order hold at once: the earlier is given

abbrev bad : Spacing
bad = record { x = plus_zero; y = tenth; z = tenth }

pub record Orders : Type 0 where
  pub axis_shape : ply_verdict 2 2 257 (0 ∷ []) [] [] paper 172 ≡ refuses 1 2
  pub shape_cube : verdict (1 ∷ []) [] [] paper 172 ≡ refuses 22 1
  pub cube_offset : verdict (0 ∷ 0 ∷ 1 ∷ 0 ∷ []) (nan ∷ half ∷ half ∷ half ∷ half ∷ half ∷ []) [] paper 220 ≡ refuses 23 1
  pub offset_length : verdict (0 ∷ 0 ∷ []) (half ∷ nan ∷ half ∷ []) (0 ∷ []) paper 196 ≡ refuses 24 0
  pub length_spacing : verdict [] [] (0 ∷ 0 ∷ []) bad 172 ≡ refuses 7 2
  pub spacing_number : verdict [] [] (0 ∷ 0 ∷ 0 ∷ 0 ∷ []) bad 189 ≡ refuses 13 0
  pub number_room : verdict [] [] (0 ∷ 0 ∷ 0 ∷ 0 ∷ []) paper 0 ≡ refuses 14 0

pub orders : Orders
unfolding in_order lowest lowest_row search_row leading from_zero_to_one good_spacing lt le of_int header ascii decimal_in little_endian below vertex_bytes face_bytes double millimetres ply_file add mul to_bits
orders = record { axis_shape = refl; shape_cube = refl; cube_offset = refl; offset_length = refl; length_spacing = refl; spacing_number = refl; number_room = refl }
