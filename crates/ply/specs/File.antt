-- A mesh as a PLY file, byte for byte: "binary little-endian PLY, format 1.0: elements vertex (double x, y, z) and face (list uchar int vertex_indices), no
-- comment lines, counts in decimal without leading zeros, lines ended by LF" (document 02, Three). Vertex v has words 2·v and 2·v + 1, of which the first is the
-- number of its cube, and offsets 3·v to 3·v + 2; quad q has numbers 4·q to 4·q + 3.
use Rattle.std.specs.Prelude.{ℕ, ◌+◌, ◌*◌, ◌/◌, List, [], ◌∷◌, ◌++◌, length, get_or, Float}
use Rattle.std.specs.Float.{nan, binary64}
use Rattle.std.specs.Float.Ieee.{add, mul, to_bits}
use Rattle.laws.specs.Below.{below}
use Rattle.block.specs.declared.Size.{Size}
use Rattle.block.specs.Numbering.{at_cube}
use Rattle.place.specs.Crossing.{float}
use Rattle.file_bytes.specs.Bytes.{ascii, decimal, little_endian}
use Rattle.ply.specs.declared.Spacing.{Spacing}
use Rattle.ply.specs.Rows.{spacings}

-- the header of a file with so many vertices and faces
unfoldable pub header : ℕ → ℕ → List ℕ
header vertices faces =
    ascii "ply\nformat binary_little_endian 1.0\nelement vertex " ++ decimal vertices
    ++ ascii "\nproperty double x\nproperty double y\nproperty double z\nelement face " ++ decimal faces
    ++ ascii "\nproperty list uchar int vertex_indices\nend_header\n"

-- the coordinates of the cube with number c
abbrev pub cube_place : Size → ℕ → List ℕ
cube_place n c = at_cube n (λ i j k. i ∷ j ∷ k ∷ []) c

-- "Each coordinate is cube coordinate plus offset, then times the spacing in millimetres, each operation rounded once."
unfoldable pub millimetres : ℕ → Float → Float → Float
millimetres c offset spacing = mul binary64 (add binary64 (float c) offset) spacing

-- a double: its bits in eight bytes
unfoldable pub double : Float → List ℕ
double x = little_endian 8 (to_bits binary64 x)

module _ (n : Size) (words : List ℕ) (offsets : List Float) (spacing : Spacing) where
  -- the coordinate of vertex v on the axis a
  abbrev pub place_on : ℕ → ℕ → Float
  place_on v a = millimetres (get_or (cube_place n (get_or words (2 * v) 0)) a 0) (get_or offsets (3 * v + a) nan) (get_or (spacings spacing) a nan)

  -- "vertex (double x, y, z)"
  unfoldable pub vertex_bytes : ℕ → List ℕ
  vertex_bytes v = below (λ (a : ℕ). double (place_on v a)) 3

-- "face (list uchar int vertex_indices)": how many indices, in one byte, and each in four
unfoldable pub face_bytes : List ℕ → ℕ → List ℕ
face_bytes quads q = little_endian 1 4 ++ below (λ (i : ℕ). little_endian 4 (get_or quads (4 * q + i) 0)) 4

-- the file
unfoldable pub ply_file : Size → List ℕ → List Float → List ℕ → Spacing → List ℕ
ply_file n words offsets quads spacing =
    header (length words / 2) (length quads / 4) ++ below (vertex_bytes n words offsets spacing) (length words / 2) ++ below (face_bytes quads) (length quads / 4)
