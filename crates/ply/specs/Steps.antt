-- What the steps of writing a PLY file promise or ask: a vertex and a face by their fields.
-- Assumes nothing.
use Rattle.std.specs.Prelude.{ℕ, ◌/◌, ◌%◌, List, ◌++◌, Float}
use Rattle.file_bytes.specs.Bytes.{little_endian}
use Rattle.ply.specs.declared.Spacing.{Spacing}
use Rattle.ply.specs.File.{millimetres, double}

-- the three coordinates of a vertex of a cube, in a box that is w cubes wide and h high
abbrev pub x_of : ℕ → ℕ → Float → Spacing → Float
x_of w cube x s = millimetres (cube % w) x s.x

abbrev pub y_of : ℕ → ℕ → ℕ → Float → Spacing → Float
y_of w h cube y s = millimetres (cube / w % h) y s.y

abbrev pub z_of : ℕ → ℕ → ℕ → Float → Spacing → Float
z_of w h cube z s = millimetres (cube / w / h) z s.z

-- its bytes, by its fields
unfoldable pub three_doubles : Float → Float → Float → List ℕ
three_doubles x y z = double x ++ double y ++ double z

unfoldable pub index_list : ℕ → ℕ → ℕ → ℕ → List ℕ
index_list a b c d = little_endian 1 4 ++ little_endian 4 a ++ little_endian 4 b ++ little_endian 4 c ++ little_endian 4 d
