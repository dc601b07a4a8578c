-- What writing a mesh as a PLY file answers, and what the lent buffer holds afterwards (document 02, Three). One verdict decides for both.
use Rattle.std.specs.Prelude.{ℕ, ◌/◌, ◌≡◌, List, [], ◌∷◌, ◌++◌, length, Float}
use Rattle.block.specs.declared.Checked.{Checked}
use Rattle.block.specs.Answer.{Answer, accepted, refused, in_order, judged, written}
use Rattle.block.specs.Rows.{axis_row, room_row}
use Rattle.block.specs.Size.{size_of}
use Rattle.lists.specs.Rows.{length_row, number_row}
use Rattle.vertex_lists.specs.Rows.{vertex_rows}
use Rattle.ply.specs.declared.Spacing.{Spacing}
use Rattle.ply.specs.declared.Filed.{Filed}
use Rattle.ply.specs.declared.Filed.TheVariants.{Bytes, Refused}
use Rattle.ply.specs.Rows.{spacing_row}
use Rattle.ply.specs.File.{ply_file}

-- the length of the file, or a refusal's number and value
abbrev pub said_file : Filed → Answer ℕ
said_file (Bytes n) = accepted n
said_file (Refused r) = refused r

-- the rows of the quads and of the file, of so many vertices and where so many bytes are needed
abbrev pub face_rows : ℕ → List ℕ → Spacing → ℕ → ℕ → List Checked
face_rows vertices quads spacing needed room = length_row quads ∷ spacing_row spacing ∷ number_row vertices quads ∷ room_row needed room ∷ []

module _ (nx ny nz : ℕ) (words : List ℕ) (offsets : List Float) (quads : List ℕ) (spacing : Spacing) where
  -- the file of these lists
  abbrev pub file_of : List ℕ
  file_of = ply_file (size_of nx ny nz) words offsets quads spacing

  -- "Refusals, in this order": 1, then 22, 23, 24, then 7, 13, 14, 15
  abbrev pub ply_rows : ℕ → List Checked
  ply_rows room = axis_row nx ny nz ∷ vertex_rows (size_of nx ny nz) words offsets ++ face_rows (length words / 2) quads spacing (length file_of) room

  abbrev pub ply_verdict : ℕ → Checked
  ply_verdict room = in_order (ply_rows room)

  -- the promise of `write`: the answer, and the buffer, file at entry and file' at exit
  pub record PlyWritten (file : List ℕ) (r : Filed) (file' : List ℕ) : Type 0 where
    pub answer : said_file r ≡ judged (ply_verdict (length file)) (length file_of)
    pub bytes : file' ≡ written (ply_verdict (length file)) file_of file
