-- What the program writes, as a list of bytes, and the promise of `run` (document 01, "The program").
use Rattle.std.specs.Prelude.{ℕ, ◌+◌, ◌*◌, ◌≡◌, List, [], ◌∷◌, ◌++◌, length, get_or, Float}
use Rattle.std.specs.Float.{nan, binary64}
use Rattle.std.specs.Float.Ieee.{to_bits}
use Rattle.laws.specs.Below.{below, over}
use Rattle.block.specs.declared.Cut.{Cut}
use Rattle.block.specs.declared.Size.{Size}
use Rattle.block.specs.declared.Refusal.{Refusal}
use Rattle.block.specs.Answer.{decided}
use Rattle.cube_rule.specs.Decider.{loops_of}
use Rattle.mesh_rule.specs.Buffers.{mesh_words, mesh_offsets, mesh_quads}
use Rattle.mesh.specs.Answer.{vertex_count, quad_count}
use Rattle.closed.specs.Closed.{Finding, all_sound, open_at, finding_of}
use Rattle.reading.specs.Text.{LF, hex_of}
use Rattle.reading.specs.Input.{size_read, cut_read, samples_read, input_verdict}

-- "A refusal prints one line: FF, number (2 digits), value (8)."
unfoldable pub refusal_line : Refusal → List ℕ
refusal_line r = hex_of 2 255 ++ hex_of 2 r.number ++ hex_of 8 r.value ++ LF ∷ []

-- "closed 01 or open 00"
abbrev pub closed_field : Finding → ℕ
closed_field all_sound = 1
closed_field (open_at q s) = 0

-- "00, vertices (8), quads (8), closed 01 or open 00"
unfoldable pub head_line : ℕ → ℕ → ℕ → List ℕ
head_line vertices quads closed = hex_of 2 0 ++ hex_of 8 vertices ++ hex_of 8 quads ++ hex_of 2 closed ++ LF ∷ []

-- "01, cube (8), mask (4), three offsets as f64 bits (16 each)": the vertex v of a mesh, as its buffers hold it
unfoldable pub vertex_line : List ℕ → List Float → ℕ → List ℕ
vertex_line words offsets v =
    hex_of 2 1 ++ hex_of 8 (get_or words (2 * v) 0) ++ hex_of 4 (get_or words (2 * v + 1) 0) ++ below (λ (a : ℕ). hex_of 16 (to_bits binary64 (get_or offsets (3 * v + a) nan))) 3 ++ LF ∷ []

-- "02 and four vertex numbers (8 each)": the quad q
unfoldable pub quad_line : List ℕ → ℕ → List ℕ
quad_line quads q = hex_of 2 2 ++ below (λ (i : ℕ). hex_of 8 (get_or quads (4 * q + i) 0)) 4 ++ LF ∷ []

-- a mesh of v vertices and q quads
unfoldable pub mesh_text : ℕ → ℕ → List ℕ → List Float → List ℕ → List ℕ
mesh_text v q words offsets quads =
    head_line v q (closed_field (finding_of quads)) ++ below (vertex_line words offsets) v ++ below (quad_line quads) q

-- the mesh of a block
abbrev pub block_text : Size → List ℕ → Cut → List ℕ
block_text n s cut = mesh_text (vertex_count n s cut) (quad_count n s cut) (mesh_words loops_of n s cut) (mesh_offsets loops_of n s cut) (mesh_quads loops_of n s cut)

-- the program's output for its input: this text, or the line of a refusal
unfoldable pub output_of : List ℕ → List ℕ
output_of bytes = decided (input_verdict bytes) (block_text (size_read bytes) (samples_read bytes (size_read bytes)) (cut_read bytes)) refusal_line

-- `run` prints these bytes: it answers how many they are, and its buffer, out at entry and out' at exit, has them at the front
pub record Prints (bytes out : List ℕ) (r : ℕ) (out' : List ℕ) : Type 0 where
  pub count : r ≡ length bytes
  pub text : out' ≡ over bytes out

-- the promise of `run`: the program's output for its input
abbrev pub Ran : List ℕ → List ℕ → ℕ → List ℕ → Type 0
Ran bytes out r out' = Prints (output_of bytes) out r out'
