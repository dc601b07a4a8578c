-- What judging a mesh from the foundry answers (document 02, Twelve): it is held against the mesh of the block "by the same threshold and noise figure".
use Rattle.std.specs.Prelude.{ℕ, ◌≡◌, List, [], ◌∷◌, ◌++◌, length, Float}
use Rattle.block.specs.declared.Cut.{Cut}
use Rattle.block.specs.declared.Size.{Size}
use Rattle.block.specs.declared.Checked.{Checked}
use Rattle.block.specs.Answer.{Answer, accepted, refused, in_order, judged}
use Rattle.block.specs.Block.{block_rows}
use Rattle.block.specs.Rows.{axis_row}
use Rattle.block.specs.Size.{size_of}
use Rattle.cube_rule.specs.Decider.{loops_of}
use Rattle.lists.specs.Rows.{length_row, number_row}
use Rattle.mesh_rule.specs.Buffers.{mesh_words, mesh_quads}
use Rattle.vertex_lists.specs.Rows.{shape_row}
use Rattle.foundry_rule.specs.Judged.{vertex_total, Comparison, same, vertex_at_fault, quad_at_fault, some_missing, compared}
use Rattle.foundry.specs.declared.Judgement.{Judgement}
use Rattle.foundry.specs.declared.Judgement.TheVariants as judgement

-- 01's number and values of each case
abbrev pub said_judgement : Judgement → Answer Comparison
said_judgement judgement.Same = accepted same
said_judgement (judgement.BadVertex v) = accepted (vertex_at_fault v)
said_judgement (judgement.BadQuad q) = accepted (quad_at_fault q)
said_judgement judgement.Missing = accepted some_missing
said_judgement (judgement.Refused r) = refused r

-- 22, 7 and 14, of the lists that the foundry sends
abbrev pub sent_rows : List ℕ → List Float → List ℕ → List Checked
sent_rows words offsets quads = shape_row (length words) (length offsets) ∷ length_row quads ∷ number_row (vertex_total words) quads ∷ []

-- "Refusals: 1, 2, 3, 22, 7, 14"
abbrev pub judge_verdict : ℕ → ℕ → ℕ → List ℕ → Cut → List ℕ → List Float → List ℕ → Checked
judge_verdict nx ny nz s cut words offsets quads = in_order (axis_row nx ny nz ∷ block_rows (size_of nx ny nz) s cut ++ sent_rows words offsets quads)

-- what is found of the mesh that is sent, beside the mesh of the block
abbrev pub compared_with : Size → List ℕ → Cut → List ℕ → List Float → List ℕ → Comparison
compared_with n s cut words offsets quads = compared (mesh_words loops_of n s cut) (mesh_quads loops_of n s cut) words offsets quads

-- the promise of `judge`
abbrev pub MeshJudged : ℕ → ℕ → ℕ → List ℕ → Cut → List ℕ → List Float → List ℕ → Judgement → Type 0
MeshJudged nx ny nz s cut words offsets quads r =
    said_judgement r ≡ judged (judge_verdict nx ny nz s cut words offsets quads) (compared_with (size_of nx ny nz) s cut words offsets quads)
