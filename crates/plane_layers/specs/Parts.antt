-- What a call counts of one layer, and that it keeps to its room (document 02, Nine).
use Rattle.std.specs.Prelude.{ℕ, ◌*◌, ◌/◌, ◌≤◌, ◌≡◌, List, Float, length, get_or}
use Rattle.std.specs.Float.{nan}
use Rattle.block.specs.declared.Cut.{Cut}
use Rattle.block.specs.declared.Size.{Size}
use Rattle.mesh_rule.specs.Layers.{layer_count, layer_quads}
use Rattle.mesh.specs.declared.Totals.{Totals}

-- how many vertices and quads the layer k of a block has
abbrev pub layer_totals : (Cut → List ℕ → List ℕ) → Size → List ℕ → Cut → ℕ → Totals
layer_totals loops_of n s cut k = record { vertices = layer_count loops_of n s cut k; quads = length (layer_quads loops_of n s cut k) / 4 }

-- the buffers are as long as they were, and what stands behind 2 v words, 3 v offsets, the end of the quads and the end of what is remembered is kept
pub record KeptBehind (v e f : ℕ) (w w' : List ℕ) (o o' : List Float) (q q' work work' : List ℕ) : Type 0 where
  pub words_long : length w' ≡ length w
  pub offsets_long : length o' ≡ length o
  pub quads_long : length q' ≡ length q
  pub work_long : length work' ≡ length work
  pub words_behind : (i : ℕ) → 2 * v ≤ i → get_or w' i 0 ≡ get_or w i 0
  pub offsets_behind : (i : ℕ) → 3 * v ≤ i → get_or o' i nan ≡ get_or o i nan
  pub quads_behind : (i : ℕ) → e ≤ i → get_or q' i 0 ≡ get_or q i 0
  pub work_behind : (i : ℕ) → f ≤ i → get_or work' i 0 ≡ get_or work i 0
