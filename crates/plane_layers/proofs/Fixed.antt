-- The promise of `keep_plane` fixes the buffer at exit. That of `grow` fixes the answer and the three buffers, for a block whose planes are at hand and whose
-- last layer is remembered.
-- Assumes nothing.
use Prim.Native.Nat.{ℕ}
use mathlib.Core.Path.{◌≡◌, sym, ap, ◌∙◌}
use mathlib.Core.List.{List}
use lib.Ieee.{Float}
use lib.ListN.{length}
use Rattle.laws.specs.Below.{over}
use Rattle.laws.specs.Fixed.{Fixes}
use Rattle.laws.proofs.Fixed.{equation_fixes}
use Rattle.block.specs.declared.Checked.{Checked}
use Rattle.block.specs.Answer.{in_order, judged, written}
use Rattle.cube_rule.specs.Decider.{loops_of}
use Rattle.mesh_rule.specs.Layers.{layer_words, layer_offsets, layer_quads}
use Rattle.mesh.specs.declared.Counted.{Counted}
use Rattle.mesh.specs.declared.Totals.{Totals}
use Rattle.mesh.specs.Answer.{buffer_rows}
use Rattle.mesh.proofs.Verdicts.{said_counts_injective}
use Rattle.plane_layers.specs.declared.Layer.{Layer}
use Rattle.plane_layers.specs.Memory.{packed, Shown}
use Rattle.plane_layers.specs.Layer.{Known, Grown}

pub keep_plane_fixed : (plane work : List ℕ) → Fixes (λ (exit : List ℕ). exit ≡ over (packed plane) work)
keep_plane_fixed plane work = equation_fixes (over (packed plane) work)

pub grow_fixed : (layer : Layer) (plane work w : List ℕ) (o : List Float) (q : List ℕ) (s : List ℕ) → Shown layer.size layer.k work plane s
    → Known loops_of layer.size s layer.cut layer.k layer.first work
    → (r r' : Counted) (work₁ work₂ w₁ w₂ : List ℕ) (o₁ o₂ : List Float) (q₁ q₂ : List ℕ) → Grown loops_of layer plane work w o q r work₁ w₁ o₁ q₁ → Grown loops_of layer plane work w o q r' work₂ w₂ o₂ q₂
    → (r ≡ r') × (w₁ ≡ w₂) × (o₁ ≡ o₂) × (q₁ ≡ q₂)
grow_fixed layer plane work w o q s shown known r r' work₁ work₂ w₁ w₂ o₁ o₂ q₁ q₂ a b =
    let p = a.part s shown known in
    let x = b.part s shown known in
    let e : a.counted ≡ b.counted = p.counts_are ∙ sym x.counts_are in (
      said_counts_injective r r' (a.answer ∙ ap (λ (c : Totals). judged (late c) c) e ∙ sym b.answer),
      p.words ∙ ap (λ (c : Totals). written (late c) (layer_words loops_of layer.size s layer.cut layer.k) w) e ∙ sym x.words,
      p.offsets ∙ ap (λ (c : Totals). written (late c) (layer_offsets loops_of layer.size s layer.cut layer.k) o) e ∙ sym x.offsets,
      p.quads ∙ ap (λ (c : Totals). written (late c) (layer_quads loops_of layer.size s layer.cut layer.k) q) e ∙ sym x.quads,
    )
  where
    late : Totals → Checked
    late c = in_order (buffer_rows c (length w) (length o) (length q))
