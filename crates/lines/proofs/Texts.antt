-- Each kind of line, from the puts that write it, and its length; the lines of a whole mesh.
-- Assumes nothing.
use Prim.Native.Nat.{ℕ, ◌+◌, ◌*◌}
use mathlib.Core.Path.{◌≡◌, sym, ap, ◌∙◌}
use mathlib.Core.List.{List, [], ◌∷◌, ◌++◌, append_assoc}
use native.Mathlib.Nat.{add-zero}
use lib.ListN.{length, get_or, length-append}
use lib.Ieee.{Float, nan, to_bits, binary64}
use Rattle.laws.specs.Below.{below}
use Rattle.block.specs.declared.Refusal.{Refusal}
use Rattle.closed.specs.Closed.{finding_of}
use Rattle.reading.specs.Text.{LF, hex_of}
use Rattle.lines.specs.Output.{refusal_line, closed_field, head_line, vertex_line, quad_line, mesh_text}
use Rattle.laws.specs.Put.{Put}
use Rattle.lines.specs.Steps.{vertex_fields, quad_fields}
use Rattle.laws.proofs.Below.{length_constant}
use Rattle.laws.proofs.Puts.{put_then, puts_more}
use Rattle.reading.proofs.Rules.{hex_length}

-- ---- lengths

pub refusal_length : (r : Refusal) → length (refusal_line r) ≡ 13
unfolding refusal_line
refusal_length r = simp (length-append, hex_length)

pub head_length : (v q c : ℕ) → length (head_line v q c) ≡ 21
unfolding head_line
head_length v q c = simp (length-append, hex_length)

pub vertex_length : (cube word : ℕ) (x y z : Float) → length (vertex_fields cube word x y z) ≡ 63
unfolding vertex_fields
vertex_length cube word x y z = simp (length-append, hex_length)

pub quad_length : (a b c d : ℕ) → length (quad_fields a b c d) ≡ 35
unfolding quad_fields
quad_length a b c d = simp (length-append, hex_length)

-- the line that stands in the buffers, by its fields
vertex_line_lem : (words : List ℕ) (offsets : List Float) (v : ℕ)
    → vertex_fields (get_or words (2 * v) 0) (get_or words (2 * v + 1) 0) (get_or offsets (3 * v) nan) (get_or offsets (3 * v + 1) nan) (get_or offsets (3 * v + 2) nan) ≡ vertex_line words offsets v
unfolding vertex_line vertex_fields below
vertex_line_lem words offsets v = simp (append_assoc, add-zero)

quad_line_lem : (quads : List ℕ) (q : ℕ) → quad_fields (get_or quads (4 * q) 0) (get_or quads (4 * q + 1) 0) (get_or quads (4 * q + 2) 0) (get_or quads (4 * q + 3) 0) ≡ quad_line quads q
unfolding quad_line quad_fields below
quad_line_lem quads q = simp (append_assoc, add-zero)

pub vertex_line_length : (words : List ℕ) (offsets : List Float) (v : ℕ) → length (vertex_line words offsets v) ≡ 63
vertex_line_length words offsets v = ap length (sym (vertex_line_lem words offsets v)) ∙ vertex_length _ _ _ _ _

quad_line_length : (quads : List ℕ) (q : ℕ) → length (quad_line quads q) ≡ 35
quad_line_length quads q = ap length (sym (quad_line_lem quads q)) ∙ quad_length _ _ _ _

pub mesh_length : (v q : ℕ) (words : List ℕ) (offsets : List Float) (quads : List ℕ) → length (mesh_text v q words offsets quads) ≡ 21 + 63 * v + 35 * q
unfolding mesh_text
mesh_length v q words offsets quads =
    length-append (head_line v q (closed_field (finding_of quads)) ++ below (vertex_line words offsets) v) (below (quad_line quads) q)
    ∙ rw (
      length-append (head_line v q (closed_field (finding_of quads))) (below (vertex_line words offsets) v),
      head_length,
      length_constant (vertex_line words offsets) 63 v (λ i l. vertex_line_length words offsets i),
      length_constant (quad_line quads) 35 q (λ i l. quad_line_length quads i),
    )

-- ---- a line from its fields

module _ {o₀ o₁ o₂ o₃ o₄ : List ℕ} {p₀ p₁ p₂ p₃ p₄ : ℕ} where
  pub refusal_put : (r : Refusal) → Put o₀ p₀ (hex_of 2 255) o₁ p₁ → Put o₁ p₁ (hex_of 2 r.number) o₂ p₂ → Put o₂ p₂ (hex_of 8 r.value) o₃ p₃ → Put o₃ p₃ (LF ∷ []) o₄ p₄
      → Put o₀ p₀ (refusal_line r) o₄ p₄
  unfolding refusal_line
  refusal_put r a b c d = put_then _ (put_then _ (put_then _ a b) c) d

  module _ {o₅ : List ℕ} {p₅ : ℕ} where
    pub head_put : (v q f : ℕ) → Put o₀ p₀ (hex_of 2 0) o₁ p₁ → Put o₁ p₁ (hex_of 8 v) o₂ p₂ → Put o₂ p₂ (hex_of 8 q) o₃ p₃ → Put o₃ p₃ (hex_of 2 f) o₄ p₄ → Put o₄ p₄ (LF ∷ []) o₅ p₅
        → Put o₀ p₀ (head_line v q f) o₅ p₅
    unfolding head_line
    head_put v q f a b c d e = put_then _ (put_then _ (put_then _ (put_then _ a b) c) d) e

    module _ {o₆ : List ℕ} {p₆ : ℕ} where
      pub quad_put : (v₀ v₁ v₂ v₃ : ℕ) → Put o₀ p₀ (hex_of 2 2) o₁ p₁ → Put o₁ p₁ (hex_of 8 v₀) o₂ p₂ → Put o₂ p₂ (hex_of 8 v₁) o₃ p₃ → Put o₃ p₃ (hex_of 8 v₂) o₄ p₄
          → Put o₄ p₄ (hex_of 8 v₃) o₅ p₅ → Put o₅ p₅ (LF ∷ []) o₆ p₆ → Put o₀ p₀ (quad_fields v₀ v₁ v₂ v₃) o₆ p₆
      unfolding quad_fields
      quad_put v₀ v₁ v₂ v₃ a b c d e f = put_then _ (put_then _ (put_then _ (put_then _ (put_then _ a b) c) d) e) f

      module _ {o₇ : List ℕ} {p₇ : ℕ} where
        pub vertex_put : (cube word : ℕ) (x y z : Float) → Put o₀ p₀ (hex_of 2 1) o₁ p₁ → Put o₁ p₁ (hex_of 8 cube) o₂ p₂ → Put o₂ p₂ (hex_of 4 word) o₃ p₃
            → Put o₃ p₃ (hex_of 16 (to_bits binary64 x)) o₄ p₄ → Put o₄ p₄ (hex_of 16 (to_bits binary64 y)) o₅ p₅ → Put o₅ p₅ (hex_of 16 (to_bits binary64 z)) o₆ p₆ → Put o₆ p₆ (LF ∷ []) o₇ p₇
            → Put o₀ p₀ (vertex_fields cube word x y z) o₇ p₇
        unfolding vertex_fields
        vertex_put cube word x y z a b c d e f g = put_then _ (put_then _ (put_then _ (put_then _ (put_then _ (put_then _ a b) c) d) e) f) g

-- ---- many lines, and a mesh

module _ {o₀ o₁ o₂ : List ℕ} {p₀ p₁ p₂ : ℕ} where
  pub vertex_more : (words : List ℕ) (offsets : List Float) (v : ℕ) → Put o₀ p₀ (below (vertex_line words offsets) v) o₁ p₁
      → Put o₁ p₁ (vertex_fields (get_or words (2 * v) 0) (get_or words (2 * v + 1) 0) (get_or offsets (3 * v) nan) (get_or offsets (3 * v + 1) nan) (get_or offsets (3 * v + 2) nan)) o₂ p₂
      → Put o₀ p₀ (below (vertex_line words offsets) (v + 1)) o₂ p₂
  vertex_more words offsets v a b = puts_more (vertex_line words offsets) v a (rw (vertex_line_lem words offsets v) at b)

  pub quad_more : (quads : List ℕ) (q : ℕ) → Put o₀ p₀ (below (quad_line quads) q) o₁ p₁
      → Put o₁ p₁ (quad_fields (get_or quads (4 * q) 0) (get_or quads (4 * q + 1) 0) (get_or quads (4 * q + 2) 0) (get_or quads (4 * q + 3) 0)) o₂ p₂
      → Put o₀ p₀ (below (quad_line quads) (q + 1)) o₂ p₂
  quad_more quads q a b = puts_more (quad_line quads) q a (rw (quad_line_lem quads q) at b)

pub mesh_put : (v q c : ℕ) (words : List ℕ) (offsets : List Float) (quads : List ℕ) {o₀ o₁ o₂ o₃ : List ℕ} {p₀ p₁ p₂ p₃ : ℕ} → c ≡ closed_field (finding_of quads)
    → Put o₀ p₀ (head_line v q c) o₁ p₁ → Put o₁ p₁ (below (vertex_line words offsets) v) o₂ p₂ → Put o₂ p₂ (below (quad_line quads) q) o₃ p₃
    → Put o₀ p₀ (mesh_text v q words offsets quads) o₃ p₃
unfolding mesh_text
mesh_put v q c words offsets quads e a b d = put_then _ (put_then _ (rw e at a) b) d
