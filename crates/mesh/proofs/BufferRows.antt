-- What rows 5 and 6 say of a need of v vertices and q quads, and of w, o and l places in the three buffers.
use Prim.Native.Nat.{ℕ, ◌*◌, ◌≤◌, ◌<◌}
use mathlib.Core.Path.{◌≡◌, ap, ◌∙◌}
use mathlib.Core.Bool.{Bool, false, cond, ◌&&◌, and-false}
use lib.Dec.{leb}
use borrow.Author.Tests.{le-leb, lt-leb, leb-true}
use Rattle.laws.proofs.Tests.{and_both}
use Rattle.block.specs.declared.Checked.{Checked}
use Rattle.block.specs.declared.Checked.TheVariants.{Passes}
use Rattle.block.specs.Answer.{in_order, refuses}
use Rattle.block.proofs.Order.{order_refuses, order_passes, order_last, order_first, order_rest}
use Rattle.block.proofs.Rows.{refusal, given_small, unless_none}
use Rattle.mesh.specs.Answer.{vertex_row, quad_row, buffer_rows}

module _ (v q w o l : ℕ) where
  abbrev buffers_of : Checked
  buffers_of = in_order (buffer_rows (record { vertices = v; quads = q }) w o l)

  vertex_short : v ≤ 4294967295 → (leb (2 * v) w && leb (3 * v) o) ≡ false → buffers_of ≡ refusal 5 v
  vertex_short s h = order_refuses (vertex_row v w o) _ _ (ap (λ (b : Bool). cond b Passes (refuses 5 v)) h ∙ ap (refusal 5) (given_small v s))

  pub short_words : v ≤ 4294967295 → w < 2 * v → buffers_of ≡ refusal 5 v
  short_words s h = vertex_short s (ap (λ (b : Bool). b && leb (3 * v) o) (lt-leb (2 * v) w h))

  pub short_offsets : v ≤ 4294967295 → 2 * v ≤ w → o < 3 * v → buffers_of ≡ refusal 5 v
  short_offsets s a h = vertex_short s (ap (λ (b : Bool). leb (2 * v) w && b) (lt-leb (3 * v) o h) ∙ and-false (leb (2 * v) w))

  vertex_roomy : 2 * v ≤ w → 3 * v ≤ o → vertex_row v w o ≡ Passes
  vertex_roomy a b = rw (le-leb (2 * v) w a, le-leb (3 * v) o b)

  pub short_quads : q ≤ 4294967295 → 2 * v ≤ w → 3 * v ≤ o → l < 4 * q → buffers_of ≡ refusal 6 q
  short_quads s a b h =
      order_passes (vertex_row v w o) _ (vertex_roomy a b)
      ∙ order_refuses (quad_row q l) _ _ (ap (λ (b : Bool). cond b Passes (refuses 6 q)) (lt-leb (4 * q) l h) ∙ ap (refusal 6) (given_small q s))

  pub roomy : 2 * v ≤ w → 3 * v ≤ o → 4 * q ≤ l → buffers_of ≡ Passes
  roomy a b h = order_passes (vertex_row v w o) _ (vertex_roomy a b) ∙ order_last (quad_row q l) ∙ ap (λ (b : Bool). cond b Passes (refuses 6 q)) (le-leb (4 * q) l h)

  -- and the other way: both rows pass, so there is room
  pub buffers_pass : buffers_of ≡ Passes → (2 * v ≤ w) × (3 * v ≤ o) × (4 * q ≤ l)
  buffers_pass e =
      let p = and_both (leb (2 * v) w) (leb (3 * v) o) (unless_none _ 5 v (order_first (vertex_row v w o) _ e)) in
      let r = unless_none (leb (4 * q) l) 6 q (order_first (quad_row q l) _ (order_rest (vertex_row v w o) _ e)) in
      (leb-true (2 * v) w p.0, leb-true (3 * v) o p.1, leb-true (4 * q) l r)
