-- The program's output by the verdict on its input: it fits into 112,917 bytes, the promise of `run` fixes what it answers, and the paper's
-- empty input. Assumes nothing.
use Prim.Native.Nat.{ℕ, ◌≤◌}
use mathlib.Core.Path.{◌≡◌, refl, sym, ap, ap₂, ◌∙◌}
use mathlib.Core.List.{List, []}
use native.Mathlib.Nat.{zero-add}
use native.Mathlib.Omega.{arith}
use lib.ListN.{length, take}
use lib.Seq.{length-take-le}
use Rattle.laws.specs.Fixed.{Fixes}
use Rattle.laws.specs.Leading.{leading}
use Rattle.block.specs.declared.Cut.{Cut}
use Rattle.block.specs.declared.Size.{Size}
use Rattle.block.specs.declared.Refusal.{Refusal}
use Rattle.block.specs.declared.Checked.{Checked}
use Rattle.block.specs.declared.Checked.TheVariants.{Passes, Refuses}
use Rattle.block.specs.Answer.{in_order, decided}
use Rattle.block.specs.Rows.{lowest, axis_row}
use Rattle.block.specs.Size.{size_of}
use Rattle.block.proofs.Order.{order_first, order_rest}
use Rattle.cube_rule.specs.Decider.{loops_of}
use Rattle.mesh_rule.proofs.Small.{few_vertices, few_quads}
use Rattle.mesh_rule.specs.Buffers.{mesh_words, mesh_offsets, mesh_quads}
use Rattle.mesh.specs.Answer.{vertex_count, quad_count}
use Rattle.reading.specs.Text.{digits, number_at, right_bytes}
use Rattle.reading.specs.Faults.{fault_at}
use Rattle.reading.specs.Input.{first_line_row, large_row, size_read, cut_read, samples_read, input_rows, input_verdict}
use Rattle.lines.specs.Output.{refusal_line, block_text, output_of, Ran}
use Rattle.laws.specs.Put.{Put}
use Rattle.lines.specs.Steps.{Readable, printed}
use Rattle.reading.proofs.Axes.{AtMostEight, at_most_eight}
use Rattle.lines.proofs.Texts.{refusal_length, mesh_length}
use Rattle.laws.proofs.Puts.{put_over, put_length}

-- ---- by the verdict

-- what is written for an input with these numbers in line 1
abbrev text_for : List ℕ → Size → Cut → List ℕ
text_for bytes n cut = block_text n (samples_read bytes n) cut

abbrev output_for : List ℕ → Size → Cut → List ℕ
output_for bytes n cut = printed (in_order (input_rows bytes n cut)) (text_for bytes n cut)

output_for_lem : (bytes : List ℕ) (nx ny nz t : ℕ) → nx ≡ number_at bytes 0 4 → ny ≡ number_at bytes 4 4 → nz ≡ number_at bytes 8 4 → t ≡ number_at bytes 12 4
    → output_of bytes ≡ output_for bytes (size_of nx ny nz) (record { t = t; noise = 0 })
unfolding output_of
output_for_lem bytes nx ny nz t ex ey ez et = rw (ex, ey, ez, et)

module _ (bytes : List ℕ) (nx ny nz t : ℕ) (ex : nx ≡ number_at bytes 0 4) (ey : ny ≡ number_at bytes 4 4) (ez : nz ≡ number_at bytes 8 4) (et : t ≡ number_at bytes 12 4) where
  -- a row refuses
  pub output_refused : (r : Refusal) → in_order (input_rows bytes (size_of nx ny nz) (record { t = t; noise = 0 })) ≡ Refuses r → refusal_line r ≡ output_of bytes
  unfolding decided
  output_refused r e =
      sym (output_for_lem bytes nx ny nz t ex ey ez et
      ∙ ap (λ (k : Checked). printed k (text_for bytes (size_of nx ny nz) (record { t = t; noise = 0 }))) e)

  -- none does
  pub output_block : in_order (input_rows bytes (size_of nx ny nz) (record { t = t; noise = 0 })) ≡ Passes
      → block_text (size_of nx ny nz) (samples_read bytes (size_of nx ny nz)) (record { t = t; noise = 0 }) ≡ output_of bytes
  unfolding decided
  output_block e =
      sym (output_for_lem bytes nx ny nz t ex ey ez et
      ∙ ap (λ (k : Checked). printed k (text_for bytes (size_of nx ny nz) (record { t = t; noise = 0 }))) e)

  pub readable : in_order (input_rows bytes (size_of nx ny nz) (record { t = t; noise = 0 })) ≡ Passes → Readable nx ny nz t
  readable e =
      let a = order_rest (first_line_row bytes) _ e in
      let l = order_rest (axis_row nx ny nz) _ a in
      record { axes = order_first _ _ a; small = order_first _ _ l; cut = order_first _ _ (order_rest (large_row nx ny nz) _ l) }

-- ---- the longest output

text_fits : (n : Size) (s : List ℕ) (cut : Cut) → AtMostEight n.nx n.ny n.nz → length (block_text n s cut) ≤ 112917
text_fits n s cut h =
    rw (mesh_length (vertex_count n s cut) (quad_count n s cut) (mesh_words loops_of n s cut) (mesh_offsets loops_of n s cut) (mesh_quads loops_of n s cut))
    (omega (arith, few_vertices n s cut h.x h.y h.z, few_quads n s cut h.x h.y h.z))

-- no output is longer
pub output_fits : (bytes : List ℕ) → length (output_of bytes) ≤ 112917
unfolding output_of decided
output_fits bytes = go (input_verdict bytes) refl
  where
    go : (k : Checked) → input_verdict bytes ≡ k → length (printed k (text_for bytes (size_read bytes) (cut_read bytes))) ≤ 112917
    go Passes e =
        text_fits (size_read bytes) (samples_read bytes (size_read bytes)) (cut_read bytes)
        (at_most_eight _ _ _ (order_first _ _ (order_rest (axis_row (size_read bytes).nx (size_read bytes).ny (size_read bytes).nz) _ (order_rest (first_line_row bytes) _ e))))
    go (Refuses r) e = rw (refusal_length r) (omega arith)

-- ---- the promise

-- the output put at the start of a buffer that has room for it
pub ran : (bytes : List ℕ) {out text out' : List ℕ} {r : ℕ} → 112917 ≤ length out → Put out 0 text out' r → text ≡ output_of bytes
    → Ran bytes out r out' × ((r ≤ length out') × (r ≡ length (take r out')))
ran bytes {out} {text} {out'} {r} room p e =
    let fits : length text ≤ 112917 = rw e (output_fits bytes) in
    let behind : r ≡ length text = p.behind ∙ zero-add (length text) in
    let in-out : r ≤ length out' = omega (arith, fits, behind, put_length p, room) in (
      record { count = behind ∙ ap length e; text = rw e at (put_over p (omega (arith, fits, room))) },
      (in-out, sym (length-take-le r out' in-out)),
    )

-- any two outcomes that the promise of `run` allows, its answer and its buffer at exit, are equal
pub run_fixed : (bytes out : List ℕ) → Fixes (λ (x : ℕ × List ℕ). Ran bytes out x.0 x.1)
run_fixed bytes out a b p q = ap₂ (λ (n : ℕ) (l : List ℕ). (n, l)) (p.count ∙ sym q.count) (p.text ∙ sym q.text)

-- ---- the paper's example

pub empty_input : output_of [] ≡ refusal_line (record { number = 8; value = 1 })
unfolding output_of decided in_order fault_at right_bytes leading digits lowest
empty_input = refl
