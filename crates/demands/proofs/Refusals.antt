-- Demand 1, of an entry point from its promise: a refusal is given exactly when it is that of the first row that holds, and anything else exactly when none
-- does. (Of `crossed` see Room.antt, of `counts_row` Thresholds.antt, of `pieces` Pieces.antt, of `write` Files.antt.) After a refusal of `mesh` or `closed_with` every buffer is as it was.
use Prim.Native.Nat.{ℕ, ◌≤◌, ◌<◌}
use mathlib.Core.Path.{◌≡◌, refl, sym, ap, ◌∙◌}
use mathlib.Core.Logic.{◌↔◌, ◌⊎◌, inl, inr}
use mathlib.Core.List.{List, [], ◌∷◌, ◌++◌}
use native.Mathlib.Omega.{arith}
use lib.ListN.{length}
use lib.Ieee.{Float}
use Rattle.laws.specs.Below.{over}
use Rattle.block.specs.declared.Cut.{Cut}
use Rattle.block.specs.declared.Refusal.{Refusal}
use Rattle.block.specs.declared.Size.{Size}
use Rattle.block.specs.declared.Sized.{Sized}
use Rattle.block.specs.declared.Checked.{Checked}
use Rattle.block.specs.declared.Checked.TheVariants.{Passes, Refuses}
use Rattle.block.specs.Answer.{Answer, accepted, refused, in_order, First, decided, judged}
use Rattle.block.specs.Grey.{cut_of}
use Rattle.block.specs.Rows.{axis_row, threshold_row}
use Rattle.block.specs.Size.{size_of, said_size, SizeMade}
use Rattle.block.proofs.Order.{order_last, first_exactly, refused_exactly, accepted_exactly, written_refused}
use Rattle.cube_rule.specs.Decider.{loops_of}
use Rattle.place.specs.declared.Crossing.{Crossing}
use Rattle.place.specs.Crossing.{crossing, said_edge, edge_answer, EdgeAnswered}
use Rattle.cell.specs.declared.CubeAnswer.{CubeAnswer}
use Rattle.cell.specs.Answer.{said_cube, CubeAnswered}
use Rattle.mesh.specs.declared.Totals.{Totals}
use Rattle.mesh.specs.declared.Counted.{Counted}
use Rattle.block.specs.Block.{block_rows, block_verdict}
use Rattle.mesh.specs.Answer.{counts_of, said_counts, CountsAnswered, buffer_rows, mesh_verdict, Meshed}
use Rattle.closed.specs.declared.Closure.{Closure}
use Rattle.closed.specs.Closed.{Finding, finding_of, said_closure, ClosedAnswered}
use Rattle.closed.specs.Chains.{work_rows, ClosedWith}
use Rattle.lists.specs.Rows.{length_row}
use Rattle.reading.specs.Input.{size_read, cut_read, samples_read, input_verdict}
use Rattle.reading.proofs.Verdicts.{run_numbers, run_values}
use Rattle.lines.specs.Output.{refusal_line, block_text, output_of, Prints, Ran}
use Rattle.demands.proofs.RefusalText.{mesh_no_refusal, refusal_same, prints_one}

-- ---- an answer that is judged by rows in order

module _ {A : Type 0} (ks : List Checked) (a : A) (said : Answer A) (promise : said ≡ judged (in_order ks) a) where
  pub refuses_by : (x : Refusal) → (said ≡ refused x) ↔ First ks x
  refuses_by x = (
    λ e. (first_exactly ks x).0 ((refused_exactly (in_order ks) a said promise x).0 e),
    λ f. (refused_exactly (in_order ks) a said promise x).1 ((first_exactly ks x).1 f),
  )

-- where there is one row only, anything else is answered exactly when it passes
accepts_by : {A : Type 0} (k : Checked) (a : A) (said : Answer A) → said ≡ judged (in_order (k ∷ [])) a → (b : A) → (said ≡ accepted b) ↔ ((k ≡ Passes) × (b ≡ a))
accepts_by k a said promise b = (
  λ e. let h = (accepted_exactly _ _ _ promise b).0 e in (sym (order_last k) ∙ h.0, h.1),
  λ h. (accepted_exactly _ _ _ promise b).1 (order_last k ∙ h.0, h.1),
)

-- the size
module _ (nx ny nz : ℕ) (r : Sized) (promise : SizeMade nx ny nz r) where
  pub size_refuses : (x : Refusal) → (said_size r ≡ refused x) ↔ First (axis_row nx ny nz ∷ []) x
  size_refuses = refuses_by _ _ _ promise

  pub size_accepts : (n : Size) → (said_size r ≡ accepted n) ↔ ((axis_row nx ny nz ≡ Passes) × (n ≡ size_of nx ny nz))
  size_accepts = accepts_by _ _ _ promise

-- the edge question
module _ (p q t : ℕ) (r : Crossing) (promise : EdgeAnswered p q t r) where
  pub edge_refuses : (x : Refusal) → (said_edge r ≡ refused x) ↔ First (threshold_row (cut_of t 0) ∷ []) x
  unfolding edge_answer
  edge_refuses = refuses_by _ _ _ promise

  pub edge_accepts : (c : List Float) → (said_edge r ≡ accepted c) ↔ ((threshold_row (cut_of t 0) ≡ Passes) × (c ≡ crossing (cut_of t 0) p q))
  unfolding edge_answer
  edge_accepts = accepts_by _ _ _ promise

-- the cube question
module _ (corners : List ℕ) (cut : Cut) (r : CubeAnswer) (promise : CubeAnswered corners cut r) where
  pub cube_refuses : (x : Refusal) → (said_cube r.found ≡ refused x) ↔ First (threshold_row cut ∷ []) x
  cube_refuses = refuses_by _ _ _ promise.found

  pub cube_accepts : (n : ℕ) → (said_cube r.found ≡ accepted n) ↔ ((threshold_row cut ≡ Passes) × (n ≡ length (loops_of cut corners)))
  cube_accepts = accepts_by _ _ _ promise.found

-- counting
module _ (nx ny nz : ℕ) (s : List ℕ) (cut : Cut) (r : Counted) (promise : CountsAnswered nx ny nz s cut r) where
  pub counts_refuses : (x : Refusal) → (said_counts r ≡ refused x) ↔ First (axis_row nx ny nz ∷ block_rows (size_of nx ny nz) s cut) x
  counts_refuses = refuses_by _ _ _ promise

  pub counts_accepts : (c : Totals) → (said_counts r ≡ accepted c) ↔ ((block_verdict nx ny nz s cut ≡ Passes) × (c ≡ counts_of (size_of nx ny nz) s cut))
  counts_accepts = accepted_exactly _ _ _ promise

-- the closed question
module _ (quads : List ℕ) (r : Closure) (promise : ClosedAnswered quads r) where
  pub closed_refuses : (x : Refusal) → (said_closure r ≡ refused x) ↔ First (length_row quads ∷ []) x
  closed_refuses = refuses_by _ _ _ promise

  pub closed_accepts : (f : Finding) → (said_closure r ≡ accepted f) ↔ ((length_row quads ≡ Passes) × (f ≡ finding_of quads))
  closed_accepts = accepts_by _ _ _ promise

-- the same with lent memory, which a refusal keeps
module _ (quads work : List ℕ) (r : Closure) (work' : List ℕ) (promise : ClosedWith quads work r work') where
  pub closed_with_refuses : (x : Refusal) → (said_closure r ≡ refused x) ↔ First (work_rows quads (length work)) x
  closed_with_refuses = refuses_by _ _ _ promise.answer

  pub closed_with_accepts : (f : Finding) → (said_closure r ≡ accepted f) ↔ ((in_order (work_rows quads (length work)) ≡ Passes) × (f ≡ finding_of quads))
  closed_with_accepts = accepted_exactly _ _ _ promise.answer

  pub closed_with_keeps : (x : Refusal) → said_closure r ≡ refused x → work' ≡ work
  closed_with_keeps x e = promise.chained ∙ written_refused _ _ work x ((refused_exactly _ _ _ promise.answer x).0 e)

-- ---- meshing

module _ (nx ny nz : ℕ) (s : List ℕ) (cut : Cut) (w : List ℕ) (o : List Float) (q : List ℕ) (r : Counted) (w' : List ℕ) (o' : List Float) (q' : List ℕ)
    (promise : Meshed nx ny nz s cut w o q r w' o' q') where
  pub mesh_refuses : (x : Refusal) → (said_counts r ≡ refused x)
      ↔ First (axis_row nx ny nz ∷ block_rows (size_of nx ny nz) s cut ++ buffer_rows (counts_of (size_of nx ny nz) s cut) (length w) (length o) (length q)) x
  mesh_refuses = refuses_by _ _ _ promise.answer

  pub mesh_accepts : (c : Totals)
      → (said_counts r ≡ accepted c) ↔ ((mesh_verdict nx ny nz s cut (length w) (length o) (length q) ≡ Passes) × (c ≡ counts_of (size_of nx ny nz) s cut))
  mesh_accepts = accepted_exactly _ _ _ promise.answer

-- "All lent buffers keep their contents."
pub mesh_keeps : (nx ny nz : ℕ) (s : List ℕ) (cut : Cut) (w : List ℕ) (o : List Float) (q : List ℕ) (r : Counted) (w' : List ℕ) (o' : List Float) (q' : List ℕ)
    → Meshed nx ny nz s cut w o q r w' o' q' → (x : Refusal) → said_counts r ≡ refused x → (w' ≡ w) × (o' ≡ o) × (q' ≡ q)
mesh_keeps nx ny nz s cut w o q r w' o' q' promise x e =
    let k : mesh_verdict nx ny nz s cut (length w) (length o) (length q) ≡ Refuses x = (refused_exactly _ _ _ promise.answer x).0 e in
    (promise.words ∙ written_refused _ _ w x k, promise.offsets ∙ written_refused _ _ o x k, promise.quads ∙ written_refused _ _ q x k)

-- ---- the program

-- two digits are enough for its numbers
told_number_lem : (x : Refusal) → (x.number ≡ 1) ⊎ ((x.number ≡ 3) ⊎ ((8 ≤ x.number) × (x.number ≤ 12))) → x.number < 256
told_number_lem x (inl e) = omega (arith, e)
told_number_lem x (inr (inl e)) = omega (arith, e)
told_number_lem x (inr (inr h)) = omega (arith, h.1)

module _ (bytes : List ℕ) where
  -- the text of the block that was read
  abbrev text_read : List ℕ
  text_read = block_text (size_read bytes) (samples_read bytes (size_read bytes)) (cut_read bytes)

  output_by : (k : Checked) → input_verdict bytes ≡ k → output_of bytes ≡ decided k text_read refusal_line
  unfolding output_of
  output_by k e = ap (λ (j : Checked). decided j text_read refusal_line) e

  output_refused : (x : Refusal) → input_verdict bytes ≡ Refuses x → output_of bytes ≡ refusal_line x
  unfolding decided
  output_refused x e = output_by (Refuses x) e

  output_accepted : input_verdict bytes ≡ Passes → output_of bytes ≡ text_read
  unfolding decided
  output_accepted e = output_by Passes e

  -- an input is refused, or it is not
  either : (P : Type 0) → ((y : Refusal) → input_verdict bytes ≡ Refuses y → P) → (input_verdict bytes ≡ Passes → P) → P
  either P some none = go (input_verdict bytes) refl
    where
      go : (k : Checked) → input_verdict bytes ≡ k → P
      go Passes e = none e
      go (Refuses y) e = some y e

  module _ (out : List ℕ) (r : ℕ) (out' : List ℕ) (promise : Ran bytes out r out') where
    prints : (text : List ℕ) → output_of bytes ≡ text → Prints text out r out'
    prints text e = record { count = promise.count ∙ ap length e; text = promise.text ∙ ap (λ (xs : List ℕ). over xs out) e }

    printed_is : (text : List ℕ) → Prints text out r out' → output_of bytes ≡ text
    printed_is text p = prints_one (prints (output_of bytes) refl) p

    -- the line of a refusal is printed exactly when the checks refuse so
    pub run_refuses : (x : Refusal) → x.number < 256 → x.value ≤ 4294967295 → Prints (refusal_line x) out r out' ↔ (input_verdict bytes ≡ Refuses x)
    run_refuses x n v = (there, λ e. prints (refusal_line x) (output_refused x e))
      where
        there : Prints (refusal_line x) out r out' → input_verdict bytes ≡ Refuses x
        there p =
            either (input_verdict bytes ≡ Refuses x)
            (λ y e. e ∙ ap Refuses (refusal_same y x (told_number_lem y (run_numbers bytes y e)) (run_values bytes y e) n v (sym (output_refused y e) ∙ printed_is (refusal_line x) p)))
            (λ e. absurd (mesh_no_refusal _ _ _ _ _ x (sym (output_accepted e) ∙ printed_is (refusal_line x) p)))

    -- and the mesh of the block exactly when they pass
    pub run_accepts : Prints (block_text (size_read bytes) (samples_read bytes (size_read bytes)) (cut_read bytes)) out r out' ↔ (input_verdict bytes ≡ Passes)
    run_accepts = (there, λ e. prints text_read (output_accepted e))
      where
        there : Prints text_read out r out' → input_verdict bytes ≡ Passes
        there p =
            either (input_verdict bytes ≡ Passes)
            (λ y e. absurd (mesh_no_refusal _ _ _ _ _ y (sym (printed_is text_read p) ∙ output_refused y e)))
            (λ e. e)
