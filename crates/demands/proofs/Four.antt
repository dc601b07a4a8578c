-- No entry point gives number 4, and no C caller finds it: the table of refusals has no such row any more.
use Prim.Native.Nat.{ℕ, ◌*◌, ◌≤◌, ◌<◌}
use mathlib.Core.Path.{◌≡◌, refl, ap, sym, ◌∙◌}
use mathlib.Core.Logic.{◌⊎◌, inl, inr}
use mathlib.Core.List.{List, [], ◌∷◌}
use native.Mathlib.Nat.{add-zero}
use native.Mathlib.Omega.{arith}
use lib.Ieee.{Float}
use lib.ListN.{length, get_or}
use Rattle.laws.specs.Filled.{filled}
use Rattle.block.specs.declared.CeilingCount.{CeilingCount}
use Rattle.block.specs.Answer.{Answer, accepted, refused}
use Rattle.block.specs.Ceilings.{ceilings_in}
use Rattle.block.specs.Grey.{cut_of}
use Rattle.block.proofs.Order.{refused_exactly}
use Rattle.place.specs.declared.Crossing.{Crossing}
use Rattle.place.specs.Crossing.{said_edge, edge_answer, EdgeAnswered}
use Rattle.cell.specs.Answer.{said_cube}
use Rattle.mesh.specs.declared.Totals.{Totals}
use Rattle.mesh.specs.Answer.{said_counts, told_counts}
use Rattle.closed.specs.declared.Closure.{Closure}
use Rattle.closed.specs.Closed.{said_closure}
use Rattle.closed.specs.Chains.{ClosedWith}
use Rattle.pieces.specs.declared.Pieced.{Pieced}
use Rattle.pieces.specs.Answer.{said_pieces, PiecesFound}
use Rattle.ply.specs.declared.Spacing.{Spacing}
use Rattle.ply.specs.declared.Filed.{Filed}
use Rattle.ply.specs.Answer.{said_file, PlyWritten}
use Rattle.room.specs.Answer.{said_crossed}
use Rattle.thresholds.specs.declared.RowAnswer.{RowAnswer}
use Rattle.thresholds.specs.Answer.{said_row, RowAnswered}
use Rattle.reading.proofs.Verdicts.{run_numbers}
use Rattle.demands.specs.Marks.{NotFour, FourNever}
use Rattle.demands.proofs.Allowed.{counts_allows}
use Rattle.foundry.specs.declared.Judgement.{Judgement}
use Rattle.foundry.specs.Answer.{said_judgement, MeshJudged}
use Rattle.demands.proofs.Files.{PlyNumber, ply_numbers}
use Rattle.demands.proofs.Foundry.{JudgeNumber, judge_numbers}
use Rattle.demands.proofs.Numbers.{size_numbers, edge_numbers, cube_numbers, counts_numbers, mesh_numbers, closed_numbers, closed_with_numbers}
use Rattle.demands.proofs.Pieces.{PiecesNumber, pieces_numbers}
use Rattle.demands.proofs.Places.{four_untold}
use Rattle.demands.proofs.Refusals.{run_refuses}
use Rattle.demands.proofs.Room.{crossed_numbers}
use Rattle.block.specs.declared.Cut.{Cut}
use Rattle.mesh.specs.declared.Counted.{Counted}
use Rattle.by_planes.specs.declared.Stream.{Stream}
use Rattle.by_planes.specs.declared.Started.{Started}
use Rattle.by_planes.specs.declared.Taken.{Taken}
use Rattle.by_planes.specs.Answer.{said_start, said_taken, StartAnswered, FinishAnswered}
use Rattle.by_planes.specs.Left.{PlaneTaken}
use Rattle.told.specs.Numbers.{state_of}
use Rattle.demands.proofs.PlaneRows.{PlaneNumber, start_numbers, plane_numbers, end_numbers}
use Rattle.readings.specs.Reading.{reading_of, said_reading}
use Rattle.readings_mesh.specs.Answer.{ReadingsCounted, ReadingsMeshed}
use Rattle.demands.proofs.Readings.{FaultNumber, ReadingsNumber, reading_numbers, reading_refuses, readings_counts_numbers, readings_mesh_numbers}
use Rattle.demands.proofs.Thresholds.{RowNumber, row_numbers, row_is_one_by_one}
use Rattle.demands.proofs.RowsTold.{row_told_answered}

edge_other : (p q t : ℕ) (r : Crossing) → EdgeAnswered p q t r → NotFour (said_edge r)
unfolding edge_answer
edge_other p q t r m x e f = omega (arith, f, edge_numbers t x ((refused_exactly _ _ _ m x).0 e))

of_mesh : (n : ℕ) → ((1 ≤ n) × (n ≤ 3)) ⊎ ((5 ≤ n) × (n ≤ 6)) → n ≡ 4 → ⊥
of_mesh n (inl h) e = omega (arith, h.1, e)
of_mesh n (inr h) e = omega (arith, h.0, e)

of_run : (n : ℕ) → (n ≡ 1) ⊎ ((n ≡ 3) ⊎ ((8 ≤ n) × (n ≤ 12))) → n ≡ 4 → ⊥
of_run n (inl h) e = omega (arith, h, e)
of_run n (inr (inl h)) e = omega (arith, h, e)
of_run n (inr (inr h)) e = omega (arith, h.0, e)

of_ply : (n : ℕ) → PlyNumber n → n ≡ 4 → ⊥
of_ply n (inl h) e = omega (arith, h, e)
of_ply n (inr (inl h)) e = omega (arith, h, e)
of_ply n (inr (inr (inl h))) e = omega (arith, h.0, e)
of_ply n (inr (inr (inr h))) e = omega (arith, h.0, e)

of_closed : (n : ℕ) → (n ≡ 7) ⊎ (n ≡ 15) → n ≡ 4 → ⊥
of_closed n (inl h) e = omega (arith, h, e)
of_closed n (inr h) e = omega (arith, h, e)

closed_with_other : (quads work : List ℕ) (r : Closure) (work' : List ℕ) → ClosedWith quads work r work' → NotFour (said_closure r)
closed_with_other quads work r work' m x e = of_closed x.number (closed_with_numbers quads (length work) x ((refused_exactly _ _ _ m.answer x).0 e))

of_pieces : (n : ℕ) → PiecesNumber n → n ≡ 4 → ⊥
of_pieces n (inl h) e = omega (arith, h, e)
of_pieces n (inr (inl h)) e = omega (arith, h, e)
of_pieces n (inr (inr h)) e = omega (arith, h, e)

pieces_other : (n : ℕ) (quads piece size : List ℕ) (r : Pieced) (piece' size' : List ℕ) → PiecesFound n quads piece size r piece' size' → NotFour (said_pieces r)
pieces_other n quads piece size r piece' size' m x e = of_pieces x.number (pieces_numbers n quads (length piece) (length size) x ((refused_exactly _ _ _ m.answer x).0 e))

of_row : (n : ℕ) → RowNumber n → n ≡ 4 → ⊥
of_row n (inl h) e = omega (arith, h.1, e)
of_row n (inr h) e = omega (arith, h.0, e)

row_other : (nx ny nz : ℕ) (s ts : List ℕ) (noise : ℕ) (b : List ℕ) (r : RowAnswer) (b' : List ℕ) → RowAnswered nx ny nz s ts noise b r b' → NotFour (said_row r)
row_other nx ny nz s ts noise b r b' m x e = of_row x.number (row_numbers nx ny nz s ts (length b) x ((refused_exactly _ _ _ m.answer x).0 e))

-- the first number of counts that are told
first_other : (a : Answer Totals) → NotFour a → get_or (told_counts a) 0 0 ≡ 4 → ⊥
unfolding filled
first_other (accepted c) h e = omega (arith, e)
first_other (refused x) h e = h x refl e

row_each : (nx ny nz : ℕ) (s ts : List ℕ) (noise : ℕ) (b : List ℕ) (r : RowAnswer) (b' : List ℕ) → RowAnswered nx ny nz s ts noise b r b' → said_row r ≡ accepted tt → (i : ℕ) → i < length ts → get_or b' (3 * i) 0 ≡ 4 → ⊥
row_each nx ny nz s ts noise b r b' m answered i h e =
    let cut = cut_of (get_or ts i 0) noise in
    let c = counts_allows nx ny nz s cut in
    first_other (said_counts c.0) (λ x f g. omega (arith, g, (counts_numbers nx ny nz s cut x ((refused_exactly _ _ _ c.1 x).0 f)).1))
    (sym (row_is_one_by_one nx ny nz s ts noise b r b' m answered i h c.0 c.1 0 (omega arith)) ∙ ap (λ (k : ℕ). get_or b' k 0) (add-zero (3 * i)) ∙ e)

ply_other : (nx ny nz : ℕ) (words : List ℕ) (offsets : List Float) (quads : List ℕ) (s : Spacing) (file : List ℕ) (r : Filed) (file' : List ℕ)
    → PlyWritten nx ny nz words offsets quads s file r file' → NotFour (said_file r)
ply_other nx ny nz words offsets quads s file r file' m x e = of_ply x.number (ply_numbers nx ny nz words offsets quads s (length file) x ((refused_exactly _ _ _ m.answer x).0 e))

of_start : (n : ℕ) → (n ≡ 1) ⊎ ((n ≡ 3) ⊎ (n ≡ 15)) → n ≡ 4 → ⊥
of_start n (inl h) e = omega (arith, h, e)
of_start n (inr (inl h)) e = omega (arith, h, e)
of_start n (inr (inr h)) e = omega (arith, h, e)

start_other : (nx ny nz : ℕ) (cut : Cut) (room : ℕ) (r : Started) → StartAnswered nx ny nz cut room r → NotFour (said_start r)
start_other nx ny nz cut room r m x e = of_start x.number (start_numbers nx ny nz cut room x ((refused_exactly _ _ _ m x).0 e))

of_plane : (n : ℕ) → PlaneNumber n → n ≡ 4 → ⊥
of_plane n (inl h) e = omega (arith, h.1, e)
of_plane n (inr (inl h)) e = omega (arith, h.0, e)
of_plane n (inr (inr (inl h))) e = omega (arith, h, e)
of_plane n (inr (inr (inr h))) e = omega (arith, h, e)

plane_other : {st : Stream} {plane work w : List ℕ} {o : List Float} {q : List ℕ} {r : Taken} {work' w' : List ℕ} {o' : List Float} {q' : List ℕ} → PlaneTaken st plane work w o q r work' w' o' q' → NotFour (said_taken r)
plane_other m x e = of_plane x.number (plane_numbers m x e)

finish_other : (st : Stream) (r : Counted) → FinishAnswered st r → NotFour (said_counts r)
finish_other st r m x e f = omega (arith, f, end_numbers st x ((refused_exactly _ _ _ m x).0 e))

of_readings : (n : ℕ) → ReadingsNumber n → n ≡ 4 → ⊥
of_readings n (inl h) e = omega (arith, h.1, e)
of_readings n (inr (inl h)) e = omega (arith, h.0, e)
of_readings n (inr (inr h)) e = omega (arith, h.0, e)

of_faults : (n : ℕ) → ((1 ≤ n) × (n ≤ 3)) ⊎ FaultNumber n → n ≡ 4 → ⊥
of_faults n (inl h) e = omega (arith, h.1, e)
of_faults n (inr h) e = omega (arith, h.0, e)

reading_other : (x : Float) → NotFour (said_reading (reading_of x))
reading_other x y e f = omega (arith, f, (reading_numbers 0 (reading_of x) y ((reading_refuses x (reading_of x) refl y).0 e)).0)

readings_counts_other : (nx ny nz : ℕ) (xs : List Float) (cut : Cut) (r : Counted) → ReadingsCounted nx ny nz xs cut r → NotFour (said_counts r)
readings_counts_other nx ny nz xs cut r m x e = of_faults x.number (readings_counts_numbers nx ny nz xs cut x ((refused_exactly _ _ _ m x).0 e))

readings_mesh_other : (nx ny nz : ℕ) (xs : List Float) (cut : Cut) (w : List ℕ) (o : List Float) (q : List ℕ) (r : Counted) (w' : List ℕ) (o' : List Float) (q' : List ℕ) → ReadingsMeshed nx ny nz xs cut w o q r w' o' q' → NotFour (said_counts r)
readings_mesh_other nx ny nz xs cut w o q r w' o' q' m x e = of_readings x.number (readings_mesh_numbers nx ny nz xs cut (length w) (length o) (length q) x ((refused_exactly _ _ _ m.answer x).0 e))

of_judge : (n : ℕ) → JudgeNumber n → n ≡ 4 → ⊥
of_judge n (inl h) e = omega (arith, h.1, e)
of_judge n (inr (inl h)) e = omega (arith, h, e)
of_judge n (inr (inr (inl h))) e = omega (arith, h, e)
of_judge n (inr (inr (inr h))) e = omega (arith, h, e)

judge_other : (nx ny nz : ℕ) (s : List ℕ) (cut : Cut) (words : List ℕ) (offsets : List Float) (quads : List ℕ) (r : Judgement)
    → MeshJudged nx ny nz s cut words offsets quads r → NotFour (said_judgement r)
judge_other nx ny nz s cut words offsets quads r m x e = of_judge x.number (judge_numbers nx ny nz s cut words offsets quads x ((refused_exactly _ _ _ m x).0 e))

pub four_never : FourNever
four_never = record {
  size = λ nx ny nz r m x e f. omega (arith, f, size_numbers nx ny nz x ((refused_exactly _ _ _ m x).0 e));
  edge = edge_other;
  cube = λ corners cut r m x e f. omega (arith, f, cube_numbers cut x ((refused_exactly _ _ _ m.found x).0 e));
  crossed = λ nx ny nz s cut r m x e f. omega (arith, f, (crossed_numbers nx ny nz s cut r m x e).1);
  counts = λ nx ny nz s cut r m x e f. omega (arith, f, (counts_numbers nx ny nz s cut x ((refused_exactly _ _ _ m x).0 e)).1);
  row = λ nx ny nz s ts noise b r b' m. (row_other nx ny nz s ts noise b r b' m, row_each nx ny nz s ts noise b r b' m);
  mesh = λ nx ny nz s cut w o q r w' o' q' m x e. of_mesh x.number (mesh_numbers nx ny nz s cut (length w) (length o) (length q) x ((refused_exactly _ _ _ m.answer x).0 e));
  reading = reading_other;
  readings_counts = readings_counts_other;
  readings_mesh = readings_mesh_other;
  start = start_other;
  plane = λ st plane work w o q r work' w' o' q' m. plane_other m;
  finish = finish_other;
  closed = λ quads r m x e f. omega (arith, f, closed_numbers quads x ((refused_exactly _ _ _ m x).0 e));
  closed_with = closed_with_other;
  judge = judge_other;
  pieces = pieces_other;
  ply = ply_other;
  run = λ bytes out r out' m v h p. of_run 4 (run_numbers bytes _ ((run_refuses bytes out r out' m (record { number = 4; value = v }) (omega arith) h).0 p)) refl;
  ceilings_told = λ s place place' m. four_untold 3 (λ (c : CeilingCount). c.count ∷ c.lowest ∷ []) (accepted (ceilings_in s)) place place' m (λ x e f. let z : ◌≡◌ {A = ℕ} 0 1 = cc in omega arith);
  edge_told = λ p q t f place f' place' m. four_untold 3 _ (said_edge m.answer) place place' m.is_told (edge_other p q t m.answer m.answered);
  cube_told = λ corners t noise w o place w' o' place' m. four_untold 3 _ (said_cube m.answer.found) place place' m.is_told (λ x e f. omega (arith, f, cube_numbers (cut_of t noise) x ((refused_exactly _ _ _ m.answered.found x).0 e)));
  crossed_told = λ nx ny nz s t place place' m. four_untold 3 _ (said_crossed m.answer) place place' m.is_told (λ x e f. omega (arith, f, (crossed_numbers nx ny nz s (cut_of t 0) m.answer m.answered x e).1));
  counts_told = λ nx ny nz s t noise place place' m. four_untold 3 _ (said_counts m.answer) place place' m.is_told (λ x e f. omega (arith, f, (counts_numbers nx ny nz s (cut_of t noise) x ((refused_exactly _ _ _ m.answered x).0 e)).1));
  row_told = λ nx ny nz s ts noise b place b' place' m. (
    four_untold 3 _ (said_row m.answer) place place' m.is_told (row_other nx ny nz s ts noise b m.answer b' m.answered),
    λ z. row_each nx ny nz s ts noise b m.answer b' m.answered (row_told_answered nx ny nz s ts noise b place b' place' m z),
  );
  mesh_told = λ nx ny nz s t noise w o q place w' o' q' place' m. four_untold 3 _ (said_counts m.answer) place place' m.is_told (λ x e. of_mesh x.number (mesh_numbers nx ny nz s (cut_of t noise) (length w) (length o) (length q) x ((refused_exactly _ _ _ m.meshed.answer x).0 e)));
  reading_told = λ x place place' m. four_untold 3 _ (said_reading (reading_of x)) place place' m (reading_other x);
  readings_counts_told = λ nx ny nz xs t noise place place' m. four_untold 3 _ (said_counts m.answer) place place' m.is_told (readings_counts_other nx ny nz xs (cut_of t noise) m.answer m.answered);
  readings_mesh_told = λ nx ny nz xs t noise w o q place w' o' q' place' m. four_untold 3 _ (said_counts m.answer) place place' m.is_told (readings_mesh_other nx ny nz xs (cut_of t noise) w o q m.answer w' o' q' m.meshed);
  start_told = λ nx ny nz t noise work state place state' place' m. four_untold 3 _ (said_start m.answer) place place' m.is_told (start_other nx ny nz (cut_of t noise) (length work) m.answer m.answered);
  plane_told = λ state plane work w o q place state' work' w' o' q' place' m. four_untold 3 _ (said_taken m.answer) place place' m.is_told (plane_other m.answered);
  end_told = λ state place place' m. four_untold 3 _ (said_counts m.answer) place place' m.is_told (finish_other (state_of state) m.answer m.answered);
  closed_told = λ quads place place' m. four_untold 4 _ (said_closure m.answer) place place' m.is_told (λ x e f. omega (arith, f, closed_numbers quads x ((refused_exactly _ _ _ m.answered x).0 e)));
  closed_with_told = λ quads work place work' place' m. four_untold 4 _ (said_closure m.answer) place place' m.is_told (closed_with_other quads work m.answer work' m.answered);
  judge_told = λ nx ny nz s t noise words offsets quads place place' m. four_untold 4 _ (said_judgement m.answer) place place' m.is_told (judge_other nx ny nz s (cut_of t noise) words offsets quads m.answer m.answered);
  pieces_told = λ n quads piece size place piece' size' place' m. four_untold 3 _ (said_pieces m.answer) place place' m.is_told (pieces_other n quads piece size m.answer piece' size' m.answered);
  ply_told = λ nx ny nz words offsets quads s file bytes place file' bytes' place' m. four_untold 3 _ (said_file m.answer) place place' m.is_told (ply_other nx ny nz words offsets quads s file m.answer file' m.written);
}
