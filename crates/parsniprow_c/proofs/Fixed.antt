-- What a C caller finds is fixed: any two outcomes that a promise allows are equal.
use Prim.Native.Nat.{ℕ, ◌<◌}
use mathlib.Core.Path.{◌≡◌, ap, ap₂, sym, ◌∙◌}
use mathlib.Core.List.{List}
use lib.Ieee.{Float}
use lib.ListN.{length}
use Rattle.laws.specs.Fixed.{Fixes}
use Rattle.laws.proofs.Fixed.{equation_fixes}
use Rattle.block.specs.Answer.{accepted}
use Rattle.block.specs.Ceilings.{ceilings_in}
use Rattle.block.specs.Grey.{cut_of}
use Rattle.place.specs.declared.Crossing.{Crossing}
use Rattle.place.specs.Crossing.{said_edge}
use Rattle.place.proofs.Fixed.{edge_fixed}
use Rattle.cell.specs.declared.CubeAnswer.{CubeAnswer}
use Rattle.cell.specs.Answer.{said_cube}
use Rattle.cell.proofs.Answers.{cube_fixed}
use Rattle.mesh_rule.specs.Buffers.{triples}
use Rattle.mesh.specs.declared.Counted.{Counted}
use Rattle.mesh.specs.Answer.{said_counts, told_counts}
use Rattle.mesh.proofs.Verdicts.{counts_fixed, mesh_fixed}
use Rattle.closed.specs.declared.Closure.{Closure}
use Rattle.closed.specs.Closed.{said_closure}
use Rattle.closed.proofs.Fixed.{closed_fixed, closed_with_fixed}
use Rattle.pieces.specs.declared.Pieced.{Pieced}
use Rattle.pieces.specs.Answer.{said_pieces}
use Rattle.pieces.proofs.Fixed.{pieces_fixed}
use Rattle.ply.specs.declared.Spacing.{Spacing}
use Rattle.ply.specs.declared.Filed.{Filed}
use Rattle.ply.specs.Answer.{said_file}
use Rattle.ply.proofs.Fixed.{ply_fixed}
use Rattle.readings.specs.Reading.{reading_of, said_reading}
use Rattle.readings_mesh.proofs.Fixed.{readings_counts_fixed, readings_mesh_fixed}
use Rattle.room.specs.declared.Edged.{Edged}
use Rattle.room.specs.Answer.{said_crossed}
use Rattle.foundry.specs.declared.Judgement.{Judgement}
use Rattle.foundry.specs.Answer.{said_judgement}
use Rattle.foundry.proofs.Fixed.{judge_fixed}
use Rattle.room.proofs.Fixed.{crossed_fixed}
use Rattle.by_planes.specs.declared.Started.{Started}
use Rattle.by_planes.specs.declared.Taken.{Taken}
use Rattle.by_planes.specs.Answer.{size_in, plane_of, said_start, said_taken}
use Rattle.by_planes.specs.Left.{Left}
use Rattle.by_planes.proofs.Fixed.{start_fixed, finish_fixed, plane_fixed}
use Rattle.thresholds.specs.declared.RowAnswer.{RowAnswer}
use Rattle.thresholds.specs.Answer.{said_row}
use Rattle.thresholds.proofs.Fixed.{row_fixed}
use Rattle.parsniprow_c.specs.Told.{tell_over, CeilingsTold, ReadingTold, EdgeTold, CubeTold, CrossedTold, CountsTold, RowTold, MeshTold, ReadingsCountsTold, ReadingsMeshTold, state_after, growth_after, StartTold, PlaneTold, EndTold, ClosedTold, ClosedWithTold, JudgeTold, PiecesTold, PlyTold}
use Rattle.told.specs.Numbers.{told_ceilings, told_edge, told_fraction, told_number, told_closed, told_judgement, told_pieces, told_length, told_nothing, told_growth, state_of}

pub ceilings_told_fixed : (samples place : List ℕ) → Fixes (CeilingsTold samples place)
ceilings_told_fixed samples place = equation_fixes (tell_over (told_ceilings (accepted (ceilings_in samples))) place)

pub reading_told_fixed : (x : Float) (place : List ℕ) → Fixes (ReadingTold x place)
reading_told_fixed x place = equation_fixes (tell_over (told_number (said_reading (reading_of x))) place)

-- the lent places at exit: of the edge question the fraction and the answer
pub edge_told_fixed : (p q t : ℕ) (fraction : List Float) (place : List ℕ) → Fixes (λ (f : List Float × List ℕ). EdgeTold p q t fraction place f.0 f.1)
edge_told_fixed p q t fraction place a b x y =
    ap₂ (λ (u : List Float) (v : List ℕ). (u, v)) x.fraction_told x.is_told
    ∙ ap (λ (r : Crossing). (tell_over (told_fraction (said_edge r)) fraction, tell_over (told_edge (said_edge r)) place)) (edge_fixed p q t x.answer y.answer x.answered y.answered)
    ∙ sym (ap₂ (λ (u : List Float) (v : List ℕ). (u, v)) y.fraction_told y.is_told)

-- of the cube question the words, the offsets and the answer
abbrev cube_found : List ℕ → List Float → List ℕ → CubeAnswer → List ℕ × List Float × List ℕ
cube_found words offsets place r = (tell_over r.words words, tell_over (triples r.offsets) offsets, tell_over (told_number (said_cube r.found)) place)

is_cube_found : (corners : List ℕ) (t noise : ℕ) (words : List ℕ) (offsets : List Float) (place : List ℕ) (f : List ℕ × List Float × List ℕ)
    (x : CubeTold corners t noise words offsets place f.0 f.1 f.2) → f ≡ cube_found words offsets place x.answer
is_cube_found corners t noise words offsets place f x =
    ap₂ (λ (u : List ℕ) (v : List Float). (u, v, f.2)) x.words_told x.offsets_told
    ∙ ap (λ (u : List ℕ). (tell_over x.answer.words words, tell_over (triples x.answer.offsets) offsets, u)) x.is_told

pub cube_told_fixed : (corners : List ℕ) (t noise : ℕ) (words : List ℕ) (offsets : List Float) (place : List ℕ)
    → Fixes (λ (f : List ℕ × List Float × List ℕ). CubeTold corners t noise words offsets place f.0 f.1 f.2)
cube_told_fixed corners t noise words offsets place a b x y =
    is_cube_found corners t noise words offsets place a x
    ∙ ap (cube_found words offsets place) (cube_fixed corners (cut_of t noise) x.answer y.answer x.answered y.answered)
    ∙ sym (is_cube_found corners t noise words offsets place b y)

pub crossed_told_fixed : (nx ny nz : ℕ) (s : List ℕ) (t : ℕ) (place : List ℕ) → Fixes (CrossedTold nx ny nz s t place)
crossed_told_fixed nx ny nz s t place a b p q =
    p.is_told
    ∙ ap (λ (x : Edged). tell_over (told_number (said_crossed x)) place) (crossed_fixed nx ny nz s (cut_of t 0) p.answer q.answer p.answered q.answered)
    ∙ sym q.is_told

-- counts are told alike where they are the same
told_alike : (place : List ℕ) {a b : List ℕ} {x y : Counted} → x ≡ y → a ≡ tell_over (told_counts (said_counts x)) place → b ≡ tell_over (told_counts (said_counts y)) place → a ≡ b
told_alike place e p q = p ∙ ap (λ (x : Counted). tell_over (told_counts (said_counts x)) place) e ∙ sym q

pub counts_told_fixed : (nx ny nz : ℕ) (s : List ℕ) (t noise : ℕ) (place : List ℕ) → Fixes (CountsTold nx ny nz s t noise place)
counts_told_fixed nx ny nz s t noise place a b p q = told_alike place (counts_fixed nx ny nz s (cut_of t noise) p.answer q.answer p.answered q.answered) p.is_told q.is_told

pub readings_counts_told_fixed : (nx ny nz : ℕ) (xs : List Float) (t noise : ℕ) (place : List ℕ) → Fixes (ReadingsCountsTold nx ny nz xs t noise place)
readings_counts_told_fixed nx ny nz xs t noise place a b p q =
    told_alike place (readings_counts_fixed nx ny nz xs (cut_of t noise) p.answer q.answer p.answered q.answered) p.is_told q.is_told

-- the buffer and the answer
pub row_told_fixed : (nx ny nz : ℕ) (s ts : List ℕ) (noise : ℕ) (b place : List ℕ) → Fixes (λ (f : List ℕ × List ℕ). RowTold nx ny nz s ts noise b place f.0 f.1)
row_told_fixed nx ny nz s ts noise b place x y p q =
    ap (λ (u : List ℕ). (x.0, u)) p.is_told
    ∙ ap (λ (r : RowAnswer × List ℕ). (r.1, tell_over (told_nothing (said_row r.0)) place)) (row_fixed nx ny nz s ts noise b (p.answer, x.0) (q.answer, y.0) p.answered q.answered)
    ∙ ap (λ (u : List ℕ). (y.0, u)) (sym q.is_told)

-- the three buffers and the answer
buffers_alike : (place : List ℕ) {a b : List ℕ × List Float × List ℕ × List ℕ} {x y : Counted} → ◌≡◌ {A = Counted × List ℕ × List Float × List ℕ} (x, a.0, a.1, a.2) (y, b.0, b.1, b.2)
    → a.3 ≡ tell_over (told_counts (said_counts x)) place → b.3 ≡ tell_over (told_counts (said_counts y)) place → a ≡ b
buffers_alike place {a} {b} {x} {y} e p q =
    ap (λ (u : List ℕ). (a.0, a.1, a.2, u)) p
    ∙ ap (λ (z : Counted × List ℕ × List Float × List ℕ). (z.1, z.2, z.3, tell_over (told_counts (said_counts z.0)) place)) e
    ∙ ap (λ (u : List ℕ). (b.0, b.1, b.2, u)) (sym q)

pub mesh_told_fixed : (nx ny nz : ℕ) (s : List ℕ) (t noise : ℕ) (w : List ℕ) (o : List Float) (q place : List ℕ)
    → Fixes (λ (f : List ℕ × List Float × List ℕ × List ℕ). MeshTold nx ny nz s t noise w o q place f.0 f.1 f.2 f.3)
mesh_told_fixed nx ny nz s t noise w o q place a b p r =
    buffers_alike place {a = a} {b = b} (mesh_fixed nx ny nz s (cut_of t noise) w o q (p.answer, a.0, a.1, a.2) (r.answer, b.0, b.1, b.2) p.meshed r.meshed) p.is_told r.is_told

pub readings_mesh_told_fixed : (nx ny nz : ℕ) (xs : List Float) (t noise : ℕ) (w : List ℕ) (o : List Float) (q place : List ℕ)
    → Fixes (λ (f : List ℕ × List Float × List ℕ × List ℕ). ReadingsMeshTold nx ny nz xs t noise w o q place f.0 f.1 f.2 f.3)
readings_mesh_told_fixed nx ny nz xs t noise w o q place a b p r =
    buffers_alike place {a = a} {b = b} (readings_mesh_fixed nx ny nz xs (cut_of t noise) w o q (p.answer, a.0, a.1, a.2) (r.answer, b.0, b.1, b.2) p.meshed r.meshed) p.is_told r.is_told

pub closed_told_fixed : (quads place : List ℕ) → Fixes (ClosedTold quads place)
closed_told_fixed quads place a b p q =
    p.is_told
    ∙ ap (λ (x : Closure). tell_over (told_closed (said_closure x)) place) (closed_fixed quads p.answer q.answer p.answered q.answered)
    ∙ sym q.is_told

pub judge_told_fixed : (nx ny nz : ℕ) (s : List ℕ) (t noise : ℕ) (words : List ℕ) (offsets : List Float) (quads place : List ℕ)
    → Fixes (JudgeTold nx ny nz s t noise words offsets quads place)
judge_told_fixed nx ny nz s t noise words offsets quads place a b p q =
    p.is_told
    ∙ ap (λ (x : Judgement). tell_over (told_judgement (said_judgement x)) place) (judge_fixed nx ny nz s (cut_of t noise) words offsets quads p.answer q.answer p.answered q.answered)
    ∙ sym q.is_told

-- the lent memory and the answer
pub closed_with_told_fixed : (quads work place : List ℕ) → Fixes (λ (f : List ℕ × List ℕ). ClosedWithTold quads work place f.0 f.1)
closed_with_told_fixed quads work place a b p q =
    ap (λ (u : List ℕ). (a.0, u)) p.is_told
    ∙ ap (λ (x : Closure × List ℕ). (x.1, tell_over (told_closed (said_closure x.0)) place)) (closed_with_fixed quads work (p.answer, a.0) (q.answer, b.0) p.answered q.answered)
    ∙ ap (λ (u : List ℕ). (b.0, u)) (sym q.is_told)

-- the two buffers and the answer
pub pieces_told_fixed : (n : ℕ) (quads piece size place : List ℕ) → Fixes (λ (f : List ℕ × List ℕ × List ℕ). PiecesTold n quads piece size place f.0 f.1 f.2)
pieces_told_fixed n quads piece size place a b p q =
    ap (λ (u : List ℕ). (a.0, a.1, u)) p.is_told
    ∙ ap (λ (x : Pieced × List ℕ × List ℕ). (x.1, x.2, tell_over (told_pieces (said_pieces x.0)) place))
    (pieces_fixed n quads piece size (p.answer, a.0, a.1) (q.answer, b.0, b.1) p.answered q.answered)
    ∙ ap (λ (u : List ℕ). (b.0, b.1, u)) (sym q.is_told)

-- the file buffer, the length and the answer
abbrev file_found : List ℕ → List ℕ → Filed × List ℕ → List ℕ × List ℕ × List ℕ
file_found bytes place x = (x.1, tell_over (told_length (said_file x.0)) bytes, tell_over (told_nothing (said_file x.0)) place)

pub ply_told_fixed : (nx ny nz : ℕ) (words : List ℕ) (offsets : List Float) (quads : List ℕ) (spacing : Spacing) (file bytes place : List ℕ)
    → Fixes (λ (f : List ℕ × List ℕ × List ℕ). PlyTold nx ny nz words offsets quads spacing file bytes place f.0 f.1 f.2)
ply_told_fixed nx ny nz words offsets quads spacing file bytes place a b p q =
    ap₂ (λ (u v : List ℕ). (a.0, u, v)) p.length-told p.is_told
    ∙ ap (file_found bytes place) (ply_fixed nx ny nz words offsets quads spacing file (p.answer, a.0) (q.answer, b.0) p.written q.written)
    ∙ sym (ap₂ (λ (u v : List ℕ). (b.0, u, v)) q.length-told q.is_told)

-- ---- plane by plane

-- the state and the answer
pub start_told_fixed : (nx ny nz t noise : ℕ) (work state place : List ℕ) → Fixes (λ (f : List ℕ × List ℕ). StartTold nx ny nz t noise work state place f.0 f.1)
start_told_fixed nx ny nz t noise work state place a b p q =
    ap₂ (λ (u v : List ℕ). (u, v)) p.state_told p.is_told
    ∙ ap (λ (x : Started). (state_after (said_start x) state, tell_over (told_nothing (said_start x)) place)) (start_fixed nx ny nz (cut_of t noise) (length work) p.answer q.answer p.answered q.answered)
    ∙ sym (ap₂ (λ (u v : List ℕ). (u, v)) q.state_told q.is_told)

-- for a state and a work buffer as last left: the state, the three buffers and the answer
pub plane_told_fixed : (state plane work w : List ℕ) (o : List Float) (q place s : List ℕ) → Left s (state_of state) work → (state_of state).planes < (state_of state).nz
    → plane ≡ plane_of (size_in (state_of state)) s (state_of state).planes → (state₁ state₂ work₁ work₂ w₁ w₂ : List ℕ) (o₁ o₂ : List Float) (q₁ q₂ place₁ place₂ : List ℕ)
    → PlaneTold state plane work w o q place state₁ work₁ w₁ o₁ q₁ place₁ → PlaneTold state plane work w o q place state₂ work₂ w₂ o₂ q₂ place₂
    → (state₁ ≡ state₂) × (w₁ ≡ w₂) × (o₁ ≡ o₂) × (q₁ ≡ q₂) × (place₁ ≡ place₂)
plane_told_fixed state plane work w o q place s left more is state₁ state₂ work₁ work₂ w₁ w₂ o₁ o₂ q₁ q₂ place₁ place₂ a b =
    let e = plane_fixed (state_of state) plane work w o q s left more is a.answer b.answer work₁ work₂ w₁ w₂ o₁ o₂ q₁ q₂ a.answered b.answered in (
      a.state_told ∙ ap (λ (x : Taken). growth_after (said_taken x) state) e.0 ∙ sym b.state_told,
      e.1,
      e.2,
      e.3,
      a.is_told ∙ ap (λ (x : Taken). tell_over (told_growth (said_taken x)) place) e.0 ∙ sym b.is_told,
    )

pub end_told_fixed : (state place : List ℕ) → Fixes (EndTold state place)
end_told_fixed state place a b p q = told_alike place (finish_fixed (state_of state) p.answer q.answer p.answered q.answered) p.is_told q.is_told
