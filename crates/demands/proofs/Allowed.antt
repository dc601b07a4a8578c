-- There is an answer: for every input the promise of an entry point allows one, with its buffers (of `pieces` in Pieces.antt, of `crossed` in Room.antt). With
-- the theorems that a promise fixes its answer, there is exactly one. So there is a call of `mesh` wherever its checks pass.
use Prim.Native.Nat.{ℕ, ◌≤◌}
use native.Mathlib.Omega.{arith}
use mathlib.Core.Path.{◌≡◌, refl, sym}
use mathlib.Core.Bool.{Bool, true, false, cond}
use mathlib.Core.List.{List, [], ◌∷◌, map}
use lib.Ieee.{Float}
use lib.Dec.{leb}
use lib.ListN.{length}
use borrow.Author.Tests.{leb-true}
use Rattle.laws.specs.Below.{over}
use Rattle.laws.specs.Filled.{filled}
use Rattle.laws.proofs.Over.{over_length}
use Rattle.block.specs.declared.Cut.{Cut}
use Rattle.block.specs.declared.Sized.{Sized}
use Rattle.block.specs.declared.Sized.TheVariants as sized
use Rattle.block.specs.declared.Checked.{Checked}
use Rattle.block.specs.declared.Checked.TheVariants.{Passes, Refuses}
use Rattle.block.specs.Answer.{Answer, accepted, refused, decided, in_order, judged, written}
use Rattle.block.specs.Ceilings.{ceilings_in}
use Rattle.block.specs.Grey.{cut_of, apart}
use Rattle.block.specs.Rows.{out_of_limits, threshold_row}
use Rattle.block.specs.Size.{size_of, SizeMade}
use Rattle.block.proofs.Sizes.{first_bad, second_bad, third_bad, none_bad}
use Rattle.block.proofs.Order.{order_first, order_rest, accepted_exactly, judged_passed, written_passed}
use Rattle.block.proofs.Rows.{unless_none}
use Rattle.cube_rule.specs.Decider.{loops_of}
use Rattle.place.specs.declared.Crossing.{Crossing}
use Rattle.place.specs.declared.Crossing.TheVariants as crossing_is
use Rattle.place.specs.Crossing.{fraction, crossing, said_edge, edge_answer, EdgeAnswered}
use Rattle.place.specs.Place.{place_of}
use Rattle.cell.specs.declared.CubeAnswer.{CubeAnswer}
use Rattle.cell.specs.declared.Found.{Found}
use Rattle.cell.specs.declared.Found.TheVariants as found-is
use Rattle.cell.specs.Answer.{word_of, origin, cube_verdict, said_cube, loops_answered, CubeAnswered}
use Rattle.mesh_rule.specs.Buffers.{triples, mesh_words, mesh_offsets, mesh_quads}
use Rattle.mesh.specs.declared.Totals.{Totals}
use Rattle.mesh.specs.declared.Counted.{Counted}
use Rattle.mesh.specs.declared.Counted.TheVariants as counted
use Rattle.block.specs.Block.{block_verdict}
use Rattle.mesh.specs.Answer.{counts_of, said_counts, CountsAnswered, told_counts, mesh_verdict, Meshed}
use Rattle.closed.specs.declared.Closure.{Closure}
use Rattle.closed.specs.declared.Closure.TheVariants as closure-is
use Rattle.closed.specs.Closed.{Finding, all_sound, open_at, finding_of, said_closure, ClosedAnswered}
use Rattle.closed.specs.Chains.{chains, words_needed, work_rows, ClosedWith}
use Rattle.closed.proofs.Chains.{chains_length}
use Rattle.lists.specs.Rows.{length_row}
use Rattle.ply.specs.declared.Spacing.{Spacing}
use Rattle.ply.specs.declared.Filed.{Filed}
use Rattle.ply.specs.declared.Filed.TheVariants as filed
use Rattle.ply.specs.File.{ply_file}
use Rattle.ply.specs.Answer.{said_file, ply_verdict, PlyWritten}
use Rattle.ply.proofs.Written.{file_refused, file_fits}
use Rattle.lines.specs.Output.{output_of, Ran}
use Rattle.lines.proofs.Outputs.{output_fits}
use Rattle.parsniprow_c.specs.Told.{tell_over, CeilingsTold, EdgeTold, CubeTold, CountsTold, MeshTold, ClosedTold, ClosedWithTold, PlyTold}
use Rattle.told.specs.Numbers.{told_ceilings, told_edge, told_fraction, told_number, told_closed, told_length, told_nothing}
use Rattle.demands.specs.Answers.{MeshCall}

-- ---- the size: a refusal is row 1's, so it has the number that is told

pub size_allows : (nx ny nz : ℕ) → (r : Sized) × SizeMade nx ny nz r
size_allows nx ny nz = go (out_of_limits nx) (out_of_limits ny) (out_of_limits nz) refl refl refl
  where
    go : (a b c : Bool) → out_of_limits nx ≡ a → out_of_limits ny ≡ b → out_of_limits nz ≡ c → (r : Sized) × SizeMade nx ny nz r
    go true b c x y z = (sized.BadAxis 0, first_bad nx ny nz x)
    go false true c x y z = (sized.BadAxis 1, second_bad nx ny nz x y)
    go false false true x y z = (sized.BadAxis 2, third_bad nx ny nz x y z)
    go false false false x y z = (sized.Made (size_of nx ny nz), none_bad nx ny nz x y z)

-- ---- the edge question: no crossing or one, so not every list of fractions is told

pub edge_allows : (p q t : ℕ) → (r : Crossing) × EdgeAnswered p q t r
unfolding edge_answer crossing decided
edge_allows p q t = go (in_order (threshold_row (cut_of t 0) ∷ [])) (apart (cut_of t 0) p q)
  where
    go : (k : Checked) (b : Bool) → (r : Crossing) × (said_edge r ≡ judged k (cond b (fraction (cut_of t 0) p q ∷ []) []))
    go Passes true = (crossing_is.At (fraction (cut_of t 0) p q), refl)
    go Passes false = (crossing_is.Nothing, refl)
    go (Refuses x) b = (crossing_is.Refused x, refl)

-- ---- the cube question

pub cube_allows : (corners : List ℕ) (cut : Cut) → (r : CubeAnswer) × CubeAnswered corners cut r
cube_allows corners cut =
    let f = found (judged (cube_verdict cut) (length (loops_of cut corners))) in (
      record { found = f.0; words = filled 4 0 (map (word_of corners) (loops_answered cut corners)); offsets = filled 4 origin (map (place_of cut corners) (loops_answered cut corners)) },
      record { found = f.1; words = refl; offsets = refl },
    )
  where
    found : (b : Answer ℕ) → (r : Found) × (said_cube r ≡ b)
    found (accepted n) = (found-is.Loops n, refl)
    found (refused x) = (found-is.Refused x, refl)

-- ---- counting and meshing

pub counted_of : (b : Answer Totals) → (r : Counted) × (said_counts r ≡ b)
counted_of (accepted c) = (counted.Counts c, refl)
counted_of (refused x) = (counted.Refused x, refl)

pub counts_allows : (nx ny nz : ℕ) (s : List ℕ) (cut : Cut) → (r : Counted) × CountsAnswered nx ny nz s cut r
counts_allows nx ny nz s cut = counted_of (judged (block_verdict nx ny nz s cut) (counts_of (size_of nx ny nz) s cut))

module _ (nx ny nz : ℕ) (s : List ℕ) (cut : Cut) (w : List ℕ) (o : List Float) (q : List ℕ) where
  abbrev verdict : Checked
  verdict = mesh_verdict nx ny nz s cut (length w) (length o) (length q)

  answered : (r : Counted) × (said_counts r ≡ judged verdict (counts_of (size_of nx ny nz) s cut))
  answered = counted_of (judged verdict (counts_of (size_of nx ny nz) s cut))

  pub mesh_allows : (r : Counted) × (w' : List ℕ) × (o' : List Float) × (q' : List ℕ) × Meshed nx ny nz s cut w o q r w' o' q'
  mesh_allows = (
    answered.0,
    written verdict (mesh_words loops_of (size_of nx ny nz) s cut) w,
    written verdict (mesh_offsets loops_of (size_of nx ny nz) s cut) o,
    written verdict (mesh_quads loops_of (size_of nx ny nz) s cut) q,
    record { answer = answered.1; words = refl; offsets = refl; quads = refl },
  )

  -- where no row holds, there is a call with these buffers that answers the counts
  pub mesh_call : mesh_verdict nx ny nz s cut (length w) (length o) (length q) ≡ Passes
      → (a : MeshCall nx ny nz s cut) × (a.words ≡ w) × (a.offsets ≡ o) × (a.quads ≡ q)
  mesh_call e = (
    record {
      words = w;
      offsets = o;
      quads = q;
      answer = answered.0;
      words_after = written verdict (mesh_words loops_of (size_of nx ny nz) s cut) w;
      offsets_after = written verdict (mesh_offsets loops_of (size_of nx ny nz) s cut) o;
      quads_after = written verdict (mesh_quads loops_of (size_of nx ny nz) s cut) q;
      promise = record { answer = answered.1; words = refl; offsets = refl; quads = refl };
      counts = counts_of (size_of nx ny nz) s cut;
      accepts = (accepted_exactly verdict (counts_of (size_of nx ny nz) s cut) _ answered.1 (counts_of (size_of nx ny nz) s cut)).1 (e, refl);
    },
    refl,
    refl,
    refl,
  )

-- ---- the closed question

closure_of : (b : Answer Finding) → (r : Closure) × (said_closure r ≡ b)
closure_of (accepted all_sound) = (closure-is.Closed, refl)
closure_of (accepted (open_at q s)) = (closure-is.Open q s, refl)
closure_of (refused x) = (closure-is.Refused x, refl)

pub closed_allows : (quads : List ℕ) → (r : Closure) × ClosedAnswered quads r
closed_allows quads = closure_of (judged (in_order (length_row quads ∷ [])) (finding_of quads))

-- with lent memory, which keeps its length
work_kept : (quads work : List ℕ) (k : Checked) → in_order (work_rows quads (length work)) ≡ k → length (written k (chains quads) work) ≡ length work
unfolding decided
work_kept quads work (Refuses x) e = refl
work_kept quads work Passes e =
    let room = order_first _ _ (order_rest (length_row quads) _ e) in
    over_length (chains quads) work (rw (chains_length quads) (leb-true _ _ (unless_none (leb (words_needed quads) (length work)) 15 (words_needed quads) room)))

pub closed_with_allows : (quads work : List ℕ) → (r : Closure) × (work' : List ℕ) × ClosedWith quads work r work' × (length work' ≡ length work)
closed_with_allows quads work =
    let k = in_order (work_rows quads (length work)) in
    let r = closure_of (judged k (finding_of quads)) in
    (r.0, written k (chains quads) work, record { answer = r.1; chained = refl }, work_kept quads work k refl)

-- ---- a PLY file: the buffer keeps its length

pub ply_allows : (nx ny nz : ℕ) (words : List ℕ) (offsets : List Float) (quads : List ℕ) (s : Spacing) (file : List ℕ)
    → (r : Filed) × (file' : List ℕ) × PlyWritten nx ny nz words offsets quads s file r file' × (length file' ≡ length file)
ply_allows nx ny nz words offsets quads s file = go (ply_verdict nx ny nz words offsets quads s (length file)) refl
  where
    go : (k : Checked) → ply_verdict nx ny nz words offsets quads s (length file) ≡ k
        → (r : Filed) × (file' : List ℕ) × PlyWritten nx ny nz words offsets quads s file r file' × (length file' ≡ length file)
    go (Refuses x) e = (filed.Refused x, file, file_refused nx ny nz words offsets quads s file x e, refl)
    go Passes e =
        let whole = ply_file (size_of nx ny nz) words offsets quads s in
        let fits = file_fits nx ny nz words offsets quads s file e in
        (filed.Bytes (length whole), over whole file, record { answer = judged_passed _ _ _ e refl; bytes = sym (written_passed _ whole file e) }, over_length whole file fits)

-- ---- the program: its buffer has room for every output, and keeps its length

pub run_allows : (bytes out : List ℕ) → 112917 ≤ length out → (r : ℕ) × (out' : List ℕ) × Ran bytes out r out' × (length out' ≡ length out)
run_allows bytes out room =
    (length (output_of bytes), over (output_of bytes) out, record { count = refl; text = refl }, over_length (output_of bytes) out (omega (arith, room, output_fits bytes)))

-- ---- the functions for C: what the library allows, told

pub ceilings_told_allows : (samples place : List ℕ) → (place' : List ℕ) × CeilingsTold samples place place'
ceilings_told_allows samples place = (tell_over (told_ceilings (accepted (ceilings_in samples))) place, refl)

pub edge_told_allows : (p q t : ℕ) (fraction : List Float) (place : List ℕ) → (fraction' : List Float) × (place' : List ℕ) × EdgeTold p q t fraction place fraction' place'
edge_told_allows p q t fraction place =
    let r = edge_allows p q t in
    (tell_over (told_fraction (said_edge r.0)) fraction, tell_over (told_edge (said_edge r.0)) place, record { answer = r.0; answered = r.1; fraction_told = refl; is_told = refl })

pub cube_told_allows : (corners : List ℕ) (t noise : ℕ) (words : List ℕ) (offsets : List Float) (place : List ℕ)
    → (words' : List ℕ) × (offsets' : List Float) × (place' : List ℕ) × CubeTold corners t noise words offsets place words' offsets' place'
cube_told_allows corners t noise words offsets place =
    let r = cube_allows corners (cut_of t noise) in (
      tell_over r.0.words words,
      tell_over (triples r.0.offsets) offsets,
      tell_over (told_number (said_cube r.0.found)) place,
      record { answer = r.0; answered = r.1; words_told = refl; offsets_told = refl; is_told = refl },
    )

pub counts_told_allows : (nx ny nz : ℕ) (s : List ℕ) (t noise : ℕ) (place : List ℕ) → (place' : List ℕ) × CountsTold nx ny nz s t noise place place'
counts_told_allows nx ny nz s t noise place =
    let r = counts_allows nx ny nz s (cut_of t noise) in (tell_over (told_counts (said_counts r.0)) place, record { answer = r.0; answered = r.1; is_told = refl })

pub mesh_told_allows : (nx ny nz : ℕ) (s : List ℕ) (t noise : ℕ) (w : List ℕ) (o : List Float) (q place : List ℕ)
    → (w' : List ℕ) × (o' : List Float) × (q' : List ℕ) × (place' : List ℕ) × MeshTold nx ny nz s t noise w o q place w' o' q' place'
mesh_told_allows nx ny nz s t noise w o q place =
    let r = mesh_allows nx ny nz s (cut_of t noise) w o q in
    (r.1, r.2, r.3, tell_over (told_counts (said_counts r.0)) place, record { answer = r.0; meshed = r.4; is_told = refl })

pub closed_told_allows : (quads place : List ℕ) → (place' : List ℕ) × ClosedTold quads place place'
closed_told_allows quads place =
    let r = closed_allows quads in (tell_over (told_closed (said_closure r.0)) place, record { answer = r.0; answered = r.1; is_told = refl })

pub closed_with_told_allows : (quads work place : List ℕ) → (work' : List ℕ) × (place' : List ℕ) × ClosedWithTold quads work place work' place'
closed_with_told_allows quads work place =
    let r = closed_with_allows quads work in (r.1, tell_over (told_closed (said_closure r.0)) place, record { answer = r.0; answered = r.2; is_told = refl })

pub ply_told_allows : (nx ny nz : ℕ) (words : List ℕ) (offsets : List Float) (quads : List ℕ) (s : Spacing) (file bytes place : List ℕ)
    → (file' : List ℕ) × (bytes' : List ℕ) × (place' : List ℕ) × PlyTold nx ny nz words offsets quads s file bytes place file' bytes' place'
ply_told_allows nx ny nz words offsets quads s file bytes place =
    let r = ply_allows nx ny nz words offsets quads s file in (
      r.1,
      tell_over (told_length (said_file r.0)) bytes,
      tell_over (told_nothing (said_file r.0)) place,
      record { answer = r.0; written = r.2; length-told = refl; is_told = refl },
    )
