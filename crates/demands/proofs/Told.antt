-- What a ceiling leaves to a C caller: the mark in the words of a cube and of a mesh, and the number of samples at the ceiling. Where the first number
-- told is 0, what the caller finds is a call of `mesh` that answers counts, so all that is proved of such a call is true of it.
use Prim.Native.Nat.{ℕ, ◌+◌, ◌*◌, ◌-◌, ◌≤◌, ◌<◌}
use mathlib.Core.Path.{◌≡◌, refl, sym, ap, ◌∙◌, subst}
use mathlib.Core.Bool.{true, false}
use mathlib.Core.Logic.{◌↔◌, ⊎_elim}
use mathlib.Core.List.{List, map}
use native.Mathlib.Omega.{arith}
use lib.Ieee.{Float}
use lib.ListN.{length, get_or, replicate, length-append, length-map}
use Rattle.laws.specs.Filled.{filled}
use Rattle.block.specs.Answer.{Answer, accepted}
use Rattle.block.specs.Ceilings.{AtCeiling, LowestCeiling, ceilings_in}
use Rattle.block.specs.Grey.{ceiling, cut_of, SixteenBit}
use Rattle.block.specs.Numbering.{Axis, cube_count}
use Rattle.block.specs.Size.{size_of}
use Rattle.block.proofs.Order.{refused_exactly}
use Rattle.block.proofs.Saturated.{ceilings_none, ceilings_lowest}
use Rattle.cell.specs.declared.Found.TheVariants as found-is
use Rattle.cell.specs.declared.Found.{Found}
use Rattle.cell.specs.Answer.{word_of, said_cube}
use Rattle.cell.proofs.Answers.{verdict_is, accepted_loops}
use Rattle.mesh_rule.specs.Grid.{sample_at, corners_of, ahead, crossed_from, EdgeIn}
use Rattle.mesh.specs.declared.Counted.{Counted}
use Rattle.mesh.specs.declared.Counted.TheVariants as counted
use Rattle.mesh.specs.declared.Totals.{Totals}
use Rattle.mesh.specs.Answer.{said_counts, told_counts}
use Rattle.parsniprow_c.specs.Told.{tell_over, CeilingsTold, CubeTold, MeshTold}
use Rattle.told.specs.Numbers.{told_ceilings, told_number}
use Rattle.demands.specs.Answers.{NotRefused, MeshCall}
use Rattle.demands.specs.Marks.{has_mark, BothSigns}
use Rattle.demands.proofs.Numbers.{cube_numbers, mesh_numbers}
use Rattle.cube_rule.specs.Decider.{loops_of}
use Rattle.demands.proofs.Refusals.{cube_accepts}
use Rattle.demands.proofs.Places.{tell_at, tell_le, none_told}
use Rattle.demands.proofs.Marks.{vertex_marked, unmarked_clear, crossed_below, cube_marked}

-- ---- the samples at the ceiling

module _ (s place place' : List ℕ) (promise : CeilingsTold s place place') where
  -- none is found exactly if no sample is at the ceiling
  pub ceilings_told_none : 2 ≤ length place → (get_or place' 1 0 ≡ 0) ↔ ((k : ℕ) → k < length s → get_or s k 0 ≡ ceiling → ⊥)
  unfolding filled
  ceilings_told_none room =
      let is : get_or place' 1 0 ≡ (ceilings_in s).count = ap (λ (l : List ℕ). get_or l 1 0) promise ∙ tell_at (told_ceilings (accepted (ceilings_in s))) place 1 0 (omega (arith, room)) (omega arith) in
      (λ h. (ceilings_none s).0 (sym is ∙ h), λ f. is ∙ (ceilings_none s).1 f)

  -- and where some are, the index that is found, unless it was cut, is that of the first
  pub ceilings_told_lowest : 3 ≤ length place → 0 < get_or place' 1 0 → get_or place' 2 0 < 4294967295 → LowestCeiling s (get_or place' 2 0)
  unfolding filled
  ceilings_told_lowest room some uncut =
      let count : get_or place' 1 0 ≡ (ceilings_in s).count = ap (λ (l : List ℕ). get_or l 1 0) promise ∙ tell_at (told_ceilings (accepted (ceilings_in s))) place 1 0 (omega (arith, room)) (omega arith) in
      let lowest : get_or place' 2 0 ≡ (ceilings_in s).lowest = ap (λ (l : List ℕ). get_or l 2 0) promise ∙ tell_at (told_ceilings (accepted (ceilings_in s))) place 2 0 (omega (arith, room)) (omega arith) in
      subst (LowestCeiling s) (sym lowest) (ceilings_lowest s (omega (arith, some, count)) (omega (arith, uncut, lowest)))

-- ---- the cube question

module _ (corners : List ℕ) (t noise : ℕ) (w : List ℕ) (o : List Float) (place w' : List ℕ) (o' : List Float) (place' : List ℕ)
    (m : CubeTold corners t noise w o place w' o' place') (z : get_or place' 0 1 ≡ 0) where
  loops_of_lem : (f : Found) → NotRefused (said_cube f) → (n : ℕ) × (said_cube f ≡ accepted n)
  loops_of_lem (found-is.Loops n) h = (n, refl)
  loops_of_lem (found-is.Refused x) h = absurd (h x refl)

  loops : (n : ℕ) × (said_cube m.answer.found ≡ accepted n)
  loops =
      loops_of_lem m.answer.found
      (none_told 3 _ (said_cube m.answer.found) place place' m.is_told z
      (λ x e. omega (arith, cube_numbers (cut_of t noise) x ((refused_exactly _ _ _ m.answered.found x).0 e))))

  -- the number of loops that is found is not more than there are
  loops_found : get_or place' 1 0 ≤ loops.0
  unfolding filled
  loops_found =
      subst (λ (l : List ℕ). get_or l 1 0 ≤ loops.0) (sym (m.is_told ∙ ap (λ (a : Answer ℕ). tell_over (told_number a) place) loops.1)) (tell_le (told_number (accepted loops.0)) place 1 (omega arith))

  -- and there is a word for each
  words_long : loops.0 ≤ length m.answer.words
  unfolding filled
  words_long =
      let e = (cube_accepts corners (cut_of t noise) m.answer m.answered loops.0).0 loops.1 in
      let is : m.answer.words ≡ filled 4 0 (map (word_of corners) (loops_of (cut_of t noise) corners)) =
      m.answered.words ∙ ap (λ (ms : List ℕ). filled 4 0 (map (word_of corners) ms)) (accepted_loops (cut_of t noise) corners (verdict_is (cut_of t noise) ∙ e.0)) in
      omega (arith, e.1, ap length is, length-append (map (word_of corners) (loops_of (cut_of t noise) corners)) (replicate (4 - length (map (word_of corners) (loops_of (cut_of t noise) corners))) 0), length-map (loops_of (cut_of t noise) corners) (word_of corners))

  word_found : (l : ℕ) → l < length w → l < loops.0 → get_or w' l 0 ≡ get_or m.answer.words l 0
  word_found l room h =
      ap (λ (x : List ℕ). get_or x l 0) m.words_told
      ∙ tell_at m.answer.words w l 0 room (omega (arith, h, words_long))

  pub cube_told_marked : (l : ℕ) → l < get_or place' 1 0 → l < length w → (has_mark (get_or w' l 0) ≡ true) ↔ AtCeiling corners
  cube_told_marked l h room =
      let there : l < loops.0 = omega (arith, h, loops_found) in
      subst (λ (x : ℕ). (has_mark x ≡ true) ↔ AtCeiling corners) (sym (word_found l room there)) (cube_marked corners (cut_of t noise) m.answer m.answered loops.0 loops.1 l there)

-- ---- the mesh

-- counts that are not refused are given
pub counts_given : (r : Counted) → NotRefused (said_counts r) → (c : Totals) × (said_counts r ≡ accepted c)
counts_given (counted.Counts c) h = (c, refl)
counts_given (counted.Refused x) h = absurd (h x refl)

module _ (nx ny nz : ℕ) (s : List ℕ) (t noise : ℕ) (w : List ℕ) (o : List Float) (q place w' : List ℕ) (o' : List Float) (q' place' : List ℕ)
    (m : MeshTold nx ny nz s t noise w o q place w' o' q' place') (z : get_or place' 0 1 ≡ 0) where
  counts : (c : Totals) × (said_counts m.answer ≡ accepted c)
  counts =
      counts_given m.answer
      (none_told 3 _ (said_counts m.answer) place place' m.is_told z
      (λ x e. ⊎_elim (λ h. h.0) (λ h. omega (arith, h.0)) (mesh_numbers nx ny nz s (cut_of t noise) (length w) (length o) (length q) x ((refused_exactly _ _ _ m.meshed.answer x).0 e))))

  abbrev call : MeshCall nx ny nz s (cut_of t noise)
  call = record {
    words = w;
    offsets = o;
    quads = q;
    answer = m.answer;
    words_after = w';
    offsets_after = o';
    quads_after = q';
    promise = m.meshed;
    counts = counts.0;
    accepts = counts.1;
  }

  place_is : place' ≡ tell_over (told_counts (accepted counts.0)) place
  place_is = m.is_told ∙ ap (λ (a : Answer Totals). tell_over (told_counts a) place) counts.1

  vertices_are : 2 ≤ length place → get_or place' 1 0 ≡ counts.0.vertices
  unfolding filled
  vertices_are room = ap (λ (l : List ℕ). get_or l 1 0) place_is ∙ tell_at (told_counts (accepted counts.0)) place 1 0 (omega (arith, room)) (omega arith)

  quads_are : 3 ≤ length place → get_or place' 2 0 ≡ counts.0.quads
  unfolding filled
  quads_are room = ap (λ (l : List ℕ). get_or l 2 0) place_is ∙ tell_at (told_counts (accepted counts.0)) place 2 0 (omega (arith, room)) (omega arith)

  vertices_found : get_or place' 1 0 ≤ counts.0.vertices
  unfolding filled
  vertices_found =
      subst (λ (l : List ℕ). get_or l 1 0 ≤ counts.0.vertices) (sym place_is) (tell_le (told_counts (accepted counts.0)) place 1 (omega arith))

  -- there is a call of `mesh` with these buffers, before and after, and with the counts that are found where the place has room for them
  pub mesh_told_call : (a : MeshCall nx ny nz s (cut_of t noise)) × ((a.words ≡ w) × (a.offsets ≡ o) × (a.quads ≡ q))
      × ((a.words_after ≡ w') × (a.offsets_after ≡ o') × (a.quads_after ≡ q'))
      × (2 ≤ length place → get_or place' 1 0 ≡ a.counts.vertices) × (3 ≤ length place → get_or place' 2 0 ≡ a.counts.quads)
  mesh_told_call = (call, (refl, refl, refl), (refl, refl, refl), vertices_are, quads_are)

  seen : 2 ≤ length place → (v : ℕ) → v < counts.0.vertices → v < get_or place' 1 0
  seen room v h = omega (arith, h, vertices_are room)

  pub mesh_told_marked : (v : ℕ) → v < get_or place' 1 0 → (has_mark (get_or w' (2 * v + 1) 0) ≡ true) ↔ AtCeiling (corners_of (size_of nx ny nz) s (get_or w' (2 * v) 0))
  mesh_told_marked v h = let there : v < counts.0.vertices = omega (arith, h, vertices_found) in vertex_marked call v there

  -- where the place has room for the number of vertices, and none of them is marked
  pub mesh_told_clear : 2 ≤ length place → ((v : ℕ) → v < get_or place' 1 0 → has_mark (get_or w' (2 * v + 1) 0) ≡ false)
      → (c : ℕ) → c < cube_count (size_of nx ny nz) → BothSigns (cut_of t noise) (corners_of (size_of nx ny nz) s c) → AtCeiling (corners_of (size_of nx ny nz) s c) → ⊥
  mesh_told_clear room none =
      unmarked_clear call (λ v h. none v (seen room v h))

  -- so each crossed edge of the block, on its faces too, has both ends below 65,535
  pub mesh_told_below : 2 ≤ length place → ((v : ℕ) → v < get_or place' 1 0 → has_mark (get_or w' (2 * v + 1) 0) ≡ false) → SixteenBit s
      → (axis : Axis) (i j k : ℕ) → EdgeIn (size_of nx ny nz) axis i j k → crossed_from (size_of nx ny nz) s (cut_of t noise) axis i j k ≡ true
      → (sample_at (size_of nx ny nz) s i j k < 65535) × (ahead (sample_at (size_of nx ny nz) s) axis i j k < 65535)
  mesh_told_below room none grey = crossed_below call (λ v h. none v (seen room v h)) grey
