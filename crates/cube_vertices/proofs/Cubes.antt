-- One cube: what is noted of it, its vertices as they are written, whatever its loops are, and the cube question's answer of 01's loops.
-- Assumes nothing.
use Prim.Native.Nat.{ℕ, ◌+◌, ◌*◌, ◌-◌, ◌≤◌, ◌<◌}
use mathlib.Core.Path.{◌≡◌, refl, ap, sym, ◌∙◌, subst}
use mathlib.Core.List.Memᴰ
use mathlib.Core.List.{List, [], ◌∷◌, map}
use native.Mathlib.Omega.{arith}
use lib.ListN.{length, take, replicate, length-map}
use lib.Seq.{sets, take-append_seam}
use lib.Ieee.{Float}
use Rattle.laws.specs.Filled.{filled}
use Rattle.block.specs.declared.Cut.{Cut}
use Rattle.block.specs.declared.Checked.TheVariants.{Passes}
use Rattle.block.specs.Rows.{threshold_row}
use Rattle.cube_rule.specs.Decider.{joined, loops_of}
use Rattle.cube_rule.proofs.Laws.{cube_laws}
use Rattle.place.specs.declared.Offset.{Offset}
use Rattle.place.specs.Place.{place_of}
use Rattle.place.specs.Steps.{Placeable}
use Rattle.cell.specs.declared.CubeAnswer.{CubeAnswer}
use Rattle.cell.specs.declared.Found.TheVariants as found
use Rattle.cell.specs.Answer.{mark_of, word_of, origin, cube_verdict, CubeAnswered}
use Rattle.cell.proofs.Answers.{verdict_is, loop_placeable, accepted_found, accepted_loops, said_cube_injective}
use Rattle.mesh_rule.specs.Buffers.{triples}
use Rattle.mesh_rule.specs.Layers.{pairs}
use Rattle.cube_vertices.specs.Cubes.{names_by, words_by, offsets_by, Stored, CubeWritten}
use Rattle.cube_vertices.specs.declared.Spot.{Spot}
use Rattle.notes.specs.Tables.{which_of}
use Rattle.mesh_rule.proofs.Words.{pairs_length, triples_length}

-- the first of four places are those that are filled
first : {A : Type 0} (d : A) (xs ys : List A) (n : ℕ) → ys ≡ filled 4 d xs → n ≡ length xs → take n ys ≡ xs
unfolding filled
first d xs ys n e f = rw (e, f) (take-append_seam xs (replicate (4 - length xs) d))

-- what is noted of four words, of which some are left over
which_filled : (d : ℕ) (ws : List ℕ) → length ws ≤ 4 → d ≡ which_of (filled 4 0 ws) → d ≡ which_of ws
unfolding filled which_of
which_filled d [] h e = e
which_filled d (a ∷ []) h e = e
which_filled d (a ∷ b ∷ []) h e = e
which_filled d (a ∷ b ∷ c ∷ []) h e = e
which_filled d (a ∷ b ∷ c ∷ f ∷ []) h e = e
which_filled d (a ∷ b ∷ c ∷ f ∷ g ∷ ws) h e = absurd (omega arith)

-- a cube by its corners, told in another way
pub written_as : {loops_of : Cut → List ℕ → List ℕ} {cut : Cut} {cs cs' : List ℕ} {spot : Spot} {w w' : List ℕ} {o o' : List Float} {t t' : List ℕ} {r : ℕ} → cs ≡ cs'
    → CubeWritten loops_of cut cs spot w w' o o' t t' r → CubeWritten loops_of cut cs' spot w w' o o' t t' r
written_as {loops_of} {cut} {cs} {cs'} {spot} {w} {w'} {o} {o'} {t} {t'} {r} e h = subst (λ (cs : List ℕ). CubeWritten loops_of cut cs spot w w' o o' t t' r) e h

-- ---- whatever the loops of a cube are

module _ (loops_of : Cut → List ℕ → List ℕ) (cut : Cut) (cs : List ℕ) where
  names_count : length (names_by loops_of cut cs) ≡ length (loops_of cut cs)
  names_count = length-map (loops_of cut cs) (word_of cs)

  -- a cube with a loop has a vertex
  pub names_some : 0 < length (loops_of cut cs) → 0 < length (names_by loops_of cut cs)
  names_some h = omega (arith, names_count)

  -- a cube with one loop notes 0, and others note what the answer's four words say
  pub which_single : (m : ℕ) → loops_of cut cs ≡ m ∷ [] → 0 ≡ which_of (names_by loops_of cut cs)
  unfolding which_of
  which_single m e = rw e

  pub which_many : (d : ℕ) (four : List ℕ) → length (loops_of cut cs) ≤ 4 → d ≡ which_of four → four ≡ filled 4 0 (names_by loops_of cut cs) → d ≡ which_of (names_by loops_of cut cs)
  which_many d four h e f = which_filled d (names_by loops_of cut cs) (omega (arith, names_count)) (e ∙ ap which_of f)

  -- stored in both buffers
  module _ (v c : ℕ) (w₀ w : List ℕ) (o₀ o : List Float) where
    abbrev InBoth : ℕ → Type 0
    InBoth r = Stored v (loops_of cut cs) (words_by loops_of cut cs c) (offsets_by loops_of cut cs) w₀ w o₀ o r

    stored : (r : ℕ) → r ≡ v + length (loops_of cut cs) → w ≡ sets w₀ (2 * v) (words_by loops_of cut cs c) → o ≡ sets o₀ (3 * v) (offsets_by loops_of cut cs) → InBoth r
    stored r e p q = record {
      number = e;
      words_are = p;
      offsets_are = q;
      two = pairs_length c (names_by loops_of cut cs) ∙ ap (λ (x : ℕ). 2 * x) names_count;
      three = triples_length (map (place_of cut cs) (loops_of cut cs)) ∙ ap (λ (x : ℕ). 3 * x) (length-map (loops_of cut cs) (place_of cut cs));
    }

    pub stored_single : (m : ℕ) → loops_of cut cs ≡ m ∷ [] → (d : ℕ) → d ≡ mark_of cs → (q : Offset) → q ≡ place_of cut cs m → w ≡ sets w₀ (2 * v) (c ∷ (m + d) ∷ [])
        → o ≡ sets o₀ (3 * v) (q.x ∷ q.y ∷ q.z ∷ []) → InBoth (v + 1)
    stored_single m e d marked q is p t =
        stored (v + 1) (rw e) (p ∙ rw (marked, e)) (t ∙ rw (is, e))

    pub stored_many : (n : ℕ) → n ≡ length (loops_of cut cs) → (four : List ℕ) → four ≡ filled 4 0 (names_by loops_of cut cs)
        → (places : List Offset) → places ≡ filled 4 origin (map (place_of cut cs) (loops_of cut cs))
        → w ≡ sets w₀ (2 * v) (pairs c (take n four)) → o ≡ sets o₀ (3 * v) (triples (take n places)) → InBoth (v + n)
    stored_many n e four f places g p q =
        stored (v + n) (rw e)
        (p ∙ ap (λ (l : List ℕ). sets w₀ (2 * v) (pairs c l)) (first 0 (names_by loops_of cut cs) four n f (e ∙ sym names_count)))
        (q ∙ ap (λ (l : List Offset). sets o₀ (3 * v) (triples l)) (first origin (map (place_of cut cs) (loops_of cut cs)) places n g (e ∙ sym (length-map (loops_of cut cs) (place_of cut cs)))))

-- ---- the loops of 01

-- twelve edges
pub single_small : (cut : Cut) (cs : List ℕ) (m : ℕ) → loops_of cut cs ≡ m ∷ [] → m < 4096
single_small cut cs m e = ((cube_laws joined).sized cut cs m (rw e (Memᴰ.head refl))).2

-- ---- where row 3 passes the threshold

module _ (cut : Cut) (cs : List ℕ) (ok : threshold_row cut ≡ Passes) where
  cube_passes : cube_verdict cut ≡ Passes
  cube_passes = verdict_is cut ∙ ok

  pub single_placeable : (m : ℕ) → loops_of cut cs ≡ m ∷ [] → Placeable cut cs m
  single_placeable m e = loop_placeable cut cs cube_passes m (rw e (Memᴰ.head refl))

  -- so the cube question answers its loops
  module _ (r : CubeAnswer) (told : CubeAnswered cs cut r) where
    pub answer_found : r.found ≡ found.Loops (length (loops_of cut cs))
    answer_found =
        said_cube_injective r.found (found.Loops (length (loops_of cut cs)))
        (told.found ∙ sym (accepted_found cut cs cube_passes (length (loops_of cut cs)) refl))

    pub answer_words : r.words ≡ filled 4 0 (names_by loops_of cut cs)
    answer_words = told.words ∙ ap (λ (ms : List ℕ). filled 4 0 (map (word_of cs) ms)) (accepted_loops cut cs cube_passes)

    pub answer_offsets : r.offsets ≡ filled 4 origin (map (place_of cut cs) (loops_of cut cs))
    answer_offsets = told.offsets ∙ ap (λ (ms : List ℕ). filled 4 origin (map (place_of cut cs) ms)) (accepted_loops cut cs cube_passes)
