-- Readings of the second bench (document 02, Ten): demand 1 of the question for one reading, of counting and of meshing a block of readings; and that a block of
-- readings without a fault is its block of grey values. Its promises are those of `counts` and `mesh` for that block, so all that is proved of those calls is true
-- of these, demands 2 and 3 among it.
use Prim.Native.Nat.{ℕ, ◌*◌, ◌≤◌, ◌<◌}
use mathlib.Core.Path.{◌≡◌, refl, sym, ap, ◌∙◌, subst}
use mathlib.Core.Bool.{true}
use mathlib.Core.Logic.{◌↔◌, ◌⊎◌, inl, inr}
use mathlib.Core.List.{List, [], ◌∷◌, ◌++◌}
use native.Mathlib.Omega.{arith}
use lib.Dec.{leb}
use lib.IntN.{pos}
use lib.Ieee.{Float, nan, binary32, le, of_int}
use lib.ListN.{length, get_or}
use Rattle.block.specs.declared.Cut.{Cut}
use Rattle.block.specs.declared.Refusal.{Refusal}
use Rattle.block.specs.declared.Checked.{Checked}
use Rattle.block.specs.declared.Checked.TheVariants.{Passes, Refuses}
use Rattle.block.specs.Answer.{accepted, refused, in_order, First, judged, written}
use Rattle.block.specs.Block.{block_rows}
use Rattle.block.specs.Ceilings.{AtCeiling}
use Rattle.block.specs.Grey.{cut_of}
use Rattle.block.specs.Numbering.{sample_index}
use Rattle.block.specs.Rows.{axis_row, count_row, threshold_row}
use Rattle.block.specs.Size.{size_of}
use Rattle.block.proofs.Order.{order_first, order_rest, first_has, refused_exactly, accepted_exactly, written_refused}
use Rattle.cube_rule.specs.Decider.{loops_of}
use Rattle.place.specs.Unit.{InUnit}
use Rattle.mesh_rule.specs.Buffers.{mesh_words, mesh_offsets, mesh_quads}
use Rattle.mesh_rule.specs.Grid.{metal, OffEdges, AtLeastThree}
use Rattle.mesh.specs.declared.Totals.{Totals}
use Rattle.mesh.specs.declared.Counted.{Counted}
use Rattle.mesh.specs.Answer.{vertex_count, quad_count, counts_of, said_counts, told_counts, CountsAnswered, buffer_rows, MeshedBy, Meshed}
use Rattle.mesh.proofs.Verdicts.{counts_fixed, mesh_fixed}
use Rattle.readings.specs.declared.Reading.{Reading}
use Rattle.readings.specs.declared.Reading.TheVariants.{Grey, Ceiling, NoNumber, Infinite, BelowZero}
use Rattle.readings.specs.Reading.{reading_of, grey_of, greys_of, bad_at, bad_row, said_reading, Sound}
use Rattle.readings.proofs.Readings.{greys_length, greys_at, greys_sixteen, reading_sign, fault_none, fault_lowest}
use Rattle.readings_mesh.specs.Answer.{reading_rows, readings_answer, ReadingsCounted, readings_verdict, ReadingsMeshed}
use Rattle.parsniprow_c.specs.Told.{tell_over, ReadingTold, ReadingsCountsTold, ReadingsMeshTold, MeshTold}
use Rattle.told.specs.Numbers.{told_number}
use Rattle.demands.specs.Answers.{NotRefused, MeshCall, ReadingsCall, SameMesh}
use Rattle.demands.specs.Given.{MeshGiven}
use Rattle.demands.specs.Marks.{has_mark, word_after, corners_after}
use Rattle.demands.proofs.Allowed.{counted_of}
use Rattle.demands.proofs.Marks.{vertex_marked}
use Rattle.demands.proofs.Numbers.{axis_number_lem, count_number, threshold_number, vertex_number_lem, quad_number}
use Rattle.demands.proofs.Places.{none_told}
use Rattle.demands.proofs.Refusals.{refuses_by}
use Rattle.demands.proofs.StandIn.{no_quad_alike, same_mesh_alike}
use Rattle.demands.proofs.TheMesh.{mesh_given}
use Rattle.demands.proofs.Told.{counts_given}

-- ---- one reading

module _ (x : Float) (r : Reading) (promise : r ≡ reading_of x) where
  said : said_reading r ≡ judged (bad_at 0 (reading_of x)) (grey_of (reading_of x))
  said = ap said_reading promise

  pub reading_refuses : (y : Refusal) → (said_reading r ≡ refused y) ↔ (bad_at 0 (reading_of x) ≡ Refuses y)
  reading_refuses = refused_exactly _ _ _ said

  pub reading_accepts : (g : ℕ) → (said_reading r ≡ accepted g) ↔ ((bad_at 0 (reading_of x) ≡ Passes) × (g ≡ grey_of (reading_of x)))
  reading_accepts = accepted_exactly _ _ _ said

-- a fault has one of three numbers
number_of : Checked → ℕ
number_of Passes = 0
number_of (Refuses r) = r.number

abbrev pub FaultNumber : ℕ → Type 0
FaultNumber n = (19 ≤ n) × (n ≤ 21)

pub reading_numbers : (i : ℕ) (r : Reading) (x : Refusal) → bad_at i r ≡ Refuses x → FaultNumber x.number
unfolding number_of
reading_numbers i (Grey g) x e = let z : ◌≡◌ {A = ℕ} 0 1 = cc in absurd (omega arith)
reading_numbers i Ceiling x e = let z : ◌≡◌ {A = ℕ} 0 1 = cc in absurd (omega arith)
reading_numbers i NoNumber x e = let n = ap number_of e in (omega (arith, n), omega (arith, n))
reading_numbers i Infinite x e = let n = ap number_of e in (omega (arith, n), omega (arith, n))
reading_numbers i BelowZero x e = let n = ap number_of e in (omega (arith, n), omega (arith, n))

fault_number : (xs : List Float) (x : Refusal) → bad_row xs ≡ Refuses x → FaultNumber x.number
fault_number xs x e = let h = (fault_lowest xs x).0 e in reading_numbers h.0 (reading_of (get_or xs h.0 nan)) x (sym h.2)

pub reading_told_allows : (x : Float) (place : List ℕ) → (place' : List ℕ) × ReadingTold x place place'
reading_told_allows x place = (tell_over (told_number (said_reading (reading_of x))) place, refl)

-- ---- counting

module _ (nx ny nz : ℕ) (xs : List Float) (cut : Cut) (r : Counted) (promise : ReadingsCounted nx ny nz xs cut r) where
  pub readings_counts_refuses : (x : Refusal) → (said_counts r ≡ refused x) ↔ First (axis_row nx ny nz ∷ reading_rows (size_of nx ny nz) xs cut) x
  readings_counts_refuses = refuses_by _ _ _ promise

  pub readings_counts_accepts : (c : Totals)
      → (said_counts r ≡ accepted c) ↔ ((in_order (axis_row nx ny nz ∷ reading_rows (size_of nx ny nz) xs cut) ≡ Passes) × (c ≡ counts_of (size_of nx ny nz) (greys_of xs) cut))
  readings_counts_accepts = accepted_exactly _ _ _ promise

-- which numbers it gives, and which meshing gives
abbrev pub ReadingsNumber : ℕ → Type 0
ReadingsNumber n = ((1 ≤ n) × (n ≤ 3)) ⊎ (((5 ≤ n) × (n ≤ 6)) ⊎ FaultNumber n)

one_to_three : (n : ℕ) {m : ℕ} → n ≡ m → 1 ≤ m → m ≤ 3 → ReadingsNumber n
one_to_three n e l h = inl (omega (arith, e, l), omega (arith, e, h))

pub readings_counts_numbers : (nx ny nz : ℕ) (xs : List Float) (cut : Cut) (x : Refusal) → in_order (axis_row nx ny nz ∷ reading_rows (size_of nx ny nz) xs cut) ≡ Refuses x
    → ((1 ≤ x.number) × (x.number ≤ 3)) ⊎ FaultNumber x.number
readings_counts_numbers nx ny nz xs cut =
    first_has (λ (x : Refusal). ((1 ≤ x.number) × (x.number ≤ 3)) ⊎ FaultNumber x.number) _ (
      λ x e. let n = axis_number_lem nx ny nz x e in inl (omega (arith, n), omega (arith, n)),
      (
        λ x e. let n = count_number (size_of nx ny nz) (length xs) x e in inl (omega (arith, n), omega (arith, n)),
        (λ x e. let n = threshold_number cut x e in inl (omega (arith, n), omega (arith, n)), (λ x e. inr (fault_number xs x e), tt)),
      ),
    )

pub readings_counts_allows : (nx ny nz : ℕ) (xs : List Float) (cut : Cut) → (r : Counted) × ReadingsCounted nx ny nz xs cut r
readings_counts_allows nx ny nz xs cut = counted_of (readings_answer nx ny nz xs cut)

pub readings_counts_told_allows : (nx ny nz : ℕ) (xs : List Float) (t noise : ℕ) (place : List ℕ) → (place' : List ℕ) × ReadingsCountsTold nx ny nz xs t noise place place'
readings_counts_told_allows nx ny nz xs t noise place =
    let r = readings_counts_allows nx ny nz xs (cut_of t noise) in (tell_over (told_counts (said_counts r.0)) place, record { answer = r.0; answered = r.1; is_told = refl })

-- ---- meshing

module _ (nx ny nz : ℕ) (xs : List Float) (cut : Cut) (w : List ℕ) (o : List Float) (q : List ℕ) where
  abbrev verdict : Checked
  verdict = readings_verdict nx ny nz xs cut (length w) (length o) (length q)

  module _ (r : Counted) (w' : List ℕ) (o' : List Float) (q' : List ℕ) (promise : ReadingsMeshed nx ny nz xs cut w o q r w' o' q') where
    pub readings_mesh_refuses : (x : Refusal) → (said_counts r ≡ refused x)
        ↔ First (axis_row nx ny nz ∷ reading_rows (size_of nx ny nz) xs cut ++ buffer_rows (counts_of (size_of nx ny nz) (greys_of xs) cut) (length w) (length o) (length q)) x
    readings_mesh_refuses = refuses_by _ _ _ promise.answer

    pub readings_mesh_accepts : (c : Totals)
        → (said_counts r ≡ accepted c) ↔ ((readings_verdict nx ny nz xs cut (length w) (length o) (length q) ≡ Passes) × (c ≡ counts_of (size_of nx ny nz) (greys_of xs) cut))
    readings_mesh_accepts = accepted_exactly _ _ _ promise.answer

    -- a refusal keeps every buffer
    pub readings_mesh_keeps : (x : Refusal) → said_counts r ≡ refused x → (w' ≡ w) × (o' ≡ o) × (q' ≡ q)
    readings_mesh_keeps x e =
        let k : verdict ≡ Refuses x = (refused_exactly _ _ _ promise.answer x).0 e in
        (promise.words ∙ written_refused _ _ w x k, promise.offsets ∙ written_refused _ _ o x k, promise.quads ∙ written_refused _ _ q x k)

  answered : (r : Counted) × (said_counts r ≡ judged verdict (counts_of (size_of nx ny nz) (greys_of xs) cut))
  answered = counted_of (judged verdict (counts_of (size_of nx ny nz) (greys_of xs) cut))

  pub readings_mesh_allows : (r : Counted) × (w' : List ℕ) × (o' : List Float) × (q' : List ℕ) × ReadingsMeshed nx ny nz xs cut w o q r w' o' q'
  readings_mesh_allows = (
    answered.0,
    written verdict (mesh_words loops_of (size_of nx ny nz) (greys_of xs) cut) w,
    written verdict (mesh_offsets loops_of (size_of nx ny nz) (greys_of xs) cut) o,
    written verdict (mesh_quads loops_of (size_of nx ny nz) (greys_of xs) cut) q,
    record { answer = answered.1; words = refl; offsets = refl; quads = refl },
  )

pub readings_mesh_told_allows : (nx ny nz : ℕ) (xs : List Float) (t noise : ℕ) (w : List ℕ) (o : List Float) (q place : List ℕ)
    → (w' : List ℕ) × (o' : List Float) × (q' : List ℕ) × (place' : List ℕ) × ReadingsMeshTold nx ny nz xs t noise w o q place w' o' q' place'
readings_mesh_told_allows nx ny nz xs t noise w o q place =
    let r = readings_mesh_allows nx ny nz xs (cut_of t noise) w o q in
    (r.1, r.2, r.3, tell_over (told_counts (said_counts r.0)) place, record { answer = r.0; meshed = r.4; is_told = refl })

pub readings_mesh_numbers : (nx ny nz : ℕ) (xs : List Float) (cut : Cut) (words offsets room : ℕ) (x : Refusal) → readings_verdict nx ny nz xs cut words offsets room ≡ Refuses x
    → ReadingsNumber x.number
readings_mesh_numbers nx ny nz xs cut words offsets room =
    first_has (λ (x : Refusal). ReadingsNumber x.number) _ (
      λ x e. one_to_three x.number (axis_number_lem nx ny nz x e) (omega arith) (omega arith),
      (
        λ x e. one_to_three x.number (count_number (size_of nx ny nz) (length xs) x e) (omega arith) (omega arith),
        (
          λ x e. one_to_three x.number (threshold_number cut x e) (omega arith) (omega arith),
          (
            λ x e. inr (inr (fault_number xs x e)),
            (
              λ x e. let n = vertex_number_lem (vertex_count (size_of nx ny nz) (greys_of xs) cut) words offsets x e in inr (inl (omega (arith, n), omega (arith, n))),
              (λ x e. let n = quad_number (quad_count (size_of nx ny nz) (greys_of xs) cut) room x e in inr (inl (omega (arith, n), omega (arith, n))), tt),
            ),
          ),
        ),
      ),
    )

-- ---- readings without a fault are their block

-- a row that passes decides nothing
drop_passed : (ks ls : List Checked) (k : Checked) → k ≡ Passes → in_order (ks ++ k ∷ ls) ≡ in_order (ks ++ ls)
unfolding in_order
drop_passed [] ls k e = rw e
drop_passed (Passes ∷ ks) ls k e = drop_passed ks ls k e
drop_passed (Refuses r ∷ ks) ls k e = refl

module _ (nx ny nz : ℕ) (xs : List Float) (cut : Cut) (sound : Sound xs) where
  rows_same : (rows : List Checked)
      → in_order (axis_row nx ny nz ∷ reading_rows (size_of nx ny nz) xs cut ++ rows) ≡ in_order (axis_row nx ny nz ∷ block_rows (size_of nx ny nz) (greys_of xs) cut ++ rows)
  rows_same rows =
      drop_passed (axis_row nx ny nz ∷ count_row (size_of nx ny nz) (length xs) ∷ threshold_row cut ∷ []) rows (bad_row xs) ((fault_none xs).1 sound)
      ∙ ap (λ (n : ℕ). in_order (axis_row nx ny nz ∷ count_row (size_of nx ny nz) n ∷ threshold_row cut ∷ rows)) (sym (greys_length xs))

  -- a call on the readings is a call on the grey values, a refused one too, and back
  pub counts_of_their_block : (r : Counted) → ReadingsCounted nx ny nz xs cut r ↔ CountsAnswered nx ny nz (greys_of xs) cut r
  counts_of_their_block r =
      let e = rows_same [] in (
        λ p. p ∙ ap (λ (k : Checked). judged k (counts_of (size_of nx ny nz) (greys_of xs) cut)) e,
        λ p. p ∙ ap (λ (k : Checked). judged k (counts_of (size_of nx ny nz) (greys_of xs) cut)) (sym e),
      )

  module _ (w : List ℕ) (o : List Float) (q : List ℕ) where
    pub mesh_of_their_block : (r : Counted) (w' : List ℕ) (o' : List Float) (q' : List ℕ)
        → ReadingsMeshed nx ny nz xs cut w o q r w' o' q' ↔ Meshed nx ny nz (greys_of xs) cut w o q r w' o' q'
    mesh_of_their_block r w' o' q' =
        let e = rows_same (buffer_rows (counts_of (size_of nx ny nz) (greys_of xs) cut) (length w) (length o) (length q)) in (
          λ p. subst (λ (k : Checked). MeshedBy k (size_of nx ny nz) (greys_of xs) cut w o q r w' o' q') e p,
          λ p. subst (λ (k : Checked). MeshedBy k (size_of nx ny nz) (greys_of xs) cut w o q r w' o' q') (sym e) p,
        )

    -- so both write the same
    pub readings_are_their_block : (a b : Counted × List ℕ × List Float × List ℕ) → ReadingsMeshed nx ny nz xs cut w o q a.0 a.1 a.2 a.3
        → Meshed nx ny nz (greys_of xs) cut w o q b.0 b.1 b.2 b.3 → a ≡ b
    readings_are_their_block a b p m = mesh_fixed nx ny nz (greys_of xs) cut w o q a b ((mesh_of_their_block a.0 a.1 a.2 a.3).0 p) m

-- and answer the same counts
pub readings_count_their_block : (nx ny nz : ℕ) (xs : List Float) (cut : Cut) → Sound xs → (a b : Counted) → ReadingsCounted nx ny nz xs cut a → CountsAnswered nx ny nz (greys_of xs) cut b → a ≡ b
readings_count_their_block nx ny nz xs cut sound a b p m = counts_fixed nx ny nz (greys_of xs) cut a b ((counts_of_their_block nx ny nz xs cut sound a).0 p) m

-- ---- a call that answers counts

-- no reading is at fault
pub accepted_sound : (nx ny nz : ℕ) (xs : List Float) (cut : Cut) (w : List ℕ) (o : List Float) (q : List ℕ) (r : Counted) (w' : List ℕ) (o' : List Float) (q' : List ℕ)
    → ReadingsMeshed nx ny nz xs cut w o q r w' o' q' → (c : Totals) → said_counts r ≡ accepted c → Sound xs
accepted_sound nx ny nz xs cut w o q r w' o' q' promise c e =
    let k = ((accepted_exactly _ _ _ promise.answer c).0 e).0 in
    (fault_none xs).0 (order_first (bad_row xs) _ (order_rest (threshold_row cut) _ (order_rest (count_row (size_of nx ny nz) (length xs)) _ (order_rest (axis_row nx ny nz) _ k))))

module _ {nx ny nz : ℕ} {xs : List Float} {cut : Cut} (a : ReadingsCall nx ny nz xs cut) where
  pub call_sound : Sound xs
  call_sound = accepted_sound nx ny nz xs cut a.words a.offsets a.quads a.answer a.words_after a.offsets_after a.quads_after a.promise a.counts a.accepts

  -- it is a call of `mesh` on the block of grey values, with the same buffers and the same counts. So all that is proved of such calls is true of it
  abbrev pub block_call : MeshCall nx ny nz (greys_of xs) cut
  block_call = record {
    words = a.words;
    offsets = a.offsets;
    quads = a.quads;
    answer = a.answer;
    words_after = a.words_after;
    offsets_after = a.offsets_after;
    quads_after = a.quads_after;
    promise = (mesh_of_their_block nx ny nz xs cut call_sound a.words a.offsets a.quads a.answer a.words_after a.offsets_after a.quads_after).0 a.promise;
    counts = a.counts;
    accepts = a.accepts;
  }

  -- demand 2
  pub readings_given : MeshGiven block_call
  readings_given = mesh_given block_call

  -- the grey values have 16 bits, so each offset is from 0 to 1
  pub readings_in_unit : (k : ℕ) → k < 3 * a.counts.vertices → InUnit (get_or a.offsets_after k nan)
  readings_in_unit = readings_given.in_unit (greys_sixteen xs)

  -- a vertex carries the mark exactly if a corner of its cube is a ceiling
  pub readings_marked : (v : ℕ) → v < a.counts.vertices → (has_mark (word_after block_call v) ≡ true) ↔ AtCeiling (corners_after block_call v)
  readings_marked v h = vertex_marked block_call v h

  -- demand 3
  pub readings_no_quad_alike : AtLeastThree (size_of nx ny nz) → a.counts.quads ≡ 0 → (i j k i' j' k' : ℕ) → OffEdges (size_of nx ny nz) i j k → OffEdges (size_of nx ny nz) i' j' k'
      → metal (size_of nx ny nz) (greys_of xs) cut i j k ≡ metal (size_of nx ny nz) (greys_of xs) cut i' j' k'
  readings_no_quad_alike three = no_quad_alike three block_call

  -- of readings beside any other call, one of readings too by `block_call`
  pub readings_same_alike : AtLeastThree (size_of nx ny nz) → {s : List ℕ} {cut' : Cut} (b : MeshCall nx ny nz s cut') → SameMesh block_call b → 0 < a.counts.quads
      → (i j k : ℕ) → OffEdges (size_of nx ny nz) i j k → metal (size_of nx ny nz) (greys_of xs) cut i j k ≡ metal (size_of nx ny nz) s cut' i j k
  readings_same_alike three b same some = same_mesh_alike three block_call b same some

-- a sample is metal exactly if its reading is at least t: no reading without a fault is rounded across the threshold
pub reading_metal : (nx ny nz : ℕ) (xs : List Float) (cut : Cut) → Sound xs → cut.t < 65536 → (i j k : ℕ) → sample_index (size_of nx ny nz) i j k < length xs
    → metal (size_of nx ny nz) (greys_of xs) cut i j k ≡ le (of_int binary32 (pos cut.t)) (get_or xs (sample_index (size_of nx ny nz) i j k) nan)
reading_metal nx ny nz xs cut sound small i j k h =
    let p = sample_index (size_of nx ny nz) i j k in
    ap (leb cut.t) (greys_at xs p h) ∙ reading_sign (get_or xs p nan) cut.t (omega (arith, small)) (sound p h)

-- ---- what a C caller finds

module _ (nx ny nz : ℕ) (xs : List Float) (t noise : ℕ) (w : List ℕ) (o : List Float) (q place w' : List ℕ) (o' : List Float) (q' place' : List ℕ)
    (m : ReadingsMeshTold nx ny nz xs t noise w o q place w' o' q' place') where
  -- where the first number is 0, it is what a caller of `parsniprow_mesh` finds for the block of grey values
  pub readings_told_mesh : get_or place' 0 1 ≡ 0 → MeshTold nx ny nz (greys_of xs) t noise w o q place w' o' q' place'
  readings_told_mesh z = record {
    answer = m.answer;
    meshed = (mesh_of_their_block nx ny nz xs (cut_of t noise) sound w o q m.answer w' o' q').0 m.meshed;
    is_told = m.is_told;
  }
    where
      least : (n : ℕ) → ReadingsNumber n → 1 ≤ n
      least n (inl h) = h.0
      least n (inr (inl h)) = omega (arith, h.0)
      least n (inr (inr h)) = omega (arith, h.0)

      none : NotRefused (said_counts m.answer)
      none =
          none_told 3 _ (said_counts m.answer) place place' m.is_told z
          (λ x e. least x.number (readings_mesh_numbers nx ny nz xs (cut_of t noise) (length w) (length o) (length q) x ((refused_exactly _ _ _ m.meshed.answer x).0 e)))

      sound : Sound xs
      sound = let c = counts_given m.answer none in accepted_sound nx ny nz xs (cut_of t noise) w o q m.answer w' o' q' m.meshed c.0 c.1
