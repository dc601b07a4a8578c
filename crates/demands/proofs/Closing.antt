-- When a mesh is closed and when it is open (document 02, Four), from the very promises: of a call of `mesh` and a call of the closed question on the quads
-- that it wrote, with lent memory or without; of what a C caller finds; and of the program's first line. And how few quads meet at a vertex.
use Prim.Native.Nat.{ℕ, ◌+◌, ◌*◌, ◌≤◌, ◌<◌}
use mathlib.Core.Path.{◌≡◌, refl, sym, ap, ap₂, ◌∙◌, subst}
use mathlib.Core.Bool.{Bool}
use mathlib.Core.Logic.{◌⊎◌, inl, inr, ⊎_elim}
use mathlib.Core.List.{List, [], ◌∷◌}
use native.Mathlib.Omega.{arith}
use lib.Ieee.{Float}
use lib.ListN.{length, get_or, take}
use Rattle.laws.specs.Filled.{filled}
use Rattle.laws.proofs.Tests.{lt_or_ge}
use Rattle.block.specs.declared.Cut.{Cut}
use Rattle.block.specs.declared.Size.{Size}
use Rattle.block.specs.declared.Checked.TheVariants.{Passes}
use Rattle.block.specs.Grey.{cut_of}
use Rattle.block.proofs.Order.{refused_exactly}
use Rattle.cube_rule.specs.Decider.{loops_of}
use Rattle.mesh_rule.specs.Buffers.{mesh_quads}
use Rattle.block.specs.Size.{size_of}
use Rattle.mesh_rule.specs.Mesh.{vertices, quads}
use Rattle.lists.specs.Rows.{length_row}
use Rattle.lists.proofs.Rows.{length_exactly}
use Rattle.closed.specs.declared.Closure.{Closure}
use Rattle.closed.specs.declared.Closure.TheVariants.{Closed, Open, Refused}
use Rattle.closed.specs.Chains.{words_needed, ClosedWith}
use Rattle.closed.specs.Closed.{Finding, all_sound, open_at, finding_of, said_closure, ClosedAnswered}
use Rattle.closed.proofs.Fixed.{said_closure_injective, same_answer}
use Rattle.closure.specs.Faces.{FacesAre, CutOff}
use Rattle.closure.specs.Quads.{quads_at, sides_from}
use Rattle.closure.proofs.Closing.{mesh_closed, open_cut}
use Rattle.closure.proofs.Needed.{words_enough}
use Rattle.closure.proofs.Twelve.{twelve_quads, twelve_sides}
use Rattle.reading.specs.Text.{number_at}
use Rattle.reading.specs.Input.{size_read, cut_read, samples_read}
use Rattle.lines.specs.Output.{closed_field, Ran}
use Rattle.parsniprow_c.specs.Told.{tell_over, MeshTold, ClosedTold, ClosedWithTold}
use Rattle.told.specs.Numbers.{told_closed}
use Rattle.demands.specs.Answers.{NotRefused, MeshCall, quads_written}
use Rattle.demands.proofs.Allowed.{closed_allows}
use Rattle.demands.proofs.Refusals.{closed_accepts, closed_with_accepts}
use Rattle.demands.proofs.Numbers.{closed_numbers, closed_with_numbers}
use Rattle.demands.proofs.Places.{tell_at, tell_none, none_told}
use Rattle.demands.proofs.TheMesh.{vertices_are, quads_are, flat_long, quads_front}
use Rattle.demands.proofs.TextMarks.{run_field}
use Rattle.demands.proofs.Told.{mesh_told_call}

module _ {nx ny nz : ℕ} {s : List ℕ} {cut : Cut} (a : MeshCall nx ny nz s cut) where
  -- ---- whatever the samples are

  -- at most 12 of the quads that it wrote meet at a vertex, and at most 12 of their sides start there
  pub twelve_after : (v : ℕ) → (quads_at (quads_written a) v ≤ 12) × (sides_from (quads_written a) v ≤ 12)
  twelve_after v = rw (quads_front a) (twelve_quads (size_of nx ny nz) s cut v, twelve_sides (size_of nx ny nz) s cut v)

  -- a word for each vertex and one for each side are memory enough
  pub enough_after : words_needed (quads_written a) ≤ a.counts.vertices + 4 * a.counts.quads
  enough_after = rw (quads_front a) (omega (arith, words_enough (size_of nx ny nz) s cut, vertices_are a, quads_are a))

  length-passes : length_row (quads_written a) ≡ Passes
  length-passes = (length_exactly (quads_written a)).1 (rw (quads_front a) (omega (arith, flat_long a)))

  -- open: a face of the box cuts the surface off
  pub open_after : (q r : ℕ) → ClosedAnswered (quads_written a) (Open q r) → CutOff (size_of nx ny nz) s cut
  open_after q r p = open_cut (size_of nx ny nz) s cut q r (sym (ap finding_of (quads_front a)) ∙ sym ((closed_accepts (quads_written a) (Open q r) p (open_at q r)).0 refl).1)

  pub open_with_after : (work work' : List ℕ) (q r : ℕ) → ClosedWith (quads_written a) work (Open q r) work' → CutOff (size_of nx ny nz) s cut
  open_with_after work work' q r p =
      open_cut (size_of nx ny nz) s cut q r (sym (ap finding_of (quads_front a)) ∙ sym ((closed_with_accepts (quads_written a) work (Open q r) work' p (open_at q r)).0 refl).1)

  -- ---- all samples on the six faces of the box are of one sign

  module _ (sign : Bool) (faces : FacesAre sign (size_of nx ny nz) s cut) where
    found : finding_of (quads_written a) ≡ all_sound
    found = rw (quads_front a) (mesh_closed (size_of nx ny nz) s cut sign faces)

    pub closed_after : (r : Closure) → ClosedAnswered (quads_written a) r → r ≡ Closed
    closed_after r p = said_closure_injective r Closed ((closed_accepts (quads_written a) r p all_sound).1 (length-passes, sym found))

    pub closed_with_after : (work : List ℕ) (r : Closure) (work' : List ℕ) → words_needed (quads_written a) ≤ length work → ClosedWith (quads_written a) work r work' → r ≡ Closed
    closed_with_after work r work' room p =
        let c = closed_allows (quads_written a) in
        sym (same_answer (quads_written a) work work' c.0 r room c.1 p) ∙ closed_after c.0 c.1

-- ---- what a C caller finds: 0 and 1 for closed, 0 and 0 for open

-- neither a refusal nor closed: open
told_open : {A : Type 0} (p p' : List ℕ) (r : Closure) → p' ≡ tell_over (told_closed (said_closure r)) p → NotRefused (said_closure r) → get_or p' 1 1 ≡ 0 → ((q k : ℕ) → r ≡ Open q k → A) → A
unfolding filled
told_open p p' Closed e h z f = absurd (omega (arith, z, ap (λ (l : List ℕ). get_or l 1 1) e, one (lt_or_ge 1 (length p))))
  where
    one : (1 < length p) ⊎ (length p ≤ 1) → get_or (tell_over (told_closed (said_closure Closed)) p) 1 1 ≡ 1
    one (inl room) = tell_at (told_closed (said_closure Closed)) p 1 1 room (omega arith)
    one (inr g) = tell_none (told_closed (said_closure Closed)) p 1 1 g
told_open p p' (Open q k) e h z f = f q k refl
told_open p p' (Refused x) e h z f = absurd (h x refl)

module _ (nx ny nz : ℕ) (s : List ℕ) (t noise : ℕ) (w : List ℕ) (o : List Float) (q place w' : List ℕ) (o' : List Float) (q' place' : List ℕ)
    (m : MeshTold nx ny nz s t noise w o q place w' o' q' place') (z : get_or place' 0 1 ≡ 0) (counted : 3 ≤ length place) where
  call : MeshCall nx ny nz s (cut_of t noise)
  call = (mesh_told_call nx ny nz s t noise w o q place w' o' q' place' m z).0

  vertices_found : get_or place' 1 0 ≡ call.counts.vertices
  unfolding call
  vertices_found = (mesh_told_call nx ny nz s t noise w o q place w' o' q' place' m z).3 (omega (arith, counted))

  quads_found : get_or place' 2 0 ≡ call.counts.quads
  unfolding call
  quads_found = (mesh_told_call nx ny nz s t noise w o q place w' o' q' place' m z).4 counted

  -- the quads that the caller finds
  abbrev list_found : List ℕ
  list_found = take (4 * get_or place' 2 0) q'

  is_written : list_found ≡ quads_written call
  unfolding call
  is_written = ap₂ (λ (k : ℕ) (l : List ℕ). take (4 * k) l) quads_found (sym (mesh_told_call nx ny nz s t noise w o q place w' o' q' place' m z).2.2)

  -- a word for each vertex and one for each side are memory enough
  pub mesh_told_enough : words_needed (take (4 * get_or place' 2 0) q') ≤ get_or place' 1 0 + 4 * get_or place' 2 0
  mesh_told_enough = subst (λ (l : List ℕ). words_needed l ≤ get_or place' 1 0 + 4 * get_or place' 2 0) (sym is_written) (omega (arith, enough_after call, vertices_found, quads_found))

  asked : {p p' : List ℕ} (c : ClosedTold (take (4 * get_or place' 2 0) q') p p') → ClosedAnswered (quads_written call) c.answer
  asked c = subst (λ (l : List ℕ). ClosedAnswered l c.answer) is_written c.answered

  asked_with : {work p work' p' : List ℕ} (c : ClosedWithTold (take (4 * get_or place' 2 0) q') work p work' p') → ClosedWith (quads_written call) work c.answer work'
  asked_with {work} {p} {work'} {p'} c = subst (λ (l : List ℕ). ClosedWith l work c.answer work') is_written c.answered

  -- open: a face of the box cuts the surface off
  pub mesh_told_open : (p p' : List ℕ) → ClosedTold (take (4 * get_or place' 2 0) q') p p' → get_or p' 0 1 ≡ 0 → get_or p' 1 1 ≡ 0 → CutOff (size_of nx ny nz) s (cut_of t noise)
  mesh_told_open p p' c first second =
      told_open p p' c.answer c.is_told
      (none_told 4 _ (said_closure c.answer) p p' c.is_told first (λ x e. omega (arith, closed_numbers list_found x ((refused_exactly _ _ _ c.answered x).0 e)))) second
      (λ a b e. open_after call a b (subst (ClosedAnswered (quads_written call)) e (asked c)))

  pub mesh_told_open_with : (work p work' p' : List ℕ) → ClosedWithTold (take (4 * get_or place' 2 0) q') work p work' p' → get_or p' 0 1 ≡ 0 → get_or p' 1 1 ≡ 0 → CutOff (size_of nx ny nz) s (cut_of t noise)
  mesh_told_open_with work p work' p' c first second =
      told_open p p' c.answer c.is_told
      (none_told 4 _ (said_closure c.answer) p p' c.is_told first
      (λ x e. ⊎_elim (λ h. omega (arith, h)) (λ h. omega (arith, h)) (closed_with_numbers list_found (length work) x ((refused_exactly _ _ _ c.answered.answer x).0 e)))) second
      (λ a b e. open_with_after call work work' a b (subst (λ (r : Closure). ClosedWith (quads_written call) work r work') e (asked_with c)))

  module _ (sign : Bool) (faces : FacesAre sign (size_of nx ny nz) s (cut_of t noise)) where
    is_closed : (p p' : List ℕ) (r : Closure) → p' ≡ tell_over (told_closed (said_closure r)) p → r ≡ Closed → p' ≡ tell_over (0 ∷ 1 ∷ 0 ∷ 0 ∷ []) p
    unfolding filled
    is_closed p p' r e c = e ∙ ap (λ (x : Closure). tell_over (told_closed (said_closure x)) p) c

    pub mesh_told_closed : (p p' : List ℕ) → ClosedTold (take (4 * get_or place' 2 0) q') p p' → p' ≡ tell_over (0 ∷ 1 ∷ 0 ∷ 0 ∷ []) p
    mesh_told_closed p p' c = is_closed p p' c.answer c.is_told (closed_after call sign faces c.answer (asked c))

    pub mesh_told_closed_with : (work p work' p' : List ℕ) → words_needed (take (4 * get_or place' 2 0) q') ≤ length work → ClosedWithTold (take (4 * get_or place' 2 0) q') work p work' p'
        → p' ≡ tell_over (0 ∷ 1 ∷ 0 ∷ 0 ∷ []) p
    mesh_told_closed_with work p work' p' room c =
        is_closed p p' c.answer c.is_told (closed_with_after call sign faces work c.answer work' (subst (λ (l : List ℕ). words_needed l ≤ length work) is_written room) (asked_with c))

-- ---- the program: the last field of its first line is 01 for such a block, and if it is 00 the surface is cut off

pub run_closed : (bytes out : List ℕ) (r : ℕ) (out' : List ℕ) → Ran bytes out r out' → (get_or out' 0 0 ≡ 70 → ⊥) → (sign : Bool)
    → FacesAre sign (size_read bytes) (samples_read bytes (size_read bytes)) (cut_read bytes) → number_at out' 18 2 ≡ 1
run_closed bytes out r out' promise mesh sign faces =
    run_field bytes out r out' promise mesh ∙ ap closed_field (mesh_closed (size_read bytes) (samples_read bytes (size_read bytes)) (cut_read bytes) sign faces)

pub run_open : (bytes out : List ℕ) (r : ℕ) (out' : List ℕ) → Ran bytes out r out' → (get_or out' 0 0 ≡ 70 → ⊥) → number_at out' 18 2 ≡ 0
    → CutOff (size_read bytes) (samples_read bytes (size_read bytes)) (cut_read bytes)
run_open bytes out r out' promise mesh zero = go (finding_of (mesh_quads loops_of n s cut)) refl (sym (run_field bytes out r out' promise mesh) ∙ zero)
  where
    n : Size
    n = size_read bytes

    s : List ℕ
    s = samples_read bytes n

    cut : Cut
    cut = cut_read bytes

    go : (f : Finding) → finding_of (mesh_quads loops_of n s cut) ≡ f → closed_field f ≡ 0 → CutOff n s cut
    go all_sound e z = absurd (omega (arith, z))
    go (open_at a b) e z = open_cut n s cut a b e
