-- A run over the planes of a block: each call writes exactly its part of the mesh of the whole block, all parts one behind the other are the mesh, the quads
-- put back into 01's order are 01's, and an end gives the counts. So demand 3 holds of what two runs wrote.
use Prim.Native.Nat.{ℕ, zero, suc, ◌+◌, ◌*◌, ◌-◌, ◌≤◌, ◌<◌}
use mathlib.Core.Path.{◌≡◌, refl, ap, ap₂, sym, ◌∙◌, subst}
use mathlib.Core.Bool.{Bool, cond}
use mathlib.Core.Logic.{◌⊎◌, inl, inr}
use mathlib.Core.List.{List, [], ◌∷◌, ◌++◌}
use native.Mathlib.Numerals.{add-one}
use native.Mathlib.Omega.{arith}
use borrow.Author.Tests.{le-ltb}
use lib.Ieee.{Float}
use lib.ListN.{length, get_or, take, get_or-eq_default}
use Rattle.laws.specs.Below.{below, over}
use Rattle.laws.proofs.Below.{below_mul, below_same}
use Rattle.laws.proofs.Over.{over_take, over_front}
use Rattle.laws.proofs.Tests.{lt_or_ge}
use Rattle.block.specs.declared.Checked.{Checked}
use Rattle.block.specs.declared.Checked.TheVariants.{Passes}
use Rattle.block.specs.declared.Cut.{Cut}
use Rattle.block.specs.declared.Size.{Size}
use Rattle.block.specs.Answer.{accepted, refused, refuses, in_order}
use Rattle.block.specs.Numbering.{Axis, X, Y, Z, sample_count, cube_count, at_sample}
use Rattle.block.specs.Size.{size_of}
use Rattle.block.proofs.Order.{accepted_says, written_passed, judged_passed, order_last}
use Rattle.cube_rule.specs.Decider.{joined, loops_of}
use Rattle.cube_rule.proofs.Laws.{cube_laws}
use Rattle.mesh_rule.specs.Buffers.{mesh_words, mesh_offsets}
use Rattle.mesh_rule.specs.Grid.{metal, OffEdges, AtLeastThree}
use Rattle.mesh_rule.specs.Layers.{plane_size, layer_size, layer_words, layer_offsets, cube_words, cube_offsets, plane_quads}
use Rattle.mesh_rule.specs.Mesh.{Vertex, Quad, flat, vertices, vertices_before, quad_at, quads_before, quads}
use Rattle.mesh_rule.specs.Reading.{in_fours, telling, put_back}
use Rattle.mesh_rule.proofs.PutBack.{fours_flat, three_same, plane_list, call_list, calls_back}
use Rattle.mesh_rule.proofs.Quads.{flat_injective}
use Rattle.mesh_rule.proofs.Reading.{cubes}
use Rattle.mesh_rule.proofs.StandIn.{demand3, demand3_alike}
use Rattle.mesh_rule.proofs.Words.{words_by_cube, offsets_by_cube, words_at_lem}
use Rattle.mesh.specs.declared.Counted.{Counted}
use Rattle.mesh.specs.declared.Totals.{Totals}
use Rattle.mesh.specs.Answer.{vertex_count, quad_count, counts_of, said_counts}
use Rattle.mesh.proofs.Layers.{layers_all, words_length}
use Rattle.mesh.proofs.PlaneQuads.{flat_append, flat_below, quads_flat, planes_quads_all}
use Rattle.mesh.proofs.Tallies.{all_quads_lem, vertices_are}
use Rattle.plane_layers.proofs.Grown.{quads_four}
use Rattle.plane_layers.proofs.Rows.{run_words_length, run_offsets_length}
use Rattle.by_planes.specs.declared.Stream.{Stream}
use Rattle.by_planes.specs.declared.Growth.{Growth}
use Rattle.by_planes.specs.declared.Taken.{Taken}
use Rattle.by_planes.specs.Answer.{plane_of, part_words, part_offsets, part_quads, part_totals, begun, further, end_row, take_verdict, said_taken, FinishAnswered}
use Rattle.by_planes.specs.Left.{Left, PartTaken, PlaneTaken}
use Rattle.by_planes.proofs.Fixed.{plane_early_fixed}
use Rattle.by_planes.proofs.Lefts.{begun_left, left_few, taken_as}
use Rattle.by_planes.proofs.Rows.{call_axes, call_past, end_early}
use Rattle.demands.specs.Runs.{PlaneRun, all_words, all_offsets, all_quads, cube_in, quads_back}

-- ---- the parts of a mesh, one behind the other

-- nothing, and then one list for each layer
shifted : {A : Type 0} (f : ℕ → List A) (g : ℕ → List A) (m : ℕ) → f 0 ≡ [] → ((k : ℕ) → f (suc k) ≡ g k) → below f (suc m) ≡ below g m
unfolding below
shifted f g zero z h = ap (λ l. [] ++ l) z
shifted {A} f g (suc m) z h = ap₂ (λ (p q : List A). p ++ q) (shifted f g m z h) (h m)

module _ (n : Size) (s : List ℕ) (cut : Cut) (z : ℕ) (e : z + 1 ≡ n.nz) where
  pub parts_words : below (part_words n s cut) (suc z) ≡ mesh_words loops_of n s cut
  parts_words =
      shifted (part_words n s cut) (layer_words loops_of n s cut) z refl (λ k. refl)
      ∙ sym (below_mul (cube_words loops_of n s cut) (layer_size n) z)
      ∙ ap (below (cube_words loops_of n s cut)) (layers_all n z e)
      ∙ sym (words_by_cube loops_of n s cut)

  pub parts_offsets : below (part_offsets n s cut) (suc z) ≡ mesh_offsets loops_of n s cut
  parts_offsets =
      shifted (part_offsets n s cut) (layer_offsets loops_of n s cut) z refl (λ k. refl)
      ∙ sym (below_mul (cube_offsets loops_of n s cut) (layer_size n) z)
      ∙ ap (below (cube_offsets loops_of n s cut)) (layers_all n z e)
      ∙ sym (offsets_by_cube loops_of n s cut)

-- how much a part takes
part_words_length : (n : Size) (s : List ℕ) (cut : Cut) (k : ℕ) → length (part_words n s cut k) ≡ 2 * (part_totals n s cut k).vertices
part_words_length n s cut zero = refl
part_words_length n s cut (suc k) = run_words_length n s cut (layer_size n * k) (layer_size n)

part_offsets_length : (n : Size) (s : List ℕ) (cut : Cut) (k : ℕ) → length (part_offsets n s cut k) ≡ 3 * (part_totals n s cut k).vertices
part_offsets_length n s cut zero = refl
part_offsets_length n s cut (suc k) = run_offsets_length n s cut (layer_size n * k) (layer_size n)

part_quads_length : (n : Size) (s : List ℕ) (cut : Cut) (k : ℕ) → length (part_quads n s cut k) ≡ 4 * (part_totals n s cut k).quads
part_quads_length n s cut zero = refl
part_quads_length n s cut (suc k) = quads_four n s cut k

-- ---- a run

module _ {nx ny nz : ℕ} {s : List ℕ} {cut : Cut} {m : ℕ} (r : PlaneRun nx ny nz s cut m) where
  abbrev n : Size
  n = size_of nx ny nz

  -- where it stands after k planes
  abbrev vertices_to : ℕ → ℕ
  vertices_to zero = 0
  vertices_to (suc k) = vertices_to k + (part_totals n s cut k).vertices

  abbrev quads_to : ℕ → ℕ
  quads_to zero = 0
  quads_to (suc k) = quads_to k + (part_totals n s cut k).quads

  abbrev standing : ℕ → Stream
  standing k = record { nx = nx; ny = ny; nz = nz; cut = cut; vertices = vertices_to k; quads = quads_to k; planes = k }

  record At (k : ℕ) : Type 0 where
    is : r.state k ≡ standing k
    left : Left s (standing k) (r.work k)

  begins_at : At 0
  begins_at =
      let a = accepted_says _ (begun nx ny nz cut) (r.state 0) (sym r.begins ∙ r.started) in
      record { is = a.1; left = begun_left nx ny nz cut s (r.work 0) a.0 r.block r.grey }

  -- a call from there
  module _ (k : ℕ) (h : k < m) (at : At k) where
    taken : PlaneTaken (standing k) (plane_of n s k) (r.work k) (r.words k) (r.offsets k) (r.quads k) (r.answer k) (r.work (suc k)) (r.words_after k) (r.offsets_after k) (r.quads_after k)
    taken = taken_as at.is (r.promise k h)

    abbrev verdict : Checked
    verdict = take_verdict (standing k) (length (plane_of n s k)) (length (r.work k)) taken.counted (length (r.words k)) (length (r.offsets k)) (length (r.quads k))

    part : PartTaken verdict s (standing k) taken.counted (r.words k) (r.offsets k) (r.quads k) (r.work (suc k)) (r.words_after k) (r.offsets_after k) (r.quads_after k)
    part = taken.part s at.left (omega (arith, r.some)) refl

    abbrev given : Growth
    given = record { stream = r.state (suc k); counts = r.counts k }

    abbrev grown : Growth
    grown = record { stream = further (standing k) taken.counted; counts = taken.counted }

    gave : (verdict ≡ Passes) × (given ≡ grown)
    gave = let a = accepted_says _ _ given (sym (r.accepts k h) ∙ taken.answer) in (a.0, a.1 ∙ part.uncut)

    counts_at : r.counts k ≡ part_totals n s cut k
    counts_at = ap (λ (g : Growth). g.counts) gave.1 ∙ part.counts_are

    next_at : At (suc k)
    next_at =
        record {
          is = ap (λ (g : Growth). g.stream) gave.1 ∙ on;
          left = subst (λ (st : Stream). Left s st (r.work (suc k))) on (part.left gave.0);
        }
      where
        on : further (standing k) taken.counted ≡ standing (suc k)
        on = ap₂ (λ (c : Totals) (z : ℕ). record { nx = nx; ny = ny; nz = nz; cut = cut; vertices = vertices_to k + c.vertices; quads = quads_to k + c.quads; planes = z }) part.counts_are (add-one k)

  at : (k : ℕ) → k ≤ m → At k
  at zero h = begins_at
  at (suc k) h = next_at k (omega arith) (at k (omega arith))

  -- what was left is left: the state and the work buffer after k planes
  pub planes_left : (k : ℕ) → k ≤ m → Left s (r.state k) (r.work k)
  planes_left k h = subst (λ (st : Stream). Left s st (r.work k)) (sym (at k h).is) (at k h).left

  -- so many planes were taken, of the block that was started
  pub planes_taken : (k : ℕ) → k ≤ m → ((r.state k).planes ≡ k) × ((r.state k).nz ≡ nz)
  planes_taken k h = (ap (λ (st : Stream). st.planes) (at k h).is, ap (λ (st : Stream). st.nz) (at k h).is)

  -- an end before nz planes is refused with 18 and the planes taken
  pub planes_end_early : (k : ℕ) → k ≤ m → k < nz → (c : Counted) → FinishAnswered (r.state k) c → said_counts c ≡ refused (record { number = 18; value = k })
  planes_end_early k h l c f =
      subst (λ (st : Stream). FinishAnswered st c) (at k h).is f
      ∙ sym (end_early (standing k) (omega (arith, (at k h).left.block.limits.z_high)) l)

  -- in a run nothing wraps
  pub planes_few : (k : ℕ) → k ≤ m → ((r.state k).vertices ≤ 66325500) × ((r.state k).quads ≤ 49354740)
  planes_few k h = left_few (planes_left k h)

  -- each call writes exactly its part, with the numbers of the whole block
  module _ (k : ℕ) (h : k < m) where
    abbrev here : At k
    here = at k (omega arith)

    pub planes_counts : r.counts k ≡ part_totals n s cut k
    planes_counts = counts_at k h here

    -- no sum is cut
    pub planes_uncut : ((r.state (suc k)).vertices ≡ (r.state k).vertices + (r.counts k).vertices) × ((r.state (suc k)).quads ≡ (r.state k).quads + (r.counts k).quads)
    planes_uncut =
        let b = (at k (omega arith)).is in
        let a = (at (suc k) (omega arith)).is in (
          ap (λ (st : Stream). st.vertices) a ∙ sym (ap₂ (λ (st : Stream) (c : Totals). st.vertices + c.vertices) b planes_counts),
          ap (λ (st : Stream). st.quads) a ∙ sym (ap₂ (λ (st : Stream) (c : Totals). st.quads + c.quads) b planes_counts),
        )

    pub planes_words : r.words_after k ≡ over (part_words n s cut k) (r.words k)
    planes_words = (part k h here).words ∙ written_passed _ _ (r.words k) (gave k h here).0

    pub planes_offsets : r.offsets_after k ≡ over (part_offsets n s cut k) (r.offsets k)
    planes_offsets = (part k h here).offsets ∙ written_passed _ _ (r.offsets k) (gave k h here).0

    pub planes_quads : r.quads_after k ≡ over (part_quads n s cut k) (r.quads k)
    planes_quads = (part k h here).quads ∙ written_passed _ _ (r.quads k) (gave k h here).0

    -- so a form that holds all back falls: a call that has a vertex to write, and whose buffer does not hold it yet, does not leave the buffer
    pub held_back_falls : 0 < length (part_words n s cut k) → (get_or (r.words k) 0 0 ≡ get_or (part_words n s cut k) 0 0 → ⊥) → r.words_after k ≡ r.words k → ⊥
    held_back_falls some other kept = other (ap (λ (l : List ℕ). get_or l 0 0) (sym kept ∙ planes_words) ∙ over_front (part_words n s cut k) (r.words k) 0 0 some)

    -- nor one that tells of no vertex there
    pub held_back_tells : 0 < length (part_words n s cut k) → (r.counts k).vertices ≡ 0 → ⊥
    held_back_tells some none = omega (arith, some, none, part_words_length n s cut k, ap (λ (c : Totals). c.vertices) planes_counts)

    words_front : take (2 * (r.counts k).vertices) (r.words_after k) ≡ part_words n s cut k
    words_front = ap (take (2 * (r.counts k).vertices)) planes_words ∙ over_take (part_words n s cut k) (r.words k) (2 * (r.counts k).vertices) (part_words_length n s cut k ∙ ap (λ (c : Totals). 2 * c.vertices) (sym planes_counts))

    offsets_front : take (3 * (r.counts k).vertices) (r.offsets_after k) ≡ part_offsets n s cut k
    offsets_front = ap (take (3 * (r.counts k).vertices)) planes_offsets ∙ over_take (part_offsets n s cut k) (r.offsets k) (3 * (r.counts k).vertices) (part_offsets_length n s cut k ∙ ap (λ (c : Totals). 3 * c.vertices) (sym planes_counts))

    quads_front : take (4 * (r.counts k).quads) (r.quads_after k) ≡ part_quads n s cut k
    quads_front = ap (take (4 * (r.counts k).quads)) planes_quads ∙ over_take (part_quads n s cut k) (r.quads k) (4 * (r.counts k).quads) (part_quads_length n s cut k ∙ ap (λ (c : Totals). 4 * c.quads) (sym planes_counts))

nothing_back : (n : Size) (cube : ℕ → ℕ) → put_back n cube [] ≡ []
unfolding put_back telling
nothing_back n cube = refl

-- ---- a whole run

module _ {nx ny nz : ℕ} {s : List ℕ} {cut : Cut} (r : PlaneRun nx ny nz s cut nz) where
  abbrev size : Size
  size = size_of nx ny nz

  abbrev last : ℕ
  last = nz - 1

  two : 2 ≤ nz
  two = (at r 0 (omega arith)).left.block.limits.z_low

  last_is : last + 1 ≡ nz
  last_is = omega (arith, two)

  nz_is : nz ≡ suc last
  nz_is = omega (arith, two)

  -- all words one behind the other are the mesh's, and so are the offsets
  pub all_words_lem : all_words r ≡ mesh_words loops_of size s cut
  all_words_lem = below_same _ (part_words size s cut) nz (λ k h. words_front r k h) ∙ ap (below (part_words size s cut)) nz_is ∙ parts_words size s cut last last_is

  pub all_offsets_lem : all_offsets r ≡ mesh_offsets loops_of size s cut
  all_offsets_lem = below_same _ (part_offsets size s cut) nz (λ k h. offsets_front r k h) ∙ ap (below (part_offsets size s cut)) nz_is ∙ parts_offsets size s cut last last_is

  -- the cube of every vertex
  cube_at_lem : (v : ℕ) → cube_in r v ≡ cubes loops_of size s cut v
  cube_at_lem v = ap (λ (l : List ℕ). get_or l (2 * v) 0) all_words_lem ∙ go (lt_or_ge v (length (vertices loops_of size s cut)))
    where
      long : length (mesh_words loops_of size s cut) ≡ 2 * length (vertices loops_of size s cut)
      long = ap length (words_by_cube loops_of size s cut) ∙ words_length size s cut (cube_count size) ∙ ap (λ (x : ℕ). 2 * x) (vertices_are size s cut)

      go : (v < length (vertices loops_of size s cut)) ⊎ (length (vertices loops_of size s cut) ≤ v) → get_or (mesh_words loops_of size s cut) (2 * v) 0 ≡ cubes loops_of size s cut v
      go (inl l) = (words_at_lem loops_of size s cut v l).0
      go (inr g) =
          get_or-eq_default (mesh_words loops_of size s cut) 0 {n = 2 * v} (omega (arith, long))
          ∙ sym (ap (λ (x : Vertex). x.cube) (get_or-eq_default (vertices loops_of size s cut) (record { cube = 0; mask = 0 }) {n = v} g))

  -- the quads of all calls, and that those of the last plane are none
  call_flat : (k : ℕ) → part_quads size s cut (suc k) ≡ flat (call_list (cube_laws joined) size s cut k)
  call_flat k =
      three_same (plane_flat X) (plane_flat Y) (plane_flat Z)
      ∙ sym (flat_append (plane_list (cube_laws joined) size s cut X k ++ plane_list (cube_laws joined) size s cut Y k) (plane_list (cube_laws joined) size s cut Z k)
      ∙ ap (λ (l : List ℕ). l ++ flat (plane_list (cube_laws joined) size s cut Z k)) (flat_append (plane_list (cube_laws joined) size s cut X k) (plane_list (cube_laws joined) size s cut Y k)))
    where
      plane_flat : (a : Axis) → plane_quads loops_of size s cut a k ≡ flat (plane_list (cube_laws joined) size s cut a k)
      plane_flat a = sym (flat_below (λ (x : ℕ). at_sample size (quad_at loops_of size s cut a) (plane_size size * k + x)) (plane_size size))

  all_flat : all_quads r ≡ flat (below (call_list (cube_laws joined) size s cut) last)
  all_flat =
      below_same _ (part_quads size s cut) nz (λ k h. quads_front r k h)
      ∙ ap (below (part_quads size s cut)) nz_is
      ∙ shifted (part_quads size s cut) (λ (k : ℕ). flat (call_list (cube_laws joined) size s cut k)) last refl call_flat
      ∙ sym (flat_below (call_list (cube_laws joined) size s cut) last)

  planes_all : (a : Axis) → quads_before loops_of size s cut a (plane_size size * last) ≡ quads_before loops_of size s cut a (sample_count size)
  planes_all a = flat_injective _ _ (quads_flat size s cut a (plane_size size * last) ∙ planes_quads_all size s cut a last last_is ∙ sym (quads_flat size s cut a (sample_count size)))

  -- put back into 01's order they are 01's quads, each once
  pub put_back_lem : quads_back r ≡ quads loops_of size s cut
  unfolding quads
  put_back_lem =
      ap₂ (λ (c : ℕ → ℕ) (qs : List Quad). put_back size c qs) (λ i v. cube_at_lem v i) (ap in_fours all_flat ∙ fours_flat (below (call_list (cube_laws joined) size s cut) last))
      ∙ calls_back (cube_laws joined) size s cut last
      ∙ three_same (planes_all X) (planes_all Y) (planes_all Z)

  -- a plane past nz is refused with 17 and nz, whatever is lent
  pub planes_past : {plane work w : List ℕ} {o : List Float} {q : List ℕ} {a : Taken} {work' w' : List ℕ} {o' : List Float} {q' : List ℕ} → PlaneTaken (r.state nz) plane work w o q a work' w' o' q'
      → said_taken a ≡ refused (record { number = 17; value = nz })
  planes_past {plane} {work} {w} {o} {q} {a} promise =
      ap said_taken (plane_early_fixed (taken_as (at r nz (omega arith)).is promise) (record { number = 17; value = nz })
      (call_axes (standing r nz) (length plane) (length work) l.block.limits ∙ sym (call_past (standing r nz) (length plane) (length work) l.threshold (omega (arith, l.block.limits.z_high)) (omega arith)))).0
    where
      l : Left s (standing r nz) (r.work nz)
      l = (at r nz (omega arith)).left

  -- an end gives the counts of the block
  pub planes_totals : (c : Counted) → FinishAnswered (r.state nz) c → said_counts c ≡ accepted (counts_of size s cut)
  planes_totals c f =
      subst (λ (st : Stream). FinishAnswered st c) (at r nz (omega arith)).is f
      ∙ sym (judged_passed _ (counts_of size s cut) _ ended (ap₂ (λ (v q : ℕ). record { vertices = v; quads = q }) vertices_all quads_all))
    where
      l : Left s (standing r nz) (r.work nz)
      l = (at r nz (omega arith)).left

      ended : in_order (end_row (standing r nz) ∷ []) ≡ Passes
      ended = order_last (end_row (standing r nz)) ∙ ap (λ (b : Bool). cond b (refuses 18 nz) Passes) (le-ltb nz nz (omega arith))

      vertices_all : vertex_count size s cut ≡ vertices_to r nz
      vertices_all = sym (l.vertices_are ∙ ap (λ (k : ℕ). length (vertices_before loops_of size s cut k)) (layers_all size last last_is) ∙ vertices_are size s cut)

      quads_all : quad_count size s cut ≡ quads_to r nz
      quads_all =
          omega (
            arith,
            l.quads_are,
            ap length (planes_quads_all size s cut X last last_is),
            ap length (planes_quads_all size s cut Y last last_is),
            ap length (planes_quads_all size s cut Z last last_is),
            all_quads_lem size s cut,
          )

-- ---- demand 3

module _ {nx ny nz : ℕ} {s : List ℕ} {cut : Cut} (r : PlaneRun nx ny nz s cut nz) (three : AtLeastThree (size_of nx ny nz)) where
  -- no quad: the samples off the twelve edges are all alike
  pub planes_no_quad : all_quads r ≡ [] → (i j k i' j' k' : ℕ) → OffEdges (size_of nx ny nz) i j k → OffEdges (size_of nx ny nz) i' j' k' → metal (size_of nx ny nz) s cut i j k ≡ metal (size_of nx ny nz) s cut i' j' k'
  planes_no_quad none = demand3_alike loops_of (size_of nx ny nz) three s cut (sym (put_back_lem r) ∙ ap (λ (l : List ℕ). put_back (size_of nx ny nz) (cube_in r) (in_fours l)) none ∙ nothing_back (size_of nx ny nz) (cube_in r))

  -- two runs that wrote the same cube for every vertex and the same quads, put back, at least one: each of these samples is metal in both or hollow in both
  pub planes_alike : {s' : List ℕ} {cut' : Cut} (b : PlaneRun nx ny nz s' cut' nz) → ((v : ℕ) → cube_in r v ≡ cube_in b v) → quads_back r ≡ quads_back b → 0 < length (quads_back r)
      → (i j k : ℕ) → OffEdges (size_of nx ny nz) i j k → metal (size_of nx ny nz) s cut i j k ≡ metal (size_of nx ny nz) s' cut' i j k
  planes_alike {s'} {cut'} b same back some =
      demand3 (cube_laws joined) (size_of nx ny nz) three s cut s' cut' (λ v. sym (cube_at_lem r v) ∙ same v ∙ cube_at_lem b v) (ap flat (sym (put_back_lem r) ∙ back ∙ put_back_lem b)) (omega (arith, some, ap length (put_back_lem r)))
