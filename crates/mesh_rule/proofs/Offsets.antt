-- Every offset of a mesh is within its cube: each coordinate in the offsets buffer is at least 0 and at most 1, and has the sign plus, for
-- 16-bit samples and every threshold. The buffer has three coordinates for each vertex.
-- Assumes nothing.
use Prim.Native.Nat.{ℕ, zero, suc, ◌+◌, ◌*◌, ◌-◌, ◌/◌, ◌%◌, ◌<◌}
use mathlib.Core.Path.{◌≡◌, refl, ap, sym, ◌∙◌, subst}
use mathlib.Core.Bool.{not}
use mathlib.Core.List.{List, [], ◌∷◌, map, Memᴰ}
use native.Mathlib.Nat.{not-suc-le-zero}
use native.Mathlib.Omega.{arith}
use lib.Dec.{T}
use lib.Ieee.{nan, is_nan}
use lib.ListN.{length, get_or, length-map}
use Rattle.laws.specs.Below.{below}
use Rattle.laws.proofs.Below.{split, get_or-below}
use Rattle.block.specs.declared.Cut.{Cut}
use Rattle.block.specs.declared.Size.{Size}
use Rattle.block.specs.Numbering.{sample_index, cube_count}
use Rattle.cube_rule.specs.Decider.{loops_of}
use Rattle.place.specs.declared.Offset.{Offset}
use Rattle.place.specs.Place.{place_of}
use Rattle.place.specs.Unit.{InUnit, Inside}
use Rattle.block.specs.Grey.{SixteenBit}
use Rattle.place.proofs.Bounds.{unit_number, place_in_unit}
use Rattle.cell.proofs.Answers.{loop_crossed}
use Rattle.mesh_rule.specs.Grid.{corners_at, corners_of}
use Rattle.mesh_rule.specs.Mesh.{Vertex, vertices, cube_loops}
use Rattle.mesh_rule.specs.Buffers.{triples, mesh_offsets}
use Rattle.mesh_rule.specs.Layers.{cube_offsets}
use Rattle.mesh_rule.proofs.Words.{offsets_by_cube, triples_length}

-- ---- the corners of a cube are samples

-- what is read from the samples at any places
read_grey : (s : List ℕ) → SixteenBit s → (ps : List ℕ) → SixteenBit (map (λ (p : ℕ). get_or s p 0) ps)
read_grey s g [] c = omega arith
read_grey s g (p ∷ ps) zero = g p
read_grey s g (p ∷ ps) (suc c) = read_grey s g ps c

at_grey : (n : Size) (s : List ℕ) → SixteenBit s → (i j k : ℕ) → SixteenBit (corners_at n s i j k)
at_grey n s g i j k =
    read_grey s g
    (sample_index n i j k ∷ sample_index n (i + 1) j k ∷ sample_index n i (j + 1) k ∷ sample_index n (i + 1) (j + 1) k
    ∷ sample_index n i j (k + 1) ∷ sample_index n (i + 1) j (k + 1) ∷ sample_index n i (j + 1) (k + 1) ∷ sample_index n (i + 1) (j + 1) (k + 1) ∷ [])

corners_grey : (n : Size) (s : List ℕ) → SixteenBit s → (c : ℕ) → SixteenBit (corners_of n s c)
unfolding corners_of
corners_grey n s g c = at_grey n s g (c % (n.nx - 1)) (c / (n.nx - 1) % (n.ny - 1)) (c / (n.nx - 1) / (n.ny - 1))

-- ---- the coordinates of offsets that are inside

triples_in_unit : (f : ℕ → Offset) (ms : List ℕ) → ((m : ℕ) → Memᴰ m ms → Inside (f m)) → (k : ℕ) → k < length (triples (map f ms))
    → InUnit (get_or (triples (map f ms)) k nan)
triples_in_unit f [] h k l = absurd (not-suc-le-zero l)
triples_in_unit f (m ∷ ms) h zero l = (h m (Memᴰ.head refl)).0
triples_in_unit f (m ∷ ms) h (suc zero) l = (h m (Memᴰ.head refl)).1
triples_in_unit f (m ∷ ms) h (suc (suc zero)) l = (h m (Memᴰ.head refl)).2
triples_in_unit f (m ∷ ms) h (suc (suc (suc k))) l = triples_in_unit f ms (λ x d. h x (Memᴰ.tail d)) k (omega arith)

module _ (n : Size) (s : List ℕ) (cut : Cut) where
  -- of one cube
  cube_in_unit : SixteenBit s → (c k : ℕ) → k < length (cube_offsets loops_of n s cut c) → InUnit (get_or (cube_offsets loops_of n s cut c) k nan)
  unfolding cube_offsets
  cube_in_unit g c =
      triples_in_unit (place_of cut (corners_of n s c)) (cube_loops loops_of n s cut c)
      (λ m d. place_in_unit cut (corners_of n s c) m (corners_grey n s g c) (loop_crossed cut (corners_of n s c) m d))

  -- of the whole mesh
  pub offsets_in_unit : SixteenBit s → (k : ℕ) → k < length (mesh_offsets loops_of n s cut) → InUnit (get_or (mesh_offsets loops_of n s cut) k nan)
  offsets_in_unit g k h =
      let e = offsets_by_cube loops_of n s cut in
      let r = split (cube_offsets loops_of n s cut) (cube_count n) k (rw e at h) in
      subst InUnit
      (sym (rw e (ap (λ (j : ℕ). get_or (below (cube_offsets loops_of n s cut) (cube_count n)) j nan) r.4) ∙ get_or-below (cube_offsets loops_of n s cut) nan (cube_count n) r.0 r.1 r.2 r.3))
      (cube_in_unit g r.0 r.1 r.3)

  -- none is a NaN
  pub offset_numbers : SixteenBit s → (k : ℕ) → k < length (mesh_offsets loops_of n s cut) → T (not (is_nan (get_or (mesh_offsets loops_of n s cut) k nan)))
  offset_numbers g k h = unit_number (get_or (mesh_offsets loops_of n s cut) k nan) (offsets_in_unit g k h)

-- ---- how many there are

-- three for each vertex
pub mesh_offsets_length : (n : Size) (s : List ℕ) (cut : Cut) → length (mesh_offsets loops_of n s cut) ≡ 3 * length (vertices loops_of n s cut)
unfolding mesh_offsets
mesh_offsets_length n s cut =
    triples_length (map (λ (v : Vertex). place_of cut (corners_of n s v.cube) v.mask) (vertices loops_of n s cut))
    ∙ ap (λ (x : ℕ). 3 * x) (length-map (vertices loops_of n s cut) (λ (v : Vertex). place_of cut (corners_of n s v.cube) v.mask))
