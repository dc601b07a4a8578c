-- What a call that takes a plane needs at most (document 02, Nine): room for four vertices in each cube of the layer, and for a quad for each edge along x or y
-- on its lower plane and each edge along z through it that can be inner. With such buffers no plane of a run is refused.
use Prim.Native.Nat.{ℕ, zero, suc, ◌+◌, ◌*◌, ◌-◌, ◌/◌, ◌%◌, ◌≤◌, ◌<◌}
use mathlib.Core.Path.{◌≡◌, refl, ap, sym, ◌∙◌}
use mathlib.Core.Bool.{Bool, true, false, ◌&&◌}
use mathlib.Core.List.{List}
use native.Mathlib.Nat.{mul_assoc, mul-suc}
use native.Mathlib.Numerals.{add-one}
use native.Mathlib.Omega.{arith}
use lib.Dec.{ltb}
use lib.Ieee.{Float}
use lib.ListN.{length, length-append}
use Rattle.laws.specs.Bits.{bit}
use Rattle.laws.specs.Counting.{count}
use Rattle.laws.proofs.Below.{at_most}
use Rattle.laws.proofs.Counting.{count_le, count_all, count_add, count_box}
use Rattle.block.specs.declared.Cut.{Cut}
use Rattle.block.specs.declared.Size.{Size}
use Rattle.block.specs.Answer.{accepted}
use Rattle.block.specs.Numbering.{Axis, X, Y, Z}
use Rattle.block.proofs.Order.{orders_pass}
use Rattle.cube_rule.specs.Decider.{joined, loops_of}
use Rattle.cube_rule.proofs.Laws.{cube_laws}
use Rattle.mesh_rule.specs.Grid.{corners_of, between, crossed_inner}
use Rattle.mesh_rule.specs.Layers.{plane_size, layer_size, plane_quads, layer_quads, layer_count}
use Rattle.mesh_rule.specs.Mesh.{cube_loops, quads_before}
use Rattle.mesh_rule.proofs.Counts.{count_lower, count_between, bit_and_le, inner_from}
use Rattle.mesh_rule.proofs.Quads.{flat_length, quads_along}
use Rattle.mesh.specs.Steps.{quads_up_to}
use Rattle.mesh.proofs.BufferRows.{roomy}
use Rattle.mesh.proofs.PlaneQuads.{quads_flat, planes_quads_next}
use Rattle.plane_layers.proofs.Grown.{quads_length, quads_four}
use Rattle.by_planes.specs.declared.Stream.{Stream}
use Rattle.by_planes.specs.declared.Taken.{Taken}
use Rattle.by_planes.specs.Answer.{size_in, plane_of, part_totals, further, said_taken}
use Rattle.by_planes.specs.Left.{Left, PlaneTaken}
use Rattle.by_planes.proofs.Lefts.{left_early}
use Rattle.demands.proofs.PlaneRows.{plane_accepts}

-- ---- a rectangle: of the numbers of one plane, those pass whose two coordinates do

module _ (u v : ℕ → Bool) (w h : ℕ) where
  abbrev passes : ℕ → Bool
  passes p = u (p % w) && v (p / w % h) && true

  before : (d : ℕ) → count passes (w * h * d) ≡ count u w * count v h * d
  before d =
      ap (count passes) (mul_assoc w h d)
      ∙ count_box u v (λ (t : ℕ). true) w h d
      ∙ ap (λ (x : ℕ). count u w * (count v h * x)) (count_all (λ (t : ℕ). true) d (λ m l. refl))
      ∙ sym (mul_assoc (count u w) (count v h) d)

  count_plane : (k : ℕ) → count (λ (x : ℕ). passes (w * h * k + x)) (w * h) ≡ count u w * count v h
  count_plane k =
      omega (arith, before k, before (suc k), count_add passes (w * h * k) (w * h), ap (count passes) (mul-suc (w * h) k), mul-suc (count u w * count v h) k)

  -- a test of the third coordinate can only take away
  plane_le : (t : ℕ → Bool) (k : ℕ) → count (λ (x : ℕ). u ((w * h * k + x) % w) && v ((w * h * k + x) / w % h) && t ((w * h * k + x) / w / h)) (w * h) ≤ count u w * count v h
  plane_le t k =
      rw (count_plane k) at
      (count_le (λ (x : ℕ). u ((w * h * k + x) % w) && v ((w * h * k + x) / w % h) && t ((w * h * k + x) / w / h)) (λ (x : ℕ). passes (w * h * k + x)) (w * h) (λ x l. third_le (u ((w * h * k + x) % w) && v ((w * h * k + x) / w % h)) (t ((w * h * k + x) / w / h))))
    where
      third_le : (a b : Bool) → bit (a && b) ≤ bit (a && true)
      third_le true true = omega arith
      third_le true false = omega arith
      third_le false b = omega arith

-- ---- a layer

-- how many edges along each axis can be inner
abbrev pub most_along : Size → Axis → ℕ
most_along n X = (n.nx - 1) * (n.ny - 2)
most_along n Y = (n.nx - 2) * (n.ny - 1)
most_along n Z = (n.nx - 2) * (n.ny - 2)

module _ (n : Size) (s : List ℕ) (cut : Cut) (k : ℕ) where
  inner_along : (a : Axis) → count (λ (x : ℕ). inner_from n a (plane_size n * k + x)) (plane_size n) ≤ most_along n a
  inner_along X = rw (count_lower n.nx, count_between n.ny) at (plane_le (λ (i : ℕ). ltb (i + 1) n.nx) (between n.ny) n.nx n.ny (between n.nz) k)
  inner_along Y = rw (count_between n.nx, count_lower n.ny) at (plane_le (between n.nx) (λ (j : ℕ). ltb (j + 1) n.ny) n.nx n.ny (between n.nz) k)
  inner_along Z = rw (count_between n.nx, count_between n.ny) at (plane_le (between n.nx) (between n.ny) n.nx n.ny (λ (z : ℕ). ltb (z + 1) n.nz) k)

  up_to : (a : Axis) (m : ℕ) → length (quads_up_to loops_of n s cut a m) ≡ 4 * count (crossed_inner n s cut a) m
  up_to a m = ap length (sym (quads_flat n s cut a m)) ∙ flat_length (quads_before loops_of n s cut a m) ∙ ap (λ (x : ℕ). 4 * x) (quads_along loops_of n s cut a m)

  along : (a : Axis) → length (plane_quads loops_of n s cut a k) ≤ 4 * most_along n a
  along a =
      omega (
        arith,
        ap length (planes_quads_next n s cut a k) ∙ length-append (quads_up_to loops_of n s cut a (plane_size n * k)) (plane_quads loops_of n s cut a k),
        up_to a (plane_size n * k),
        up_to a (plane_size n * (k + 1)),
        ap (count (crossed_inner n s cut a)) (ap (λ (x : ℕ). plane_size n * x) (add-one k) ∙ mul-suc (plane_size n) k),
        count_add (crossed_inner n s cut a) (plane_size n * k) (plane_size n),
        count_le (λ (x : ℕ). crossed_inner n s cut a (plane_size n * k + x)) (λ (x : ℕ). inner_from n a (plane_size n * k + x)) (plane_size n) (λ x l. bit_and_le (inner_from n a (plane_size n * k + x)) _),
        inner_along a,
      )

  pub layer_quads_le : length (layer_quads loops_of n s cut k) ≤ 4 * (most_along n X + most_along n Y + most_along n Z)
  layer_quads_le = omega (arith, quads_length n s cut k, along X, along Y, along Z)

  pub layer_vertices_le : layer_count loops_of n s cut k ≤ 4 * layer_size n
  layer_vertices_le = at_most (λ (x : ℕ). cube_loops loops_of n s cut (layer_size n * k + x)) 4 (layer_size n) (λ x l. (cube_laws joined).four cut (corners_of n s (layer_size n * k + x)))

-- ---- a call

part_le : (n : Size) (s : List ℕ) (cut : Cut) (k : ℕ) → ((part_totals n s cut k).vertices ≤ 4 * layer_size n) × ((part_totals n s cut k).quads ≤ most_along n X + most_along n Y + most_along n Z)
part_le n s cut zero = (omega arith, omega arith)
part_le n s cut (suc k) = (layer_vertices_le n s cut k, omega (arith, layer_quads_le n s cut k, quads_four n s cut k))

-- with buffers for four vertices a cube and a quad for each of these edges, the next plane is taken
pub planes_enough : {s : List ℕ} {st : Stream} {plane work w : List ℕ} {o : List Float} {q : List ℕ} {r : Taken} {work' w' : List ℕ} {o' : List Float} {q' : List ℕ} → PlaneTaken st plane work w o q r work' w' o' q'
    → Left s st work → st.planes < st.nz → plane ≡ plane_of (size_in st) s st.planes → 8 * ((st.nx - 1) * (st.ny - 1)) ≤ length w → 12 * ((st.nx - 1) * (st.ny - 1)) ≤ length o
    → 4 * ((st.nx - 1) * (st.ny - 2) + (st.nx - 2) * (st.ny - 1) + (st.nx - 2) * (st.ny - 2)) ≤ length q
    → said_taken r ≡ accepted (record { stream = further st (part_totals (size_in st) s st.cut st.planes); counts = part_totals (size_in st) s st.cut st.planes })
planes_enough {s} {st} {plane} {work} {w} {o} {q} promise left more is lw lo lq =
    let c = part_totals (size_in st) s st.cut st.planes in
    let m = part_le (size_in st) s st.cut st.planes in
    (plane_accepts promise left (λ h l. is) _).1 (
      orders_pass _ _ (left_early left more plane is) ∙ roomy c.vertices c.quads (length w) (length o) (length q) (omega (arith, m)) (omega (arith, m)) (omega (arith, m)),
      refl,
    )
