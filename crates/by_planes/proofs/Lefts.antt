-- A state and a work buffer as last left: they pass the rows that need no count, their numbers are small, and a start leaves the first.
-- What a call promises of a state it promises of an equal one.
-- Assumes nothing.
use Rattle.std.proofs.Common.{◌≡◌, ℕ, ◌+◌, ◌-◌, ◌*◌, ◌<◌, ◌≤◌, leb, List, [], length, drop, sym, ap, ◌∙◌, subst, mul_assoc, mul-le-mul_left, mul-zero, arith, length-drop, length-take-le, le-leb, leb-true}
use lib.Ieee.{Float}
use Rattle.laws.specs.Below.{below}
use Rattle.block.specs.declared.Checked.TheVariants.{Passes}
use Rattle.block.specs.declared.Cut.{Cut}
use Rattle.block.specs.declared.Size.{Size}
use Rattle.block.specs.Answer.{in_order}
use Rattle.block.specs.Grey.{SixteenBit}
use Rattle.block.specs.Numbering.{Axis, X, Y, Z, sample_count}
use Rattle.block.specs.Rows.{axis_row, threshold_row}
use Rattle.block.specs.Size.{size_of}
use Rattle.block.proofs.Order.{order_first, order_rest}
use Rattle.block.proofs.Rows.{unless_passes, unless_none}
use Rattle.block.proofs.Sizes.{axes_within}
use Rattle.cube_rule.specs.Decider.{joined, loops_of}
use Rattle.cube_rule.proofs.Laws.{cube_laws}
use Rattle.mesh_rule.specs.Layers.{plane_size, layer_size}
use Rattle.mesh_rule.specs.Mesh.{vertices_before}
use Rattle.mesh_rule.proofs.Counts.{most_vertices, most_quads}
use Rattle.mesh.specs.Steps.{quads_up_to}
use Rattle.mesh.proofs.Rows.{below_le, vertices_le}
use Rattle.mesh.proofs.Tallies.{all_quads_lem}
use Rattle.by_planes.specs.declared.Stream.{Stream}
use Rattle.by_planes.specs.declared.Taken.{Taken}
use Rattle.by_planes.specs.Answer.{size_in, plane_of, begun, work_row, start_rows, call_rows}
use Rattle.by_planes.specs.Left.{Left, PlaneTaken}
use Rattle.by_planes.proofs.Rows.{call_axes, call_room}

-- some layers are some of the cubes, and some planes some of the samples
pub in_cubes : (a b c k : ℕ) → k ≤ c → a * b * k ≤ a * (b * c)
in_cubes a b c k h = omega (arith, mul_assoc a b c, mul-le-mul_left (a * b) h)

pub some_quads : (n : Size) (s : List ℕ) (cut : Cut) (a : Axis) (k : ℕ) → k ≤ n.nz → length (quads_up_to loops_of n s cut a (plane_size n * k)) ≤ length (quads_up_to loops_of n s cut a (sample_count n))
some_quads n s cut a k h = below_le _ (plane_size n * k) (sample_count n) (in_cubes n.nx n.ny n.nz k h)

-- ---- a state and a work buffer as last left pass the rows that need no count, while planes are to come

pub plane_length : {s : List ℕ} {st : Stream} {work : List ℕ} → Left s st work → st.planes < st.nz → length (plane_of (size_in st) s st.planes) ≡ st.nx * st.ny
plane_length {s} {st} left more =
    length-take-le (plane_size (size_in st)) (drop (plane_size (size_in st) * st.planes) s)
    (omega (arith, length-drop (plane_size (size_in st) * st.planes) s, left.block.samples, inside st.nx st.ny st.nz st.planes more))
  where
    inside : (a b c k : ℕ) → k < c → a * b * k + a * b ≤ a * (b * c)
    inside a b c k h = omega (arith, mul_assoc a b c, mul-le-mul_left (a * b) (next h))
      where
        next : k < c → k + 1 ≤ c
        next q = omega arith

pub left_early : {s : List ℕ} {st : Stream} {work : List ℕ} → Left s st work → st.planes < st.nz → (plane : List ℕ) → plane ≡ plane_of (size_in st) s st.planes → in_order (call_rows st (length plane) (length work)) ≡ Passes
left_early {s} {st} {work} left more plane is =
    call_axes st (length plane) (length work) left.block.limits
    ∙ sym (call_room st (length plane) (length work) left.threshold more (ap length is ∙ plane_length left more))
    ∙ sym (unless_passes (leb (6 * (st.nx * st.ny)) (length work)) 15 (6 * (st.nx * st.ny)) (le-leb (6 * (st.nx * st.ny)) (length work) left.room))

-- ---- in a run nothing wraps: all numbers are below those of the largest mesh

pub left_few : {s : List ℕ} {st : Stream} {work : List ℕ} → Left s st work → (st.vertices ≤ 66325500) × (st.quads ≤ 49354740)
left_few {s} {st} left = (
  omega (
    arith,
    left.vertices_are,
    vertices_le (size_in st) s st.cut (layer_size (size_in st) * (st.planes - 1)) (in_cubes (st.nx - 1) (st.ny - 1) (st.nz - 1) (st.planes - 1) (less left.in_block)),
    most_vertices loops_of (size_in st) s st.cut (cube_laws joined) left.block.limits,
  ),
  omega (arith, left.quads_are, some X, some Y, some Z, all_quads_lem (size_in st) s st.cut, most_quads loops_of (size_in st) s st.cut left.block.limits),
)
  where
    less : st.planes ≤ st.nz → st.planes - 1 ≤ st.nz - 1
    less h = omega arith

    some : (a : Axis) → length (quads_up_to loops_of (size_in st) s st.cut a (plane_size (size_in st) * (st.planes - 1))) ≤ length (quads_up_to loops_of (size_in st) s st.cut a (sample_count (size_in st)))
    some a = some_quads (size_in st) s st.cut a (st.planes - 1) (omega (arith, left.in_block))

-- ---- a start leaves a state of no plane, whatever the block

none_before : (n : Size) (s : List ℕ) (cut : Cut) (c : ℕ) → c ≡ 0 → ◌≡◌ {A = ℕ} 0 (length (vertices_before loops_of n s cut c))
unfolding vertices_before below
none_before n s cut c e = ap (λ (x : ℕ). length (vertices_before loops_of n s cut x)) (sym e)

no_quads : (n : Size) (s : List ℕ) (cut : Cut) (a : Axis) (m : ℕ) → m ≡ 0 → ◌≡◌ {A = ℕ} 0 (length (quads_up_to loops_of n s cut a m))
unfolding below
no_quads n s cut a m e = ap (λ (x : ℕ). length (quads_up_to loops_of n s cut a x)) (sym e)

pub begun_left : (nx ny nz : ℕ) (cut : Cut) (s work : List ℕ) → in_order (start_rows nx ny nz cut (length work)) ≡ Passes → length s ≡ sample_count (size_of nx ny nz) → SixteenBit s → Left s (begun nx ny nz cut) work
begun_left nx ny nz cut s work e count grey =
    let n = size_of nx ny nz in
    let a = order_rest (axis_row nx ny nz) _ e in
    let b = order_rest (threshold_row cut) _ a in
    record {
      block = record { limits = axes_within nx ny nz (order_first (axis_row nx ny nz) _ e); samples = count };
      grey = grey;
      threshold = order_first (threshold_row cut) _ a;
      room = leb-true (6 * (nx * ny)) (length work) (unless_none (leb (6 * (nx * ny)) (length work)) 15 (6 * (nx * ny)) (order_first (work_row nx ny (length work)) _ b));
      in_block = omega arith;
      vertices_are = none_before n s cut (layer_size n * (0 - 1)) (mul-zero (layer_size n));
      quads_are = omega (arith, no_quads n s cut X (plane_size n * (0 - 1)) (mul-zero (plane_size n)), no_quads n s cut Y (plane_size n * (0 - 1)) (mul-zero (plane_size n)), no_quads n s cut Z (plane_size n * (0 - 1)) (mul-zero (plane_size n)));
      plane = λ h. absurd (omega arith);
      tables = λ h. absurd (omega arith);
    }

-- ---- a state, told in another way

pub taken_as : {st st' : Stream} {plane work w : List ℕ} {o : List Float} {q : List ℕ} {r : Taken} {work' w' : List ℕ} {o' : List Float} {q' : List ℕ} → st ≡ st' → PlaneTaken st plane work w o q r work' w' o' q' → PlaneTaken st' plane work w o q r work' w' o' q'
taken_as {st} {st'} {plane} {work} {w} {o} {q} {r} {work'} {w'} {o'} {q'} e h = subst (λ (x : Stream). PlaneTaken x plane work w o q r work' w' o' q') e h
