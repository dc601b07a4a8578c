-- The largest counts: four vertices in each of 255³ cubes, and one quad for each inner edge of a block with 256 samples along each axis.
-- Assumes nothing.
use Prim.Native.Nat.{ℕ, zero, suc, ◌+◌, ◌*◌, ◌-◌, ◌≤◌}
use mathlib.Core.Path.{◌≡◌, refl, ap, ◌∙◌}
use mathlib.Core.Bool.{Bool, true, false, ◌&&◌, and-false}
use mathlib.Core.List.{List}
use native.Mathlib.Omega.{arith}
use lib.Dec.{ltb}
use lib.ListN.{length}
use borrow.Author.Tests.{lt-ltb, le-ltb}
use Rattle.laws.specs.Bits.{bit}
use Rattle.laws.proofs.Below.{at_most}
use Rattle.laws.specs.Counting.{count}
use Rattle.laws.proofs.Counting.{count_le, count_all, count_but_first, count_box}
use Rattle.block.specs.declared.Cut.{Cut}
use Rattle.block.specs.declared.Size.{Size}
use Rattle.block.specs.Numbering.{Axis, X, Y, Z, sample_count, cube_count, at_sample}
use Rattle.block.specs.Size.{Limits}
use Rattle.block.proofs.Products.{product_le}
use Rattle.cube_rule.specs.Laws.{CubeLaws}
use Rattle.cube_rule.specs.Links.{Decider}
use Rattle.mesh_rule.specs.Grid.{corners_of, between, inner, crossed_inner}
use Rattle.mesh_rule.specs.Mesh.{vertices_of, vertices_before, vertices, quads}
use Rattle.mesh_rule.proofs.Inner.{mid_between}
use Rattle.mesh_rule.proofs.Numbers.{one_for_each_loop}
use Rattle.mesh_rule.proofs.Quads.{quad_count_lem}

-- ---- inner edges

-- all of n but the last, and all but the first and the last
pub count_lower : (n : ℕ) → count (λ (c : ℕ). ltb (c + 1) n) n ≡ n - 1
unfolding count
count_lower zero = refl
count_lower (suc n) =
    rw (le-ltb (n + 1) (suc n) (omega arith))
    (omega (arith, count_all (λ (c : ℕ). ltb (c + 1) (suc n)) n (λ c l. lt-ltb (c + 1) (suc n) (omega arith))))

pub count_between : (n : ℕ) → count (between n) n ≡ n - 2
unfolding count
count_between zero = refl
count_between (suc n) =
    omega (
      arith,
      ap bit (last_not n),
      count_but_first (between (suc n)) n refl (λ c p l. mid_between (suc n) c (omega arith)),
    )
  where
    last_not : (n : ℕ) → between (suc n) n ≡ false
    last_not n = rw (le-ltb (n + 1) (suc n) (omega arith)) (and-false (ltb 0 n))

-- the edge along the axis from the sample with the index p is inner
abbrev pub inner_from : Size → Axis → ℕ → Bool
inner_from n a p = at_sample n (inner n a) p

-- how many inner edges run along each axis
abbrev pub inner_count : Size → Axis → ℕ
inner_count n X = (n.nx - 1) * ((n.ny - 2) * (n.nz - 2))
inner_count n Y = (n.nx - 2) * ((n.ny - 1) * (n.nz - 2))
inner_count n Z = (n.nx - 2) * ((n.ny - 2) * (n.nz - 1))

pub inner_count_lem : (n : Size) (a : Axis) → count (inner_from n a) (sample_count n) ≡ inner_count n a
inner_count_lem n X =
    count_box (λ (i : ℕ). ltb (i + 1) n.nx) (between n.ny) (between n.nz) n.nx n.ny n.nz
    ∙ rw (count_lower n.nx, count_between n.ny, count_between n.nz)
inner_count_lem n Y =
    count_box (between n.nx) (λ (j : ℕ). ltb (j + 1) n.ny) (between n.nz) n.nx n.ny n.nz
    ∙ rw (count_between n.nx, count_lower n.ny, count_between n.nz)
inner_count_lem n Z =
    count_box (between n.nx) (between n.ny) (λ (k : ℕ). ltb (k + 1) n.nz) n.nx n.ny n.nz
    ∙ rw (count_between n.nx, count_between n.ny, count_lower n.nz)

-- ---- the largest counts

pub bit_and_le : (a b : Bool) → bit (a && b) ≤ bit a
bit_and_le true true = omega arith
bit_and_le true false = omega arith
bit_and_le false b = omega arith

module _ (loops_of : Cut → List ℕ → List ℕ) (n : Size) (s : List ℕ) (cut : Cut) where
  -- at most one quad for each inner edge
  pub quads_le_inner : length (quads loops_of n s cut) ≤ inner_count n X + inner_count n Y + inner_count n Z
  quads_le_inner = omega (arith, quad_count_lem loops_of n s cut, along X, along Y, along Z)
    where
      along : (a : Axis) → count (crossed_inner n s cut a) (sample_count n) ≤ inner_count n a
      along a = rw (inner_count_lem n a) at (count_le (crossed_inner n s cut a) (inner_from n a) (sample_count n) (λ p l. bit_and_le (inner_from n a p) _))

  -- three times 255 · 254 · 254
  pub most_quads : Limits n → length (quads loops_of n s cut) ≤ 49354740
  most_quads h =
      omega (
        arith,
        quads_le_inner,
        product_le (n.nx - 1) (n.ny - 2) (n.nz - 2) 255 254 254 (omega arith) (omega arith) (omega arith),
        product_le (n.nx - 2) (n.ny - 1) (n.nz - 2) 254 255 254 (omega arith) (omega arith) (omega arith),
        product_le (n.nx - 2) (n.ny - 2) (n.nz - 1) 254 254 255 (omega arith) (omega arith) (omega arith),
      )

  -- at most four vertices in each cube
  pub vertices_le_cubes : {D : Decider} → CubeLaws D loops_of → length (vertices loops_of n s cut) ≤ 4 * cube_count n
  unfolding vertices vertices_before
  vertices_le_cubes laws = at_most (vertices_of loops_of n s cut) 4 (cube_count n) (λ c l. rw one_for_each_loop (laws.four cut (corners_of n s c)))

  -- four in each of 255 · 255 · 255 cubes
  pub most_vertices : {D : Decider} → CubeLaws D loops_of → Limits n → length (vertices loops_of n s cut) ≤ 66325500
  most_vertices laws h =
      omega (
        arith,
        vertices_le_cubes laws,
        product_le (n.nx - 1) (n.ny - 1) (n.nz - 1) 255 255 255 (omega arith) (omega arith) (omega arith),
      )
