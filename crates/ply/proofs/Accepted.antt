-- What is so of a mesh that no row refuses: among other things, each coordinate that is written is a number.
-- Assumes nothing.
use Prim.Native.Nat.{ℕ, zero, suc, ◌+◌, ◌*◌, ◌-◌, ◌/◌, ◌%◌, ◌≤◌, ◌<◌}
use mathlib.Core.Path.{◌≡◌, refl, sym, subst, ◌∙◌}
use mathlib.Core.Bool.{Bool, true, false, not}
use mathlib.Core.List.{List, [], ◌∷◌}
use native.Mathlib.Nat.{add-zero}
use native.Mathlib.Omega.{arith}
use lib.Dec.{T, leb}
use lib.ListN.{length, get_or}
use lib.Ieee.{Float, nan, binary64, mul, le}
use borrow.Author.Tests.{ltb-true, leb-true}
use Rattle.laws.proofs.Index.{index_box}
use Rattle.laws.proofs.Leading.{HoldsTo}
use Rattle.laws.proofs.Tests.{and_both}
use Rattle.block.specs.declared.Checked.TheVariants.{Passes}
use Rattle.block.specs.declared.Size.{Size}
use Rattle.block.specs.Numbering.{cube_count}
use Rattle.block.specs.Rows.{axis_row}
use Rattle.block.specs.Size.{size_of, Limits}
use Rattle.block.proofs.Lowest.{row_clear}
use Rattle.block.proofs.Order.{order_first, order_rest, order_last}
use Rattle.block.proofs.Rows.{unless_none}
use Rattle.block.proofs.Searches.{search_none}
use Rattle.block.proofs.Sizes.{axes_within}
use Rattle.lists.specs.Rows.{length_row, quad_below, number_row}
use Rattle.lists.proofs.Rows.{length_exactly}
use Rattle.place.specs.Crossing.{float}
use Rattle.place.specs.Place.{plus_zero}
use Rattle.vertex_lists.specs.Rows.{shape_row, cube_inside, cube_row, from_zero_to_one, offset_inside, offset_row}
use Rattle.vertex_lists.proofs.Rows.{shape_exactly}
use Rattle.ply.specs.declared.Spacing.{Spacing}
use Rattle.ply.specs.Rows.{spacings, good_spacing, bad_spacing, spacing_row}
use Rattle.ply.specs.File.{cube_place, place_on, ply_file}
use Rattle.ply.specs.Answer.{ply_verdict}
use Rattle.ply.specs.Words.{file_length, Number, AllNumbers}
use Rattle.ply.specs.Steps.{x_of, y_of, z_of}
use Rattle.ply.proofs.Files.{ply_length}
use Rattle.ply.proofs.Places.{coordinate_number, coordinate_inside}

-- the numbers of a vertex, by its fields
pub three_numbers : (n : Size) (words : List ℕ) (offsets : List Float) (s : Spacing) (count : ℕ) → AllNumbers n words offsets s count → (v : ℕ) → v < count
    → Number (x_of (n.nx - 1) (get_or words (2 * v) 0) (get_or offsets (3 * v) nan) s)
    × Number (y_of (n.nx - 1) (n.ny - 1) (get_or words (2 * v) 0) (get_or offsets (3 * v + 1) nan) s)
    × Number (z_of (n.nx - 1) (n.ny - 1) (get_or words (2 * v) 0) (get_or offsets (3 * v + 2) nan) s)
three_numbers n words offsets s count all v h = (rw (add-zero (3 * v)) at (all v 0 h (omega arith)), all v 1 h (omega arith), all v 2 h (omega arith))

-- how many cubes there are along the axis a
abbrev pub cubes_on : Size → ℕ → ℕ
cubes_on n a = get_or ((n.nx - 1) ∷ (n.ny - 1) ∷ (n.nz - 1) ∷ []) a 0

module _ (nx ny nz : ℕ) (words : List ℕ) (offsets : List Float) (quads : List ℕ) (s : Spacing) (room : ℕ) where
  abbrev n : Size
  n = size_of nx ny nz

  abbrev count : ℕ
  count = length words / 2

  pub record Accepted : Type 0 where
    pub limits : Limits (size_of nx ny nz)
    pub twice : length words ≡ 2 * (length words / 2)
    pub thrice : length offsets ≡ 3 * (length words / 2)
    pub most : length words / 2 ≤ 66325500
    pub cubes : HoldsTo (cube_inside (size_of nx ny nz) words) (length words / 2)
    pub inside : HoldsTo (offset_inside offsets) (length words / 2)
    pub whole : length quads % 4 ≡ 0
    pub good : (a : ℕ) → a < 3 → good_spacing (get_or (spacings s) a nan) ≡ true
    pub known : HoldsTo (quad_below (length words / 2) quads) (length quads / 4)
    pub fits : file_length (length words / 2) (length quads / 4) ≤ room

  pub accepted_is : ply_verdict nx ny nz words offsets quads s room ≡ Passes → Accepted
  accepted_is e =
      let e₁ = order_rest (axis_row nx ny nz) _ e in
      let e₂ = order_rest (shape_row (length words) (length offsets)) _ e₁ in
      let e₃ = order_rest (cube_row n words) _ e₂ in
      let e₄ = order_rest (offset_row offsets) _ e₃ in
      let e₅ = order_rest (length_row quads) _ e₄ in
      let e₆ = order_rest (spacing_row s) _ e₅ in
      let e₇ = order_rest (number_row count quads) _ e₆ in
      let shape = (shape_exactly (length words) (length offsets)).0 (order_first (shape_row (length words) (length offsets)) _ e₁) in
      let half : count ≡ shape.0 = omega (arith, shape.1) in
      let third : length offsets / 3 ≡ count = omega (arith, shape.2, half) in
      record {
        limits = axes_within nx ny nz (order_first (axis_row nx ny nz) _ e);
        twice = omega (arith, shape.1, half);
        thrice = omega (arith, shape.2, half);
        most = omega (arith, half, shape.3);
        cubes = search_none 23 (cube_inside n words) count (order_first (cube_row n words) _ e₂);
        inside = subst (HoldsTo (offset_inside offsets)) third (search_none 24 (offset_inside offsets) (length offsets / 3) (order_first (offset_row offsets) _ e₃));
        whole = (length_exactly quads).0 (order_first (length_row quads) _ e₄);
        good = λ a h. flip (good_spacing (get_or (spacings s) a nan)) (row_clear bad_spacing nan 13 (spacings s) (order_first (spacing_row s) _ e₅) a h);
        known = search_none 14 (quad_below count quads) (length quads / 4) (order_first (number_row count quads) _ e₆);
        fits = subst (λ (l : ℕ). l ≤ room) (ply_length n words offsets quads s) (leb-true _ _ (unless_none (leb (length (ply_file n words offsets quads s)) room) 15 (length (ply_file n words offsets quads s)) (sym (order_last _) ∙ e₇)));
      }
    where
      flip : (b : Bool) → not b ≡ false → b ≡ true
      flip true h = refl
      flip false h = sym h

  module _ (a : Accepted) where
    -- the cube of a vertex lies in the block
    cube_on : (c axis : ℕ) → c < cube_count (size_of nx ny nz) → axis < 3 → (get_or (cube_place n c) axis 0 < cubes_on n axis) × (cubes_on n axis ≤ 255)
    cube_on c zero h l = ((index_box (nx - 1) (ny - 1) (nz - 1) c h).0, omega (arith, a.limits.x_high))
    cube_on c (suc zero) h l = ((index_box (nx - 1) (ny - 1) (nz - 1) c h).1, omega (arith, a.limits.y_high))
    cube_on c (suc (suc zero)) h l = ((index_box (nx - 1) (ny - 1) (nz - 1) c h).2, omega (arith, a.limits.z_high))
    cube_on c (suc (suc (suc b))) h l = absurd (omega (arith, l))

    offset_on : (v axis : ℕ) → v < length words / 2 → axis < 3 → from_zero_to_one (get_or offsets (3 * v + axis) nan) ≡ true
    offset_on v axis h l = let all = and_both _ _ (a.inside v h) in let two = and_both _ _ all.0 in go axis l (two.0, two.1, all.1)
      where
        go : (axis : ℕ) → axis < 3
            → (from_zero_to_one (get_or offsets (3 * v) nan) ≡ true) × (from_zero_to_one (get_or offsets (3 * v + 1) nan) ≡ true) × (from_zero_to_one (get_or offsets (3 * v + 2) nan) ≡ true)
            → from_zero_to_one (get_or offsets (3 * v + axis) nan) ≡ true
        go zero l e = rw (add-zero (3 * v)) e.0
        go (suc zero) l e = e.1
        go (suc (suc zero)) l e = e.2
        go (suc (suc (suc b))) l e = absurd (omega (arith, l))

    -- each coordinate is a number, from 0 to the far side of the box
    pub all_numbers : AllNumbers (size_of nx ny nz) words offsets s (length words / 2)
    all_numbers v axis h l =
        let c = cube_on (get_or words (2 * v) 0) axis (ltb-true _ _ (a.cubes v h)) l in
        coordinate_number (get_or (cube_place n (get_or words (2 * v) 0)) axis 0) (cubes_on n axis) (get_or offsets (3 * v + axis) nan) (get_or (spacings s) axis nan) c.0 c.1
        (offset_on v axis h l) (a.good axis l)

    pub all_inside : (v axis : ℕ) → v < length words / 2 → axis < 3
        → T (le plus_zero (place_on (size_of nx ny nz) words offsets s v axis))
        × T (le (place_on (size_of nx ny nz) words offsets s v axis) (mul binary64 (float (cubes_on (size_of nx ny nz) axis)) (get_or (spacings s) axis nan)))
    all_inside v axis h l =
        let c = cube_on (get_or words (2 * v) 0) axis (ltb-true _ _ (a.cubes v h)) l in
        coordinate_inside (get_or (cube_place n (get_or words (2 * v) 0)) axis 0) (cubes_on n axis) (get_or offsets (3 * v + axis) nan) (get_or (spacings s) axis nan) c.0 c.1
        (offset_on v axis h l) (a.good axis l)
