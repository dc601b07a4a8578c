-- What `fits` tests: a quad passes just if its vertices, by cubes and words, lie round an inner edge as 01's table says. Their cubes are those of the table because
-- a step back along an axis takes a fixed number from the cube number, and so the third cube is the highest.
-- Assumes nothing.
use Prim.Native.Nat.{ℕ, ◌+◌, ◌*◌, ◌-◌, ◌<◌}
use mathlib.Core.Path.{◌≡◌, refl, ap, sym, ◌∙◌}
use mathlib.Core.Logic.{⊎_elim}
use mathlib.Core.Bool.{Bool, true, false, ◌&&◌, or-true}
use mathlib.Core.List.{List}
use native.Mathlib.Nat.{mul-add, mul-one, mul-pos}
use native.Mathlib.Omega.{arith}
use lib.Dec.{eqb, ltb}
use borrow.Author.Tests.{eqb-true, eq-eqb, ltb-true, lt-ltb}
use Rattle.laws.specs.Bits.{holds}
use Rattle.laws.proofs.Index.{index_of, index_box}
use Rattle.laws.proofs.Tests.{and_both}
use Rattle.block.specs.declared.Cut.{Cut}
use Rattle.block.specs.declared.Size.{Size}
use Rattle.block.specs.Numbering.{Axis, X, Y, Z, cube_number, cube_count, at_cube}
use Rattle.block.proofs.Numbering.{cube_back}
use Rattle.mesh_rule.specs.Grid.{metal}
use Rattle.mesh_rule.specs.Layers.{layer_size}
use Rattle.mesh_rule.specs.Mesh.{Quad, quad, turned, table}
use Rattle.mesh_rule.specs.Orientation.{coordinate}
use Rattle.mesh_rule.proofs.Inner.{Inner, CubeIn, OneLower, four_cubes}
use Rattle.foundry_rule.specs.Spots.{cube_at, word_at, lies, lies_round, fits}
use Rattle.foundry_rule.proofs.Firsts.{or_either}
use Rattle.foundry_rule.proofs.Rotations.{Highest}

-- ---- steps back from a cube

-- how far the second and the fourth cube of the table lie before the third
abbrev pub second_step : Size → Axis → ℕ
second_step n X = layer_size n
second_step n Y = 1
second_step n Z = n.nx - 1

abbrev pub fourth_step : Size → Axis → ℕ
fourth_step n X = n.nx - 1
fourth_step n Y = layer_size n
fourth_step n Z = 1

-- four cube numbers, so far apart
pub record Steps (r p : ℕ) (c : Quad) : Type 0 where
  pub to_second : c.v1 + r ≡ c.v2
  pub to_fourth : c.v3 + p ≡ c.v2
  pub to_first : c.v0 + (r + p) ≡ c.v2

rows : (w y d z : ℕ) → y + d ≡ z → w * y + w * d ≡ w * z
rows w y d z e = sym (mul-add w y d) ∙ ap (λ (x : ℕ). w * x) e

behind : (i y z w : ℕ) → y + w ≡ z → i + y + w ≡ i + z
behind i y z w e = omega arith

two_steps : (c0 c1 c2 r p : ℕ) → c0 + p ≡ c1 → c1 + r ≡ c2 → c0 + (r + p) ≡ c2
two_steps c0 c1 c2 r p e f = omega arith

module _ (n : Size) (i j k : ℕ) where
  step_x_lem : 0 < i → cube_number n (i - 1) j k + 1 ≡ cube_number n i j k
  step_x_lem h = omega arith

  step_y_lem : 0 < j → cube_number n i (j - 1) k + (n.nx - 1) ≡ cube_number n i j k
  step_y_lem h = behind i _ _ (n.nx - 1) (rw mul-one at (rows (n.nx - 1) (j - 1 + (n.ny - 1) * k) 1 (j + (n.ny - 1) * k) (omega arith)))

  step_z_lem : 0 < k → cube_number n i j (k - 1) + layer_size n ≡ cube_number n i j k
  step_z_lem h =
      behind i _ _ _
      (rows (n.nx - 1) (j + (n.ny - 1) * (k - 1)) (n.ny - 1) (j + (n.ny - 1) * k)
      (behind j _ _ _ (rw mul-one at (rows (n.ny - 1) (k - 1) 1 k (omega arith)))))

-- the numbers of the four cubes of the table
abbrev pub table_cubes : Size → Axis → ℕ → ℕ → ℕ → Quad
table_cubes n a i j k = table quad (λ x y z e. cube_number n x y z) a i j k

-- the third is the cube whose first corner is the edge's lower sample
pub third_is : (n : Size) (a : Axis) (i j k : ℕ) → (table_cubes n a i j k).v2 ≡ cube_number n i j k
third_is n X i j k = refl
third_is n Y i j k = refl
third_is n Z i j k = refl

-- the edge's four numbers there
abbrev pub table_edges : Axis → Quad
table_edges a = table quad (λ x y z e. e) a 0 0 0

-- the cubes lie so far apart
table_steps : (n : Size) (a : Axis) (i j k : ℕ) → OneLower a i j k → Steps (second_step n a) (fourth_step n a) (table_cubes n a i j k)
table_steps n X i j k h = record {
  to_second = step_z_lem n i j k h.1;
  to_fourth = step_y_lem n i j k h.0;
  to_first = two_steps _ _ _ _ _ (step_y_lem n i j (k - 1) h.0) (step_z_lem n i j k h.1);
}
table_steps n Y i j k h = record {
  to_second = step_x_lem n i j k h.0;
  to_fourth = step_z_lem n i j k h.1;
  to_first = two_steps _ _ _ _ _ (step_z_lem n (i - 1) j k h.1) (step_x_lem n i j k h.0);
}
table_steps n Z i j k h = record {
  to_second = step_y_lem n i j k h.1;
  to_fourth = step_x_lem n i j k h.0;
  to_first = two_steps _ _ _ _ _ (step_x_lem n i (j - 1) k h.0) (step_y_lem n i j k h.1);
}

-- no step is 0
steps_up : (n : Size) (a : Axis) (x y z : ℕ) → CubeIn n x y z → (0 < second_step n a) × (0 < fourth_step n a)
steps_up n X x y z h = (mul-pos (omega arith) (omega arith), omega arith)
steps_up n Y x y z h = (omega arith, mul-pos (omega arith) (omega arith))
steps_up n Z x y z h = omega arith

-- the third cube is one of the block's
pub third_in : (n : Size) (a : Axis) (i j k : ℕ) → Inner n a i j k → CubeIn n i j k
third_in n X i j k h = omega arith
third_in n Y i j k h = omega arith
third_in n Z i j k h = omega arith

-- and a cube of the block is the third of an inner edge, if no coordinate from which the table takes one is 0
inner_lower : (n : Size) (a : Axis) (i j k : ℕ) → CubeIn n i j k → OneLower a i j k → Inner n a i j k
inner_lower n X i j k c h = omega arith
inner_lower n Y i j k c h = omega arith
inner_lower n Z i j k c h = omega arith

-- the test of these coordinates
abbrev lower_test : Axis → ℕ → ℕ → ℕ → Bool
lower_test X i j k = ltb 0 j && ltb 0 k
lower_test Y i j k = ltb 0 i && ltb 0 k
lower_test Z i j k = ltb 0 i && ltb 0 j

both_above : (x y : ℕ) → (ltb 0 x && ltb 0 y) ≡ true → (0 < x) × (0 < y)
both_above x y h = let p = and_both (ltb 0 x) (ltb 0 y) h in (ltb-true 0 x p.0, ltb-true 0 y p.1)

above_both : (x y : ℕ) → (0 < x) × (0 < y) → (ltb 0 x && ltb 0 y) ≡ true
above_both x y h = rw (lt-ltb 0 x h.0, lt-ltb 0 y h.1)

lower_facts : (a : Axis) (i j k : ℕ) → lower_test a i j k ≡ true → OneLower a i j k
lower_facts X i j k h = both_above j k h
lower_facts Y i j k h = both_above i k h
lower_facts Z i j k h = both_above i j h

lower_test_lem : (a : Axis) (i j k : ℕ) → OneLower a i j k → lower_test a i j k ≡ true
lower_test_lem X i j k h = above_both j k h
lower_test_lem Y i j k h = above_both i k h
lower_test_lem Z i j k h = above_both i j h

-- ---- vertices by cube and word

module _ (words : List ℕ) where
  -- vertex v is in the cube c, and its word holds the edge e
  pub record Spot (v c e : ℕ) : Type 0 where
    pub at_cube_lem : cube_at words v ≡ c
    pub at_edge : holds (word_at words v) e ≡ true

  -- so the four vertices of a quad, by four cubes and four edges; and by the table
  abbrev FourSpots : Quad → Quad → Quad → Type 0
  FourSpots c e q = Spot q.v0 c.v0 e.v0 × Spot q.v1 c.v1 e.v1 × Spot q.v2 c.v2 e.v2 × Spot q.v3 c.v3 e.v3

  abbrev pub AllSpots : Size → Axis → ℕ → ℕ → ℕ → Quad → Type 0
  AllSpots n a i j k q = FourSpots (table_cubes n a i j k) (table_edges a) q

  abbrev lies_by : ℕ → ℕ → Quad → Quad → Bool
  lies_by r p e q = lies words r p e.v0 e.v1 e.v2 e.v3 q

  module _ (r p : ℕ) (c e : Quad) (steps : Steps r p c) (q : Quad) where
    lies_spots : cube_at words q.v2 ≡ c.v2 → lies_by r p e q ≡ true → FourSpots c e q
    lies_spots third h =
        let x = and_both _ _ h in
        let y = and_both _ _ x.0 in
        let z = and_both _ _ y.0 in
        let t = and_both _ _ z.0 in
        let u = and_both _ _ t.0 in
        let w = and_both _ _ u.0 in (
          record { at_cube_lem = back _ _ _ (eqb-true _ _ u.1) steps.to_first; at_edge = t.1 },
          record { at_cube_lem = back _ _ _ (eqb-true _ _ w.0) steps.to_second; at_edge = z.1 },
          record { at_cube_lem = third; at_edge = y.1 },
          record { at_cube_lem = back _ _ _ (eqb-true _ _ w.1) steps.to_fourth; at_edge = x.1 },
        )
      where
        back : (a b d : ℕ) → a + d ≡ cube_at words q.v2 → b + d ≡ c.v2 → a ≡ b
        back a b d f g = omega (arith, third)

    spots_lies : FourSpots c e q → lies_by r p e q ≡ true
    spots_lies h =
        rw (step r h.1 steps.to_second, step p h.3 steps.to_fourth, step (r + p) h.0 steps.to_first, h.0.at_edge, h.1.at_edge, h.2.at_edge, h.3.at_edge)
      where
        step : {v b e : ℕ} (d : ℕ) → Spot v b e → b + d ≡ c.v2 → eqb (cube_at words v + d) (cube_at words q.v2) ≡ true
        step {v} d s f = eq-eqb (cube_at words v + d) (cube_at words q.v2) (omega (arith, s.at_cube_lem, h.2.at_cube_lem))

    spots_first : FourSpots c e q → cube_at words q.v0 + (r + p) ≡ cube_at words q.v2
    spots_first h = rw (h.0.at_cube_lem, h.2.at_cube_lem) steps.to_first

    -- the third cube is the highest
    spots_highest : 0 < r → 0 < p → FourSpots c e q → Highest (cube_at words) q
    spots_highest hr hp h = record {
      above_first = rw (h.0.at_cube_lem, h.2.at_cube_lem) (omega (arith, steps.to_first));
      above_second = rw (h.1.at_cube_lem, h.2.at_cube_lem) (omega (arith, steps.to_second));
      above_fourth = rw (h.3.at_cube_lem, h.2.at_cube_lem) (omega (arith, steps.to_fourth));
    }

  module _ (n : Size) (s : List ℕ) (cut : Cut) where
    -- the quad lies round an inner edge
    pub record Laid (q : Quad) : Type 0 where
      pub axis : Axis
      pub i : ℕ
      pub j : ℕ
      pub k : ℕ
      pub is_inner : Inner n axis i j k
      pub all_spots : AllSpots n axis i j k (turned (metal n s cut i j k) q)

    highest_turned : (b : Bool) (q : Quad) → Highest (cube_at words) (turned b q) → Highest (cube_at words) q
    highest_turned true q h = h
    highest_turned false q h = record { above_first = h.above_first; above_second = h.above_fourth; above_fourth = h.above_second }

    all_highest : (a : Axis) (i j k : ℕ) (q : Quad) → Inner n a i j k → AllSpots n a i j k q → Highest (cube_at words) q
    all_highest a i j k q h r =
        let u = steps_up n a i j k (third_in n a i j k h) in
        spots_highest _ _ _ _ (table_steps n a i j k (four_cubes n a i j k h).0) q u.0 u.1 r

    -- its third vertex is in the highest cube
    pub laid_highest : (q : Quad) → Laid q → Highest (cube_at words) q
    laid_highest q d = highest_turned (metal n s cut d.i d.j d.k) q (all_highest d.axis d.i d.j d.k _ d.is_inner d.all_spots)

    turned_third : (b : Bool) (q : Quad) → (turned b q).v2 ≡ q.v2
    turned_third true q = refl
    turned_third false q = refl

    -- and is in the cube whose first corner is the edge's lower sample
    pub laid_third : (q : Quad) (d : Laid q) → cube_at words q.v2 ≡ cube_number n d.i d.j d.k
    laid_third q d =
        ap (cube_at words) (sym (turned_third (metal n s cut d.i d.j d.k) q)) ∙ d.all_spots.2.at_cube_lem ∙ third_is n d.axis d.i d.j d.k

    all_first : (a : Axis) (i j k : ℕ) (q : Quad) → Inner n a i j k → AllSpots n a i j k q → cube_at words q.v0 + (second_step n a + fourth_step n a) ≡ cube_at words q.v2
    all_first a i j k q h r = spots_first _ _ _ _ (table_steps n a i j k (four_cubes n a i j k h).0) q r

    -- and the first lies both steps before it
    pub laid_first : (q : Quad) (d : Laid q) → cube_at words q.v0 + (second_step n d.axis + fourth_step n d.axis) ≡ cube_at words q.v2
    laid_first q d = back (second_step n d.axis + fourth_step n d.axis) (metal n s cut d.i d.j d.k) (all_first d.axis d.i d.j d.k _ d.is_inner d.all_spots)
      where
        back : (d : ℕ) (b : Bool) → cube_at words (turned b q).v0 + d ≡ cube_at words (turned b q).v2 → cube_at words q.v0 + d ≡ cube_at words q.v2
        back d true e = e
        back d false e = e

    -- ---- by the test

    -- the test along one axis
    abbrev lies_along : Axis → ℕ → ℕ → ℕ → Quad → Bool
    lies_along a i j k q = lower_test a i j k && lies_by (second_step n a) (fourth_step n a) (table_edges a) q

    along_spots : (a : Axis) (i j k : ℕ) (q : Quad) → cube_at words q.v2 ≡ cube_number n i j k → lies_along a i j k q ≡ true → OneLower a i j k × AllSpots n a i j k q
    along_spots a i j k q c h =
        let b = and_both (lower_test a i j k) (lies_by (second_step n a) (fourth_step n a) (table_edges a) q) h in
        let l = lower_facts a i j k b.0 in
        (l, lies_spots _ _ _ _ (table_steps n a i j k l) q (c ∙ sym (third_is n a i j k)) b.1)

    spots_along : (a : Axis) (i j k : ℕ) (q : Quad) → OneLower a i j k → AllSpots n a i j k q → lies_along a i j k q ≡ true
    spots_along a i j k q h r = rw (lower_test_lem a i j k h) (spots_lies _ _ _ _ (table_steps n a i j k h) q r)

    -- one of three
    along_some : (i j k : ℕ) (q : Quad) → lies_round words n i j k q ≡ true → (a : Axis) × (lies_along a i j k q ≡ true)
    along_some i j k q h = ⊎_elim (λ l. ⊎_elim (λ x. (X, x)) (λ y. (Y, y)) (or_either _ _ l)) (λ z. (Z, z)) (or_either _ _ h)

    some_along : (a : Axis) (i j k : ℕ) (q : Quad) → lies_along a i j k q ≡ true → lies_round words n i j k q ≡ true
    some_along X i j k q h = rw h
    some_along Y i j k q h = rw (h, or-true)
    some_along Z i j k q h = rw (h, or-true)

    -- a quad that fits lies round an inner edge
    pub fits_laid : (q : Quad) → cube_at words q.v2 < cube_count n → fits words n s cut q ≡ true → Laid q
    unfolding fits
    fits_laid q l h =
        let c = cube_at words q.v2 in
        let i = coordinate n X c in
        let j = coordinate n Y c in
        let k = coordinate n Z c in
        let m = metal n s cut i j k in
        let o = along_some i j k (turned m q) h in
        let r = along_spots o.0 i j k (turned m q) (ap (cube_at words) (turned_third m q) ∙ sym (index_of (n.nx - 1) (n.ny - 1) c)) o.1 in
        record { axis = o.0; i = i; j = j; k = k; is_inner = inner_lower n o.0 i j k (index_box (n.nx - 1) (n.ny - 1) (n.nz - 1) c l) r.0; all_spots = r.1 }

    -- what `fits` tests, by the coordinates of the third cube
    fits_at : (i j k : ℕ) (q : Quad) → CubeIn n i j k → cube_at words q.v2 ≡ cube_number n i j k
        → fits words n s cut q ≡ lies_round words n i j k (turned (metal n s cut i j k) q)
    unfolding fits
    fits_at i j k q h e =
        let test : ℕ → ℕ → ℕ → Bool = λ i j k. lies_round words n i j k (turned (metal n s cut i j k) q) in
        ap (at_cube n test) e ∙ cube_back n test i j k h.0 h.1

    -- and a quad that lies so fits
    pub laid_fits : (q : Quad) → Laid q → fits words n s cut q ≡ true
    laid_fits q d =
        fits_at d.i d.j d.k q (third_in n d.axis d.i d.j d.k d.is_inner) (laid_third q d)
        ∙ some_along d.axis d.i d.j d.k _
        (spots_along d.axis d.i d.j d.k _ (four_cubes n d.axis d.i d.j d.k d.is_inner).0 d.all_spots)
