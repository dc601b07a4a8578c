-- The four cubes of 01's table round an inner edge are cubes of the block, and the edge, if it is crossed, is crossed in each of them by the
-- number that the table gives it there. Before that, what the tests of inner edges and of the block's edges say.
-- Assumes nothing.
use Prim.Native.Nat.{ℕ, ◌+◌, ◌-◌, ◌<◌}
use mathlib.Core.Path.{◌≡◌, refl}
use mathlib.Core.Bool.{Bool, true, ◌&&◌}
use mathlib.Core.List.{List}
use native.Mathlib.Omega.{arith}
use lib.Dec.{ltb}
use borrow.Author.Tests.{ltb-true, lt-ltb}
use Rattle.laws.proofs.Tests.{and_both}
use Rattle.block.specs.declared.Cut.{Cut}
use Rattle.block.specs.declared.Size.{Size}
use Rattle.block.specs.Numbering.{Axis, X, Y, Z}
use Rattle.cube_rule.specs.Edges.{lower, upper, corner_sample, crossed_at}
use Rattle.mesh_rule.specs.Grid.{InBox, sample_at, corners_at, between, inner, ahead, EdgeIn, stays, crossed_from}
use Rattle.mesh_rule.specs.Mesh.{table}

both_then : {A : Type 0} (a b : Bool) → (a && b) ≡ true → (a ≡ true → b ≡ true → A) → A
both_then a b h f = f (and_both a b h).0 (and_both a b h).1

and : {a b : Bool} → a ≡ true → b ≡ true → (a && b) ≡ true
and p q = rw (p, q)

-- ---- the tests as facts

-- c is neither the first nor the last of n
abbrev pub Mid : ℕ → ℕ → Type 0
Mid n c = (0 < c) × (c + 1 < n)

between_mid : (n c : ℕ) → between n c ≡ true → Mid n c
between_mid n c h = both_then (ltb 0 c) _ h (λ low high. omega (arith, ltb-true))

pub mid_between : (n c : ℕ) → Mid n c → between n c ≡ true
mid_between n c h = and (lt-ltb 0 c h.0) (lt-ltb (c + 1) n h.1)

abbrev pub Inner : Size → Axis → ℕ → ℕ → ℕ → Type 0
Inner n X i j k = (i + 1 < n.nx) × Mid n.ny j × Mid n.nz k
Inner n Y i j k = Mid n.nx i × (j + 1 < n.ny) × Mid n.nz k
Inner n Z i j k = Mid n.nx i × Mid n.ny j × (k + 1 < n.nz)

pub inner_facts : (n : Size) (a : Axis) (i j k : ℕ) → inner n a i j k ≡ true → Inner n a i j k
inner_facts n X i j k h = let p = and_both _ _ h in let q = and_both _ _ p.0 in (ltb-true _ _ q.0, between_mid _ _ q.1, between_mid _ _ p.1)
inner_facts n Y i j k h = let p = and_both _ _ h in let q = and_both _ _ p.0 in (between_mid _ _ q.0, ltb-true _ _ q.1, between_mid _ _ p.1)
inner_facts n Z i j k h = let p = and_both _ _ h in let q = and_both _ _ p.0 in (between_mid _ _ q.0, between_mid _ _ q.1, ltb-true _ _ p.1)

pub inner_test : (n : Size) (a : Axis) (i j k : ℕ) → Inner n a i j k → inner n a i j k ≡ true
inner_test n X i j k h = and (and (lt-ltb _ _ h.0) (mid_between _ _ h.1)) (mid_between _ _ h.2)
inner_test n Y i j k h = and (and (mid_between _ _ h.0) (lt-ltb _ _ h.1)) (mid_between _ _ h.2)
inner_test n Z i j k h = and (and (mid_between _ _ h.0) (mid_between _ _ h.1)) (lt-ltb _ _ h.2)

-- the edge from (i,j,k) along the axis does not leave the block
abbrev pub Stays : Size → Axis → ℕ → ℕ → ℕ → Type 0
Stays n X i j k = i + 1 < n.nx
Stays n Y i j k = j + 1 < n.ny
Stays n Z i j k = k + 1 < n.nz

pub stays_test : (n : Size) (a : Axis) (i j k : ℕ) → Stays n a i j k → stays n a i j k ≡ true
stays_test n X i j k h = lt-ltb _ _ h
stays_test n Y i j k h = lt-ltb _ _ h
stays_test n Z i j k h = lt-ltb _ _ h

pub stays_fact : (n : Size) (a : Axis) (i j k : ℕ) → stays n a i j k ≡ true → Stays n a i j k
stays_fact n X i j k e = ltb-true _ _ e
stays_fact n Y i j k e = ltb-true _ _ e
stays_fact n Z i j k e = ltb-true _ _ e

-- an edge from a sample of the block is one of the block exactly if it does not leave it
pub stays_in : (n : Size) (a : Axis) (i j k : ℕ) → InBox n i j k → stays n a i j k ≡ true → EdgeIn n a i j k
stays_in n X i j k h e = (h, (ltb-true _ _ e, h.1, h.2))
stays_in n Y i j k h e = (h, (h.0, ltb-true _ _ e, h.2))
stays_in n Z i j k h e = (h, (h.0, h.1, ltb-true _ _ e))

pub in_stays : (n : Size) (a : Axis) (i j k : ℕ) → EdgeIn n a i j k → stays n a i j k ≡ true
in_stays n X i j k h = lt-ltb _ _ h.1.0
in_stays n Y i j k h = lt-ltb _ _ h.1.1
in_stays n Z i j k h = lt-ltb _ _ h.1.2

-- an inner edge starts at a sample of the block
pub inner_sample : (n : Size) (a : Axis) (i j k : ℕ) → Inner n a i j k → InBox n i j k
inner_sample n X i j k h = omega arith
inner_sample n Y i j k h = omega arith
inner_sample n Z i j k h = omega arith

-- and does not leave the block
pub inner_stays : (n : Size) (a : Axis) (i j k : ℕ) → Inner n a i j k → Stays n a i j k
inner_stays n X i j k h = h.0
inner_stays n Y i j k h = h.1
inner_stays n Z i j k h = h.2

-- ---- 01's table: what holds of each of the four cubes and of the edge's number there
abbrev pub Round : (ℕ → ℕ → ℕ → ℕ → Type 0) → Axis → ℕ → ℕ → ℕ → Type 0
Round P a i j k = table (λ p₀ p₁ p₂ p₃. p₀ × p₁ × p₂ × p₃) P a i j k

pub map-round : {P Q : ℕ → ℕ → ℕ → ℕ → Type 0} → ((x y z e : ℕ) → P x y z e → Q x y z e)
    → (a : Axis) (i j k : ℕ) → Round P a i j k → Round Q a i j k
map-round f X i j k r = (f _ _ _ _ r.0, f _ _ _ _ r.1, f _ _ _ _ r.2, f _ _ _ _ r.3)
map-round f Y i j k r = (f _ _ _ _ r.0, f _ _ _ _ r.1, f _ _ _ _ r.2, f _ _ _ _ r.3)
map-round f Z i j k r = (f _ _ _ _ r.0, f _ _ _ _ r.1, f _ _ _ _ r.2, f _ _ _ _ r.3)

-- (x,y,z) is a cube of the block
abbrev pub CubeIn : Size → ℕ → ℕ → ℕ → Type 0
CubeIn n x y z = (x < n.nx - 1) × (y < n.ny - 1) × (z < n.nz - 1)

-- the coordinates from which the table takes one are not 0
abbrev pub OneLower : Axis → ℕ → ℕ → ℕ → Type 0
OneLower X i j k = (0 < j) × (0 < k)
OneLower Y i j k = (0 < i) × (0 < k)
OneLower Z i j k = (0 < i) × (0 < j)

-- the four cubes are there
abbrev pub FourCubes : Size → Axis → ℕ → ℕ → ℕ → Type 0
FourCubes n a i j k = OneLower a i j k × Round (λ x y z e. CubeIn n x y z) a i j k

pub four_cubes : (n : Size) (a : Axis) (i j k : ℕ) → Inner n a i j k → FourCubes n a i j k
four_cubes n X i j k h = omega arith
four_cubes n Y i j k h = omega arith
four_cubes n Z i j k h = omega arith

-- ---- crossed in each of the four

-- (x,y,z) is a cube of the block, and its edge e is crossed
pub record CrossedIn (n : Size) (s : List ℕ) (cut : Cut) (x y z e : ℕ) : Type 0 where
  pub cube_in_lem : CubeIn n x y z
  pub edge_lt : e < 12
  pub is_crossed : crossed_at cut (corners_at n s x y z) e ≡ true

back : (a : ℕ) → 0 < a → a - 1 + 1 ≡ a
back a h = omega arith

-- the edge's two samples are the corners of the edge's number in each of the four cubes
pub table_ends : (n : Size) (a : Axis) (i j k : ℕ) → inner n a i j k ≡ true → (s : List ℕ)
    → table (λ p₀ p₁ p₂ p₃. p₀ × p₁ × p₂ × p₃)
    (λ x y z e. (corner_sample (corners_at n s x y z) (lower e) ≡ sample_at n s i j k) × (corner_sample (corners_at n s x y z) (upper e) ≡ ahead (sample_at n s) a i j k)) a i j k
table_ends n X i j k h s =
    let f = inner_facts n X i j k h in
    let bj = back j f.1.0 in
    let bk = back k f.2.0 in
    ((rw (bj, bk), rw (bj, bk)), (rw bk, rw bk), (refl, refl), (rw bj, rw bj))
table_ends n Y i j k h s =
    let f = inner_facts n Y i j k h in
    let bi = back i f.0.0 in
    let bk = back k f.2.0 in
    ((rw (bi, bk), rw (bi, bk)), (rw bi, rw bi), (refl, refl), (rw bk, rw bk))
table_ends n Z i j k h s =
    let f = inner_facts n Z i j k h in
    let bi = back i f.0.0 in
    let bj = back j f.1.0 in
    ((rw (bi, bj), rw (bi, bj)), (rw bj, rw bj), (refl, refl), (rw bi, rw bi))

-- so it is crossed in each of them if it is crossed
pub crossed_round : (n : Size) (s : List ℕ) (cut : Cut) (a : Axis) (i j k : ℕ) → Inner n a i j k → crossed_from n s cut a i j k ≡ true
    → Round (CrossedIn n s cut) a i j k
crossed_round n s cut X i j k h x =
    let f = (four_cubes n X i j k h).1 in
    let bj = back j h.1.0 in
    let bk = back k h.2.0 in (
      record { cube_in_lem = f.0; edge_lt = omega arith; is_crossed = rw (bj, bk) x },
      record { cube_in_lem = f.1; edge_lt = omega arith; is_crossed = rw bk x },
      record { cube_in_lem = f.2; edge_lt = omega arith; is_crossed = x },
      record { cube_in_lem = f.3; edge_lt = omega arith; is_crossed = rw bj x },
    )
crossed_round n s cut Y i j k h x =
    let f = (four_cubes n Y i j k h).1 in
    let bi = back i h.0.0 in
    let bk = back k h.2.0 in (
      record { cube_in_lem = f.0; edge_lt = omega arith; is_crossed = rw (bi, bk) x },
      record { cube_in_lem = f.1; edge_lt = omega arith; is_crossed = rw bi x },
      record { cube_in_lem = f.2; edge_lt = omega arith; is_crossed = x },
      record { cube_in_lem = f.3; edge_lt = omega arith; is_crossed = rw bk x },
    )
crossed_round n s cut Z i j k h x =
    let f = (four_cubes n Z i j k h).1 in
    let bi = back i h.0.0 in
    let bj = back j h.1.0 in (
      record { cube_in_lem = f.0; edge_lt = omega arith; is_crossed = rw (bi, bj) x },
      record { cube_in_lem = f.1; edge_lt = omega arith; is_crossed = rw bj x },
      record { cube_in_lem = f.2; edge_lt = omega arith; is_crossed = x },
      record { cube_in_lem = f.3; edge_lt = omega arith; is_crossed = rw bi x },
    )
