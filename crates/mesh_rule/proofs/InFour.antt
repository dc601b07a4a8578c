-- "An inner edge lies in four cubes": the test `inner` holds exactly if four cubes of the block have both ends of the edge as corners.
-- Assumes nothing.
use Prim.Native.Nat.{ℕ, zero, suc, ◌+◌, ◌*◌, ◌-◌, ◌≤◌, ◌<◌}
use mathlib.Core.Path.{◌≡◌, refl, ap, sym, ◌∙◌}
use mathlib.Core.Logic.{◌↔◌, ◌⊎◌, inl, inr}
use mathlib.Core.Bool.{Bool, true, false, ◌&&◌, ◌||◌}
use native.Mathlib.Nat.{mul-le-mul, le_refl}
use native.Mathlib.Omega.{arith}
use lib.Dec.{eqb, ltb}
use borrow.Author.Tests.{eqb-true, eqb-false, lt-ltb, le-ltb, ltb-true}
use Rattle.laws.specs.Bits.{bit}
use Rattle.laws.specs.Counting.{count}
use Rattle.laws.proofs.Bits.{bit_le}
use Rattle.laws.proofs.Counting.{count_same, count_box}
use Rattle.laws.proofs.Tests.{lt_or_ge}
use Rattle.block.specs.declared.Size.{Size}
use Rattle.block.specs.Numbering.{Axis, X, Y, Z, cube_count}
use Rattle.mesh_rule.specs.Grid.{inner, has_edge}
use Rattle.mesh_rule.proofs.Inner.{Mid, Inner, inner_facts, inner_test}

-- ---- along one axis: the steps from x to x + 1 that have i at an end, and those that have i and i + 1

abbrev near : ℕ → ℕ → Bool
near i x = eqb i x || eqb i (x + 1)

abbrev spans : ℕ → ℕ → Bool
spans i x = near i x && near (i + 1) x

-- what a test of two says of its bit
near_bit : (i x : ℕ) → (((i ≡ x) ⊎ (i ≡ x + 1)) × (bit (near i x) ≡ 1)) ⊎ ((i ≡ x → ⊥) × (i ≡ x + 1 → ⊥) × (bit (near i x) ≡ 0))
near_bit i x = go (eqb i x) (eqb i (x + 1)) refl refl
  where
    go : (a b : Bool) → eqb i x ≡ a → eqb i (x + 1) ≡ b
        → (((i ≡ x) ⊎ (i ≡ x + 1)) × (bit (a || b) ≡ 1)) ⊎ ((i ≡ x → ⊥) × (i ≡ x + 1 → ⊥) × (bit (a || b) ≡ 0))
    go true b p q = inl (inl (eqb-true i x p), refl)
    go false true p q = inl (inr (eqb-true i (x + 1) q), refl)
    go false false p q = inr (eqb-false i x p, eqb-false i (x + 1) q, refl)

-- how many there are: one step more, and all below m
near_step : (i m : ℕ) → bit (ltb i m) + bit (near i m) ≡ bit (ltb i (suc (suc m)))
near_step i m = go (near_bit i m) (lt_or_ge i m)
  where
    go : (((i ≡ m) ⊎ (i ≡ m + 1)) × (bit (near i m) ≡ 1)) ⊎ ((i ≡ m → ⊥) × (i ≡ m + 1 → ⊥) × (bit (near i m) ≡ 0)) → (i < m) ⊎ (m ≤ i)
        → bit (ltb i m) + bit (near i m) ≡ bit (ltb i (suc (suc m)))
    go (inl (inl e, b)) w = rw (le-ltb i m (omega arith), lt-ltb i (suc (suc m)) (omega arith), b)
    go (inl (inr e, b)) w = rw (le-ltb i m (omega arith), lt-ltb i (suc (suc m)) (omega arith), b)
    go (inr (e, f, b)) (inl l) = rw (lt-ltb i m l, lt-ltb i (suc (suc m)) (omega arith), b)
    go (inr (e, f, b)) (inr g) = rw (le-ltb i m g, le-ltb i (suc (suc m)) (omega (arith, e, f)), b)

count_near : (i m : ℕ) → count (near i) m + bit (ltb i 1) ≡ bit (ltb i m) + bit (ltb i (suc m))
unfolding count
count_near i zero = rw (le-ltb i 0 (omega arith))
count_near i (suc m) = omega (arith, count_near i m, near_step i m)

spans_bit : (i x : ℕ) → ((i ≡ x) × (bit (spans i x) ≡ 1)) ⊎ ((i ≡ x → ⊥) × (bit (spans i x) ≡ 0))
spans_bit i x = go (near i x) (near (i + 1) x) (near_bit i x) (near_bit (i + 1) x)
  where
    go : (a b : Bool) → (((i ≡ x) ⊎ (i ≡ x + 1)) × (bit a ≡ 1)) ⊎ ((i ≡ x → ⊥) × (i ≡ x + 1 → ⊥) × (bit a ≡ 0))
        → (((i + 1 ≡ x) ⊎ (i + 1 ≡ x + 1)) × (bit b ≡ 1)) ⊎ ((i + 1 ≡ x → ⊥) × (i + 1 ≡ x + 1 → ⊥) × (bit b ≡ 0))
        → ((i ≡ x) × (bit (a && b) ≡ 1)) ⊎ ((i ≡ x → ⊥) × (bit (a && b) ≡ 0))
    go true true (inl (inl e, p)) q = inl (e, refl)
    go true true (inl (inr e, p)) (inl (inl f, q)) = absurd (omega (arith, e, f))
    go true true (inl (inr e, p)) (inl (inr f, q)) = absurd (omega (arith, e, f))
    go true true (inl (inr e, p)) (inr (f, g, q)) = absurd (omega (arith, q))
    go true true (inr (e, f, p)) q = absurd (omega (arith, p))
    go true false p (inl (e, q)) = absurd (omega (arith, q))
    go true false p (inr (e, f, q)) = inr (λ g. f (ap (λ (n : ℕ). n + 1) g), refl)
    go false b (inl (e, p)) q = absurd (omega (arith, p))
    go false b (inr (e, f, p)) q = inr (e, refl)

spans_step : (i m : ℕ) → bit (ltb i m) + bit (spans i m) ≡ bit (ltb i (suc m))
spans_step i m = go (spans_bit i m) (lt_or_ge i m)
  where
    go : ((i ≡ m) × (bit (spans i m) ≡ 1)) ⊎ ((i ≡ m → ⊥) × (bit (spans i m) ≡ 0)) → (i < m) ⊎ (m ≤ i)
        → bit (ltb i m) + bit (spans i m) ≡ bit (ltb i (suc m))
    go (inl (e, b)) w = rw (le-ltb i m (omega arith), lt-ltb i (suc m) (omega arith), b)
    go (inr (e, b)) (inl l) = rw (lt-ltb i m l, lt-ltb i (suc m) (omega arith), b)
    go (inr (e, b)) (inr g) = rw (le-ltb i m g, le-ltb i (suc m) (omega (arith, e)), b)

count_spans : (i m : ℕ) → count (spans i) m ≡ bit (ltb i m)
unfolding count
count_spans i zero = rw (le-ltb i 0 (omega arith))
count_spans i (suc m) = omega (arith, count_spans i m, spans_step i m)

-- ---- a product is as large as it can be only if each factor is

full : (a b c d : ℕ) → a ≤ c → b ≤ d → 0 < c → 0 < d → a * b ≡ c * d → (a ≡ c) × (b ≡ d)
full a b c d ha hb hc hd e = (left (lt_or_ge a c), right (lt_or_ge b d))
  where
    left : (a < c) ⊎ (c ≤ a) → a ≡ c
    left (inl l) = absurd (omega (arith, e, hd, mul-le-mul (next l) (le_refl d), mul-le-mul (le_refl a) hb))
      where
        next : a < c → a + 1 ≤ c
        next l = omega arith
    left (inr g) = omega arith

    right : (b < d) ⊎ (d ≤ b) → b ≡ d
    right (inl l) = absurd (omega (arith, e, hc, mul-le-mul (le_refl c) (next l), mul-le-mul ha (le_refl b)))
      where
        next : b < d → b + 1 ≤ d
        next l = omega arith
    right (inr g) = omega arith

bit_one : (b : Bool) → bit b ≡ 1 → b ≡ true
bit_one true h = refl
bit_one false h = absurd (omega (arith, h))

-- ---- two steps have i at an end if it is neither the first nor the last of m + 1 samples, and one spans i and i + 1 if i + 1 is one of them

near_le : (i m : ℕ) → count (near i) m ≤ 2
near_le i m = omega (arith, count_near i m, bit_le (ltb i m), bit_le (ltb i (suc m)))

near_two : (i n : ℕ) → count (near i) (n - 1) ≡ 2 → Mid n i
near_two i n h =
    let c = count_near i (n - 1) in
    let a : bit (ltb i (n - 1)) ≡ 1 = omega (arith, h, c, bit_le (ltb i (n - 1)), bit_le (ltb i (suc (n - 1)))) in
    let b : bit (ltb i 1) ≡ 0 = omega (arith, h, c, bit_le (ltb i (n - 1)), bit_le (ltb i (suc (n - 1)))) in
    (low (lt_or_ge i 1) b, high n (ltb-true i (n - 1) (bit_one (ltb i (n - 1)) a)))
  where
    low : (i < 1) ⊎ (1 ≤ i) → bit (ltb i 1) ≡ 0 → 0 < i
    low (inl l) b = absurd (omega (arith, b, ap bit (lt-ltb i 1 l)))
    low (inr g) b = g

    high : (n : ℕ) → i < n - 1 → i + 1 < n
    high n l = omega arith

two_near : (i n : ℕ) → Mid n i → count (near i) (n - 1) ≡ 2
two_near i n h =
    omega (
      arith,
      count_near i (n - 1),
      ap bit (lt-ltb i (n - 1) (omega arith)),
      ap bit (lt-ltb i (suc (n - 1)) (omega arith)),
      ap bit (le-ltb i 1 (omega arith)),
    )

spans_le : (i m : ℕ) → count (spans i) m ≤ 1
spans_le i m = rw (count_spans i m) (bit_le (ltb i m))

spans_one : (i n : ℕ) → count (spans i) (n - 1) ≡ 1 → i + 1 < n
spans_one i n h = high n (ltb-true i (n - 1) (bit_one (ltb i (n - 1)) (rw (count_spans i (n - 1)) at h)))
  where
    high : (n : ℕ) → i < n - 1 → i + 1 < n
    high n l = omega arith

one_spans : (i n : ℕ) → i + 1 < n → count (spans i) (n - 1) ≡ 1
one_spans i n h = count_spans i (n - 1) ∙ ap bit (lt-ltb i (n - 1) (omega arith))

-- ---- the three axes

-- a test of six parts, of which four are twice the same
and_x : (a a' b c : Bool) → (a && b && c && (a' && b && c)) ≡ (a && a' && b && c)
and_x true true true true = refl
and_x true true true false = refl
and_x true true false c = refl
and_x true false true true = refl
and_x true false true false = refl
and_x true false false c = refl
and_x false a' b c = refl

and_y : (a b b' c : Bool) → (a && b && c && (a && b' && c)) ≡ (a && (b && b') && c)
and_y true true true true = refl
and_y true true true false = refl
and_y true true false true = refl
and_y true true false false = refl
and_y true false b' c = refl
and_y false b b' c = refl

and_z : (a b c c' : Bool) → (a && b && c && (a && b && c')) ≡ (a && b && (c && c'))
and_z true true true c' = refl
and_z true true false c' = refl
and_z true false c c' = refl
and_z false b c c' = refl

edge_count_x : (n : Size) (i j k : ℕ) → count (has_edge n X i j k) (cube_count n)
    ≡ count (spans i) (n.nx - 1) * (count (near j) (n.ny - 1) * count (near k) (n.nz - 1))
edge_count_x n i j k =
    count_same _ _ (cube_count n) (λ c l. and_x (near i _) (near (i + 1) _) (near j _) (near k _))
    ∙ count_box (spans i) (near j) (near k) (n.nx - 1) (n.ny - 1) (n.nz - 1)

edge_count_y : (n : Size) (i j k : ℕ) → count (has_edge n Y i j k) (cube_count n)
    ≡ count (near i) (n.nx - 1) * (count (spans j) (n.ny - 1) * count (near k) (n.nz - 1))
edge_count_y n i j k =
    count_same _ _ (cube_count n) (λ c l. and_y (near i _) (near j _) (near (j + 1) _) (near k _))
    ∙ count_box (near i) (spans j) (near k) (n.nx - 1) (n.ny - 1) (n.nz - 1)

edge_count_z : (n : Size) (i j k : ℕ) → count (has_edge n Z i j k) (cube_count n)
    ≡ count (near i) (n.nx - 1) * (count (near j) (n.ny - 1) * count (spans k) (n.nz - 1))
edge_count_z n i j k =
    count_same _ _ (cube_count n) (λ c l. and_z (near i _) (near j _) (near k _) (near (k + 1) _))
    ∙ count_box (near i) (near j) (spans k) (n.nx - 1) (n.ny - 1) (n.nz - 1)

four_there : (n : Size) (a : Axis) (i j k : ℕ) → Inner n a i j k → count (has_edge n a i j k) (cube_count n) ≡ 4
four_there n X i j k h = edge_count_x n i j k ∙ rw (one_spans i n.nx h.0, two_near j n.ny h.1, two_near k n.nz h.2)
four_there n Y i j k h = edge_count_y n i j k ∙ rw (two_near i n.nx h.0, one_spans j n.ny h.1, two_near k n.nz h.2)
four_there n Z i j k h = edge_count_z n i j k ∙ rw (two_near i n.nx h.0, two_near j n.ny h.1, one_spans k n.nz h.2)

four_inner : (n : Size) (a : Axis) (i j k : ℕ) → count (has_edge n a i j k) (cube_count n) ≡ 4 → Inner n a i j k
four_inner n X i j k h =
    let r = full _ _ 1 4 (spans_le i _) (mul-le-mul (near_le j _) (near_le k _)) (omega arith) (omega arith) (sym (edge_count_x n i j k) ∙ h) in
    let q = full _ _ 2 2 (near_le j _) (near_le k _) (omega arith) (omega arith) r.1 in
    (spans_one i n.nx r.0, near_two j n.ny q.0, near_two k n.nz q.1)
four_inner n Y i j k h =
    let r = full _ _ 2 2 (near_le i _) (mul-le-mul (spans_le j _) (near_le k _)) (omega arith) (omega arith) (sym (edge_count_y n i j k) ∙ h) in
    let q = full _ _ 1 2 (spans_le j _) (near_le k _) (omega arith) (omega arith) r.1 in
    (near_two i n.nx r.0, spans_one j n.ny q.0, near_two k n.nz q.1)
four_inner n Z i j k h =
    let r = full _ _ 2 2 (near_le i _) (mul-le-mul (near_le j _) (spans_le k _)) (omega arith) (omega arith) (sym (edge_count_z n i j k) ∙ h) in
    let q = full _ _ 2 1 (near_le j _) (spans_le k _) (omega arith) (omega arith) r.1 in
    (near_two i n.nx r.0, near_two j n.ny q.0, spans_one k n.nz q.1)

pub inner_is_in_four_cubes : (n : Size) (a : Axis) (i j k : ℕ) → (inner n a i j k ≡ true) ↔ (count (has_edge n a i j k) (cube_count n) ≡ 4)
inner_is_in_four_cubes n a i j k =
    (λ h. four_there n a i j k (inner_facts n a i j k h), λ h. inner_test n a i j k (four_inner n a i j k h))
