-- Our own quads: their numbers rise along the list, so no two of them are the same round. Those of an axis stand by their lower samples, the cubes with these samples
-- as first corners have rising numbers too, and the vertices stand by their cubes.
-- Assumes nothing.
use Prim.Native.Nat.{ℕ, suc, ◌+◌, ◌*◌, ◌-◌, ◌/◌, ◌%◌, ◌≤◌, ◌<◌}
use mathlib.Core.Path.{◌≡◌, refl, ap, sym, subst, ◌∙◌}
use mathlib.Core.Logic.{◌⊎◌, inl, inr, ⊎_elim}
use mathlib.Core.Bool.{true}
use mathlib.Core.List.{List}
use native.Mathlib.Nat.{mul-le-mul_left, mul-le-mul_right, mod-add-div, div-mul-le_self, le-div_iff_mul-le, le_trans, eq-or-lt_of_le}
use native.Mathlib.Omega.{arith}
use lib.ListN.{length, length-append}
use Rattle.laws.specs.Bits.{holds}
use Rattle.laws.proofs.Below.{length-below}
use Rattle.laws.proofs.Tests.{lt_or_ge}
use Rattle.block.specs.declared.Cut.{Cut}
use Rattle.block.specs.declared.Size.{Size}
use Rattle.block.specs.Numbering.{Axis, X, Y, Z, cube_number, sample_count, at_sample}
use Rattle.cube_rule.specs.Decider.{joined, loops_of}
use Rattle.cube_rule.proofs.Laws.{cube_laws}
use Rattle.cell.proofs.Words.{word_holds}
use Rattle.mesh_rule.specs.Buffers.{mesh_words, mesh_quads}
use Rattle.mesh_rule.specs.Grid.{corners_of}
use Rattle.mesh_rule.specs.Mesh.{Quad, vertices, vertex_of, quad_at, quads_before, quads}
use Rattle.mesh_rule.proofs.Inner.{CubeIn}
use Rattle.mesh_rule.proofs.Numbers.{by_cube}
use Rattle.mesh_rule.proofs.Quads.{quad_inside, quad_numbers}
use Rattle.mesh_rule.proofs.Words.{words_at_lem}
use Rattle.foundry_rule.specs.Distinct.{Distinct, QuadsBelow}
use Rattle.foundry_rule.specs.Judged.{vertex_total, quad_total, named_quad, as_sent, same_round}
use Rattle.foundry_rule.specs.Spots.{cube_at, word_at, led, axis_at, quad_key}
use Rattle.foundry_rule.proofs.Known.{total_of_mesh, words_distinct}
use Rattle.foundry_rule.proofs.Rounds.{AllBelow, below_quad}
use Rattle.foundry_rule.proofs.Sound.{no_earlier}
use Rattle.foundry_rule.proofs.Rotations.{Highest, led_highest}
use Rattle.foundry_rule.proofs.Laid.{Laid, laid_highest, laid_third, third_in}
use Rattle.foundry_rule.proofs.Owned.{Tied, AllTied, from_laid}
use Rattle.foundry_rule.proofs.Ours.{our_total}
use Rattle.foundry_rule.proofs.Placed.{start, placed, placed_from}
use Rattle.foundry_rule.proofs.QuadKeys.{axis_number, round_key, laid_axis}

-- ---- the cube with a sample as its first corner: its number rises with the sample's index

quotient_le : (w m k : ℕ) → 0 < w → m < k → m / w ≤ k / w
quotient_le w m k h l = (le-div_iff_mul-le h).1 (le_trans (div-mul-le_self m w) (omega arith))

-- where the rest z of the number rises with m / w, the number m % w + v · z rises with m
rise_by : (w v m k : ℕ) (z : ℕ → ℕ) → 0 < w → m < k → m % w < v → (m / w < k / w → z (m / w) < z (k / w)) → m % w + v * z (m / w) < k % w + v * z (k / w)
rise_by w v m k z p l h up = go (lt_or_ge (m / w) (k / w))
  where
    far : (x y a b : ℕ) → x < v → v * suc a ≤ v * b → x + v * a < y + v * b
    far x y a b h g = omega arith

    less : (x y a : ℕ) → x < y → x + a < y + a
    less x y a h = omega arith

    plain : (x y a b : ℕ) → x + a ≡ m → y + b ≡ k → a ≡ b → x < y
    plain x y a b e f g = omega arith

    near : m / w ≡ k / w → m % w + v * z (m / w) < k % w + v * z (k / w)
    near e = rw e (less (m % w) (k % w) (v * z (k / w)) (plain _ _ _ _ (mod-add-div m w) (mod-add-div k w) (ap (λ (x : ℕ). w * x) e)))

    go : (m / w < k / w) ⊎ (k / w ≤ m / w) → m % w + v * z (m / w) < k % w + v * z (k / w)
    go (inl g) = far _ _ _ _ h (mul-le-mul_left v (up g))
    go (inr g) = near (omega (arith, quotient_le w m k p l))

cube_rises : (n : Size) (m k : ℕ) → m < k → CubeIn n (m % n.nx) (m / n.nx % n.ny) (m / n.nx / n.ny) → at_sample n (cube_number n) m < at_sample n (cube_number n) k
cube_rises n m k l h =
    rise_by n.nx (n.nx - 1) m k (λ (y : ℕ). y % n.ny + (n.ny - 1) * (y / n.ny)) (positive n.nx _ h.0) l h.0
    (λ g. rise_by n.ny (n.ny - 1) (m / n.nx) (k / n.nx) (λ (y : ℕ). y) (positive n.ny _ h.1) g h.1 (λ x. x))
  where
    positive : (w x : ℕ) → x < w - 1 → 0 < w
    positive w x h = omega arith

-- ---- the places of our quads

key_less : (count k l x y u v : ℕ) → k ≡ x * count + u → l ≡ y * count + v → u < count → (x < y) ⊎ ((x ≡ y) × (u < v)) → k < l
key_less count k l x y u v e f h (inl g) = omega (arith, mul-le-mul_right count (above g))
  where
    above : x < y → x + 1 ≤ y
    above g = omega arith
key_less count k l x y u v e f h (inr g) = omega (arith, ap (λ (z : ℕ). z * count) g.0)

module _ (n : Size) (s : List ℕ) (cut : Cut) where
  more_along : (a : Axis) (m k : ℕ) → m ≤ k → length (quads_before loops_of n s cut a m) ≤ length (quads_before loops_of n s cut a k)
  unfolding quads_before
  more_along a m k h =
      ⊎_elim (λ (e : m ≡ k). rw e (omega arith)) (λ (l : m < k). omega (arith, length-below (at_sample n (quad_at loops_of n s cut a)) k m l)) (eq-or-lt_of_le h)

  all_along : (a : Axis) (k : ℕ) → k < sample_count n → length (quads_before loops_of n s cut a k) ≤ length (quads_before loops_of n s cut a (sample_count n))
  all_along a k l = more_along a k (sample_count n) (omega arith)

  x_and_y : start n s cut Z ≡ start n s cut Y + length (quads_before loops_of n s cut Y (sample_count n))
  x_and_y = length-append (quads_before loops_of n s cut X (sample_count n)) (quads_before loops_of n s cut Y (sample_count n))

  -- of two quads, the one before has an earlier axis, or the same and an earlier sample
  abbrev Earlier : Axis → Axis → ℕ → ℕ → Type 0
  Earlier a b m k = (axis_number a < axis_number b) ⊎ ((a ≡ b) × (m < k))

  along_earlier : (a : Axis) (m k : ℕ) → start n s cut a + length (quads_before loops_of n s cut a m) < start n s cut a + length (quads_before loops_of n s cut a k) → Earlier a a m k
  along_earlier a m k h = ⊎_elim (λ (l : m < k). inr (refl, l)) (λ (g : k ≤ m). absurd (plain (start n s cut a) _ _ h (more_along a k m g))) (lt_or_ge m k)
    where
      plain : (x y z : ℕ) → x + y < x + z → z ≤ y → ⊥
      plain x y z p q = omega arith

  earlier : (a b : Axis) (m k : ℕ) → k < sample_count n
      → start n s cut a + length (quads_before loops_of n s cut a m) < start n s cut b + length (quads_before loops_of n s cut b k) → Earlier a b m k
  earlier X X m k l h = along_earlier X m k h
  earlier X Y m k l h = inl (omega arith)
  earlier X Z m k l h = inl (omega arith)
  earlier Y X m k l h = absurd (omega (arith, h, all_along X k l))
  earlier Y Y m k l h = along_earlier Y m k h
  earlier Y Z m k l h = inl (omega arith)
  earlier Z X m k l h = absurd (omega (arith, h, x_and_y, all_along X k l))
  earlier Z Y m k l h = absurd (omega (arith, h, x_and_y, all_along Y k l))
  earlier Z Z m k l h = along_earlier Z m k h

  -- ---- our quads by our own words

  abbrev W : List ℕ
  W = mesh_words loops_of n s cut

  abbrev Q : List ℕ
  Q = mesh_quads loops_of n s cut

  own_tied : (v : ℕ) → v < length (vertices loops_of n s cut) → Tied n s cut W v v
  own_tied v h =
      let at = words_at_lem loops_of n s cut v h in
      let u = vertex_of loops_of n s cut v in
      let edge : (e : ℕ) → e < 12 → holds (word_at W v) e ≡ holds u.mask e = λ e l. ap (λ (w : ℕ). holds w e) at.1 ∙ word_holds (corners_of n s u.cube) u.mask e l in
      record {
        to_holder = λ c e l d. record { is_vertex = h; in_cube = sym at.0 ∙ d.at_cube_lem; holds_edge = sym (edge e l) ∙ d.at_edge };
        to_spot = λ c e l x. record { at_cube_lem = at.0 ∙ x.in_cube; at_edge = edge e l ∙ x.holds_edge };
      }

  -- the numbers of our quads are below the vertex count
  pub our_below : (p : ℕ) → p < quad_total Q → AllBelow (length (vertices loops_of n s cut)) (named_quad as_sent Q p)
  unfolding mesh_quads
  our_below p h =
      let b = quad_inside loops_of n s cut (cube_laws joined) (quad_numbers (quads loops_of n s cut) p (omega (arith, our_total n s cut))) in
      record { at0 = b.0; at1 = b.1; at2 = b.2; at3 = b.3 }

  own_all_tied : (p : ℕ) → p < quad_total Q → AllTied n s cut W (named_quad as_sent Q p) (named_quad as_sent Q p)
  own_all_tied p h =
      let b = our_below p h in
      record { first = own_tied _ b.at0; second = own_tied _ b.at1; third = own_tied _ b.at2; fourth = own_tied _ b.at3 }

  -- each lies round its edge
  abbrev own_laid : (p : ℕ) (h : p < quad_total Q) → Laid W n s cut (named_quad as_sent Q p)
  own_laid p h = from_laid n s cut W (named_quad as_sent Q p) (named_quad as_sent Q p) (own_all_tied p h) (placed_from n s cut (placed n s cut p h))

  pub our_highest : (p : ℕ) → p < quad_total Q → Highest (cube_at W) (named_quad as_sent Q p)
  our_highest p h = laid_highest W n s cut (named_quad as_sent Q p) (own_laid p h)

  -- so each is begun as `led` begins it
  pub our_led : (p : ℕ) → p < quad_total Q → led W (named_quad as_sent Q p) ≡ named_quad as_sent Q p
  our_led p h = led_highest W 0 (named_quad as_sent Q p) (our_highest p h)

  our_key : (count p : ℕ) (h : p < quad_total Q) → quad_key W n count (named_quad as_sent Q p) ≡ axis_number (placed n s cut p h).axis * count + (named_quad as_sent Q p).v2
  our_key count p h =
      ap (λ (r : Quad). axis_at W n r * count + r.v2) (our_led p h)
      ∙ ap (λ (x : ℕ). x * count + (named_quad as_sent Q p).v2) (laid_axis n s cut W (named_quad as_sent Q p) (own_laid p h))

  -- the third vertices rise along an axis
  third_rises : (p q : ℕ) (hp : p < quad_total Q) (hq : q < quad_total Q) → (placed n s cut p hp).sample < (placed n s cut q hq).sample → (named_quad as_sent Q p).v2 < (named_quad as_sent Q q).v2
  third_rises p q hp hq l = go (lt_or_ge u v)
    where
      u : ℕ
      u = (named_quad as_sent Q p).v2

      v : ℕ
      v = (named_quad as_sent Q q).v2

      cube_of : (p : ℕ) (h : p < quad_total Q) → (vertex_of loops_of n s cut (named_quad as_sent Q p).v2).cube ≡ at_sample n (cube_number n) (placed n s cut p h).sample
      cube_of p h = sym (words_at_lem loops_of n s cut (named_quad as_sent Q p).v2 (our_below p h).at2).0 ∙ laid_third W n s cut (named_quad as_sent Q p) (own_laid p h)

      rises : at_sample n (cube_number n) (placed n s cut p hp).sample < at_sample n (cube_number n) (placed n s cut q hq).sample
      rises = cube_rises n _ _ l (third_in n (own_laid p hp).axis (own_laid p hp).i (own_laid p hp).j (own_laid p hp).k (own_laid p hp).is_inner)

      plain : (a b x y : ℕ) → a ≡ x → b ≡ y → b ≤ a → x < y → ⊥
      plain a b x y e f g h = omega arith

      go : (u < v) ⊎ (v ≤ u) → u < v
      go (inl g) = g
      go (inr g) = absurd (plain _ _ _ _ (cube_of p hp) (cube_of q hq) (by_cube loops_of n s cut v u g (our_below p hp).at2) rises)

  -- the numbers of our quads rise along the list
  pub our_quad_keys_rise : (p q : ℕ) → p < q → q < quad_total Q
      → quad_key W n (length (vertices loops_of n s cut)) (named_quad as_sent Q p) < quad_key W n (length (vertices loops_of n s cut)) (named_quad as_sent Q q)
  our_quad_keys_rise p q l h =
      let hp : p < quad_total Q = omega arith in
      let a = placed n s cut p hp in
      let b = placed n s cut q h in
      let count = length (vertices loops_of n s cut) in
      key_less count _ _ (axis_number a.axis) (axis_number b.axis) _ _ (our_key count p hp) (our_key count q h) (our_below p hp).at2
      (⊎_elim (λ g. inl g) (λ g. inr (ap axis_number g.0, third_rises p q hp h g.1))
      (earlier a.axis b.axis a.sample b.sample b.sample_lt (plain _ _ a.number b.number)))
    where
      plain : (x y : ℕ) → p ≡ x → q ≡ y → x < y
      plain x y e f = omega arith

  -- no two of them are the same round
  pub our_quads_distinct : (p q : ℕ) → p < quad_total Q → q < quad_total Q → same_round (named_quad as_sent Q p) (named_quad as_sent Q q) ≡ true → p ≡ q
  our_quads_distinct p q hp hq e =
      no_earlier (λ (i k : ℕ). key i ≡ key k) (λ i k t. sym t) (quad_total Q) (λ i k l m t. omega (arith, t, our_quad_keys_rise k i m l)) p q hp hq
      (round_key W n (length (vertices loops_of n s cut)) (named_quad as_sent Q p) (named_quad as_sent Q q) e (rw (our_led q hq) (our_highest q hq)))
    where
      key : ℕ → ℕ
      key p = quad_key W n (length (vertices loops_of n s cut)) (named_quad as_sent Q p)

module _ (n : Size) (s : List ℕ) (cut : Cut) where
  -- no vertex and no quad of ours is there twice
  pub ours_distinct : Distinct (mesh_words loops_of n s cut) (mesh_quads loops_of n s cut)
  ours_distinct = record {
    vertices = λ u v hu hv e. words_distinct n s cut u v (subst (λ (m : ℕ). u < m) (total_of_mesh n s cut) hu) (subst (λ (m : ℕ). v < m) (total_of_mesh n s cut) hv) e;
    quads = our_quads_distinct n s cut;
  }

  -- and each number of our quads is that of a vertex
  pub ours_below : QuadsBelow (vertex_total (mesh_words loops_of n s cut)) (mesh_quads loops_of n s cut)
  ours_below q l =
      below_quad (vertex_total (mesh_words loops_of n s cut)) (mesh_quads loops_of n s cut) q
      (subst (λ (m : ℕ). AllBelow m (named_quad as_sent (mesh_quads loops_of n s cut) q)) (sym (total_of_mesh n s cut)) (our_below n s cut q l))
