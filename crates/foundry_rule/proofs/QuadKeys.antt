-- The number of a quad tells it from every other of ours: it holds the axis of the quad's edge and the third vertex, whose cube has the edge's lower sample as its first
-- corner. No two quads of ours are the same round, and along our list the numbers rise.
-- Assumes nothing.
use Prim.Native.Nat.{ℕ, ◌+◌, ◌*◌, ◌-◌, ◌/◌, ◌%◌, ◌≤◌, ◌<◌}
use mathlib.Core.Path.{◌≡◌, refl, ap, sym, ◌∙◌, subst}
use mathlib.Core.Bool.{Bool, true, false, cond}
use mathlib.Core.List.{List}
use native.Mathlib.Nat.{mul-le-mul_left}
use native.Mathlib.Omega.{arith}
use borrow.Author.Tests.{eqb-true, eq-eqb, ne_eqb}
use lib.Dec.{eqb}
use lib.Ieee.{Float}
use Rattle.laws.proofs.Index.{pair_mod, pair_div}
use Rattle.block.specs.declared.Cut.{Cut}
use Rattle.block.specs.declared.Size.{Size}
use Rattle.block.specs.Numbering.{Axis, X, Y, Z, cube_number, at_cube}
use Rattle.block.proofs.Numbering.{cube_back}
use Rattle.cube_rule.specs.Decider.{loops_of}
use Rattle.mesh_rule.specs.Buffers.{mesh_words, mesh_quads}
use Rattle.mesh_rule.specs.Layers.{layer_size}
use Rattle.mesh_rule.specs.Mesh.{Quad}
use Rattle.mesh_rule.proofs.Inner.{Inner, CubeIn}
use Rattle.mesh_rule.proofs.Quads.{quad_of}
use Rattle.foundry_rule.specs.Judged.{alike, named_quad, as_sent, same_round, our_quad}
use Rattle.foundry_rule.specs.Spots.{cube_at, led, axis_at, quad_key}
use Rattle.foundry_rule.proofs.Firsts.{same_test}
use Rattle.foundry_rule.proofs.Rounds.{renamed, AllBelow, quad_equal, begun_both, begun_below}
use Rattle.foundry_rule.proofs.Rotations.{Highest, led_begun, led_round}
use Rattle.foundry_rule.proofs.Known.{own_apart}
use Rattle.foundry_rule.proofs.Laid.{second_step, fourth_step, Laid, laid_highest, laid_third, laid_first, third_in}
use Rattle.foundry_rule.proofs.Owned.{laid_edge}
use Rattle.foundry_rule.proofs.Ours.{own_of, is_known, AllKnown, known_led, all_tied, our_laid}

-- ---- the axis and the third vertex

-- x 0, y 1, z 2
abbrev pub axis_number : Axis → ℕ
axis_number X = 0
axis_number Y = 1
axis_number Z = 2

axis_same : (a b : Axis) → axis_number a ≡ axis_number b → a ≡ b
axis_same X X e = refl
axis_same X Y e = absurd (omega arith)
axis_same X Z e = absurd (omega arith)
axis_same Y X e = absurd (omega arith)
axis_same Y Y e = refl
axis_same Y Z e = absurd (omega arith)
axis_same Z X e = absurd (omega arith)
axis_same Z Y e = absurd (omega arith)
axis_same Z Z e = refl

-- three distances that differ
apart_y : (c0 c2 l w : ℕ) → 2 ≤ w → c0 + (1 + l) ≡ c2 → c0 + (l + w) ≡ c2 → ⊥
apart_y c0 c2 l w h e f = omega arith

apart_z : (c0 c2 l w : ℕ) → 2 ≤ w → w * 2 ≤ l → c0 + (w + 1) ≡ c2 → (c0 + (l + w) ≡ c2 → ⊥) × (c0 + (1 + l) ≡ c2 → ⊥)
apart_z c0 c2 l w h g e = (λ f. omega arith, λ f. omega arith)

-- the distance of first and third cube tells the axis, where the edge is inner
axis_told : (n : Size) (a : Axis) (i j k c0 c2 : ℕ) → Inner n a i j k → c0 + (second_step n a + fourth_step n a) ≡ c2
    → cond (eqb (c0 + (layer_size n + (n.nx - 1))) c2) 0 (cond (eqb (c0 + (1 + layer_size n)) c2) 1 2) ≡ axis_number a
axis_told n X i j k c0 c2 h e = rw (eq-eqb _ c2 e)
axis_told n Y i j k c0 c2 h e = rw (ne_eqb _ c2 (apart_y c0 c2 (layer_size n) (n.nx - 1) (omega arith) e), eq-eqb _ c2 e)
axis_told n Z i j k c0 c2 h e =
    let t = apart_z c0 c2 (layer_size n) (n.nx - 1) (omega arith) (mul-le-mul_left (n.nx - 1) (omega arith)) e in
    rw (ne_eqb _ c2 t.0, ne_eqb _ c2 t.1)

-- numbers by two digits, of which the second is below count
digits : (count a b x y : ℕ) → x < count → y < count → a * count + x ≡ b * count + y → (a ≡ b) × (x ≡ y)
digits count a b x y hx hy e =
    let f : x + count * a ≡ y + count * b = omega (arith, e) in
    (sym (pair_div count x a hx) ∙ ap (λ (m : ℕ). m / count) f ∙ pair_div count y b hy, sym (pair_mod count x a hx) ∙ ap (λ (m : ℕ). m % count) f ∙ pair_mod count y b hy)

-- a cube's number tells its coordinates, and what is said of them
pub cube_same : {A : Type 0} (n : Size) (f : ℕ → ℕ → ℕ → A) (i j k x y z : ℕ) → CubeIn n i j k → CubeIn n x y z → cube_number n i j k ≡ cube_number n x y z → f i j k ≡ f x y z
cube_same n f i j k x y z h g e = sym (cube_back n f i j k h.0 h.1) ∙ ap (at_cube n f) e ∙ cube_back n f x y z g.0 g.1

-- an axis below 3 and a vertex below count
pub quad_key_lt : (words : List ℕ) (n : Size) (count : ℕ) (q : Quad) → (led words q).v2 < count → quad_key words n count q < 3 * count
quad_key_lt words n count q h =
    let r = led words q in
    go (eqb (cube_at words r.v0 + (layer_size n + (n.nx - 1))) (cube_at words r.v2)) (eqb (cube_at words r.v0 + (1 + layer_size n)) (cube_at words r.v2)) r.v2 h
  where
    go : (a b : Bool) (x : ℕ) → x < count → cond a 0 (cond b 1 2) * count + x < 3 * count
    go true b x h = omega arith
    go false true x h = omega arith
    go false false x h = omega arith

-- the same round has the same number, where one cube is the highest
pub round_key : (words : List ℕ) (n : Size) (count : ℕ) (q p : Quad) → same_round q p ≡ true → Highest (cube_at words) (led words p)
    → quad_key words n count q ≡ quad_key words n count p
round_key words n count q p e h = ap (λ (r : Quad). axis_at words n r * count + r.v2) (led_round words q p e h)

module _ (n : Size) (s : List ℕ) (cut : Cut) (words : List ℕ) where
  -- the axis that the number of a quad holds is that of its edge
  pub laid_axis : (q : Quad) (d : Laid words n s cut q) → axis_at words n q ≡ axis_number d.axis
  laid_axis q d = axis_told n d.axis d.i d.j d.k _ _ d.is_inner (laid_first words n s cut q d)

  -- quads of one axis whose third vertices are in one cube are of one edge
  edge_same : (p q : Quad) (d : Laid words n s cut p) (e : Laid words n s cut q) → d.axis ≡ e.axis → cube_at words p.v2 ≡ cube_at words q.v2
      → quad_of loops_of n s cut d.axis d.i d.j d.k ≡ quad_of loops_of n s cut e.axis e.i e.j e.k
  edge_same p q d e a c =
      let same : cube_number n d.i d.j d.k ≡ cube_number n e.i e.j e.k = sym (laid_third words n s cut p d) ∙ c ∙ laid_third words n s cut q e in
      let x = third_in n d.axis d.i d.j d.k d.is_inner in
      let y = third_in n e.axis e.i e.j e.k e.is_inner in
      ap (λ (b : Axis). quad_of loops_of n s cut b d.i d.j d.k) a ∙ cube_same n (quad_of loops_of n s cut e.axis) d.i d.j d.k e.i e.j e.k x y same

-- ---- quads that are sent

-- `led` keeps the four numbers of a quad
pub led_below : (words : List ℕ) (count : ℕ) (q : Quad) → AllBelow count q → AllBelow count (led words q)
led_below words count q h = let b = led_begun words q in subst (AllBelow count) (sym b.1) (begun_below count b.0 q h)

-- a list of which no two vertices below count have the same cube and word
module _ (n : Size) (s : List ℕ) (cut : Cut) (words : List ℕ) (offsets : List Float) (quads : List ℕ) (count : ℕ)
    (distinct : (u v : ℕ) → u < count → v < count → alike words u words v ≡ true → u ≡ v) where
  abbrev own : ℕ → ℕ
  own v = own_of n s cut words offsets quads v

  -- two that are one of ours are one
  own_one : (u v : ℕ) → u < count → v < count → is_known n s cut words offsets quads u ≡ true → is_known n s cut words offsets quads v ≡ true → own u ≡ own v → u ≡ v
  own_one u v hu hv ku kv e = distinct u v hu hv (own_apart n s cut (mesh_quads loops_of n s cut) words offsets quads u v ku kv e)

  -- a quad of known vertices below count that lies round an inner edge
  record Keyed (q : Quad) : Type 0 where
    pub all_below : AllBelow count q
    pub all_known : AllKnown n s cut words offsets quads q
    pub laid : Laid words n s cut q

  -- quads that are one quad of ours are one
  own_quad : (p q : Quad) → Keyed p → Keyed q → renamed own p ≡ renamed own q → p ≡ q
  own_quad p q a b e =
      quad_equal (own_one _ _ a.all_below.at0 b.all_below.at0 a.all_known.0 b.all_known.0 (ap (λ (x : Quad). x.v0) e))
      (own_one _ _ a.all_below.at1 b.all_below.at1 a.all_known.1 b.all_known.1 (ap (λ (x : Quad). x.v1) e))
      (own_one _ _ a.all_below.at2 b.all_below.at2 a.all_known.2 b.all_known.2 (ap (λ (x : Quad). x.v2) e))
      (own_one _ _ a.all_below.at3 b.all_below.at3 a.all_known.3 b.all_known.3 (ap (λ (x : Quad). x.v3) e))

  -- it is the quad of its edge, by our numbers
  keyed_edge : (q : Quad) (a : Keyed q) → renamed own q ≡ quad_of loops_of n s cut a.laid.axis a.laid.i a.laid.j a.laid.k
  keyed_edge q a = (laid_edge n s cut words q (renamed own q) (all_tied n s cut words offsets quads q a.all_known) a.laid).1

  -- so two of one axis and one third vertex are one
  keyed_one : (p q : Quad) → Keyed p → Keyed q → axis_at words n p * count + p.v2 ≡ axis_at words n q * count + q.v2 → p ≡ q
  keyed_one p q a b e =
      let g = digits count (axis_at words n p) (axis_at words n q) p.v2 q.v2 a.all_below.at2 b.all_below.at2 e in
      let x = axis_same a.laid.axis b.laid.axis (sym (laid_axis n s cut words p a.laid) ∙ g.0 ∙ laid_axis n s cut words q b.laid) in
      own_quad p q a b (keyed_edge p a ∙ edge_same n s cut words p q a.laid b.laid x (ap (cube_at words) g.1) ∙ sym (keyed_edge q b))

  -- quad q of the list, as it was sent; its vertices are known and below count, and it is one of ours
  abbrev sent : ℕ → Quad
  sent q = named_quad as_sent quads q

  pub record OurSent (q : ℕ) : Type 0 where
    pub all_below : AllBelow count (sent q)
    pub all_known : AllKnown n s cut words offsets quads (sent q)
    pub is_ours_lem : our_quad (mesh_words loops_of n s cut) (mesh_quads loops_of n s cut) words offsets quads q ≡ true

  our_keyed : (q : ℕ) → OurSent q → Keyed (led words (sent q))
  our_keyed q a = record {
    all_below = led_below words count (sent q) a.all_below;
    all_known = known_led n s cut words offsets quads (sent q) a.all_known;
    laid = our_laid n s cut words offsets quads q a.all_known a.is_ours_lem;
  }

  same_key_round : (q p : ℕ) → OurSent q → OurSent p → quad_key words n count (sent q) ≡ quad_key words n count (sent p) → same_round (sent q) (sent p) ≡ true
  same_key_round q p a b e =
      let x = led_begun words (sent q) in
      let y = led_begun words (sent p) in
      begun_both x.0 y.0 (sent q) (sent p) (sym x.1 ∙ keyed_one (led words (sent q)) (led words (sent p)) (our_keyed q a) (our_keyed p b) e ∙ y.1)

  same_round_key : (q p : ℕ) → OurSent p → same_round (sent q) (sent p) ≡ true → quad_key words n count (sent q) ≡ quad_key words n count (sent p)
  same_round_key q p b e = round_key words n count (sent q) (sent p) e (laid_highest words n s cut (led words (sent p)) (our_keyed p b).laid)

  -- two quads of ours, as they were sent, have the same number just if they are the same round
  pub quad_keys : (q p : ℕ) → OurSent q → OurSent p
      → eqb (quad_key words n count (named_quad as_sent quads q)) (quad_key words n count (named_quad as_sent quads p)) ≡ same_round (named_quad as_sent quads q) (named_quad as_sent quads p)
  quad_keys q p a b =
      same_test (eqb (quad_key words n count (sent q)) (quad_key words n count (sent p))) (same_round (sent q) (sent p))
      (λ e. same_key_round q p a b (eqb-true _ _ e))
      (λ e. eq-eqb _ _ (same_round_key q p b e))
