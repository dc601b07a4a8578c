-- The decider reads the bilinear form at the saddle: a face with four crossed edges has a saddle, inside it, and its positive corners are
-- joined exactly if the form there is at least t + n/S, S being the divisor A + B + C + D (`decider_is_saddle`, `saddle_exists`, at the end).
-- With the samples t + A, t - B, t + C, t - D round the face, the first difference vanishes where (C + D) v = (A + B) x, and there the
-- form is above t by x (u + w) (A C - B D) over C + D, which is (u + w) (v + x) (A C - B D) over S. Positive samples at q and s are the
-- same face, turned.
-- Assumes nothing.
use mathlib.Core.Path.{◌≡◌, refl, sym, ap, ◌∙◌}
use mathlib.Core.Bool.{Bool, true, false}
use mathlib.Core.Logic.{◌↔◌, ◌⊎◌, inl, inr, ⊎_elim}
use Prim.Native.Nat.{ℕ, ◌+◌, ◌-◌, ◌*◌, ◌≤◌, ◌<◌}
use native.Mathlib.Nat.{mul_comm, mul-pos, mul-le-mul_left, le_of_mul-le-mul_left}
use native.Mathlib.Omega.{arith}
use lib.Dec.{leb}
use borrow.Author.Tests.{leb-true, leb-false, le-leb, lt-leb}
use Rattle.block.specs.declared.Cut.{Cut}
use Rattle.block.specs.Grey.{positive}
use Rattle.cube_rule.specs.Decider.{joined, divisor}
use Rattle.cube_rule.specs.Saddle.{form, Saddle}
use Rattle.cube_rule.proofs.Decider.{joined_pos, joined_neg}

-- b - a and d - c have one sign where a positive multiple of the one is a positive multiple of the other
same_order : (k m a b c d : ℕ) → 0 < k → 0 < m → k * b + m * c ≡ k * a + m * d → (c ≤ d) ↔ (a ≤ b)
same_order k m a b c d k-some m-some e = (to, from)
  where
    to : c ≤ d → a ≤ b
    to h = let g : m * c ≤ m * d = mul-le-mul_left m h in le_of_mul-le-mul_left {k = k} (omega arith) k-some

    from : a ≤ b → c ≤ d
    from h = let g : k * a ≤ k * b = mul-le-mul_left k h in le_of_mul-le-mul_left {k = m} (omega arith) m-some

-- C + D times what the form has above t, at p and r, less what it has below t, at q and s, is x (u + w) (A C - B D)
balance : (A B C D u w v x : ℕ) → (C + D) * v ≡ (A + B) * x →
    (C + D) * (A * (w * x) + C * (u * v)) + x * (u + w) * (B * D) ≡ (C + D) * (B * (u * x) + D * (w * v)) + x * (u + w) * (A * C)
balance A B C D u w v x e =
    let f : C * u * ((C + D) * v) ≡ C * u * ((A + B) * x) = ap (λ (m : ℕ). C * u * m) e in
    let g : D * w * ((C + D) * v) ≡ D * w * ((A + B) * x) = ap (λ (m : ℕ). D * w * m) e in
    omega arith

-- S times the form, where a is what the form has above t and b what it has below, and where k and y balance a, b and the two products: k times the one and
-- k M times the product of the negative sizes, the noise N with it, is k times the other and k M times the product of the positive sizes
weighed : (k S y M N t f a b bd ac : ℕ) → f + b ≡ t * M + a → k * a + y * bd ≡ k * b + y * ac → k * M ≡ S * y
    → k * (S * f) + k * M * (bd + N) ≡ k * ((t * S + N) * M) + k * M * ac
weighed k S y M N t f a b bd ac level balanced same =
    let l : k * S * (f + b) ≡ k * S * (t * M + a) = ap (λ (m : ℕ). k * S * m) level in
    let w : S * (k * a + y * bd) ≡ S * (k * b + y * ac) = ap (λ (m : ℕ). S * m) balanced in
    let g : k * M * bd ≡ S * y * bd = ap (λ (m : ℕ). m * bd) same in
    let h : k * M * ac ≡ S * y * ac = ap (λ (m : ℕ). m * ac) same in
    omega arith

-- A, B, C and D are the sizes of the samples' differences to t, of which p and r are above and q and s below
record Sizes (t p q r s A B C D : ℕ) : Type 0 where
  at_p : p ≡ t + A
  at_q : q + B ≡ t
  at_r : r ≡ t + C
  at_s : s + D ≡ t

module _ (t p q r s A B C D : ℕ) (sizes : Sizes t p q r s A B C D) where
  -- the form is t and what it has above t, less what it has below
  level : (u w v x : ℕ) →
      p * (w * x) + q * (u * x) + r * (u * v) + s * (w * v) + (B * (u * x) + D * (w * v))
      ≡ t * ((u + w) * (v + x)) + (A * (w * x) + C * (u * v))
  level u w v x =
      let f : p * (w * x) ≡ (t + A) * (w * x) = ap (λ (m : ℕ). m * (w * x)) sizes.at_p in
      let g : (q + B) * (u * x) ≡ t * (u * x) = ap (λ (m : ℕ). m * (u * x)) sizes.at_q in
      let h : r * (u * v) ≡ (t + C) * (u * v) = ap (λ (m : ℕ). m * (u * v)) sizes.at_r in
      let k : (s + D) * (w * v) ≡ t * (w * v) = ap (λ (m : ℕ). m * (w * v)) sizes.at_s in
      omega arith

  -- the first difference vanishes exactly where v is to x as A + B to C + D
  ratio : (v x : ℕ) → (q * x + r * v ≡ p * x + s * v) ↔ ((C + D) * v ≡ (A + B) * x)
  ratio v x =
      let f : p * x ≡ (t + A) * x = ap (λ (m : ℕ). m * x) sizes.at_p in
      let g : (q + B) * x ≡ t * x = ap (λ (m : ℕ). m * x) sizes.at_q in
      let h : r * v ≡ (t + C) * v = ap (λ (m : ℕ). m * v) sizes.at_r in
      let k : (s + D) * v ≡ t * v = ap (λ (m : ℕ). m * v) sizes.at_s in
      ((λ d. omega arith), (λ d. omega arith))

  -- the second difference need not vanish for this: where the first does, the form is the same all along the line
  decides : 0 < D → (N S : ℕ) → p + r ≡ q + s + S → (u w v x : ℕ) → 0 < u + w → 0 < v + x → Saddle p q r s u w v x
      → (B * D + N ≤ A * C) ↔ ((t * S + N) * ((u + w) * (v + x)) ≤ S * form p q r s u w v x)
  unfolding form
  decides D-some N S sum u w v x along across saddle =
      let e : (C + D) * v ≡ (A + B) * x = (ratio v x).0 saddle.first in
      let S-is : S ≡ A + B + C + D = omega (arith, sum, sizes.at_p, sizes.at_q, sizes.at_r, sizes.at_s) in
      let M = (u + w) * (v + x) in
      same_order (C + D) ((C + D) * M) _ _ _ _ (omega arith) (mul-pos (omega arith) (mul-pos along across))
      (weighed (C + D) S (x * (u + w)) M N t _ _ _ (B * D) (A * C) (level u w v x) (balance A B C D u w v x e) (stretch S S-is e))
    where
      -- (C + D) (v + x) is S x
      stretch : (S : ℕ) → S ≡ A + B + C + D → (C + D) * v ≡ (A + B) * x → (C + D) * ((u + w) * (v + x)) ≡ S * (x * (u + w))
      stretch S S-is e =
          let f : (u + w) * ((C + D) * v) ≡ (u + w) * ((A + B) * x) = ap (λ (m : ℕ). (u + w) * m) e in
          let g : S * (x * (u + w)) ≡ (A + B + C + D) * (x * (u + w)) = ap (λ (m : ℕ). m * (x * (u + w))) S-is in
          omega arith

-- the second difference is the first one of the face seen from behind
behind : {t p q r s A B C D : ℕ} → Sizes t p q r s A B C D → Sizes t p s r q A D C B
behind sizes = record { at_p = sizes.at_p; at_q = sizes.at_s; at_r = sizes.at_r; at_s = sizes.at_q }

-- a saddle on none of the face's edges
abbrev SaddleInside : (p q r s : ℕ) → Type 0
SaddleInside p q r s = (u : ℕ) × (w : ℕ) × (v : ℕ) × (x : ℕ) × (0 < u) × (0 < w) × (0 < v) × (0 < x) × Saddle p q r s u w v x

found : (t p q r s A B C D : ℕ) → Sizes t p q r s A B C D → 0 < B → 0 < D → SaddleInside p q r s
found t p q r s A B C D sizes B-some D-some = (
  A + D,
  C + B,
  A + B,
  C + D,
  omega arith,
  omega arith,
  omega arith,
  omega arith,
  record {
    first = (ratio t p q r s A B C D sizes (A + B) (C + D)).1 (mul_comm (C + D) (A + B));
    second = (ratio t p s r q A D C B (behind sizes) (A + D) (C + B)).1 (mul_comm (C + B) (A + D));
  },
)

-- p and r are positive, q and s negative
module _ (t p q r s : ℕ) (p-pos : t ≤ p) (q-neg : q < t) (r-pos : t ≤ r) (s-neg : s < t) where
  sized : Sizes t p q r s (p - t) (t - q) (r - t) (t - s)
  sized = record { at_p = omega arith; at_q = omega arith; at_r = omega arith; at_s = omega arith }

  pub decider_pos : (N S : ℕ) → p + r ≡ q + s + S → (u w v x : ℕ) → 0 < u + w → 0 < v + x → Saddle p q r s u w v x →
      ((t - q) * (t - s) + N ≤ (p - t) * (r - t)) ↔ ((t * S + N) * ((u + w) * (v + x)) ≤ S * form p q r s u w v x)
  decider_pos = decides t p q r s (p - t) (t - q) (r - t) (t - s) sized (omega arith)

  pub saddle_exists_pos : SaddleInside p q r s
  saddle_exists_pos = found t p q r s (p - t) (t - q) (r - t) (t - s) sized (omega arith) (omega arith)

-- the same point where the ring begins one corner later: v of v + x, then w of w + u
turn_form : (p q r s u w v x : ℕ) → form q r s p v x w u ≡ form p q r s u w v x
unfolding form
turn_form p q r s u w v x = omega arith

turn_saddle : (p q r s u w v x : ℕ) → Saddle p q r s u w v x → Saddle q r s p v x w u
turn_saddle p q r s u w v x saddle = record { first = omega arith; second = omega arith }

-- p and r are negative, q and s positive
module _ (t p q r s : ℕ) (p-neg : p < t) (q-pos : t ≤ q) (r-neg : r < t) (s-pos : t ≤ s) where
  pub decider_neg : (N S : ℕ) → q + s ≡ p + r + S → (u w v x : ℕ) → 0 < u + w → 0 < v + x → Saddle p q r s u w v x →
      ((t - p) * (t - r) + N ≤ (q - t) * (s - t)) ↔ ((t * S + N) * ((u + w) * (v + x)) ≤ S * form p q r s u w v x)
  decider_neg N S sum u w v x along across saddle =
      let d = decider_pos t q r s p q-pos r-neg s-pos p-neg N S (omega arith) v x w u across (omega arith) (turn_saddle p q r s u w v x saddle) in
      rw (mul_comm (t - p) (t - r), ← turn_form p q r s u w v x, sides) d
    where
      sides : (u + w) * (v + x) ≡ (v + x) * (w + u)
      sides = omega arith

  pub saddle_exists_neg : SaddleInside p q r s
  saddle_exists_neg =
      let f = saddle_exists_pos t s p q r s-pos p-neg q-pos r-neg in
      (f.2, f.3, f.1, f.0, f.6, f.7, f.5, f.4, turn_saddle s p q r f.0 f.1 f.2 f.3 f.8)

-- the samples at the first and third corner are positive, the others negative
abbrev pub Alternate : (t p q r s : ℕ) → Type 0
Alternate t p q r s = (t ≤ p) × (q < t) × (t ≤ r) × (s < t)

-- a test that a comparison decides says what the comparison does
decided : (b : Bool) (m k : ℕ) {P : Type 0} → b ≡ leb m k → (m ≤ k) ↔ P → (b ≡ true) ↔ P
decided b m k e d = ((λ h. d.0 (leb-true m k (sym e ∙ h))), (λ h. e ∙ le-leb m k (d.1 h)))

-- a face with four crossed edges: p and r have one sign, q and s the other
module _ (cut : Cut) (p q r s : ℕ)
    (p_as_r : positive cut p ≡ positive cut r) (q_as_s : positive cut q ≡ positive cut s) (p_not_q : ¬ (positive cut p ≡ positive cut q)) where
  pub alternate : Alternate cut.t p q r s ⊎ Alternate cut.t q r s p
  alternate = go (positive cut p) (positive cut q) refl refl
    where
      go : (a b : Bool) → positive cut p ≡ a → positive cut q ≡ b → Alternate cut.t p q r s ⊎ Alternate cut.t q r s p
      go true true e f = absurd (p_not_q (e ∙ sym f))
      go true false e f =
          inl (leb-true cut.t p e, leb-false cut.t q f, leb-true cut.t r (sym p_as_r ∙ e), leb-false cut.t s (sym q_as_s ∙ f))
      go false true e f =
          inr (leb-true cut.t q f, leb-false cut.t r (sym p_as_r ∙ e), leb-true cut.t s (sym q_as_s ∙ f), leb-false cut.t p e)
      go false false e f = absurd (p_not_q (e ∙ sym f))

  -- the positive corners are joined exactly if the form at the saddle is at least t + n/S
  pub decider_is_saddle : (u w v x : ℕ) → 0 < u + w → 0 < v + x → Saddle p q r s u w v x →
      (joined cut p q r s ≡ true) ↔ ((cut.t * divisor cut p q r s + cut.noise) * ((u + w) * (v + x)) ≤ divisor cut p q r s * form p q r s u w v x)
  decider_is_saddle u w v x along across saddle =
      ⊎_elim
      (λ (h : Alternate cut.t p q r s).
      let S-is : divisor cut p q r s ≡ (p + r) - (q + s) = rw (le-leb cut.t p h.0) in
      rw S-is
      (decided _ _ _ (joined_pos cut p q r s h.0 h.1 h.2 h.3)
      (decider_pos cut.t p q r s h.0 h.1 h.2 h.3 cut.noise ((p + r) - (q + s)) (omega (arith, h.0, h.1, h.2, h.3)) u w v x along across saddle)))
      (λ (h : Alternate cut.t q r s p).
      let S-is : divisor cut p q r s ≡ (q + s) - (p + r) = rw (lt-leb cut.t p h.3) in
      rw S-is
      (decided _ _ _ (joined_neg cut p q r s h.3 h.0 h.1 h.2)
      (decider_neg cut.t p q r s h.3 h.0 h.1 h.2 cut.noise ((q + s) - (p + r)) (omega (arith, h.0, h.1, h.2, h.3)) u w v x along across saddle)))
      alternate

  pub saddle_exists : SaddleInside p q r s
  saddle_exists =
      ⊎_elim
      (λ (h : Alternate cut.t p q r s). saddle_exists_pos cut.t p q r s h.0 h.1 h.2 h.3)
      (λ (h : Alternate cut.t q r s p). saddle_exists_neg cut.t p q r s h.3 h.0 h.1 h.2)
      alternate
