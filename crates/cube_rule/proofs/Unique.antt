-- THE RULE leaves no choice: any two lists of masks that keep it are equal. Two loops that share an edge have the same edges, since
-- each is closed and connected; so both lists have the same loops, and both stand by the lowest edges.
-- Assumes nothing.
use mathlib.Core.Path.{◌≡◌, refl, sym, ap, ◌∙◌, subst}
use mathlib.Core.Bool.{Bool, true, false, false≢true}
use mathlib.Core.Logic.{◌⊎◌, inl, inr, ⊎_elim}
use mathlib.Core.List.Memᴰ
use mathlib.Core.List.{List, [], ◌∷◌, Memᴰ}
use Prim.Native.Nat.{ℕ, ◌+◌, ◌^◌, ◌≤◌, ◌<◌}
use native.Mathlib.Omega.{arith}
use borrow.Author.Tests.{eq-eqb}
use Rattle.laws.specs.Bits.{bit, holds}
use Rattle.laws.proofs.Bits.{mask_ext, holds_past, some_ones}
use Rattle.laws.proofs.Trailing.{trailing_lt, trailing_set}
use Rattle.laws.proofs.Tests.{lt_or_ge}
use Rattle.cube_rule.specs.Loops.{lowest_edge, loops_in}
use Rattle.cube_rule.specs.Rule.{holders, Loop, Rule}
use Rattle.cube_rule.proofs.Rising.{order_rising, rising_same}
use Rattle.cube_rule.proofs.Ruled.{ruled}

-- ---- who holds an edge

pub held : (e : ℕ) (ms : List ℕ) → 0 < holders e ms → (m : ℕ) × Memᴰ m ms × (holds m e ≡ true)
held e [] h = absurd (omega arith)
held e (m ∷ ms) h = go (holds m e) refl h (held e ms)
  where
    go : (b : Bool) → holds m e ≡ b → 0 < bit b + holders e ms → (0 < holders e ms → (m : ℕ) × Memᴰ m ms × (holds m e ≡ true))
        → (k : ℕ) × Memᴰ k (m ∷ ms) × (holds k e ≡ true)
    go true q h ih = (m, Memᴰ.head refl, q)
    go false q h ih = let r = ih (omega arith) in (r.0, Memᴰ.tail r.1, r.2)

pub holding : (e : ℕ) (ms : List ℕ) (m : ℕ) → Memᴰ m ms → holds m e ≡ true → 0 < holders e ms
holding e [] m d h = absurd (Memᴰ.not-nil d)
holding e (n ∷ ms) m d h = go (Memᴰ.cases_cons d) (holding e ms m)
  where
    one : holds n e ≡ true → bit (holds n e) ≡ 1
    one q = ap bit q

    go : (m ≡ n) ⊎ Memᴰ m ms → (Memᴰ m ms → holds m e ≡ true → 0 < holders e ms) → 0 < bit (holds n e) + holders e ms
    go (inl q) ih = omega (arith, one (subst (λ (x : ℕ). holds x e ≡ true) q h))
    go (inr k) ih = omega (arith, ih k h)

module _ (p : ℕ) (j : ℕ → Bool) where
  -- ---- two loops that share an edge

  within : (l m : ℕ) → Loop p j l → Loop p j m → (e : ℕ) → holds l e ≡ true → holds m e ≡ true → (d : ℕ) → holds l d ≡ true → holds m d ≡ true
  within l m a b e x y d h = sym (a.whole (holds m) b.closed e d x h) ∙ y

  same_loop : (l m : ℕ) → Loop p j l → Loop p j m → (e : ℕ) → holds l e ≡ true → holds m e ≡ true → l ≡ m
  same_loop l m a b e x y = mask_ext 12 l m a.small b.small (λ d h. both d (holds l d) (holds m d) refl refl (within l m a b e x y d) (within m l b a e y x d))
    where
      both : (d : ℕ) (u v : Bool) → holds l d ≡ u → holds m d ≡ v → (holds l d ≡ true → holds m d ≡ true) → (holds m d ≡ true → holds l d ≡ true) → holds l d ≡ holds m d
      both d true v q r f g = q ∙ sym (f q)
      both d false true q r f g = g r ∙ sym r
      both d false false q r f g = q ∙ sym r

  -- ---- the lowest edge of a loop is one of its edges

  edge_of : (l : ℕ) → Loop p j l → (lowest_edge l < 12) × (holds l (lowest_edge l) ≡ true)
  edge_of l a = (small, h)
    where
      some : 0 < l
      some = some_ones l (omega (arith, a.three))

      wide : {n : ℕ} → n < 2 ^ 12 → n < 2 ^ 32
      wide h = omega arith

      h : holds l (lowest_edge l) ≡ true
      h = eq-eqb _ 1 (trailing_set 32 l (trailing_lt 32 l some (wide a.small)))

      small : lowest_edge l < 12
      small = ⊎_elim (λ (q : lowest_edge l < 12). q) (λ (q : 12 ≤ lowest_edge l). absurd (false≢true (sym (holds_past l 12 (lowest_edge l) a.small q) ∙ h))) (lt_or_ge (lowest_edge l) 12)

  -- a loop of one list is one of the other
  among : (ms ns : List ℕ) → Rule p j ms → Rule p j ns → (l : ℕ) → Memᴰ l ms → Memᴰ l ns
  among ms ns r s l d =
      let a = r.loop l d in
      let e = edge_of l a in
      let k = held (lowest_edge l) ns (subst (λ (x : ℕ). 0 < x) (r.each (lowest_edge l) e.0 ∙ sym (s.each (lowest_edge l) e.0)) (holding (lowest_edge l) ms l d e.1)) in
      subst (λ (x : ℕ). Memᴰ x ns) (sym (same_loop l k.0 a (s.loop k.0 k.1) (lowest_edge l) e.1 k.2)) k.1

  -- two lists that keep the rule are equal
  pub rule_fixes : (ms ns : List ℕ) → Rule p j ms → Rule p j ns → ms ≡ ns
  rule_fixes ms ns r s = rising_same ms ns (order_rising ms r.order) (order_rising ns s.order) (among ms ns r s) (among ns ms s r)

-- any masks that keep the rule are the loops
pub rule_unique : (p : ℕ) → p < 256 → (j : ℕ → Bool) (ms : List ℕ) → Rule p j ms → ms ≡ loops_in p j
rule_unique p h j ms r = rule_fixes p j ms (loops_in p j) r (ruled p h j)
