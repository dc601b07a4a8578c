-- Entries that no earlier one repeats, by ranges of keys: what is so of the keys below a bound and of those of the next range is so of both. Where each key is above
-- all earlier ones, nothing is repeated.
-- Assumes nothing.
use Prim.Native.Nat.{ℕ, ◌+◌, ◌*◌, ◌≤◌, ◌<◌}
use mathlib.Core.Path.{◌≡◌, refl, ap, sym, ◌∙◌}
use mathlib.Core.Bool.{Bool, true, false, not, ◌&&◌, ◌||◌}
use mathlib.Core.Logic.{◌⊎◌, inl, inr}
use native.Mathlib.Omega.{arith}
use lib.Dec.{eqb, ltb, leb}
use borrow.Author.Tests.{ne_eqb, lt-ltb, le-ltb, le-leb, leb-true}
use Rattle.laws.specs.Leading.{leading}
use Rattle.laws.proofs.Leading.{HoldsTo, before_more, leading_le, leading_holds, leading_stops, leading_at, leading_all, leading_same}
use Rattle.laws.proofs.Tests.{and_both, lt_or_ge, some_or_none}
use Rattle.foundry_rule.specs.Judged.{is_some}
use Rattle.foundry_rule.proofs.Firsts.{is_some_lem, is_none}
use Rattle.repeats.specs.Fresh.{span, seen, fresh, fresh_below, in_span, fresh_in, Rising}

-- ---- whether one passes

pub some_next : (f : ℕ → Bool) (n : ℕ) → is_some f (n + 1) ≡ (f n || is_some f n)
some_next f n = go (some_or_none f n) (f n) refl
  where
    go : ((k : ℕ) × (k < n) × (f k ≡ true)) ⊎ ((k : ℕ) → k < n → f k ≡ false) → (b : Bool) → f n ≡ b → is_some f (n + 1) ≡ (b || is_some f n)
    go r true e = is_some_lem f (n + 1) n (omega arith) e
    go (inl s) false e = is_some_lem f (n + 1) s.0 (omega (arith, s.1)) s.2 ∙ sym (is_some_lem f n s.0 s.1 s.2)
    go (inr a) false e = is_none f (n + 1) (before_more (λ (i : ℕ). f i ≡ false) n a e) ∙ sym (is_none f n a)

-- ---- one test, and behind it another

pub leading_narrow : (f g : ℕ → Bool) (n : ℕ) → leading g (leading f n) ≡ leading (λ (i : ℕ). f i && g i) n
leading_narrow f g n = go (lt_or_ge (leading g (leading f n)) (leading f n)) (lt_or_ge (leading f n) n)
  where
    le_m : leading f n ≤ n
    le_m = leading_le f n

    le_g : leading g (leading f n) ≤ leading f n
    le_g = leading_le g (leading f n)

    both : HoldsTo (λ (i : ℕ). f i && g i) (leading g (leading f n))
    both i l = rw (leading_holds f n i (omega (arith, le_g)), leading_holds g (leading f n) i l)

    go : (leading g (leading f n) < leading f n) ⊎ (leading f n ≤ leading g (leading f n)) → (leading f n < n) ⊎ (n ≤ leading f n)
        → leading g (leading f n) ≡ leading (λ (i : ℕ). f i && g i) n
    go (inl a) r =
        sym (leading_at (λ (i : ℕ). f i && g i) n (leading g (leading f n)) (omega (arith, le_m)) both
        (rw (leading_holds f n (leading g (leading f n)) a, leading_stops g (leading f n) a)))
    go (inr b) (inl l) =
        let e : leading g (leading f n) ≡ leading f n = omega (arith, le_g) in
        e ∙ sym (leading_at (λ (i : ℕ). f i && g i) n (leading f n) l (λ i h. both i (omega (arith, e))) (rw (leading_stops f n l)))
    go (inr b) (inr r) =
        let e : leading g (leading f n) ≡ n = omega (arith, le_g, le_m) in
        e ∙ sym (leading_all (λ (i : ℕ). f i && g i) n (λ i h. both i (omega (arith, e))))

-- where it fails before n it fails there before any later end too
pub leading_further : (f : ℕ → Bool) (n m a : ℕ) → n ≤ m → a ≡ leading f n → a < n → a ≡ leading f m
leading_further f n m a h e l =
    e ∙ sym (leading_at f m (leading f n) (omega (arith, e)) (leading_holds f n) (leading_stops f n (omega (arith, e))))

module _ (key : ℕ → ℕ) where
  -- ---- range by range

  not_or : (a i b s : Bool) → b ≡ (a || i) → not (b && s) ≡ (not (a && s) && not (i && s))
  not_or true true true true e = refl
  not_or true true true false e = refl
  not_or true false true true e = refl
  not_or true false true false e = refl
  not_or false true true true e = refl
  not_or false true true false e = refl
  not_or false false false true e = refl
  not_or false false false false e = refl
  not_or true i false s e = absurd (mathlib.Core.Bool.true≢false (sym e))
  not_or false true false s e = absurd (mathlib.Core.Bool.true≢false (sym e))
  not_or false false true s e = absurd (mathlib.Core.Bool.true≢false e)

  split_at : (b k : ℕ) → ltb k (b + span) ≡ (ltb k b || in_span b k)
  split_at b k = go (lt_or_ge k b) (ltb k (b + span)) refl
    where
      go : (k < b) ⊎ (b ≤ k) → (c : Bool) → ltb k (b + span) ≡ c → c ≡ (ltb k b || (leb b k && c))
      go (inl l) c e = rw (lt-ltb k b l) (sym e ∙ lt-ltb k (b + span) (omega arith))
      go (inr g) c e = rw (le-ltb k b g, le-leb b k g)

  range_more : (b v : ℕ) → fresh_below key (b + span) v ≡ (fresh_below key b v && fresh_in key b v)
  range_more b v = not_or (ltb (key v) b) (in_span b (key v)) (ltb (key v) (b + span)) (seen key (key v) v) (split_at b (key v))

  -- the first repeat below a bound, and then the first before it in the next range
  pub next_range : (b n limit : ℕ) → limit ≡ leading (fresh_below key b) n → leading (fresh_in key b) limit ≡ leading (fresh_below key (b + span)) n
  next_range b n limit e =
      ap (leading (fresh_in key b)) e
      ∙ leading_narrow (fresh_below key b) (fresh_in key b) n
      ∙ leading_same (λ (i : ℕ). fresh_below key b i && fresh_in key b i) (fresh_below key (b + span)) n (λ i h. sym (range_more b i))

  -- by the numbers of the ranges: what is so before the r-th, and behind it
  pub range_passed : (m r limit a : ℕ) → limit ≡ leading (fresh_below key (span * r)) m → a ≡ leading (fresh_in key (span * r)) limit
      → a ≡ leading (fresh_below key (span * (r + 1))) m
  range_passed m r limit a e q = q ∙ next_range (span * r) m limit e ∙ ap (λ (x : ℕ). leading (fresh_below key x) m) (next r)
    where
      next : (r : ℕ) → span * r + span ≡ span * (r + 1)
      next r = omega arith

  pub no_range : (n : ℕ) → n ≡ leading (fresh_below key 0) n
  no_range n = sym (leading_all (fresh_below key 0) n (λ i h. rw (le-ltb (key i) 0 (omega arith))))

  -- below a bound of all keys nothing is left out
  pub all_ranges : (b n : ℕ) → ((v : ℕ) → v < n → key v < b) → leading (fresh_below key b) n ≡ leading (fresh key) n
  all_ranges b n h = leading_same (fresh_below key b) (fresh key) n (λ i l. rw (lt-ltb (key i) b (h i l)))

  -- ---- keys that rise

  -- a key from `last` on, above all earlier ones, is new
  pub fresh_above : (v last : ℕ) → ((u : ℕ) → u < v → key u < last) → last ≤ key v → fresh key v ≡ true
  fresh_above v last h g = rw (is_none (λ (u : ℕ). eqb (key v) (key u)) v (λ u l. ne_eqb (key v) (key u) (λ e. apart (key u) (key v) last (h u l) g e)))
    where
      apart : (x y l : ℕ) → x < l → l ≤ y → y ≡ x → ⊥
      apart x y l p q e = omega arith

  pub rising_more : (v last : ℕ) (rises : Bool) → Rising key v last rises → Rising key (v + 1) (key v + 1) (leb last (key v) && rises)
  rising_more v last rises r = record {
    new = λ e. let q = and_both (leb last (key v)) rises e in before_more (λ (u : ℕ). fresh key u ≡ true) v (r.new q.1) (fresh_above v last (r.under q.1) (leb-true last (key v) q.0));
    under = λ e. let q = and_both (leb last (key v)) rises e in before_more (λ (u : ℕ). key u < key v + 1) v (λ u h. up (key u) last (key v) (r.under q.1 u h) (leb-true last (key v) q.0)) (omega arith);
  }
    where
      up : (x l y : ℕ) → x < l → l ≤ y → x < y + 1
      up x l y h g = omega arith

-- ---- the end of a first look, at the first entry that is not sound or behind the last

module _ (sound : ℕ → Bool) (count v : ℕ) (h : HoldsTo sound v) where
  pub looked_stops : v < count → sound v ≡ false → v ≡ leading sound count
  looked_stops l n = sym (leading_at sound count v l h n)

  pub looked_ends : v ≡ count → v ≡ leading sound count
  looked_ends q = q ∙ sym (leading_all sound count (λ i l. h i (omega (arith, q))))

-- the first repeated one, of those before the first that is not sound; none where their keys rise
module _ (sound : ℕ → Bool) (key : ℕ → ℕ) (count m : ℕ) (e : m ≡ leading sound count) where
  pub fault_again : (a : ℕ) → a ≡ leading (fresh key) m → a ≡ leading (λ (i : ℕ). sound i && fresh key i) count
  fault_again a q = q ∙ ap (leading (fresh key)) e ∙ leading_narrow sound (fresh key) count

  pub fault_none : (last : ℕ) → Rising key m last true → m ≡ leading (λ (i : ℕ). sound i && fresh key i) count
  fault_none last r = fault_again m (sym (leading_all (fresh key) m (r.new refl)))
