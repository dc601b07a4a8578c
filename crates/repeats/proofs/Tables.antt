-- The table of bits from one entry of a list to the next: an entry whose key is out of the range changes nothing, and any other is marked.
-- Assumes nothing.
use Prim.Native.Nat.{ℕ, zero, suc, ◌+◌, ◌/◌, ◌%◌, ◌-◌, ◌≤◌, ◌<◌}
use mathlib.Core.Path.{◌≡◌, refl, ap, sym, ◌∙◌, subst}
use mathlib.Core.Bool.{Bool, true, false, not, ◌||◌}
use mathlib.Core.Logic.{◌⊎◌, inl, inr}
use mathlib.Core.List.{List}
use Rattle.std.specs.Prelude.{Some, None}
use native.Mathlib.Nat.{add-zero, add-suc}
use native.Mathlib.Numerals.{add-one}
use native.Mathlib.Omega.{arith}
use lib.Dec.{eqb}
use lib.ListN.{length, get_or, replicate, length-replicate}
use borrow.Author.Tests.{eq-eqb, ne_eqb, eqb-true, lt-ltb, le-ltb, le-leb, lt-leb}
use Rattle.laws.proofs.Bits.{holds_none}
use Rattle.laws.specs.Leading.{leading}
use Rattle.laws.proofs.Leading.{holds_to_none, holds_more, leading_at, leading_all}
use Rattle.foundry_rule.proofs.Firsts.{same_test, is_none}
use Rattle.repeats.specs.Fresh.{span, seen, in_span, fresh_in, PlaceIn, FarFrom, bit_at, Table, Marked, Passed}
use Rattle.repeats.proofs.Ranges.{some_next}

module _ (key : ℕ → ℕ) (b : ℕ) where
  -- a table of zeros, before any entry
  table_none : (table : List ℕ) → length table ≡ 4096 → ((i : ℕ) → get_or table i 0 ≡ 0) → Table key b 0 table
  table_none table l z = record {
    long = l;
    says = λ k h. rw (z (k / 64)) (holds_none (k % 64) ∙ sym (is_none (λ (u : ℕ). eqb (b + k) (key u)) 0 (λ i q. absurd (omega arith))));
  }

  zeros : (n i : ℕ) → get_or {A = ℕ} (replicate n 0) i 0 ≡ 0
  zeros zero i = refl
  zeros (suc n) zero = refl
  zeros (suc n) (suc i) = zeros n i

  pub table_new : Table key b 0 (replicate 4096 0)
  table_new = table_none (replicate 4096 0) (length-replicate {A = ℕ} 4096 0) (zeros 4096)

  -- ---- an entry whose key is not in the range

  -- v is such an entry
  abbrev pub Outside : ℕ → Type 0
  Outside v = (key v < b) ⊎ (b + span ≤ key v)

  not_in : (v : ℕ) → Outside v → in_span b (key v) ≡ false
  not_in v (inl l) = rw (lt-leb b (key v) l)
  not_in v (inr g) = rw (le-leb b (key v) (omega arith), le-ltb (key v) (b + span) g)

  pub fresh_outside : (v : ℕ) → Outside v → fresh_in key b v ≡ true
  fresh_outside v o = rw (not_in v o)

  other : (v k : ℕ) → k < span → Outside v → eqb (b + k) (key v) ≡ false
  other v k h o = ne_eqb (b + k) (key v) (λ e. apart (key v) e o)
    where
      apart : (x : ℕ) → b + k ≡ x → (x < b) ⊎ (b + span ≤ x) → ⊥
      apart x e (inl l) = omega arith
      apart x e (inr g) = omega arith

  pub table_passed : (v : ℕ) (table : List ℕ) → Table key b v table → Outside v → Table key b (v + 1) table
  table_passed v table t o = record {
    long = t.long;
    says = λ k h. t.says k h ∙ sym (some_next (λ (u : ℕ). eqb (b + k) (key u)) v ∙ ap (λ (x : Bool). x || seen key (b + k) v) (other v k h o));
  }

  -- ---- an entry whose key is the k-th of the range

  pub fresh_inside : (v k : ℕ) (table : List ℕ) → Table key b v table → k < span → key v ≡ b + k → fresh_in key b v ≡ not (bit_at table k)
  fresh_inside v k table t h e =
      rw (e, le-leb b (b + k) (omega arith), lt-ltb (b + k) (b + span) (omega arith)) (ap not (sym (t.says k h)))

  pub table_marked : (v k : ℕ) (table table' : List ℕ) → Table key b v table → k < span → key v ≡ b + k → Marked k table table' → Table key b (v + 1) table'
  table_marked v k table table' t h e m = record {
    long = m.as_long ∙ t.long;
    says = λ j l.
        m.bits j (rw t.long l)
        ∙ ap (λ (x : Bool). eqb j k || x) (t.says j l)
        ∙ ap (λ (x : Bool). x || seen key (b + j) v) (by_key j)
        ∙ sym (some_next (λ (u : ℕ). eqb (b + j) (key u)) v);
  }
    where
      by_key : (j : ℕ) → eqb j k ≡ eqb (b + j) (key v)
      by_key j =
          same_test (eqb j k) (eqb (b + j) (key v))
          (λ q. let r = eqb-true j k q in eq-eqb (b + j) (key v) (omega (arith, e, r)))
          (λ q. let r = eqb-true (b + j) (key v) q in eq-eqb j k (omega (arith, e, r)))

  -- ---- a pass over the entries

  pub passed_none : Passed key b 0 (replicate 4096 0)
  passed_none = record { new = holds_to_none (fresh_in key b); behind = table_new }

  module _ (v : ℕ) (table : List ℕ) (p : Passed key b v table) where
    pub passed_out : PlaceIn b (key v) None → Passed key b (v + 1) table
    passed_out o = record { new = holds_more (fresh_in key b) v p.new (fresh_outside v o); behind = table_passed v table p.behind o }

    pub passed_more : (k : ℕ) (table' : List ℕ) → PlaceIn b (key v) (Some k) → bit_at table k ≡ false → Marked k table table' → Passed key b (v + 1) table'
    passed_more k table' i n m = record {
      new = holds_more (fresh_in key b) v p.new (fresh_inside v k table p.behind i.0 i.1 ∙ ap not n);
      behind = table_marked v k table table' p.behind i.0 i.1 m;
    }

    pub passed_stops : (end k : ℕ) → v < end → PlaceIn b (key v) (Some k) → bit_at table k ≡ true → v ≡ leading (fresh_in key b) end
    passed_stops end k l i n = sym (leading_at (fresh_in key b) end v l p.new (fresh_inside v k table p.behind i.0 i.1 ∙ ap not n))

    pub passed_ends : v ≡ leading (fresh_in key b) v
    passed_ends = sym (leading_all (fresh_in key b) v p.new)

  -- entries that are all out of the range are passed at once
  pub passed_far : (end v : ℕ) (table : List ℕ) → v ≤ end → FarFrom key b v end → Passed key b v table → Passed key b end table
  passed_far end v table h f p = subst (λ (x : ℕ). Passed key b x table) (sum end v h) (far (end - v) (λ i g l. f i g (rw (sum end v h) at l)))
    where
      sum : (end v : ℕ) → v ≤ end → v + (end - v) ≡ end
      sum end v h = omega arith

      far : (d : ℕ) → FarFrom key b v (v + d) → Passed key b (v + d) table
      far zero f = rw (add-zero v) p
      far (suc d) f = rw (add-suc v d, ← add-one (v + d)) (passed_out (v + d) table (far d (λ i g l. f i g (omega arith))) (f (v + d) (omega arith) (omega arith)))
