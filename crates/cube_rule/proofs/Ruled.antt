-- The loops of every sign pattern, however its faces are decided, keep THE RULE; so do the loops of every cube.
-- Assumes nothing.
use mathlib.Core.Path.{◌≡◌, refl, sym, ap, ◌∙◌, subst}
use mathlib.Core.Bool.{Bool, true, false, not, cond, ◌&&◌, ◌||◌, false≢true, or-true}
use mathlib.Core.Logic.{◌⊎◌, inl, inr, ⊎_elim}
use mathlib.Core.List.{List, [], ◌∷◌}
use Prim.Native.Nat.{ℕ, zero, suc, ◌+◌, ◌*◌, ◌^◌, ◌≤◌, ◌<◌}
use native.Mathlib.Omega.{arith}
use lib.Dec.{T, eqb, ltb, ltb→lt}
use lib.ListN.{length, get_or}
use borrow.Author.Tests.{eqb-true}
use Rattle.laws.specs.Bits.{bit, holds, differ}
use Rattle.laws.proofs.Bits.{holds_mask, both_or_none, holds_past}
use Rattle.laws.proofs.Tests.{both, left, right, cases, is_true, some, some_at, lt_or_ge}
use Rattle.cube_rule.specs.Edges.{crossed, crossed_mask}
use Rattle.cube_rule.specs.Faces.{ring_edge, ring_corner}
use Rattle.cube_rule.specs.Links.{next, ring_crossed, linked_on}
use Rattle.cube_rule.specs.Loops.{first_link, second_link, placed, links_of, loops_from, loops_in}
use Rattle.cube_rule.specs.Rule.{Alike, Loop, Rule}
use Rattle.cube_rule.proofs.Tables.{ring_edge_crossed}
use Rattle.cube_rule.proofs.Rising.{rising_order}
use Rattle.cube_rule.proofs.Rings.{linked_sets, first_lt, second_lt, one_link, placed_at, placed_from}
use Rattle.cube_rule.proofs.Trails.{has, links_on, linked, hangs_same}
use Rattle.cube_rule.proofs.Tested.{kept, kept_on, kept_or_not, good_loop, loop_sized, loop_kept, loop_hangs, good_each, good_loops, good_order}
use Rattle.cube_rule.specs.Sorts.{joined_on}
use Rattle.cube_rule.proofs.Ways.{sort_of, good_always}

module _ (p : ℕ) (j : ℕ → Bool) where
  -- ---- the twelve links are those of the faces, two for each

  abbrev first : ℕ → ℕ
  first f = first_link (holds p (ring_corner f 0)) (holds p (ring_corner f 1)) (holds p (ring_corner f 2)) (holds p (ring_corner f 3)) (j f)

  abbrev second : ℕ → ℕ
  second f = second_link (holds p (ring_corner f 0)) (holds p (ring_corner f 1)) (holds p (ring_corner f 2)) (holds p (ring_corner f 3)) (j f)

  first_small : (f : ℕ) → first f < 16
  first_small f = first_lt (holds p (ring_corner f 0)) (holds p (ring_corner f 1)) (holds p (ring_corner f 2)) (holds p (ring_corner f 3)) (j f)

  second_small : (f : ℕ) → second f < 16
  second_small f = second_lt (holds p (ring_corner f 0)) (holds p (ring_corner f 1)) (holds p (ring_corner f 2)) (holds p (ring_corner f 3)) (j f)

  slots : (f : ℕ) → f < 6 → (get_or (links_of p j) (2 * f) 0 ≡ placed f (first f)) × (get_or (links_of p j) (2 * f + 1) 0 ≡ placed f (second f))
  slots zero h = (refl, refl)
  slots (suc zero) h = (refl, refl)
  slots (suc (suc zero)) h = (refl, refl)
  slots (suc (suc (suc zero))) h = (refl, refl)
  slots (suc (suc (suc (suc zero)))) h = (refl, refl)
  slots (suc (suc (suc (suc (suc zero))))) h = (refl, refl)
  slots (suc (suc (suc (suc (suc (suc f)))))) h = absurd (omega arith)

  -- ---- two edges that are linked on a face are in one of its two sets

  linked_in : (f i k : ℕ) → f < 6 → i < 4 → k < 4 → linked_on (holds p) j f i k ≡ true
      → ((holds (first f) i ≡ true) × (holds (first f) k ≡ true)) ⊎ ((holds (second f) i ≡ true) × (holds (second f) k ≡ true))
  linked_in f i k hf hi hk e =
      split (eqb i k) (holds (first f) i) (holds (first f) k) (holds (second f) i) (holds (second f) k)
      (sym (linked_sets (holds p (ring_corner f 0)) (holds p (ring_corner f 1)) (holds p (ring_corner f 2)) (holds p (ring_corner f 3)) (j f) i k hi hk) ∙ e)
    where
      split : (x a b c d : Bool) → (not x && (a && b || c && d)) ≡ true → ((a ≡ true) × (b ≡ true)) ⊎ ((c ≡ true) × (d ≡ true))
      split true a b c d e = absurd (false≢true e)
      split false true true c d e = inl (refl, refl)
      split false true false true true e = inr (refl, refl)
      split false false b true true e = inr (refl, refl)
      split false true false true false e = absurd (false≢true e)
      split false true false false d e = absurd (false≢true e)
      split false false b true false e = absurd (false≢true e)
      split false false b false d e = absurd (false≢true e)

  -- so a set that has both ends of each link or neither is closed under links
  closed_of : (l : ℕ) → ((f : ℕ) → f < 6 → T (kept_on (links_of p j) l f)) → Alike p j (holds l)
  closed_of l kept_on f i k hf hi hk e =
      ⊎_elim (λ w. one (first f) (first_small f) (subst (λ (x : ℕ). T (kept l x)) s.0 (left (kept l (get_or (links_of p j) (2 * f) 0)) _ (kept_on f hf))) w)
      (λ w. one (second f) (second_small f) (subst (λ (x : ℕ). T (kept l x)) s.1 (right (kept l (get_or (links_of p j) (2 * f) 0)) _ (kept_on f hf))) w)
      (linked_in f i k hf hi hk e)
    where
      s : (get_or (links_of p j) (2 * f) 0 ≡ placed f (first f)) × (get_or (links_of p j) (2 * f + 1) 0 ≡ placed f (second f))
      s = slots f hf

      one : (m : ℕ) → m < 16 → T (kept l (placed f m)) → (holds m i ≡ true) × (holds m k ≡ true) → holds l (ring_edge f i) ≡ holds l (ring_edge f k)
      one m hm t w =
          both_or_none l (placed f m) (ring_edge f i) (ring_edge f k) (kept_or_not l (placed f m) t)
          (placed_at f m i hf hm hi ∙ w.0) (placed_at f m k hf hm hk ∙ w.1)

  -- ---- two edges of one of a face's two sets are linked, or the same: so what is the same at both ends of each link is the same at both

  same_from : (S : ℕ → Bool) → Alike p j S → (f i k : ℕ) → f < 6 → i < 4 → k < 4
      → ((holds (first f) i ≡ true) × (holds (first f) k ≡ true)) ⊎ ((holds (second f) i ≡ true) × (holds (second f) k ≡ true))
      → S (ring_edge f i) ≡ S (ring_edge f k)
  same_from S h f i k hf hi hk w = go (eqb i k) refl
    where
      joined : (x a b c d : Bool) → x ≡ false → ((a ≡ true) × (b ≡ true)) ⊎ ((c ≡ true) × (d ≡ true)) → (not x && (a && b || c && d)) ≡ true
      joined x a b c d e (inl w) = rw (e, w.0, w.1)
      joined x a b c d e (inr w) = rw (e, w.0, w.1) (or-true (a && b))

      go : (x : Bool) → eqb i k ≡ x → S (ring_edge f i) ≡ S (ring_edge f k)
      go true e = ap (λ (c : ℕ). S (ring_edge f c)) (eqb-true i k e)
      go false e =
          h f i k hf hi hk
          (linked_sets (holds p (ring_corner f 0)) (holds p (ring_corner f 1)) (holds p (ring_corner f 2)) (holds p (ring_corner f 3)) (j f) i k hi hk
          ∙ joined (eqb i k) (holds (first f) i) (holds (first f) k) (holds (second f) i) (holds (second f) k) e w)

  -- and along the sets
  same_along : (S : ℕ → Bool) → Alike p j S → (a b : ℕ) → T (linked (links_of p j) a b) → S a ≡ S b
  unfolding linked
  same_along S h a b t = go (some_at 6 (links_on (links_of p j) a b) (right (ltb b 12) _ u))
    where
      u : T (both (ltb b 12) (some 6 (links_on (links_of p j) a b)))
      u = right (ltb a 12) _ t

      ha : a < 12
      ha = ltb→lt a 12 (left (ltb a 12) _ t)

      hb : b < 12
      hb = ltb→lt b 12 (left (ltb b 12) _ u)

      ends : (f m : ℕ) → f < 6 → m < 16 → T (has (placed f m) a b)
          → ((i k : ℕ) → i < 4 → k < 4 → holds m i ≡ true → holds m k ≡ true → S (ring_edge f i) ≡ S (ring_edge f k)) → S a ≡ S b
      ends f m hf hm g from =
          let x = placed_from f m a hf hm ha (is_true _ (left (holds (placed f m) a) _ g)) in
          let y = placed_from f m b hf hm hb (is_true _ (right (holds (placed f m) a) (holds (placed f m) b) g)) in
          ap S x.2 ∙ from x.0 y.0 x.1 y.1 x.3 y.3 ∙ sym (ap S y.2)

      go : (f : ℕ) × (f < 6) × T (links_on (links_of p j) a b f) → S a ≡ S b
      go r =
          let f = r.0 in
          let s = slots f r.1 in
          ⊎_elim
          (λ (g : T (has (get_or (links_of p j) (2 * f) 0) a b)). ends f (first f) r.1 (first_small f) (subst (λ (x : ℕ). T (has x a b)) s.0 g) (λ i k hi hk x y. same_from S h f i k r.1 hi hk (inl (x, y))))
          (λ (g : T (has (get_or (links_of p j) (2 * f + 1) 0) a b)). ends f (second f) r.1 (second_small f) (subst (λ (x : ℕ). T (has x a b)) s.1 g) (λ i k hi hk x y. same_from S h f i k r.1 hi hk (inr (x, y))))
          (cases (has (get_or (links_of p j) (2 * f) 0) a b) (has (get_or (links_of p j) (2 * f + 1) 0) a b) r.2)

  -- ---- each loop

  edge_lt : (l e : ℕ) → l < 2 ^ 12 → holds l e ≡ true → e < 12
  edge_lt l e small h = ⊎_elim (λ (a : e < 12). a) (λ (g : 12 ≤ e). absurd (false≢true (sym (holds_past l 12 e small g) ∙ h))) (lt_or_ge e 12)

  loop_of : (l : ℕ) → T (good_loop (links_of p j) l) → Loop p j l
  loop_of l t =
      let s = loop_sized (links_of p j) l t in
      record {
        small = s.small;
        three = s.three;
        twelve = s.twelve;
        closed = closed_of l (loop_kept (links_of p j) l t);
        whole = λ S h a b x y. hangs_same (links_of p j) S (same_along S h) l _ (loop_hangs (links_of p j) l t) a b (edge_lt l a s.small x) (edge_lt l b s.small y) x y;
      }

  -- "Each crossed edge has one link on each of its two faces", and any other has none
  pub one_link_each : (f i : ℕ) → f < 6 → i < 4
      → bit (linked_on (holds p) j f i 0) + bit (linked_on (holds p) j f i 1) + bit (linked_on (holds p) j f i 2) + bit (linked_on (holds p) j f i 3)
      ≡ bit (crossed p (ring_edge f i))
  one_link_each f i hf hi =
      one_link (holds p (ring_corner f 0)) (holds p (ring_corner f 1)) (holds p (ring_corner f 2)) (holds p (ring_corner f 3)) (j f) i hi
      ∙ ap bit (ring_is i hi) ∙ ap bit (sym (ring_edge_crossed (holds p) f i hf hi))
    where
      ring_is : (i : ℕ) → i < 4
          → ring_crossed (holds p (ring_corner f 0)) (holds p (ring_corner f 1)) (holds p (ring_corner f 2)) (holds p (ring_corner f 3)) i
          ≡ differ (holds p (ring_corner f i)) (holds p (ring_corner f (next i)))
      ring_is zero h = refl
      ring_is (suc zero) h = refl
      ring_is (suc (suc zero)) h = refl
      ring_is (suc (suc (suc zero))) h = refl
      ring_is (suc (suc (suc (suc i)))) h = absurd (omega arith)

pub loops_four : (n : ℕ) (ls : List ℕ) (m : ℕ) → length (loops_from n ls m) ≤ n
unfolding loops_from
loops_four zero ls m = omega arith
loops_four (suc n) ls m = go (eqb m 0) _ _ (loops_four n ls _)
  where
    go : (b : Bool) (l : ℕ) (rest : List ℕ) → length rest ≤ n → length (cond b [] (l ∷ rest)) ≤ suc n
    go true l rest h = omega arith
    go false l rest h = omega arith

-- the mask of crossed edges holds just these
pub crossed_mask_lem : (p e : ℕ) → e < 12 → holds (crossed_mask p) e ≡ crossed p e
unfolding crossed_mask
crossed_mask_lem p e he = holds_mask (crossed p) 12 e he

-- every sign pattern, however its faces are decided
pub ruled : (p : ℕ) → p < 256 → (j : ℕ → Bool) → Rule p j (loops_in p j)
ruled p h j =
    let t = good_always p h j in
    record {
      each = λ e he. good_each (sort_of p (joined_on (holds p) j)) (crossed_mask p) (links_of p j) (loops_in p j) t e he ∙ ap bit (crossed_mask_lem p e he);
      loop = λ m d. loop_of p j m (good_loops (sort_of p (joined_on (holds p) j)) (crossed_mask p) (links_of p j) (loops_in p j) t m d);
      four = loops_four 4 (links_of p j) (crossed_mask p);
      order = rising_order (loops_in p j) (good_order (sort_of p (joined_on (holds p) j)) (crossed_mask p) (links_of p j) (loops_in p j) t);
    }
