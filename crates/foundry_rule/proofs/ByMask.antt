-- Whether a word is that of a loop of a cube, by the masks alone, as code looks at it: what is left of the word without the mark is compared with four places that hold
-- the masks and zeros behind them. Where the cube has one loop there is one comparison, and where no edge is crossed there is none.
-- Assumes nothing.
use Prim.Native.Nat.{ℕ, ◌+◌, ◌-◌, ◌<◌, ◌≤◌}
use mathlib.Core.Path.{◌≡◌, refl, sym, ap, ◌∙◌, subst}
use mathlib.Core.Bool.{Bool, true, false, ◌||◌, or-false}
use mathlib.Core.List.{List, [], ◌∷◌, map, Memᴰ}
use native.Mathlib.Omega.{arith}
use borrow.Author.Tests.{eqb-true, eq-eqb, ne_eqb}
use lib.Count.{ones, count_trailing_zeros}
use lib.Dec.{T, eqb}
use lib.ListN.{length, get_or}
use Rattle.laws.specs.Bits.{bit, holds}
use Rattle.laws.specs.Filled.{filled}
use Rattle.laws.proofs.Bits.{mask_lt}
use Rattle.laws.proofs.Filled.{filled_at, mem_at}
use Rattle.block.specs.declared.Cut.{Cut}
use Rattle.cube_rule.specs.Decider.{joined, loops_of}
use Rattle.cube_rule.specs.Edges.{pattern_of, crossed, crossed_mask}
use Rattle.cube_rule.specs.Links.{decisions}
use Rattle.cube_rule.specs.Loops.{links_of, loops_from, loops_by}
use Rattle.cube_rule.specs.Rule.{holders}
use Rattle.cube_rule.proofs.Laws.{cube_laws, cube_lasts, mask_crossed}
use Rattle.cube_rule.proofs.Tested.{lasts, lasts_now}
use Rattle.cell.specs.Answer.{mark_of, word_of}
use Rattle.foundry_rule.specs.Spots.{among}
use Rattle.foundry_rule.proofs.Firsts.{same_test, not_so}
use Rattle.foundry_rule.proofs.Known.{lowest_in, loop_sized, among_at}

-- ---- four places

-- m stands in one of the first four places
abbrev pub in_four : ℕ → List ℕ → Bool
in_four m masks = eqb m (get_or masks 0 0) || eqb m (get_or masks 1 0) || eqb m (get_or masks 2 0) || eqb m (get_or masks 3 0)

or_four : (a b c d : Bool) → (a || (b || (c || (d || false)))) ≡ (a || b || c || d)
or_four true b c d = refl
or_four false true c d = refl
or_four false false true d = refl
or_four false false false d = or-false d

module _ (k w : ℕ) (h : k < w) where
  without : (a : ℕ) → eqb w (a + k) ≡ eqb (w - k) a
  without a =
      same_test (eqb w (a + k)) (eqb (w - k) a)
      (λ e. let q = eqb-true w (a + k) e in eq-eqb (w - k) a (omega (arith, q)))
      (λ e. let q = eqb-true (w - k) a e in eq-eqb w (a + k) (omega (arith, q, h)))

  not_empty : eqb (w - k) 0 ≡ false
  not_empty = ne_eqb (w - k) 0 (λ e. omega (arith, e, h))

  -- at most four numbers, each with k on it
  by_four : (ms : List ℕ) → length ms ≤ 4 → among w (map (λ (m : ℕ). m + k) ms) ≡ in_four (w - k) ms
  unfolding among
  by_four [] l = rw not_empty
  by_four (a ∷ []) l = rw (not_empty, without a) (or_four (eqb (w - k) a) false false false)
  by_four (a ∷ b ∷ []) l = rw (not_empty, without a, without b) (or_four (eqb (w - k) a) (eqb (w - k) b) false false)
  by_four (a ∷ b ∷ c ∷ []) l = rw (not_empty, without a, without b, without c) (or_four (eqb (w - k) a) (eqb (w - k) b) (eqb (w - k) c) false)
  by_four (a ∷ b ∷ c ∷ d ∷ []) l = rw (without a, without b, without c, without d) (or_four (eqb (w - k) a) (eqb (w - k) b) (eqb (w - k) c) (eqb (w - k) d))
  by_four (a ∷ b ∷ c ∷ d ∷ e ∷ ms) l = absurd (omega arith)

-- ---- a cube and a word

module _ (cut : Cut) (corners : List ℕ) where
  -- a word above the mark, by the four places
  pub among_by_masks : (w : ℕ) → mark_of corners < w
      → among w (map (word_of corners) (loops_of cut corners)) ≡ in_four (w - mark_of corners) (filled 4 0 (loops_of cut corners))
  among_by_masks w h =
      by_four (mark_of corners) w h (loops_of cut corners) ((cube_laws joined).four cut corners)
      ∙ sym (rw (filled_at 4 0 (loops_of cut corners) 0, filled_at 4 0 (loops_of cut corners) 1, filled_at 4 0 (loops_of cut corners) 2, filled_at 4 0 (loops_of cut corners) 3))

  -- a word with no edge, or without the mark, is none
  pub among_low : (w : ℕ) → w ≤ mark_of corners → among w (map (word_of corners) (loops_of cut corners)) ≡ false
  among_low w h =
      not_so (among w (map (word_of corners) (loops_of cut corners))) (λ e.
      let p = among_at (word_of corners) w (loops_of cut corners) e in
      above w (get_or (loops_of cut corners) p.0 0) (mark_of corners) h (loop_sized cut corners _ (mem_at (loops_of cut corners) p.0 p.1)).0 p.2)
    where
      above : (w m k : ℕ) → w ≤ k → 0 < m → w ≡ m + k → ⊥
      above w m k h p e = omega arith

-- ---- no edge is crossed

none_from : (ls : List ℕ) (m : ℕ) → m ≡ 0 → loops_from 4 ls m ≡ []
unfolding loops_from
none_from ls m e = rw e

module _ (cut : Cut) (corners : List ℕ) where
  -- all crossed edges of the cube
  abbrev all : ℕ
  all = crossed_mask (pattern_of cut corners)

  pub quiet_loops : all ≡ 0 → loops_of cut corners ≡ []
  unfolding loops_by
  quiet_loops e = none_from (links_of (pattern_of cut corners) (decisions joined cut corners)) all e

  -- ---- at most five edges are crossed: they are one loop

  pub crossed_lt : all < 4096
  unfolding crossed_mask
  crossed_lt = mask_lt (crossed (pattern_of cut corners)) 12

  -- an edge is in one loop if it is crossed, else in none
  held_once : (e : ℕ) → e < 12 → holders e (loops_of cut corners) ≡ bit (holds all e)
  held_once e h = (cube_laws joined).each cut corners e h ∙ ap bit (sym (mask_crossed cut corners e h))

  -- where an edge is crossed there is a loop
  not_none : 0 < all → loops_of cut corners ≡ [] → ⊥
  not_none p e =
      let l = lowest_in all p crossed_lt in
      clash (ap (holders (count_trailing_zeros 32 all)) (sym e) ∙ held_once (count_trailing_zeros 32 all) l.0 ∙ ap bit l.1)
    where
      clash : ◌≡◌ {A = ℕ} 0 1 → ⊥
      clash e = omega arith

  -- a loop of all crossed edges has no other behind it: that one would share an edge with it
  not_second : (k : ℕ) (ms : List ℕ) → loops_of cut corners ≡ all ∷ k ∷ ms → ⊥
  not_second k ms e =
      let z = loop_sized cut corners k (subst (Memᴰ k) (sym e) (Memᴰ.tail (Memᴰ.head refl))) in
      let l = lowest_in k z.0 z.1 in
      let t = count_trailing_zeros 32 k in
      twice (bit (holds all t)) (bit (holds k t)) (holders t ms) (ap (holders t) (sym e) ∙ held_once t l.0) (ap bit l.1)
    where
      twice : (a b c : ℕ) → a + (b + c) ≡ a → b ≡ 1 → ⊥
      twice a b c p q = omega arith

  -- the first loop has them all, since two loops have six
  first_all : ones all ≤ 5 → (m : ℕ) (ms : List ℕ) → loops_of cut corners ≡ m ∷ ms → m ≡ all
  first_all h m ms e = sym (lasts_now all m ms (subst (λ (ms : List ℕ). T (lasts all ms)) e (cube_lasts joined cut corners)) h)

  pub few_edges : ones all ≤ 5 → 0 < all → loops_of cut corners ≡ all ∷ []
  few_edges h p = go (loops_of cut corners) refl
    where
      go : (ms : List ℕ) → loops_of cut corners ≡ ms → ms ≡ all ∷ []
      go [] e = absurd (not_none p e)
      go (m ∷ []) e = ap (λ (x : ℕ). x ∷ []) (first_all h m [] e)
      go (m ∷ k ∷ ms) e = absurd (not_second k ms (e ∙ ap (λ (x : ℕ). x ∷ k ∷ ms) (first_all h m (k ∷ ms) e)))
