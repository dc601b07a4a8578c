-- The loops of a cube of samples keep THE RULE, and so the laws by which the layers above know them, for every decider.
-- Assumes nothing.
use mathlib.Core.Path.{◌≡◌, refl, ap, ap₂, ◌∙◌}
use mathlib.Core.Bool.{Bool, true, false, cond}
use mathlib.Core.List.{List, [], ◌∷◌, Memᴰ}
use Prim.Native.Nat.{ℕ, suc, ◌<◌}
use native.Mathlib.Omega.{arith}
use lib.Dec.{T}
use lib.ListN.{length}
use Rattle.laws.specs.Bits.{bit, differ, holds}
use Rattle.laws.proofs.Bits.{mask_lt, mask_none, holds_mask}
use Rattle.block.specs.declared.Cut.{Cut}
use Rattle.block.specs.Grey.{positive}
use Rattle.block.specs.Rows.{lowest}
use Rattle.cube_rule.specs.Edges.{corner_sample, lower, upper, pattern_of, crossed, crossed_mask, crossed_at}
use Rattle.cube_rule.specs.Faces.{ring_edge, ring_corner}
use Rattle.cube_rule.specs.Links.{linked_on, linked_at, Decider, decisions}
use Rattle.cube_rule.specs.Loops.{links_of, loops_from, loops_by}
use Rattle.cube_rule.specs.Rule.{first_holder, Rule}
use Rattle.cube_rule.specs.Laws.{CubeLaws}
use Rattle.cube_rule.specs.Plain.{mixed, plain}
use Rattle.cube_rule.specs.Sorts.{joined_on, one, two}
use Rattle.cube_rule.proofs.Tables.{lower_lt, upper_lt, ring_corner_lt}
use Rattle.cube_rule.proofs.Tested.{lasts, good, good_one, good_two, good_some, good_lasts}
use Rattle.cube_rule.proofs.Ways.{sort_of, good_always}
use Rattle.cube_rule.proofs.Ruled.{ruled}
use Rattle.cube_rule.proofs.Unique.{rule_unique}

module _ (cut : Cut) (cs : List ℕ) where
  pub pattern_lt : pattern_of cut cs < 256
  unfolding pattern_of
  pattern_lt = mask_lt (λ (c : ℕ). positive cut (corner_sample cs c)) 8

  -- the pattern has the samples' signs
  pub pattern_sign : (c : ℕ) → c < 8 → holds (pattern_of cut cs) c ≡ positive cut (corner_sample cs c)
  unfolding pattern_of
  pattern_sign c h = holds_mask (λ (c : ℕ). positive cut (corner_sample cs c)) 8 c h

  pub pattern_crossed : (e : ℕ) → e < 12 → crossed (pattern_of cut cs) e ≡ crossed_at cut cs e
  pattern_crossed e h = ap₂ differ (pattern_sign (lower e) (lower_lt e h)) (pattern_sign (upper e) (upper_lt e h))

  pub mask_crossed : (e : ℕ) → e < 12 → holds (crossed_mask (pattern_of cut cs)) e ≡ crossed_at cut cs e
  unfolding crossed_mask
  mask_crossed e h = holds_mask (crossed (pattern_of cut cs)) 12 e h ∙ pattern_crossed e h

module _ (D : Decider) (cut : Cut) (cs : List ℕ) where
  -- the loops of a cube keep the rule
  pub cube_ruled : Rule (pattern_of cut cs) (decisions D cut cs) (loops_by D cut cs)
  unfolding loops_by
  cube_ruled = ruled (pattern_of cut cs) (pattern_lt cut cs) (decisions D cut cs)

  -- and any masks that keep it are these
  pub cube_unique : (ms : List ℕ) → Rule (pattern_of cut cs) (decisions D cut cs) ms → ms ≡ loops_by D cut cs
  unfolding loops_by
  cube_unique ms r = rule_unique (pattern_of cut cs) (pattern_lt cut cs) (decisions D cut cs) ms r

  -- its links are those of its faces' samples
  pub linked_is : (f i k : ℕ) → f < 6 → linked_on (holds (pattern_of cut cs)) (decisions D cut cs) f i k ≡ linked_at D cut cs f i k
  linked_is f i k hf =
      let s : (c : ℕ) → c < 4 → holds (pattern_of cut cs) (ring_corner f c) ≡ positive cut (corner_sample cs (ring_corner f c)) = λ c h. pattern_sign cut cs (ring_corner f c) (ring_corner_lt f c hf h) in
      rw (s 0 (omega arith), s 1 (omega arith), s 2 (omega arith), s 3 (omega arith))

-- two edges that each mask holds alike have the same first holder
holder_same : (a b : ℕ) (ms : List ℕ) → ((m : ℕ) → Memᴰ m ms → holds m a ≡ holds m b) → first_holder a ms ≡ first_holder b ms
unfolding lowest
holder_same a b [] h = refl
holder_same a b (m ∷ ms) h =
    ap₂ (λ (x : Bool) (n : ℕ). cond x 0 (suc n)) (h m (Memᴰ.head refl)) (holder_same a b ms (λ n d. h n (Memᴰ.tail d)))

pub differ_self : (a b s : Bool) → a ≡ s → b ≡ s → differ a b ≡ false
differ_self a b true p q = rw (p, q)
differ_self a b false p q = rw (p, q)

no_loops : (ls : List ℕ) (m : ℕ) → m ≡ 0 → loops_from 4 ls m ≡ []
unfolding loops_from
no_loops ls m e = rw e

-- a plain cube is one with exactly one loop
plain_one : (s j : ℕ → Bool) → plain s ≡ true → one s j ≡ true
unfolding one
plain_one s j e = rw e

module _ (D : Decider) where
  quiet : (cut : Cut) (cs : List ℕ) (s : Bool) → ((c : ℕ) → c < 8 → positive cut (corner_sample cs c) ≡ s) → loops_by D cut cs ≡ []
  unfolding loops_by crossed_mask
  quiet cut cs s h =
      no_loops (links_of (pattern_of cut cs) (decisions D cut cs)) (crossed_mask (pattern_of cut cs))
      (mask_none (crossed (pattern_of cut cs)) 12
      (λ e he. pattern_crossed cut cs e he ∙ differ_self _ _ s (h (lower e) (lower_lt e he)) (h (upper e) (upper_lt e he))))

  module _ (cut : Cut) (cs : List ℕ) where
    abbrev pattern : ℕ
    pattern = pattern_of cut cs

    -- the doubtful faces with joined positive corners
    abbrev joins : ℕ → Bool
    joins = joined_on (holds pattern) (decisions D cut cs)

    tested : T (good (sort_of pattern joins) (crossed_mask pattern) (links_of pattern (decisions D cut cs)) (loops_by D cut cs))
    unfolding loops_by
    tested = good_always pattern (pattern_lt cut cs) (decisions D cut cs)

    -- a cube with exactly one loop, by the tests: its mask is that of all crossed edges
    pub cube_one : one (holds pattern) joins ≡ true → loops_by D cut cs ≡ crossed_mask pattern ∷ []
    unfolding sort_of
    cube_one = good_one (sort_of pattern joins) (crossed_mask pattern) (links_of pattern (decisions D cut cs)) (loops_by D cut cs) tested

    -- one with exactly two
    pub cube_two : two (holds pattern) joins ≡ true → length (loops_by D cut cs) ≡ 2
    unfolding sort_of
    cube_two = good_two (sort_of pattern joins) (crossed_mask pattern) (links_of pattern (decisions D cut cs)) (loops_by D cut cs) tested

    -- one with any
    pub cube_some : mixed (holds pattern) ≡ true → 0 < length (loops_by D cut cs)
    unfolding sort_of
    cube_some = good_some (sort_of pattern joins) (crossed_mask pattern) (links_of pattern (decisions D cut cs)) (loops_by D cut cs) tested

    cube_single : plain (holds pattern) ≡ true → loops_by D cut cs ≡ crossed_mask pattern ∷ []
    cube_single e = cube_one (plain_one (holds pattern) joins e)

    -- where at most five edges are left, they are the next loop
    pub cube_lasts : T (lasts (crossed_mask pattern) (loops_by D cut cs))
    cube_lasts = good_lasts (sort_of pattern joins) (crossed_mask pattern) (links_of pattern (decisions D cut cs)) (loops_by D cut cs) tested

  pub cube_laws : CubeLaws D (loops_by D)
  cube_laws = record {
    each = λ cut cs e he. (cube_ruled D cut cs).each e he ∙ ap bit (pattern_crossed cut cs e he);
    linked = λ cut cs f i k hf hi hk e.
        holder_same (ring_edge f i) (ring_edge f k) (loops_by D cut cs) (λ m d. ((cube_ruled D cut cs).loop m d).closed f i k hf hi hk (linked_is D cut cs f i k hf ∙ e));
    sized = λ cut cs m d. let l = (cube_ruled D cut cs).loop m d in (l.three, l.twelve, l.small);
    four = λ cut cs. (cube_ruled D cut cs).four;
    quiet = quiet;
    some = cube_some;
    single = cube_single;
  }
