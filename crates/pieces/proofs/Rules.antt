-- What makes the promise of `pieces` believable: one number exactly if a chain joins, sizes that sum to n, a vertex in no quad, a list without quads,
-- what the stored state says of tops and sizes, and the bound of the longest search.
-- Assumes nothing.
use Prim.Native.Nat.{ℕ, suc, ◌*◌, ◌/◌, ◌%◌, ◌^◌, ◌≤◌, ◌<◌}
use mathlib.Core.Path.{◌≡◌, refl, ap, sym, ◌∙◌, subst}
use mathlib.Core.Bool.{Bool, true, false}
use mathlib.Core.Logic.{◌↔◌, ◌⊎◌, inl, inr}
use mathlib.Core.List.{List, []}
use native.Mathlib.Nat.{not-suc-le-zero}
use native.Mathlib.Omega.{arith}
use lib.Dec.{eqb}
use lib.ListN.{length, get_or}
use lib.Pow.{pow_pos, pow_mono}
use borrow.Author.Tests.{eq-eqb, ne_eqb, eqb-true, eqb-false}
use Rattle.laws.specs.Counting.{count, total}
use Rattle.laws.proofs.Counting.{count_all, clear_count, count_same, count_this}
use Rattle.laws.proofs.Tests.{lt_or_ge}
use Rattle.trees.specs.Forest.{State, at, top_of, after, longest_search}
use Rattle.pieces.specs.Chains.{Chain, none, more}
use Rattle.pieces.specs.Answer.{Numbers, members, pieces_in}
use Rattle.pieces.specs.Rules.{AllBelow, InNoQuad, WholeLog}
use Rattle.pieces.proofs.Counts.{taken_once}
use Rattle.pieces.proofs.Chains.{turn, alone_chain}
use Rattle.pieces.proofs.Quads.{joined_to, after_none}
use Rattle.pieces.proofs.Fixed.{piece_fixed}

module _ {n : ℕ} {quads numbers : List ℕ} (N : Numbers n quads numbers) where
  -- a vertex's number is at most the vertex, so it is one of them
  pub number_le : (v : ℕ) → v < n → get_or numbers v 0 ≤ v
  number_le v h = (N.number v h).lowest v none

  -- two vertices have one number exactly if a chain of quads joins them
  pub together_exactly : (v w : ℕ) → v < n → w < n → (get_or numbers v 0 ≡ get_or numbers w 0) ↔ Chain quads v w
  together_exactly v w hv hw = (there, back)
    where
      there : get_or numbers v 0 ≡ get_or numbers w 0 → Chain quads v w
      there e = more (N.number v hv).together (subst (λ (p : ℕ). Chain quads p w) (sym e) (turn (N.number w hw).together))

      back : Chain quads v w → get_or numbers v 0 ≡ get_or numbers w 0
      back c = piece_fixed quads v _ _ (N.number v hv) (record { together = more c (N.number w hw).together; lowest = λ x d. (N.number w hw).lowest x (more (turn c) d) })

  -- the number of a piece is its own number
  pub number_of_number : (v : ℕ) → v < n → get_or numbers (get_or numbers v 0) 0 ≡ get_or numbers v 0
  number_of_number v h = (together_exactly (get_or numbers v 0) v (omega (arith, number_le v h, h)) h).1 (turn (N.number v h).together)

  -- "zero elsewhere": a vertex that is not its piece's number has size 0
  pub elsewhere_zero : (v : ℕ) → v < n → (get_or numbers v 0 ≡ v → ⊥) → members n numbers v ≡ 0
  elsewhere_zero v h ne = clear_count _ n (λ w hw. ne_eqb (get_or numbers w 0) v (λ e. ne (ap (λ (x : ℕ). get_or numbers x 0) (sym e) ∙ number_of_number w hw ∙ e)))

  -- the sizes sum to n
  pub sizes_sum : total (members n numbers) n ≡ n
  sizes_sum = taken_once (λ (v : ℕ). get_or numbers v 0) n n (λ v h. omega (arith, number_le v h, h))

  -- a vertex in no quad is a piece of its own, of one vertex
  pub alone_number : (v : ℕ) → v < n → InNoQuad quads v → get_or numbers v 0 ≡ v
  alone_number v h out = sym (alone_chain out (N.number v h).together)

  pub alone_size : (v : ℕ) → v < n → InNoQuad quads v → members n numbers v ≡ 1
  alone_size v h out = count_same _ (λ (w : ℕ). eqb w v) n (λ w hw. same w hw (eqb w v) refl) ∙ count_this n v h
    where
      same : (w : ℕ) → w < n → (c : Bool) → eqb w v ≡ c → eqb (get_or numbers w 0) v ≡ c
      same w hw true e = eq-eqb _ _ (ap (λ (x : ℕ). get_or numbers x 0) (eqb-true w v e) ∙ alone_number v h out)
      same w hw false e = ne_eqb _ _ (λ z. eqb-false w v e (sym (alone_chain out (turn (subst (Chain quads w) z (N.number w hw).together)))))

-- ---- without quads each vertex is a piece of its own, and no search is made

none_in_quads : (v : ℕ) → InNoQuad [] v
none_in_quads v q c = not-suc-le-zero c.there

module _ {n : ℕ} {numbers : List ℕ} (N : Numbers n [] numbers) where
  pub no_quads_number : (v : ℕ) → v < n → get_or numbers v 0 ≡ v
  no_quads_number v h = alone_number N v h (none_in_quads v)

  pub no_quads_size : (v : ℕ) → v < n → members n numbers v ≡ 1
  no_quads_size v h = alone_size N v h (none_in_quads v)

  pub no_quads_pieces : pieces_in n numbers ≡ n
  no_quads_pieces = count_all _ n (λ v h. eq-eqb (get_or numbers v 0) v (no_quads_number v h))

pub no_quads_longest : (n : ℕ) → longest_search n [] ≡ 0
no_quads_longest n = ap (λ (st : State). st.longest) (after_none n [])

-- ---- the longest search

-- "With n vertices, at least one, no search follows more links than the whole part of the base-two logarithm of n"
module _ (n : ℕ) (quads : List ℕ) (few : n < 4294967296) (whole : length quads % 4 ≡ 0) (below : AllBelow n quads) where
  pub longest_bound : 0 < n → 2 ^ longest_search n quads ≤ n
  longest_bound some = (joined_to n few quads below (length quads / 4) (omega arith)).short some

  -- the stored state after m quads: a search of n steps ends at a top, and the size of a top is how many vertices have it
  pub search_ends : (m : ℕ) → 4 * m ≤ length quads → (v : ℕ) → v < n
      → at (after n quads m).up (top_of (at (after n quads m).up) n v) ≡ top_of (at (after n quads m).up) n v
  search_ends m h v l = (joined_to n few quads below m h).stands.trees.tops v l

  pub size_of_top : (m : ℕ) → 4 * m ≤ length quads → (r : ℕ) → r < n → at (after n quads m).up r ≡ r
      → at (after n quads m).size r ≡ count (λ (v : ℕ). eqb (top_of (at (after n quads m).up) n v) r) n
  size_of_top m h r l e = (joined_to n few quads below m h).stands.trees.counted r l e

  pub longest_log : (k : ℕ) → WholeLog n k → longest_search n quads ≤ k
  longest_log k w = go (lt_or_ge k (longest_search n quads))
    where
      reached : 2 ^ longest_search n quads ≤ n
      reached = longest_bound (omega (arith, w.reaches, pow_pos k))

      go : (k < longest_search n quads) ⊎ (longest_search n quads ≤ k) → longest_search n quads ≤ k
      go (inl g) = absurd (omega (arith, pow_mono {i = suc k} {j = longest_search n quads} g, w.no_more, reached))
      go (inr g) = g
