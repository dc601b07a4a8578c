-- The links and sizes while pieces get their numbers, as lists: what one vertex more does to them, where a search ends, and what they are at last.
-- Assumes nothing.
use Prim.Native.Nat.{ℕ, ◌+◌, ◌≤◌, ◌<◌}
use mathlib.Core.Path.{◌≡◌, ap, sym, ◌∙◌, subst}
use mathlib.Core.Bool.{Bool, true, false, not, cond}
use mathlib.Core.Logic.{◌⊎◌, inl, inr}
use mathlib.Core.List.{List}
use native.Mathlib.Omega.{arith}
use lib.Dec.{eqb, ltb}
use lib.ListN.{length, set, length-set}
use borrow.Author.Tests.{eq-eqb, ne_eqb, lt-ltb, le-ltb}
use Rattle.laws.specs.Bits.{bit}
use Rattle.laws.specs.Counting.{count}
use Rattle.laws.proofs.Counting.{count_none, count_next}
use Rattle.laws.proofs.Tests.{lt_or_ge}
use Rattle.trees.specs.Forest.{at, top_of}
use Rattle.trees.specs.Steps.{Ends, Standing}
use Rattle.trees.proofs.Searches.{nearer_by, ends_at}
use Rattle.trees.proofs.Stored.{set_as}
use Rattle.pieces.specs.Steps.{NumberedTo, NumberedOne, Numbered, low}
use Rattle.pieces.proofs.Renumber.{up_at, top_at, size_at, left, left_few, stops, goes, falls, was_numbered, not_numbered, numbered_up, numbered_size, old_top, size_there, lowest_up, lowest_size, first_up, first_size, last_up, last_size}

-- ---- as the code stores it

-- the piece has its number already
pub numbered_one : (up size : List ℕ) (v t : ℕ) → t ≡ top_of (at up) (length up) v → t < v → NumberedOne v up size (set up v t) size 0
numbered_one up size v t e h = subst (λ (x : ℕ). NumberedTo x v up size (set up v t) size 0) e (record { links = rw is; sizes = rw is; fresh = rw is })
  where
    is : ltb t v ≡ true
    is = lt-ltb t v h

-- v is its lowest vertex
pub lowest_one : (up size : List ℕ) (v t : ℕ) → t ≡ top_of (at up) (length up) v → v ≤ t → NumberedOne v up size (set (set up t v) v v) (set (set size t 0) v (at size t)) 1
lowest_one up size v t e h = subst (λ (x : ℕ). NumberedTo x v up size (set (set up t v) v v) (set (set size t 0) v (at size t)) 1) e (record { links = rw is; sizes = rw is; fresh = rw is })
  where
    is : ltb t v ≡ false
    is = le-ltb t v h

-- ---- before vertex v

-- by the links and sizes before the first; so many pieces have their number
pub record Midway (n v : ℕ) (up₀ size₀ up size : List ℕ) (pieces : ℕ) : Type 0 where
  pub up_length : length up ≡ n
  pub size_length : length size ≡ n
  pub links : (u : ℕ) → u < n → at up u ≡ up_at n (at up₀) (top_of (at up₀) n) v u
  pub sizes : (u : ℕ) → u < n → at size u ≡ size_at n (at size₀) (top_of (at up₀) n) v u
  pub found : pieces ≡ count (λ (u : ℕ). eqb (low n (top_of (at up₀) n) u) u) v

module _ (n : ℕ) (up₀ size₀ : List ℕ) (S : Standing n up₀ size₀) where
  abbrev root : ℕ → ℕ
  root = top_of (at up₀) n

  pub midway_first : Midway n 0 up₀ size₀ up₀ size₀ 0
  midway_first = record {
    up_length = S.up_length;
    size_length = S.size_length;
    links = first_up S.trees;
    sizes = first_size S.trees;
    found = sym (count_none _);
  }

  pub midway_last : (up size : List ℕ) (pieces : ℕ) → Midway n n up₀ size₀ up size pieces → Numbered n up₀ up size pieces
  midway_last up size pieces M = record {
    up_length = M.up_length;
    size_length = M.size_length;
    number = λ v h. M.links v h ∙ last_up S.trees v h;
    sizes = λ v h. M.sizes v h ∙ last_size S.trees v h;
    pieces = M.found;
  }

  module _ (v : ℕ) (up size : List ℕ) (pieces : ℕ) (M : Midway n v up₀ size₀ up size pieces) where
    -- a link of the list is one of those that Renumber speaks of
    stays : (x : ℕ) → x < n → (at up x ≡ x → ⊥) → up_at n (at up₀) root v x ≡ x → ⊥
    stays x l ne e = ne (M.links x l ∙ e)

    onward : (x : ℕ) → x < n → (at up x ≡ x → ⊥) → (at up x < n) × (left S.trees v (at up x) < left S.trees v x)
    onward x l ne = rw (M.links x l) ((goes S.trees v x l (stays x l ne)).0, falls S.trees v x l (stays x l ne))

    pub midway_ends : Ends n up
    midway_ends = record { long = M.up_length; few = S.few; nearer = nearer_by n (at up) (left S.trees v) onward (left_few S.trees v) }

    pub midway_top : v < n → top_of (at up) n v ≡ top_at n root v v
    midway_top hv =
        ends_at n (at up) (left S.trees v) onward (top_at n root v)
        (λ x l e. stops S.trees v x l (sym (M.links x l) ∙ e))
        (λ x l ne. rw (M.links x l) (goes S.trees v x l (stays x l ne)).1)
        n v hv (left_few S.trees v v hv)

    -- one vertex more
    module _ (hv : v < n) (t : ℕ) (is : t ≡ top_at n root v v) (up' size' : List ℕ) (r : ℕ) (N : NumberedTo t v up size up' size' r) where
      -- how many pieces have their number then
      one_more : (b : Bool) → eqb (low n root v) v ≡ b → r ≡ bit b → pieces + r ≡ count (λ (u : ℕ). eqb (low n root u) u) (v + 1)
      one_more b e er = omega (arith, M.found, er, count_next (λ (u : ℕ). eqb (low n root u) u) v, ap bit e)

      numbered : t < v → Midway n (v + 1) up₀ size₀ up' size' (pieces + r)
      numbered h = record {
        up_length = ap length eu ∙ length-set up v t ∙ M.up_length;
        size_length = ap length es ∙ M.size_length;
        links = λ u hu.
            ap (λ (l : List ℕ). at l u) eu
            ∙ (λ p. set_as up v t (rw M.up_length hv) p u)
            ∙ (λ p. cond (eqb u v) (is p) (M.links u hu p))
            ∙ numbered_up S.trees v hv below u hu;
        sizes = λ u hu. ap (λ (l : List ℕ). at l u) es ∙ M.sizes u hu ∙ numbered_size S.trees v hv below u hu;
        found = one_more false (ne_eqb (low n root v) v (λ e. omega (arith, e, below))) (N.fresh ∙ ap (λ (b : Bool). bit (not b)) c);
      }
        where
          c : ltb t v ≡ true
          c = lt-ltb t v h

          eu : up' ≡ set up v t
          eu = N.links ∙ ap (λ (b : Bool). cond b (set up v t) (set (set up t v) v v)) c

          es : size' ≡ size
          es = N.sizes ∙ ap (λ (b : Bool). cond b size (set (set size t 0) v (at size t))) c

          below : low n root v < v
          below = was_numbered S.trees v hv (subst (λ (x : ℕ). x < v) is h)

      lowest : v ≤ t → Midway n (v + 1) up₀ size₀ up' size' (pieces + r)
      lowest h = record {
        up_length = ap length eu ∙ length-set (set up t v) v v ∙ length-set up t v ∙ M.up_length;
        size_length = ap length es ∙ length-set (set size t 0) v (at size t) ∙ length-set size t 0 ∙ M.size_length;
        links = λ u hu.
            ap (λ (l : List ℕ). at l u) eu
            ∙ (λ p. set_as (set up t v) v v (rw (length-set up t v, M.up_length) hv) p u)
            ∙ (λ p. cond (eqb u v) v (set_as up t v (rw M.up_length ht) p u))
            ∙ (λ p. cond (eqb u v) v (cond (eqb u (at_root p)) v (M.links u hu p)))
            ∙ lowest_up S.trees v hv own u hu;
        sizes = λ u hu.
            ap (λ (l : List ℕ). at l u) es
            ∙ (λ p. set_as (set size t 0) v (at size t) (rw (length-set size t 0, M.size_length) hv) p u)
            ∙ (λ p. cond (eqb u v) (taken p) (set_as size t 0 (rw M.size_length ht) p u))
            ∙ (λ p. cond (eqb u v) (at size₀ (root v)) (cond (eqb u (at_root p)) 0 (M.sizes u hu p)))
            ∙ lowest_size S.trees v hv own u hu;
        found = one_more true (eq-eqb (low n root v) v own) (N.fresh ∙ ap (λ (b : Bool). bit (not b)) c);
      }
        where
          c : ltb t v ≡ false
          c = le-ltb t v h

          eu : up' ≡ set (set up t v) v v
          eu = N.links ∙ ap (λ (b : Bool). cond b (set up v t) (set (set up t v) v v)) c

          es : size' ≡ set (set size t 0) v (at size t)
          es = N.sizes ∙ ap (λ (b : Bool). cond b size (set (set size t 0) v (at size t))) c

          own : low n root v ≡ v
          own = not_numbered S.trees v hv (subst (λ (x : ℕ). v ≤ x) is h)

          at_root : t ≡ root v
          at_root = is ∙ old_top S.trees v hv own

          ht : t < n
          ht = rw at_root (S.trees.inside v hv)

          taken : at size t ≡ at size₀ (root v)
          taken = M.sizes t ht ∙ ap (size_at n (at size₀) root v) at_root ∙ size_there S.trees v hv own

      pub midway_next : Midway n (v + 1) up₀ size₀ up' size' (pieces + r)
      midway_next = go (lt_or_ge t v)
        where
          go : (t < v) ⊎ (v ≤ t) → Midway n (v + 1) up₀ size₀ up' size' (pieces + r)
          go (inl h) = numbered h
          go (inr h) = lowest h
