-- All quads, in order: the links stay those of trees, vertices with one top are joined by a chain of quads and the vertices of a quad have one top, and
-- no search was long.
-- Assumes nothing.
use Prim.Native.Nat.{ℕ, zero, suc, ◌+◌, ◌*◌, ◌≤◌, ◌<◌}
use mathlib.Core.Path.{◌≡◌, refl, ap, sym, ◌∙◌, subst}
use mathlib.Core.Logic.{◌⊎◌, inl, inr}
use mathlib.Core.List.{List}
use native.Mathlib.Nat.{add-zero}
use native.Mathlib.Numerals.{add-one}
use native.Mathlib.Omega.{arith}
use lib.ListN.{length}
use Rattle.laws.proofs.Over.{each_length, each_at}
use Rattle.laws.proofs.Tests.{lt_or_ge}
use Rattle.trees.specs.Forest.{State, at, top_of, begin, join, join_quad, after}
use Rattle.trees.specs.Steps.{stored, Standing}
use Rattle.trees.proofs.Trees.{start, settled}
use Rattle.trees.proofs.Joins.{Stands, top, Merged, same, there, back, Next, join_next, Short, join_short}
use Rattle.pieces.specs.Chains.{VertexOf, Chain, none, one, more, PieceOf}
use Rattle.pieces.specs.Rules.{AllBelow}
use Rattle.pieces.specs.Steps.{low}
use Rattle.pieces.proofs.Chains.{turn}
use Rattle.pieces.proofs.Lowest.{low_le, low_lt, low_root}

pub after_next : (n : ℕ) (quads : List ℕ) (m : ℕ)
    → after n quads (m + 1) ≡ join_quad n (at quads (4 * m)) (at quads (4 * m + 1)) (at quads (4 * m + 2)) (at quads (4 * m + 3)) (after n quads m)
unfolding after
after_next n quads m = ap (after n quads) (add-one m)

pub after_none : (n : ℕ) (quads : List ℕ) → after n quads 0 ≡ begin n
unfolding after
after_none n quads = refl

module _ (n : ℕ) (few : n < 4294967296) where
  begin_stands : Stands n (begin n)
  begin_stands = record {
    up_length = each_length (λ (v : ℕ). v) n;
    size_length = each_length (λ (v : ℕ). 1) n;
    few = few;
    trees = settled (start n (at (begin n).up) (at (begin n).size) (λ v h. each_at (λ (v : ℕ). v) n v 0 h) (λ v h. each_at (λ (v : ℕ). 1) n v 0 h));
  }

  -- at first each vertex is its own top
  begin_top : (v : ℕ) → v < n → top_of (at (begin n).up) n v ≡ v
  begin_top v h = (begin_stands.trees.stay v h (each_at (λ (v : ℕ). v) n v 0 h)).0

  module _ (quads : List ℕ) (below : AllBelow n quads) where
    pub vertex_lt : (q v : ℕ) → VertexOf quads q v → v < n
    vertex_lt q v c = subst (λ (x : ℕ). x < n) c.is (below (4 * q + c.place) (omega (arith, c.there, c.place_lt)))

    -- vertices with one top are joined by a chain
    abbrev pub Sound : State → Type 0
    Sound st = (x y : ℕ) → x < n → y < n → top n st x ≡ top n st y → Chain quads x y

    -- they still are after a join of two vertices that are
    sound_next : {st st' : State} {v w : ℕ} → v < n → w < n → Next n st st' v w → Chain quads v w → Sound st → Sound st'
    sound_next {st} {st'} {v} {w} hv hw N j s x y hx hy e = go (N.only x y hx hy e)
      where
        go : Merged (top n st) v w x y → Chain quads x y
        go (same p) = s x y hx hy p
        go (there p q) = more (s x v hx hv p) (more j (s w y hw hy (sym q)))
        go (back p q) = more (s x w hx hw p) (more (turn j) (s v y hv hy (sym q)))

    -- the first m quads have joined their vertices
    pub record Joined (m : ℕ) : Type 0 where
      pub stands : Stands n (after n quads m)
      pub sound : Sound (after n quads m)
      pub whole : (q v : ℕ) → q < m → VertexOf quads q v → top n (after n quads m) (at quads (4 * q)) ≡ top n (after n quads m) v
      pub short : 0 < n → Short n (after n quads m)

    -- quad m is joined to the vertices of those before it
    module _ (m : ℕ) (inside : 4 * m + 3 < length quads) (J : Joined m) where
      at_place : (i : ℕ) → i < 4 → at quads (4 * m + i) < n
      at_place i h = below _ (omega arith)

      at_first : at quads (4 * m) < n
      at_first = below _ (omega arith)

      first : VertexOf quads m (at quads (4 * m))
      first = record { place = 0; place_lt = omega arith; there = inside; is = ap (at quads) (add-zero (4 * m)) }

      chain : (i : ℕ) → i < 4 → Chain quads (at quads (4 * m)) (at quads (4 * m + i))
      chain i h = one m first (record { place = i; place_lt = h; there = inside; is = refl })

      abbrev s1 : State
      s1 = join n (at quads (4 * m)) (at quads (4 * m + 1)) (after n quads m)

      abbrev s2 : State
      s2 = join n (at quads (4 * m)) (at quads (4 * m + 2)) s1

      abbrev s3 : State
      s3 = join n (at quads (4 * m)) (at quads (4 * m + 3)) s2

      N1 : Next n (after n quads m) s1 (at quads (4 * m)) (at quads (4 * m + 1))
      N1 = join_next n _ J.stands _ _ at_first (at_place 1 (omega arith))

      N2 : Next n s1 s2 (at quads (4 * m)) (at quads (4 * m + 2))
      N2 = join_next n _ N1.stands _ _ at_first (at_place 2 (omega arith))

      N3 : Next n s2 s3 (at quads (4 * m)) (at quads (4 * m + 3))
      N3 = join_next n _ N2.stands _ _ at_first (at_place 3 (omega arith))

      kept : (x y : ℕ) → x < n → y < n → top n (after n quads m) x ≡ top n (after n quads m) y → top n s3 x ≡ top n s3 y
      kept x y hx hy e = N3.keep x y hx hy (N2.keep x y hx hy (N1.keep x y hx hy e))

      -- the four vertices of quad m have one top
      fresh : (v : ℕ) → VertexOf quads m v → top n s3 (at quads (4 * m)) ≡ top n s3 v
      fresh v c = go c.place c.place_lt c.is
        where
          go : (i : ℕ) → i < 4 → at quads (4 * m + i) ≡ v → top n s3 (at quads (4 * m)) ≡ top n s3 v
          go zero h e = ap (top n s3) (ap (at quads) (sym (add-zero (4 * m))) ∙ e)
          go (suc zero) h e = N3.keep _ _ at_first (at_place 1 (omega arith)) (N2.keep _ _ at_first (at_place 1 (omega arith)) N1.done) ∙ ap (top n s3) e
          go (suc (suc zero)) h e = N3.keep _ _ at_first (at_place 2 (omega arith)) N2.done ∙ ap (top n s3) e
          go (suc (suc (suc zero))) h e = N3.done ∙ ap (top n s3) e
          go (suc (suc (suc (suc i)))) h e = absurd (omega arith)

      whole_next : (q v : ℕ) → q < suc m → VertexOf quads q v → top n s3 (at quads (4 * q)) ≡ top n s3 v
      whole_next q v l c = go (lt_or_ge q m)
        where
          go : (q < m) ⊎ (m ≤ q) → top n s3 (at quads (4 * q)) ≡ top n s3 v
          go (inl g) = kept _ _ (below (4 * q) (omega (arith, c.there))) (vertex_lt q v c) (J.whole q v g c)
          go (inr g) =
              let e : q ≡ m = omega arith in
              subst (λ (x : ℕ). top n s3 (at quads (4 * x)) ≡ top n s3 v) (sym e) (fresh v (subst (λ (x : ℕ). VertexOf quads x v) e c))

      joined_next : Joined (suc m)
      unfolding after
      joined_next = record {
        stands = N3.stands;
        sound =
            sound_next at_first (at_place 3 (omega arith)) N3 (chain 3 (omega arith))
            (sound_next at_first (at_place 2 (omega arith)) N2 (chain 2 (omega arith))
            (sound_next at_first (at_place 1 (omega arith)) N1 (chain 1 (omega arith)) J.sound));
        whole = whole_next;
        short = λ some.
            join_short n s2 N2.stands _ _ at_first (at_place 3 (omega arith))
            (join_short n s1 N1.stands _ _ at_first (at_place 2 (omega arith))
            (join_short n (after n quads m) J.stands _ _ at_first (at_place 1 (omega arith)) (J.short some)));
      }

    pub joined_to : (m : ℕ) → 4 * m ≤ length quads → Joined m
    unfolding after
    joined_to zero h = record {
      stands = begin_stands;
      sound = λ x y hx hy e. subst (λ (z : ℕ). Chain quads x z) (sym (begin_top x hx) ∙ e ∙ begin_top y hy) none;
      whole = λ q v l. absurd (omega arith);
      short = λ some. omega arith;
    }
    joined_to (suc m) h = joined_next m (omega arith) (joined_to m (omega arith))

    -- ---- what the last state says

    chain_inside : {v w : ℕ} → Chain quads v w → v < n → w < n
    chain_inside none h = h
    chain_inside (one q a b) h = vertex_lt q _ b
    chain_inside (more p q) h = chain_inside q (chain_inside p h)

    module _ (m : ℕ) (all : length quads ≡ 4 * m) (J : Joined m) where
      -- a chain's ends have one top
      complete : {x y : ℕ} → Chain quads x y → top n (after n quads m) x ≡ top n (after n quads m) y
      complete none = refl
      complete (one q a b) = sym (J.whole q _ (omega (arith, a.there)) a) ∙ J.whole q _ (omega (arith, b.there)) b
      complete (more p q) = complete p ∙ complete q

      -- the lowest vertex with the same top is the piece's number
      pub piece_is : (v : ℕ) → v < n → PieceOf quads v (low n (top n (after n quads m)) v)
      piece_is v h = record {
        together = J.sound v _ h (low_lt n (top n (after n quads m)) v h) (sym (low_root n (top n (after n quads m)) v h));
        lowest = λ w c. low_le n (top n (after n quads m)) v w (chain_inside c h) (sym (complete c));
      }

    -- ---- as the code finds it

    -- links and sizes after m quads: they are as many, and can be joined again
    pub ready_at : (m : ℕ) → 4 * m ≤ length quads → (up size : List ℕ) (longest : ℕ) → stored up size longest ≡ after n quads m
        → (length up ≡ n) × Standing (length up) up size
    ready_at m h up size longest e =
        let S : Standing n up size = subst (Stands n) (sym e) (joined_to m h).stands in
        (S.up_length, subst (λ (l : ℕ). Standing l up size) (sym S.up_length) S)

-- one quad more
pub after_more : (n : ℕ) (quads : List ℕ) (m l : ℕ) (st st' : State) → l ≡ n → st ≡ after n quads m
    → st' ≡ join_quad l (at quads (4 * m)) (at quads (4 * m + 1)) (at quads (4 * m + 2)) (at quads (4 * m + 3)) st
    → st' ≡ after n quads (m + 1)
after_more n quads m l st st' el e e' = e' ∙ rw (el, e) (sym (after_next n quads m))
