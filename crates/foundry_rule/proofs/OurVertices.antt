-- Our own vertices: their numbers rise along the list. The loops of a cube stand by their lowest edges, so no two have one mask, and the word of a loop has the place
-- of that loop; the vertices stand by cube, and in a cube by loop.
-- Assumes nothing.
use Prim.Native.Nat.{ℕ, zero, suc, ◌+◌, ◌*◌, ◌-◌, ◌≤◌, ◌<◌}
use mathlib.Core.Path.{◌≡◌, sym, ap, ap₂, ◌∙◌}
use mathlib.Core.Logic.{⊎_elim}
use mathlib.Core.List.{List}
use native.Mathlib.Omega.{arith}
use borrow.Author.Tests.{eq-eqb, ne_eqb, lt-ltb, lt-leb}
use lib.Count.{count_trailing_zeros}
use lib.ListN.{length, get_or}
use Rattle.laws.specs.Filled.{filled}
use Rattle.laws.proofs.Below.{split}
use Rattle.laws.proofs.Filled.{filled_at, mem_at}
use Rattle.laws.proofs.Tests.{lt_or_ge}
use Rattle.block.specs.declared.Cut.{Cut}
use Rattle.block.specs.declared.Size.{Size}
use Rattle.block.specs.Numbering.{cube_count}
use Rattle.cube_rule.specs.Decider.{joined, loops_of}
use Rattle.cube_rule.proofs.Laws.{cube_laws, cube_ruled}
use Rattle.cell.specs.Answer.{word_of, mark_of}
use Rattle.mesh_rule.specs.Buffers.{mesh_words}
use Rattle.mesh_rule.specs.Grid.{corners_of}
use Rattle.mesh_rule.specs.Mesh.{Vertex, cube_loops, vertices_of, vertices_before, vertices, vertex_of}
use Rattle.mesh_rule.proofs.Numbers.{one_for_each_loop, loop_stands, by_cube}
use Rattle.mesh_rule.proofs.Words.{words_at_lem}
use Rattle.foundry_rule.specs.Spots.{place_among, word_place, place_in, vertex_key}
use Rattle.foundry_rule.proofs.Known.{loop_sized}

-- ---- the place of a loop's word

-- a mask that stands in place p and in none before has this place
place_here : (m : ℕ) (masks : List ℕ) (p : ℕ) → p < 4 → m ≡ get_or masks p 0 → ((k : ℕ) → k < p → m ≡ get_or masks k 0 → ⊥) → place_among m masks ≡ p
place_here m masks zero h e f = rw (eq-eqb m (get_or masks 0 0) e)
place_here m masks (suc zero) h e f = rw (ne_eqb m (get_or masks 0 0) (f 0 (omega arith)), eq-eqb m (get_or masks 1 0) e)
place_here m masks (suc (suc zero)) h e f =
    rw (ne_eqb m (get_or masks 0 0) (f 0 (omega arith)), ne_eqb m (get_or masks 1 0) (f 1 (omega arith)), eq-eqb m (get_or masks 2 0) e)
place_here m masks (suc (suc (suc zero))) h e f =
    rw (
      ne_eqb m (get_or masks 0 0) (f 0 (omega arith)),
      ne_eqb m (get_or masks 1 0) (f 1 (omega arith)),
      ne_eqb m (get_or masks 2 0) (f 2 (omega arith)),
      eq-eqb m (get_or masks 3 0) e,
    )
place_here m masks (suc (suc (suc (suc p)))) h e f = absurd (omega arith)

module _ (cut : Cut) (corners : List ℕ) where
  abbrev loop : ℕ → ℕ
  loop k = get_or (loops_of cut corners) k 0

  -- a loop before another has another mask: its lowest edge is lower
  loops_apart : (k p : ℕ) → k < p → p < length (loops_of cut corners) → loop p ≡ loop k → ⊥
  loops_apart k p h l e = clash _ _ (ap (count_trailing_zeros 32) e) ((cube_ruled joined cut corners).order k p h l)
    where
      clash : (a b : ℕ) → a ≡ b → b < a → ⊥
      clash a b e h = omega arith

  -- a cube has four loops at most
  place_lt : (p : ℕ) → p < length (loops_of cut corners) → p < 4
  place_lt p h = omega (arith, (cube_laws joined).four cut corners)

  mask_place : (p : ℕ) → p < length (loops_of cut corners) → place_among (loop p) (filled 4 0 (loops_of cut corners)) ≡ p
  mask_place p h =
      place_here (loop p) (filled 4 0 (loops_of cut corners)) p (place_lt p h) (sym (filled_at 4 0 (loops_of cut corners) p))
      (λ k l e. loops_apart k p l h (e ∙ filled_at 4 0 (loops_of cut corners) k))

  -- so the word of loop p has the place p
  word_place_lem : (p : ℕ) → p < length (loops_of cut corners) → word_place cut corners (word_of corners (loop p)) ≡ p
  unfolding word_place
  word_place_lem p h =
      rw (lt-leb (word_of corners (loop p)) (mark_of corners) (above (loop p) (mark_of corners) (loop_sized cut corners (loop p) (mem_at (loops_of cut corners) p h)).0))
      (ap (λ (m : ℕ). place_among m (filled 4 0 (loops_of cut corners))) (without (loop p) (mark_of corners)) ∙ mask_place p h)
    where
      above : (m k : ℕ) → 0 < m → k < m + k
      above m k h = omega arith

      without : (m k : ℕ) → m + k - k ≡ m
      without m k = omega arith

-- ---- the vertices

module _ (n : Size) (s : List ℕ) (cut : Cut) where
  -- the same in the cube c of a block
  place_of_loop : (c p : ℕ) → c < cube_count n → p < length (cube_loops loops_of n s cut c)
      → place_in n s cut c (word_of (corners_of n s c) (get_or (cube_loops loops_of n s cut c) p 0)) ≡ p
  unfolding place_in
  place_of_loop c p hc hp = rw (lt-ltb c (cube_count n) hc) (word_place_lem cut (corners_of n s c) p hp)

  -- vertex v is a loop of a cube, behind the vertices of the cubes before, and its number is made of that cube and the place of that loop
  record Stands (v : ℕ) : Type 0 where
    pub cube : ℕ
    pub nth : ℕ
    pub nth_lt : nth < 4
    pub number : v ≡ length (vertices_before loops_of n s cut cube) + nth
    pub in_cube : (vertex_of loops_of n s cut v).cube ≡ cube
    pub key : vertex_key (mesh_words loops_of n s cut) n s cut v ≡ 4 * cube + nth

  stands : (v : ℕ) → v < length (vertices loops_of n s cut) → Stands v
  unfolding vertices vertices_before
  stands v h =
      let r = split (vertices_of loops_of n s cut) (cube_count n) v h in
      let l : r.1 < length (cube_loops loops_of n s cut r.0) = rw (one_for_each_loop loops_of n s cut r.0) at r.3 in
      let is : vertex_of loops_of n s cut v ≡ record { cube = r.0; mask = get_or (cube_loops loops_of n s cut r.0) r.1 0 } = ap (vertex_of loops_of n s cut) r.4 ∙ loop_stands loops_of n s cut r.0 r.1 r.2 l in
      let at = words_at_lem loops_of n s cut v h in
      record {
        cube = r.0;
        nth = r.1;
        nth_lt = place_lt cut (corners_of n s r.0) r.1 l;
        number = r.4;
        in_cube = ap (λ (x : Vertex). x.cube) is;
        key =
            ap₂ (λ (c w : ℕ). 4 * c + place_in n s cut c w) at.0 at.1
            ∙ ap (λ (x : Vertex). 4 * x.cube + place_in n s cut x.cube (word_of (corners_of n s x.cube) x.mask)) is
            ∙ ap (λ (p : ℕ). 4 * r.0 + p) (place_of_loop r.0 r.1 r.2 l);
      }

-- the vertices stand by their numbers
pub our_vertex_keys_rise : (n : Size) (s : List ℕ) (cut : Cut) (u v : ℕ) → u < v → v < length (vertices loops_of n s cut)
    → vertex_key (mesh_words loops_of n s cut) n s cut u < vertex_key (mesh_words loops_of n s cut) n s cut v
our_vertex_keys_rise n s cut u v h hv = go (stands n s cut u (omega arith)) (stands n s cut v hv) (by_cube loops_of n s cut u v (omega arith) hv)
  where
    further : (a p b q : ℕ) → a < b → p < 4 → 4 * a + p < 4 * b + q
    further a p b q h l = omega arith

    -- in one cube the later vertex is the later loop
    beside : (a p b q k l : ℕ) → a ≡ b → k ≡ l → k + p < l + q → 4 * a + p < 4 * b + q
    beside a p b q k l e f h = omega arith

    go : (a : Stands n s cut u) (b : Stands n s cut v) → (vertex_of loops_of n s cut u).cube ≤ (vertex_of loops_of n s cut v).cube
        → vertex_key (mesh_words loops_of n s cut) n s cut u < vertex_key (mesh_words loops_of n s cut) n s cut v
    go a b le =
        rw (a.key, b.key) (⊎_elim
        (λ (l : a.cube < b.cube). further a.cube a.nth b.cube b.nth l a.nth_lt)
        (λ (g : b.cube ≤ a.cube).
        let e : a.cube ≡ b.cube = omega (arith, a.in_cube, b.in_cube) in
        beside a.cube a.nth b.cube b.nth _ _ e (ap (λ (c : ℕ). length (vertices_before loops_of n s cut c)) e) (omega (arith, a.number, b.number)))
        (lt_or_ge a.cube b.cube))
