-- A vertex of a foreign mesh that has the cube and the word of one of ours: it is known by its cube alone, and it holds the edges of ours. Two vertices of ours never
-- have the same cube and word, since a word is its loop's mask with the mark of the cube, and an edge is in one loop of a cube at most.
-- Assumes nothing.
use Prim.Native.Nat.{ℕ, suc, ◌+◌, ◌^◌, ◌<◌, ◌≤◌}
use mathlib.Core.Path.{◌≡◌, refl, sym, ap, ap₂, ◌∙◌, subst}
use mathlib.Core.Bool.{Bool, true, false, ◌&&◌, ◌||◌, false≢true, or-true}
use mathlib.Core.Logic.{◌⊎◌, inl, inr, ⊎_elim}
use mathlib.Core.List.Memᴰ
use mathlib.Core.List.{List, [], ◌∷◌, map, Memᴰ}
use native.Mathlib.Omega.{arith}
use borrow.Author.Tests.{eqb-true, eq-eqb, ltb-true, lt-ltb}
use lib.Count.{count_trailing_zeros}
use lib.Dec.{eqb, ltb}
use lib.Ieee.{Float}
use lib.ListN.{length, get_or}
use Rattle.laws.specs.Bits.{holds}
use Rattle.laws.proofs.Bits.{holds_past, some_ones}
use Rattle.laws.proofs.Tests.{and_both, lt_or_ge}
use Rattle.laws.proofs.Trailing.{trailing_lt, trailing_set}
use Rattle.block.specs.declared.Cut.{Cut}
use Rattle.block.specs.declared.Size.{Size}
use Rattle.block.specs.Numbering.{cube_count}
use Rattle.cube_rule.specs.Decider.{joined, loops_of}
use Rattle.cube_rule.proofs.Laws.{cube_laws}
use Rattle.cell.specs.Answer.{mark_of, word_of}
use Rattle.cell.proofs.Words.{word_holds}
use Rattle.mesh_rule.specs.Buffers.{mesh_words}
use Rattle.mesh_rule.specs.Grid.{corners_of}
use Rattle.mesh_rule.specs.Mesh.{Vertex, cube_loops, vertices_before, vertices, vertex_of, Holder}
use Rattle.mesh_rule.proofs.Numbers.{loop_stands, loop_lt, vertex_is_loop, the_vertex}
use Rattle.mesh_rule.proofs.Words.{words_at_lem, mesh_words_length}
use Rattle.foundry_rule.specs.Judged.{vertex_total, alike, own_number}
use Rattle.foundry_rule.specs.Spots.{among, own_word, cube_at, word_at}
use Rattle.foundry_rule.proofs.Firsts.{same_test, alike_words, words_alike}
use Rattle.foundry_rule.proofs.Sound.{own_alike, own_known, own_shared}

-- ---- masks

-- a mask has an edge, its lowest
pub lowest_in : (m : ℕ) → 0 < m → m < 4096 → (count_trailing_zeros 32 m < 12) × (holds m (count_trailing_zeros 32 m) ≡ true)
lowest_in m p h = (⊎_elim (λ (l : count_trailing_zeros 32 m < 12). l) (λ (g : 12 ≤ count_trailing_zeros 32 m). absurd (false≢true (sym (holds_past m 12 (count_trailing_zeros 32 m) h g) ∙ held))) (lt_or_ge (count_trailing_zeros 32 m) 12), held)
  where
    wide : {m : ℕ} → m < 4096 → m < 2 ^ 32
    wide h = omega arith

    held : holds m (count_trailing_zeros 32 m) ≡ true
    held = eq-eqb _ 1 (trailing_set 32 m (trailing_lt 32 m p (wide h)))

-- a loop's mask is not empty and has twelve bits
pub loop_sized : (cut : Cut) (corners : List ℕ) (m : ℕ) → Memᴰ m (loops_of cut corners) → (0 < m) × (m < 4096)
loop_sized cut corners m d = let r = (cube_laws joined).sized cut corners m d in (some_ones m (omega (arith, r.0)), r.2)

-- ---- one of some numbers

pub among_mem : (f : ℕ → ℕ) (m : ℕ) (ms : List ℕ) → Memᴰ m ms → among (f m) (map f ms) ≡ true
unfolding among
among_mem f m [] d = absurd (Memᴰ.not-nil d)
among_mem f m (x ∷ xs) d = go (Memᴰ.cases_cons d) (among_mem f m xs)
  where
    go : (m ≡ x) ⊎ Memᴰ m xs → (Memᴰ m xs → among (f m) (map f xs) ≡ true) → (eqb (f m) (f x) || among (f m) (map f xs)) ≡ true
    go (inl q) ih = rw (eq-eqb (f m) (f x) (ap f q))
    go (inr k) ih = rw (ih k, or-true)

pub among_at : (f : ℕ → ℕ) (w : ℕ) (ms : List ℕ) → among w (map f ms) ≡ true → (p : ℕ) × (p < length ms) × (w ≡ f (get_or ms p 0))
unfolding among
among_at f w [] e = absurd (false≢true e)
among_at f w (m ∷ ms) e = go (eqb w (f m)) refl e (among_at f w ms)
  where
    go : (b : Bool) → eqb w (f m) ≡ b → (b || among w (map f ms)) ≡ true
        → (among w (map f ms) ≡ true → (p : ℕ) × (p < length ms) × (w ≡ f (get_or ms p 0)))
        → (p : ℕ) × (p < suc (length ms)) × (w ≡ f (get_or (m ∷ ms) p 0))
    go true q e ih = (0, omega arith, eqb-true w (f m) q)
    go false q e ih = let r = ih e in (suc r.0, omega arith, r.2)

-- ---- our own vertices

module _ (n : Size) (s : List ℕ) (cut : Cut) where
  pub total_of_mesh : vertex_total (mesh_words loops_of n s cut) ≡ length (vertices loops_of n s cut)
  total_of_mesh = omega (arith, mesh_words_length n s cut)

  -- so the mask of a vertex
  pub mask_sized : (v : ℕ) → v < length (vertices loops_of n s cut) → (0 < (vertex_of loops_of n s cut v).mask) × ((vertex_of loops_of n s cut v).mask < 4096)
  mask_sized v h = loop_sized cut (corners_of n s (vertex_of loops_of n s cut v).cube) _ (vertex_is_loop loops_of n s cut v h).1

  -- vertices of one cube that share an edge are one
  pub one_for_edge : (u v e : ℕ) → u < length (vertices loops_of n s cut) → v < length (vertices loops_of n s cut)
      → (vertex_of loops_of n s cut u).cube ≡ (vertex_of loops_of n s cut v).cube → e < 12
      → holds (vertex_of loops_of n s cut u).mask e ≡ true → holds (vertex_of loops_of n s cut v).mask e ≡ true → u ≡ v
  one_for_edge u v e hu hv c he p q =
      the_vertex loops_of n s cut (cube_laws joined) u (vertex_of loops_of n s cut v).cube e he (record { is_vertex = hu; in_cube = c; holds_edge = p })
      ∙ sym (the_vertex loops_of n s cut (cube_laws joined) v (vertex_of loops_of n s cut v).cube e he (record { is_vertex = hv; in_cube = refl; holds_edge = q }))

  -- vertices of one cube with one mask are one
  pub one_for_mask : (u v : ℕ) → u < length (vertices loops_of n s cut) → v < length (vertices loops_of n s cut)
      → (vertex_of loops_of n s cut u).cube ≡ (vertex_of loops_of n s cut v).cube → (vertex_of loops_of n s cut u).mask ≡ (vertex_of loops_of n s cut v).mask → u ≡ v
  one_for_mask u v hu hv c m =
      let z = mask_sized u hu in
      let l = lowest_in (vertex_of loops_of n s cut u).mask z.0 z.1 in
      one_for_edge u v (count_trailing_zeros 32 (vertex_of loops_of n s cut u).mask) hu hv c l.0 l.1
      (ap (λ (x : ℕ). holds x (count_trailing_zeros 32 (vertex_of loops_of n s cut u).mask)) (sym m) ∙ l.1)

  -- no two of them have the same cube and word
  pub words_distinct : (u v : ℕ) → u < length (vertices loops_of n s cut) → v < length (vertices loops_of n s cut)
      → alike (mesh_words loops_of n s cut) u (mesh_words loops_of n s cut) v ≡ true → u ≡ v
  words_distinct u v hu hv a = one_for_mask u v hu hv cube (cancel _ _ (mark_of (corners_of n s (vertex_of loops_of n s cut v).cube)) word)
    where
      parts : (cube_at (mesh_words loops_of n s cut) u ≡ cube_at (mesh_words loops_of n s cut) v) × (word_at (mesh_words loops_of n s cut) u ≡ word_at (mesh_words loops_of n s cut) v)
      parts = alike_words (mesh_words loops_of n s cut) u (mesh_words loops_of n s cut) v a

      cube : (vertex_of loops_of n s cut u).cube ≡ (vertex_of loops_of n s cut v).cube
      cube = sym (words_at_lem loops_of n s cut u hu).0 ∙ parts.0 ∙ (words_at_lem loops_of n s cut v hv).0

      cancel : (a b k : ℕ) → a + k ≡ b + k → a ≡ b
      cancel a b k e = omega arith

      word : (vertex_of loops_of n s cut u).mask + mark_of (corners_of n s (vertex_of loops_of n s cut v).cube)
          ≡ (vertex_of loops_of n s cut v).mask + mark_of (corners_of n s (vertex_of loops_of n s cut v).cube)
      word =
          ap (λ (c : ℕ). (vertex_of loops_of n s cut u).mask + mark_of (corners_of n s c)) (sym cube)
          ∙ sym (words_at_lem loops_of n s cut u hu).1 ∙ parts.1 ∙ (words_at_lem loops_of n s cut v hv).1

-- ---- the vertices that are sent

module _ (n : Size) (s : List ℕ) (cut : Cut) (our_quads words : List ℕ) (offsets : List Float) (quads : List ℕ) where
  -- the number of ours that v is, and whether there is one
  abbrev pub name_of : ℕ → ℕ
  name_of v = own_number (mesh_words loops_of n s cut) our_quads words offsets quads v

  abbrev pub known : ℕ → Bool
  known v = ltb (name_of v) (vertex_total (mesh_words loops_of n s cut))

  -- what is known of such a vertex
  pub record Own (v : ℕ) : Type 0 where
    pub is_vertex : name_of v < length (vertices loops_of n s cut)
    pub in_cube : (vertex_of loops_of n s cut (name_of v)).cube ≡ cube_at words v
    pub has_word : word_of (corners_of n s (cube_at words v)) (vertex_of loops_of n s cut (name_of v)).mask ≡ word_at words v
    pub cube_lt : cube_at words v < cube_count n
    pub is_loop : Memᴰ (vertex_of loops_of n s cut (name_of v)).mask (cube_loops loops_of n s cut (cube_at words v))
    pub some_edge : 0 < (vertex_of loops_of n s cut (name_of v)).mask
    pub mask_lt : (vertex_of loops_of n s cut (name_of v)).mask < 4096
    pub same_edges_lem : (e : ℕ) → e < 12 → holds (word_at words v) e ≡ holds (vertex_of loops_of n s cut (name_of v)).mask e

  found : (v : ℕ) → known v ≡ true → name_of v < vertex_total (mesh_words loops_of n s cut)
  found v k = ltb-true (name_of v) (vertex_total (mesh_words loops_of n s cut)) k

  own_lt : (v : ℕ) → known v ≡ true → name_of v < length (vertices loops_of n s cut)
  own_lt v k = omega (arith, found v k, total_of_mesh n s cut)

  pub own_facts : (v : ℕ) → known v ≡ true → Own v
  own_facts v k =
      let u = name_of v in
      let there = own_lt v k in
      let parts = alike_words words v (mesh_words loops_of n s cut) u (own_alike (mesh_words loops_of n s cut) our_quads words offsets quads v (found v k)) in
      let at = words_at_lem loops_of n s cut u there in
      let cube : (vertex_of loops_of n s cut u).cube ≡ cube_at words v = sym (parts.0 ∙ at.0) in
      let word : word_of (corners_of n s (cube_at words v)) (vertex_of loops_of n s cut u).mask ≡ word_at words v = rw (← cube) (sym (parts.1 ∙ at.1)) in
      let loop = vertex_is_loop loops_of n s cut u there in
      let size = mask_sized n s cut u there in
      record {
        is_vertex = there;
        in_cube = cube;
        has_word = word;
        cube_lt = subst (λ (c : ℕ). c < cube_count n) cube loop.0;
        is_loop = subst (λ (c : ℕ). Memᴰ (vertex_of loops_of n s cut u).mask (cube_loops loops_of n s cut c)) cube loop.1;
        some_edge = size.0;
        mask_lt = size.1;
        same_edges_lem = λ e h. ap (λ (w : ℕ). holds w e) (sym word) ∙ word_holds (corners_of n s (cube_at words v)) (vertex_of loops_of n s cut u).mask e h;
      }

  -- a vertex is known where one of ours has its cube and word, and so where a loop of its cube has its word
  pub known_where : (v u : ℕ) → u < length (vertices loops_of n s cut) → alike words v (mesh_words loops_of n s cut) u ≡ true → known v ≡ true
  known_where v u h a =
      lt-ltb (name_of v) (vertex_total (mesh_words loops_of n s cut))
      (own_known (mesh_words loops_of n s cut) our_quads words offsets quads v u (omega (arith, h, total_of_mesh n s cut)) a)

  pub known_loop : (v : ℕ) → own_word n s cut (cube_at words v) (word_at words v) ≡ true → known v ≡ true
  known_loop v e =
      let p = and_both (ltb (cube_at words v) (cube_count n)) _ e in
      let hc = ltb-true (cube_at words v) (cube_count n) p.0 in
      let q = among_at (word_of (corners_of n s (cube_at words v))) (word_at words v) (cube_loops loops_of n s cut (cube_at words v)) p.1 in
      let u = length (vertices_before loops_of n s cut (cube_at words v)) + q.0 in
      let there : u < length (vertices loops_of n s cut) = loop_lt loops_of n s cut (cube_at words v) q.0 hc q.1 in
      let is = loop_stands loops_of n s cut (cube_at words v) q.0 hc q.1 in
      let at = words_at_lem loops_of n s cut u there in
      known_where v u there
      (words_alike words v (mesh_words loops_of n s cut) u
      (sym (at.0 ∙ ap (λ (x : Vertex). x.cube) is))
      (q.2 ∙ sym (at.1 ∙ ap (λ (x : Vertex). word_of (corners_of n s x.cube) x.mask) is)))

  -- and only there: cube and word alone say whether a vertex is known
  pub known_by_cube : (v : ℕ) → known v ≡ own_word n s cut (cube_at words v) (word_at words v)
  known_by_cube v = same_test (known v) (own_word n s cut (cube_at words v) (word_at words v)) there (known_loop v)
    where
      there : known v ≡ true → own_word n s cut (cube_at words v) (word_at words v) ≡ true
      there k =
          let o = own_facts v k in
          ap₂ (λ (a b : Bool). a && b)
          (lt-ltb (cube_at words v) (cube_count n) o.cube_lt)
          (subst (λ (w : ℕ). among w (map (word_of (corners_of n s (cube_at words v))) (cube_loops loops_of n s cut (cube_at words v))) ≡ true) o.has_word
          (among_mem (word_of (corners_of n s (cube_at words v))) (vertex_of loops_of n s cut (name_of v)).mask (cube_loops loops_of n s cut (cube_at words v)) o.is_loop))

  -- its edges are those of ours
  pub own_holder : (v e : ℕ) → known v ≡ true → e < 12 → holds (word_at words v) e ≡ true → Holder loops_of n s cut (name_of v) (cube_at words v) e
  own_holder v e k h x =
      let o = own_facts v k in
      record { is_vertex = o.is_vertex; in_cube = o.in_cube; holds_edge = sym (o.same_edges_lem e h) ∙ x }

  -- the number of a vertex of ours is given to known ones only, so one that holds an edge of ours is known
  pub known_number : (v : ℕ) → name_of v < length (vertices loops_of n s cut) → known v ≡ true
  known_number v h = lt-ltb (name_of v) (vertex_total (mesh_words loops_of n s cut)) (omega (arith, h, total_of_mesh n s cut))

  pub holder_own : (v c e : ℕ) → e < 12 → Holder loops_of n s cut (name_of v) c e → (cube_at words v ≡ c) × (holds (word_at words v) e ≡ true)
  holder_own v c e h x =
      let o = own_facts v (known_number v x.is_vertex) in
      (sym o.in_cube ∙ x.in_cube, o.same_edges_lem e h ∙ x.holds_edge)

  -- and two of them are one vertex of ours exactly if they have the same cube and word
  pub own_apart : (v v' : ℕ) → known v ≡ true → known v' ≡ true → name_of v ≡ name_of v' → alike words v words v' ≡ true
  own_apart v v' k k' e = own_shared (mesh_words loops_of n s cut) our_quads words offsets quads v v' (found v k) (found v' k') e
