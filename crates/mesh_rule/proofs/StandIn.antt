-- Demand 3: the mesh can stand in for the block. Two blocks with the same cubes and quads have the same crossed inner edges, by `read`, and
-- agree at the end of one of them; so they agree at every sample that inner edges join to it.
-- Both statements hold for any loops that keep the cube's laws, as 01's do (`cube_laws`), each block with its own threshold, accepted or not.
-- Assumes nothing.
use Prim.Native.Nat.{ℕ, ◌<◌}
use mathlib.Core.Path.{◌≡◌, refl, ap, ap₂, sym, ◌∙◌, subst}
use mathlib.Core.Logic.{◌↔◌}
use mathlib.Core.Bool.{Bool, true, false, true≢false}
use mathlib.Core.List.Memᴰ
use mathlib.Core.List.{List, [], ◌∷◌, Memᴰ}
use native.Mathlib.Nat.{not-suc-le-zero}
use lib.ListN.{length}
use Rattle.laws.specs.Bits.{differ}
use Rattle.block.specs.declared.Cut.{Cut}
use Rattle.block.specs.declared.Size.{Size}
use Rattle.block.specs.Numbering.{Axis, X, Y, Z}
use Rattle.cube_rule.specs.Laws.{CubeLaws}
use Rattle.cube_rule.specs.Links.{Decider}
use Rattle.mesh_rule.specs.Grid.{metal, crossed_from, ahead, OffEdges, AtLeastThree}
use Rattle.mesh_rule.specs.Mesh.{Quad, flat, vertex_of, quads}
use Rattle.mesh_rule.proofs.Inner.{Inner, inner_facts, inner_test}
use Rattle.mesh_rule.proofs.Quads.{flat_injective, quad_of, FromEdge, quad_of_edge, edge_of_quad}
use Rattle.mesh_rule.proofs.Reading.{Told, told, read, cubes, read_quad}
use Rattle.mesh_rule.proofs.Joined.{off_edges_joined, inner_joined}

-- ---- signs at the two ends of an edge

undo : (a b : Bool) → differ a (differ a b) ≡ b
undo true true = refl
undo true false = refl
undo false true = refl
undo false false = refl

undo' : (a b : Bool) → differ (differ a b) b ≡ a
undo' true true = refl
undo' true false = refl
undo' false true = refl
undo' false false = refl

-- an edge crossed in both of two blocks or in neither: they agree at one end if they do at the other
ends : (a a' b b' : Bool) → differ a a' ≡ differ b b' → (a ≡ b) ↔ (a' ≡ b')
ends a a' b b' h = (λ p. sym (undo a a') ∙ ap₂ differ p h ∙ undo b b', λ p. sym (undo' a a') ∙ ap₂ differ h p ∙ undo' b b')

-- an edge not crossed
level : (a b c : Bool) → differ a b ≡ false → (a ≡ c) ↔ (b ≡ c)
level true true c h = (λ p. p, λ p. p)
level true false c h = absurd (true≢false h)
level false true c h = absurd (true≢false h)
level false false c h = (λ p. p, λ p. p)

both_ways : (a b : Bool) → (a ≡ true → b ≡ true) → (b ≡ true → a ≡ true) → a ≡ b
both_ways true b f g = sym (f refl)
both_ways false true f g = g refl
both_ways false false f g = refl

never : (b : Bool) → (b ≡ true → ⊥) → b ≡ false
never true f = absurd (f refl)
never false f = refl

first : (l : List Quad) → 0 < length l → (q : Quad) × Memᴰ q l
first [] h = absurd (not-suc-le-zero h)
first (q ∷ l) h = (q, Memᴰ.head refl)

module _ (n : Size) (s : List ℕ) (cut : Cut) (s' : List ℕ) (cut' : Cut) where
  abbrev Agree : ℕ → ℕ → ℕ → Type 0
  Agree i j k = metal n s cut i j k ≡ metal n s' cut' i j k

  -- along an edge that is crossed in both blocks or in neither
  agree_step : (a : Axis) (i j k : ℕ) → crossed_from n s cut a i j k ≡ crossed_from n s' cut' a i j k → Agree i j k ↔ ahead Agree a i j k
  agree_step X i j k h = ends _ _ _ _ h
  agree_step Y i j k h = ends _ _ _ _ h
  agree_step Z i j k h = ends _ _ _ _ h

-- along an edge that is not crossed
level_step : (n : Size) (s : List ℕ) (cut : Cut) (b : Bool) (a : Axis) (i j k : ℕ) → crossed_from n s cut a i j k ≡ false
    → (metal n s cut i j k ≡ b) ↔ ahead (λ i j k. metal n s cut i j k ≡ b) a i j k
level_step n s cut b X i j k h = level _ _ b h
level_step n s cut b Y i j k h = level _ _ b h
level_step n s cut b Z i j k h = level _ _ b h

-- ---- edges told by equal meshes

module _ {D : Decider} {loops_of : Cut → List ℕ → List ℕ} (laws : CubeLaws D loops_of) (n : Size) where
  -- an edge that has a quad in one block has it in the other, with the same sign
  told_alike : (s : List ℕ) (cut : Cut) (s' : List ℕ) (cut' : Cut)
      → ((v : ℕ) → cubes loops_of n s cut v ≡ cubes loops_of n s' cut' v) → quads loops_of n s cut ≡ quads loops_of n s' cut'
      → (a : Axis) (i j k : ℕ) → Inner n a i j k → crossed_from n s cut a i j k ≡ true
      → (crossed_from n s' cut' a i j k ≡ true) × (metal n s cut i j k ≡ metal n s' cut' i j k)
  told_alike s cut s' cut' hc hq a i j k h x =
      let q = quad_of loops_of n s cut a i j k in
      let o = edge_of_quad loops_of n s' cut' (rw hq at (quad_of_edge loops_of n s cut a i j k (inner_test n a i j k h) x)) in
      let here : read n (cubes loops_of n s cut) q ≡ told a i j k (metal n s cut i j k) = read_quad loops_of n s cut laws a i j k (metal n s cut i j k) h x in
      let there : read n (cubes loops_of n s' cut') (quad_of loops_of n s' cut' o.axis o.i o.j o.k) ≡ told o.axis o.i o.j o.k (metal n s' cut' o.i o.j o.k) =
      read_quad loops_of n s' cut' laws o.axis o.i o.j o.k (metal n s' cut' o.i o.j o.k) (inner_facts n o.axis o.i o.j o.k o.is_inner) o.is_crossed in
      let same : told o.axis o.i o.j o.k (metal n s' cut' o.i o.j o.k) ≡ told a i j k (metal n s cut i j k) =
      sym there ∙ ap (read n (cubes loops_of n s' cut')) (sym o.is) ∙ ap (λ (c : ℕ → ℕ). read n c q) (λ i v. sym (hc v) i) ∙ here in
      subst (λ (e : Told). (crossed_from n s' cut' e.axis e.i e.j e.k ≡ true) × (e.sign ≡ metal n s' cut' e.i e.j e.k)) same (o.is_crossed, refl)

-- ---- the demand

-- the same cube for every vertex, and the same quads, at least one: each sample off the twelve edges is metal in both or hollow in both
pub demand3 : {D : Decider} {loops_of : Cut → List ℕ → List ℕ} → CubeLaws D loops_of
    → (n : Size) → AtLeastThree n → (s : List ℕ) (cut : Cut) (s' : List ℕ) (cut' : Cut)
    → ((v : ℕ) → (vertex_of loops_of n s cut v).cube ≡ (vertex_of loops_of n s' cut' v).cube)
    → flat (quads loops_of n s cut) ≡ flat (quads loops_of n s' cut')
    → 0 < length (quads loops_of n s cut)
    → (i j k : ℕ) → OffEdges n i j k → metal n s cut i j k ≡ metal n s' cut' i j k
demand3 {D} {loops_of} laws n three s cut s' cut' hc hf some i j k o =
    (off_edges_joined n three (Agree n s cut s' cut') step i j k o).1
    ((inner_joined n three (Agree n s cut s' cut') step e.axis e.i e.j e.k inside).0
    (told_alike laws n s cut s' cut' hc hq e.axis e.i e.j e.k inside e.is_crossed).1)
  where
    hq : quads loops_of n s cut ≡ quads loops_of n s' cut'
    hq = flat_injective _ _ hf

    step : (a : Axis) (i j k : ℕ) → Inner n a i j k → Agree n s cut s' cut' i j k ↔ ahead (Agree n s cut s' cut') a i j k
    step a i j k h =
        agree_step n s cut s' cut' a i j k
        (both_ways _ _
        (λ x. (told_alike laws n s cut s' cut' hc hq a i j k h x).0)
        (λ x. (told_alike laws n s' cut' s cut (λ v. sym (hc v)) (sym hq) a i j k h x).0))

    e : FromEdge loops_of n s cut (first (quads loops_of n s cut) some).0
    e = edge_of_quad loops_of n s cut (first (quads loops_of n s cut) some).1

    inside : Inner n e.axis e.i e.j e.k
    inside = inner_facts n e.axis e.i e.j e.k e.is_inner

-- no quad, so no inner edge is crossed: these samples are all alike
pub demand3_alike : (loops_of : Cut → List ℕ → List ℕ) (n : Size) → AtLeastThree n → (s : List ℕ) (cut : Cut) → quads loops_of n s cut ≡ []
    → (i j k i' j' k' : ℕ) → OffEdges n i j k → OffEdges n i' j' k' → metal n s cut i j k ≡ metal n s cut i' j' k'
demand3_alike loops_of n three s cut none i j k i' j' k' o o' =
    (off_edges_joined n three Same step i j k o).1 ((off_edges_joined n three Same step i' j' k' o').0 refl)
  where
    Same : ℕ → ℕ → ℕ → Type 0
    Same i j k = metal n s cut i j k ≡ metal n s cut i' j' k'

    step : (a : Axis) (i j k : ℕ) → Inner n a i j k → Same i j k ↔ ahead Same a i j k
    step a i j k h =
        level_step n s cut (metal n s cut i' j' k') a i j k
        (never _ (λ x. Memᴰ.not-nil (rw none at (quad_of_edge loops_of n s cut a i j k (inner_test n a i j k h) x))))
