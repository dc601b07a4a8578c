-- The promises of `search` and `join_quad` fix their answers and the two buffers: any two outcomes that are allowed are equal.
-- Assumes nothing.
use Prim.Native.Nat.{ℕ, ◌<◌}
use mathlib.Core.Path.{◌≡◌, ap, ap₂, sym, ◌∙◌}
use mathlib.Core.List.{List}
use lib.ListN.{length}
use Rattle.laws.specs.Fixed.{Fixes}
use Rattle.trees.specs.declared.Way.{Way}
use Rattle.trees.specs.Forest.{State, at, top_of, links_of, join_quad}
use Rattle.trees.specs.Steps.{stored}

pub search_fixed : (up : List ℕ) (v : ℕ) → Fixes (λ (r : Way). (r.top ≡ top_of (at up) (length up) v) × (r.links ≡ links_of (at up) (length up) v) × (r.top < length up))
search_fixed up v a b p q = ap₂ (λ (t l : ℕ). record { top = t; links = l }) (p.0 ∙ sym q.0) (p.1 ∙ sym q.1)

pub join_quad_fixed : (n v0 v1 v2 v3 : ℕ) (st : State) → Fixes (λ (x : List ℕ × List ℕ × ℕ). stored x.0 x.1 x.2 ≡ join_quad n v0 v1 v2 v3 st)
join_quad_fixed n v0 v1 v2 v3 st a b p q = ap (λ (s : State). (s.up, s.size, s.longest)) (p ∙ sym q)
