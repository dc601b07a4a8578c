-- How often the sides of quads walk from one vertex to another.
-- Assumes nothing.
use Prim.Native.Nat.{ℕ, ◌+◌}
use mathlib.Core.List.{List}
use Rattle.laws.proofs.Sums.{summed}
use Rattle.mesh_rule.specs.Mesh.{Quad}
use Rattle.closure.proofs.Face.{hit}

-- how often the sides of a quad, and of all quads, walk from u to v
abbrev pub walks_in : ℕ → ℕ → Quad → ℕ
walks_in u v q = hit q.v0 q.v1 u v + hit q.v1 q.v2 u v + hit q.v2 q.v3 u v + hit q.v3 q.v0 u v

abbrev pub walks_over : ℕ → ℕ → List Quad → ℕ
walks_over u v qs = summed (walks_in u v) qs
