-- When a vertex or a quad of a mesh from the foundry is at fault, which one is named, and when some of ours are missing, in the words of document 02, Twelve.
use Rattle.std.specs.Prelude.{ℕ, ◌<◌, ◌≡◌, Bool, true, false, List, Float}
use Rattle.vertex_lists.specs.Rows.{offset_inside}
use Rattle.foundry_rule.specs.Judged.{vertex_total, quad_total, alike, named_quad, as_sent, same_round, own_number}

-- "a vertex is at fault if no vertex of ours has its cube and word, an earlier one has both, or its offset is bad"
pub data VertexFault (our_words words : List ℕ) (offsets : List Float) (v : ℕ) : Type 0 where
  vertex_unknown : ((u : ℕ) → u < vertex_total our_words → alike words v our_words u ≡ false) → VertexFault our_words words offsets v
  vertex_again : (u : ℕ) → u < v → alike words v words u ≡ true → VertexFault our_words words offsets v
  offset_bad : offset_inside offsets v ≡ false → VertexFault our_words words offsets v

module _ (our_words our_quads words : List ℕ) (offsets : List Float) (quads : List ℕ) where
  -- quad q, with each of its vertices renamed to ours, is our quad p
  abbrev pub is_ours : ℕ → ℕ → Bool
  is_ours q p = same_round (named_quad (own_number our_words our_quads words offsets quads) quads q) (named_quad as_sent our_quads p)

  -- "a quad, if it is none of ours or repeats an earlier one"
  pub data QuadFault (q : ℕ) : Type 0 where
    quad_unknown : ((p : ℕ) → p < quad_total our_quads → is_ours q p ≡ false) → QuadFault q
    quad_again : (p : ℕ) → p < q → same_round (named_quad as_sent quads q) (named_quad as_sent quads p) ≡ true → QuadFault q

  -- "some are missing": a vertex of ours whose cube and word no vertex has, or a quad of ours that no quad is
  pub data Missing : Type 0 where
    vertex_missing : (u : ℕ) → u < vertex_total our_words → ((v : ℕ) → v < vertex_total words → alike words v our_words u ≡ false) → Missing
    quad_missing : (p : ℕ) → p < quad_total our_quads → ((q : ℕ) → q < quad_total quads → is_ours q p ≡ false) → Missing

-- v is the first of n at fault
pub record FirstAtFault (Fault : ℕ → Type 0) (n v : ℕ) : Type 0 where
  pub there : v < n
  pub fault : Fault v
  pub none_before : (u : ℕ) → u < v → Fault u → ⊥

-- none of n is at fault
abbrev pub NoneAtFault : (ℕ → Type 0) → ℕ → Type 0
NoneAtFault Fault n = (v : ℕ) → v < n → Fault v → ⊥
