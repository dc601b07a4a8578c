-- The sides of a list of quads, one quad after the other: what is counted over them, and what is so of each.
-- Assumes nothing.
use Prim.Native.Nat.{ℕ, zero, suc, ◌+◌, ◌<◌}
use mathlib.Core.Path.{◌≡◌, refl, ap, ap₂, sym, ◌∙◌}
use mathlib.Core.Bool.{Bool, ◌&&◌}
use mathlib.Core.List.{List, [], ◌∷◌, Memᴰ}
use native.Mathlib.Nat.{not-suc-le-zero}
use native.Mathlib.Omega.{arith}
use lib.Dec.{eqb}
use lib.ListN.{length}
use lib.Seq.{get_or-append-add}
use Rattle.laws.specs.Bits.{bit}
use Rattle.laws.specs.Counting.{count}
use Rattle.laws.proofs.Counting.{count_same, count_none, count_add}
use Rattle.laws.proofs.Sums.{summed}
use Rattle.mesh_rule.specs.Mesh.{Quad, flat}
use Rattle.closed.specs.Closed.{from, to, walks, all_sound, finding_of}
use Rattle.closed.specs.Steps.{next_place}
use Rattle.closed.proofs.Exactly.{side_exactly, closed_exactly}
use Rattle.closure.proofs.Face.{hit}
use Rattle.closure.proofs.Walks.{walks_over}
use Rattle.closure.proofs.Ends.{Proper}

-- behind the first quad
pub past : (q : Quad) (qs : List Quad) (n : ℕ) → from (flat (q ∷ qs)) (4 + n) ≡ from (flat qs) n
past q qs n = get_or-append-add (q.v0 ∷ q.v1 ∷ q.v2 ∷ q.v3 ∷ []) (flat qs) n 0

past_end : (q : Quad) (qs : List Quad) (n : ℕ) → to (flat (q ∷ qs)) (4 + n) ≡ to (flat qs) n
past_end q qs n = ap (from (flat (q ∷ qs))) (next n) ∙ past q qs (next_place n)
  where
    next : (n : ℕ) → next_place (4 + n) ≡ 4 + next_place n
    next n = omega arith

pub four_more : (n : ℕ) → suc (suc (suc (suc n))) ≡ 4 + n
four_more n = omega arith

-- how many sides of a quad pass a test of their two ends
abbrev pub sides_in : (ℕ → ℕ → Bool) → Quad → ℕ
sides_in g q = bit (g q.v0 q.v1) + bit (g q.v1 q.v2) + bit (g q.v2 q.v3) + bit (g q.v3 q.v0)

first_four : (g : ℕ → ℕ → Bool) (q : Quad) (qs : List Quad) → count (λ (n : ℕ). g (from (flat (q ∷ qs)) n) (to (flat (q ∷ qs)) n)) 4 ≡ sides_in g q
unfolding count
first_four g q qs = omega arith

-- and how many of a list, quad by quad
pub sides_summed : (g : ℕ → ℕ → Bool) (qs : List Quad) → count (λ (n : ℕ). g (from (flat qs) n) (to (flat qs) n)) (length (flat qs)) ≡ summed (sides_in g) qs
sides_summed g [] = count_none _
sides_summed g (q ∷ qs) =
    ap (count test) (four_more (length (flat qs)))
    ∙ count_add test 4 (length (flat qs))
    ∙ ap₂ (λ (x y : ℕ). x + y) (first_four g q qs)
    (count_same (λ (n : ℕ). test (4 + n)) (λ (n : ℕ). g (from (flat qs) n) (to (flat qs) n)) (length (flat qs)) (λ n _. ap₂ g (past q qs n) (past_end q qs n))
    ∙ sides_summed g qs)
  where
    test : ℕ → Bool
    test n = g (from (flat (q ∷ qs)) n) (to (flat (q ∷ qs)) n)

walks_is : (qs : List Quad) (u v : ℕ) → walks (flat qs) u v ≡ walks_over u v qs
unfolding hit
walks_is qs u v = sides_summed (λ (a b : ℕ). eqb a u && eqb b v) qs

ends : (qs : List Quad) → ((q : Quad) → Memᴰ q qs → Proper q) → (n : ℕ) → n < length (flat qs) → from (flat qs) n ≡ to (flat qs) n → ⊥
ends [] h n l e = absurd (not-suc-le-zero l)
ends (q ∷ qs) h zero l e = (h q (Memᴰ.head refl)).0 e
ends (q ∷ qs) h (suc zero) l e = (h q (Memᴰ.head refl)).1 e
ends (q ∷ qs) h (suc (suc zero)) l e = (h q (Memᴰ.head refl)).2 e
ends (q ∷ qs) h (suc (suc (suc zero))) l e = (h q (Memᴰ.head refl)).3 e
ends (q ∷ qs) h (suc (suc (suc (suc n)))) l e =
    let side : from (flat (q ∷ qs)) (4 + n) ≡ to (flat (q ∷ qs)) (4 + n) = rw (← four_more n) e in
    ends qs (λ p m. h p (Memᴰ.tail m)) n (omega arith) (sym (past q qs n) ∙ side ∙ past_end q qs n)

-- each pair of vertices is walked as often one way as the other, and no side has one vertex at both ends: the list is closed
pub answers_closed : (qs : List Quad) → ((u v : ℕ) → walks_over u v qs ≡ walks_over v u qs) → ((q : Quad) → Memᴰ q qs → Proper q) → finding_of (flat qs) ≡ all_sound
answers_closed qs balanced proper =
    (closed_exactly (flat qs)).1
    (λ n l. (side_exactly (flat qs) n).1
    (walks_is qs (from (flat qs) n) (to (flat qs) n) ∙ balanced (from (flat qs) n) (to (flat qs) n) ∙ sym (walks_is qs (to (flat qs) n) (from (flat qs) n)), ends qs proper n l))
