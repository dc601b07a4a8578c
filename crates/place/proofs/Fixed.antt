-- The promises of `edge`, `place` and `wide` fix their answers.
-- Assumes nothing.
use mathlib.Core.Path.{◌≡◌, sym, ◌∙◌}
use mathlib.Core.List.{List}
use Prim.Native.Nat.{ℕ}
use native.Mathlib.Omega.{arith}
use Rattle.laws.specs.Fixed.{Fixes}
use Rattle.laws.proofs.Fixed.{Injective, equation_fixes, said_fixes}
use Rattle.block.specs.declared.Cut.{Cut}
use Rattle.block.specs.Grey.{SixteenBit}
use Rattle.place.specs.declared.Crossing.TheVariants.{Nothing, At, Refused}
use Rattle.place.specs.declared.Offset.{Offset}
use Rattle.place.specs.Crossing.{said_edge, edge_answer, EdgeAnswered}
use Rattle.place.specs.Place.{place_of}

-- no two answers of an edge say the same
pub said_edge_injective : Injective said_edge
said_edge_injective Nothing Nothing e = cc
said_edge_injective Nothing (At g) e = let z : ◌≡◌ {A = ℕ} 0 1 = cc in absurd (omega arith)
said_edge_injective Nothing (Refused s) e = let z : ◌≡◌ {A = ℕ} 0 1 = cc in absurd (omega arith)
said_edge_injective (At f) Nothing e = let z : ◌≡◌ {A = ℕ} 0 1 = cc in absurd (omega arith)
said_edge_injective (At f) (At g) e = cc
said_edge_injective (At f) (Refused s) e = let z : ◌≡◌ {A = ℕ} 0 1 = cc in absurd (omega arith)
said_edge_injective (Refused r) Nothing e = let z : ◌≡◌ {A = ℕ} 0 1 = cc in absurd (omega arith)
said_edge_injective (Refused r) (At g) e = let z : ◌≡◌ {A = ℕ} 0 1 = cc in absurd (omega arith)
said_edge_injective (Refused r) (Refused s) e = cc

-- any two answers that the promise of `edge` allows are equal
pub edge_fixed : (p q t : ℕ) → Fixes (EdgeAnswered p q t)
edge_fixed p q t = said_fixes said_edge (edge_answer p q t) said_edge_injective

-- any two answers that the promise of `place` allows are equal
pub place_fixed : (cut : Cut) (corners : List ℕ) (m : ℕ) → Fixes (λ (o : Offset). o ≡ place_of cut corners m)
place_fixed cut corners m = equation_fixes (place_of cut corners m)

-- and so of `wide`
pub wide_fixed : (corners : List ℕ) → Fixes (λ (r : List ℕ). (r ≡ corners) × SixteenBit r)
wide_fixed corners r r' p q = p.0 ∙ sym q.0
