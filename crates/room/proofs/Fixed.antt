-- The promise of `crossed` fixes its answer: any two answers that it allows are equal.
-- Assumes nothing.
use Prim.Native.Nat.{ℕ}
use mathlib.Core.Path.{◌≡◌}
use mathlib.Core.List.{List}
use native.Mathlib.Omega.{arith}
use Rattle.laws.specs.Fixed.{Fixes}
use Rattle.laws.proofs.Fixed.{Injective, said_fixes}
use Rattle.block.specs.declared.Cut.{Cut}
use Rattle.room.specs.declared.Edged.TheVariants as edged
use Rattle.room.specs.Answer.{said_crossed, CrossedAnswered}

pub said_crossed_injective : Injective said_crossed
said_crossed_injective (edged.Edges c) (edged.Edges d) e = cc
said_crossed_injective (edged.Edges c) (edged.Refused r) e = let z : ◌≡◌ {A = ℕ} 0 1 = cc in absurd (omega arith)
said_crossed_injective (edged.Refused r) (edged.Edges d) e = let z : ◌≡◌ {A = ℕ} 0 1 = cc in absurd (omega arith)
said_crossed_injective (edged.Refused r) (edged.Refused q) e = cc

pub crossed_fixed : (nx ny nz : ℕ) (s : List ℕ) (cut : Cut) → Fixes (CrossedAnswered nx ny nz s cut)
crossed_fixed nx ny nz s cut = said_fixes said_crossed _ said_crossed_injective
