-- The promise of `write` fixes its answer and the buffer: any two outcomes that it allows are equal.
-- Assumes nothing.
use Prim.Native.Nat.{ℕ}
use mathlib.Core.Path.{◌≡◌, ap₂, sym, ◌∙◌}
use mathlib.Core.List.{List}
use native.Mathlib.Omega.{arith}
use lib.Ieee.{Float}
use Rattle.laws.specs.Fixed.{Fixes}
use Rattle.laws.proofs.Fixed.{Injective}
use Rattle.ply.specs.declared.Spacing.{Spacing}
use Rattle.ply.specs.declared.Filed.{Filed}
use Rattle.ply.specs.declared.Filed.TheVariants.{Bytes, Refused}
use Rattle.ply.specs.Answer.{said_file, PlyWritten}

pub said_file_injective : Injective said_file
said_file_injective (Bytes m) (Bytes n) e = cc
said_file_injective (Bytes m) (Refused r) e = let z : ◌≡◌ {A = ℕ} 0 1 = cc in absurd (omega arith)
said_file_injective (Refused r) (Bytes n) e = let z : ◌≡◌ {A = ℕ} 0 1 = cc in absurd (omega arith)
said_file_injective (Refused r) (Refused q) e = cc

pub ply_fixed : (nx ny nz : ℕ) (words : List ℕ) (offsets : List Float) (quads : List ℕ) (spacing : Spacing) (file : List ℕ)
    → Fixes (λ (x : Filed × List ℕ). PlyWritten nx ny nz words offsets quads spacing file x.0 x.1)
ply_fixed nx ny nz words offsets quads spacing file a b p q =
    ap₂ (λ (x : Filed) (y : List ℕ). (x, y)) (said_file_injective a.0 b.0 (p.answer ∙ sym q.answer)) (p.bytes ∙ sym q.bytes)
