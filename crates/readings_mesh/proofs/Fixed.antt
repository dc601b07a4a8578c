-- The promises leave no choice: any two answers, with the buffers at exit, that one allows are equal. Assumes nothing.
use Prim.Native.Nat.{ℕ}
use mathlib.Core.List.{List}
use lib.Ieee.{Float}
use Rattle.laws.specs.Fixed.{Fixes}
use Rattle.laws.proofs.Fixed.{said_fixes}
use Rattle.block.specs.declared.Cut.{Cut}
use Rattle.block.specs.Size.{size_of}
use Rattle.mesh.specs.declared.Counted.{Counted}
use Rattle.mesh.specs.Answer.{said_counts}
use Rattle.mesh.proofs.Verdicts.{said_counts_injective, meshed_fixed}
use Rattle.readings.specs.Reading.{greys_of}
use Rattle.readings_mesh.specs.Answer.{ReadingsCounted, ReadingsMeshed}

pub readings_counts_fixed : (nx ny nz : ℕ) (xs : List Float) (cut : Cut) → Fixes (ReadingsCounted nx ny nz xs cut)
readings_counts_fixed nx ny nz xs cut = said_fixes said_counts _ said_counts_injective

pub readings_mesh_fixed : (nx ny nz : ℕ) (xs : List Float) (cut : Cut) (w : List ℕ) (o : List Float) (q : List ℕ)
    → Fixes (λ (x : Counted × List ℕ × List Float × List ℕ). ReadingsMeshed nx ny nz xs cut w o q x.0 x.1 x.2 x.3)
readings_mesh_fixed nx ny nz xs cut w o q = meshed_fixed _ (size_of nx ny nz) (greys_of xs) cut w o q
