-- Each promise fixes the answer and every lent buffer at exit: any two that it allows are equal.
-- Assumes nothing.
use Prim.Native.Nat.{ℕ}
use mathlib.Core.Path.{◌≡◌, sym, ◌∙◌}
use mathlib.Core.List.{List}
use lib.Ieee.{Float}
use Rattle.block.specs.declared.Cut.{Cut}
use Rattle.cube_vertices.specs.declared.Spot.{Spot}
use Rattle.cube_vertices.specs.Cubes.{CubeWritten}

pub cube_written_fixed : (loops_of : Cut → List ℕ → List ℕ) (cut : Cut) (cs : List ℕ) (spot : Spot) (w₀ w w' : List ℕ) (o₀ o o' : List Float) (t₀ t t' : List ℕ) (r r' : ℕ)
    → CubeWritten loops_of cut cs spot w₀ w o₀ o t₀ t r → CubeWritten loops_of cut cs spot w₀ w' o₀ o' t₀ t' r' → (r ≡ r') × (w ≡ w') × (o ≡ o') × (t ≡ t')
cube_written_fixed loops_of cut cs spot w₀ w w' o₀ o o' t₀ t t' r r' p q = (
  p.stored.number ∙ sym q.stored.number,
  p.stored.words_are ∙ sym q.stored.words_are,
  p.stored.offsets_are ∙ sym q.stored.offsets_are,
  p.noted ∙ sym q.noted,
)
