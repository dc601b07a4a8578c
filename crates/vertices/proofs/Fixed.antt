-- Each promise fixes the answer and every lent buffer at exit: any two that it allows are equal.
-- Assumes nothing.
use Prim.Native.Nat.{ℕ}
use mathlib.Core.Path.{◌≡◌, sym, ◌∙◌}
use mathlib.Core.List.{List}
use lib.Ieee.{Float}
use Rattle.block.specs.declared.Cut.{Cut}
use Rattle.vertices.specs.Layers.{RowWritten}
use Rattle.notes.proofs.Notes.{noted_fixed}

module _ (loops_of : Cut → List ℕ → List ℕ) (lo hi : List ℕ) (cut : Cut) (nx : ℕ) where
  pub row_written_fixed : (c first v : ℕ) (w₀ w w' : List ℕ) (o₀ o o' : List Float) (t₀ t t' : List ℕ) (r r' : ℕ)
      → RowWritten loops_of lo hi cut nx c first v w₀ w o₀ o t₀ t r → RowWritten loops_of lo hi cut nx c first v w₀ w' o₀ o' t₀ t' r' → (r ≡ r') × (w ≡ w') × (o ≡ o') × (t ≡ t')
  row_written_fixed c first v w₀ w w' o₀ o o' t₀ t t' r r' p q = (
    p.stored.number ∙ sym q.stored.number,
    p.stored.words_are ∙ sym q.stored.words_are,
    p.stored.offsets_are ∙ sym q.stored.offsets_are,
    noted_fixed p.noted q.noted,
  )
