-- The two sources of a block: what the block is where samples are lent and where readings are, and the windows of readings as they are lent.
-- Assumes nothing.
use Prim.Native.Nat.{ℕ}
use mathlib.Core.Path.{◌≡◌, sym, subst}
use mathlib.Core.List.{List}
use native.Mathlib.Omega.{arith}
use lib.Ieee.{Float}
use lib.ListN.{take, drop}
use Rattle.block.specs.declared.Size.{Size}
use Rattle.vertices.proofs.CubeCorners.{Windows}
use Rattle.readings.specs.Reading.{greys_of}
use Rattle.readings.proofs.Readings.{greys_part}
use Rattle.mesh.specs.declared.Source.{Source}
use Rattle.mesh.specs.declared.Source.TheVariants.{Samples, Readings}
use Rattle.mesh.specs.Source.{block_of}

-- what is so of the block is so of the list that is read, and back
module _ {source : Source} (s : List ℕ) (xs : List Float) (P : List ℕ → Type 0) where
  pub of_samples : source ≡ Samples → P (block_of source s xs) → P s
  of_samples e h = subst (λ (o : Source). P (block_of o s xs)) e h

  pub for_samples : source ≡ Samples → P s → P (block_of source s xs)
  for_samples e h = subst (λ (o : Source). P (block_of o s xs)) (sym e) h

  pub of_readings : source ≡ Readings → P (block_of source s xs) → P (greys_of xs)
  of_readings e h = subst (λ (o : Source). P (block_of o s xs)) e h

  pub for_readings : source ≡ Readings → P (greys_of xs) → P (block_of source s xs)
  for_readings e h = subst (λ (o : Source). P (block_of o s xs)) (sym e) h

-- where samples are read, no reading is
pub not_readings : Samples ≡ Readings → ⊥
not_readings e = let z : ◌≡◌ {A = ℕ} 0 1 = cc in omega arith

-- the windows of readings as they are lent
pub reading_windows : (n : Size) (xs : List Float) (j k p a q b : ℕ) → Windows n (greys_of xs) j k (take a (drop p (greys_of xs))) (take b (drop q (greys_of xs)))
    → Windows n (greys_of xs) j k (greys_of (take a (drop p xs))) (greys_of (take b (drop q xs)))
reading_windows n xs j k p a q b w =
    subst (λ (l : List ℕ). Windows n (greys_of xs) j k l (greys_of (take b (drop q xs)))) (sym (greys_part xs p a))
    (subst (λ (h : List ℕ). Windows n (greys_of xs) j k (take a (drop p (greys_of xs))) h) (sym (greys_part xs q b)) w)
