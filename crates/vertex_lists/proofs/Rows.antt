-- What row 22 says exactly, and rows 22 and 23 by cases.
-- Assumes nothing.
use Prim.Native.Nat.{ℕ, ◌*◌, ◌-◌, ◌/◌, ◌≤◌, ◌<◌}
use mathlib.Core.Path.{◌≡◌, sym, ap, ◌∙◌}
use mathlib.Core.Bool.{Bool}
use mathlib.Core.Logic.{◌↔◌}
use mathlib.Core.List.{List}
use native.Mathlib.Omega.{arith}
use lib.Dec.{ltb}
use lib.ListN.{length, get_or}
use borrow.Author.Tests.{eqb-true, eq-eqb, leb-true, le-leb, le-ltb}
use Rattle.laws.proofs.Leading.{HoldsTo}
use Rattle.laws.proofs.Tests.{and_both}
use Rattle.block.specs.declared.Checked.TheVariants.{Passes, Refuses}
use Rattle.block.specs.declared.Size.{Size}
use Rattle.block.specs.Answer.{given}
use Rattle.block.specs.Numbering.{cube_count}
use Rattle.block.specs.Rows.{search_row}
use Rattle.block.proofs.Rows.{unless_none}
use Rattle.block.proofs.Searches.{search_passes, search_fails}
use Rattle.vertex_lists.specs.Rows.{shaped, shape_row, cube_row}

-- ---- row 22

module _ (words offsets : ℕ) where
  pub shape_passes : (v : ℕ) → words ≡ 2 * v → offsets ≡ 3 * v → v ≤ 66325500 → shape_row words offsets ≡ Passes
  shape_passes v a b h =
      let half : words / 2 ≡ v = omega (arith, a) in
      rw (half, eq-eqb words (2 * v) a, eq-eqb offsets (3 * v) b, le-leb v 66325500 h)

  -- the row passes exactly if there is one count, of at most 66,325,500, of which the word buffer is twice and the offset buffer three times
  pub shape_exactly : (shape_row words offsets ≡ Passes) ↔ ((v : ℕ) × (words ≡ 2 * v) × (offsets ≡ 3 * v) × (v ≤ 66325500))
  shape_exactly = (there, λ h. shape_passes h.0 h.1 h.2 h.3)
    where
      there : shape_row words offsets ≡ Passes → (v : ℕ) × (words ≡ 2 * v) × (offsets ≡ 3 * v) × (v ≤ 66325500)
      there e =
          let both = and_both _ _ (unless_none (shaped words offsets (words / 2)) 22 words e) in
          let lengths = and_both _ _ both.0 in
          (words / 2, eqb-true _ _ lengths.0, eqb-true _ _ lengths.1, leb-true _ _ both.1)

-- ---- row 23

-- an axis of at most 256 samples has at most 255 cubes
pub less : {a m : ℕ} → a ≤ 256 → m ≡ a → m - 1 ≤ 255
less h e = omega (arith, h, e)

-- the cube of vertex v is before this end
abbrev pub before : ℕ → List ℕ → ℕ → Bool
before end words v = ltb (get_or words (2 * v) 0) end

-- where the end is how many cubes there are, that is the row's test
module _ (n : Size) (end : ℕ) (words : List ℕ) (e : end ≡ cube_count n) where
  by_end : search_row 23 (before end words) (length words / 2) ≡ cube_row n words
  by_end = ap (λ (m : ℕ). search_row 23 (before m words) (length words / 2)) e

  pub cubes_pass : (v : ℕ) → length words / 2 ≤ v → HoldsTo (before end words) v → Passes ≡ cube_row n words
  cubes_pass v h all = sym (search_passes 23 (before end words) (length words / 2) (λ i l. all i (omega (arith, h, l)))) ∙ by_end

  pub cubes_fail : (i v : ℕ) → i < length words / 2 → HoldsTo (before end words) i → end ≤ get_or words (2 * i) 0 → v ≡ given i → Refuses (record { number = 23; value = v }) ≡ cube_row n words
  cubes_fail i v h all out g = search_fails 23 (before end words) (length words / 2) i v h all (le-ltb (get_or words (2 * i) 0) end out) g ∙ by_end
