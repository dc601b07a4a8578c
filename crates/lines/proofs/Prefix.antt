-- The program may stop reading: what stands past the first 2,130 bytes of an input changes nothing.
-- Assumes nothing.
use Prim.Native.Nat.{ℕ, ◌*◌, ◌≤◌}
use mathlib.Core.Path.{◌≡◌, refl}
use mathlib.Core.List.{List, ◌∷◌}
use native.Mathlib.Omega.{arith}
use lib.ListN.{take}
use Rattle.block.specs.declared.Cut.{Cut}
use Rattle.block.specs.declared.Size.{Size}
use Rattle.block.specs.declared.Refusal.{Refusal}
use Rattle.block.specs.declared.Checked.{Checked}
use Rattle.block.specs.declared.Checked.TheVariants.{Passes, Refuses}
use Rattle.block.specs.Answer.{in_order, decided}
use Rattle.block.specs.Rows.{axis_row}
use Rattle.reading.specs.Input.{first_line_row, large_row, samples_read, size_read, cut_read, input_rows}
use Rattle.reading.proofs.Axes.{at_most_eight}
use Rattle.reading.proofs.Prefix.{same_number, same_lines, same_samples, same_first}
use Rattle.lines.specs.Output.{block_text, output_of}
use Rattle.lines.specs.Steps.{printed}

-- a third row that refuses leaves nothing to those behind it
before : (a b : Checked) (r : Refusal) (ks ls : List Checked) (x y : List ℕ) → printed (in_order (a ∷ b ∷ Refuses r ∷ ks)) x ≡ printed (in_order (a ∷ b ∷ Refuses r ∷ ls)) y
unfolding in_order decided
before Passes Passes r ks ls x y = refl
before Passes (Refuses q) r ks ls x y = refl
before (Refuses q) b r ks ls x y = refl

module _ (bytes : List ℕ) (B : ℕ) (room : 2130 ≤ B) where
  abbrev first : List ℕ
  first = take B bytes

  -- the verdict, and the text where it passes
  same_output : (n : Size) (cut : Cut) (k : Checked) → large_row n.nx n.ny n.nz ≡ k
      → printed (in_order (input_rows first n cut)) (block_text n (samples_read first n) cut)
      ≡ printed (in_order (input_rows bytes n cut)) (block_text n (samples_read bytes n) cut)
  same_output n cut Passes e =
      let h = at_most_eight n.nx n.ny n.nz e in
      rw (same_first bytes B room, same_lines bytes B room n.nx (n.ny * n.nz) h.x h.rows, same_samples bytes B room n h.x h.rows)
  same_output n cut (Refuses r) e =
      rw (same_first bytes B room, e) (before (first_line_row bytes) (axis_row n.nx n.ny n.nz) r _ _ _ _)

-- the first 2,130 bytes, or more, are enough
pub prefix_enough : (bytes : List ℕ) (B : ℕ) → 2130 ≤ B → output_of (take B bytes) ≡ output_of bytes
unfolding output_of
prefix_enough bytes B room =
    rw (same_number bytes B 0 4 (omega arith), same_number bytes B 4 4 (omega arith), same_number bytes B 8 4 (omega arith), same_number bytes B 12 4 (omega arith))
    (same_output bytes B room (size_read bytes) (cut_read bytes) _ refl)

-- what the program reads: one buffer
pub first_bytes : (bytes : List ℕ) → output_of (take 4096 bytes) ≡ output_of bytes
first_bytes bytes = prefix_enough bytes 4096 (omega arith)
