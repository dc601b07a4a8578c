-- The words of a plane: the room that they take, the buffer that holds them, and single signs in it.
-- Assumes nothing.
use mathlib.Core.Path.{◌≡◌, ap, ◌∙◌}
use mathlib.Core.List.{List}
use Prim.Native.Nat.{ℕ, ◌+◌, ◌*◌, ◌/◌, ◌%◌, ◌^◌, ◌<◌}
use native.Mathlib.Omega.{arith}
use lib.ListN.{length, get_or}
use Rattle.laws.specs.Below.{over}
use Rattle.laws.specs.Bits.{bit}
use Rattle.laws.proofs.Over.{each, each_length, over_length, over_at}
use Rattle.laws.proofs.Words.{Word, word_bit}
use Rattle.block.specs.declared.Cut.{Cut}
use Rattle.block.specs.declared.Size.{Size}
use Rattle.block.specs.Size.{Limits}
use Rattle.mesh_rule.specs.Grid.{metal}
use Rattle.signs.specs.Signs.{row_sign, row_word, plane_words, Plane}
use Rattle.signs.specs.Steps.{row_from, plane_from}
use Rattle.signs.proofs.Rows.{row_bit, row_in}

-- ---- making them

pub plane_made : (n : Size) (s : List ℕ) (cut : Cut) (k nx ny q : ℕ) → nx ≡ n.nx → ny ≡ n.ny → q ≡ 5 * ny
    → each (plane_from s cut.t nx ny k) q ≡ plane_words n s cut k
unfolding row_from row_sign
plane_made n s cut k nx ny q ex ey e = rw (e, ex, ey)

-- ---- the buffer

-- what `plane_signs` leaves in a buffer of 1,280 words
pub plane_of_lem : (n : Size) (s : List ℕ) (cut : Cut) (k : ℕ) (entry exit : List ℕ) → Limits n → length entry ≡ 1280
    → exit ≡ over (plane_words n s cut k) entry → Plane n s cut k exit
plane_of_lem n s cut k entry exit l r e = record {
  room = ap length e ∙ over_length (plane_words n s cut k) entry (omega (arith, l.y_high, each_length f (5 * n.ny))) ∙ r;
  word = λ j w hj hw.
      ap (λ (ws : List ℕ). get_or ws (5 * j + w) 0) e
      ∙ over_at f entry (5 * n.ny) (5 * j + w) 0 (omega arith)
      ∙ ap (λ (y : ℕ). row_word n s cut y k ((5 * j + w) % 5)) (quotient j w hw)
      ∙ ap (row_word n s cut j k) (rest j w hw);
}
  where
    f : ℕ → ℕ
    f = λ q. row_word n s cut (q / 5) k (q % 5)

    quotient : (j w : ℕ) → w < 5 → (5 * j + w) / 5 ≡ j
    quotient j w b = omega arith

    rest : (j w : ℕ) → w < 5 → (5 * j + w) % 5 ≡ w
    rest j w b = omega arith

module _ {n : Size} {s : List ℕ} {cut : Cut} {k : ℕ} {ws : List ℕ} (p : Plane n s cut k ws) (j w : ℕ) (hj : j < n.ny) where
  -- a word of a row
  pub word_at : w < 5 → Word (get_or ws (5 * j + w) 0) (λ i. row_sign n s cut j k (64 * w + i)) 64
  word_at h = record { is = p.word j w hj h; bit = λ i. row_bit n s cut j k (64 * w + i) }

  -- bit i of a word is the sign of sample 64 w + i of the row
  pub sign_bit : (i : ℕ) → w < 5 → i < 64 → 64 * w + i < n.nx → get_or ws (5 * j + w) 0 / 2 ^ i % 2 ≡ bit (metal n s cut (64 * w + i) j k)
  sign_bit i hw hi hx = word_bit (word_at hw) i hi ∙ row_in n s cut j k (64 * w + i) hx

-- the next row, five words further on
module _ {n : Size} {s : List ℕ} {cut : Cut} {k : ℕ} {ws : List ℕ} (p : Plane n s cut k ws) (j w : ℕ) (hj : j + 1 < n.ny) (hw : w < 5) where
  pub next_word : Word (get_or ws (5 * j + w + 5) 0) (λ i. row_sign n s cut (j + 1) k (64 * w + i)) 64
  next_word = record {
    is = ap (λ (q : ℕ). get_or ws q 0) place ∙ p.word (j + 1) w hj hw;
    bit = λ i. row_bit n s cut (j + 1) k (64 * w + i);
  }
    where
      place : 5 * j + w + 5 ≡ 5 * (j + 1) + w
      place = omega arith

  pub next_bit : (i : ℕ) → i < 64 → 64 * w + i < n.nx → get_or ws (5 * j + w + 5) 0 / 2 ^ i % 2 ≡ bit (metal n s cut (64 * w + i) (j + 1) k)
  next_bit i hi hx = word_bit next_word i hi ∙ row_in n s cut (j + 1) k (64 * w + i) hx
