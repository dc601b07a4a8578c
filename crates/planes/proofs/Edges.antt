-- What the bits of the words say of the edges from a row's samples, and those of a row's words one sample further on.
-- Assumes nothing.
use mathlib.Core.Path.{◌≡◌, sym, ap₂, ◌∙◌, ap}
use mathlib.Core.Bool.{Bool, ◌&&◌}
use mathlib.Core.List.{List}
use Prim.Native.Nat.{ℕ, ◌+◌, ◌-◌, ◌*◌, ◌/◌, ◌%◌, ◌^◌, ◌<◌}
use native.Mathlib.Omega.{arith}
use lib.Bits.{bit_and, bit_xor}
use lib.Dec.{ltb}
use lib.ListN.{get_or}
use Rattle.laws.specs.Bits.{bit, differ}
use Rattle.laws.proofs.Words.{xor_digit, xor_tests, Word, word_xor, word_further, word_bit}
use Rattle.block.specs.declared.Cut.{Cut}
use Rattle.block.specs.declared.Size.{Size}
use Rattle.block.specs.Numbering.{X, Y, Z}
use Rattle.mesh_rule.specs.Grid.{metal, crossed_from}
use Rattle.signs.specs.Signs.{Plane, row_sign}
use Rattle.planes.specs.Planes.{further_at, along_x, along_y, along_z, further_of, limit_of}
use Rattle.planes.proofs.Masks.{word_limited}
use Rattle.signs.proofs.Planes.{sign_bit, word_at, next_bit}
use Rattle.signs.proofs.Rows.{row_bit, row_in}

-- the words of a row, one sample further on
module _ {n : Size} {s : List ℕ} {cut : Cut} {k : ℕ} {ws : List ℕ} (p : Plane n s cut k ws) (j w : ℕ) (hj : j < n.ny) where
  pub further_word : w < 4 → Word (further_at ws (5 * j + w)) (λ i. row_sign n s cut j k (64 * w + (1 + i))) 64
  unfolding further_of
  further_word h =
      word_further (word_at p j w hj (omega arith))
      (record { is = ap (λ (q : ℕ). get_or ws q 0) next ∙ p.word j (w + 1) hj (omega arith); bit = λ i. row_bit n s cut j k (64 * (w + 1) + i) })
      (ap (row_sign n s cut j k) seam)
    where
      next : 5 * j + w + 1 ≡ 5 * j + (w + 1)
      next = omega arith

      seam : 64 * w + 64 ≡ 64 * (w + 1) + 0
      seam = omega arith

  pub further_bit : (i : ℕ) → w < 4 → i < 64 → 64 * w + i + 1 < n.nx → further_at ws (5 * j + w) / 2 ^ i % 2 ≡ bit (metal n s cut (64 * w + i + 1) j k)
  further_bit i hw hi hx =
      word_bit (further_word hw) i hi ∙ ap (row_sign n s cut j k) next ∙ row_in n s cut j k (64 * w + i + 1) hx
    where
      next : 64 * w + (1 + i) ≡ 64 * w + i + 1
      next = omega arith

-- the bits of two words that stand for signs: whether the signs differ
apart_bit : (a b i : ℕ) (p q : Bool) → a / 2 ^ i % 2 ≡ bit p → b / 2 ^ i % 2 ≡ bit q → bit_xor a b / 2 ^ i % 2 ≡ bit (differ p q)
apart_bit a b i p q ep eq = xor_digit a b i ∙ ap₂ bit_xor ep eq ∙ xor_tests p q

module _ {n : Size} {s : List ℕ} {cut : Cut} {k : ℕ} {a : List ℕ} (plane : Plane n s cut k a) (j w i : ℕ) (hw : w < 4) (hi : i < 64) where
  pub along_x_is : j < n.ny → 64 * w + i + 1 < n.nx → along_x a (5 * j + w) / 2 ^ i % 2 ≡ bit (crossed_from n s cut X (64 * w + i) j k)
  along_x_is hj hx =
      apart_bit (get_or a (5 * j + w) 0) (further_at a (5 * j + w)) i (metal n s cut (64 * w + i) j k) (metal n s cut (64 * w + i + 1) j k)
      (sign_bit plane j w hj i (omega arith) hi (omega arith)) (further_bit plane j w hj i hw hi hx)

  pub along_y_is : j + 1 < n.ny → 64 * w + i < n.nx → along_y a (5 * j + w) / 2 ^ i % 2 ≡ bit (crossed_from n s cut Y (64 * w + i) j k)
  along_y_is hj hx =
      apart_bit (get_or a (5 * j + w) 0) (get_or a (5 * j + w + 5) 0) i (metal n s cut (64 * w + i) j k) (metal n s cut (64 * w + i) (j + 1) k)
      (sign_bit plane j w (omega arith) i (omega arith) hi hx) (next_bit plane j w hj (omega arith) i hi hx)

  pub along_z_is : {b : List ℕ} → Plane n s cut (k + 1) b → j < n.ny → 64 * w + i < n.nx
      → along_z a b (5 * j + w) / 2 ^ i % 2 ≡ bit (crossed_from n s cut Z (64 * w + i) j k)
  along_z_is {b} upper hj hx =
      apart_bit (get_or a (5 * j + w) 0) (get_or b (5 * j + w) 0) i (metal n s cut (64 * w + i) j k) (metal n s cut (64 * w + i) j (k + 1))
      (sign_bit plane j w hj i (omega arith) hi hx) (sign_bit upper j w hj i (omega arith) hi hx)

-- the crossed edges along x from word w of row j, without the last sample's
pub along_x_word : {n : Size} {s : List ℕ} {cut : Cut} {k : ℕ} {a : List ℕ} (p : Plane n s cut k a) (j w : ℕ) → j < n.ny → w < 4
    → Word (bit_and (along_x a (5 * j + w)) (limit_of (n.nx - 1) w)) (λ i. bit (ltb (64 * w + i) (n.nx - 1) && crossed_from n s cut X (64 * w + i) j k)) 64
along_x_word {n} {s} {cut} {k} {a} p j w hj hw =
    let x = word_xor (word_at p j w hj (omega arith)) (further_word p j w hj hw) in
    word_limited (λ i. crossed_from n s cut X (64 * w + i) j k) x (n.nx - 1) w (λ i h l. sym (word_bit x i h) ∙ along_x_is p j w i hw h hj (omega arith))
