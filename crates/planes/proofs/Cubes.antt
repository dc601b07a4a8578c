-- What the words of two planes say of a row of cubes between them: their sign patterns, and that a cube whose bit is not active has one sign.
-- Assumes nothing.
use mathlib.Core.Path.{◌≡◌, refl, sym, ap, ◌∙◌}
use mathlib.Core.Bool.{Bool, ◌&&◌}
use mathlib.Core.List.{List}
use Prim.Native.Nat.{ℕ, zero, suc, ◌+◌, ◌*◌, ◌/◌, ◌%◌, ◌^◌, ◌<◌}
use native.Mathlib.Nat.{add-zero}
use native.Mathlib.Omega.{arith}
use borrow.Author.Tests.{lt-ltb}
use lib.Dec.{ltb}
use lib.ListN.{get_or}
use Rattle.laws.specs.Bits.{bit}
use Rattle.laws.proofs.Bits.{bit_le}
use Rattle.laws.proofs.Pack.{pack_cong, pack_mask}
use Rattle.laws.proofs.Words.{Word, word_bit, word_further, or_quiet, xor_quiet, bit_same}
use Rattle.block.specs.declared.Cut.{Cut}
use Rattle.block.specs.Grey.{positive}
use Rattle.cube_rule.specs.Edges.{corner_sample, pattern_of}
use Rattle.planes.specs.Planes.{further_of, further_at, eight_of, active_of, pattern_at, unlike}
use Rattle.signs.specs.Steps.{row_from}
use Rattle.signs.specs.Windows.{window_corners, TwoRows}

-- what holds of 0 to 7 holds of each corner
corner_cases : (P : ℕ → Type 0) → P 0 → P 1 → P 2 → P 3 → P 4 → P 5 → P 6 → P 7 → (c : ℕ) → c < 8 → P c
corner_cases P p0 p1 p2 p3 p4 p5 p6 p7 zero h = p0
corner_cases P p0 p1 p2 p3 p4 p5 p6 p7 (suc zero) h = p1
corner_cases P p0 p1 p2 p3 p4 p5 p6 p7 (suc (suc zero)) h = p2
corner_cases P p0 p1 p2 p3 p4 p5 p6 p7 (suc (suc (suc zero))) h = p3
corner_cases P p0 p1 p2 p3 p4 p5 p6 p7 (suc (suc (suc (suc zero)))) h = p4
corner_cases P p0 p1 p2 p3 p4 p5 p6 p7 (suc (suc (suc (suc (suc zero))))) h = p5
corner_cases P p0 p1 p2 p3 p4 p5 p6 p7 (suc (suc (suc (suc (suc (suc zero)))))) h = p6
corner_cases P p0 p1 p2 p3 p4 p5 p6 p7 (suc (suc (suc (suc (suc (suc (suc zero))))))) h = p7
corner_cases P p0 p1 p2 p3 p4 p5 p6 p7 (suc (suc (suc (suc (suc (suc (suc (suc c)))))))) h = absurd (omega arith)

-- where the bit of `active` is 0, each word has the bit of the first
quiet_words : (ws : List ℕ) (i : ℕ) → active_of ws / 2 ^ i % 2 ≡ 0 → (c : ℕ) → c < 8 → get_or ws c 0 / 2 ^ i % 2 ≡ get_or ws 0 0 / 2 ^ i % 2
unfolding active_of
quiet_words ws i e =
    let o1 = or_quiet _ _ i e in
    let o2 = or_quiet _ _ i o1.1 in
    let o3 = or_quiet _ _ i o2.1 in
    let o4 = or_quiet _ _ i o3.1 in
    let o5 = or_quiet _ _ i o4.1 in
    let o6 = or_quiet _ _ i o5.1 in
    corner_cases (λ c. get_or ws c 0 / 2 ^ i % 2 ≡ get_or ws 0 0 / 2 ^ i % 2)
    refl (same 1 o1.0) (same 2 o2.0) (same 3 o3.0) (same 4 o4.0) (same 5 o5.0) (same 6 o6.0) (same 7 o6.1)
  where
    same : (c : ℕ) → unlike ws c / 2 ^ i % 2 ≡ 0 → get_or ws c 0 / 2 ^ i % 2 ≡ get_or ws 0 0 / 2 ^ i % 2
    same c q = sym (xor_quiet (get_or ws 0 0) (get_or ws c 0) i q)

-- five words from q on are the signs of the nx samples from `base` on
module _ (s : List ℕ) (cut : Cut) (base nx : ℕ) (ws : List ℕ) (q : ℕ) (is : (w : ℕ) → w < 5 → get_or ws (q + w) 0 ≡ row_from s cut.t base nx w) where
  abbrev sign : ℕ → ℕ
  sign x = bit (ltb x nx && positive cut (get_or s (x + base) 0))

  word_of_row : (w : ℕ) → w < 5 → Word (get_or ws (q + w) 0) (λ i. sign (64 * w + i)) 64
  unfolding row_from
  word_of_row w h = record { is = is w h; bit = λ i. bit_le (ltb (64 * w + i) nx && positive cut (get_or s (64 * w + i + base) 0)) }

  further_of_row : (w : ℕ) → w < 4 → Word (further_at ws (q + w)) (λ i. sign (64 * w + (1 + i))) 64
  unfolding further_of row_from
  further_of_row w h =
      word_further (word_of_row w (omega arith))
      (record { is = ap (λ (p : ℕ). get_or ws p 0) next ∙ is (w + 1) (omega arith); bit = λ i. bit_le (ltb (64 * (w + 1) + i) nx && positive cut (get_or s (64 * (w + 1) + i + base) 0)) })
      (ap sign seam)
    where
      next : q + w + 1 ≡ q + (w + 1)
      next = omega arith

      seam : 64 * w + 64 ≡ 64 * (w + 1) + 0
      seam = omega arith

  sign_in : (x : ℕ) → x < nx → sign x ≡ bit (positive cut (get_or s (x + base) 0))
  sign_in x h = simp (lt-ltb x nx h)

  row_bit_is : (w i : ℕ) → w < 4 → i < 64 → 64 * w + i < nx → get_or ws (q + w) 0 / 2 ^ i % 2 ≡ bit (positive cut (get_or s (64 * w + i + base) 0))
  row_bit_is w i hw hi hx = word_bit (word_of_row w (omega arith)) i hi ∙ sign_in (64 * w + i) hx

  row_further_is : (w i : ℕ) → w < 4 → i < 64 → 64 * w + i + 1 < nx → further_at ws (q + w) / 2 ^ i % 2 ≡ bit (positive cut (get_or s (64 * w + i + 1 + base) 0))
  row_further_is w i hw hi hx = word_bit (further_of_row w hw) i hi ∙ ap sign next ∙ sign_in (64 * w + i + 1) hx
    where
      next : 64 * w + (1 + i) ≡ 64 * w + i + 1
      next = omega arith

-- the two rows of a window
module _ {cut : Cut} {nx : ℕ} {window : List ℕ} {j : ℕ} {ws : List ℕ} (r : TwoRows cut nx window j ws) (w i : ℕ) (hw : w < 4) (hi : i < 64) where
  five : 5 * j + w + 5 ≡ 5 * j + 5 + w
  five = omega arith

  low_bit : 64 * w + i < nx → get_or ws (5 * j + w) 0 / 2 ^ i % 2 ≡ bit (positive cut (get_or window (64 * w + i) 0))
  low_bit hx = row_bit_is window cut 0 nx ws (5 * j) r.low w i hw hi hx ∙ ap (λ (x : ℕ). bit (positive cut (get_or window x 0))) (add-zero (64 * w + i))

  low_further : 64 * w + i + 1 < nx → further_at ws (5 * j + w) / 2 ^ i % 2 ≡ bit (positive cut (get_or window (64 * w + i + 1) 0))
  low_further hx = row_further_is window cut 0 nx ws (5 * j) r.low w i hw hi hx ∙ ap (λ (x : ℕ). bit (positive cut (get_or window x 0))) (add-zero (64 * w + i + 1))

  high_bit : 64 * w + i < nx → get_or ws (5 * j + w + 5) 0 / 2 ^ i % 2 ≡ bit (positive cut (get_or window (64 * w + i + nx) 0))
  high_bit hx = ap (λ (q : ℕ). get_or ws q 0 / 2 ^ i % 2) five ∙ row_bit_is window cut nx nx ws (5 * j + 5) r.high w i hw hi hx

  high_further : 64 * w + i + 1 < nx → further_at ws (5 * j + w + 5) / 2 ^ i % 2 ≡ bit (positive cut (get_or window (64 * w + i + 1 + nx) 0))
  high_further hx = ap (λ (q : ℕ). further_at ws q / 2 ^ i % 2) five ∙ row_further_is window cut nx nx ws (5 * j + 5) r.high w i hw hi hx

module _ {cut : Cut} {nx : ℕ} {lo hi : List ℕ} {j : ℕ} {a b : List ℕ} (lower : TwoRows cut nx lo j a) (upper : TwoRows cut nx hi j b)
    (w i : ℕ) (hw : w < 4) (hi64 : i < 64) (hx : 64 * w + i + 1 < nx) where
  -- bit i of word c is the sign of corner c of the cube
  pub corner_bit : (c : ℕ) → c < 8
      → get_or (eight_of a b (5 * j + w)) c 0 / 2 ^ i % 2 ≡ bit (positive cut (corner_sample (window_corners nx lo hi (64 * w + i)) c))
  unfolding eight_of window_corners
  corner_bit =
      corner_cases (λ c. get_or (eight_of a b (5 * j + w)) c 0 / 2 ^ i % 2 ≡ bit (positive cut (corner_sample (window_corners nx lo hi (64 * w + i)) c)))
      (low_bit lower w i hw hi64 (omega arith))
      (low_further lower w i hw hi64 hx)
      (high_bit lower w i hw hi64 (omega arith))
      (high_further lower w i hw hi64 hx)
      (low_bit upper w i hw hi64 (omega arith))
      (low_further upper w i hw hi64 hx)
      (high_bit upper w i hw hi64 (omega arith))
      (high_further upper w i hw hi64 hx)

  -- the sign pattern of the cube
  pub pattern_is : pattern_at (eight_of a b (5 * j + w)) i ≡ pattern_of cut (window_corners nx lo hi (64 * w + i))
  unfolding pattern_at pattern_of
  pattern_is =
      pack_cong (λ c. get_or (eight_of a b (5 * j + w)) c 0 / 2 ^ i % 2) (λ c. bit (sign_of c)) 8 corner_bit ∙ pack_mask sign_of 8
    where
      sign_of : ℕ → Bool
      sign_of c = positive cut (corner_sample (window_corners nx lo hi (64 * w + i)) c)

  -- a cube whose bit is 0 has the sign of corner 0 at all its corners
  pub active_quiet : active_of (eight_of a b (5 * j + w)) / 2 ^ i % 2 ≡ 0
      → (c : ℕ) → c < 8 → positive cut (corner_sample (window_corners nx lo hi (64 * w + i)) c) ≡ positive cut (corner_sample (window_corners nx lo hi (64 * w + i)) 0)
  active_quiet e c h = bit_same _ _ (sym (corner_bit c h) ∙ quiet_words (eight_of a b (5 * j + w)) i e c h ∙ corner_bit 0 (omega arith))
