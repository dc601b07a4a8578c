-- What stands past the first 2,130 bytes of an input changes nothing that is read: each number, line and sample is the same in the first bytes.
-- Assumes nothing.
use Prim.Native.Nat.{ℕ, zero, suc, ◌+◌, ◌*◌, ◌/◌, ◌%◌, ◌≤◌, ◌<◌}
use mathlib.Core.Path.{◌≡◌, refl, ap, ap₂}
use mathlib.Core.Logic.{◌⊎◌, inl, inr}
use mathlib.Core.Bool.{cond}
use mathlib.Core.List.{List, [], ◌∷◌, ◌++◌}
use native.Mathlib.Nat.{mul-le-mul, div-lt_iff_lt-mul, mod-lt, mul_comm}
use native.Mathlib.Omega.{arith}
use lib.Dec.{eqb}
use borrow.Author.Tests.{eq-eqb}
use lib.ListN.{take}
use lib.Seq.{get_or-take}
use Rattle.laws.proofs.Below.{below_same}
use Rattle.laws.proofs.Leading.{leading_same}
use Rattle.laws.proofs.Tests.{lt_or_ge}
use Rattle.laws.proofs.Index.{wide}
use Rattle.block.specs.declared.Size.{Size}
use Rattle.block.specs.declared.Checked.{Checked}
use Rattle.block.specs.declared.Checked.TheVariants.{Passes}
use Rattle.block.specs.Answer.{refuses, in_order}
use Rattle.block.specs.Numbering.{sample_count}
use Rattle.reading.specs.Text.{ended, read_at, digit_of, number_at, right_byte, right_bytes}
use Rattle.reading.specs.Faults.{none, fault_by, fault_at, fault_row, line_row}
use Rattle.reading.specs.Input.{row_place, first_line_row, lines_row, samples_read}
use Rattle.reading.specs.Steps.{sample_read}
use Rattle.reading.proofs.Line.{right_at, right_most}
use Rattle.reading.proofs.Reading.{rows_small}
use Rattle.reading.proofs.Rows.{row_check}

-- a row of at most 8 samples and its LF, of at most 64 rows
row_inside : (nx j : ℕ) → nx ≤ 8 → j < 64 → row_place nx j + 4 * nx ≤ 2128
row_inside nx j hx hj = omega (arith, mul-le-mul (top j hj) (wide nx hx))
  where
    top : (j : ℕ) → j < 64 → j ≤ 63
    top j h = omega arith

    wide : (nx : ℕ) → nx ≤ 8 → 4 * nx + 1 ≤ 33
    wide nx h = omega arith

-- a sample of such rows
sample_inside : (nx rows i : ℕ) → nx ≤ 8 → rows ≤ 64 → i < nx * rows → row_place nx (i / nx) + 4 * (i % nx) + 4 ≤ 2130
sample_inside nx rows i hx hr h =
    let some = wide nx rows i h in
    let row : i / nx < rows = (div-lt_iff_lt-mul some).1 (rw (mul_comm nx rows) at h) in
    last nx (i / nx) (i % nx) (row_inside nx (i / nx) hx (omega (arith, row))) (mod-lt i some)
  where
    last : (nx j r : ℕ) → row_place nx j + 4 * nx ≤ 2128 → r < nx → row_place nx j + 4 * r + 4 ≤ 2130
    last nx j r h l = omega arith

module _ (bytes : List ℕ) (B : ℕ) where
  abbrev first : List ℕ
  first = take B bytes

  same_read : (p : ℕ) → p < B → read_at first p ≡ read_at bytes p
  same_read p h = get_or-take B bytes p ended h

  pub same_number : (p k : ℕ) → p + k ≤ B → number_at first p k ≡ number_at bytes p k
  unfolding number_at
  same_number p zero h = refl
  same_number p (suc k) h =
      ap₂ (λ (a b : ℕ). a * 16 + digit_of b % 16) (same_number p k (omega arith)) (same_read (p + k) (omega arith))

  -- a line that ends within the first B bytes
  same_right : (p n : ℕ) → p + n < B → right_bytes first p n ≡ right_bytes bytes p n
  unfolding right_bytes
  same_right p n h = leading_same (right_at first p n) (right_at bytes p n) (n + 1) (λ c l. ap (right_byte n c) (same_read (p + c) (omega (arith, h, l))))

  same_fault : (p n : ℕ) → p + n < B → fault_at first p n ≡ fault_at bytes p n
  unfolding fault_at
  same_fault p n h = rw (same_right p n h) (go (right_bytes bytes p n) (lt_or_ge n (right_bytes bytes p n)) (right_most bytes p n))
    where
      go : (c : ℕ) → (n < c) ⊎ (c ≤ n) → c ≤ n + 1 → cond (eqb c (n + 1)) none (fault_by n c (read_at first (p + c))) ≡ cond (eqb c (n + 1)) none (fault_by n c (read_at bytes (p + c)))
      go c (inl l) m = rw (eq-eqb c (n + 1) (omega (arith, l, m)))
      go c (inr g) m = rw (same_read (p + c) (omega (arith, h, g)))

  same_row : (line p n : ℕ) → p + n < B → line_row first line p n ≡ line_row bytes line p n
  same_row line p n h = ap (fault_row line) (same_fault p n h)

  module _ (room : 2130 ≤ B) where
    -- lines of at most 32 digits, at most 64 of them, and the end behind them
    pub same_lines : (nx rows : ℕ) → nx ≤ 8 → rows ≤ 64 → lines_row first nx rows ≡ lines_row bytes nx rows
    same_lines nx rows hx hr =
        ap₂ (λ (ks : List Checked) (b : ℕ). in_order (ks ++ cond (eqb b ended) Passes (refuses 8 (rows + 2)) ∷ []))
        (below_same (λ (j : ℕ). row_check first nx j ∷ []) (λ (j : ℕ). row_check bytes nx j ∷ []) rows
        (λ j l. ap (λ (k : Checked). k ∷ []) (same_row (j + 2) (row_place nx j) (4 * nx) (omega (arith, row_inside nx j hx (omega (arith, l, hr)))))))
        (same_read (row_place nx rows) (omega (arith, rows_small nx rows hx hr)))

    pub same_samples : (n : Size) → n.nx ≤ 8 → n.ny * n.nz ≤ 64 → samples_read first n ≡ samples_read bytes n
    unfolding samples_read
    same_samples n hx hr =
        below_same (λ (i : ℕ). sample_read first n.nx i ∷ []) (λ (i : ℕ). sample_read bytes n.nx i ∷ []) (sample_count n)
        (λ i l. ap (λ (v : ℕ). v ∷ []) (same_number _ 4 (omega (arith, sample_inside n.nx (n.ny * n.nz) i hx hr l))))

    pub same_first : first_line_row first ≡ first_line_row bytes
    same_first = same_row 1 0 16 (omega arith)
