-- What the checks on an input say: the first of the rows that refuses, and which numbers and values a refusal of the program has.
use Prim.Native.Nat.{ℕ, ◌+◌, ◌*◌, ◌≤◌, ◌<◌}
use mathlib.Core.Path.{◌≡◌, sym, ap, ◌∙◌}
use mathlib.Core.Bool.{Bool, true}
use mathlib.Core.List.{List, [], ◌∷◌}
use mathlib.Core.Logic.{◌⊎◌, inl, inr}
use native.Mathlib.Omega.{arith}
use lib.Dec.{ltb, eqb}
use Rattle.block.specs.declared.Cut.{Cut}
use Rattle.block.specs.declared.Size.{Size}
use Rattle.block.specs.declared.Refusal.{Refusal}
use Rattle.block.specs.declared.Checked.{Checked}
use Rattle.block.specs.declared.Checked.TheVariants.{Passes, Refuses}
use Rattle.block.specs.Answer.{given, refuses, in_order}
use Rattle.block.specs.Grey.{no_threshold}
use Rattle.block.specs.Rows.{lowest, lowest_row, out_of_limits, axis_row, threshold_row}
use Rattle.block.proofs.Order.{order_refuses, order_passes, orders_refuse, orders_pass, order_last, order_splits, first_has, passes_refuses}
use Rattle.block.proofs.Rows.{holds_where, holds_unless, lowest_refusal}
use Rattle.reading.specs.Text.{ended, read_at}
use Rattle.reading.specs.Faults.{Fault, none, missing, short, long, wrong, fault_at, line_column, fault_row}
use Rattle.reading.specs.Input.{row_place, first_line_row, surplus_row, lines_row, large_row, size_read, cut_read, input_rows, input_verdict}
use Rattle.reading.proofs.Rows.{AllPass, FirstAmong, row_check, lines_split}

-- ---- the first of the rows that refuses

module _ (bytes : List ℕ) (n : Size) (cut : Cut) where
  -- rows 1 and 9
  abbrev axes : Checked
  axes = in_order (axis_row n.nx n.ny n.nz ∷ large_row n.nx n.ny n.nz ∷ [])

  pub first_refuses : (r : Refusal) → first_line_row bytes ≡ Refuses r → in_order (input_rows bytes n cut) ≡ Refuses r
  first_refuses r e = order_refuses (first_line_row bytes) _ r e

  module _ (first : first_line_row bytes ≡ Passes) where
    pub axes_refuse : (r : Refusal) → axes ≡ Refuses r → in_order (input_rows bytes n cut) ≡ Refuses r
    axes_refuse r e = order_passes (first_line_row bytes) _ first ∙ orders_refuse (axis_row n.nx n.ny n.nz ∷ large_row n.nx n.ny n.nz ∷ []) _ r e

    module _ (a : axes ≡ Passes) where
      behind_axes : in_order (input_rows bytes n cut) ≡ in_order (threshold_row cut ∷ lines_row bytes n.nx (n.ny * n.nz) ∷ [])
      behind_axes = order_passes (first_line_row bytes) _ first ∙ orders_pass (axis_row n.nx n.ny n.nz ∷ large_row n.nx n.ny n.nz ∷ []) _ a

      pub threshold_refuses : (r : Refusal) → threshold_row cut ≡ Refuses r → in_order (input_rows bytes n cut) ≡ Refuses r
      threshold_refuses r e = behind_axes ∙ order_refuses (threshold_row cut) _ r e

      pub lines_decide : threshold_row cut ≡ Passes → in_order (input_rows bytes n cut) ≡ lines_row bytes n.nx (n.ny * n.nz)
      lines_decide t = behind_axes ∙ order_passes (threshold_row cut) _ t ∙ order_last _

-- ---- which numbers the program gives, and that its values fit

-- a refusal of the program has the number 1, 3, or 8 to 12
abbrev ProgramNumber : Refusal → Type 0
ProgramNumber x = (x.number ≡ 1) ⊎ ((x.number ≡ 3) ⊎ ((8 ≤ x.number) × (x.number ≤ 12)))

-- and its value is given, so eight digits are enough
abbrev InProgram : Refusal → Type 0
InProgram x = ProgramNumber x × (x.value ≤ 4294967295)

told : (x : Refusal) {m : ℕ} (v : ℕ) → x ≡ record { number = m; value = given v } → (x.number ≡ m) × (x.value ≡ given v)
told x v e = (ap (λ (r : Refusal). r.number) e, ap (λ (r : Refusal). r.value) e)

pub of_row : (x : Refusal) (m v : ℕ) → refuses m v ≡ Refuses x → (x.number ≡ m) × (x.value ≡ given v)
of_row x m v e = told x v (holds_where true m v x e)

-- what is wrong with a line
of_line : (x : Refusal) (m v : ℕ) → 8 ≤ m → m ≤ 12 → refuses m v ≡ Refuses x → InProgram x
of_line x m v l h e = let k = of_row x m v e in (inr (inr (omega (arith, l, k.0), omega (arith, h, k.0))), omega (arith, k.1))

of_fault : (line : ℕ) (f : Fault) (x : Refusal) → fault_row line f ≡ Refuses x → InProgram x
of_fault line none x e = absurd (passes_refuses e)
of_fault line missing x e = of_line x 8 line (omega arith) (omega arith) e
of_fault line (short c) x e = of_line x 10 (line_column line c) (omega arith) (omega arith) e
of_fault line (long c) x e = of_line x 11 (line_column line c) (omega arith) (omega arith) e
of_fault line (wrong c) x e = of_line x 12 (line_column line c) (omega arith) (omega arith) e

of_lines : (bytes : List ℕ) (nx rows : ℕ) (x : Refusal) → lines_row bytes nx rows ≡ Refuses x → InProgram x
of_lines bytes nx rows x e = go (lines_split bytes nx rows x e)
  where
    go : FirstAmong (row_check bytes nx) rows x ⊎ (AllPass (row_check bytes nx) rows × (surplus_row bytes (rows + 2) (row_place nx rows) ≡ Refuses x)) → InProgram x
    go (inl r) = of_fault (r.place + 2) (fault_at bytes (row_place nx r.place) (4 * nx)) x r.refuses
    go (inr h) = let k = told x (rows + 2) (holds_unless (eqb (read_at bytes (row_place nx rows)) ended) 8 (rows + 2) x h.1) in (inr (inr (omega (arith, k.0), omega (arith, k.0))), omega (arith, k.1))

run_refusals : (bytes : List ℕ) (x : Refusal) → input_verdict bytes ≡ Refuses x → InProgram x
run_refusals bytes =
    first_has InProgram _ (
      of_fault 1 (fault_at bytes 0 16),
      (
        λ x e. let h = told x (lowest out_of_limits axes_read) (lowest_refusal 1 out_of_limits axes_read x e).1 in (inl h.0, omega (arith, h.1)),
        (
          λ x e. let h = told x (lowest (ltb 8) axes_read) (lowest_refusal 9 (ltb 8) axes_read x e).1 in (inr (inr (omega (arith, h.0), omega (arith, h.0))), omega (arith, h.1)),
          (
            λ x e. let h = told x (cut_read bytes).t (holds_where (no_threshold (cut_read bytes)) 3 (cut_read bytes).t x e) in (inr (inl h.0), omega (arith, h.1)),
            (of_lines bytes (size_read bytes).nx ((size_read bytes).ny * (size_read bytes).nz), tt),
          ),
        ),
      ),
    )
  where
    axes_read : List ℕ
    axes_read = (size_read bytes).nx ∷ (size_read bytes).ny ∷ (size_read bytes).nz ∷ []

pub run_numbers : (bytes : List ℕ) (x : Refusal) → input_verdict bytes ≡ Refuses x → (x.number ≡ 1) ⊎ ((x.number ≡ 3) ⊎ ((8 ≤ x.number) × (x.number ≤ 12)))
run_numbers bytes x e = (run_refusals bytes x e).0

pub run_values : (bytes : List ℕ) (x : Refusal) → input_verdict bytes ≡ Refuses x → x.value ≤ 4294967295
run_values bytes x e = (run_refusals bytes x e).1

-- ---- a refusal that speaks of a line is that of line 1, or of the lines behind it

pub record AtLines (bytes : List ℕ) (x : Refusal) : Type 0 where
  pub first : first_line_row bytes ≡ Passes
  pub large : large_row (size_read bytes).nx (size_read bytes).ny (size_read bytes).nz ≡ Passes
  pub lines : lines_row bytes (size_read bytes).nx ((size_read bytes).ny * (size_read bytes).nz) ≡ Refuses x

other : (n m : ℕ) → (n ≡ 8) ⊎ (10 ≤ n) → n ≡ m → (m ≡ 8 → ⊥) → m < 10 → ⊥
other n m (inl h) e f l = f (sym e ∙ h)
other n m (inr h) e f l = omega (arith, h, e, l)

module _ (bytes : List ℕ) (x : Refusal) (n : (x.number ≡ 8) ⊎ (10 ≤ x.number)) where
  abbrev read : Size
  read = size_read bytes

  by_lowest : {A : Type 0} (m : ℕ) (bad : A → Bool) (xs : List A) → (m ≡ 8 → ⊥) → m < 10 → lowest_row m bad xs ≡ Refuses x → ⊥
  by_lowest m bad xs f l e = other x.number m n (told x (lowest bad xs) (lowest_refusal m bad xs x e).1).0 f l

  by_threshold : threshold_row (cut_read bytes) ≡ Refuses x → ⊥
  by_threshold e = other x.number 3 n (told x (cut_read bytes).t (holds_where (no_threshold (cut_read bytes)) 3 (cut_read bytes).t x e)).0 (λ h. absurd (omega (arith, h))) (omega arith)

  -- a check that cannot have refused so has passed
  skip : (k : Checked) (ks : List Checked) → (k ≡ Refuses x → ⊥) → in_order (k ∷ ks) ≡ Refuses x → (k ≡ Passes) × (in_order ks ≡ Refuses x)
  skip k ks not e = go (order_splits k ks x e)
    where
      go : (k ≡ Refuses x) ⊎ ((k ≡ Passes) × (in_order ks ≡ Refuses x)) → (k ≡ Passes) × (in_order ks ≡ Refuses x)
      go (inl h) = absurd (not h)
      go (inr h) = h

  pub verdict_splits : input_verdict bytes ≡ Refuses x → (first_line_row bytes ≡ Refuses x) ⊎ AtLines bytes x
  verdict_splits e = go (order_splits (first_line_row bytes) _ x e)
    where
      go : (first_line_row bytes ≡ Refuses x)
          ⊎ ((first_line_row bytes ≡ Passes)
          × (in_order (axis_row read.nx read.ny read.nz ∷ large_row read.nx read.ny read.nz ∷ threshold_row (cut_read bytes) ∷ lines_row bytes read.nx (read.ny * read.nz) ∷ []) ≡ Refuses x))
          → (first_line_row bytes ≡ Refuses x) ⊎ AtLines bytes x
      go (inl f) = inl f
      go (inr f) =
          let a = skip _ _ (by_lowest 1 out_of_limits (read.nx ∷ read.ny ∷ read.nz ∷ []) (λ h. absurd (omega (arith, h))) (omega arith)) f.1 in
          let l = skip _ _ (by_lowest 9 (ltb 8) (read.nx ∷ read.ny ∷ read.nz ∷ []) (λ h. absurd (omega (arith, h))) (omega arith)) a.1 in
          let t = skip _ _ by_threshold l.1 in
          inr (record { first = f.0; large = l.0; lines = sym (order_last _) ∙ t.1 })
