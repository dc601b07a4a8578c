-- What a refusal of the program names: the first wrong line, all lines before it being right, and in it the first wrong byte. And back: such a line decides.
-- Assumes nothing.
use Prim.Native.Nat.{ℕ, ◌+◌, ◌-◌, ◌*◌, ◌/◌, ◌%◌, ◌≤◌, ◌<◌}
use mathlib.Core.Path.{◌≡◌, refl, sym, ap, subst, ◌∙◌}
use mathlib.Core.Logic.{◌⊎◌, inl, inr}
use mathlib.Core.List.{List}
use native.Mathlib.Omega.{arith}
use borrow.Author.Tests.{ne_eqb}
use Rattle.laws.proofs.Tests.{lt_or_ge}
use Rattle.block.specs.declared.Refusal.{Refusal}
use Rattle.block.specs.declared.Size.{Size}
use Rattle.block.specs.declared.Checked.{Checked}
use Rattle.block.specs.declared.Checked.TheVariants.{Passes, Refuses}
use Rattle.block.specs.Answer.{refuses}
use Rattle.block.specs.Rows.{axis_row, threshold_row}
use Rattle.block.proofs.Order.{passes_refuses, order_passes, order_first, order_rest, order_last}
use Rattle.block.proofs.Rows.{given_small}
use Rattle.reading.specs.Text.{ended, read_at}
use Rattle.reading.specs.Faults.{Fault, none, missing, short, long, wrong, fault_at, line_column, fault_row, line_row}
use Rattle.reading.specs.Input.{row_place, first_line_row, surplus_row, lines_row, large_row, size_read, cut_read, input_verdict}
use Rattle.reading.specs.Words.{line_start, line_digits, fault_of, LineIs, RightBefore, NamesByte, NamesLine}
use Rattle.reading.proofs.Axes.{AtMostEight, at_most_eight}
use Rattle.reading.proofs.Rows.{AllPass, FirstAmong, row_check, row_refuses, rows_pass, lines_split, lines_all, surplus_said, surplus_none}
use Rattle.reading.proofs.Verdicts.{first_refuses, lines_decide, of_row, AtLines, verdict_splits}
use Rattle.reading.proofs.Words.{line_column_back, column_of, fault_exactly, inside_line}

-- ---- a line by its number

start_row : (nx j : ℕ) → line_start nx (j + 2) ≡ row_place nx j
start_row nx j = rw (ne_eqb (j + 2) 1 (λ e. absurd (omega (arith, e)))) (ap (row_place nx) (back j))
  where
    back : (j : ℕ) → j + 2 - 2 ≡ j
    back j = omega arith

digits_row : (nx j : ℕ) → line_digits nx (j + 2) ≡ 4 * nx
digits_row nx j = rw (ne_eqb (j + 2) 1 (λ e. absurd (omega (arith, e))))

row_passes : (line : ℕ) (f : Fault) → fault_row line f ≡ Passes → f ≡ none
row_passes line none e = refl
row_passes line missing e = absurd (passes_refuses (sym e))
row_passes line (short c) e = absurd (passes_refuses (sym e))
row_passes line (long c) e = absurd (passes_refuses (sym e))
row_passes line (wrong c) e = absurd (passes_refuses (sym e))

module _ (bytes : List ℕ) (nx : ℕ) where
  -- the check of row j is that of line j + 2
  row_line : (j : ℕ) → row_check bytes nx j ≡ line_row bytes (j + 2) (line_start nx (j + 2)) (line_digits nx (j + 2))
  row_line j = rw (start_row nx j, digits_row nx j)

  line_right : (line : ℕ) → line_row bytes line (line_start nx line) (line_digits nx line) ≡ Passes → LineIs bytes nx line none
  line_right line e = (fault_exactly bytes (line_start nx line) (line_digits nx line) none).0 (row_passes line (fault_at bytes (line_start nx line) (line_digits nx line)) e)

  -- line 1 and the rows before row j
  right_before : (j : ℕ) → first_line_row bytes ≡ Passes → AllPass (row_check bytes nx) j → RightBefore bytes nx (j + 2)
  right_before j first rows m low h = go (lt_or_ge m 2)
    where
      go : (m < 2) ⊎ (2 ≤ m) → LineIs bytes nx m none
      go (inl l) =
          let e : m ≡ 1 = omega (arith, low, l) in
          subst (λ (k : ℕ). LineIs bytes nx k none) (sym e) (line_right 1 first)
      go (inr g) =
          let e : m ≡ m - 2 + 2 = omega (arith, g) in
          subst (λ (k : ℕ). LineIs bytes nx k none) (sym e) (line_right (m - 2 + 2) (sym (row_line (m - 2)) ∙ rows (m - 2) (omega (arith, g, h))))

  -- ---- a line that is refused

  pub record LineAtFault (rows : ℕ) (x : Refusal) : Type 0 where
    pub line : ℕ
    pub low : 1 ≤ line
    pub high : line ≤ rows + 1
    pub few : line ≤ 65
    pub narrow : line_digits nx line ≤ 32
    pub earlier : RightBefore bytes nx line
    pub refuses : line_row bytes line (line_start nx line) (line_digits nx line) ≡ Refuses x

  module _ (rows : ℕ) (x : Refusal) where
    at_first : first_line_row bytes ≡ Refuses x → LineAtFault rows x
    at_first e = record {
      line = 1;
      low = omega arith;
      high = omega arith;
      few = omega arith;
      narrow = omega arith;
      earlier = λ m low h. absurd (omega (arith, low, h));
      refuses = e;
    }

    at_row : nx ≤ 8 → rows ≤ 64 → first_line_row bytes ≡ Passes → FirstAmong (row_check bytes nx) rows x → LineAtFault rows x
    at_row hx hr first r = record {
      line = r.place + 2;
      low = omega arith;
      high = omega (arith, r.there);
      few = omega (arith, r.there, hr);
      narrow = rw (digits_row nx r.place) (omega (arith, hx));
      earlier = right_before r.place first r.before;
      refuses = sym (row_line r.place) ∙ r.refuses;
    }

    -- ---- what it names

    -- a byte, by the halves of the value, which are small
    abbrev Byte : Type 0
    Byte = (10 ≤ x.number) × NamesByte bytes nx rows x × (x.value / 65536 ≤ 65) × (x.value % 65536 ≤ 33)

    abbrev Line : Type 0
    Line = (x.number ≡ 8) × NamesLine bytes nx rows x

    module _ (a : LineAtFault rows x) where
      byte : (m c : ℕ) (f : Fault) → 10 ≤ m → LineIs bytes nx a.line f → c ≤ line_digits nx a.line → fault_of m c ≡ f → refuses m (line_column a.line c) ≡ Refuses x → Byte
      byte m c f ten is inside kind e =
          let told = of_row x m (line_column a.line c) e in
          let value : x.value ≡ line_column a.line c = told.1 ∙ given_small (line_column a.line c) (omega (arith, inside, a.narrow, a.few)) in
          let back = line_column_back a.line c (omega (arith, inside, a.narrow)) in
          let line : x.value / 65536 ≡ a.line = ap (λ (v : ℕ). v / 65536) value ∙ back.0 in
          let column : x.value % 65536 ≡ c + 1 = ap (λ (v : ℕ). v % 65536) value ∙ back.1 in
          let before : x.value % 65536 - 1 ≡ c = omega (arith, column) in (
            omega (arith, ten, told.0),
            record {
              line_low = rw line a.low;
              line_high = rw line a.high;
              column_low = rw column (omega arith);
              earlier = rw line a.earlier;
              here = rw (told.0, line, before, kind) is;
            },
            rw line a.few,
            rw column (omega (arith, inside, a.narrow)),
          )

      named : Line ⊎ Byte
      named = go (fault_at bytes (line_start nx a.line) (line_digits nx a.line)) ((fault_exactly bytes (line_start nx a.line) (line_digits nx a.line) _).0 refl) a.refuses
        where
          inside : (f : Fault) → LineIs bytes nx a.line f → column_of f ≤ line_digits nx a.line
          inside = inside_line bytes (line_start nx a.line) (line_digits nx a.line)

          go : (f : Fault) → LineIs bytes nx a.line f → fault_row a.line f ≡ Refuses x → Line ⊎ Byte
          go none is e = absurd (passes_refuses e)
          go missing is e =
              let told = of_row x 8 a.line e in
              let line : x.value ≡ a.line = told.1 ∙ given_small a.line (omega (arith, a.few)) in
              inl (told.0, record { line_low = rw line a.low; earlier = rw line a.earlier; here = inl (rw line a.high, rw line is) })
          go (short c) is e = inr (byte 10 c (short c) (omega arith) is (inside (short c) is) refl e)
          go (long c) is e = inr (byte 11 c (long c) (omega arith) is (inside (long c) is) refl e)
          go (wrong c) is e = inr (byte 12 c (wrong c) (omega arith) is (inside (wrong c) is) refl e)

-- ---- the whole input

module _ (bytes : List ℕ) (x : Refusal) where
  abbrev nx_read : ℕ
  nx_read = (size_read bytes).nx

  abbrev rows_read : ℕ
  rows_read = (size_read bytes).ny * (size_read bytes).nz

  -- a refusal that speaks of a line names it, or the byte in it
  found : input_verdict bytes ≡ Refuses x → (x.number ≡ 8) ⊎ (10 ≤ x.number) → Line bytes nx_read rows_read x ⊎ Byte bytes nx_read rows_read x
  found e n = go (verdict_splits bytes x n e)
    where
      rows : AtLines bytes x → Line bytes nx_read rows_read x ⊎ Byte bytes nx_read rows_read x
      rows h = split (lines_split bytes nx_read rows_read x h.lines)
        where
          eight : AtMostEight (size_read bytes).nx (size_read bytes).ny (size_read bytes).nz
          eight = at_most_eight _ _ _ h.large

          split : FirstAmong (row_check bytes nx_read) rows_read x ⊎ (AllPass (row_check bytes nx_read) rows_read × (surplus_row bytes (rows_read + 2) (row_place nx_read rows_read) ≡ Refuses x))
              → Line bytes nx_read rows_read x ⊎ Byte bytes nx_read rows_read x
          split (inl r) = named bytes nx_read rows_read x (at_row bytes nx_read rows_read x eight.x eight.rows h.first r)
          split (inr r) =
              let s = surplus_said bytes (rows_read + 2) (row_place nx_read rows_read) x (omega (arith, eight.rows)) r.1 in
              inl (s.0, record { line_low = rw s.1 (omega arith); earlier = rw s.1 (right_before bytes nx_read rows_read h.first r.0); here = inr (s.1, s.2) })

      go : (first_line_row bytes ≡ Refuses x) ⊎ AtLines bytes x → Line bytes nx_read rows_read x ⊎ Byte bytes nx_read rows_read x
      go (inl f) = named bytes nx_read rows_read x (at_first bytes nx_read rows_read x f)
      go (inr h) = rows h

  the_byte : input_verdict bytes ≡ Refuses x → 10 ≤ x.number → Byte bytes nx_read rows_read x
  the_byte e ten = go (found e (inr ten))
    where
      go : Line bytes nx_read rows_read x ⊎ Byte bytes nx_read rows_read x → Byte bytes nx_read rows_read x
      go (inl h) = absurd (omega (arith, ten, h.0))
      go (inr h) = h

  -- 10, 11 and 12: the byte that the value names is the first wrong one, of the first wrong line
  pub byte_named : input_verdict bytes ≡ Refuses x → 10 ≤ x.number → NamesByte bytes (size_read bytes).nx ((size_read bytes).ny * (size_read bytes).nz) x
  byte_named e ten = (the_byte e ten).1

  -- line and column are so small that the value is not cut
  pub byte_small : input_verdict bytes ≡ Refuses x → 10 ≤ x.number → (x.value / 65536 ≤ 65) × (x.value % 65536 ≤ 33)
  byte_small e ten = let h = the_byte e ten in (h.2, h.3)

  -- 8: the line that the value names is missing or surplus, and all lines before it are right
  pub line_named : input_verdict bytes ≡ Refuses x → x.number ≡ 8 → NamesLine bytes (size_read bytes).nx ((size_read bytes).ny * (size_read bytes).nz) x
  line_named e eight = go (found e (inl eight))
    where
      go : Line bytes nx_read rows_read x ⊎ Byte bytes nx_read rows_read x → NamesLine bytes nx_read rows_read x
      go (inl h) = h.1
      go (inr h) = absurd (omega (arith, eight, h.0))

-- ---- and back: what the words say of an input decides its verdict

module _ (bytes : List ℕ) (x : Refusal) where
  abbrev head : Size
  head = size_read bytes

  abbrev width : ℕ
  width = (size_read bytes).nx

  abbrev height : ℕ
  height = (size_read bytes).ny * (size_read bytes).nz

  check_of : (line : ℕ) (f : Fault) (k : Checked) → LineIs bytes width line f → fault_row line f ≡ k → line_row bytes line (line_start width line) (line_digits width line) ≡ k
  check_of line f k h e = ap (fault_row line) ((fault_exactly bytes (line_start width line) (line_digits width line) f).1 h) ∙ e

  -- a wrong line 1 comes before all else
  pub first_line_decides : (f : Fault) → LineIs bytes (size_read bytes).nx 1 f → fault_row 1 f ≡ Refuses x → input_verdict bytes ≡ Refuses x
  first_line_decides f h e = first_refuses bytes head (cut_read bytes) x (check_of 1 f (Refuses x) h e)

  -- behind line 1, once rows 1, 9 and 3 pass, the first wrong line
  module _ (axes : axis_row (size_read bytes).nx (size_read bytes).ny (size_read bytes).nz ≡ Passes) (large : large_row (size_read bytes).nx (size_read bytes).ny (size_read bytes).nz ≡ Passes)
      (cut : threshold_row (cut_read bytes) ≡ Passes) where
    to_lines : LineIs bytes width 1 none → input_verdict bytes ≡ lines_row bytes width height
    to_lines h =
        lines_decide bytes head (cut_read bytes) (check_of 1 none Passes h refl)
        (order_passes (axis_row head.nx head.ny head.nz) _ axes ∙ order_last _ ∙ large) cut

    rows_before : (j : ℕ) → RightBefore bytes width (j + 2) → AllPass (row_check bytes width) j
    rows_before j right i l = row_line bytes width i ∙ check_of (i + 2) none Passes (right (i + 2) (omega arith) (omega (arith, l))) refl

    pub row_decides : (j : ℕ) (f : Fault) → j < (size_read bytes).ny * (size_read bytes).nz → RightBefore bytes (size_read bytes).nx (j + 2)
        → LineIs bytes (size_read bytes).nx (j + 2) f → fault_row (j + 2) f ≡ Refuses x → input_verdict bytes ≡ Refuses x
    row_decides j f l right h e =
        to_lines (right 1 (omega arith) (omega arith))
        ∙ row_refuses bytes width height x (record { place = j; there = l; before = rows_before j right; refuses = row_line bytes width j ∙ check_of (j + 2) f (Refuses x) h e })

    pub surplus_decides : RightBefore bytes (size_read bytes).nx ((size_read bytes).ny * (size_read bytes).nz + 2)
        → (read_at bytes (row_place (size_read bytes).nx ((size_read bytes).ny * (size_read bytes).nz)) ≡ ended → ⊥) → input_verdict bytes ≡ refuses 8 ((size_read bytes).ny * (size_read bytes).nz + 2)
    surplus_decides right h =
        to_lines (right 1 (omega arith) (omega arith)) ∙ rows_pass bytes width height (rows_before height right) ∙ rw (ne_eqb (read_at bytes (row_place width height)) ended h)

-- no refusal: all lines are right, and nothing stands behind the last row
pub lines_right : (bytes : List ℕ) → input_verdict bytes ≡ Passes
    → RightBefore bytes (size_read bytes).nx ((size_read bytes).ny * (size_read bytes).nz + 2) × (read_at bytes (row_place (size_read bytes).nx ((size_read bytes).ny * (size_read bytes).nz)) ≡ ended)
lines_right bytes e =
    let n = size_read bytes in
    let behind = order_rest (first_line_row bytes) _ e in
    let last = order_rest (threshold_row (cut_read bytes)) _ (order_rest (large_row n.nx n.ny n.nz) _ (order_rest (axis_row n.nx n.ny n.nz) _ behind)) in
    let rows = lines_all bytes n.nx (n.ny * n.nz) (sym (order_last _) ∙ last) in
    (right_before bytes n.nx (n.ny * n.nz) (order_first (first_line_row bytes) _ e) rows.0, surplus_none bytes _ _ rows.1)
