-- The checks of a line mean what the paper's words say: each fault exactly, no two at once, and line and column read back from the value.
-- Assumes nothing.
use Prim.Native.Nat.{ℕ, ◌+◌, ◌-◌, ◌/◌, ◌%◌, ◌≤◌, ◌<◌}
use mathlib.Core.Path.{◌≡◌, refl, sym, ap, subst, ◌∙◌}
use mathlib.Core.Logic.{◌↔◌, ◌⊎◌, inl, inr}
use mathlib.Core.Bool.{Bool, true, false, cond, true≢false}
use mathlib.Core.List.{List}
use native.Mathlib.Omega.{arith}
use lib.Dec.{eqb}
use borrow.Author.Tests.{eqb-true, eqb-false, eq-eqb, ne_eqb}
use Rattle.laws.proofs.Leading.{leading_holds, leading_stops}
use Rattle.laws.proofs.Tests.{lt_or_ge}
use Rattle.block.specs.declared.Checked.{Checked}
use Rattle.block.specs.declared.Checked.TheVariants.{Passes, Refuses}
use Rattle.block.specs.Answer.{given}
use Rattle.block.proofs.Rows.{given_small}
use Rattle.reading.specs.Text.{LF, ended, read_at, is_digit, right_byte, right_bytes}
use Rattle.reading.specs.Faults.{Fault, none, missing, short, long, wrong, fault_by, fault_at, line_column, fault_row, line_row}
use Rattle.reading.specs.Words.{fault_of, FirstWrong, FaultIs}
use Rattle.reading.proofs.Faults.{by_end, by_long, by_wrong}
use Rattle.reading.proofs.Line.{right_at, right_digit, right_end, right_most, wrong_at, all_right}

-- "the value holds the line in its upper 16 bits and the column, from 1, in its lower ones"
pub line_column_back : (line c : ℕ) → c < 65535 → (line_column line c / 65536 ≡ line) × (line_column line c % 65536 ≡ c + 1)
line_column_back line c h = (omega arith, omega arith)

-- the column that a fault has, and the fault read back from what its row says
abbrev pub column_of : Fault → ℕ
column_of none = 0
column_of missing = 0
column_of (short c) = c
column_of (long c) = c
column_of (wrong c) = c

abbrev read_back : Checked → Fault
read_back Passes = none
read_back (Refuses x) = cond (eqb x.number 8) missing (fault_of x.number (x.value % 65536 - 1))

column_back : (line c : ℕ) → line < 65535 → c < 65535 → given (line_column line c) % 65536 - 1 ≡ c
column_back line c l h = rw (given_small (line_column line c) (omega (arith, l, h))) (omega (arith, h))

fault_read : (line : ℕ) (f : Fault) → line < 65535 → column_of f < 65535 → read_back (fault_row line f) ≡ f
fault_read line none l h = refl
fault_read line missing l h = refl
fault_read line (short c) l h = ap short (column_back line c l h)
fault_read line (long c) l h = ap long (column_back line c l h)
fault_read line (wrong c) l h = ap wrong (column_back line c l h)

module _ (bytes : List ℕ) (p n : ℕ) where
  -- ---- the first wrong byte

  first_wrong : (c b : ℕ) → FirstWrong bytes p n c b → right_bytes bytes p n ≡ c
  first_wrong c b h = sym (wrong_at bytes p n c h.inside h.before (ap (right_byte n c) h.there ∙ h.not_right))

  the_wrong : right_bytes bytes p n ≤ n → FirstWrong bytes p n (right_bytes bytes p n) (read_at bytes (p + right_bytes bytes p n))
  unfolding right_bytes
  the_wrong h = record {
    inside = h;
    before = leading_holds (right_at bytes p n) (n + 1);
    there = refl;
    not_right = leading_stops (right_at bytes p n) (n + 1) (omega (arith, h));
  }

  -- an LF in the last column is right
  not_end : (b : ℕ) → FirstWrong bytes p n n b → b ≡ LF → ⊥
  not_end b h e = true≢false (sym (right_end n n b (omega arith) ∙ eq-eqb b LF e) ∙ h.not_right)

  -- ---- from the words to the check

  by_first : (c b : ℕ) → FirstWrong bytes p n c b → fault_at bytes p n ≡ fault_by n c b
  unfolding fault_at
  by_first c b h = rw (first_wrong c b h, ne_eqb c (n + 1) (λ e. absurd (omega (arith, e, h.inside))), h.there)

  fault_back : (f : Fault) → FaultIs bytes p n f → fault_at bytes p n ≡ f
  unfolding fault_at
  fault_back none h =
      let all : n + 1 ≡ right_bytes bytes p n = all_right bytes p n (n + 1) refl (λ c l. h c (omega (arith, l))) in
      rw (← all, eq-eqb (n + 1) (n + 1) refl)
  fault_back missing h = by_first 0 ended h
  fault_back (short c) (inl h) = by_first c LF h
  fault_back (short c) (inr h) = by_first c ended h.0 ∙ by_end n c ended refl (λ e. absurd (omega (arith, e, h.1)))
  fault_back (long c) h =
      let b = h.0 in
      by_first c b h.1 ∙ by_long n c b h.3 (not_end b (subst (λ (m : ℕ). FirstWrong bytes p n m b) h.2 h.1)) h.2
  fault_back (wrong c) h =
      let b = h.0 in
      by_first c b h.1 ∙ by_wrong n c b h.3 h.4 (λ e. absurd (omega (arith, e, h.2)))

  -- ---- from the check to the words

  by_cases : (c b : ℕ) → FirstWrong bytes p n c b → (w x y z : Bool) → eqb b ended ≡ w → eqb c 0 ≡ x → eqb b LF ≡ y → eqb c n ≡ z
      → FaultIs bytes p n (cond w (cond x missing (short c)) (cond y (short c) (cond z (long c) (wrong c))))
  by_cases c b h true true y z e₁ e₂ e₃ e₄ = rw (eqb-true b ended e₁, eqb-true c 0 e₂) at h
  by_cases c b h true false y z e₁ e₂ e₃ e₄ = inr (rw (eqb-true b ended e₁) at h, omega (arith, eqb-false c 0 e₂))
  by_cases c b h false x true z e₁ e₂ e₃ e₄ = inl (rw (eqb-true b LF e₃) at h)
  by_cases c b h false x false true e₁ e₂ e₃ e₄ = (b, h, eqb-true c n e₄, eqb-false b ended e₁)
  by_cases c b h false x false false e₁ e₂ e₃ e₄ = (b, h, omega (arith, h.inside, eqb-false c n e₄), eqb-false b ended e₁, eqb-false b LF e₃)

  all_there : right_bytes bytes p n ≡ n + 1 → FaultIs bytes p n none
  unfolding right_bytes
  all_there e c l = leading_holds (right_at bytes p n) (n + 1) c (omega (arith, l, e))

  all_none : right_bytes bytes p n ≡ n + 1 → fault_at bytes p n ≡ none
  unfolding fault_at
  all_none e = rw (eq-eqb (right_bytes bytes p n) (n + 1) e)

  fault_there : FaultIs bytes p n (fault_at bytes p n)
  fault_there = go (lt_or_ge n (right_bytes bytes p n))
    where
      go : (n < right_bytes bytes p n) ⊎ (right_bytes bytes p n ≤ n) → FaultIs bytes p n (fault_at bytes p n)
      go (inl l) = subst (FaultIs bytes p n) (sym (all_none (omega (arith, l, right_most bytes p n)))) (all_there (omega (arith, l, right_most bytes p n)))
      go (inr g) =
          let h = the_wrong g in
          subst (FaultIs bytes p n) (sym (by_first _ _ h)) (by_cases _ _ h _ _ _ _ refl refl refl refl)

  -- ---- the theorems

  -- a fault is found exactly if the paper's words hold of it
  pub fault_exactly : (f : Fault) → (fault_at bytes p n ≡ f) ↔ FaultIs bytes p n f
  fault_exactly f = (λ e. subst (FaultIs bytes p n) e fault_there, fault_back f)

  pub inside_line : (f : Fault) → FaultIs bytes p n f → column_of f ≤ n
  inside_line none h = omega arith
  inside_line missing h = omega arith
  inside_line (short c) (inl h) = h.inside
  inside_line (short c) (inr h) = h.0.inside
  inside_line (long c) h = h.1.inside
  inside_line (wrong c) h = h.1.inside

  -- a check says that of a line, with this column, exactly if it is so
  pub row_exactly : (line : ℕ) (f : Fault) → line < 65535 → n < 65535 → column_of f ≤ n → (line_row bytes line p n ≡ fault_row line f) ↔ FaultIs bytes p n f
  row_exactly line f few narrow inside = (there, λ h. ap (fault_row line) (fault_back f h))
    where
      there : line_row bytes line p n ≡ fault_row line f → FaultIs bytes p n f
      there e =
          (fault_exactly f).0
          (sym (fault_read line (fault_at bytes p n) few (omega (arith, narrow, inside_line (fault_at bytes p n) fault_there)))
          ∙ ap read_back e
          ∙ fault_read line f few (omega (arith, narrow, inside)))

  -- no two hold at once
  pub fault_one : (f g : Fault) → FaultIs bytes p n f → FaultIs bytes p n g → f ≡ g
  fault_one f g h k = sym (fault_back f h) ∙ fault_back g k

  -- "lines of upper-case hexadecimal, each ended by one LF"
  pub line_exactly : (fault_at bytes p n ≡ none) ↔ (((c : ℕ) → c < n → is_digit (read_at bytes (p + c)) ≡ true) × (read_at bytes (p + n) ≡ LF))
  line_exactly = (λ e. there ((fault_exactly none).0 e), λ h. (fault_exactly none).1 (back h))
    where
      there : FaultIs bytes p n none → ((c : ℕ) → c < n → is_digit (read_at bytes (p + c)) ≡ true) × (read_at bytes (p + n) ≡ LF)
      there h = (
        λ c l. sym (right_digit n c (read_at bytes (p + c)) l) ∙ h c (omega (arith, l)),
        eqb-true _ _ (sym (right_end n n (read_at bytes (p + n)) (omega arith)) ∙ h n (omega arith)),
      )

      back : ((c : ℕ) → c < n → is_digit (read_at bytes (p + c)) ≡ true) × (read_at bytes (p + n) ≡ LF) → FaultIs bytes p n none
      back h c l = go (lt_or_ge c n)
        where
          go : (c < n) ⊎ (n ≤ c) → right_byte n c (read_at bytes (p + c)) ≡ true
          go (inl m) = right_digit n c (read_at bytes (p + c)) m ∙ h.0 c m
          go (inr m) =
              let e : c ≡ n = omega (arith, l, m) in
              right_end n c (read_at bytes (p + c)) m ∙ eq-eqb _ _ (ap (λ (d : ℕ). read_at bytes (p + d)) e ∙ h.1)
