-- The rows of a block, line by line, and what stands behind them: the first check that refuses decides.
-- Assumes nothing.
use Prim.Native.Nat.{ℕ, ◌+◌, ◌*◌, ◌≤◌, ◌<◌}
use mathlib.Core.Path.{◌≡◌, refl, sym, ap, ◌∙◌}
use mathlib.Core.Logic.{◌⊎◌, inl, inr}
use mathlib.Core.List.{List, [], ◌∷◌, ◌++◌}
use native.Mathlib.Omega.{arith}
use lib.Dec.{eqb}
use lib.ListN.{length, get_or, length-append, get_or-append}
use lib.Seq.{get_or_at}
use borrow.Author.Tests.{eqb-true, eq-eqb, ne_eqb}
use Rattle.laws.proofs.Over.{each, each_length, each_at}
use Rattle.laws.proofs.Tests.{lt_or_ge}
use Rattle.block.specs.declared.Refusal.{Refusal}
use Rattle.block.specs.declared.Checked.{Checked}
use Rattle.block.specs.declared.Checked.TheVariants.{Passes, Refuses}
use Rattle.block.specs.Answer.{in_order, First}
use Rattle.block.proofs.Order.{passes_refuses, order_last, orders_pass, first_exactly, none_exactly}
use Rattle.block.proofs.Rows.{given_small, holds_unless, unless_none}
use Rattle.reading.specs.Text.{ended, read_at}
use Rattle.reading.specs.Faults.{line_row}
use Rattle.reading.specs.Input.{row_place, surplus_row, lines_row}

-- ---- checks over an index, and one behind them

-- the first n pass
abbrev pub AllPass : (ℕ → Checked) → ℕ → Type 0
AllPass f n = (i : ℕ) → i < n → f i ≡ Passes

-- one of the first n refuses so, and none before it
pub record FirstAmong (f : ℕ → Checked) (n : ℕ) (r : Refusal) : Type 0 where
  pub place : ℕ
  pub there : place < n
  pub before : AllPass f place
  pub refuses : f place ≡ Refuses r

module _ (f : ℕ → Checked) (n : ℕ) (last : Checked) where
  abbrev checks : List Checked
  checks = each f n ++ last ∷ []

  checks_length : length checks ≡ n + 1
  checks_length = length-append (each f n) (last ∷ []) ∙ ap (λ (m : ℕ). m + 1) (each_length f n)

  at_index : (i : ℕ) → i < n → get_or checks i Passes ≡ f i
  at_index i h = get_or-append (each f n) (last ∷ []) Passes i (rw (each_length f n) h) ∙ each_at f n i Passes h

  at_last : get_or checks n Passes ≡ last
  at_last = get_or_at (each f n) last [] Passes n (each_length f n)

  index_refuses : (r : Refusal) → FirstAmong f n r → in_order checks ≡ Refuses r
  index_refuses r h =
      (first_exactly checks r).1
      record {
        place = h.place;
        there = omega (arith, checks_length, h.there);
        refuses = at_index h.place h.there ∙ h.refuses;
        before = λ i l. at_index i (omega (arith, l, h.there)) ∙ h.before i l;
      }

  index_passes : AllPass f n → in_order checks ≡ last
  index_passes all =
      orders_pass (each f n) (last ∷ []) ((none_exactly (each f n)).1 (λ i l. each_at f n i Passes (rw (each_length f n) at l) ∙ all i (rw (each_length f n) at l)))
      ∙ order_last last

  index_all : in_order checks ≡ Passes → AllPass f n × (last ≡ Passes)
  index_all e =
      let all = (none_exactly checks).0 e in
      (λ i l. sym (at_index i l) ∙ all i (omega (arith, l, checks_length)), sym at_last ∙ all n (omega (arith, checks_length)))

  -- the first that refuses is one of them, or the one behind them
  index_splits : (r : Refusal) → in_order checks ≡ Refuses r → FirstAmong f n r ⊎ (AllPass f n × (last ≡ Refuses r))
  index_splits r e = go ((first_exactly checks r).0 e)
    where
      go : First checks r → FirstAmong f n r ⊎ (AllPass f n × (last ≡ Refuses r))
      go h = at (lt_or_ge h.place n)
        where
          at : (h.place < n) ⊎ (n ≤ h.place) → FirstAmong f n r ⊎ (AllPass f n × (last ≡ Refuses r))
          at (inl l) = inl (record {
            place = h.place;
            there = l;
            before = λ i k. sym (at_index i (omega (arith, k, l))) ∙ h.before i k;
            refuses = sym (at_index h.place l) ∙ h.refuses;
          })
          at (inr g) =
              let here : h.place ≡ n = omega (arith, g, checks_length, h.there) in
              inr (λ i k. sym (at_index i k) ∙ h.before i (omega (arith, k, here)), sym at_last ∙ rw here at h.refuses)

-- ---- the lines from line 2 on

-- the place of the next row
pub next_row : (nx j p : ℕ) → p ≡ row_place nx j → p + (4 * nx + 1) ≡ row_place nx (j + 1)
next_row nx j p e = omega (arith, e)

module _ (bytes : List ℕ) where
  pub surplus_passes : (line p b : ℕ) → b ≡ read_at bytes p → b ≡ ended → Passes ≡ surplus_row bytes line p
  surplus_passes line p b e h = rw (← e, eq-eqb b ended h)

  pub surplus_refuses : (line p b : ℕ) → b ≡ read_at bytes p → (b ≡ ended → ⊥) → line ≤ 4294967295 → Refuses (record { number = 8; value = line }) ≡ surplus_row bytes line p
  surplus_refuses line p b e h l = rw (← e, ne_eqb b ended h) (ap (λ (v : ℕ). Refuses (record { number = 8; value = v })) (sym (given_small line l)))

  -- the check of row j
  abbrev pub row_check : ℕ → ℕ → Checked
  row_check nx j = line_row bytes (j + 2) (row_place nx j) (4 * nx)

  -- as the code finds it, at a place that it has reached
  pub at_row : (nx j p : ℕ) (k : Checked) → p ≡ row_place nx j → k ≡ line_row bytes (j + 2) p (4 * nx) → k ≡ row_check nx j
  at_row nx j p k e h = h ∙ ap (λ (q : ℕ). line_row bytes (j + 2) q (4 * nx)) e

  -- what a surplus line says
  pub surplus_said : (line p : ℕ) (x : Refusal) → line ≤ 4294967295 → surplus_row bytes line p ≡ Refuses x → (x.number ≡ 8) × (x.value ≡ line) × (read_at bytes p ≡ ended → ⊥)
  surplus_said line p x l e =
      let h = holds_unless (eqb (read_at bytes p) ended) 8 line x e in (
        ap (λ (r : Refusal). r.number) h,
        ap (λ (r : Refusal). r.value) h ∙ given_small line l,
        λ k. passes_refuses (surplus_passes line p (read_at bytes p) refl k ∙ e),
      )

  pub surplus_none : (line p : ℕ) → surplus_row bytes line p ≡ Passes → read_at bytes p ≡ ended
  surplus_none line p e = eqb-true (read_at bytes p) ended (unless_none _ 8 line e)

  -- the rows of a block, and what stands behind them
  module _ (nx rows : ℕ) where
    abbrev behind : Checked
    behind = surplus_row bytes (rows + 2) (row_place nx rows)

    pub lines_split : (r : Refusal) → lines_row bytes nx rows ≡ Refuses r → FirstAmong (row_check nx) rows r ⊎ (AllPass (row_check nx) rows × (surplus_row bytes (rows + 2) (row_place nx rows) ≡ Refuses r))
    lines_split = index_splits (row_check nx) rows behind

    pub row_refuses : (r : Refusal) → FirstAmong (row_check nx) rows r → lines_row bytes nx rows ≡ Refuses r
    row_refuses = index_refuses (row_check nx) rows behind

    pub rows_pass : AllPass (row_check nx) rows → lines_row bytes nx rows ≡ surplus_row bytes (rows + 2) (row_place nx rows)
    rows_pass = index_passes (row_check nx) rows behind

    pub lines_all : lines_row bytes nx rows ≡ Passes → AllPass (row_check nx) rows × (surplus_row bytes (rows + 2) (row_place nx rows) ≡ Passes)
    lines_all = index_all (row_check nx) rows behind

    pub behind_rows : (j p : ℕ) (k : Checked) → j ≡ rows → p ≡ row_place nx j → AllPass (row_check nx) j → k ≡ surplus_row bytes (rows + 2) p → k ≡ lines_row bytes nx rows
    behind_rows j p k e at before h = h ∙ ap (λ (q : ℕ). surplus_row bytes (rows + 2) q) (at ∙ ap (row_place nx) e) ∙ sym (rows_pass (rw e at before))
