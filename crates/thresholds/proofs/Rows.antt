-- What rows 16 and 15 say, by cases, and what follows where they pass.
-- Assumes nothing.
use Prim.Native.Nat.{ℕ, ◌*◌, ◌≤◌, ◌<◌}
use mathlib.Core.Path.{◌≡◌, sym, ◌∙◌}
use mathlib.Core.List.{[], ◌∷◌}
use borrow.Author.Tests.{le-leb, lt-leb, leb-true}
use lib.Dec.{leb}
use Rattle.block.specs.declared.Checked.TheVariants.{Passes}
use Rattle.block.specs.Answer.{given, in_order}
use Rattle.block.proofs.Order.{order_refuses, order_passes, order_last, order_first, order_rest}
use Rattle.block.proofs.Rows.{refusal, unless_none, unless_passes, unless_refuses}
use Rattle.thresholds.specs.Answer.{many_row, answers_row}

module _ (m room : ℕ) where
  pub many_refuses : (v : ℕ) → 16 < m → v ≡ given m → refusal 16 v ≡ in_order (many_row m ∷ answers_row m room ∷ [])
  many_refuses v h e = sym (order_refuses (many_row m) _ _ (sym (unless_refuses (leb m 16) 16 m v (lt-leb m 16 h) e)))

  few : m ≤ 16 → in_order (many_row m ∷ answers_row m room ∷ []) ≡ answers_row m room
  few h = order_passes (many_row m) _ (sym (unless_passes (leb m 16) 16 m (le-leb m 16 h))) ∙ order_last (answers_row m room)

  pub short_refuses : (v : ℕ) → m ≤ 16 → room < 3 * m → v ≡ given m → refusal 15 v ≡ in_order (many_row m ∷ answers_row m room ∷ [])
  short_refuses v h l e = unless_refuses (leb (3 * m) room) 15 m v (lt-leb (3 * m) room l) e ∙ sym (few h)

  pub row_passes : m ≤ 16 → 3 * m ≤ room → Passes ≡ in_order (many_row m ∷ answers_row m room ∷ [])
  row_passes h l = unless_passes (leb (3 * m) room) 15 m (le-leb (3 * m) room l) ∙ sym (few h)

  -- a row that is short enough, and a buffer that is long enough
  pub row_fits : in_order (many_row m ∷ answers_row m room ∷ []) ≡ Passes → (m ≤ 16) × (3 * m ≤ room)
  row_fits e =
      let first = order_first (many_row m) _ e in
      let second = order_first (answers_row m room) [] (order_rest (many_row m) _ e) in
      (leb-true m 16 (unless_none _ 16 m first), leb-true (3 * m) room (unless_none _ 15 m second))
