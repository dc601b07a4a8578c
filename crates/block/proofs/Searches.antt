-- A row that searches: it refuses exactly if the test fails somewhere, and it names the lowest such number.
-- Assumes nothing.
use Prim.Native.Nat.{ℕ, ◌<◌}
use mathlib.Core.Path.{◌≡◌, refl, sym, ap, ◌∙◌}
use mathlib.Core.Bool.{Bool, true, false}
use mathlib.Core.Logic.{◌↔◌, ◌⊎◌, inl, inr, ⊎_elim}
use native.Mathlib.Omega.{arith}
use lib.Dec.{eqb}
use borrow.Author.Tests.{eqb-true, eqb-false, eq-eqb, ne_eqb}
use Rattle.laws.specs.Leading.{leading}
use Rattle.laws.proofs.Leading.{HoldsTo, leading_le, leading_holds, leading_stops, leading_at, leading_all}
use Rattle.block.specs.declared.Refusal.{Refusal}
use Rattle.block.specs.declared.Checked.TheVariants.{Passes, Refuses}
use Rattle.block.specs.Answer.{given, refuses}
use Rattle.block.specs.Rows.{search_row}
use Rattle.block.proofs.Order.{passes_refuses}
use Rattle.block.proofs.Rows.{holds_unless}

-- the test fails at i, below n, and at nothing lower
pub record FailsFirst (good : ℕ → Bool) (n i : ℕ) : Type 0 where
  pub below_end : i < n
  pub before : HoldsTo good i
  pub fails : good i ≡ false

module _ (number : ℕ) (good : ℕ → Bool) (n : ℕ) where
  pub search_passes : HoldsTo good n → search_row number good n ≡ Passes
  unfolding search_row
  search_passes h = rw (eq-eqb _ _ (leading_all good n h))

  pub search_refuses : (i : ℕ) → FailsFirst good n i → search_row number good n ≡ refuses number i
  unfolding search_row
  search_refuses i f =
      let at : leading good n ≡ i = leading_at good n i f.below_end f.before f.fails in
      rw (at, ne_eqb i n (λ e. omega (arith, e, f.below_end)))

  -- as a loop finds it
  pub search_fails : (i v : ℕ) → i < n → HoldsTo good i → good i ≡ false → v ≡ given i → Refuses (record { number = number; value = v }) ≡ search_row number good n
  search_fails i v l h f e = ap (λ (w : ℕ). Refuses (record { number = number; value = w })) e ∙ sym (search_refuses i (record { below_end = l; before = h; fails = f }))

  -- the row passes and no number fails, or it refuses and names the lowest that does
  search_splits : ((search_row number good n ≡ Passes) × HoldsTo good n) ⊎ ((search_row number good n ≡ refuses number (leading good n)) × FailsFirst good n (leading good n))
  search_splits = go (eqb (leading good n) n) refl
    where
      go : (b : Bool) → eqb (leading good n) n ≡ b
          → ((search_row number good n ≡ Passes) × HoldsTo good n) ⊎ ((search_row number good n ≡ refuses number (leading good n)) × FailsFirst good n (leading good n))
      go true e =
          let all : HoldsTo good n = λ i h. leading_holds good n i (omega (arith, eqb-true (leading good n) n e, h)) in
          inl (search_passes all, all)
      go false e =
          let l : leading good n < n = omega (arith, leading_le good n, eqb-false (leading good n) n e) in
          let fails : FailsFirst good n (leading good n) = record { below_end = l; before = leading_holds good n; fails = leading_stops good n l } in
          inr (search_refuses (leading good n) fails, fails)

  -- where the row passes, no number below n fails
  pub search_none : search_row number good n ≡ Passes → HoldsTo good n
  search_none e = ⊎_elim (λ h. h.1) (λ h. absurd (passes_refuses (sym e ∙ h.0))) search_splits

  -- "The lowest such axis, vertex or quad is named."
  pub search_exactly : (x : Refusal) → (search_row number good n ≡ Refuses x) ↔ ((i : ℕ) × FailsFirst good n i × (x ≡ record { number = number; value = given i }))
  search_exactly x = (there, λ h. search_refuses h.0 h.1 ∙ ap Refuses (sym h.2))
    where
      there : search_row number good n ≡ Refuses x → (i : ℕ) × FailsFirst good n i × (x ≡ record { number = number; value = given i })
      there e =
          ⊎_elim (λ h. absurd (passes_refuses (sym h.0 ∙ e)))
          (λ h. (leading good n, h.1, holds_unless false number (leading good n) x (sym h.0 ∙ e)))
          search_splits
