-- What the first wrong byte says of a line, by cases, as the code goes about it.
-- Assumes nothing.
use Prim.Native.Nat.{ℕ, ◌+◌, ◌≤◌}
use mathlib.Core.Path.{◌≡◌, sym, ap, ◌∙◌}
use mathlib.Core.List.{List}
use borrow.Author.Tests.{eq-eqb, ne_eqb}
use Rattle.block.specs.declared.Checked.{Checked}
use Rattle.block.specs.declared.Checked.TheVariants.{Passes}
use Rattle.block.specs.Answer.{refuses}
use Rattle.block.proofs.Rows.{refusal, given_small}
use Rattle.reading.specs.Text.{LF, ended, read_at, right_bytes}
use Rattle.reading.specs.Faults.{Fault, missing, short, long, wrong, fault_by, fault_at, fault_row, line_row}

-- the cases of the first wrong byte
module _ (n c b : ℕ) where
  pub by_missing : b ≡ ended → c ≡ 0 → fault_by n c b ≡ missing
  by_missing e z = rw (eq-eqb b ended e, eq-eqb c 0 z)

  pub by_end : b ≡ ended → (c ≡ 0 → ⊥) → fault_by n c b ≡ short c
  by_end e z = rw (eq-eqb b ended e, ne_eqb c 0 z)

  module _ (h : b ≡ ended → ⊥) where
    pub by_early : b ≡ LF → fault_by n c b ≡ short c
    by_early e = rw (ne_eqb b ended h, eq-eqb b LF e)

    module _ (f : b ≡ LF → ⊥) where
      pub by_long : c ≡ n → fault_by n c b ≡ long c
      by_long e = rw (ne_eqb b ended h, ne_eqb b LF f, eq-eqb c n e)

      pub by_wrong : (c ≡ n → ⊥) → fault_by n c b ≡ wrong c
      by_wrong e = rw (ne_eqb b ended h, ne_eqb b LF f, ne_eqb c n e)

-- number and value as the code has them are those of the fault's row, which are not cut
pub row_of_lem : (line number w : ℕ) {k v : ℕ} {f g : Fault} → g ≡ f → fault_row line f ≡ refuses number w → k ≡ number → v ≡ w → w ≤ 4294967295 → refusal k v ≡ fault_row line g
row_of_lem line number w by says e d small = rw (e, d) (ap (refusal number) (sym (given_small w small)) ∙ sym says ∙ ap (fault_row line) (sym by))

module _ (bytes : List ℕ) (line p n c : ℕ) (found : c ≡ right_bytes bytes p n) where
  pub line_passes : c ≡ n + 1 → Passes ≡ line_row bytes line p n
  unfolding fault_at
  line_passes h = rw (← found, eq-eqb c (n + 1) h)

  pub line_by : (b : ℕ) (r : Checked) → (c ≡ n + 1 → ⊥) → b ≡ read_at bytes (p + c) → r ≡ fault_row line (fault_by n c b) → r ≡ line_row bytes line p n
  unfolding fault_at
  line_by b r h e k = rw (← found, ne_eqb c (n + 1) h) (k ∙ ap (λ (b : ℕ). fault_row line (fault_by n c b)) e)
