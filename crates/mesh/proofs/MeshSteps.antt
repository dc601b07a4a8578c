-- The verdict of a call whose size is made: the rows of the block first, then rows 5 and 6 with the counts. A refusal leaves the buffers, and where all
-- rows pass there is room for the whole mesh.
use Prim.Native.Nat.{ℕ}
use mathlib.Core.Path.{◌≡◌, ap, sym, ◌∙◌, subst}
use mathlib.Core.List.{List, ◌++◌}
use lib.ListN.{length}
use lib.Ieee.{Float}
use Rattle.cube_rule.specs.Decider.{loops_of}
use Rattle.block.specs.declared.Cut.{Cut}
use Rattle.block.specs.declared.Size.{Size}
use Rattle.block.specs.declared.Refusal.{Refusal}
use Rattle.block.specs.declared.Checked.{Checked}
use Rattle.block.specs.declared.Checked.TheVariants.{Passes, Refuses}
use Rattle.block.specs.Answer.{in_order}
use Rattle.block.proofs.Order.{orders_refuse, orders_pass, judged_passed, written_passed}
use Rattle.mesh.specs.declared.Totals.{Totals}
use Rattle.mesh.specs.declared.Counted.{Counted}
use Rattle.mesh.specs.declared.Counted.TheVariants as counted
use Rattle.mesh.specs.Answer.{buffer_rows, counts_of, vertex_count, quad_count, MeshedBy}
use Rattle.mesh.specs.Writes.{Roomy, BlockWritten}
use Rattle.mesh.proofs.BufferRows.{buffers_pass}
use Rattle.mesh.proofs.Verdicts.{refused_by}

module _ (n : Size) (s : List ℕ) (cut : Cut) (w : List ℕ) (o : List Float) (q : List ℕ) where
  -- rows 5 and 6
  abbrev late : Totals → List Checked
  late c = buffer_rows c (length w) (length o) (length q)

  module _ (c : Totals) (f : c ≡ counts_of n s cut) where
    pub late_refused : (r : Refusal) → in_order (late c) ≡ Refuses r → MeshedBy (in_order (late (counts_of n s cut))) n s cut w o q (counted.Refused r) w o q
    late_refused r h = refused_by _ n s cut w o q r (ap (λ (d : Totals). in_order (late d)) (sym f) ∙ h)

    pub roomy_of : in_order (late c) ≡ Passes → Roomy loops_of n s cut w o q
    roomy_of h =
        let p = buffers_pass (vertex_count n s cut) (quad_count n s cut) (length w) (length o) (length q) (ap (λ (d : Totals). in_order (late d)) (sym f) ∙ h) in
        record { words = p.0; offsets = p.1; quads = p.2 }

    -- both pass
    pub passed_by : in_order (late c) ≡ Passes → (w' : List ℕ) (o' : List Float) (q' : List ℕ) → BlockWritten loops_of n s cut w w' o o' q q'
        → MeshedBy (in_order (late (counts_of n s cut))) n s cut w o q (counted.Counts c) w' o' q'
    passed_by h w' o' q' b =
        let k : in_order (late (counts_of n s cut)) ≡ Passes = ap (λ (d : Totals). in_order (late d)) (sym f) ∙ h in
        record {
          answer = judged_passed _ c (counts_of n s cut) k f;
          words = b.words ∙ sym (written_passed _ _ w k);
          offsets = b.offsets ∙ sym (written_passed _ _ o k);
          quads = b.quads ∙ sym (written_passed _ _ q k);
        }

  -- the rows before them: one refuses, or they pass and leave it to the others
  module _ (early rows : List Checked) where
    pub early_refused : (r : Refusal) → in_order early ≡ Refuses r → MeshedBy (in_order (early ++ rows)) n s cut w o q (counted.Refused r) w o q
    early_refused r e = refused_by _ n s cut w o q r (orders_refuse early rows r e)

    pub early_passed : {r : Counted} {w' : List ℕ} {o' : List Float} {q' : List ℕ} → in_order early ≡ Passes → MeshedBy (in_order rows) n s cut w o q r w' o' q' → MeshedBy (in_order (early ++ rows)) n s cut w o q r w' o' q'
    early_passed {r} {w'} {o'} {q'} e h = subst (λ (k : Checked). MeshedBy k n s cut w o q r w' o' q') (sym (orders_pass early rows e)) h
