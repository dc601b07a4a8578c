-- The marks of each threshold: one threshold after the other goes through a run of layers, and the marks of the whole block tell its counts.
-- Assumes nothing.
use Prim.Native.Nat.{ℕ, ◌+◌, ◌≤◌, ◌<◌}
use mathlib.Core.Path.{◌≡◌, ap}
use mathlib.Core.Logic.{◌⊎◌, inl, inr}
use mathlib.Core.List.{List}
use native.Mathlib.Nat.{eq-or-lt_of_le}
use native.Mathlib.Omega.{arith}
use lib.ListN.{length, set, replicate, get_or-replicate}
use lib.Seq.{get_or-set_same, get_or-set_other}
use Rattle.laws.proofs.Below.{below_same}
use Rattle.block.specs.declared.Size.{Size}
use Rattle.block.specs.Answer.{judged}
use Rattle.block.specs.Rows.{threshold_row}
use Rattle.block.specs.Size.{Limits}
use Rattle.cube_rule.specs.Decider.{loops_of}
use Rattle.layers.specs.declared.Marks.{Marks}
use Rattle.mesh.specs.declared.Totals.{Totals}
use Rattle.mesh.specs.Answer.{told_counts}
use Rattle.mesh.specs.Steps.{Few, Counting}
use Rattle.mesh.proofs.Tallies.{marked_start, marked_all, tallied_few, tallied_counts}
use Rattle.thresholds.specs.Steps.{cut_at, no_marks, marks_at, CountedFrom, EachTallied, threes_by, answers_in}

module _ (n : Size) (s ts : List ℕ) (noise : ℕ) where
  -- ---- one threshold more goes to the layer k

  module _ (ms : List Marks) (i : ℕ) (r : Marks) (room : i < length ms) where
    pub counted_next : (k : ℕ) → CountedFrom n s ts noise ms 0 i k → Counting loops_of n s (cut_at ts noise i) 0 k r → CountedFrom n s ts noise (set ms i r) 0 (i + 1) k
    counted_next k before here p l h = go (eq-or-lt_of_le (omega arith))
      where
        go : (p ≡ i) ⊎ (p < i) → Counting loops_of n s (cut_at ts noise p) 0 k (marks_at (set ms i r) p)
        go (inl e) = rw (e, get_or-set_same ms i r no_marks room) here
        go (inr q) = rw (get_or-set_other ms i p r no_marks (λ e. absurd (omega (arith, q, e)))) (before p l q)

    pub counted_rest : (j k : ℕ) → CountedFrom n s ts noise ms i j k → CountedFrom n s ts noise (set ms i r) (i + 1) j k
    counted_rest j k behind p l h = rw (get_or-set_other ms i p r no_marks (λ e. absurd (omega (arith, l, e)))) (behind p (omega (arith, l)) h)

  -- all thresholds stand before the first layer, and all are through behind the last

  pub counted_start : (j k : ℕ) → j ≤ k → CountedFrom n s ts noise (replicate k no_marks) 0 j 0
  counted_start j k few p l h = rw (get_or-replicate k p no_marks no_marks (omega (arith, few, h))) (marked_start n s (cut_at ts noise p) 0 0)

  pub counted_all : (k : ℕ) (ms : List Marks) → k + 1 ≡ n.nz → CountedFrom n s ts noise ms 0 (length ts) k → EachTallied n s ts noise ms
  counted_all k ms e h p l = marked_all n s (cut_at ts noise p) 0 0 k e (h p (omega arith) l)

  -- ---- the marks of the whole block

  module _ (ms : List Marks) (tallied : EachTallied n s ts noise ms) where
    pub each_few : Limits n → (p : ℕ) → p < length ts → Few (marks_at ms p)
    each_few l p h = tallied_few n s (cut_at ts noise p) (marks_at ms p) l (tallied p h)

    pub answers_are : threes_by ts ms (length ts) ≡ answers_in n s ts noise
    answers_are =
        below_same _ _ (length ts)
        (λ p h. ap (λ (c : Totals). told_counts (judged (threshold_row (cut_at ts noise p)) c)) (tallied_counts n s (cut_at ts noise p) (marks_at ms p) (tallied p h)))
