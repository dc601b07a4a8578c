-- Three numbers for each threshold, one behind the other in a buffer.
-- Assumes nothing.
use Prim.Native.Nat.{ℕ, ◌+◌, ◌*◌, ◌≤◌}
use mathlib.Core.Path.{◌≡◌, refl, ap, sym, ◌∙◌}
use mathlib.Core.List.{List, [], ◌∷◌}
use native.Mathlib.Omega.{arith}
use lib.ListN.{length, get_or}
use lib.Seq.{sets}
use Rattle.laws.specs.Below.{over}
use Rattle.laws.specs.Filled.{filled}
use Rattle.laws.specs.Put.{Put}
use Rattle.laws.proofs.Below.{length_constant}
use Rattle.laws.proofs.Puts.{puts_none, puts_more, put_over}
use Rattle.block.specs.declared.Cut.{Cut}
use Rattle.block.specs.declared.Refusal.{Refusal}
use Rattle.block.specs.declared.Checked.{Checked}
use Rattle.block.specs.declared.Checked.TheVariants.{Passes, Refuses}
use Rattle.block.specs.Answer.{Answer, accepted, refused, decided, judged}
use Rattle.block.specs.Rows.{threshold_row}
use Rattle.mesh.specs.declared.Totals.{Totals}
use Rattle.mesh.specs.Answer.{told_counts}
use Rattle.mesh.specs.Steps.{totals_of}
use Rattle.layers.specs.declared.Marks.{Marks}
use Rattle.thresholds.specs.Steps.{cut_at, marks_at, three_by, threes_by}

-- each answer takes three
pub told_three : (a : Answer Totals) → length (told_counts a) ≡ 3
unfolding filled
told_three (accepted c) = refl
told_three (refused r) = refl

-- three numbers read one by one
three_of_lem : (a : Answer Totals) → told_counts a ≡ get_or (told_counts a) 0 0 ∷ get_or (told_counts a) 1 0 ∷ get_or (told_counts a) 2 0 ∷ []
unfolding filled
three_of_lem (accepted c) = refl
three_of_lem (refused r) = refl

-- what a threshold is told, by what row 3 says of it
module _ (k : Checked) (c : Totals) where
  pub told_refused : (r : Refusal) → k ≡ Refuses r → r.number ∷ r.value ∷ 0 ∷ [] ≡ told_counts (judged k c)
  unfolding filled decided
  told_refused r e = rw e

  pub told_counted : (d : Totals) → k ≡ Passes → d ≡ c → 0 ∷ d.vertices ∷ d.quads ∷ [] ≡ told_counts (judged k c)
  unfolding filled decided
  told_counted d e f = rw (e, f)

three_long : (cut : Cut) (m : Marks) → length (three_by cut m) ≡ 3
three_long cut m = told_three (judged (threshold_row cut) (totals_of m))

module _ (ts : List ℕ) (ms : List Marks) (b : List ℕ) where
  abbrev pub Told : ℕ → List ℕ → Type 0
  Told i l = Put b 0 (threes_by ts ms i) l (3 * i)

  pub told_none : Told 0 b
  told_none = puts_none (λ (i : ℕ). three_by (cut_at ts 0 i) (marks_at ms i)) b 0

  -- one threshold more
  pub told_more : (i : ℕ) (l l' told : List ℕ) → Told i l → told ≡ three_by (cut_at ts 0 i) (marks_at ms i) → l' ≡ sets l (3 * i) (get_or told 0 0 ∷ get_or told 1 0 ∷ get_or told 2 0 ∷ [])
      → Told (i + 1) l'
  told_more i l l' told p e f =
      puts_more (λ (j : ℕ). three_by (cut_at ts 0 j) (marks_at ms j)) i p
      (record {
        stored = f ∙ ap (λ (xs : List ℕ). sets l (3 * i) (get_or xs 0 0 ∷ get_or xs 1 0 ∷ get_or xs 2 0 ∷ [])) e ∙ ap (sets l (3 * i)) (sym (three_of_lem (judged (threshold_row (cut_at ts 0 i)) _)));
        behind = omega (arith, three_long (cut_at ts 0 i) (marks_at ms i));
      })

  pub told_all : (m : ℕ) (l : List ℕ) → Told m l → 3 * m ≤ length b → l ≡ over (threes_by ts ms m) b
  told_all m l p h = put_over p (omega (arith, length_constant (λ (i : ℕ). three_by (cut_at ts 0 i) (marks_at ms i)) 3 m (λ i _. three_long (cut_at ts 0 i) (marks_at ms i))))
