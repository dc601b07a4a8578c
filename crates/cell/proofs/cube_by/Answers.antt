-- `cube_by` meets its promise: a refusal with zeros, or the loops and the place of each.
-- Assumes nothing.
use mathlib.Core.Path.{◌≡◌, ap, sym, ◌∙◌, subst}
use mathlib.Core.List.{List}
use Prim.Native.Nat.{ℕ, ◌<◌}
use lib.ListN.{length, get_or}
use Rattle.laws.specs.Filled.{filled}
use Rattle.block.specs.declared.Cut.{Cut}
use Rattle.block.specs.Grey.{SixteenBit}
use Rattle.block.specs.declared.Checked.TheVariants.{Passes}
use Rattle.cube.specs.declared.Loops.{Loops}
use Rattle.cube_rule.specs.Decider.{loops_of}
use Rattle.place.specs.Steps.{Placeable}
use Rattle.cell.specs.Answer.{cube_verdict}
use Rattle.cell.proofs.Answers.{verdict_is, refused_answer, accepted_answer, mask_placeable, mask_small}
use Rattle.cell.proofs.cube_by.Goals as goal

pub returns-in-Refuses : goal.returns-in-Refuses
returns-in-Refuses c =
    let a = c.args in
    rw c.refuse.ensures
    (refused_answer a.cut a.corners _ (verdict_is a.cut ∙ sym c.check_threshold-checked.ensures ∙ c.in-Refuses.is))

pub place_or_zero-a-requires : goal.place_or_zero-a-requires
place_or_zero-a-requires c =
    let cut_of : Cut = c.args.cut in
    let passed : cube_verdict (cut_of) ≡ Passes = verdict_is (cut_of) ∙ sym c.check_threshold-checked.ensures ∙ c.in_default.is in
    let masks_are : c.loops_of-loops.result.masks ≡ filled 4 0 (loops_of (cut_of) c.args.corners) = ap (λ (l : Loops). l.masks) c.loops_of-loops.ensures.value in
    let placeable : (i : ℕ) → 0 < get_or c.loops_of-loops.result.masks i 0 → Placeable (cut_of) c.args.corners (get_or c.loops_of-loops.result.masks i 0) = λ i. mask_placeable (cut_of) c.args.corners (passed) c.loops_of-loops.result.masks (masks_are) i in
    let asks : (i : ℕ) → let x = get_or c.loops_of-loops.result.masks i 0 in (0 < x → Placeable (cut_of) c.wide-samples.result x) × SixteenBit c.wide-samples.result = λ i. let x = get_or c.loops_of-loops.result.masks i 0 in (subst (λ (l : List ℕ). 0 < x → Placeable (cut_of) l x) (sym c.wide-samples.ensures.value) (placeable i), c.wide-samples.ensures.sixteen_bit) in
    asks 0

pub place_or_zero-b-requires : goal.place_or_zero-b-requires
place_or_zero-b-requires c =
    let cut_of : Cut = c.args.cut in
    let passed : cube_verdict (cut_of) ≡ Passes = verdict_is (cut_of) ∙ sym c.check_threshold-checked.ensures ∙ c.in_default.is in
    let masks_are : c.loops_of-loops.result.masks ≡ filled 4 0 (loops_of (cut_of) c.args.corners) = ap (λ (l : Loops). l.masks) c.loops_of-loops.ensures.value in
    let placeable : (i : ℕ) → 0 < get_or c.loops_of-loops.result.masks i 0 → Placeable (cut_of) c.args.corners (get_or c.loops_of-loops.result.masks i 0) = λ i. mask_placeable (cut_of) c.args.corners (passed) c.loops_of-loops.result.masks (masks_are) i in
    let asks : (i : ℕ) → let x = get_or c.loops_of-loops.result.masks i 0 in (0 < x → Placeable (cut_of) c.wide-samples.result x) × SixteenBit c.wide-samples.result = λ i. let x = get_or c.loops_of-loops.result.masks i 0 in (subst (λ (l : List ℕ). 0 < x → Placeable (cut_of) l x) (sym c.wide-samples.ensures.value) (placeable i), c.wide-samples.ensures.sixteen_bit) in
    asks 1

pub place_or_zero-c-requires : goal.place_or_zero-c-requires
place_or_zero-c-requires c =
    let cut_of : Cut = c.args.cut in
    let passed : cube_verdict (cut_of) ≡ Passes = verdict_is (cut_of) ∙ sym c.check_threshold-checked.ensures ∙ c.in_default.is in
    let masks_are : c.loops_of-loops.result.masks ≡ filled 4 0 (loops_of (cut_of) c.args.corners) = ap (λ (l : Loops). l.masks) c.loops_of-loops.ensures.value in
    let placeable : (i : ℕ) → 0 < get_or c.loops_of-loops.result.masks i 0 → Placeable (cut_of) c.args.corners (get_or c.loops_of-loops.result.masks i 0) = λ i. mask_placeable (cut_of) c.args.corners (passed) c.loops_of-loops.result.masks (masks_are) i in
    let asks : (i : ℕ) → let x = get_or c.loops_of-loops.result.masks i 0 in (0 < x → Placeable (cut_of) c.wide-samples.result x) × SixteenBit c.wide-samples.result = λ i. let x = get_or c.loops_of-loops.result.masks i 0 in (subst (λ (l : List ℕ). 0 < x → Placeable (cut_of) l x) (sym c.wide-samples.ensures.value) (placeable i), c.wide-samples.ensures.sixteen_bit) in
    asks 2

pub place_or_zero-d-requires : goal.place_or_zero-d-requires
place_or_zero-d-requires c =
    let cut_of : Cut = c.args.cut in
    let passed : cube_verdict (cut_of) ≡ Passes = verdict_is (cut_of) ∙ sym c.check_threshold-checked.ensures ∙ c.in_default.is in
    let masks_are : c.loops_of-loops.result.masks ≡ filled 4 0 (loops_of (cut_of) c.args.corners) = ap (λ (l : Loops). l.masks) c.loops_of-loops.ensures.value in
    let placeable : (i : ℕ) → 0 < get_or c.loops_of-loops.result.masks i 0 → Placeable (cut_of) c.args.corners (get_or c.loops_of-loops.result.masks i 0) = λ i. mask_placeable (cut_of) c.args.corners (passed) c.loops_of-loops.result.masks (masks_are) i in
    let asks : (i : ℕ) → let x = get_or c.loops_of-loops.result.masks i 0 in (0 < x → Placeable (cut_of) c.wide-samples.result x) × SixteenBit c.wide-samples.result = λ i. let x = get_or c.loops_of-loops.result.masks i 0 in (subst (λ (l : List ℕ). 0 < x → Placeable (cut_of) l x) (sym c.wide-samples.ensures.value) (placeable i), c.wide-samples.ensures.sixteen_bit) in
    asks 3

pub words_of-words-requires : goal.words_of-words-requires
words_of-words-requires c =
    let cut_of : Cut = c.args.cut in
    let masks_are : c.loops_of-loops.result.masks ≡ filled 4 0 (loops_of (cut_of) c.args.corners) = ap (λ (l : Loops). l.masks) c.loops_of-loops.ensures.value in
    (mask_small cut_of c.args.corners c.loops_of-loops.result.masks masks_are, c.mark.ensures.upper_bound)

pub returns : goal.returns
returns c =
    let cut_of : Cut = c.args.cut in
    let passed : cube_verdict (cut_of) ≡ Passes = verdict_is (cut_of) ∙ sym c.check_threshold-checked.ensures ∙ c.in_default.is in
    let masks_are : c.loops_of-loops.result.masks ≡ filled 4 0 (loops_of (cut_of) c.args.corners) = ap (λ (l : Loops). l.masks) c.loops_of-loops.ensures.value in
    let count_is : c.loops_of-loops.result.count ≡ length (loops_of (cut_of) c.args.corners) = ap (λ (l : Loops). l.count) c.loops_of-loops.ensures.value in
    rw (c.place_or_zero-a.ensures, c.place_or_zero-b.ensures, c.place_or_zero-c.ensures, c.place_or_zero-d.ensures, c.wide-samples.ensures.value, c.words_of-words.ensures, c.mark.ensures.value)
    (accepted_answer cut_of c.args.corners passed c.loops_of-loops.result.count c.loops_of-loops.result.masks count_is masks_are)
