-- `write_cube` meets its contract: a cube that is said to have one loop has one vertex; of any other, the cube question's answer is written, which
-- no row refuses, so that the return of the other case is never reached.
-- Assumes nothing.
use Prim.Native.Nat.{ℕ, ◌+◌, ◌*◌}
use mathlib.Core.Path.{◌≡◌, ap, sym, subst, ◌∙◌}
use mathlib.Core.List.{List, [], ◌∷◌}
use native.Mathlib.Omega.{arith}
use lib.ListN.{length}
use lib.Seq.{sets}
use Rattle.cube_rule.specs.Decider.{joined, loops_of}
use Rattle.cube_rule.proofs.Laws.{cube_laws}
use Rattle.place.specs.Place.{place_of}
use Rattle.place.specs.Steps.{Placeable}
use Rattle.cube_vertices.proofs.Cubes.{single_placeable, single_small, answer_found, answer_words, answer_offsets, which_single, which_many, stored_single, stored_many}
use Rattle.cube_vertices.proofs.write_cube.Goals as goal

pub place-o-requires : goal.place-o-requires
place-o-requires c =
    let one = c.requires.0.one c.if-single.true in
    let p = c.requires.1 in
    (subst (λ (l : List ℕ). Placeable c.args.cut l c.args.crossed) (sym c.wide.ensures.value) (single_placeable _ _ p.threshold _ one), c.wide.ensures.sixteen_bit)

pub overflow_add-word : goal.overflow_add-word
overflow_add-word c =
    let one = c.requires.0.one c.if-single.true in
    omega (arith, c.mark.ensures.upper_bound, single_small _ _ _ one)

pub returns-then-single : goal.returns-then-single
returns-then-single c =
    let one = c.requires.0.one c.if-single.true in
    let a = c.args in
    record {
      stored =
          stored_single loops_of _ _ _ _ _ _ _ _ _ one _ c.mark.ensures.value _ (c.place-o.ensures ∙ ap (λ (l : List ℕ). place_of a.cut l a.crossed) c.wide.ensures.value)
          c.put_vertex.ensures.words_after c.put_vertex.ensures.offsets_after;
      noted = c.note.ensures ∙ ap (λ (w : ℕ). sets a.numbers.now (2 * a.spot.x) ((a.spot.first + a.spot.v) ∷ w ∷ [])) (which_single loops_of _ _ _ one);
    }

pub returns-in_default : goal.returns-in_default
returns-in_default c =
    let found_is = answer_found _ _ c.requires.1.threshold c.cube_by-answer.result c.cube_by-answer.ensures in
    absurd (c.in_default.not-Loops _ found_is)

pub put_four-requires : goal.put_four-requires
put_four-requires c =
    let found_is = answer_found _ _ c.requires.1.threshold c.cube_by-answer.result c.cube_by-answer.ensures in
    let number_is : c.in-Loops.n ≡ length (loops_of c.args.cut c.args.corners) = cc (found_is, c.in-Loops.is) in
    let few = (cube_laws joined).four c.args.cut c.args.corners in
    let p = c.requires.1 in
    let n = number_is in
    (omega (arith, n, few), omega (arith, n, p.words_room), omega (arith, n, p.offsets_room))

pub returns : goal.returns
returns c =
    let found_is = answer_found _ _ c.requires.1.threshold c.cube_by-answer.result c.cube_by-answer.ensures in
    let number_is : c.in-Loops.n ≡ length (loops_of c.args.cut c.args.corners) = cc (found_is, c.in-Loops.is) in
    let words_are = answer_words _ _ c.requires.1.threshold c.cube_by-answer.result c.cube_by-answer.ensures in
    let offsets_are = answer_offsets _ _ c.requires.1.threshold c.cube_by-answer.result c.cube_by-answer.ensures in
    let few = (cube_laws joined).four c.args.cut c.args.corners in
    let a = c.args in
    record {
      stored = stored_many loops_of _ _ _ _ _ _ _ _ _ number_is _ words_are _ offsets_are c.put_four.ensures.words_after c.put_four.ensures.offsets_after;
      noted =
          c.note-2.ensures
          ∙ ap (λ (w : ℕ). sets a.numbers.now (2 * a.spot.x) ((a.spot.first + a.spot.v) ∷ w ∷ [])) (which_many loops_of _ _ _ _ few c.which_of.ensures words_are);
    }
