-- `pieces` meets its promise.
-- Assumes nothing.
use mathlib.Core.Path.{◌≡◌, sym, ◌∙◌}
use lib.ListN.{length}
use lib.Seq.{length-take-le}
use Rattle.block.specs.declared.Checked.TheVariants.{Passes}
use Rattle.pieces.specs.Answer.{pieces_verdict}
use Rattle.pieces.proofs.Rows.{Accepted, accepted_by}
use Rattle.pieces.proofs.Found.{refused_by, found_by}
use Rattle.pieces.proofs.pieces.Goals.{In-Passes}
use Rattle.pieces.proofs.pieces.Goals as goal

-- no row refuses, where the check passes, so there is room
passed : (c : In-Passes) → let a = c.args in pieces_verdict a.n a.quads.now (length a.piece.now) (length a.size.now) ≡ Passes
passed c = sym c.check.ensures ∙ c.in-Passes.is

room : (c : In-Passes) → let a = c.args in Accepted a.n a.quads.now (length a.piece.now) (length a.size.now)
room c = let a = c.args in accepted_by a.n a.quads.now (length a.piece.now) (length a.size.now) (passed c)

pub slice_bounds-find-end : goal.slice_bounds-find-end
slice_bounds-find-end c = (room (goal.at.slice_bounds-find-end c).In-Passes).piece_room

pub slice_bounds-find-end-in-Passes : goal.slice_bounds-find-end-in-Passes
slice_bounds-find-end-in-Passes c = sym (length-take-le _ _ (room (goal.at.slice_bounds-find-end-in-Passes c).In-Passes).piece_room)

pub slice_bounds-find-end-in-Passes-2 : goal.slice_bounds-find-end-in-Passes-2
slice_bounds-find-end-in-Passes-2 c = (room (goal.at.slice_bounds-find-end-in-Passes-2 c).In-Passes).size_room

pub slice_bounds-find-end-in-Passes-3 : goal.slice_bounds-find-end-in-Passes-3
slice_bounds-find-end-in-Passes-3 c = sym (length-take-le _ _ (room (goal.at.slice_bounds-find-end-in-Passes-3 c).In-Passes).size_room)

pub find-requires : goal.find-requires
find-requires c =
    let k = room (goal.at.find-requires c).In-Passes in
    (length-take-le _ _ k.piece_room, length-take-le _ _ k.size_room, k.whole, k.below)

pub returns-in-Refuses : goal.returns-in-Refuses
returns-in-Refuses c = refused_by _ c.args.n c.args.quads.now c.args.piece.now c.args.size.now _ (sym c.check.ensures ∙ c.in-Refuses.is)

pub returns-in-Passes : goal.returns-in-Passes
returns-in-Passes c =
    let a = c.args in
    let f = c.find in
    found_by _ a.n a.quads.now a.piece.now a.size.now (passed (goal.at.returns-in-Passes c).In-Passes) _ _ _ f.ensures.numbers f.ensures.size_after f.ensures.value
