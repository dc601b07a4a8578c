-- `closed_with` meets its promise: the two rows, and then what the search finds.
-- Assumes nothing.
use mathlib.Core.Path.{◌≡◌, refl, sym, ap, ◌∙◌}
use mathlib.Core.List.{List}
use Prim.Native.Nat.{ℕ, ◌+◌}
use lib.ListN.{length}
use Rattle.laws.proofs.Leading.{leading_le}
use Rattle.block.specs.declared.Checked.TheVariants.{Passes}
use Rattle.block.specs.Rows.{room_row}
use Rattle.lists.specs.Rows.{length_row}
use Rattle.closed.specs.Closed.{side_sound}
use Rattle.closed.specs.Chains.{words_needed}
use Rattle.closed.proofs.With.{finding_at_lem, finding_none, length_refused, room_refused, found_with}
use Rattle.closed_with.proofs.closed_with.Goals as goal

pub returns-in-Refuses : goal.returns-in-Refuses
returns-in-Refuses c =
    let args = c.args in
    length_refused args.quads.now args.work.now _ (sym c.check_length-whole.ensures ∙ c.in-Refuses.is)

pub returns-in-Refuses-room : goal.returns-in-Refuses-room
returns-in-Refuses-room c =
    let quads_of : List ℕ = c.args.quads.now in
    let work-of : List ℕ = c.args.work.now in
    let passed : length_row (quads_of) ≡ Passes = sym c.check_length-whole.ensures ∙ c.in_default.is in
    let room-is : c.check_room-room.result ≡ room_row (words_needed (quads_of)) (length (work-of)) = c.check_room-room.ensures ∙ ap (λ (t : ℕ). room_row (t + length (quads_of)) (length (work-of))) c.top_number-top.ensures.value in
    room_refused quads_of work-of passed _ (sym room-is ∙ c.in-Refuses-room.is)

pub returns-then-n-quads : goal.returns-then-n-quads
returns-then-n-quads c =
    let quads_of : List ℕ = c.args.quads.now in
    let work-of : List ℕ = c.args.work.now in
    let passed : length_row (quads_of) ≡ Passes = sym c.check_length-whole.ensures ∙ c.in_default.is in
    let room-is : c.check_room-room.result ≡ room_row (words_needed (quads_of)) (length (work-of)) = c.check_room-room.ensures ∙ ap (λ (t : ℕ). room_row (t + length (quads_of)) (length (work-of))) c.top_number-top.ensures.value in
    let roomy : room_row (words_needed (quads_of)) (length (work-of)) ≡ Passes = sym (room-is) ∙ c.in_default-room.is in
    let n = c.fault_by_chains-n in
    found_with quads_of work-of passed roomy _ _ _ refl (finding_at_lem quads_of n.result n.ensures.value c.if-n-quads.true) n.ensures.work_after

pub returns : goal.returns
returns c =
    let quads_of : List ℕ = c.args.quads.now in
    let work-of : List ℕ = c.args.work.now in
    let passed : length_row (quads_of) ≡ Passes = sym c.check_length-whole.ensures ∙ c.in_default.is in
    let room-is : c.check_room-room.result ≡ room_row (words_needed (quads_of)) (length (work-of)) = c.check_room-room.ensures ∙ ap (λ (t : ℕ). room_row (t + length (quads_of)) (length (work-of))) c.top_number-top.ensures.value in
    let roomy : room_row (words_needed (quads_of)) (length (work-of)) ≡ Passes = sym (room-is) ∙ c.in_default-room.is in
    let n = c.fault_by_chains-n in
    let none = finding_none quads_of n.result n.ensures.value c.if-n-quads.false (leading_le (side_sound quads_of) (length quads_of)) in
    found_with quads_of work-of passed roomy _ _ _ refl none n.ensures.work_after
