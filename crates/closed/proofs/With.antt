-- What `closed_with` answers: its two rows, and what its search finds.
-- Assumes nothing.
use Prim.Native.Nat.{ℕ, ◌/◌, ◌%◌, ◌≤◌, ◌<◌}
use mathlib.Core.Path.{◌≡◌, sym, ◌∙◌}
use mathlib.Core.Bool.{false}
use mathlib.Core.List.{List}
use native.Mathlib.Omega.{arith}
use lib.Dec.{eqb}
use lib.ListN.{length}
use borrow.Author.Tests.{eq-eqb, ne_eqb}
use Rattle.laws.specs.Below.{over}
use Rattle.laws.specs.Leading.{leading}
use Rattle.block.specs.declared.Refusal.{Refusal}
use Rattle.block.specs.declared.Checked.TheVariants.{Passes, Refuses}
use Rattle.block.specs.Answer.{accepted, in_order}
use Rattle.block.specs.Rows.{room_row}
use Rattle.block.proofs.Order.{order_refuses, order_passes, order_last, judged_refused, judged_passed, written_refused, written_passed}
use Rattle.lists.specs.Rows.{length_row}
use Rattle.closed.specs.declared.Closure.{Closure}
use Rattle.closed.specs.declared.Closure.TheVariants as closure
use Rattle.closed.specs.Closed.{side_sound, Finding, all_sound, open_at, finding_of, said_closure}
use Rattle.closed.specs.Chains.{chains, words_needed, work_rows, ClosedWith}

module _ (quads : List ℕ) where
  -- ---- what the search finds

  pub finding_at_lem : (n : ℕ) → n ≡ leading (side_sound quads) (length quads) → n < length quads → finding_of quads ≡ open_at (n / 4) (n % 4)
  unfolding finding_of
  finding_at_lem n e h =
      let other : eqb (leading (side_sound quads) (length quads)) (length quads) ≡ false = ne_eqb _ _ (λ (x : leading (side_sound quads) (length quads) ≡ length quads). omega arith) in
      rw (other, ← e)

  pub finding_none : (n : ℕ) → n ≡ leading (side_sound quads) (length quads) → length quads ≤ n → leading (side_sound quads) (length quads) ≤ length quads → finding_of quads ≡ all_sound
  unfolding finding_of
  finding_none n e h l = rw (eq-eqb (leading (side_sound quads) (length quads)) (length quads) (omega arith))

  -- ---- and what is answered

  module _ (work : List ℕ) where
    abbrev room : ℕ
    room = length work

    refused_with : (r : Refusal) → in_order (work_rows quads room) ≡ Refuses r → ClosedWith quads work (closure.Refused r) work
    refused_with r e = record { answer = judged_refused _ _ r e; chained = sym (written_refused _ _ work r e) }

    pub length_refused : (r : Refusal) → length_row quads ≡ Refuses r → ClosedWith quads work (closure.Refused r) work
    length_refused r e = refused_with r (order_refuses (length_row quads) _ r e)

    pub room_refused : length_row quads ≡ Passes → (r : Refusal) → room_row (words_needed quads) (length work) ≡ Refuses r → ClosedWith quads work (closure.Refused r) work
    room_refused p r e = refused_with r (order_passes (length_row quads) _ p ∙ order_refuses (room_row (words_needed quads) room) _ r e)

    pub found_with : length_row quads ≡ Passes → room_row (words_needed quads) (length work) ≡ Passes → (r : Closure) (f : Finding) (work' : List ℕ) → said_closure r ≡ accepted f → finding_of quads ≡ f
        → work' ≡ over (chains quads) work → ClosedWith quads work r work'
    found_with p q r f work' s e w =
        let both = order_passes (length_row quads) _ p ∙ order_last (room_row (words_needed quads) room) ∙ q in
        record { answer = s ∙ judged_passed _ _ _ both (sym e); chained = w ∙ sym (written_passed _ _ work both) }
