-- What follows where no row refuses: the quads are whole, their numbers are below the number of vertices, and both buffers are long enough.
-- Assumes nothing.
use Prim.Native.Nat.{ℕ, zero, suc, ◌+◌, ◌*◌, ◌/◌, ◌%◌, ◌≤◌, ◌<◌}
use mathlib.Core.Path.{◌≡◌, refl, sym, subst}
use mathlib.Core.Bool.{true}
use mathlib.Core.List.{List, []}
use native.Mathlib.Omega.{arith}
use lib.Dec.{leb, ltb}
use lib.ListN.{length}
use borrow.Author.Tests.{leb-true, ltb-true}
use Rattle.laws.proofs.Tests.{and_both}
use Rattle.block.specs.declared.Checked.TheVariants.{Passes}
use Rattle.block.proofs.Order.{order_first, order_rest}
use Rattle.block.proofs.Rows.{unless_none}
use Rattle.block.proofs.Searches.{search_none}
use Rattle.lists.specs.Rows.{length_row, quad_below, number_row}
use Rattle.lists.proofs.Rows.{length_exactly}
use Rattle.trees.specs.Forest.{at}
use Rattle.pieces.specs.Answer.{buffer_row, pieces_verdict}
use Rattle.pieces.specs.Rules.{AllBelow}

-- row 14 passes: each number is below n
pub all_below : (n : ℕ) (quads : List ℕ) → length quads % 4 ≡ 0 → number_row n quads ≡ Passes → AllBelow n quads
all_below n quads whole e k h = go (k % 4) refl (omega arith)
  where
    four : quad_below n quads (k / 4) ≡ true
    four = search_none 14 (quad_below n quads) (length quads / 4) e (k / 4) (omega arith)

    three : ((ltb (at quads (4 * (k / 4))) n ≡ true) × (ltb (at quads (4 * (k / 4) + 1)) n ≡ true) × (ltb (at quads (4 * (k / 4) + 2)) n ≡ true) × (ltb (at quads (4 * (k / 4) + 3)) n ≡ true))
    three =
        let d = and_both _ _ four in
        let c = and_both _ _ d.0 in
        let b = and_both _ _ c.0 in
        (b.0, b.1, c.1, d.1)

    place : (j : ℕ) → k ≡ j → ltb (at quads j) n ≡ true → at quads k < n
    place j s t = subst (λ (i : ℕ). at quads i < n) (sym s) (ltb-true (at quads j) n t)

    go : (r : ℕ) → k % 4 ≡ r → r < 4 → at quads k < n
    go zero s l = place (4 * (k / 4)) (omega arith) three.0
    go (suc zero) s l = place (4 * (k / 4) + 1) (omega arith) three.1
    go (suc (suc zero)) s l = place (4 * (k / 4) + 2) (omega arith) three.2
    go (suc (suc (suc zero))) s l = place (4 * (k / 4) + 3) (omega arith) three.3
    go (suc (suc (suc (suc r)))) s l = absurd (omega arith)

pub record Accepted (n : ℕ) (quads : List ℕ) (piece size : ℕ) : Type 0 where
  pub whole : length quads % 4 ≡ 0
  pub below : AllBelow n quads
  pub piece_room : n ≤ piece
  pub size_room : n ≤ size

pub accepted_by : (n : ℕ) (quads : List ℕ) (piece size : ℕ) → pieces_verdict n quads piece size ≡ Passes → Accepted n quads piece size
accepted_by n quads piece size e =
    let w : length quads % 4 ≡ 0 = (length_exactly quads).0 (order_first (length_row quads) _ e) in
    let rest = order_rest (length_row quads) _ e in
    let room = and_both (leb n piece) (leb n size) (unless_none _ 5 n (order_first (buffer_row n piece size) [] (order_rest (number_row n quads) _ rest))) in
    record {
      whole = w;
      below = all_below n quads w (order_first (number_row n quads) _ rest);
      piece_room = leb-true n piece room.0;
      size_room = leb-true n size room.1;
    }
