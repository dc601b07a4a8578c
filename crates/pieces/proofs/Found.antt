-- What is found in buffers of n items, and what is then answered: the numbers, the sizes, the count of pieces and the longest search.
-- Assumes nothing.
use Prim.Native.Nat.{ℕ, ◌/◌, ◌%◌, ◌<◌}
use mathlib.Core.Path.{◌≡◌, ap, ap₂, sym, ◌∙◌, subst}
use mathlib.Core.List.{List, ◌++◌}
use native.Mathlib.Omega.{arith}
use lib.Dec.{eqb}
use lib.ListN.{length, get_or, drop}
use lib.Seq.{ext_get_or}
use Rattle.laws.specs.Below.{over}
use Rattle.laws.proofs.Counting.{count_same}
use Rattle.laws.proofs.Over.{each, each_length, each_at}
use Rattle.block.specs.declared.Refusal.{Refusal}
use Rattle.block.specs.declared.Checked.{Checked}
use Rattle.block.specs.declared.Checked.TheVariants.{Passes, Refuses}
use Rattle.block.proofs.Order.{passes_refuses, judged_refused, judged_passed, written_refused, written_passed}
use Rattle.trees.specs.Forest.{State, at, top_of, begin, after}
use Rattle.trees.specs.Steps.{stored, Standing}
use Rattle.trees.proofs.Joins.{Stands}
use Rattle.pieces.specs.declared.Parts.{Parts}
use Rattle.pieces.specs.declared.Pieced.TheVariants as pieced
use Rattle.pieces.specs.Chains.{PieceOf}
use Rattle.pieces.specs.Answer.{Numbers, members, sizes, parts_of, PiecesBy}
use Rattle.pieces.specs.Rules.{AllBelow}
use Rattle.pieces.specs.Steps.{low, Numbered}
use Rattle.pieces.proofs.Quads.{joined_to, piece_is}

module _ (n : ℕ) (few : n < 4294967296) (quads : List ℕ) (whole : length quads % 4 ≡ 0) (below : AllBelow n quads) where
  -- how long the lists are at first
  pub begun : (up size : List ℕ) → stored up size 0 ≡ begin n → length up ≡ n
  begun up size e = ap (λ (st : State). length st.up) e ∙ each_length (λ (v : ℕ). v) n

  -- there are such numbers
  pub some_numbers : (numbers : List ℕ) × Numbers n quads numbers
  some_numbers = (each number n, record { for_each = each_length number n; number = λ v h. subst (PieceOf quads v) (sym (each_at number n v 0 h)) (piece v h) })
    where
      number : ℕ → ℕ
      number v = low n (top_of (at (after n quads (length quads / 4)).up) n) v

      piece : (v : ℕ) → v < n → PieceOf quads v (number v)
      piece v h = piece_is n few quads below (length quads / 4) (omega arith) (joined_to n few quads below (length quads / 4) (omega arith)) v h

  module _ (up size : List ℕ) (longest l : ℕ) (el : l ≡ n) (e : stored up size longest ≡ after l quads (length quads / 4)) where
    last : stored up size longest ≡ after n quads (length quads / 4)
    last = e ∙ ap (λ (m : ℕ). after m quads (length quads / 4)) el

    -- the links can be followed
    pub standing : Standing n up size
    standing = subst (Stands n) (sym last) (joined_to n few quads below (length quads / 4) (omega arith)).stands

    -- the lowest vertex with the same top is the piece's number
    piece_here : (v : ℕ) → v < n → PieceOf quads v (low n (top_of (at up) n) v)
    piece_here v h =
        subst (λ (st : State). PieceOf quads v (low n (top_of (at st.up) n) v)) (sym last)
        (piece_is n few quads below (length quads / 4) (omega arith) (joined_to n few quads below (length quads / 4) (omega arith)) v h)

    pub found_all : (up' size' : List ℕ) (pieces : ℕ) → Numbered n up up' size' pieces
        → Numbers n quads up' × ((size' ≡ sizes n up') × (record { count = pieces; longest = longest } ≡ parts_of n quads up'))
    found_all up' size' pieces N = (
      record { for_each = N.up_length; number = λ v h. subst (PieceOf quads v) (sym (N.number v h)) (piece_here v h) },
      (
        ext_get_or 0 size' (sizes n up') (N.size_length ∙ sym (each_length (members n up') n)) (λ v h. counted v (rw N.size_length at h)),
        ap₂ (λ (c l : ℕ). record { count = c; longest = l }) (N.pieces ∙ count_same _ _ n (λ v h. ap (λ (p : ℕ). eqb p v) (sym (N.number v h)))) (ap (λ (st : State). st.longest) last),
      ),
    )
      where
        counted : (v : ℕ) → v < n → get_or size' v 0 ≡ get_or (sizes n up') v 0
        counted v h =
            N.sizes v h
            ∙ count_same _ _ n (λ w hw. ap (λ (p : ℕ). eqb p v) (sym (N.number w hw)))
            ∙ sym (each_at (members n up') n v 0 h)

-- ---- and what is answered

pub refused_by : (k : Checked) (n : ℕ) (quads piece size : List ℕ) (r : Refusal) → k ≡ Refuses r → PiecesBy k n quads piece size (pieced.Refused r) piece size
refused_by k n quads piece size r e = record {
  numbers = piece;
  right = λ p. absurd (passes_refuses (sym p ∙ e));
  answer = judged_refused k _ r e;
  numbered = sym (written_refused k _ piece r e);
  sized = sym (written_refused k _ size r e);
}

pub found_by : (k : Checked) (n : ℕ) (quads piece size : List ℕ) → k ≡ Passes → (up' size' : List ℕ) (r : Parts)
    → Numbers n quads up' → size' ≡ sizes n up' → r ≡ parts_of n quads up'
    → PiecesBy k n quads piece size (pieced.Found r) (up' ++ drop n piece) (size' ++ drop n size)
unfolding over
found_by k n quads piece size e up' size' r N es er = record {
  numbers = up';
  right = λ p. N;
  answer = judged_passed k r _ e er;
  numbered = rw (written_passed k up' piece e, N.for_each);
  sized = rw (written_passed k (sizes n up') size e, each_length (members n up') n, es);
}
