-- The cubes of a word with one loop and with two are counted by their bits, and the others one by one.
-- Assumes nothing.
use Prim.Native.Nat.{ℕ, ◌+◌, ◌*◌, ◌^◌, ◌≤◌, ◌<◌, zero, suc}
use mathlib.Core.Path.{◌≡◌, refl, ap, sym, ◌∙◌}
use mathlib.Core.Bool.{Bool, true, false, cond, ◌&&◌, false≢true}
use mathlib.Core.List.{List, []}
use native.Mathlib.Omega.{arith}
use lib.Bits.{bit_and, bit_xor, and_le_r, xor_lt, xor_self}
use lib.Count.{ones, count_trailing_zeros}
use lib.ListN.{length, length-append}
use Rattle.laws.specs.Below.{below}
use Rattle.laws.specs.Bits.{differ, holds, bit}
use Rattle.laws.proofs.Below.{at_most}
use Rattle.laws.proofs.Words.{and_holds, xor_holds, word_of, word_ones, digit_holds}
use Rattle.block.specs.declared.Cut.{Cut}
use Rattle.cube_rule.specs.Decider.{joined, loops_of}
use Rattle.cube_rule.proofs.Laws.{cube_laws}
use Rattle.sorts.specs.declared.Sorts.{Sorts}
use Rattle.faces.specs.Faces.{plain_of}
use Rattle.signs.specs.Windows.{window_corners}
use Rattle.rows.specs.Rows.{loops_at, picked, word_loops, WordReady}
use Rattle.joins.specs.Joined.{Sorted}
use Rattle.joins.proofs.JoinedFaces.{plain_single}
use Rattle.rows.proofs.Visits.{picked_none, bits_of, picked_next}
use Rattle.laws.specs.Counting.{total}
use Rattle.laws.proofs.Visit.{Left}
use Rattle.laws.proofs.Tests.{and_both}

-- ---- one cube more

module _ (act : ℕ) {i w : ℕ} (l : Left (bits_of act) 64 i w) where
  module _ (f : ℕ → List ℕ) where
    pub counted_next : (w ≡ 0 → ⊥) → (n m r : ℕ) → m ≡ n + length (below (picked act f) i) → r ≡ length (f (i + count_trailing_zeros 64 w))
        → m + r ≡ n + length (below (picked act f) (i + count_trailing_zeros 64 w + 1))
    counted_next ne n m r p q =
        rw (picked_next act l f ne, length-append) (omega arith)

-- ---- cubes with as many loops each, counted together

-- one list more, one number more
length_more : (f : ℕ → List ℕ) (n : ℕ) → length (below f (suc n)) ≡ length (below f n) + length (f n)
unfolding below
length_more f n = length-append (below f n) (f n)

total_more : (f : ℕ → ℕ) (n : ℕ) → total f (suc n) ≡ f n + total f n
unfolding total
total_more f n = refl

-- Some of the picked give k each: k times as many as they are, and what the others give.
module _ (k act some : ℕ) (f : ℕ → List ℕ) where
  part : (x : ℕ) → (holds some x ≡ true → (holds act x ≡ true) × (length (f x) ≡ k))
      → k * bits_of some x + length (picked (bit_xor act some) f x) ≡ length (picked act f x)
  part x h = rw (digit_holds some x, xor_holds act some x) (go (holds act x) (holds some x) h)
    where
      go : (a b : Bool) → (b ≡ true → (a ≡ true) × (length (f x) ≡ k)) → k * bit b + length (cond (differ a b) (f x) []) ≡ length (cond a (f x) [])
      go true true h = omega (arith, (h refl).1)
      go true false h = omega arith
      go false true h = absurd (false≢true (h refl).0)
      go false false h = omega arith

  parts : (n : ℕ) → ((x : ℕ) → x < n → holds some x ≡ true → (holds act x ≡ true) × (length (f x) ≡ k))
      → k * total (bits_of some) n + length (below (picked (bit_xor act some) f) n) ≡ length (below (picked act f) n)
  unfolding total below
  parts zero h = omega arith
  parts (suc n) h =
      omega (
        arith,
        ap (λ (t : ℕ). k * t) (total_more (bits_of some) n),
        length_more (picked (bit_xor act some) f) n,
        length_more (picked act f) n,
        parts n (λ x l. h x (omega arith)),
        part n (h n (omega arith)),
      )

  pub counted_each : some < 2 ^ 64 → ((x : ℕ) → x < 64 → holds some x ≡ true → (holds act x ≡ true) × (length (f x) ≡ k))
      → k * ones some + length (below (picked (bit_xor act some) f) 64) ≡ length (below (picked act f) 64)
  counted_each small h = ap (λ (n : ℕ). k * n + length (below (picked (bit_xor act some) f) 64)) (word_ones (word_of some 64 small)) ∙ parts 64 h

-- ---- the cubes with one loop and with two

-- a bit that is in the one and not in a part of it is in the one
pub rest_in : (act p x : ℕ) → holds (bit_xor act (bit_and p act)) x ≡ true → holds act x ≡ true
rest_in act p x e = go (holds act x) (holds p x) (sym (xor_holds act (bit_and p act) x ∙ ap (differ (holds act x)) (and_holds p act x)) ∙ e)
  where
    go : (a b : Bool) → differ a (b && a) ≡ true → a ≡ true
    go true b e = refl
    go false true e = e
    go false false e = e

-- the sizes of both
part_lt : (act p : ℕ) → act < 2 ^ 64 → bit_and p act < 2 ^ 64
part_lt act p h = less (and_le_r p act) h
  where
    less : {a b c : ℕ} → a ≤ b → b < c → a < c
    less h k = omega arith

pub rest_lt : (act p : ℕ) → act < 2 ^ 64 → bit_xor act (bit_and p act) < 2 ^ 64
rest_lt act p h = xor_lt 64 act (bit_and p act) h (part_lt act p h)

-- no more than four loops a cube
pub word_le : (lo hi : List ℕ) (cut : Cut) (nx act p : ℕ) → length (word_loops loops_of lo hi cut nx act p) ≤ 256
word_le lo hi cut nx act p =
    at_most (picked act (λ (x : ℕ). loops_at loops_of lo hi cut nx (p + x))) 4 64 (λ x l. go x (holds act x))
  where
    go : (x : ℕ) (b : Bool) → length (cond b (loops_at loops_of lo hi cut nx (p + x)) []) ≤ 4
    go x true = (cube_laws joined).four cut (window_corners nx lo hi (p + x))
    go x false = omega arith

-- the cubes of a word: one loop for each of the first, two for each of the second, and those of the others
module _ {lo hi : List ℕ} {cut : Cut} {nx p act : ℕ} {r : Sorts} (sorted : Sorted loops_of lo hi cut nx p act r) where
  abbrev loops : ℕ → List ℕ
  loops x = loops_at loops_of lo hi cut nx (p + x)

  abbrev left : ℕ
  left = bit_xor act (bit_and r.one act)

  single : (x : ℕ) → x < 64 → holds (bit_and r.one act) x ≡ true → (holds act x ≡ true) × (length (loops x) ≡ 1)
  single x h t =
      let both = sym (and_holds r.one act x) ∙ t in
      let each = and_both (holds r.one x) (holds act x) both in
      (each.1, ap length (sorted.one x h each.1 each.0))

  double : (x : ℕ) → x < 64 → holds (bit_and r.two left) x ≡ true → (holds left x ≡ true) × (length (loops x) ≡ 2)
  double x h t =
      let both = sym (and_holds r.two left x) ∙ t in
      let each = and_both (holds r.two x) (holds left x) both in
      (each.1, sorted.two x h (rest_in act r.one x each.1) each.0)

  pub word_counted : act < 2 ^ 64
      → ones (bit_and r.one act) + 2 * ones (bit_and r.two left) + length (below (picked (bit_xor left (bit_and r.two left)) loops) 64) ≡ length (word_loops loops_of lo hi cut nx act p)
  word_counted small =
      omega (
        arith,
        counted_each 1 act (bit_and r.one act) loops (part_lt act r.one small) single,
        counted_each 2 left (bit_and r.two left) loops (part_lt left r.two (rest_lt act r.one small)) double,
      )

-- all of them plain: one loop for each
pub plain_counted : {lo hi : List ℕ} {cut : Cut} {nx p : ℕ} {e : List ℕ} {act word : ℕ} → WordReady lo hi cut nx p e act → word ≡ plain_of e → act < 2 ^ 64 → bit_and act word ≡ act
    → ones act ≡ length (word_loops loops_of lo hi cut nx act p)
plain_counted {lo} {hi} {cut} {nx} {p} {e} {act} {word} ready is small all =
    omega (
      arith,
      counted_each 1 act act (λ (x : ℕ). loops_at loops_of lo hi cut nx (p + x)) small
          (λ x h t. (t, ap length (plain_single ready is x h t (and_both (holds act x) (holds word x) (sym (and_holds act word x) ∙ ap (λ (w : ℕ). holds w x) all ∙ t)).1))),
      ap length (picked_none (bit_xor act act) (λ (x : ℕ). loops_at loops_of lo hi cut nx (p + x)) (xor_self act)),
    )
