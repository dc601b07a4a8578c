-- The loops of a cube, found one after the other and written into four places.
-- Assumes nothing.
use mathlib.Core.Path.{◌≡◌, refl, sym, ap, ap₂, ◌∙◌, subst}
use mathlib.Core.Logic.{◌⊎◌, inl, inr}
use mathlib.Core.List.{List, [], ◌∷◌, ◌++◌}
use Prim.Native.Nat.{ℕ, zero, suc, ◌+◌, ◌-◌, ◌≤◌, ◌<◌}
use native.Mathlib.Numerals.{add-one}
use native.Mathlib.Omega.{arith}
use borrow.Author.Tests.{ne_eqb}
use lib.Bits.{bit_xor}
use lib.Count.{ones}
use lib.Dec.{T}
use lib.ListN.{length, get_or, take, drop, set, length-drop}
use lib.Seq.{take-suc, drop-cons, take_all, length-take-le}
use Rattle.laws.specs.Filled.{filled}
use Rattle.laws.proofs.Filled.{filled_more}
use Rattle.cube_rule.specs.Loops.{lowest_edge, loop_from, loops_from}
use Rattle.cube_rule.proofs.Tested.{lasts, lasts_now, lasts_more}
use Rattle.cube.specs.declared.Loops.{Loops}
use Rattle.cube.specs.Answer.{answered}

-- of a list that goes on with y from place n: it is longer, and y and the rest are what is there
goes_on : (n : ℕ) (xs ys : List ℕ) (y : ℕ) → drop n xs ≡ y ∷ ys
    → (n < length xs) × (take (n + 1) xs ≡ take n xs ++ y ∷ []) × (drop (n + 1) xs ≡ ys)
goes_on n xs ys y e =
    let h : n < length xs = omega (arith, sym (length-drop n xs) ∙ ap length e) in
    let c : get_or xs n 0 ∷ drop (suc n) xs ≡ y ∷ ys = sym (drop-cons xs n 0 h) ∙ e in
    let p : get_or xs n 0 ≡ y = cc in
    (h, rw (add-one, take-suc xs n 0, p), rw add-one (cc))

-- no loop is wanted, or no edge is left: no loop more
none_left : (k : ℕ) (ls : List ℕ) (m : ℕ) → (k ≡ 0) ⊎ (m ≡ 0) → loops_from k ls m ≡ []
unfolding loops_from
none_left zero ls m e = refl
none_left (suc k) ls m (inl z) = absurd (omega arith)
none_left (suc k) ls m (inr z) = rw z

-- some edges are left: the loop of the lowest, and those of the edges that are not in it
some_left : (n : ℕ) (ls : List ℕ) (m : ℕ) → 0 < m → loops_from (suc n) ls m ≡ loop_from ls (lowest_edge m) ∷ loops_from n ls (bit_xor m (loop_from ls (lowest_edge m)))
unfolding loops_from
some_left n ls m h = let e = ne_eqb m 0 (λ q. omega arith) in rw e

module _ (ls : List ℕ) (m₀ : ℕ) where
  abbrev all : List ℕ
  all = loops_from 4 ls m₀

  -- n of the loops are found and stand in the places, m holds the edges of those that are left
  pub record Found (m : ℕ) (places : List ℕ) (n : ℕ) : Type 0 where
    pub room : n ≤ 4
    pub within : n ≤ length all
    pub rest : drop n all ≡ loops_from (4 - n) ls m
    pub front : places ≡ filled 4 0 (take n all)
    pub last : T (lasts m (drop n all))

  -- at first
  pub found_none : T (lasts m₀ all) → Found m₀ (0 ∷ 0 ∷ 0 ∷ 0 ∷ []) 0
  unfolding filled
  found_none t = record { room = omega arith; within = omega arith; rest = refl; front = refl; last = t }

  -- the next loop is what is left, where that has at most five edges
  pub found_last : (m n : ℕ) (places : List ℕ) → Found m places n → n < 4 → 0 < m → ones m ≤ 5 → m ≡ loop_from ls (lowest_edge m)
  found_last m n places s h p five =
      lasts_now m (loop_from ls (lowest_edge m)) (loops_from (4 - (n + 1)) ls (bit_xor m (loop_from ls (lowest_edge m))))
      (subst (λ (xs : List ℕ). T (lasts m xs)) (s.rest ∙ ap (λ (k : ℕ). loops_from k ls m) less ∙ some_left (4 - (n + 1)) ls m p) s.last) five
    where
      less : 4 - n ≡ suc (4 - (n + 1))
      less = omega arith

  -- after one loop more
  pub found_more : (m n l : ℕ) (places : List ℕ) → Found m places n → n < 4 → 0 < m → l ≡ loop_from ls (lowest_edge m)
      → Found (bit_xor m l) (set places n l) (n + 1)
  found_more m n l places s h p q = record {
    room = omega arith;
    within = omega (arith, next.0);
    rest = next.2;
    front = ap (λ (ps : List ℕ). set ps n l) s.front ∙ written;
    last =
        subst (λ (xs : List ℕ). T (lasts (bit_xor m l) xs)) (sym next.2)
        (lasts_more m l (loops_from (4 - (n + 1)) ls (bit_xor m l)) (subst (λ (xs : List ℕ). T (lasts m xs)) from s.last));
  }
    where
      less : 4 - n ≡ suc (4 - (n + 1))
      less = omega arith

      from : drop n all ≡ l ∷ loops_from (4 - (n + 1)) ls (bit_xor m l)
      from = s.rest ∙ ap (λ (k : ℕ). loops_from k ls m) less ∙ rw q (some_left (4 - (n + 1)) ls m p)

      next : (n < length all) × (take (n + 1) all ≡ take n all ++ l ∷ []) × (drop (n + 1) all ≡ loops_from (4 - (n + 1)) ls (bit_xor m l))
      next = goes_on n all (loops_from (4 - (n + 1)) ls (bit_xor m l)) l from

      taken : length (take n all) ≡ n
      taken = length-take-le n all s.within

      written : set (filled 4 0 (take n all)) n l ≡ filled 4 0 (take (n + 1) all)
      written =
          ap (λ (k : ℕ). set (filled 4 0 (take n all)) k l) (sym taken)
          ∙ filled_more 4 0 (take n all) l (rw taken h)
          ∙ ap (λ (xs : List ℕ). filled 4 0 xs) (sym next.1)

  -- at last
  pub found_all : (m n : ℕ) (places : List ℕ) → Found m places n → (4 - n ≡ 0) ⊎ (m ≡ 0)
      → ◌≡◌ {A = Loops} (record { count = n; masks = places }) (answered all)
  found_all m n places s e =
      let every : n ≡ length all = omega (arith, s.within, sym (length-drop n all) ∙ ap length (s.rest ∙ none_left (4 - n) ls m e)) in
      ap₂ (λ (k : ℕ) (ps : List ℕ). record { count = k; masks = ps }) every
      (s.front ∙ ap (λ (xs : List ℕ). filled 4 0 xs) (take_all n all (omega arith)))
