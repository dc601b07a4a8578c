-- The rule of the loops as a test that computes: `m` is the set of crossed edges, `ls` the twelve links, `ms` the loops.
-- Assumes nothing.
use mathlib.Core.Path.{◌≡◌, refl, sym, subst}
use mathlib.Core.Bool.{Bool, true, false, not}
use mathlib.Core.Logic.{◌⊎◌, inl, inr, ⊎_elim}
use mathlib.Core.List.Memᴰ
use mathlib.Core.List.{List, [], ◌∷◌, Memᴰ}
use Prim.Native.Nat.{ℕ, zero, suc, ◌+◌, ◌*◌, ◌/◌, ◌^◌, ◌≤◌, ◌<◌}
use native.Mathlib.Omega.{arith}
use lib.Dec.{T, eqb, leb, ltb, eqb→eq, leb→le, ltb→lt}
use lib.ListN.{length, get_or}
use lib.Bits.{bit_and, bit_xor}
use lib.Count.{ones, ones_in, ones_step, count_trailing_zeros}
use Rattle.laws.specs.Bits.{bit, holds}
use Rattle.laws.proofs.Bits.{ones_in_lem}
use Rattle.laws.proofs.Tests.{both, one_of, left, right, cases, imply, below, below_at}
use Rattle.cube_rule.specs.Rule.{holders}
use Rattle.cube_rule.proofs.Rising.{Rising}
use Rattle.cube_rule.proofs.Trails.{trail, hangs}

-- ---- one loop

-- it has 3 to 12 edges
unfoldable sized : ℕ → Bool
unfolding ones_in
sized l = both (ltb l (2 ^ 12)) (both (leb 3 (ones_in 12 l)) (leb (ones_in 12 l) 12))

-- it has both ends of a link or neither
unfoldable pub kept : ℕ → ℕ → Bool
kept l p = one_of (eqb (bit_and l p) p) (eqb (bit_and l p) 0)

abbrev pub kept_on : List ℕ → ℕ → ℕ → Bool
kept_on ls l f = both (kept l (get_or ls (2 * f) 0)) (kept l (get_or ls (2 * f + 1) 0))

-- the trail of its lowest edge
abbrev trail_of : List ℕ → ℕ → List ℕ
trail_of ls l = trail 13 ls (2 ^ count_trailing_zeros 32 l)

unfoldable pub good_loop : List ℕ → ℕ → Bool
unfolding sized kept hangs below trail
good_loop ls l = both (sized l) (both (below 6 (kept_on ls l)) (hangs ls l (trail_of ls l)))

pub record Sized (l : ℕ) : Type 0 where
  pub small : l < 2 ^ 12
  pub three : 3 ≤ ones l
  pub twelve : ones l ≤ 12

size_of : (l : ℕ) → T (sized l) → Sized l
unfolding sized
size_of l t =
    let small = ltb→lt l (2 ^ 12) (left (ltb l (2 ^ 12)) _ t) in
    let u = right (ltb l (2 ^ 12)) (both (leb 3 (ones_in 12 l)) (leb (ones_in 12 l) 12)) t in
    let e = sym (ones_in_lem 12 l small) in
    record {
      small = small;
      three = subst (λ (x : ℕ). 3 ≤ x) e (leb→le 3 (ones_in 12 l) (left (leb 3 (ones_in 12 l)) (leb (ones_in 12 l) 12) u));
      twelve = subst (λ (x : ℕ). x ≤ 12) e (leb→le (ones_in 12 l) 12 (right (leb 3 (ones_in 12 l)) (leb (ones_in 12 l) 12) u));
    }

pub kept_or_not : (l p : ℕ) → T (kept l p) → (bit_and l p ≡ p) ⊎ (bit_and l p ≡ 0)
unfolding kept
kept_or_not l p t =
    ⊎_elim (λ (g : T (eqb (bit_and l p) p)). inl (eqb→eq (bit_and l p) p g)) (λ (g : T (eqb (bit_and l p) 0)). inr (eqb→eq (bit_and l p) 0 g))
    (cases (eqb (bit_and l p) p) (eqb (bit_and l p) 0) t)

module _ (ls : List ℕ) (l : ℕ) (t : T (good_loop ls l)) where
  pub loop_sized : Sized l
  unfolding good_loop
  loop_sized = size_of l (left (sized l) _ t)

  pub loop_kept : (f : ℕ) → f < 6 → T (kept_on ls l f)
  unfolding good_loop
  loop_kept f h = below_at 6 (kept_on ls l) (left (below 6 (kept_on ls l)) (hangs ls l (trail_of ls l)) (right (sized l) _ t)) f h

  pub loop_hangs : T (hangs ls l (trail_of ls l))
  unfolding good_loop
  loop_hangs = right (below 6 (kept_on ls l)) (hangs ls l (trail_of ls l)) (right (sized l) _ t)

-- ---- all loops

unfoldable all : (ℕ → Bool) → List ℕ → Bool
all f [] = true
all f (x ∷ xs) = both (f x) (all f xs)

all_at : (f : ℕ → Bool) (xs : List ℕ) → T (all f xs) → (x : ℕ) → Memᴰ x xs → T (f x)
unfolding all
all_at f [] t x d = absurd (Memᴰ.not-nil d)
all_at f (y ∷ ys) t x d =
    ⊎_elim (λ (e : x ≡ y). subst (λ (z : ℕ). T (f z)) (sym e) (left (f y) (all f ys) t))
    (λ (k : Memᴰ x ys). all_at f ys (right (f y) (all f ys) t) x k)
    (Memᴰ.cases_cons d)

unfoldable rising : List ℕ → Bool
unfolding count_trailing_zeros
rising [] = true
rising (m ∷ []) = true
rising (m ∷ n ∷ ms) = both (ltb (count_trailing_zeros 32 m) (count_trailing_zeros 32 n)) (rising (n ∷ ms))

rising_of : (ms : List ℕ) → T (rising ms) → Rising ms
unfolding rising
rising_of [] t = tt
rising_of (m ∷ []) t = tt
rising_of (m ∷ n ∷ ms) t =
    (ltb→lt (count_trailing_zeros 32 m) (count_trailing_zeros 32 n) (left (ltb (count_trailing_zeros 32 m) (count_trailing_zeros 32 n)) (rising (n ∷ ms)) t), rising_of (n ∷ ms) (right (ltb (count_trailing_zeros 32 m) (count_trailing_zeros 32 n)) (rising (n ∷ ms)) t))

-- the masks are the one mask m
unfoldable alone : ℕ → List ℕ → Bool
alone m [] = false
alone m (x ∷ []) = eqb x m
alone m (x ∷ y ∷ ms) = false

alone_is : (m : ℕ) (ms : List ℕ) → T (alone m ms) → ms ≡ m ∷ []
unfolding alone
alone_is m [] t = absurd t
alone_is m (x ∷ []) t = rw (eqb→eq x m t)
alone_is m (x ∷ y ∷ ms) t = absurd t

-- there are two masks
unfoldable twin : List ℕ → Bool
twin [] = false
twin (x ∷ []) = false
twin (x ∷ y ∷ []) = true
twin (x ∷ y ∷ z ∷ ms) = false

twin_is : (ms : List ℕ) → T (twin ms) → length ms ≡ 2
unfolding twin
twin_is [] t = absurd t
twin_is (x ∷ []) t = absurd t
twin_is (x ∷ y ∷ []) t = refl
twin_is (x ∷ y ∷ z ∷ ms) t = absurd t

-- there is a mask
unfoldable any : List ℕ → Bool
any [] = false
any (x ∷ ms) = true

any_is : (ms : List ℕ) → T (any ms) → 0 < length ms
unfolding any
any_is [] t = absurd t
any_is (x ∷ ms) t = omega arith

-- how many masks there are, where a test says so
pub record Sort : Type 0 where
  pub one : Bool
  pub two : Bool
  pub some : Bool

unfoldable sorted : Sort → ℕ → List ℕ → Bool
unfolding alone twin any
sorted q m ms = both (one_of (not q.one) (alone m ms)) (both (one_of (not q.two) (twin ms)) (one_of (not q.some) (any ms)))

-- Where at most five edges are left, they are the next loop: two loops have six.
unfoldable pub lasts : ℕ → List ℕ → Bool
unfolding ones_in
lasts m [] = true
lasts m (l ∷ ms) = both (one_of (ltb 5 (ones_in 12 m)) (eqb l m)) (lasts (bit_xor m l) ms)

digits_le : (d n : ℕ) → ones_in d n ≤ ones n
unfolding ones_in ones
digits_le zero n = omega arith
digits_le (suc d) n = omega (arith, ones_step n, digits_le d (n / 2))

module _ (m l : ℕ) (ms : List ℕ) (t : T (lasts m (l ∷ ms))) where
  pub lasts_more : T (lasts (bit_xor m l) ms)
  unfolding lasts
  lasts_more = right (one_of (ltb 5 (ones_in 12 m)) (eqb l m)) (lasts (bit_xor m l) ms) t

  pub lasts_now : ones m ≤ 5 → m ≡ l
  unfolding lasts
  lasts_now h =
      ⊎_elim (λ (g : T (ltb 5 (ones_in 12 m))). absurd (past (ltb→lt 5 (ones_in 12 m) g) (digits_le 12 m) h)) (λ (g : T (eqb l m)). sym (eqb→eq l m g))
      (cases (ltb 5 (ones_in 12 m)) (eqb l m) (left (one_of (ltb 5 (ones_in 12 m)) (eqb l m)) (lasts (bit_xor m l) ms) t))
    where
      past : {a b : ℕ} → 5 < a → a ≤ b → b ≤ 5 → ⊥
      past x y z = omega arith

abbrev counted : ℕ → List ℕ → ℕ → Bool
counted m ms e = eqb (holders e ms) (bit (holds m e))

-- the whole test
unfoldable pub good : Sort → ℕ → List ℕ → List ℕ → Bool
unfolding below all good_loop rising sorted lasts
good q m ls ms = both (below 12 (counted m ms)) (both (all (good_loop ls) ms) (both (rising ms) (both (sorted q m ms) (lasts m ms))))

module _ (q : Sort) (m : ℕ) (ls ms : List ℕ) (t : T (good q m ls ms)) where
  pub good_each : (e : ℕ) → e < 12 → holders e ms ≡ bit (holds m e)
  unfolding good
  good_each e h = eqb→eq (holders e ms) (bit (holds m e)) (below_at 12 (counted m ms) (left (below 12 (counted m ms)) _ t) e h)

  rest : T (both (all (good_loop ls) ms) (both (rising ms) (both (sorted q m ms) (lasts m ms))))
  unfolding good
  rest = right (below 12 (counted m ms)) _ t

  pub good_loops : (l : ℕ) → Memᴰ l ms → T (good_loop ls l)
  good_loops l d = all_at (good_loop ls) ms (left (all (good_loop ls) ms) _ rest) l d

  ordered : T (both (rising ms) (both (sorted q m ms) (lasts m ms)))
  ordered = right (all (good_loop ls) ms) _ rest

  pub good_order : Rising ms
  good_order = rising_of ms (left (rising ms) _ ordered)

  pub good_lasts : T (lasts m ms)
  good_lasts = right (sorted q m ms) (lasts m ms) (right (rising ms) _ ordered)

  told : T (sorted q m ms)
  told = left (sorted q m ms) (lasts m ms) (right (rising ms) _ ordered)

  pub good_one : q.one ≡ true → ms ≡ m ∷ []
  unfolding sorted
  good_one e = alone_is m ms (imply q.one (alone m ms) (left (one_of (not q.one) (alone m ms)) _ told) e)

  counts : T (both (one_of (not q.two) (twin ms)) (one_of (not q.some) (any ms)))
  unfolding sorted
  counts = right (one_of (not q.one) (alone m ms)) _ told

  pub good_two : q.two ≡ true → length ms ≡ 2
  good_two e = twin_is ms (imply q.two (twin ms) (left (one_of (not q.two) (twin ms)) _ counts) e)

  pub good_some : q.some ≡ true → 0 < length ms
  good_some e = any_is ms (imply q.some (any ms) (right (one_of (not q.two) (twin ms)) _ counts) e)
