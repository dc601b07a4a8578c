-- Masks that stand by their lowest edges: each one's lowest edge is below that of the next, and so below those of all that follow.
-- Assumes nothing.
use mathlib.Core.Path.{◌≡◌, refl, sym, ap₂, subst}
use mathlib.Core.Logic.{◌⊎◌, inl, inr, ⊎_elim}
use mathlib.Core.List.Memᴰ
use mathlib.Core.List.{List, [], ◌∷◌, Memᴰ}
use Prim.Native.Nat.{ℕ, zero, suc, ◌<◌}
use native.Mathlib.Nat.{not-suc-le-zero, le_of_suc-le-suc}
use native.Mathlib.Omega.{arith}
use lib.ListN.{length, get_or}
use Rattle.cube_rule.specs.Loops.{lowest_edge}
use Rattle.laws.proofs.Filled.{mem_at}

abbrev pub Rising : List ℕ → Type 0
Rising [] = Unit {0}
Rising (m ∷ []) = Unit {0}
Rising (m ∷ n ∷ ms) = (lowest_edge m < lowest_edge n) × Rising (n ∷ ms)

rising_tail : (m : ℕ) (ms : List ℕ) → Rising (m ∷ ms) → Rising ms
rising_tail m [] r = tt
rising_tail m (n ∷ ms) r = r.1

rising_past : (m : ℕ) (ms : List ℕ) → Rising (m ∷ ms) → (x : ℕ) → Memᴰ x ms → lowest_edge m < lowest_edge x
rising_past m [] r x d = absurd (Memᴰ.not-nil d)
rising_past m (n ∷ ms) r x d = go (Memᴰ.cases_cons d) (rising_past n ms r.1 x)
  where
    go : (x ≡ n) ⊎ Memᴰ x ms → (Memᴰ x ms → lowest_edge n < lowest_edge x) → lowest_edge m < lowest_edge x
    go (inl e) ih = rw e r.0
    go (inr k) ih = less r.0 (ih k)
      where
        less : {a b c : ℕ} → a < b → b < c → a < c
        less p q = omega arith

-- two such lists that have the same elements are the same
pub rising_same : (ms ns : List ℕ) → Rising ms → Rising ns → ((x : ℕ) → Memᴰ x ms → Memᴰ x ns) → ((x : ℕ) → Memᴰ x ns → Memᴰ x ms) → ms ≡ ns
rising_same [] [] r s f g = refl
rising_same [] (n ∷ ns) r s f g = absurd (Memᴰ.not-nil (g n (Memᴰ.head refl)))
rising_same (m ∷ ms) [] r s f g = absurd (Memᴰ.not-nil (f m (Memᴰ.head refl)))
rising_same (m ∷ ms) (n ∷ ns) r s f g =
    ap₂ (λ (x : ℕ) (xs : List ℕ). x ∷ xs) heads
    (rising_same ms ns (rising_tail m ms r) (rising_tail n ns s)
    (λ x d. other n ns x (f x (Memᴰ.tail d)) (subst (λ (y : ℕ). lowest_edge y < lowest_edge x) heads (rising_past m ms r x d)))
    (λ x d. other m ms x (g x (Memᴰ.tail d)) (subst (λ (y : ℕ). lowest_edge y < lowest_edge x) (sym heads) (rising_past n ns s x d))))
  where
    clash : {a b : ℕ} → a < b → b < a → ⊥
    clash p q = omega arith

    heads : m ≡ n
    heads = go (Memᴰ.cases_cons (f m (Memᴰ.head refl))) (Memᴰ.cases_cons (g n (Memᴰ.head refl)))
      where
        go : (m ≡ n) ⊎ Memᴰ m ns → (n ≡ m) ⊎ Memᴰ n ms → m ≡ n
        go (inl e) _ = e
        go (inr d) (inl e) = sym e
        go (inr d) (inr k) = absurd (clash (rising_past n ns s m d) (rising_past m ms r n k))

    other : (y : ℕ) (ys : List ℕ) (x : ℕ) → Memᴰ x (y ∷ ys) → lowest_edge y < lowest_edge x → Memᴰ x ys
    other y ys x d h = ⊎_elim (λ (e : x ≡ y). absurd (self (subst (λ (z : ℕ). lowest_edge y < lowest_edge z) e h))) (λ (k : Memᴰ x ys). k) (Memᴰ.cases_cons d)
      where
        self : {a : ℕ} → a < a → ⊥
        self p = omega arith

-- ---- the same, by places

abbrev InOrder : List ℕ → Type 0
InOrder ms = (a b : ℕ) → a < b → b < length ms → lowest_edge (get_or ms a 0) < lowest_edge (get_or ms b 0)

pub rising_order : (ms : List ℕ) → Rising ms → InOrder ms
rising_order [] r a b l h = absurd (not-suc-le-zero h)
rising_order (m ∷ ms) r a zero l h = absurd (not-suc-le-zero l)
rising_order (m ∷ ms) r zero (suc b) l h = rising_past m ms r (get_or ms b 0) (mem_at ms b (le_of_suc-le-suc h))
rising_order (m ∷ ms) r (suc a) (suc b) l h = rising_order ms (rising_tail m ms r) a b (le_of_suc-le-suc l) (le_of_suc-le-suc h)

pub order_rising : (ms : List ℕ) → InOrder ms → Rising ms
order_rising [] h = tt
order_rising (m ∷ []) h = tt
order_rising (m ∷ n ∷ ms) h = (h 0 1 (omega arith) (omega arith), order_rising (n ∷ ms) (λ a b l k. h (suc a) (suc b) (omega arith) (omega arith)))
