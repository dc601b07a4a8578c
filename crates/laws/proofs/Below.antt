-- Laws of `below`, the lists f 0, f 1, .., one after the other: what its elements are, where they stand, and how many there are.
-- Assumes nothing.
use Prim.Native.Nat.{ℕ, zero, suc, ◌+◌, ◌*◌, ◌-◌, ◌≤◌, ◌<◌}
use mathlib.Core.Path.{◌≡◌, refl, ap, ap₂, ◌∙◌}
use mathlib.Core.Logic.{◌⊎◌, inl, inr}
use mathlib.Core.List.Memᴰ
use mathlib.Core.List.{List, ◌++◌, append-nil, append_assoc, Memᴰ}
use native.Mathlib.Nat.{not-suc-le-zero, eq-or-lt_of_le, le_of_suc-le-suc, le_refl, add-zero, add-suc, mul-zero, mul-suc}
use native.Mathlib.Omega.{arith}
use lib.ListN.{length, get_or, length-append, get_or-append}
use lib.Seq.{get_or-append-add}
use Rattle.laws.specs.Below.{below}
use Rattle.laws.proofs.Tests.{lt_or_ge}

module _ {A : Type 0} (f : ℕ → List A) where
  -- an element of f m is one of the whole
  pub mem_below : {a : A} (n m : ℕ) → m < n → Memᴰ a (f m) → Memᴰ a (below f n)
  unfolding below
  mem_below zero m h d = absurd (not-suc-le-zero h)
  mem_below {a} (suc n) m h d = go (eq-or-lt_of_le (le_of_suc-le-suc h)) (mem_below n m)
    where
      go : (m ≡ n) ⊎ (m < n) → (m < n → Memᴰ a (f m) → Memᴰ a (below f n)) → Memᴰ a (below f n ++ f n)
      go (inl e) ih = Memᴰ.append_right (below f n) (rw e at d)
      go (inr l) ih = Memᴰ.append_left (f n) (ih l d)

  -- and there are no others
  pub mem_of_below : {a : A} (n : ℕ) → Memᴰ a (below f n) → (m : ℕ) × (m < n) × Memᴰ a (f m)
  unfolding below
  mem_of_below zero d = absurd (Memᴰ.not-nil d)
  mem_of_below {a} (suc n) d = go (Memᴰ.append_cases (below f n) d) (mem_of_below n)
    where
      go : Memᴰ a (below f n) ⊎ Memᴰ a (f n) → (Memᴰ a (below f n) → (m : ℕ) × (m < n) × Memᴰ a (f m))
          → (m : ℕ) × (m < suc n) × Memᴰ a (f m)
      go (inl l) ih = ((ih l).0, omega (arith, (ih l).1), (ih l).2)
      go (inr r) ih = (n, omega arith, r)

  -- the lists before m, and f m, fit into those before n
  pub length-below : (n m : ℕ) → m < n → length (below f m) + length (f m) ≤ length (below f n)
  unfolding below
  length-below zero m h = absurd (not-suc-le-zero h)
  length-below (suc n) m h = go (eq-or-lt_of_le (le_of_suc-le-suc h)) (length-below n m)
    where
      go : (m ≡ n) ⊎ (m < n) → (m < n → length (below f m) + length (f m) ≤ length (below f n))
          → length (below f m) + length (f m) ≤ length (below f n ++ f n)
      go (inl e) ih = rw (e, length-append) (le_refl _)
      go (inr l) ih = omega (arith, ih l, length-append (below f n) (f n))

  -- the element p of f m stands behind the lists before m
  pub get_or-below : (d : A) (n m p : ℕ) → m < n → p < length (f m) → get_or (below f n) (length (below f m) + p) d ≡ get_or (f m) p d
  unfolding below
  get_or-below d zero m p h q = absurd (not-suc-le-zero h)
  get_or-below d (suc n) m p h q = go (eq-or-lt_of_le (le_of_suc-le-suc h)) (get_or-below d n m p)
    where
      go : (m ≡ n) ⊎ (m < n) → (m < n → p < length (f m) → get_or (below f n) (length (below f m) + p) d ≡ get_or (f m) p d)
          → get_or (below f n ++ f n) (length (below f m) + p) d ≡ get_or (f m) p d
      go (inl e) ih = rw e (get_or-append-add (below f n) (f n) p d)
      go (inr l) ih = get_or-append (below f n) (f n) d (length (below f m) + p) (omega (arith, length-below n m l)) ∙ ih l q

  -- each place is in one of the lists
  pub split : (n v : ℕ) → v < length (below f n) → (m : ℕ) × (p : ℕ) × (m < n) × (p < length (f m)) × (v ≡ length (below f m) + p)
  unfolding below
  split zero v h = absurd (not-suc-le-zero h)
  split (suc n) v h = go (lt_or_ge v (length (below f n))) (split n v)
    where
      go : (v < length (below f n)) ⊎ (length (below f n) ≤ v)
          → (v < length (below f n) → (m : ℕ) × (p : ℕ) × (m < n) × (p < length (f m)) × (v ≡ length (below f m) + p))
          → (m : ℕ) × (p : ℕ) × (m < suc n) × (p < length (f m)) × (v ≡ length (below f m) + p)
      go (inl l) ih = let r = ih l in (r.0, r.1, omega (arith, r.2), r.3, r.4)
      go (inr g) ih = (n, v - length (below f n), omega arith, omega (arith, length-append (below f n) (f n)), omega arith)

  -- in two parts
  pub below_add : (n m : ℕ) → below f (n + m) ≡ below f n ++ below (λ (x : ℕ). f (n + x)) m
  unfolding below
  below_add n zero = rw (add-zero, append-nil)
  below_add n (suc m) = rw (add-suc, below_add n m) (append_assoc (below f n) (below (λ (x : ℕ). f (n + x)) m) (f (n + m)))

  -- n lists of at most b
  pub at_most : (b n : ℕ) → ((m : ℕ) → m < n → length (f m) ≤ b) → length (below f n) ≤ b * n
  unfolding below
  at_most b zero h = rw mul-zero (omega arith)
  at_most b (suc n) h = rw (mul-suc, length-append) (omega (arith, at_most b n (λ m l. h m (omega arith)), h n (omega arith)))

-- n lists of b
pub length_constant : {A : Type 0} (f : ℕ → List A) (b n : ℕ) → ((m : ℕ) → m < n → length (f m) ≡ b) → length (below f n) ≡ b * n
unfolding below
length_constant f b zero h = rw mul-zero
length_constant f b (suc n) h =
    rw (mul-suc, length-append) (omega (arith, length_constant f b n (λ m l. h m (omega arith)), h n (omega arith)))

-- in rows of w
pub below_mul : {A : Type 0} (f : ℕ → List A) (w m : ℕ) → below f (w * m) ≡ below (λ (y : ℕ). below (λ (x : ℕ). f (w * y + x)) w) m
unfolding below
below_mul f w zero = rw mul-zero
below_mul f w (suc m) = rw mul-suc (below_add f (w * m) w ∙ ap (λ l. l ++ below (λ (x : ℕ). f (w * m + x)) w) (below_mul f w m))

-- lists that are equal one by one
pub below_same : {A : Type 0} (f g : ℕ → List A) (n : ℕ) → ((m : ℕ) → m < n → f m ≡ g m) → below f n ≡ below g n
unfolding below
below_same f g zero e = refl
below_same {A} f g (suc n) e = ap₂ (λ (l r : List A). l ++ r) (below_same f g n (λ m l. e m (omega arith))) (e n (omega arith))
