-- A buffer whose front is written place by place: its length, what stands in each place, and one place more.
-- Assumes nothing.
use mathlib.Core.Path.{◌≡◌, refl, ap, sym, ◌∙◌}
use mathlib.Core.Logic.{◌⊎◌, inl, inr}
use mathlib.Core.List.{List, [], ◌∷◌, ◌++◌, append_assoc, append-nil}
use Prim.Native.Nat.{ℕ, zero, suc, ◌+◌, ◌-◌, ◌≤◌, ◌<◌}
use native.Mathlib.Nat.{eq-or-lt_of_le, le_of_suc-le-suc, not-suc-le-zero}
use native.Mathlib.Numerals.{add-one}
use native.Mathlib.Omega.{arith}
use lib.ListN.{length, get_or, set, take, drop, length-append, length-drop, get_or-append}
use lib.Seq.{drop-length, drop-cons, take_at, set_at, get_or_at, get_or-append-add, get_or-drop}
use Rattle.laws.specs.Below.{below, over}

pub over_length : {A : Type 0} (xs b : List A) → length xs ≤ length b → length (over xs b) ≡ length b
unfolding over
over_length xs b h = simp (length-append, length-drop) (omega arith)

-- a place at the front, and the front as a whole
pub over_front : {A : Type 0} (xs b : List A) (k : ℕ) (d : A) → k < length xs → get_or (over xs b) k d ≡ get_or xs k d
unfolding over
over_front xs b k d h = get_or-append xs _ d k h

pub over_take : {A : Type 0} (xs b : List A) (k : ℕ) → length xs ≡ k → take k (over xs b) ≡ xs
unfolding over
over_take xs b k e = take_at xs _ k e

module _ {A : Type 0} (f : ℕ → A) where
  -- f 0, f 1, .., f (n − 1)
  abbrev pub each : ℕ → List A
  each n = below (λ i. f i ∷ []) n

  pub each_length : (n : ℕ) → length (each n) ≡ n
  unfolding below
  each_length zero = refl
  each_length (suc n) = length-append (each n) (f n ∷ []) ∙ rw (each_length n) (add-one n)

  pub each_at : (n i : ℕ) (d : A) → i < n → get_or (each n) i d ≡ f i
  unfolding below
  each_at zero i d h = absurd (not-suc-le-zero h)
  each_at (suc n) i d h = go (eq-or-lt_of_le (le_of_suc-le-suc h)) (each_at n i d)
    where
      go : (i ≡ n) ⊎ (i < n) → (i < n → get_or (each n) i d ≡ f i) → get_or (each n ++ f n ∷ []) i d ≡ f i
      go (inl e) ih = rw e (get_or_at (each n) (f n) [] d n (each_length n))
      go (inr l) ih = get_or-append (each n) (f n ∷ []) d i (rw (each_length n) l) ∙ ih l

  module _ (b : List A) where
    pub over_none : b ≡ over (each 0) b
    unfolding below over
    over_none = refl

    -- the next place
    pub over_more : (n : ℕ) → n < length b → set (over (each n) b) n (f n) ≡ over (each (n + 1)) b
    unfolding below over
    over_more n h =
        rw (each_length n, drop-cons b n (f n), add-one n, length-append (each n) (f n ∷ []), each_length n)
        (set_at (each n) (get_or b n (f n)) (drop (suc n) b) (f n) n (each_length n)
        ∙ rw (add-one n) (sym (append_assoc (each n) (f n ∷ []) (drop (suc n) b))))

    pub over_put : (l : List A) (n : ℕ) (v : A) → l ≡ over (each n) b → v ≡ f n → n < length b → set l n v ≡ over (each (n + 1)) b
    over_put l n v e ev h = rw (e, ev) (over_more n h)

    -- every place of the buffer
    pub over_each : (n : ℕ) → length b ≡ n → over (each n) b ≡ each n
    unfolding over
    over_each n e = rw (each_length n, ← e, drop-length b) (append-nil _)

    -- a place that is written
    pub over_at : (n i : ℕ) (d : A) → i < n → get_or (over (each n) b) i d ≡ f i
    unfolding over
    over_at n i d h = get_or-append (each n) (drop (length (each n)) b) d i (rw (each_length n) h) ∙ each_at n i d h

-- what stands behind is kept
pub over_behind : {A : Type 0} (xs b : List A) (k : ℕ) (d : A) → length xs ≤ k → get_or (over xs b) k d ≡ get_or b k d
unfolding over
over_behind xs b k d h =
    let back : length xs + (k - length xs) ≡ k = omega arith in
    ap (λ (i : ℕ). get_or (xs ++ drop (length xs) b) i d) (sym back)
    ∙ get_or-append-add xs (drop (length xs) b) (k - length xs) d
    ∙ get_or-drop (length xs) b (k - length xs) d
    ∙ ap (λ (i : ℕ). get_or b i d) back
