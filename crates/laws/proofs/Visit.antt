-- Visiting the set bits of a word by shifting it: `k = trailing zeros of w; ..; w = (w >> k) >> 1; i += k + 1`. The word that is left holds
-- the bits from i on, and the lists of the places passed are all there, since those of the places skipped are empty. Assumes nothing.
use mathlib.Core.Path.{◌≡◌, refl, sym, ap, ◌∙◌, subst}
use Prim.Native.Nat.{ℕ, zero, suc, ◌+◌, ◌-◌, ◌/◌, ◌%◌, ◌^◌, ◌≤◌, ◌<◌}
use mathlib.Core.List.{List, [], ◌++◌, append-nil}
use native.Mathlib.Nat.{add-zero, add-suc, mod-one, mod-eq_of_lt, lt_of_lt_of_le}
use native.Mathlib.Numerals.{add-one}
use native.Mathlib.Decide.{dec_lt}
use native.Mathlib.Omega.{arith}
use lib.Pow.{shr-shr, pow_mono, mod-pow-add}
use lib.Count.{count_trailing_zeros, under}
use Rattle.laws.specs.Below.{below}
use Rattle.laws.proofs.Pack.{pack_lt, pack_zero}
use Rattle.laws.proofs.Trailing.{trailing_set}
use Rattle.laws.proofs.Words.{Word, word_low, word_high, word_same, word_bit}

-- ---- trailing zeros

-- the bits below the lowest set one are 0
pub trailing_mod : (k n : ℕ) → n % 2 ^ count_trailing_zeros k n ≡ 0
unfolding count_trailing_zeros
trailing_mod zero n = mod-one n
trailing_mod (suc k) n = go (n % 2) refl (trailing_mod k (n / 2))
  where
    go : (d : ℕ) → n % 2 ≡ d → n / 2 % 2 ^ count_trailing_zeros k (n / 2) ≡ 0 → n % 2 ^ under d (count_trailing_zeros k (n / 2)) ≡ 0
    go zero e ih = rw (← add-one (count_trailing_zeros k (n / 2)), mod-pow-add n (count_trailing_zeros k (n / 2)) 1) (omega arith)
    go (suc d) e ih = mod-one n

-- a number below 2 ^ m that is not 0 has fewer than m of them
pub trailing_under : (k n m : ℕ) → (n ≡ 0 → ⊥) → n < 2 ^ m → count_trailing_zeros k n < m
trailing_under k n m ne h = elim (dec_lt (count_trailing_zeros k n) m) [ yes p ↦ p | no q ↦ absurd (ne (zero_of q)) ]
  where
    zero_of : (count_trailing_zeros k n < m → ⊥) → n ≡ 0
    zero_of q = sym (mod-eq_of_lt (lt_of_lt_of_le h (pow_mono (le q)))) ∙ trailing_mod k n
      where
        le : (count_trailing_zeros k n < m → ⊥) → m ≤ count_trailing_zeros k n
        le q = omega arith

-- ---- what is left of a word

-- w holds the bits of f from i to n
pub record Left (f : ℕ → ℕ) (n i w : ℕ) : Type 0 where
  pub in_n : i ≤ n
  pub word : Word w (λ j. f (i + j)) (n - i)

pub left_start : {f : ℕ → ℕ} {n w : ℕ} → Word w f n → Left f n 0 w
left_start {f} {n} {w} x = record {
  in_n = omega arith;
  word = subst (λ (m : ℕ). Word w (λ j. f (0 + j)) m) size (word_same (λ j. f (0 + j)) x (λ i. x.bit (0 + i)) (λ i h. ap f (same i)));
}
  where
    size : n ≡ n - 0
    size = omega arith

    same : (i : ℕ) → i ≡ 0 + i
    same i = omega arith

module _ {f : ℕ → ℕ} {n i w : ℕ} (l : Left f n i w) where
  -- the lowest set bit is one of f's
  pub left_in : (w ≡ 0 → ⊥) → i + count_trailing_zeros 64 w < n
  left_in ne =
      omega (arith, trailing_under 64 w (n - i) ne (subst (λ (x : ℕ). x < 2 ^ (n - i)) (sym l.word.is) (pack_lt _ l.word.bit (n - i))))

  -- f is 1 there
  pub left_set : n ≤ 64 → (w ≡ 0 → ⊥) → f (i + count_trailing_zeros 64 w) ≡ 1
  left_set h ne =
      sym (word_bit l.word (count_trailing_zeros 64 w) (omega (arith, left_in ne))) ∙ trailing_set 64 w (omega (arith, left_in ne))

  -- and 0 before
  pub left_skip : (w ≡ 0 → ⊥) → (j : ℕ) → j < count_trailing_zeros 64 w → f (i + j) ≡ 0
  left_skip ne =
      pack_zero (λ j. f (i + j)) (count_trailing_zeros 64 w)
      (sym (word_low (count_trailing_zeros 64 w) l.word (omega (arith, left_in ne))).is ∙ trailing_mod 64 w)

  -- the word behind it
  pub left_next : (w ≡ 0 → ⊥) → Left f n (i + count_trailing_zeros 64 w + 1) (w / 2 ^ count_trailing_zeros 64 w / 2)
  left_next ne = record {
    in_n = omega (arith, left_in ne);
    word = subst (λ (m : ℕ). Word (w / 2 ^ k / 2) (λ j. f (i + k + 1 + j)) m) size
        (subst (λ (x : ℕ). Word x (λ j. f (i + k + 1 + j)) (n - i - (k + 1))) (sym (shr-shr w k 1))
        (word_same (λ j. f (i + k + 1 + j)) (word_high (k + 1) l.word (omega (arith, left_in ne))) (λ j. bits j) (λ j h. ap f (at j))));
  }
    where
      k : ℕ
      k = count_trailing_zeros 64 w

      at : (j : ℕ) → i + (k + 1 + j) ≡ i + k + 1 + j
      at j = omega arith

      bits : (j : ℕ) → f (i + k + 1 + j) ≤ 1
      bits j = subst (λ (x : ℕ). f x ≤ 1) (at j) (l.word.bit (k + 1 + j))

      size : n - i - (k + 1) ≡ n - (i + k + 1)
      size = omega arith

  -- nothing is left
  pub left_end : w ≡ 0 → (j : ℕ) → j < n - i → f (i + j) ≡ 0
  left_end e = pack_zero (λ j. f (i + j)) (n - i) (sym l.word.is ∙ e)

-- ---- lists over the places

pub below_none : {A : Type 0} (g : ℕ → List A) → below g 0 ≡ []
unfolding below
below_none g = refl

pub below_one : {A : Type 0} (g : ℕ → List A) (n : ℕ) → below g (n + 1) ≡ below g n ++ g n
unfolding below
below_one g n = rw (add-one n)

-- nothing stands between m and m + k
pub below_skip : {A : Type 0} (g : ℕ → List A) (m k : ℕ) → ((j : ℕ) → j < k → g (m + j) ≡ []) → below g (m + k) ≡ below g m
unfolding below
below_skip g m zero e = rw (add-zero m)
below_skip g m (suc k) e =
    rw (add-suc m k, e k (omega arith), append-nil (below g (m + k))) (below_skip g m k (λ j h. e j (omega arith)))
