-- The two halves of a buffer of tables: one is written, the other kept.
-- Assumes nothing.
use Prim.Native.Nat.{ℕ, ◌+◌, ◌*◌, ◌-◌, ◌%◌, ◌≤◌, ◌<◌}
use mathlib.Core.Path.{◌≡◌, sym, ap, ap₂, ◌∙◌, subst}
use mathlib.Core.Logic.{◌⊎◌, inl, inr}
use mathlib.Core.List.{List, ◌++◌}
use native.Mathlib.Omega.{arith}
use borrow.Rule.Slice.PartMut.{put_mid, take_put, drop_put, same_len_mid, mid_len}
use lib.ListN.{length, take, drop, length-drop, take-append-drop}
use lib.Seq.{length-take-le, take_all, take_at, drop_at}
use Rattle.laws.proofs.Tests.{lt_or_ge}
use Rattle.quads.specs.Writing.{Tables}
use Rattle.layers.specs.Steps.{half}

-- the half of row j, and the other half, as they are lent
abbrev pub lent_half : ℕ → List ℕ → List ℕ
lent_half j tab = take (512 * (j % 2) + 512 - 512 * (j % 2)) (drop (512 * (j % 2)) tab)

abbrev pub lent_other : ℕ → List ℕ → List ℕ
lent_other j tab = take (512 - 512 * (j % 2) + 512 - (512 - 512 * (j % 2))) (drop (512 - 512 * (j % 2)) tab)

pub lent_half_lem : (j : ℕ) (tab : List ℕ) → lent_half j tab ≡ half j tab
lent_half_lem j tab = ap (λ (k : ℕ). take k (drop (512 * (j % 2)) tab)) size
  where
    size : 512 * (j % 2) + 512 - 512 * (j % 2) ≡ 512
    size = omega arith

other : (j : ℕ) → 512 - 512 * (j % 2) ≡ 512 * ((j + 1) % 2)
other j = omega arith

pub lent_other_lem : (j : ℕ) (tab : List ℕ) → lent_other j tab ≡ half (j + 1) tab
lent_other_lem j tab = ap (λ (g : ℕ). take (g + 512 - g) (drop g tab)) (other j) ∙ lent_half_lem (j + 1) tab

pub half_long : (j : ℕ) (tab : List ℕ) → length tab ≡ 1024 → length (half j tab) ≡ 512
half_long j tab e = length-take-le 512 (drop (512 * (j % 2)) tab) (omega (arith, length-drop (512 * (j % 2)) tab))

pub lent_long : (j : ℕ) (tab : List ℕ) → length tab ≡ 1024 → length (lent_half j tab) ≡ 512
lent_long j tab e = ap length (lent_half_lem j tab) ∙ half_long j tab e

pub other_long : (j : ℕ) (tab : List ℕ) → length tab ≡ 1024 → length (lent_other j tab) ≡ 512
other_long j tab e = ap length (lent_other_lem j tab) ∙ half_long (j + 1) tab e

-- halves reach as far as any row
pub halves_reach : (nx : ℕ) {n0 n1 n2 n3 : List ℕ} → nx ≤ 256 → length n0 ≡ 512 → length n1 ≡ 512 → length n2 ≡ 512 → length n3 ≡ 512 → Tables nx n0 n1 n2 n3
halves_reach nx h e0 e1 e2 e3 = record { n0_row = omega arith; n1_row = omega arith; n2_row = omega arith; n3_row = omega arith }

module _ (j : ℕ) (tab p : List ℕ) (long : length tab ≡ 1024) (part : length p ≡ 512) where
  abbrev h : ℕ
  h = 512 * (j % 2)

  -- the buffer with the half put back
  abbrev put : List ℕ
  put = put_mid (512 * (j % 2)) (512 * (j % 2) + 512 - 512 * (j % 2)) tab p

  pub put_long : length put ≡ 1024
  put_long = same_len_mid h (h + 512 - h) tab p (omega (arith, mid_len h (h + 512) tab (omega arith))) ∙ long

  pub put_here : half j put ≡ p
  put_here =
      ap (take 512) (drop_at (take h tab) (p ++ drop (h + 512 - h) (drop h tab)) h (length-take-le h tab (omega arith)))
      ∙ take_at p (drop (h + 512 - h) (drop h tab)) 512 part

  pub put_other : half (j + 1) put ≡ half (j + 1) tab
  put_other = go (lt_or_ge (j % 2) 1)
    where
      go : (j % 2 < 1) ⊎ (1 ≤ j % 2) → half (j + 1) put ≡ half (j + 1) tab
      go (inl e) =
          ap (λ (g : ℕ). take 512 (drop g put)) second
          ∙ ap (take 512) (drop_put h (h + 512) tab p (omega arith) (omega arith) (omega arith))
          ∙ ap (λ (g : ℕ). take 512 (drop g tab)) (sym second)
        where
          second : 512 * ((j + 1) % 2) ≡ h + 512
          second = omega arith
      go (inr e) =
          ap (λ (g : ℕ). take 512 (drop g put)) front
          ∙ ap (λ (g : ℕ). take g put) whole
          ∙ take_put h (h + 512 - h) tab p (omega arith)
          ∙ ap (λ (g : ℕ). take g tab) (sym whole)
          ∙ ap (λ (g : ℕ). take 512 (drop g tab)) (sym front)
        where
          front : 512 * ((j + 1) % 2) ≡ 0
          front = omega arith

          whole : 512 ≡ h
          whole = omega arith

-- two buffers with the same halves are the same
pub halves_same : (j : ℕ) (t t' : List ℕ) → length t ≡ 1024 → length t' ≡ 1024 → half j t ≡ half j t' → half (j + 1) t ≡ half (j + 1) t' → t ≡ t'
halves_same j t t' e e' own other = go (lt_or_ge (j % 2) 1)
  where
    -- a buffer by its halves
    both : (u : List ℕ) → length u ≡ 1024 → take 512 (drop (512 * 0) u) ++ take 512 (drop (512 * 1) u) ≡ u
    both u h = ap (λ (l : List ℕ). take 512 u ++ l) (take_all 512 (drop 512 u) (omega (arith, length-drop 512 u))) ∙ take-append-drop 512 u

    joined : (a b : ℕ) → a ≡ 0 → b ≡ 1 → take 512 (drop (512 * a) t) ≡ take 512 (drop (512 * a) t') → take 512 (drop (512 * b) t) ≡ take 512 (drop (512 * b) t') → t ≡ t'
    joined a b p q f g =
        sym (both t e)
        ∙ ap₂ (λ (l m : List ℕ). l ++ m) (subst (λ (x : ℕ). take 512 (drop (512 * x) t) ≡ take 512 (drop (512 * x) t')) p f) (subst (λ (x : ℕ). take 512 (drop (512 * x) t) ≡ take 512 (drop (512 * x) t')) q g)
        ∙ both t' e'

    go : (j % 2 < 1) ⊎ (1 ≤ j % 2) → t ≡ t'
    go (inl l) = joined (j % 2) ((j + 1) % 2) (omega arith) (omega arith) own other
    go (inr g) = joined ((j + 1) % 2) (j % 2) (omega arith) (omega arith) other own
