-- A bit that is set in a table of words of 64 bits: it is read back, and no other bit is changed.
-- Assumes nothing.
use Prim.Native.Nat.{ℕ, ◌+◌, ◌*◌, ◌/◌, ◌%◌, ◌^◌, ◌≤◌, ◌<◌}
use mathlib.Core.Path.{◌≡◌, refl, ap, sym, ◌∙◌}
use mathlib.Core.Bool.{Bool, true, false, ◌||◌, or_comm}
use mathlib.Core.Logic.{◌⊎◌, inl, inr}
use mathlib.Core.List.{List}
use native.Mathlib.Omega.{arith}
use lib.Bits.{bit_or}
use lib.Dec.{eqb}
use lib.ListN.{length, get_or, set, length-set}
use lib.Pow.{pow_pos, pow-lt}
use lib.Seq.{get_or-set_same, get_or-set_other}
use borrow.Author.Tests.{eqb-true, eqb-false, eq-eqb, ne_eqb}
use Rattle.laws.specs.Bits.{holds}
use Rattle.laws.proofs.Bits.{shift_one, holds_top, holds_under, holds_past, holds_none}
use Rattle.laws.proofs.Tests.{lt_or_ge}
use Rattle.laws.proofs.Words.{or_holds}
use Rattle.repeats.specs.Fresh.{bit_at, Marked}

as_top : (x : ℕ) → x ≡ 0 + 1 * x
as_top x = omega arith

-- a power of two holds its own bit, and no other
power_own : (e : ℕ) → holds (2 ^ e) e ≡ true
power_own e = ap (λ (x : ℕ). holds x e) (as_top (2 ^ e)) ∙ holds_top 0 e true (pow_pos e)

power_other : (e m : ℕ) → (m ≡ e → ⊥) → holds (2 ^ e) m ≡ false
power_other e m d = go (lt_or_ge m e)
  where
    further : (m e : ℕ) → (m ≡ e → ⊥) → e ≤ m → e + 1 ≤ m
    further m e d g = omega (arith, d)

    go : (m < e) ⊎ (e ≤ m) → holds (2 ^ e) m ≡ false
    go (inl l) = ap (λ (x : ℕ). holds x m) (as_top (2 ^ e)) ∙ holds_under 0 e m true l ∙ holds_none m
    go (inr g) = holds_past (2 ^ e) (e + 1) m (pow-lt (omega arith)) (further m e d g)

pub power_holds : (e m : ℕ) → holds (2 ^ e) m ≡ eqb m e
power_holds e m = go (eqb m e) refl
  where
    go : (b : Bool) → eqb m e ≡ b → holds (2 ^ e) m ≡ eqb m e
    go true q = ap (holds (2 ^ e)) (eqb-true m e q) ∙ power_own e ∙ sym q
    go false q = power_other e m (eqb-false m e q) ∙ sym q

-- a bit put into a word
put_bit : (w e m : ℕ) → e < 64 → holds (bit_or w (1 * 2 ^ e % 18446744073709551616)) m ≡ (eqb m e || holds w m)
put_bit w e m h =
    ap (λ (x : ℕ). holds (bit_or w x) m) (shift_one e 64 h)
    ∙ or_holds w (2 ^ e) m
    ∙ or_comm (holds w m) (holds (2 ^ e) m)
    ∙ ap (λ (b : Bool). b || holds w m) (power_holds e m)

-- the same number, by its word and its bit
same_word : (m k : ℕ) → m / 64 ≡ k / 64 → eqb (m % 64) (k % 64) ≡ eqb m k
same_word m k e = go (eqb m k) refl
  where
    whole : (m k : ℕ) → m / 64 ≡ k / 64 → m % 64 ≡ k % 64 → m ≡ k
    whole m k p r = omega arith

    go : (b : Bool) → eqb m k ≡ b → eqb (m % 64) (k % 64) ≡ eqb m k
    go true q = eq-eqb (m % 64) (k % 64) (ap (λ (x : ℕ). x % 64) (eqb-true m k q)) ∙ sym q
    go false q = ne_eqb (m % 64) (k % 64) (λ r. eqb-false m k q (whole m k e r)) ∙ sym q

module _ (table : List ℕ) (k : ℕ) (h : k < 64 * length table) where
  abbrev pub after : List ℕ
  after = set table (k / 64) (bit_or (get_or table (k / 64) 0) (1 * 2 ^ (k % 64) % 18446744073709551616))

  inside : k / 64 < length table
  inside = within k (length table) h
    where
      within : (k l : ℕ) → k < 64 * l → k / 64 < l
      within k l h = omega arith

  low : k % 64 < 64
  low = omega arith

  put_at : (m : ℕ) → bit_at after m ≡ (eqb m k || bit_at table m)
  put_at m = go (eqb (m / 64) (k / 64)) refl
    where
      here : m / 64 ≡ k / 64 → bit_at after m ≡ (eqb m k || bit_at table m)
      here e =
          ap (λ (p : ℕ). holds (get_or after p 0) (m % 64)) e
          ∙ ap (λ (w : ℕ). holds w (m % 64)) (get_or-set_same table (k / 64) _ 0 inside)
          ∙ put_bit (get_or table (k / 64) 0) (k % 64) (m % 64) low
          ∙ ap (λ (b : Bool). b || holds (get_or table (k / 64) 0) (m % 64)) (same_word m k e)
          ∙ ap (λ (p : ℕ). eqb m k || holds (get_or table p 0) (m % 64)) (sym e)

      there : (m / 64 ≡ k / 64 → ⊥) → bit_at after m ≡ (eqb m k || bit_at table m)
      there d =
          ap (λ (w : ℕ). holds w (m % 64)) (get_or-set_other table (k / 64) (m / 64) _ 0 d)
          ∙ ap (λ (b : Bool). b || bit_at table m) (sym (ne_eqb m k (λ e. d (ap (λ (x : ℕ). x / 64) e))))

      go : (b : Bool) → eqb (m / 64) (k / 64) ≡ b → bit_at after m ≡ (eqb m k || bit_at table m)
      go true q = here (eqb-true (m / 64) (k / 64) q)
      go false q = there (eqb-false (m / 64) (k / 64) q)

  pub marked : Marked k table after
  marked = record { is = refl; as_long = length-set table (k / 64) (bit_or (get_or table (k / 64) 0) (1 * 2 ^ (k % 64) % 18446744073709551616)); bits = λ m l. put_at m }
