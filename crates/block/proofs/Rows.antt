-- What row 2 says, by cases, and what a row refuses with.
use mathlib.Core.Path.{◌≡◌, refl, sym, ap}
use mathlib.Core.Bool.{Bool, true, false, cond}
use mathlib.Core.List.{List}
use lib.Dec.{ltb}
use Prim.Native.Nat.{ℕ, ◌≤◌, ◌<◌}
use native.Mathlib.Omega.{arith}
use lib.ListN.{length}
use borrow.Author.Tests.{eq-eqb, ne_eqb, ltb-true}
use Rattle.block.specs.declared.Refusal.{Refusal}
use Rattle.block.specs.declared.Checked.{Checked}
use Rattle.block.specs.declared.Checked.TheVariants.{Passes, Refuses}
use Rattle.block.specs.declared.Size.{Size}
use Rattle.block.specs.Answer.{given, refuses}
use Rattle.block.specs.Numbering.{sample_count}
use Rattle.block.specs.Rows.{count_row, lowest, lowest_row}
use Rattle.block.proofs.Order.{passes_refuses}

pub given_small : (n : ℕ) → n ≤ 4294967295 → given n ≡ n
given_small n h = omega arith

pub given_large : (n : ℕ) → 4294967295 ≤ n → given n ≡ 4294967295
given_large n h = omega arith

-- a refusal with this number and value
abbrev pub refusal : ℕ → ℕ → Checked
refusal number value = Refuses (record { number = number; value = value })

-- ---- what a row refuses with: its number, and its value as it is given

refusal_is : (n v : ℕ) (x : Refusal) → refuses n v ≡ Refuses x → x ≡ record { number = n; value = given v }
refusal_is n v x e = cc

-- a row that holds where a test does, and one that holds where it does not
pub holds_where : (b : Bool) (n v : ℕ) (x : Refusal) → cond b (refuses n v) Passes ≡ Refuses x → x ≡ record { number = n; value = given v }
holds_where true n v x e = refusal_is n v x e
holds_where false n v x e = absurd (passes_refuses e)

pub holds_unless : (b : Bool) (n v : ℕ) (x : Refusal) → cond b Passes (refuses n v) ≡ Refuses x → x ≡ record { number = n; value = given v }
holds_unless true n v x e = absurd (passes_refuses e)
holds_unless false n v x e = refusal_is n v x e

pub unless_none : (b : Bool) (n v : ℕ) → cond b Passes (refuses n v) ≡ Passes → b ≡ true
unless_none true n v e = refl
unless_none false n v e = absurd (passes_refuses (sym e))

-- as the code finds a row that holds where a test does not
pub unless_passes : (b : Bool) (n v : ℕ) → b ≡ true → Passes ≡ cond b Passes (refuses n v)
unless_passes b n v e = rw e

pub unless_refuses : (b : Bool) (n v w : ℕ) → b ≡ false → w ≡ given v → Refuses (record { number = n; value = w }) ≡ cond b Passes (refuses n v)
unless_refuses b n v w e g = rw (e, g)

-- one that names the lowest place
pub lowest_refusal : {A : Type 0} (n : ℕ) (bad : A → Bool) (xs : List A) (x : Refusal) → lowest_row n bad xs ≡ Refuses x
    → (lowest bad xs < length xs) × (x ≡ record { number = n; value = given (lowest bad xs) })
unfolding lowest_row
lowest_refusal n bad xs x = go (ltb (lowest bad xs) (length xs)) refl
  where
    go : (b : Bool) → ltb (lowest bad xs) (length xs) ≡ b → cond b (refuses n (lowest bad xs)) Passes ≡ Refuses x
        → (lowest bad xs < length xs) × (x ≡ record { number = n; value = given (lowest bad xs) })
    go true e h = (ltb-true (lowest bad xs) (length xs) e, refusal_is n (lowest bad xs) x h)
    go false e h = absurd (passes_refuses h)

module _ (n : Size) (count : ℕ) where
  pub count_passes : count ≡ sample_count n → count_row n count ≡ Passes
  count_passes h = simp (eq-eqb count (sample_count n) h)

  pub count_refuses : (count ≡ sample_count n → ⊥) → sample_count n ≤ 4294967295 → count_row n count ≡ refusal 2 (sample_count n)
  count_refuses h l = rw (ne_eqb count (sample_count n) h) (ap (refusal 2) (given_small (sample_count n) l))
