-- What the edge question answers, by cases: row 3, then a fraction or no crossing.
-- Assumes nothing.
use mathlib.Core.Path.{◌≡◌, refl, ap, ◌∙◌}
use mathlib.Core.Bool.{Bool, true, false, cond, ◌||◌}
use mathlib.Core.List.{List, [], ◌∷◌}
use Prim.Native.Nat.{ℕ, ◌≤◌}
use native.Mathlib.Omega.{arith}
use lib.Dec.{eqb}
use lib.Ieee.{Float, div, of_int}
use borrow.Author.Tests.{eqb-true, ne_eqb}
use Rattle.block.specs.Answer.{Answer, accepted, refused, given, in_order, decided}
use Rattle.block.specs.Grey.{cut_of, apart, no_threshold}
use Rattle.block.proofs.Rows.{given_small}
use Rattle.place.specs.Crossing.{fraction, crossing, edge_answer}
use Rattle.place.specs.Place.{plus_zero}

-- a refusal by number and value
abbrev pub refused_by : ℕ → ℕ → Answer (List Float)
refused_by number value = refused (record { number = number; value = value })

-- a threshold that row 3 refuses is given as its value
bad_given : (t : ℕ) → no_threshold (cut_of t 0) ≡ true → given t ≡ t
bad_given t h = given_small t (go (eqb t 0) (eqb t 65535) refl refl h)
  where
    go : (a b : Bool) → eqb t 0 ≡ a → eqb t 65535 ≡ b → (a || b) ≡ true → t ≤ 4294967295
    go true b p q e = omega (arith, eqb-true t 0 p)
    go false true p q e = omega (arith, eqb-true t 65535 q)
    go false false p q e = let z : ◌≡◌ {A = ℕ} 0 1 = cc in absurd (omega arith)

-- what row 3 refuses, and what it passes
pub bad_zero : (t : ℕ) → t ≡ 0 → no_threshold (cut_of t 0) ≡ true
bad_zero t h = simp h

pub bad_ceiling : (t : ℕ) → t ≡ 65535 → no_threshold (cut_of t 0) ≡ true
bad_ceiling t h = simp h

pub good_threshold : (t : ℕ) → (t ≡ 0 → ⊥) → (t ≡ 65535 → ⊥) → no_threshold (cut_of t 0) ≡ false
good_threshold t h k = simp (ne_eqb t 0 h, ne_eqb t 65535 k)

-- A sample equal to t at the lower end, hollow at the upper: plus zero. A quotient of two signed differences would be minus zero.
pub fraction_plus_zero : fraction (cut_of 100 0) 100 0 ≡ plus_zero
unfolding fraction div of_int
fraction_plus_zero = refl

module _ (p q t : ℕ) where
  -- row 3 comes first, whatever the ends
  pub edge_answers_threshold : no_threshold (cut_of t 0) ≡ true → edge_answer p q t ≡ refused_by 3 t
  unfolding edge_answer in_order decided
  edge_answers_threshold h = rw h (ap (refused_by 3) (bad_given t h))

  module _ (good : no_threshold (cut_of t 0) ≡ false) where
    -- no row refuses
    edge_accepts : edge_answer p q t ≡ accepted (crossing (cut_of t 0) p q)
    unfolding edge_answer in_order decided
    edge_accepts = simp good

    -- the ends differ in sign
    pub edge_answers_fraction : apart (cut_of t 0) p q ≡ true → edge_answer p q t ≡ accepted (fraction (cut_of t 0) p q ∷ [])
    unfolding crossing
    edge_answers_fraction h = edge_accepts ∙ simp h

    -- they do not
    pub edge_answers_nothing : apart (cut_of t 0) p q ≡ false → edge_answer p q t ≡ accepted []
    unfolding crossing
    edge_answers_nothing h = edge_accepts ∙ simp h

-- what an edge answers, whatever the three numbers
pub edge_answers : (p q t : ℕ)
    → edge_answer p q t
    ≡ cond (no_threshold (cut_of t 0)) (refused_by 3 t) (cond (apart (cut_of t 0) p q) (accepted (fraction (cut_of t 0) p q ∷ [])) (accepted []))
edge_answers p q t = go (no_threshold (cut_of t 0)) (apart (cut_of t 0) p q) refl refl
  where
    go : (a d : Bool) → no_threshold (cut_of t 0) ≡ a → apart (cut_of t 0) p q ≡ d
        → edge_answer p q t ≡ cond a (refused_by 3 t) (cond d (accepted (fraction (cut_of t 0) p q ∷ [])) (accepted []))
    go true d A D = edge_answers_threshold p q t A
    go false true A D = edge_answers_fraction p q t A D
    go false false A D = edge_answers_nothing p q t A D
