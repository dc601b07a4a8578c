-- The sum over a mask's edges by rising number, one edge more at a time.
-- Assumes nothing.
use mathlib.Core.Path.{◌≡◌, refl, ◌∙◌}
use mathlib.Core.Bool.{true, false}
use mathlib.Core.List.{List}
use Prim.Native.Nat.{ℕ, ◌+◌, ◌/◌, ◌%◌, ◌^◌, ◌<◌}
use native.Mathlib.Numerals.{add-one}
use native.Mathlib.Omega.{arith}
use lib.Count.{ones}
use borrow.Author.Tests.{eq-eqb, ne_eqb}
use Rattle.laws.specs.Bits.{holds}
use Rattle.block.specs.declared.Cut.{Cut}
use Rattle.place.specs.declared.Offset.{Offset}
use Rattle.place.specs.Place.{plus_zero, sum_on, mean_on, place_of}
use Rattle.place.specs.Steps.{Placeable, Fractional, plus_crossing, plus_edge, sum_of, divided_by}

-- a bit as a test
held : (m e : ℕ) → (m / 2 ^ e % 2 ≡ 0 → ⊥) → holds m e ≡ true
held m e h = eq-eqb (m / 2 ^ e % 2) 1 (one (m / 2 ^ e) h)
  where
    one : (x : ℕ) → (x % 2 ≡ 0 → ⊥) → x % 2 ≡ 1
    one x h = omega arith

not_held : (m e : ℕ) → m / 2 ^ e % 2 ≡ 0 → holds m e ≡ false
not_held m e h = ne_eqb (m / 2 ^ e % 2) 1 (λ q. omega arith)

module _ (cut : Cut) (corners : List ℕ) (m : ℕ) where
  -- at the start
  pub sum_none : ◌≡◌ {A = Offset} (record { x = plus_zero; y = plus_zero; z = plus_zero }) (sum_of cut corners m 0)
  unfolding sum_of sum_on
  sum_none = refl

  module _ (e : ℕ) where
    -- an edge that the mask does not hold
    pub sum_skips : m / 2 ^ e % 2 ≡ 0 → (sum : Offset) → sum ≡ sum_of cut corners m e → sum ≡ sum_of cut corners m (e + 1)
    unfolding sum_of sum_on
    sum_skips z sum is = is ∙ rw (add-one e, not_held m e z)

    -- one that it holds: the edge question answers its fraction, which is added
    pub sum_asks : Placeable cut corners m → e < 12 → (m / 2 ^ e % 2 ≡ 0 → ⊥) → Fractional cut corners e
    sum_asks ready l some = record { small = l; crossed = ready.crossed e l (held m e some); threshold = ready.threshold }

    pub sum_adds : (m / 2 ^ e % 2 ≡ 0 → ⊥) → (sum : Offset) → sum ≡ sum_of cut corners m e → plus_edge cut corners e sum ≡ sum_of cut corners m (e + 1)
    unfolding plus_edge plus_crossing sum_of sum_on
    sum_adds some sum is = rw (is, add-one e, held m e some)

  -- after the last
  pub sum_all : (sum : Offset) → sum ≡ sum_of cut corners m 12 → divided_by (ones m) sum ≡ place_of cut corners m
  unfolding divided_by sum_of place_of mean_on
  sum_all sum is = rw is
