-- Two tops are united: which goes under which, and that both trees together have no more than n vertices.
-- Assumes nothing.
use Prim.Native.Nat.{ℕ, ◌+◌, ◌≤◌, ◌<◌}
use mathlib.Core.Path.{◌≡◌}
use mathlib.Core.Bool.{true, false}
use mathlib.Core.List.{List}
use native.Mathlib.Omega.{arith}
use lib.ListN.{length}
use Rattle.std.proofs.lemmas.Bool.Decides.{nat_tests}
use Rattle.trees.specs.Forest.{at, goes_under}
use Rattle.trees.specs.Steps.{Standing, Tops}
use Rattle.trees.proofs.Trees.{two_tops}

-- what the test says of the sizes

pub under_true : (size : List ℕ) (a b : ℕ) → goes_under size a b ≡ true → at size a ≤ at size b
under_true size a b e = grind (arith, nat_tests)

pub under_false : (size : List ℕ) (a b : ℕ) → goes_under size a b ≡ false → at size b ≤ at size a
under_false size a b e = grind (arith, nat_tests)

-- two tops can be hung, either under the other
pub hangable : {n : ℕ} {up size : List ℕ} {a b : ℕ} → Standing n up size → Tops n up a b → (a ≡ b → ⊥)
    → (a < length up) × (a < length size) × (b < length size) × (at size a + at size b < 4294967296)
hangable {n} {up} {size} {a} {b} S t ne = (
  rw S.up_length t.first_lt,
  rw S.size_length t.first_lt,
  rw S.size_length t.second_lt,
  omega (arith, two_tops S.trees a b t.first_lt t.second_lt t.first_top t.second_top ne, S.few),
)
