-- What it means that a promise fixes its answer.
use Rattle.std.specs.Prelude.{◌≡◌}

-- any two answers that the promise allows are equal
abbrev pub Fixes : {A : Type 0} → (A → Type 0) → Type 0
Fixes {A} Promise = (a b : A) → Promise a → Promise b → a ≡ b
