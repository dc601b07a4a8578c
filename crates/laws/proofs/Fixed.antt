-- An equation fixes its answer.
use mathlib.Core.Path.{◌≡◌, sym, ◌∙◌}
use Rattle.laws.specs.Fixed.{Fixes}

-- no two values are told alike
abbrev pub Injective : {A B : Type 0} → (A → B) → Type 0
Injective {A} f = (a b : A) → f a ≡ f b → a ≡ b

-- an answer that is given by an equation
pub equation_fixes : {A : Type 0} (d : A) → Fixes (λ (a : A). a ≡ d)
equation_fixes d a b p q = p ∙ sym q

-- an answer of which an equation says what it tells, where no two tell the same
pub said_fixes : {A B : Type 0} (said : A → B) (d : B) → Injective said → Fixes (λ (a : A). said a ≡ d)
said_fixes said d inj a b p q = inj a b (p ∙ sym q)
