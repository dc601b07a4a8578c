-- What bit i of a word says, from the words that it is made of. Assumes nothing.
use mathlib.Core.Path.{◌≡◌, ap₂, ◌∙◌}
use mathlib.Core.Bool.{Bool, ◌&&◌, ◌||◌}
use Prim.Native.Nat.{ℕ}
use lib.Bits.{bit_and, bit_or, bit_xor}
use Rattle.laws.specs.Bits.{differ, holds}
use Rattle.laws.proofs.Words.{and_holds, or_holds, xor_holds}

module _ (i : ℕ) where
  -- bit i of the word w is what the test says
  pub record Says (w : ℕ) (b : Bool) : Type 0 where
    pub is : holds w i ≡ b

  pub says_or : {a b : ℕ} {x y : Bool} → Says a x → Says b y → Says (bit_or a b) (x || y)
  says_or {a} {b} p q = record { is = or_holds a b i ∙ ap₂ (λ (x y : Bool). x || y) p.is q.is }

  pub says_and : {a b : ℕ} {x y : Bool} → Says a x → Says b y → Says (bit_and a b) (x && y)
  says_and {a} {b} p q = record { is = and_holds a b i ∙ ap₂ (λ (x y : Bool). x && y) p.is q.is }

  pub says_xor : {a b : ℕ} {x y : Bool} → Says a x → Says b y → Says (bit_xor a b) (differ x y)
  says_xor {a} {b} p q = record { is = xor_holds a b i ∙ ap₂ differ p.is q.is }
