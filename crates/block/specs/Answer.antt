-- Answers in 01's numbers: an accepted input's answer, or a refusal (document 01, "Numbers of refusal").
use Rattle.std.specs.Prelude.{ℕ, min, ◌<◌, ◌≡◌, List, [], ◌∷◌, length, get_or}
use Rattle.laws.specs.Below.{over}
use Rattle.laws.specs.Filled.{filled}
use Rattle.block.specs.declared.Refusal.{Refusal}
use Rattle.block.specs.declared.Checked.{Checked}
use Rattle.block.specs.declared.Checked.TheVariants.{Passes, Refuses}

-- what a function says: what it answers (0 as the first number, as the program prints it), or a refusal's number and value
pub data Answer (A : Type 0) : Type 0 where
  accepted : A → Answer A
  refused : Refusal → Answer A

-- "a value above 4,294,967,295 is given as that"
abbrev pub given : ℕ → ℕ
given n = min n 4294967295

-- a row of the table that holds: its number and its value
abbrev pub refuses : ℕ → ℕ → Checked
refuses n v = Refuses (record { number = n; value = given v })

-- "Checks run in this order": the first that refuses decides
unfoldable pub in_order : List Checked → Checked
in_order [] = Passes
in_order (Passes ∷ rows) = in_order rows
in_order (Refuses r ∷ rows) = Refuses r

-- the refusal of the first check that refuses: "given exactly when" its row holds and no earlier row does
pub record First (ks : List Checked) (r : Refusal) : Type 0 where
  pub place : ℕ
  pub there : place < length ks
  pub refuses : get_or ks place Passes ≡ Refuses r
  pub before : (i : ℕ) → i < place → get_or ks i Passes ≡ Passes

-- what is so of an input that passes, and what a refusal makes of another
unfoldable pub decided : {A : Type 0} → Checked → A → (Refusal → A) → A
decided Passes a other = a
decided (Refuses r) a other = other r

-- the answer of an input that the checks judge so
abbrev pub judged : {A : Type 0} → Checked → A → Answer A
judged k a = decided k (accepted a) refused

-- a buffer afterwards: what is answered over its front, with the rest kept, or all as it was
abbrev pub written : {A : Type 0} → Checked → List A → List A → List A
written k xs buffer = decided k (over xs buffer) (λ r. buffer)

-- an answer in n numbers: 0 and what is answered, or number and value; then zeros
abbrev pub told : {A : Type 0} → ℕ → (A → List ℕ) → Answer A → List ℕ
told n values (accepted a) = filled n 0 (0 ∷ values a)
told n values (refused r) = filled n 0 (r.number ∷ r.value ∷ [])
