-- What is put into a buffer, one list behind the other.
use Rattle.std.specs.Prelude.{ℕ, ◌+◌, ◌≡◌, List, length}
use Rattle.std.proofs.lemmas.List.Edits.{sets}

-- the list has been put at a place of the buffer, and the next place is behind it
pub record Put {A : Type 0} (before : List A) (at : ℕ) (xs after : List A) (next : ℕ) : Type 0 where
  pub stored : after ≡ sets before at xs
  pub behind : next ≡ at + length xs
