-- The steps of a call: the size that a state makes, and the number of a layer's first vertex.
-- Assumes nothing.
use Rattle.std.specs.Prelude.{◌≡◌, ℕ, cond, nat_le}
use Rattle.block.specs.declared.Size.{Size}
use Rattle.block.specs.Size.{Limits}
use Rattle.by_planes.specs.declared.Stream.{Stream}
use Rattle.by_planes.specs.Answer.{size_in}

-- the size is the state's, and within its limits
pub record Sizes (st : Stream) (n : Size) : Type 0 where
  pub is : n ≡ size_in st
  pub limits : Limits n

abbrev pub first_of : ℕ → ℕ
first_of v = cond (nat_le v 66325500) v 0
