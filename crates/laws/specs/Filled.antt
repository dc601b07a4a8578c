-- A list that fills a fixed number of places.
use Rattle.std.specs.Prelude.{ℕ, ◌-◌, List, ◌++◌, length, replicate}

-- the list, and then d in the places left over of n
unfoldable pub filled : {A : Type 0} → ℕ → A → List A → List A
filled n d xs = xs ++ replicate (n - length xs) d
