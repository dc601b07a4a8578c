-- What the steps that look at the foundry's vertices are given and hand on. `n` is the size of the block, `s` its samples.
-- Assumes nothing.
use Rattle.std.specs.Prelude.{ℕ, ◌*◌, ◌/◌, ◌≤◌, ◌<◌, ◌≡◌, Bool, ◌&&◌, Option, MatchOption, List, eqb, ltb, Float, length}
use Rattle.block.specs.declared.Cut.{Cut}
use Rattle.block.specs.declared.Size.{Size}
use Rattle.vertex_lists.specs.Rows.{offset_inside}
use Rattle.foundry_rule.specs.Judged.{vertex_total}
use Rattle.foundry_rule.specs.Spots.{cube_at, word_at, place_in, vertex_key}
use Rattle.repeats.specs.Fresh.{fresh}

-- offsets for each vertex of the words
pub record Shaped (words : List ℕ) (offsets : List Float) : Type 0 where
  pub offsets_long : length offsets ≡ 3 * vertex_total words
  pub few : vertex_total words ≤ 66325500

-- a place among four by its number, 4 for none
abbrev pub IsPlace : ℕ → Option ℕ → Type 0
IsPlace p r = MatchOption r (p ≡ 4) (λ q. (q ≡ p) × (q < 4))

-- the cube c is in the r-th range of 65,536 cubes
abbrev pub in_range : ℕ → ℕ → Bool
in_range r c = eqb (c / 65536) r

module _ (n : Size) (s : List ℕ) (cut : Cut) (words : List ℕ) where
  -- the word of vertex v is one of its cube's
  abbrev pub placed : ℕ → Bool
  placed v = ltb (place_in n s cut (cube_at words v) (word_at words v)) 4

  -- and its offsets are from 0 to 1
  abbrev pub looks_sound : List Float → ℕ → Bool
  looks_sound offsets v = placed v && offset_inside offsets v

  -- and no earlier vertex has its cube and its word
  abbrev pub spot_sound : List Float → ℕ → Bool
  spot_sound offsets v = looks_sound offsets v && fresh (vertex_key words n s cut) v
