-- The bilinear form of a face and its saddle (document 01, "Faces, loops and places"), in whole numbers.
use Rattle.std.specs.Prelude.{◌≡◌, ℕ, ◌+◌, ◌*◌}

-- The samples round the face: p at (0, 0), q at (1, 0), r at (1, 1), s at (0, 1). A point of it: u of u + w along the face's first side,
-- and v of v + x along its second, neither sum being 0. It is on none of the four edges if none of the four numbers is 0.
module _ (p q r s u w v x : ℕ) where
  -- the bilinear form at the point, times (u + w)·(v + x)
  unfoldable pub form : ℕ
  form = p * (w * x) + q * (u * x) + r * (u * v) + s * (w * v)

  -- Both differences of the form vanish at the point: along either side, the line through it has one value of the form at both ends.
  pub record Saddle : Type 0 where
    pub first : q * x + r * v ≡ p * x + s * v
    pub second : s * w + r * u ≡ p * w + q * u
