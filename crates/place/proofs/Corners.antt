-- The digits of a table are the corners of the edges, each below 8: by a test of the table, which is computed where the code's is at hand.
-- Assumes nothing.
use mathlib.Core.Path.{◌≡◌}
use mathlib.Core.Bool.{Bool}
use Prim.Native.Nat.{ℕ, ◌*◌, ◌/◌, ◌%◌, ◌^◌, ◌<◌}
use lib.Dec.{T, eqb, ltb, eqb→eq, ltb→lt}
use Rattle.laws.proofs.Tests.{both, left, right, below, below_at}

-- hexadecimal digit e of a number
abbrev digit : ℕ → ℕ → ℕ
digit table e = table / 2 ^ (4 * e) % 16

-- the digit is the corner, and one of the eight
abbrev pub agrees : ℕ → (ℕ → ℕ) → ℕ → Bool
agrees table corner e = both (eqb (digit table e) (corner e)) (ltb (digit table e) 8)

-- the test gives both for each edge
pub agree : (table : ℕ) (corner : ℕ → ℕ) → T (below 12 (agrees table corner)) → (e : ℕ) → e < 12
    → (digit table e ≡ corner e) × (digit table e < 8)
agree table corner t e h =
    let here = below_at 12 (agrees table corner) t e h in (
      eqb→eq (digit table e) (corner e) (left (eqb (digit table e) (corner e)) (ltb (digit table e) 8) here),
      ltb→lt (digit table e) 8 (right (eqb (digit table e) (corner e)) (ltb (digit table e) 8) here),
    )
