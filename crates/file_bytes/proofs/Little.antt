-- Numbers in bytes, the lowest first: some bytes and then the others, and that what was written is read back.
-- Assumes nothing.
use Prim.Native.Nat.{ℕ, zero, suc, ◌/◌, ◌%◌, ◌^◌, ◌<◌}
use mathlib.Core.Path.{◌≡◌, refl, ap}
use mathlib.Core.List.{[], ◌∷◌, ◌++◌}
use native.Mathlib.Omega.{arith}
use lib.ListN.{length}
use Rattle.file_bytes.specs.Bytes.{little_endian}
use Rattle.file_bytes.specs.Words.{read_little}

pub little_length : (k v : ℕ) → length (little_endian k v) ≡ k
unfolding little_endian
little_length zero v = refl
little_length (suc k) v = ap suc (little_length k (v / 256))

-- a number that fits into k bytes is read as it was
pub little_back : (k v : ℕ) → v < 256 ^ k → read_little (little_endian k v) ≡ v
unfolding little_endian
little_back zero v h = omega (arith, h)
little_back (suc k) v h = rw (little_back k (v / 256) (omega (arith, h))) (omega arith)

-- one byte
pub little_one : (v : ℕ) → v < 256 → v ∷ [] ≡ little_endian 1 v
unfolding little_endian
little_one v h = ap (λ (b : ℕ). b ∷ []) (omega (arith, h))

-- four bytes
pub little_four : (v : ℕ) → v < 4294967296 → v % 256 ∷ v / 256 % 256 ∷ v / 65536 % 256 ∷ v / 16777216 ∷ [] ≡ little_endian 4 v
unfolding little_endian
little_four v h = bytes (omega arith) (omega arith) (omega (arith, h))
  where
    bytes : {a b c : ℕ} → a ≡ v / 256 % 256 → b ≡ v / 256 / 256 % 256 → c ≡ v / 256 / 256 / 256 % 256
        → v % 256 ∷ a ∷ b ∷ c ∷ [] ≡ v % 256 ∷ v / 256 % 256 ∷ v / 256 / 256 % 256 ∷ v / 256 / 256 / 256 % 256 ∷ []
    bytes a b c = rw (a, b, c)

-- eight bytes are the lower four and the upper four
pub little_eight : (v : ℕ) → little_endian 4 (v % 4294967296) ++ little_endian 4 (v / 4294967296) ≡ little_endian 8 v
unfolding little_endian
little_eight v =
    bytes (omega arith) (omega arith) (omega arith) (omega arith) (omega arith) (omega arith) (omega arith) (omega arith)
  where
    bytes : {a b c d e f g h a' b' c' d' e' f' g' h' : ℕ} → a ≡ a' → b ≡ b' → c ≡ c' → d ≡ d' → e ≡ e' → f ≡ f' → g ≡ g' → h ≡ h'
        → a ∷ b ∷ c ∷ d ∷ e ∷ f ∷ g ∷ h ∷ [] ≡ a' ∷ b' ∷ c' ∷ d' ∷ e' ∷ f' ∷ g' ∷ h' ∷ []
    bytes a b c d e f g h = cc
