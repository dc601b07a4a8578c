-- A number that is written is read as it was, and the digits of a value are those of its two halves.
-- Assumes nothing.
use Prim.Native.Nat.{ℕ, zero, suc, ◌+◌, ◌*◌, ◌/◌, ◌%◌, ◌^◌, ◌≤◌, ◌<◌}
use mathlib.Core.Path.{◌≡◌, refl, sym, ap, ap₂, ◌∙◌}
use mathlib.Core.List.{List, [], ◌∷◌, ◌++◌}
use native.Mathlib.Nat.{zero-add, mod-lt, div-lt_iff_lt-mul, pow-suc}
use native.Mathlib.Numerals.{add-one}
use native.Mathlib.Omega.{arith}
use lib.ListN.{length, length-append, get_or-append}
use lib.Seq.{get_or_at}
use Rattle.reading.specs.Text.{ended, read_at, digit_of, number_at, hex_of}
use Rattle.reading.specs.Steps.{glyph}
use Rattle.reading.proofs.Digits.{digit_back}

-- k digits
pub hex_length : (k v : ℕ) → length (hex_of k v) ≡ k
unfolding hex_of
hex_length zero v = refl
hex_length (suc k) v = length-append (hex_of k (v / 16)) _ ∙ rw (hex_length k (v / 16)) (add-one k)

-- what stands behind k digits does not count
number_front : (xs ys : List ℕ) (k : ℕ) → k ≤ length xs → number_at (xs ++ ys) 0 k ≡ number_at xs 0 k
unfolding number_at
number_front xs ys zero h = refl
number_front xs ys (suc k) h =
    ap₂ (λ (a b : ℕ). a * 16 + digit_of b % 16) (number_front xs ys k (omega arith))
    (ap (λ (p : ℕ). read_at (xs ++ ys) p) (zero-add k) ∙ get_or-append xs ys ended k h ∙ ap (λ (p : ℕ). read_at xs p) (sym (zero-add k)))

-- a number that is written in k digits is read as it was
pub number_back : (k v : ℕ) → v < 16 ^ k → number_at (hex_of k v) 0 k ≡ v
unfolding number_at hex_of
number_back zero v h = omega (arith, h)
number_back (suc k) v h =
    ap₂ (λ (a b : ℕ). a * 16 + b)
    (number_front (hex_of k (v / 16)) (glyph (v % 16) ∷ []) k (rw (hex_length k (v / 16)) (omega arith))
    ∙ number_back k (v / 16) ((div-lt_iff_lt-mul {k = 16} (omega arith)).1 (rw (pow-suc 16 k) at h)))
    low
    ∙ whole v
  where
    again : (v : ℕ) → v % 16 % 16 ≡ v % 16
    again v = omega arith

    low : digit_of (read_at (hex_of k (v / 16) ++ glyph (v % 16) ∷ []) (0 + k)) % 16 ≡ v % 16
    low =
        rw (zero-add k, get_or_at (hex_of k (v / 16)) (glyph (v % 16)) [] ended k (hex_length k (v / 16)), digit_back (v % 16) (mod-lt v (omega arith)))
        (again v)

    whole : (v : ℕ) → v / 16 * 16 + v % 16 ≡ v
    whole v = omega arith

-- the eight digits of a value are four of its upper 16 bits and four of its lower ones
pub hex_halves : (v : ℕ) → hex_of 8 v ≡ hex_of 4 (v / 65536) ++ hex_of 4 (v % 65536)
unfolding hex_of
hex_halves v =
    let top : v / 16 / 16 / 16 / 16 ≡ v / 65536 = omega arith in
    let first : v % 65536 / 16 / 16 / 16 % 16 ≡ v / 16 / 16 / 16 % 16 = omega arith in
    let second : v % 65536 / 16 / 16 % 16 ≡ v / 16 / 16 % 16 = omega arith in
    let third : v % 65536 / 16 % 16 ≡ v / 16 % 16 = omega arith in
    let fourth : v % 65536 % 16 ≡ v % 16 = omega arith in
    rw (top, first, second, third, fourth)
