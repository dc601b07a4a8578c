-- Copies of a list item by item, and of samples from and to words that hold two of them.
-- Assumes nothing.
use mathlib.Core.Path.{◌≡◌, ap, ap₂, sym, ◌∙◌}
use mathlib.Core.List.{List}
use Prim.Native.Nat.{ℕ, ◌+◌, ◌*◌, ◌-◌, ◌/◌, ◌%◌, ◌≤◌, ◌<◌}
use mathlib.Core.Logic.{◌⊎◌, inl, inr}
use native.Mathlib.Omega.{arith}
use Rattle.std.proofs.lemmas.Grind.{common_steps}
use lib.ListN.{length, get_or, set, get_or-eq_default}
use Rattle.laws.specs.Below.{over}
use Rattle.laws.proofs.Over.{each, each_length, over_put, over_at, over_behind}
use Rattle.laws.proofs.Tests.{lt_or_ge}
use Rattle.block.specs.Grey.{SixteenBit}
use Rattle.plane_layers.specs.Memory.{half_of, sample_in, pair_of, packed, Windowed}

-- ---- samples from words

pub half_same : (work : List ℕ) (y y' z z' : ℕ) → y ≡ y' → z ≡ z' → half_of (get_or work y 0) z ≡ half_of (get_or work y' 0) z'
half_same work y y' z z' e f = ap₂ (λ (a b : ℕ). half_of (get_or work a 0) b) e f

-- one word more in a window
pub window_more : (part w : List ℕ) (i : ℕ) → 2 * i + 1 < length w → Windowed part (2 * i) w → Windowed part (2 * (i + 1)) (set (set w (2 * i) (get_or part i 0 % 65536)) (2 * i + 1) (get_or part i 0 / 65536))
window_more part w i h is x l = go (lt_or_ge x (2 * i)) (lt_or_ge (2 * i) x)
  where
    go : (x < 2 * i) ⊎ (2 * i ≤ x) → (2 * i < x) ⊎ (x ≤ 2 * i) → get_or (set (set w (2 * i) (get_or part i 0 % 65536)) (2 * i + 1) (get_or part i 0 / 65536)) x 0 ≡ half_of (get_or part (x / 2) 0) (x % 2)
    go (inl a) b = grind (arith, common_steps, is x a)
    go (inr a) (inl b) =
        let e : x ≡ 2 * i + 1 = omega arith in
        let word : x / 2 ≡ i = omega arith in
        let high : x % 2 ≡ 1 = omega arith in
        rw (word, high) (grind (arith, common_steps))
    go (inr a) (inr b) =
        let e : x ≡ 2 * i = omega arith in
        let word : x / 2 ≡ i = omega arith in
        let low : x % 2 ≡ 0 = omega arith in
        rw (word, low) (grind (arith, common_steps))

-- ---- words from samples

-- the word i of a plane
abbrev pub word_at : List ℕ → ℕ → ℕ
word_at plane i = pair_of (get_or plane (2 * i) 0) (get_or plane (2 * i + 1) 0)

pub packed_odd : (plane b c : List ℕ) (i v : ℕ) → i ≡ length plane / 2 → length plane % 2 ≡ 1 → length plane ≤ length b → v ≡ pair_of (get_or plane (length plane - 1) 0) 0 → c ≡ over (each (word_at plane) i) b
    → set c i v ≡ over (packed plane) b
packed_odd plane b c i v e odd fits ev h =
    over_put (word_at plane) b c i v h (ev ∙ ap₂ pair_of (ap (λ (x : ℕ). get_or plane x 0) (omega arith)) (sym (get_or-eq_default plane 0 (omega arith)))) (omega arith)
    ∙ ap (λ (m : ℕ). over (each (word_at plane) m) b) (omega arith)

packed_length : (plane : List ℕ) → length (packed plane) ≡ (length plane + 1) / 2
packed_length plane = each_length (word_at plane) ((length plane + 1) / 2)

pub packed_fits : (plane b : List ℕ) → length plane ≤ length b → length (packed plane) ≤ length b
packed_fits plane b h = omega (arith, packed_length plane)

-- the samples that stand there then, and what stands behind
pub packed_sample : (plane b : List ℕ) → SixteenBit plane → (i : ℕ) → i < length plane → sample_in (over (packed plane) b) i ≡ get_or plane i 0
packed_sample plane b grey i h = go (lt_or_ge (i % 2) 1)
  where
    word : get_or (over (packed plane) b) (i / 2) 0 ≡ word_at plane (i / 2)
    word = over_at (word_at plane) b ((length plane + 1) / 2) (i / 2) 0 (omega arith)

    low : (x y : ℕ) → x < 65536 → (x + 65536 * y) % 65536 ≡ x
    low x y a = omega arith

    high : (x y : ℕ) → x < 65536 → (x + 65536 * y) / 65536 ≡ y
    high x y a = omega arith

    go : (i % 2 < 1) ⊎ (1 ≤ i % 2) → half_of (get_or (over (packed plane) b) (i / 2) 0) (i % 2) ≡ get_or plane i 0
    go (inl a) =
        ap₂ half_of word (zero_of (i % 2) a)
        ∙ low (get_or plane (2 * (i / 2)) 0) (get_or plane (2 * (i / 2) + 1) 0) (grey (2 * (i / 2)))
        ∙ ap (λ (x : ℕ). get_or plane x 0) (omega arith)
      where
        zero_of : (m : ℕ) → m < 1 → m ≡ 0
        zero_of m q = omega arith
    go (inr a) =
        ap₂ half_of word (one_of (i % 2) a (omega arith))
        ∙ high (get_or plane (2 * (i / 2)) 0) (get_or plane (2 * (i / 2) + 1) 0) (grey (2 * (i / 2)))
        ∙ ap (λ (x : ℕ). get_or plane x 0) (omega arith)
      where
        one_of : (m : ℕ) → 1 ≤ m → m < 2 → m ≡ 1
        one_of m q r = omega arith

pub packed_behind : (plane b : List ℕ) (i : ℕ) → length plane ≤ i → get_or (over (packed plane) b) i 0 ≡ get_or b i 0
packed_behind plane b i h = over_behind (packed plane) b i 0 (omega (arith, packed_length plane))
