-- The words of the crossed inner edges: the code's word from word w of row j has bit i set if the edge from sample 64 w + i is inner and
-- crossed.
-- Assumes nothing.
use Rattle.std.proofs.Common.{◌≡◌, ℕ, ◌+◌, ◌*◌, ◌<◌, ◌≤◌, Bool, true, false, ◌&&◌, ltb, List, sym, refl, ap, ◌∙◌, arith, ltb-true, le-ltb, lt-ltb}
use mathlib.Core.Bool.{and-true, and-false}
use Rattle.laws.specs.Bits.{bit}
use Rattle.laws.proofs.Bits.{bit_le}
use Rattle.laws.proofs.Words.{Word, word_same, word_xor, word_bit}
use Rattle.laws.proofs.Tests.{and_both}
use Rattle.block.specs.declared.Cut.{Cut}
use Rattle.block.specs.declared.Size.{Size}
use Rattle.block.specs.Numbering.{Axis, X, Y, Z}
use Rattle.block.specs.Size.{Limits}
use Rattle.mesh_rule.specs.Grid.{between, inner, crossed_from}
use Rattle.mesh_rule.proofs.Inner.{Mid, mid_between}
use Rattle.signs.specs.Signs.{Plane}
use Rattle.planes.proofs.Edges.{along_y_is, along_z_is, along_x_word}
use Rattle.planes.proofs.Masks.{word_inner, below_last, not_between}
use Rattle.signs.proofs.Planes.{word_at, next_word}
use Rattle.quads.specs.declared.Along.{Along}
use Rattle.quads.specs.declared.Along.TheVariants.{AxisX, AxisY, AxisZ}
use Rattle.quads.specs.Edges.{along_axis, crossed_on, first_row, RowIn, Planes, edges_of}

-- ---- which edges of a row are inner

-- none past the row's end
pub inner_past : (n : Size) (axis : Axis) (x j k : ℕ) → n.nx ≤ x + 1 → inner n axis x j k ≡ false
inner_past n X x j k h = rw (le-ltb (x + 1) n.nx h)
inner_past n Y x j k h = rw (not_between n.nx x h)
inner_past n Z x j k h = rw (not_between n.nx x h)

pub crossed_past : (n : Size) (s : List ℕ) (cut : Cut) (axis : Axis) (x j k : ℕ) → n.nx ≤ x + 1 → crossed_on n s cut axis j k x ≡ false
crossed_past n s cut axis x j k h = rw (inner_past n axis x j k h)

-- none before the first row, and none from the last on
inner_first : (n : Size) (along : Along) (x j k : ℕ) → j < first_row along → inner n (along_axis along) x j k ≡ false
inner_first n AxisX x j k h = rw (zero_of j h) (ap (λ (b : Bool). b && between n.nz k) (and-false (ltb (x + 1) n.nx)))
  where
    zero_of : (j : ℕ) → j < 1 → j ≡ 0
    zero_of j h = omega arith
inner_first n AxisY x j k h = absurd (omega arith)
inner_first n AxisZ x j k h = rw (zero_of j h) (ap (λ (b : Bool). b && ltb (k + 1) n.nz) (and-false (between n.nx x)))
  where
    zero_of : (j : ℕ) → j < 1 → j ≡ 0
    zero_of j h = omega arith

inner_last : (n : Size) (axis : Axis) (x j k : ℕ) → n.ny ≤ j + 1 → inner n axis x j k ≡ false
inner_last n X x j k h = rw (not_between n.ny j h) (ap (λ (b : Bool). b && between n.nz k) (and-false (ltb (x + 1) n.nx)))
inner_last n Y x j k h = rw (le-ltb (j + 1) n.ny h) (ap (λ (b : Bool). b && between n.nz k) (and-false (between n.nx x)))
inner_last n Z x j k h = rw (not_between n.ny j h) (ap (λ (b : Bool). b && ltb (k + 1) n.nz) (and-false (between n.nx x)))

pub crossed_first : (n : Size) (s : List ℕ) (cut : Cut) (along : Along) (x j k : ℕ) → j < first_row along → crossed_on n s cut (along_axis along) j k x ≡ false
crossed_first n s cut along x j k h = rw (inner_first n along x j k h)

pub crossed_last : (n : Size) (s : List ℕ) (cut : Cut) (axis : Axis) (x j k : ℕ) → n.ny ≤ j + 1 → crossed_on n s cut axis j k x ≡ false
crossed_last n s cut axis x j k h = rw (inner_last n axis x j k h)

-- in the others the place along x decides
inner_x : (n : Size) (x j k : ℕ) → Mid n.ny j → Mid n.nz k → inner n X x j k ≡ ltb (x + 1) n.nx
inner_x n x j k hj hk =
    rw (mid_between n.ny j hj, mid_between n.nz k hk) (and-true (ltb (x + 1) n.nx && true) ∙ and-true (ltb (x + 1) n.nx))

inner_y : (n : Size) (x j k : ℕ) → j + 1 < n.ny → Mid n.nz k → inner n Y x j k ≡ between n.nx x
inner_y n x j k hj hk =
    rw (lt-ltb (j + 1) n.ny hj, mid_between n.nz k hk) (and-true (between n.nx x && true) ∙ and-true (between n.nx x))

inner_z : (n : Size) (x j k : ℕ) → Mid n.ny j → k + 1 < n.nz → inner n Z x j k ≡ between n.nx x
inner_z n x j k hj hk =
    rw (mid_between n.ny j hj, lt-ltb (k + 1) n.nz hk) (and-true (between n.nx x && true) ∙ and-true (between n.nx x))

-- neither first nor last is in the row
between_in : (n c : ℕ) → between n c ≡ true → c < n
between_in n c h = omega (arith, ltb-true (c + 1) n (and_both (ltb 0 c) (ltb (c + 1) n) h).1)

-- ---- the planes that an axis asks for

module _ (n : Size) (s : List ℕ) (cut : Cut) (k : ℕ) (a : List ℕ) (l : Limits n) where
  pub planes_x : 0 < k → k + 1 < n.nz → Plane n s cut k a → Planes n s cut X k a a
  planes_x low high p = record { limits = l; in_z = (low, high); lower = p; room = p.room; upper = λ e. absurd (let z : ◌≡◌ {A = ℕ} 0 1 = cc in omega arith) }

  pub planes_y : 0 < k → k + 1 < n.nz → Plane n s cut k a → Planes n s cut Y k a a
  planes_y low high p = record { limits = l; in_z = (low, high); lower = p; room = p.room; upper = λ e. absurd (let z : ◌≡◌ {A = ℕ} 0 1 = cc in omega arith) }

  pub planes_z : (b : List ℕ) → k + 1 < n.nz → Plane n s cut k a → Plane n s cut (k + 1) b → Planes n s cut Z k a b
  planes_z b high p q = record { limits = l; in_z = high; lower = p; room = q.room; upper = λ e. q }

-- ---- the words

pub edges_word : (n : Size) (s : List ℕ) (cut : Cut) (along : Along) (k : ℕ) (a b : List ℕ) (j w : ℕ)
    → Planes n s cut (along_axis along) k a b → RowIn n along j → w < 4
    → Word (edges_of along a b n.nx j w) (λ i. bit (crossed_on n s cut (along_axis along) j k (64 * w + i))) 64
unfolding edges_of
edges_word n s cut AxisX k a b j w p r hw =
    let hj : j < n.ny = omega (arith, r.1) in
    word_same _ (along_x_word p.lower j w hj hw)
    (λ i. bit_le (crossed_on n s cut X j k (64 * w + i)))
    (λ i h. ap (λ (t : Bool). bit (t && crossed_from n s cut X (64 * w + i) j k)) (below_last (64 * w + i) n.nx ∙ sym (inner_x n (64 * w + i) j k r p.in_z)))
edges_word n s cut AxisY k a b j w p r hw =
    let hj : j < n.ny = omega (arith, r.1) in
    let x = word_xor (word_at p.lower j w hj (omega arith)) (next_word p.lower j w r.1 (omega arith)) in
    word_same _
    (word_inner (λ i. crossed_from n s cut Y (64 * w + i) j k) x n.nx w
    (λ i h l. sym (word_bit x i h) ∙ along_y_is p.lower j w i hw h r.1 (between_in n.nx (64 * w + i) l)))
    (λ i. bit_le (crossed_on n s cut Y j k (64 * w + i)))
    (λ i h. ap (λ (t : Bool). bit (t && crossed_from n s cut Y (64 * w + i) j k)) (sym (inner_y n (64 * w + i) j k r.1 p.in_z)))
edges_word n s cut AxisZ k a b j w p r hw =
    let hj : j < n.ny = omega (arith, r.1) in
    let upper = p.upper refl in
    let x = word_xor (word_at p.lower j w hj (omega arith)) (word_at upper j w hj (omega arith)) in
    word_same _
    (word_inner (λ i. crossed_from n s cut Z (64 * w + i) j k) x n.nx w
    (λ i h l. sym (word_bit x i h) ∙ along_z_is p.lower j w i hw h upper hj (between_in n.nx (64 * w + i) l)))
    (λ i. bit_le (crossed_on n s cut Z j k (64 * w + i)))
    (λ i h. ap (λ (t : Bool). bit (t && crossed_from n s cut Z (64 * w + i) j k)) (sym (inner_z n (64 * w + i) j k r p.in_z)))
