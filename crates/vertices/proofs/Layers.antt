-- A row of cubes in its block: the row's windows give what the block's numbers give.
-- Assumes nothing.
use Prim.Native.Nat.{ℕ, ◌+◌, ◌*◌, ◌-◌, ◌≤◌, ◌<◌}
use mathlib.Core.Path.{◌≡◌, ap, sym, ◌∙◌, subst}
use mathlib.Core.List.{List, ◌++◌}
use native.Mathlib.Nat.{mul-add, mul_assoc, mul-le-mul}
use native.Mathlib.Omega.{arith}
use lib.ListN.{length, take, drop}
use Rattle.laws.specs.Below.{below}
use Rattle.laws.proofs.Below.{below_add, below_same}
use Rattle.block.specs.declared.Cut.{Cut}
use Rattle.block.specs.declared.Size.{Size}
use Rattle.block.specs.Numbering.{sample_count}
use Rattle.block.specs.Size.{Limits}
use Rattle.mesh_rule.specs.Grid.{corners_of}
use Rattle.mesh_rule.specs.Layers.{cube_words, cube_offsets, run_masks, run_words, run_offsets, row_cube}
use Rattle.mesh_rule.specs.Mesh.{cube_loops}
use Rattle.signs.specs.Windows.{window_corners, Part}
use Rattle.signs.proofs.Windows.{part_of, two_rows_lem}
use Rattle.cube_vertices.specs.Cubes.{names_by, words_by, offsets_by, names_at}
use Rattle.rows.specs.Rows.{loops_at, row_masks, RowReady}
use Rattle.vertices.specs.Layers.{row_words, row_offsets, Ready}
use Rattle.notes.specs.Tables.{which_of, Numbered}
use Rattle.vertices.proofs.CubeCorners.{Windows, rows_in, window_corners_lem}

-- rows of m in layers of h: one row more
pub rows_next : {A : Type 0} (f : ℕ → List A) (m h j k : ℕ)
    → below (λ (x : ℕ). f (m * h * k + x)) (m * (j + 1)) ≡ below (λ (x : ℕ). f (m * h * k + x)) (m * j) ++ below (λ (x : ℕ). f (m * (j + h * k) + x)) m
rows_next {A} f m h j k =
    ap (below (λ (x : ℕ). f (m * h * k + x))) next
    ∙ below_add (λ (x : ℕ). f (m * h * k + x)) (m * j) m
    ∙ ap (λ (l : List A). below (λ (x : ℕ). f (m * h * k + x)) (m * j) ++ l) (below_same _ _ m (λ x l. ap f (at x)))
  where
    next : m * (j + 1) ≡ m * j + m
    next = omega arith

    at : (x : ℕ) → m * h * k + (m * j + x) ≡ m * (j + h * k) + x
    at x = rw (mul-add m j (h * k), ← mul_assoc m h k) (omega arith)

-- the numbers of a row fit
pub row_bounds : (n : Size) (nx ny j k : ℕ) → Limits n → nx ≡ n.nx → ny ≡ n.ny → j + 1 < n.ny → k + 1 < n.nz
    → (nx * ny ≤ 65536) × (ny * k ≤ 65024) × (nx * (j + ny * k) ≤ 16711168) × ((ny - 1) * k ≤ 64770) × ((nx - 1) * (j + (ny - 1) * k) ≤ 16581120)
row_bounds n nx ny j k l ex ey hj hk =
    let x : nx ≤ 256 = omega (arith, l.x_high) in
    let y : ny ≤ 256 = omega (arith, l.y_high) in
    let x1 : nx - 1 ≤ 255 = omega arith in
    let y1 : ny - 1 ≤ 255 = omega arith in
    let z : k ≤ 254 = omega (arith, l.z_high) in
    let a : ny * k ≤ 256 * 254 = mul-le-mul y z in
    let b : (ny - 1) * k ≤ 255 * 254 = mul-le-mul y1 z in
    let c : j + ny * k ≤ 65278 = omega arith in
    let d : j + (ny - 1) * k ≤ 65024 = omega arith in
    (mul-le-mul x y, a, mul-le-mul x c, b, mul-le-mul x1 d)

-- ---- a row's windows

-- the parts that are lent
module _ (n : Size) (s : List ℕ) (j k : ℕ) (nx ny : ℕ) (ex : nx ≡ n.nx) (ey : ny ≡ n.ny) (count : length s ≡ sample_count n) (hj : j + 1 < n.ny) (hk : k + 1 < n.nz) where
  abbrev p : ℕ
  p = nx * (j + ny * k)

  up : p + nx * ny ≡ nx * (j + ny * (k + 1))
  up = omega arith

  pub low_fits : p + 2 * nx ≤ length s
  low_fits = rw (ex, ey) (omega (arith, count, rows_in n.nx n.ny n.nz j k hj (omega arith)))

  pub high_fits : p + nx * ny + 2 * nx ≤ length s
  high_fits = rw (up, ex, ey) (omega (arith, count, rows_in n.nx n.ny n.nz j (k + 1) hj hk))

  pub lent : Windows n s j k (take (p + 2 * nx - p) (drop p s)) (take (p + nx * ny + 2 * nx - (p + nx * ny)) (drop (p + nx * ny) s))
  lent = record {
    low = subst (λ (q : ℕ). Part s q (2 * n.nx) (take (p + 2 * nx - p) (drop p s))) (rw (ex, ey)) (part_of s p (p + 2 * nx) (2 * n.nx) (omega arith) (omega (arith, low_fits)));
    high = subst (λ (q : ℕ). Part s q (2 * n.nx) (take (p + nx * ny + 2 * nx - (p + nx * ny)) (drop (p + nx * ny) s))) (up ∙ rw (ex, ey)) (part_of s (p + nx * ny) (p + nx * ny + 2 * nx) (2 * n.nx) (omega arith) (omega (arith, high_fits)));
  }

-- what a pass over the row requires
pub row_ready : {n : Size} {s : List ℕ} {cut : Cut} {a b : List ℕ} {j k : ℕ} {lo hi : List ℕ} → Ready n s cut a b k → j + 1 < n.ny → Windows n s j k lo hi
    → RowReady lo hi cut a b n.nx j
row_ready {n} {s} {cut} {a} {b} {j} {k} {lo} {hi} r hj p = record {
  short = r.limits.x_low;
  long = r.limits.x_high;
  low_long = p.low.long;
  high_long = p.high.long;
  lower = two_rows_lem r.lower j hj r.limits.y_high lo p.low;
  upper = two_rows_lem r.upper j hj r.limits.y_high hi p.high;
}

-- ---- what the windows give is what the block gives

module _ (loops_of : Cut → List ℕ → List ℕ) {n : Size} {s : List ℕ} {j k : ℕ} {lo hi : List ℕ} (p : Windows n s j k lo hi) (cut : Cut) (hj : j + 1 < n.ny) where
  abbrev pub first : ℕ
  first = row_cube n.nx n.ny j k

  corners : (x : ℕ) → x < n.nx - 1 → window_corners n.nx lo hi x ≡ corners_of n s (first + x)
  corners x h = window_corners_lem n s j k lo hi p x h (omega arith)

  pub masks_are : row_masks loops_of lo hi cut n.nx ≡ run_masks loops_of n s cut first (n.nx - 1)
  masks_are = below_same _ _ (n.nx - 1) (λ x h. ap (loops_of cut) (corners x h))

  pub words_are : row_words loops_of lo hi cut n.nx first ≡ run_words loops_of n s cut first (n.nx - 1)
  unfolding cube_words
  words_are = below_same _ _ (n.nx - 1) (λ x h. ap (λ (cs : List ℕ). words_by loops_of cut cs (first + x)) (corners x h))

  pub offsets_are : row_offsets loops_of lo hi cut n.nx ≡ run_offsets loops_of n s cut first (n.nx - 1)
  unfolding cube_offsets
  offsets_are = below_same _ _ (n.nx - 1) (λ x h. ap (offsets_by loops_of cut) (corners x h))

  -- the table too
  pub numbers_are : {v : ℕ} {at : List ℕ} → Numbered (loops_at loops_of lo hi cut n.nx) (names_at loops_of lo hi cut n.nx) (n.nx - 1) v at
      → Numbered (λ (x : ℕ). cube_loops loops_of n s cut (first + x)) (λ (x : ℕ). names_by loops_of cut (corners_of n s (first + x))) (n.nx - 1) v at
  numbers_are {v} {at} q = record {
    first = λ x l h. q.first x l (there x l h) ∙ ap (λ (ms : List ℕ). v + length ms) (below_same _ _ x (λ y k. ap (loops_of cut) (corners y (omega arith))));
    which = λ x l h. q.which x l (there x l h) ∙ ap (λ (cs : List ℕ). which_of (names_by loops_of cut cs)) (corners x l);
  }
    where
      there : (x : ℕ) → x < n.nx - 1 → 0 < length (names_by loops_of cut (corners_of n s (first + x))) → 0 < length (names_at loops_of lo hi cut n.nx x)
      there x l h = subst (λ (cs : List ℕ). 0 < length (names_by loops_of cut cs)) (sym (corners x l)) h

-- ---- the row's windows as they are lent

module _ {n : Size} {s : List ℕ} {cut : Cut} {a b : List ℕ} {k : ℕ} (r : Ready n s cut a b k) (j nx ny : ℕ) (ex : nx ≡ n.nx) (ey : ny ≡ n.ny) (hj : j + 1 < n.ny) where
  abbrev pub lent_low : List ℕ
  lent_low = take (nx * (j + ny * k) + 2 * nx - nx * (j + ny * k)) (drop (nx * (j + ny * k)) s)

  abbrev pub lent_high : List ℕ
  lent_high = take (nx * (j + ny * k) + nx * ny + 2 * nx - (nx * (j + ny * k) + nx * ny)) (drop (nx * (j + ny * k) + nx * ny) s)

  pub lent_windows : Windows n s j k lent_low lent_high
  lent_windows = lent n s j k nx ny ex ey r.samples hj r.inside
