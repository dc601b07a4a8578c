-- A block whose two planes are at hand: there is one, and the signs and windows that the planes give are the block's.
-- Assumes nothing.
use Prim.Native.Nat.{ℕ, ◌+◌, ◌*◌, ◌-◌, ◌/◌, ◌≤◌, ◌<◌}
use mathlib.Core.Path.{◌≡◌, refl, ap, sym, ◌∙◌}
use mathlib.Core.Bool.{cond}
use mathlib.Core.List.{List}
use native.Mathlib.Nat.{mul_assoc, mul-le-mul_left}
use native.Mathlib.Omega.{arith}
use borrow.Author.Tests.{lt-ltb, le-ltb}
use lib.Dec.{ltb}
use lib.ListN.{length, get_or, take, drop}
use Rattle.laws.proofs.Index.{pair_lt}
use Rattle.laws.proofs.Over.{each, each_length, each_at}
use Rattle.block.specs.declared.Size.{Size}
use Rattle.block.specs.Numbering.{sample_count}
use Rattle.mesh_rule.specs.Layers.{plane_size, row_sample}
use Rattle.signs.specs.Windows.{Part}
use Rattle.vertices.specs.Layers.{Ready}
use Rattle.vertices.proofs.CubeCorners.{Windows}
use Rattle.plane_layers.specs.declared.Layer.{Layer}
use Rattle.plane_layers.specs.Memory.{Windowed, sample_in, item_at, Shown}
use Rattle.plane_layers.specs.Layer.{LayerReady, SignsReady}
use Rattle.plane_layers.proofs.Signed.{plane_signed, lent_row, words_for, front_for, words_long, lent_window}

-- ---- some block has them

module _ (n : Size) (k : ℕ) (work plane : List ℕ) where
  -- the sample with index i of a block that has nothing but these two planes
  abbrev sample_of : ℕ → ℕ
  sample_of i = cond (ltb i (plane_size n * (k + 1))) (sample_in work (i - plane_size n * k)) (item_at plane (i - plane_size n * (k + 1)))

  abbrev pub made : List ℕ
  made = each sample_of (sample_count n)

  pub made_shown : k + 1 < n.nz → Shown n k work plane made
  made_shown hk = record {
    samples = each_length sample_of (sample_count n);
    lower = λ i h. each_at sample_of (sample_count n) (plane_size n * k + i) 0 (inside i k h (omega arith)) ∙ low i h;
    upper = λ i h. each_at sample_of (sample_count n) (plane_size n * (k + 1) + i) 0 (inside i (k + 1) h hk) ∙ high i h;
  }
    where
      inside : (i z : ℕ) → i < plane_size n → z < n.nz → plane_size n * z + i < sample_count n
      inside i z h hz = omega (arith, pair_lt (plane_size n) n.nz i z h hz, mul_assoc n.nx n.ny n.nz)

      low : (i : ℕ) → i < plane_size n → sample_of (plane_size n * k + i) ≡ sample_in work i
      low i h =
          ap (λ b. cond b (sample_in work (plane_size n * k + i - plane_size n * k)) (item_at plane (plane_size n * k + i - plane_size n * (k + 1)))) (lt-ltb (plane_size n * k + i) (plane_size n * (k + 1)) (next (plane_size n) h))
          ∙ ap (sample_in work) (back (plane_size n * k) i)
        where
          next : (p : ℕ) → i < p → p * k + i < p * (k + 1)
          next p q = omega arith

          back : (a i : ℕ) → a + i - a ≡ i
          back a i = omega arith

      high : (i : ℕ) → i < plane_size n → sample_of (plane_size n * (k + 1) + i) ≡ item_at plane i
      high i h =
          ap (λ b. cond b (sample_in work (plane_size n * (k + 1) + i - plane_size n * k)) (item_at plane (plane_size n * (k + 1) + i - plane_size n * (k + 1)))) (le-ltb (plane_size n * (k + 1) + i) (plane_size n * (k + 1)) (more (plane_size n * (k + 1)) i))
          ∙ ap (item_at plane) (back (plane_size n * (k + 1)) i)
        where
          more : (a i : ℕ) → a ≤ a + i
          more a i = omega arith

          back : (a i : ℕ) → a + i - a ≡ i
          back a i = omega arith

-- ---- their signs and windows are the block's

pub shown_ready : {layer : Layer} {work plane a b s : List ℕ} → LayerReady layer work plane → SignsReady layer work plane a b → Shown layer.size layer.k work plane s
    → Ready layer.size s layer.cut a b layer.k
shown_ready {layer} {work} {plane} {a} {b} {s} r g h = record {
  limits = r.limits;
  samples = h.samples;
  lower = plane_signed layer.size s layer.cut layer.k (sample_in work) a g.a_long h.lower g.lower;
  upper = plane_signed layer.size s layer.cut (layer.k + 1) (item_at plane) b g.b_long h.upper g.upper;
  inside = r.inside;
}

-- two rows of a plane
pub rows_in : (nx ny j : ℕ) → j + 1 < ny → nx * j + 2 * nx ≤ nx * ny
rows_in nx ny j h = omega (arith, mul-le-mul_left nx (next h))
  where
    next : j + 1 < ny → j + 2 ≤ ny
    next q = omega arith

plane_part : (n : Size) (s : List ℕ) (f : ℕ → ℕ) (j z : ℕ) (window : List ℕ) → ((i : ℕ) → i < plane_size n → get_or s (plane_size n * z + i) 0 ≡ f i) → j + 1 < n.ny → length window ≡ 2 * n.nx
    → ((x : ℕ) → x < 2 * n.nx → get_or window x 0 ≡ f (n.nx * j + x)) → Part s (row_sample n.nx n.ny j z) (2 * n.nx) window
plane_part n s f j z window is hj long at = record {
  long = long;
  at = λ x l. at x l ∙ sym (is (n.nx * j + x) (omega (arith, rows_in n.nx n.ny j hj))) ∙ ap (λ (i : ℕ). get_or s i 0) (place n.nx n.ny x);
}
  where
    place : (w h x : ℕ) → w * h * z + (w * j + x) ≡ w * (j + h * z) + x
    place w h x = omega (arith, mul_assoc w h z)

-- rows j and j + 1 of a plane, as they are lent
abbrev pub two_rows : List ℕ → ℕ → ℕ → List ℕ
two_rows plane nx j = take (nx * j + 2 * nx - nx * j) (drop (nx * j) plane)

-- as they are lent: the lower are taken from their words, the upper are a part of the plane
module _ {layer : Layer} {work plane : List ℕ} (r : LayerReady layer work plane) (j nx : ℕ) (ex : nx ≡ layer.size.nx) (hj : j + 1 < layer.size.ny) where
  pub part_fits : nx * j + 2 * nx ≤ plane_size layer.size
  part_fits = rw ex (rows_in layer.size.nx layer.size.ny j hj)

  in_work : nx * j + 2 * nx ≤ length work
  in_work = omega (arith, part_fits, r.room)

  few : 2 * nx ≤ 512
  few = omega (arith, r.limits.x_high)

  pub words_in_lem : (nx * j + 2 * nx + 1) / 2 ≤ length work
  words_in_lem = omega (arith, part_fits, r.room)

  pub words_short : 2 * length (words_for work (nx * j) (2 * nx)) ≤ 514
  words_short = omega (arith, words_long work (nx * j) (2 * nx) in_work few words_in_lem, few)

  pub shown_windows : {s : List ℕ} → Shown layer.size layer.k work plane s → (w : List ℕ) → length w ≡ 514 → Windowed (words_for work (nx * j) (2 * nx)) (2 * length (words_for work (nx * j) (2 * nx))) w
      → Windows layer.size s j layer.k (front_for w (nx * j) (2 * nx)) (two_rows plane nx j)
  shown_windows {s} h w long is =
      let high = lent_row plane (item_at plane) (2 * nx) (nx * j) (omega (arith, part_fits, r.plane_long)) (λ x l. refl) in
      let front = lent_window work (nx * j) (2 * nx) in_work few w words_in_lem long is in
      record {
        low = plane_part layer.size s (sample_in work) j layer.k _ h.lower hj (front.0 ∙ ap (λ (x : ℕ). 2 * x) ex) (λ x l. front.1 x (omega arith) ∙ ap (λ (m : ℕ). sample_in work (m * j + x)) ex);
        high = plane_part layer.size s (item_at plane) j (layer.k + 1) _ h.upper hj (high.0 ∙ ap (λ (x : ℕ). 2 * x) ex) (λ x l. high.1 x (omega arith) ∙ ap (λ (m : ℕ). item_at plane (m * j + x)) ex);
      }
