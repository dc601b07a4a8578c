-- The crossed edges of a plane by the words of its signs: what the sums over words count.
-- Assumes nothing.
use Prim.Native.Nat.{ℕ, zero, suc, ◌+◌, ◌-◌, ◌*◌, ◌≤◌, ◌<◌}
use mathlib.Core.Path.{◌≡◌, refl, ap, ap₂, sym, ◌∙◌}
use mathlib.Core.Bool.{Bool, ◌&&◌}
use mathlib.Core.Logic.{◌⊎◌, inl, inr}
use mathlib.Core.List.{List}
use native.Mathlib.Omega.{arith}
use borrow.Author.Tests.{le-ltb, lt-ltb}
use lib.Bits.{bit_and, bit_xor, xor_self}
use lib.Count.{ones}
use lib.Dec.{ltb}
use lib.ListN.{get_or}
use Rattle.laws.specs.Bits.{bit, differ}
use Rattle.laws.specs.Counting.{total}
use Rattle.laws.proofs.Sums.{total_same, total_plus, total_nothing, total_stop, total_mul}
use Rattle.laws.proofs.Tests.{lt_or_ge}
use Rattle.laws.proofs.Words.{Word, word_xor, word_ones, xor_tests}
use Rattle.block.specs.declared.Cut.{Cut}
use Rattle.block.specs.declared.Size.{Size}
use Rattle.block.specs.Numbering.{X, Y, Z}
use Rattle.mesh_rule.specs.Grid.{metal, crossed_from}
use Rattle.signs.specs.Signs.{Plane, row_sign}
use Rattle.signs.proofs.Planes.{word_at, next_word}
use Rattle.signs.proofs.Rows.{row_in}
use Rattle.planes.specs.Planes.{along_x, along_y, limit_of}
use Rattle.planes.proofs.Edges.{along_x_word}
use Rattle.planes.proofs.Masks.{below_last}
use Rattle.room.specs.Steps.{limits_of, word_x, word_y, word_z, word_edges, row_edges, plane_edges}
use Rattle.room.proofs.Along.{edge_there, from_row, from_plane}

no_ones : ◌≡◌ {A = ℕ} (ones 0) 0
unfolding ones
no_ones = refl

-- along y from a row that has a next one, and from the last
pub y_there : (b : List ℕ) (ny j w : ℕ) → j + 1 < ny → word_y b ny j w ≡ along_y b (5 * j + w)
y_there b ny j w h = rw (lt-ltb (j + 1) ny h)

pub y_last : (b : List ℕ) (ny j w : ℕ) → ny ≤ j + 1 → word_y b ny j w ≡ 0
y_last b ny j w h = rw (le-ltb (j + 1) ny h)

-- the words of a row, one axis at a time
row_parts : (a b limits : List ℕ) (ny j : ℕ)
    → row_edges a b limits ny j
    ≡ total (λ (w : ℕ). ones (word_x b limits j w)) 4 + total (λ (w : ℕ). ones (word_y b ny j w)) 4 + total (λ (w : ℕ). ones (word_z a b j w)) 4
row_parts a b limits ny j =
    total_plus (λ (w : ℕ). ones (word_x b limits j w) + ones (word_y b ny j w)) (λ (w : ℕ). ones (word_z a b j w)) 4
    ∙ ap (λ (m : ℕ). m + total (λ (w : ℕ). ones (word_z a b j w)) 4) (total_plus (λ (w : ℕ). ones (word_x b limits j w)) (λ (w : ℕ). ones (word_y b ny j w)) 4)

module _ (n : Size) (s : List ℕ) (cut : Cut) (few : n.nx ≤ 256) where
  -- past a row's end there is no sign
  row_past : (j k x : ℕ) → n.nx ≤ x → row_sign n s cut j k x ≡ 0
  unfolding row_sign
  row_past j k x h = rw (le-ltb x n.nx h)

  -- two rows of samples by their words: in how many places their signs differ
  module _ (j k y z : ℕ) (u v : ℕ → ℕ) where
    rows_differ : ((w : ℕ) → w < 4 → Word (u w) (λ i. row_sign n s cut j k (64 * w + i)) 64)
        → ((w : ℕ) → w < 4 → Word (v w) (λ i. row_sign n s cut y z (64 * w + i)) 64)
        → total (λ (w : ℕ). ones (bit_xor (u w) (v w))) 4 ≡ total (λ (x : ℕ). bit (differ (metal n s cut x j k) (metal n s cut x y z))) n.nx
    rows_differ hu hv =
        total_same _ _ 4 (λ w l. word_ones (word_xor (hu w l) (hv w l)))
        ∙ sym (total_mul (λ (x : ℕ). bit_xor (row_sign n s cut j k x) (row_sign n s cut y z x)) 64 4)
        ∙ total_stop (λ (x : ℕ). bit_xor (row_sign n s cut j k x) (row_sign n s cut y z x)) n.nx 256 few (λ x h. ap₂ bit_xor (row_past j k x h) (row_past y z x h))
        ∙ total_same _ _ n.nx (λ x l. ap₂ bit_xor (row_in n s cut j k x l) (row_in n s cut y z x l) ∙ xor_tests (metal n s cut x j k) (metal n s cut x y z))

  module _ (k : ℕ) {b : List ℕ} (p : Plane n s cut k b) where
    -- along x
    limit_at : (w : ℕ) → w < 4 → get_or (limits_of n.nx) w 0 ≡ limit_of (n.nx - 1) w
    limit_at zero h = refl
    limit_at (suc zero) h = refl
    limit_at (suc (suc zero)) h = refl
    limit_at (suc (suc (suc zero))) h = refl
    limit_at (suc (suc (suc (suc w)))) h = absurd (omega arith)

    x_row : (j : ℕ) → j < n.ny → total (λ (w : ℕ). ones (word_x b (limits_of n.nx) j w)) 4 ≡ from_row n s cut X k j
    x_row j hj =
        total_same _ _ 4 (λ w l. ap (λ (m : ℕ). ones (bit_and (along_x b (5 * j + w)) m)) (limit_at w l) ∙ word_ones (along_x_word p j w hj l))
        ∙ sym (total_mul (λ (x : ℕ). bit (ltb x (n.nx - 1) && crossed_from n s cut X x j k)) 64 4)
        ∙ total_stop (λ (x : ℕ). bit (ltb x (n.nx - 1) && crossed_from n s cut X x j k)) n.nx 256 few (λ x h. rw (le-ltb x (n.nx - 1) (omega arith)))
        ∙ total_same _ _ n.nx (λ x l. ap (λ (t : Bool). bit (t && crossed_from n s cut X x j k)) (below_last x n.nx))

    -- along y: none from the last row
    y_row : (j : ℕ) → j < n.ny → total (λ (w : ℕ). ones (word_y b n.ny j w)) 4 ≡ from_row n s cut Y k j
    y_row j hj = go (lt_or_ge (j + 1) n.ny)
      where
        go : (j + 1 < n.ny) ⊎ (n.ny ≤ j + 1) → total (λ (w : ℕ). ones (word_y b n.ny j w)) 4 ≡ from_row n s cut Y k j
        go (inl l) =
            total_same _ _ 4 (λ w _. ap ones (y_there b n.ny j w l))
            ∙ rows_differ j k (j + 1) k (λ w. get_or b (5 * j + w) 0) (λ w. get_or b (5 * j + w + 5) 0) (λ w h. word_at p j w hj (omega arith)) (λ w h. next_word p j w l (omega arith))
            ∙ total_same _ _ n.nx (λ x m. sym (edge_there n s cut Y x j k l))
        go (inr g) =
            total_same _ _ 4 (λ w _. ap ones (y_last b n.ny j w g) ∙ no_ones)
            ∙ total_nothing 4
            ∙ sym (total_same _ _ n.nx (λ x m. rw (le-ltb (j + 1) n.ny g)) ∙ total_nothing n.nx)

  -- along z, from the plane below
  z_row : (k : ℕ) {a b : List ℕ} → Plane n s cut k a → Plane n s cut (k + 1) b → k + 1 < n.nz → (j : ℕ) → j < n.ny
      → total (λ (w : ℕ). ones (word_z a b j w)) 4 ≡ from_row n s cut Z k j
  z_row k {a} {b} p q hk j hj =
      rows_differ j k j (k + 1) (λ w. get_or a (5 * j + w) 0) (λ w. get_or b (5 * j + w) 0) (λ w h. word_at p j w hj (omega arith)) (λ w h. word_at q j w hj (omega arith))
      ∙ total_same _ _ n.nx (λ x m. sym (edge_there n s cut Z x j k hk))

  -- a plane under itself has no edge along z
  same_row : (a : List ℕ) (j : ℕ) → total (λ (w : ℕ). ones (word_z a a j w)) 4 ≡ 0
  same_row a j = total_same _ _ 4 (λ w _. ap ones (xor_self (get_or a (5 * j + w) 0)) ∙ no_ones) ∙ total_nothing 4

  -- ---- whole planes

  pub first_plane : (k : ℕ) {a : List ℕ} → Plane n s cut k a → plane_edges a a n.nx n.ny ≡ from_plane n s cut X k + from_plane n s cut Y k
  first_plane k {a} p =
      total_same _ _ n.ny (λ j l. row_parts a a (limits_of n.nx) n.ny j ∙ omega (arith, x_row k p j l, y_row k p j l, same_row a j))
      ∙ total_plus (from_row n s cut X k) (from_row n s cut Y k) n.ny

  pub next_plane : (k : ℕ) {a b : List ℕ} → Plane n s cut k a → Plane n s cut (k + 1) b → k + 1 < n.nz
      → plane_edges a b n.nx n.ny ≡ from_plane n s cut X (k + 1) + from_plane n s cut Y (k + 1) + from_plane n s cut Z k
  next_plane k {a} {b} p q hk =
      total_same _ _ n.ny (λ j l. row_parts a b (limits_of n.nx) n.ny j ∙ omega (arith, x_row (k + 1) q j l, y_row (k + 1) q j l, z_row k p q hk j l))
      ∙ total_plus (λ (j : ℕ). from_row n s cut X (k + 1) j + from_row n s cut Y (k + 1) j) (from_row n s cut Z k) n.ny
      ∙ ap (λ (m : ℕ). m + from_plane n s cut Z k) (total_plus (from_row n s cut X (k + 1)) (from_row n s cut Y (k + 1)) n.ny)
