-- Windows of a block: parts of its samples, the words of a row by a window, and the two rows of one in a plane's words.
-- Assumes nothing.
use mathlib.Core.Path.{◌≡◌, refl, sym, ap, ◌∙◌}
use mathlib.Core.Bool.{Bool, true, false, ◌&&◌}
use mathlib.Core.List.{List}
use Prim.Native.Nat.{ℕ, ◌+◌, ◌*◌, ◌-◌, ◌≤◌, ◌<◌}
use native.Mathlib.Omega.{arith}
use borrow.Author.Tests.{ltb-true}
use lib.Dec.{ltb}
use lib.ListN.{length, get_or, take, drop, length-drop}
use lib.Seq.{get_or-take, get_or-drop, length-take-le}
use Rattle.laws.specs.Bits.{bit}
use Rattle.laws.proofs.Pack.{pack_cong}
use Rattle.block.specs.declared.Cut.{Cut}
use Rattle.block.specs.declared.Size.{Size}
use Rattle.block.specs.Grey.{positive}
use Rattle.mesh_rule.specs.Layers.{row_sample}
use Rattle.signs.specs.Signs.{Plane, row_sign}
use Rattle.signs.specs.Steps.{row_from}
use Rattle.signs.specs.Windows.{TwoRows, Part}

-- a part as it is lent
pub part_of : (s : List ℕ) (p e m : ℕ) → e - p ≡ m → p + m ≤ length s → Part s p m (take (e - p) (drop p s))
part_of s p e m d h = rw d (record {
  long = length-take-le m (drop p s) (omega (arith, length-drop p s));
  at = λ x l. get_or-take m (drop p s) x 0 l ∙ get_or-drop p s x 0;
})

-- the words of a row by a window in the place of the block
pub same_row : (s window : List ℕ) (cut : Cut) (p base nx w : ℕ) → ((x : ℕ) → x < nx → get_or window (x + base) 0 ≡ get_or s (x + p) 0) → row_from s cut.t p nx w ≡ row_from window cut.t base nx w
unfolding row_from
same_row s window cut p base nx w e = pack_cong _ _ 64 (λ i h. go (64 * w + i) (ltb (64 * w + i) nx) refl)
  where
    go : (x : ℕ) (b : Bool) → ltb x nx ≡ b → bit (b && positive cut (get_or s (x + p) 0)) ≡ bit (b && positive cut (get_or window (x + base) 0))
    go x true t = ap (λ (v : ℕ). bit (positive cut v)) (sym (e x (ltb-true x nx t)))
    go x false t = refl

-- the rows j and j + 1 of plane k, by their window
pub two_rows_lem : {n : Size} {s : List ℕ} {cut : Cut} {k : ℕ} {ws : List ℕ} → Plane n s cut k ws → (j : ℕ) → j + 1 < n.ny → n.ny ≤ 256
    → (window : List ℕ) → Part s (row_sample n.nx n.ny j k) (2 * n.nx) window → TwoRows cut n.nx window j ws
unfolding row_from row_sign
two_rows_lem {n} {s} {cut} {k} {ws} p j hj small window part = record {
  room = omega (arith, p.room);
  low = λ w h. p.word j w (omega arith) h ∙ same_row s window cut (n.nx * (j + n.ny * k)) 0 n.nx w (λ x l. part.at (x + 0) (omega arith) ∙ ap (λ (q : ℕ). get_or s q 0) (at_low (n.nx * (j + n.ny * k)) x));
  high = λ w h.
      ap (λ (q : ℕ). get_or ws q 0) (five w)
      ∙ p.word (j + 1) w hj h
      ∙ same_row s window cut (n.nx * (j + 1 + n.ny * k)) n.nx n.nx w (λ x l. part.at (x + n.nx) (omega arith) ∙ ap (λ (q : ℕ). get_or s q 0) (at_high n.nx n.ny x));
}
  where
    five : (w : ℕ) → 5 * j + 5 + w ≡ 5 * (j + 1) + w
    five w = omega arith

    at_low : (r x : ℕ) → r + (x + 0) ≡ x + r
    at_low r x = omega arith

    at_high : (m h x : ℕ) → m * (j + h * k) + (x + m) ≡ x + m * (j + 1 + h * k)
    at_high m h x = omega arith
