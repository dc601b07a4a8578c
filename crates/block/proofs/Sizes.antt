-- A size that `Size::new` answers is within its limits, and its promise fixes its answer.
-- Assumes nothing.
use mathlib.Core.Path.{◌≡◌, refl, ap, sym, ◌∙◌}
use mathlib.Core.Bool.{Bool, true, false, ◌||◌}
use mathlib.Core.List.{[], ◌∷◌}
use Prim.Native.Nat.{ℕ, ◌≤◌, ◌<◌}
use native.Mathlib.Omega.{arith}
use lib.Dec.{ltb}
use borrow.Author.Tests.{ltb-false, lt-ltb, le-ltb}
use Rattle.laws.specs.Fixed.{Fixes}
use Rattle.laws.proofs.Fixed.{Injective, said_fixes}
use Rattle.block.specs.declared.Refusal.{Refusal}
use Rattle.block.specs.declared.Checked.TheVariants.{Passes, Refuses}
use Rattle.block.specs.declared.Size.{Size}
use Rattle.block.specs.declared.Sized.TheVariants.{Made, BadAxis}
use Rattle.block.specs.Answer.{refuses}
use Rattle.block.specs.Rows.{shortest, longest, out_of_limits, axis_row}
use Rattle.block.specs.Size.{size_of, said_size, size_answer, SizeMade, Limits}
use Rattle.block.proofs.Lowest.{row_clear, first_of_three, second_of_three, third_of_three, none_of_three}
use Rattle.block.proofs.Rows.{given_small}
use Rattle.block.proofs.Order.{order_last, refused_says, accepted_says, judged_refused, judged_passed}

-- no two answers say the same
pub said_size_injective : Injective said_size
said_size_injective (Made m) (Made n) e = cc
said_size_injective (Made m) (BadAxis b) e = let z : ◌≡◌ {A = ℕ} 0 1 = cc in absurd (omega arith)
said_size_injective (BadAxis a) (Made n) e = let z : ◌≡◌ {A = ℕ} 0 1 = cc in absurd (omega arith)
said_size_injective (BadAxis a) (BadAxis b) e =
    let same : ◌≡◌ {A = Refusal} (record { number = 1; value = a }) (record { number = 1; value = b }) = cc in
    ap (λ (r : Refusal). BadAxis r.value) same

-- any two answers that the promise of `Size::new` allows are equal
pub size_new_fixed : (nx ny nz : ℕ) → Fixes (SizeMade nx ny nz)
size_new_fixed nx ny nz = said_fixes said_size (size_answer nx ny nz) said_size_injective

within : (n : ℕ) → out_of_limits n ≡ false → (shortest ≤ n) × (n ≤ longest)
within n h = go (ltb n shortest) (ltb longest n) refl refl h
  where
    go : (a b : Bool) → ltb n shortest ≡ a → ltb longest n ≡ b → (a || b) ≡ false → (shortest ≤ n) × (n ≤ longest)
    go true b p q e = let z : ◌≡◌ {A = ℕ} 0 1 = cc in absurd (omega arith)
    go false true p q e = let z : ◌≡◌ {A = ℕ} 0 1 = cc in absurd (omega arith)
    go false false p q e = (ltb-false n shortest p, ltb-false longest n q)

pub too_short : (n : ℕ) → n < shortest → out_of_limits n ≡ true
too_short n h = rw (lt-ltb n shortest h)

pub too_long : (n : ℕ) → shortest ≤ n → longest < n → out_of_limits n ≡ true
too_long n l h = rw (le-ltb n shortest l) (lt-ltb longest n h)

pub in_limits : (n : ℕ) → shortest ≤ n → n ≤ longest → out_of_limits n ≡ false
in_limits n l h = rw (le-ltb n shortest l) (le-ltb longest n h)

-- what `Size::new` says, by the first axis that is out of its limits
module _ (nx ny nz : ℕ) where
  bad_axis : (a : ℕ) → axis_row nx ny nz ≡ refuses 1 a → a ≤ 2 → said_size (BadAxis a) ≡ size_answer nx ny nz
  bad_axis a e h = rw (order_last (axis_row nx ny nz), e) (judged_refused (refuses 1 a) (size_of nx ny nz) _ (ap (λ (v : ℕ). Refuses (record { number = 1; value = v })) (given_small a (omega (arith, h)))))

  pub first_bad : out_of_limits nx ≡ true → said_size (BadAxis 0) ≡ size_answer nx ny nz
  first_bad x = bad_axis 0 (first_of_three 1 out_of_limits nx ny nz x) (omega arith)

  pub second_bad : out_of_limits nx ≡ false → out_of_limits ny ≡ true → said_size (BadAxis 1) ≡ size_answer nx ny nz
  second_bad x y = bad_axis 1 (second_of_three 1 out_of_limits nx ny nz x y) (omega arith)

  pub third_bad : out_of_limits nx ≡ false → out_of_limits ny ≡ false → out_of_limits nz ≡ true → said_size (BadAxis 2) ≡ size_answer nx ny nz
  third_bad x y z = bad_axis 2 (third_of_three 1 out_of_limits nx ny nz x y z) (omega arith)

  pub none_bad : out_of_limits nx ≡ false → out_of_limits ny ≡ false → out_of_limits nz ≡ false → said_size (Made (size_of nx ny nz)) ≡ size_answer nx ny nz
  none_bad x y z = judged_passed _ _ _ (order_last (axis_row nx ny nz) ∙ none_of_three 1 out_of_limits nx ny nz x y z) refl

-- axis lengths that row 1 passes
pub axes_within : (nx ny nz : ℕ) → axis_row nx ny nz ≡ Passes → Limits (record { nx = nx; ny = ny; nz = nz })
axes_within nx ny nz e =
    let clear = row_clear out_of_limits 0 1 (nx ∷ ny ∷ nz ∷ []) e in
    let x = within nx (clear 0 (omega arith)) in
    let y = within ny (clear 1 (omega arith)) in
    let z = within nz (clear 2 (omega arith)) in
    record { x_low = x.0; x_high = x.1; y_low = y.0; y_high = y.1; z_low = z.0; z_high = z.1 }

-- and the other way
pub within_axes : (nx ny nz : ℕ) → Limits (record { nx = nx; ny = ny; nz = nz }) → axis_row nx ny nz ≡ Passes
within_axes nx ny nz l = none_of_three 1 out_of_limits nx ny nz (in_limits nx l.x_low l.x_high) (in_limits ny l.y_low l.y_high) (in_limits nz l.z_low l.z_high)

-- what row 1 says, by what `Size::new` answered
pub axis_refused : (nx ny nz a : ℕ) → SizeMade nx ny nz (BadAxis a) → axis_row nx ny nz ≡ Refuses (record { number = 1; value = a })
axis_refused nx ny nz a e = sym (order_last (axis_row nx ny nz)) ∙ refused_says _ _ _ e

pub axis_passed : (nx ny nz : ℕ) (n : Size) → SizeMade nx ny nz (Made n) → axis_row nx ny nz ≡ Passes
axis_passed nx ny nz n e = sym (order_last (axis_row nx ny nz)) ∙ (accepted_says _ _ _ e).0

-- every size that `Size::new` answers is that of the three axis lengths, and within its limits
pub size_made : (nx ny nz : ℕ) (n : Size) → SizeMade nx ny nz (Made n) → (n ≡ record { nx = nx; ny = ny; nz = nz }) × Limits n
size_made nx ny nz n e =
    let same : n ≡ record { nx = nx; ny = ny; nz = nz } = (accepted_says _ _ _ e).1 in
    (same, rw same (axes_within nx ny nz (axis_passed nx ny nz n e)))
