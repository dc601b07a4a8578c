-- What readings are: the whole part is the greatest whole number not above, the sign of a grey value is that of its reading, grey values are samples of 16 bits, a part
-- of the grey values is that of a part, and the lowest index at fault decides.
-- Assumes nothing.
use mathlib.Core.Path.{◌≡◌, refl, sym, ap, ◌∙◌, subst}
use mathlib.Core.Bool.{Bool, true, false, ◌&&◌, cond, true≢false}
use mathlib.Core.Logic.{◌↔◌, ◌⊎◌, inl, inr}
use mathlib.Core.List.{List, [], ◌∷◌, map}
use Prim.Native.Nat.{ℕ, zero, suc, ◌+◌, ◌*◌, ◌/◌, ◌≤◌, ◌<◌}
use native.Mathlib.Nat.{mul-one, mul_right_comm, zero-mul, mul-le-mul_right, mul-lt-mul_of_pos_right, mul-pos, le-div_iff_mul-le, div-lt_iff_lt-mul, div-mul-le_self, mul-div_cancel, le_refl}
use native.Mathlib.Omega.{arith}
use lib.Dec.{leb, eqb}
use lib.IntN.{ℤ, pos}
use lib.ListN.{length, get_or, take, drop, length-map, get_or-map, length-take, length-drop}
use lib.Seq.{ext_get_or}
use lib.Ieee.{Float, nan, inf, fin, binary32, up, down, le, lt, eq, of_int}
use lib.Ieee.Fits.{down_pos}
use lib.Ieee.Exact.{HasValue}
use borrow.Author.Tests.{le-leb, lt-leb, leb-true, leb-false, eq-eqb, ne_eqb}
use Rattle.laws.proofs.Over.{each, each_length, each_at}
use Rattle.laws.proofs.Within.{whole_value}
use Rattle.laws.proofs.Tests.{lt_or_ge}
use Rattle.block.specs.declared.Refusal.{Refusal}
use Rattle.block.specs.declared.Checked.TheVariants.{Passes, Refuses}
use Rattle.block.specs.Grey.{SixteenBit}
use Rattle.readings.specs.declared.Reading.{Reading}
use Rattle.readings.specs.declared.Reading.TheVariants.{Grey, Ceiling, NoNumber, Infinite, BelowZero}
use Rattle.readings.specs.Reading.{whole_part, reading_of, grey_of, greys_of, bad_at, bad_row, faulty, Sound}
use Rattle.readings.proofs.Cases.{not_above, at_ceiling, under_ceiling}
use Rattle.readings.proofs.Rows.{row_refuses, row_passes, row_passed, row_refused, refuses_faulty, part_at}

-- ---- the whole part

-- g is the greatest whole number not above m · 2 ^ e
pub record GreatestWhole (m : ℕ) (e : ℤ) (g : ℕ) : Type 0 where
  pub not_more : g * down e ≤ m * up e
  pub next_is_more : m * up e < (g + 1) * down e
  pub greatest : (h : ℕ) → h * down e ≤ m * up e → h ≤ g

pub whole_part_greatest : (m : ℕ) (e : ℤ) → GreatestWhole m e (whole_part m e)
whole_part_greatest m e = record {
  not_more = div-mul-le_self (m * up e) (down e);
  next_is_more = (div-lt_iff_lt-mul (down_pos e)).0 (more (m * up e / down e));
  greatest = λ h l. (le-div_iff_mul-le (down_pos e)).1 l;
}
  where
    more : (n : ℕ) → n < n + 1
    more n = omega arith

-- ---- grey values

pub grey_small : (x : Float) → grey_of (reading_of x) < 65536
unfolding reading_of
grey_small nan = omega arith
grey_small (inf s) = omega arith
grey_small (fin true (suc m) e) = omega arith
grey_small (fin true zero e) = omega arith
grey_small (fin false m e) = go (lt_or_ge (whole_part m e) 65535)
  where
    go : (whole_part m e < 65535) ⊎ (65535 ≤ whole_part m e) → grey_of (cond (leb 65535 (whole_part m e)) Ceiling (Grey (whole_part m e))) < 65536
    go (inl l) = rw (under_ceiling (whole_part m e) l) (omega arith)
    go (inr g) = rw (at_ceiling (whole_part m e) g) (omega arith)

-- a grey value is below the ceiling
pub grey_below : (x : Float) (g : ℕ) → reading_of x ≡ Grey g → g < 65535
unfolding reading_of
grey_below nan g h = let z : ◌≡◌ {A = ℕ} 0 1 = cc in absurd (omega arith)
grey_below (inf s) g h = let z : ◌≡◌ {A = ℕ} 0 1 = cc in absurd (omega arith)
grey_below (fin true (suc m) e) g h = let z : ◌≡◌ {A = ℕ} 0 1 = cc in absurd (omega arith)
grey_below (fin true zero e) g h = let z : ◌≡◌ {A = ℕ} 0 g = cc in omega arith
grey_below (fin false m e) g h = go (lt_or_ge (whole_part m e) 65535)
  where
    go : (whole_part m e < 65535) ⊎ (65535 ≤ whole_part m e) → g < 65535
    go (inl l) = let k : Grey (whole_part m e) ≡ Grey g = sym (under_ceiling (whole_part m e) l) ∙ h in let z : whole_part m e ≡ g = cc in omega arith
    go (inr l) = let k : Ceiling ≡ Grey g = sym (at_ceiling (whole_part m e) l) ∙ h in let z : ◌≡◌ {A = ℕ} 0 1 = cc in absurd (omega arith)

-- 65,535 is the ceiling's alone
pub grey_ceiling : (x : Float) → faulty (reading_of x) ≡ false → (grey_of (reading_of x) ≡ 65535) ↔ (reading_of x ≡ Ceiling)
grey_ceiling x f = (λ h. go (reading_of x) refl f h, λ h. ap grey_of h)
  where
    go : (r : Reading) → reading_of x ≡ r → faulty r ≡ false → grey_of r ≡ 65535 → r ≡ Ceiling
    go (Grey g) e f h = absurd (let l = grey_below x g e in omega arith)
    go Ceiling e f h = refl
    go NoNumber e f h = absurd (true≢false f)
    go Infinite e f h = absurd (true≢false f)
    go BelowZero e f h = absurd (true≢false f)

-- ---- the sign of a reading: a grey value is at least a whole number exactly if the reading is

leb_scale : (a b c : ℕ) → 0 < c → leb (a * c) (b * c) ≡ leb a b
leb_scale a b c C = go (leb a b) refl
  where
    go : (t : Bool) → leb a b ≡ t → leb (a * c) (b * c) ≡ t
    go true e = le-leb (a * c) (b * c) (mul-le-mul_right c (leb-true a b e))
    go false e = lt-leb (a * c) (b * c) (mul-lt-mul_of_pos_right (leb-false a b e) C)

leb_whole : (t a d : ℕ) → 0 < d → leb t (a / d) ≡ leb (t * d) a
leb_whole t a d D = go (leb (t * d) a) refl
  where
    go : (b : Bool) → leb (t * d) a ≡ b → leb t (a / d) ≡ b
    go true e = le-leb t (a / d) ((le-div_iff_mul-le D).1 (leb-true (t * d) a e))
    go false e = lt-leb t (a / d) ((div-lt_iff_lt-mul D).1 (leb-false (t * d) a e))

leb_capped : (t w : ℕ) → t ≤ 65535 → leb t (grey_of (cond (leb 65535 w) Ceiling (Grey w))) ≡ leb t w
leb_capped t w T = go (lt_or_ge w 65535)
  where
    go : (w < 65535) ⊎ (65535 ≤ w) → leb t (grey_of (cond (leb 65535 w) Ceiling (Grey w))) ≡ leb t w
    go (inl l) = rw (under_ceiling w l)
    go (inr g) = ap (λ (r : Reading). leb t (grey_of r)) (at_ceiling w g) ∙ le-leb t 65535 T ∙ sym (le-leb t w (omega arith))

-- with a whole number t, written as y
sign_at : (y x : Float) (t : ℕ) → HasValue y false t 1 → t ≤ 65535 → faulty (reading_of x) ≡ false → leb t (grey_of (reading_of x)) ≡ le y x
unfolding reading_of le lt eq
sign_at nan x t v T f = absurd v
sign_at (inf s) x t v T f = absurd v
sign_at (fin true n d) x t v T f = absurd (true≢false v.0)
sign_at (fin false n d) nan t v T f = absurd (true≢false f)
sign_at (fin false n d) (inf s) t v T f = absurd (true≢false f)
sign_at (fin false n d) (fin true (suc m) e) t v T f = absurd (true≢false f)
sign_at (fin false n d) (fin true zero e) t v T f = go t (sym (mul-one (n * up d)) ∙ v.1)
  where
    go : (t : ℕ) → n * up d ≡ t * down d → leb t 0 ≡ (eqb (n * up d * down e) (0 * up e * down d) && eqb (n * up d * down e) 0)
    go zero q =
        let z : n * up d * down e ≡ 0 = ap (λ (k : ℕ). k * down e) (q ∙ zero-mul (down d)) ∙ zero-mul (down e) in
        let o : 0 * up e * down d ≡ 0 = ap (λ (k : ℕ). k * down d) (zero-mul (up e)) ∙ zero-mul (down d) in
        rw (eq-eqb (n * up d * down e) (0 * up e * down d) (z ∙ sym o), eq-eqb (n * up d * down e) 0 z) (le-leb 0 0 (le_refl 0))
    go (suc t) q =
        let p : 0 < n * up d * down e = subst (λ (k : ℕ). 0 < k * down e) (sym q) (mul-pos (mul-pos (some t) (down_pos d)) (down_pos e)) in
        let o : 0 * up e * down d ≡ 0 = ap (λ (k : ℕ). k * down d) (zero-mul (up e)) ∙ zero-mul (down d) in
        rw (ne_eqb (n * up d * down e) (0 * up e * down d) (λ z. differ (n * up d * down e) p (z ∙ o))) (lt-leb (suc t) 0 (some t))
      where
        some : (t : ℕ) → 0 < suc t
        some t = omega arith

        differ : (a : ℕ) → 0 < a → a ≡ 0 → ⊥
        differ a h e = omega arith
sign_at (fin false n d) (fin false m e) t v T f =
    leb_capped t (whole_part m e) T
    ∙ leb_whole t (m * up e) (down e) (down_pos e)
    ∙ sym (leb_scale (t * down e) (m * up e) (down d) (down_pos d))
    ∙ ap (λ (k : ℕ). leb k (m * up e * down d)) (mul_right_comm t (down e) (down d) ∙ ap (λ (k : ℕ). k * down e) (sym (sym (mul-one (n * up d)) ∙ v.1)))
    ∙ sym (not_above (n * up d * down e) (m * up e * down d))

pub reading_sign : (x : Float) (t : ℕ) → t ≤ 65535 → faulty (reading_of x) ≡ false → leb t (grey_of (reading_of x)) ≡ le (of_int binary32 (pos t)) x
reading_sign x t T f = sign_at (of_int binary32 (pos t)) x t (whole_value binary32 t (omega arith)) T f

-- ---- whole numbers

whole_reading : (x : Float) (g : ℕ) → HasValue x false g 1 → reading_of x ≡ cond (leb 65535 g) Ceiling (Grey g)
unfolding reading_of
whole_reading nan g v = absurd v
whole_reading (inf s) g v = absurd v
whole_reading (fin true m e) g v = absurd (true≢false v.0)
whole_reading (fin false m e) g v =
    ap (λ (w : ℕ). cond (leb 65535 w) Ceiling (Grey w)) (ap (λ (a : ℕ). a / down e) (sym (mul-one (m * up e)) ∙ v.1) ∙ mul-div_cancel g (down_pos e))

pub grey_whole : (g : ℕ) → g < 65535 → reading_of (of_int binary32 (pos g)) ≡ Grey g
grey_whole g h = whole_reading (of_int binary32 (pos g)) g (whole_value binary32 g (omega arith)) ∙ under_ceiling g h

pub ceiling_whole : reading_of (of_int binary32 (pos 65535)) ≡ Ceiling
ceiling_whole = whole_reading (of_int binary32 (pos 65535)) 65535 (whole_value binary32 65535 (omega arith)) ∙ at_ceiling 65535 (le_refl 65535)

-- ---- a list of grey values

abbrev grey : Float → ℕ
grey x = grey_of (reading_of x)

nan_grey : grey_of (reading_of nan) ≡ 0
unfolding reading_of
nan_grey = refl

pub greys_length : (xs : List Float) → length (greys_of xs) ≡ length xs
greys_length xs = length-map xs grey

-- at any index: past the end both are 0
greys_any : (xs : List Float) (i : ℕ) → get_or (greys_of xs) i 0 ≡ grey_of (reading_of (get_or xs i nan))
greys_any xs i = ap (λ (d : ℕ). get_or (greys_of xs) i d) (sym nan_grey) ∙ get_or-map grey xs i nan

pub greys_at : (xs : List Float) (i : ℕ) → i < length xs → get_or (greys_of xs) i 0 ≡ grey_of (reading_of (get_or xs i nan))
greys_at xs i h = greys_any xs i

pub greys_sixteen : (xs : List Float) → SixteenBit (greys_of xs)
greys_sixteen xs k = rw (greys_any xs k) (grey_small (get_or xs k nan))

-- as a loop writes them
pub greys_each : (xs : List Float) → each (λ (i : ℕ). grey_of (reading_of (get_or xs i nan))) (length xs) ≡ greys_of xs
greys_each xs =
    let f : ℕ → ℕ = λ i. grey_of (reading_of (get_or xs i nan)) in
    ext_get_or 0 (each f (length xs)) (greys_of xs) (each_length f (length xs) ∙ sym (greys_length xs))
    (λ i h. each_at f (length xs) i 0 (omega (arith, each_length f (length xs))) ∙ sym (greys_any xs i))

map_take : {A B : Type 0} (f : A → B) (n : ℕ) (xs : List A) → map f (take n xs) ≡ take n (map f xs)
map_take f zero xs = refl
map_take f (suc n) [] = refl
map_take {A} {B} f (suc n) (x ∷ xs) = ap (λ (ys : List B). f x ∷ ys) (map_take f n xs)

map_drop : {A B : Type 0} (f : A → B) (n : ℕ) (xs : List A) → map f (drop n xs) ≡ drop n (map f xs)
map_drop f zero xs = refl
map_drop f (suc n) [] = refl
map_drop f (suc n) (x ∷ xs) = map_drop f n xs

pub greys_part : (xs : List Float) (a n : ℕ) → greys_of (take n (drop a xs)) ≡ take n (drop a (greys_of xs))
greys_part xs a n = map_take grey n (drop a xs) ∙ ap (take n) (map_drop grey a xs)

pub sound_part : (xs : List Float) (a n : ℕ) → Sound xs → Sound (take n (drop a xs))
sound_part xs a n s i h = rw (part_at xs a n i h) (s (a + i) (omega (arith, length-take n (drop a xs), length-drop a xs)))

-- ---- the row of a list

pub fault_none : (xs : List Float) → (bad_row xs ≡ Passes) ↔ Sound xs
fault_none xs = (row_passed xs, row_passes xs)

-- the reading i is at fault, and none before it
pub record LowestFault (xs : List Float) (i : ℕ) : Type 0 where
  pub inside : i < length xs
  pub there : faulty (reading_of (get_or xs i nan)) ≡ true
  pub before : (k : ℕ) → k < i → faulty (reading_of (get_or xs k nan)) ≡ false

pub fault_lowest : (xs : List Float) (r : Refusal) → (bad_row xs ≡ Refuses r) ↔ ((i : ℕ) × LowestFault xs i × (Refuses r ≡ bad_at i (reading_of (get_or xs i nan))))
fault_lowest xs r = (there, λ h. row_refuses xs h.0 r h.1.before h.1.inside (sym h.2))
  where
    there : bad_row xs ≡ Refuses r → (i : ℕ) × LowestFault xs i × (Refuses r ≡ bad_at i (reading_of (get_or xs i nan)))
    there e = let f = row_refused xs r e in (f.0, record { inside = f.1; there = refuses_faulty f.0 (reading_of (get_or xs f.0 nan)) r f.2; before = f.3 }, sym f.2)
