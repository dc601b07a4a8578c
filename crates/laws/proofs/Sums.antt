-- Sums over the numbers below a bound, over the places of a box, and over the elements of a list: by terms, by parts, moved by one along an axis.
-- Assumes nothing.
use Prim.Native.Nat.{ℕ, zero, suc, ◌+◌, ◌-◌, ◌*◌, ◌/◌, ◌%◌, ◌≤◌, ◌<◌}
use mathlib.Core.Path.{◌≡◌, refl, ap, ap₂, ◌∙◌}
use mathlib.Core.Bool.{Bool, true, false}
use mathlib.Core.List.{List, [], ◌∷◌, ◌++◌}
use lib.ListN.{length, length-append}
use native.Mathlib.Nat.{le_trans, add-zero, add-suc, mul-zero, mul-suc, add_comm}
use native.Mathlib.Numerals.{add-one}
use native.Mathlib.Omega.{arith}
use Rattle.laws.specs.Below.{below}
use Rattle.laws.specs.Bits.{bit}
use Rattle.laws.specs.Counting.{count, total}
use Rattle.laws.proofs.Index.{pair_mod, pair_div}

-- ---- over the numbers below a bound

pub total_none : (f : ℕ → ℕ) → total f 0 ≡ 0
unfolding total
total_none f = refl

pub total_one : (f : ℕ → ℕ) (n : ℕ) → total f (n + 1) ≡ f n + total f n
unfolding total
total_one f n = rw (add-one n)

pub total_same : (f g : ℕ → ℕ) (n : ℕ) → ((m : ℕ) → m < n → f m ≡ g m) → total f n ≡ total g n
unfolding total
total_same f g zero e = refl
total_same f g (suc n) e = ap₂ (λ (x y : ℕ). x + y) (e n (omega arith)) (total_same f g n (λ m l. e m (omega arith)))

pub total_le : (f g : ℕ → ℕ) (n : ℕ) → ((m : ℕ) → m < n → f m ≤ g m) → total f n ≤ total g n
unfolding total
total_le f g zero h = omega arith
total_le f g (suc n) h = omega (arith, total_le f g n (λ m l. h m (omega arith)), h n (omega arith))

pub total_times : (a : ℕ) (f : ℕ → ℕ) (n : ℕ) → a * total f n ≡ total (λ (x : ℕ). a * f x) n
unfolding total
total_times a f zero = mul-zero a
total_times a f (suc n) = omega (arith, total_times a f n)

pub total_plus : (f g : ℕ → ℕ) (n : ℕ) → total (λ (x : ℕ). f x + g x) n ≡ total f n + total g n
unfolding total
total_plus f g zero = refl
total_plus f g (suc n) = omega (arith, total_plus f g n)

pub total_four : (f g k l : ℕ → ℕ) (n : ℕ) → total (λ (x : ℕ). f x + g x + k x + l x) n ≡ total f n + total g n + total k n + total l n
unfolding total
total_four f g k l zero = refl
total_four f g k l (suc n) = omega (arith, total_four f g k l n)

pub total_nothing : (n : ℕ) → total (λ (x : ℕ). 0) n ≡ 0
unfolding total
total_nothing zero = refl
total_nothing (suc n) = omega (arith, total_nothing n)

-- how many numbers pass a test is the sum of its bits
pub total_count : (f : ℕ → Bool) (n : ℕ) → total (λ (x : ℕ). bit (f x)) n ≡ count f n
unfolding total count
total_count f zero = refl
total_count f (suc n) = omega (arith, total_count f n)

-- moved by one: what goes in at the end is what goes out at the start
total_moved : (f : ℕ → ℕ) (n : ℕ) → f 0 + total (λ (x : ℕ). f (x + 1)) n ≡ total f n + f n
unfolding total
total_moved f zero = omega arith
total_moved f (suc n) = omega (arith, total_moved f n, ap f (add-one n))

total_shift : (f : ℕ → ℕ) (n : ℕ) → f 0 ≡ 0 → f n ≡ 0 → total f n ≡ total (λ (x : ℕ). f (x + 1)) n
total_shift f n a b = omega (arith, total_moved f n)

-- all but one of the terms, moved by one or not
abbrev pub moved : Bool → ℕ → ℕ
moved true x = x + 1
moved false x = x

one_less : (n : ℕ) → suc n - 1 ≡ n
one_less n = omega arith

total_but_one : (a : Bool) (f : ℕ → ℕ) (n : ℕ) → total (λ (x : ℕ). f (moved a x)) (n - 1) ≤ total f n
unfolding total
total_but_one true f zero = omega arith
total_but_one true f (suc n) = rw (one_less n) (omega (arith, total_moved f n))
total_but_one false f zero = omega arith
total_but_one false f (suc n) = rw (one_less n) (omega arith)

-- in two parts, and in rows of w
pub total_add : (f : ℕ → ℕ) (n m : ℕ) → total f (n + m) ≡ total f n + total (λ (x : ℕ). f (n + x)) m
unfolding total
total_add f n zero = rw (add-zero, add-zero)
total_add f n (suc m) = rw (add-suc, total_add f n m) (omega arith)

-- the terms from n on are 0
pub total_stop : (f : ℕ → ℕ) (n m : ℕ) → n ≤ m → ((x : ℕ) → n ≤ x → f x ≡ 0) → total f m ≡ total f n
total_stop f n m l h =
    ap (total f) all
    ∙ total_add f n (m - n)
    ∙ omega (arith, total_same (λ (x : ℕ). f (n + x)) (λ (x : ℕ). 0) (m - n) (λ x _. h (n + x) (omega arith)), total_nothing (m - n))
  where
    all : m ≡ n + (m - n)
    all = omega arith

pub total_mul : (f : ℕ → ℕ) (w m : ℕ) → total f (w * m) ≡ total (λ (y : ℕ). total (λ (x : ℕ). f (w * y + x)) w) m
unfolding total
total_mul f w zero = rw mul-zero
total_mul f w (suc m) = rw mul-suc (omega (arith, total_add f (w * m) w, total_mul f w m))

-- ---- over a box

-- over all (x,y,z) of a box that is w wide, h high and d deep
abbrev pub boxed : (ℕ → ℕ → ℕ → ℕ) → ℕ → ℕ → ℕ → ℕ
boxed f w h d = total (λ (z : ℕ). total (λ (y : ℕ). total (λ (x : ℕ). f x y z) w) h) d

pub boxed_same : (f g : ℕ → ℕ → ℕ → ℕ) (w h d : ℕ) → ((x y z : ℕ) → x < w → y < h → z < d → f x y z ≡ g x y z) → boxed f w h d ≡ boxed g w h d
boxed_same f g w h d e = total_same _ _ d (λ z lz. total_same _ _ h (λ y ly. total_same _ _ w (λ x lx. e x y z lx ly lz)))

pub boxed_plus : (f g : ℕ → ℕ → ℕ → ℕ) (w h d : ℕ) → boxed (λ (x y z : ℕ). f x y z + g x y z) w h d ≡ boxed f w h d + boxed g w h d
boxed_plus f g w h d =
    total_same _ _ d (λ z lz. total_same _ _ h (λ y ly. total_plus (λ (x : ℕ). f x y z) (λ (x : ℕ). g x y z) w)
    ∙ total_plus (λ (y : ℕ). total (λ (x : ℕ). f x y z) w) (λ (y : ℕ). total (λ (x : ℕ). g x y z) w) h)
    ∙ total_plus (λ (z : ℕ). total (λ (y : ℕ). total (λ (x : ℕ). f x y z) w) h) (λ (z : ℕ). total (λ (y : ℕ). total (λ (x : ℕ). g x y z) w) h) d

pub boxed_four : (f g k l : ℕ → ℕ → ℕ → ℕ) (w h d : ℕ)
    → boxed (λ (x y z : ℕ). f x y z + g x y z + k x y z + l x y z) w h d ≡ boxed f w h d + boxed g w h d + boxed k w h d + boxed l w h d
boxed_four f g k l w h d =
    boxed_plus (λ (x y z : ℕ). f x y z + g x y z + k x y z) l w h d
    ∙ ap (λ (x : ℕ). x + boxed l w h d)
    (boxed_plus (λ (x y z : ℕ). f x y z + g x y z) k w h d ∙ ap (λ (x : ℕ). x + boxed k w h d) (boxed_plus f g w h d))

module _ (f : ℕ → ℕ → ℕ → ℕ) (w h d : ℕ) where
  -- moved by one along an axis: the terms at both ends are 0
  pub boxed_x : ((y z : ℕ) → f 0 y z ≡ 0) → ((y z : ℕ) → f w y z ≡ 0) → boxed f w h d ≡ boxed (λ (x y z : ℕ). f (x + 1) y z) w h d
  boxed_x a b = total_same _ _ d (λ z lz. total_same _ _ h (λ y ly. total_shift (λ (x : ℕ). f x y z) w (a y z) (b y z)))

  pub boxed_y : ((x z : ℕ) → f x 0 z ≡ 0) → ((x z : ℕ) → f x h z ≡ 0) → boxed f w h d ≡ boxed (λ (x y z : ℕ). f x (y + 1) z) w h d
  boxed_y a b =
      total_same _ _ d (λ z lz. total_shift (λ (y : ℕ). total (λ (x : ℕ). f x y z) w) h
      (total_same _ _ w (λ x lx. a x z) ∙ total_nothing w) (total_same _ _ w (λ x lx. b x z) ∙ total_nothing w))

  pub boxed_z : ((x y : ℕ) → f x y 0 ≡ 0) → ((x y : ℕ) → f x y d ≡ 0) → boxed f w h d ≡ boxed (λ (x y z : ℕ). f x y (z + 1)) w h d
  boxed_z a b =
      total_shift (λ (z : ℕ). total (λ (y : ℕ). total (λ (x : ℕ). f x y z) w) h) d
      (total_same _ _ h (λ y ly. total_same _ _ w (λ x lx. a x y) ∙ total_nothing w) ∙ total_nothing h)
      (total_same _ _ h (λ y ly. total_same _ _ w (λ x lx. b x y) ∙ total_nothing w) ∙ total_nothing h)

  -- a smaller box within it: one less along each axis, and moved by one along some
  pub boxed_part : (a b c : Bool) → boxed (λ (x y z : ℕ). f (moved a x) (moved b y) (moved c z)) (w - 1) (h - 1) (d - 1) ≤ boxed f w h d
  boxed_part a b c =
      le_trans (total_le _ _ (d - 1) (λ z lz. total_le _ _ (h - 1) (λ y ly. total_but_one a (λ (x : ℕ). f x (moved b y) (moved c z)) w)))
      (le_trans (total_le _ _ (d - 1) (λ z lz. total_but_one b (λ (y : ℕ). total (λ (x : ℕ). f x y (moved c z)) w) h))
      (total_but_one c (λ (z : ℕ). total (λ (y : ℕ). total (λ (x : ℕ). f x y z) w) h) d))

  -- by the numbers of its places
  at_place : (x y z : ℕ) → x < w → y < h
      → f ((w * (h * z + y) + x) % w) ((w * (h * z + y) + x) / w % h) ((w * (h * z + y) + x) / w / h) ≡ f x y z
  at_place x y z lx ly =
      rw (add_comm (w * (h * z + y)) x, pair_mod w x (h * z + y) lx, pair_div w x (h * z + y) lx, add_comm (h * z) y, pair_mod h y z ly, pair_div h y z ly)

  pub total_boxed : total (λ (p : ℕ). f (p % w) (p / w % h) (p / w / h)) (w * (h * d)) ≡ boxed f w h d
  total_boxed =
      total_mul (λ (p : ℕ). f (p % w) (p / w % h) (p / w / h)) w (h * d)
      ∙ total_mul (λ (y : ℕ). total (λ (x : ℕ). f ((w * y + x) % w) ((w * y + x) / w % h) ((w * y + x) / w / h)) w) h d
      ∙ total_same _ _ d (λ z lz. total_same _ _ h (λ y ly. total_same _ _ w (λ x lx. at_place x y z lx ly)))

-- ---- over a list

pub length-total : {A : Type 0} (f : ℕ → List A) (n : ℕ) → length (below f n) ≡ total (λ (m : ℕ). length (f m)) n
unfolding below total
length-total f zero = refl
length-total f (suc n) = omega (arith, length-append (below f n) (f n), length-total f n)

module _ {A : Type 0} (g : A → ℕ) where
  abbrev pub summed : List A → ℕ
  summed [] = 0
  summed (a ∷ l) = g a + summed l

  pub summed_append : (k l : List A) → summed (k ++ l) ≡ summed k + summed l
  summed_append [] l = omega arith
  summed_append (a ∷ k) l = omega (arith, summed_append k l)

  pub summed_below : (f : ℕ → List A) (n : ℕ) → summed (below f n) ≡ total (λ (m : ℕ). summed (f m)) n
  unfolding below total
  summed_below f zero = refl
  summed_below f (suc n) = omega (arith, summed_append (below f n) (f n), summed_below f n)
