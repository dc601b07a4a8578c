-- The signs of a plane row by row: one row more, and the words of a plane of a block.
-- Assumes nothing.
use mathlib.Core.Path.{◌≡◌, refl, ap, sym, ◌∙◌}
use mathlib.Core.Logic.{◌⊎◌, inl, inr}
use mathlib.Core.Bool.{Bool, true, false, ◌&&◌}
use mathlib.Core.List.{List, [], ◌∷◌}
use Prim.Native.Nat.{ℕ, zero, suc, ◌+◌, ◌-◌, ◌*◌, ◌/◌, ◌%◌, ◌≤◌, ◌<◌}
use native.Mathlib.Nat.{add-zero, eq-or-lt_of_le, mul_assoc, mul-le-mul, mul-le-mul_left}
use native.Mathlib.Omega.{arith}
use borrow.Author.Tests.{ltb-true}
use lib.Dec.{ltb}
use lib.ListN.{length, get_or, set, take, drop, length-set, length-drop}
use lib.Seq.{sets, length-take-le, get_or-take, get_or-drop, get_or-set_same, get_or-set_other}
use Rattle.laws.specs.Bits.{bit}
use Rattle.laws.specs.Pack.{pack}
use Rattle.laws.proofs.Pack.{pack_cong}
use Rattle.laws.proofs.Index.{pair_lt}
use Rattle.block.specs.declared.Cut.{Cut}
use Rattle.block.specs.declared.Size.{Size}
use Rattle.block.specs.Grey.{positive}
use Rattle.mesh_rule.specs.Layers.{plane_size}
use Rattle.signs.specs.Signs.{row_sign, Plane}
use Rattle.signs.specs.Steps.{row_from, five_words}
use Rattle.signs.proofs.Windows.{part_of}
use Rattle.plane_layers.proofs.Copies.{half_same}
use Rattle.plane_layers.specs.Memory.{half_of, sample_in, Windowed, SignedTo}

-- ---- a run of stores, place by place

pub sets_before : {A : Type 0} (l : List A) (i : ℕ) (xs : List A) (x : ℕ) (d : A) → x < i → get_or (sets l i xs) x d ≡ get_or l x d
sets_before l i [] x d h = refl
sets_before l i (v ∷ xs) x d h = sets_before (set l i v) (suc i) xs x d (omega arith) ∙ get_or-set_other l i x v d (λ e. omega arith)

pub sets_behind : {A : Type 0} (l : List A) (i : ℕ) (xs : List A) (x : ℕ) (d : A) → i + length xs ≤ x → get_or (sets l i xs) x d ≡ get_or l x d
sets_behind l i [] x d h = refl
sets_behind l i (v ∷ xs) x d h = sets_behind (set l i v) (suc i) xs x d (omega arith) ∙ get_or-set_other l i x v d (λ e. omega arith)

pub sets_in : {A : Type 0} (l : List A) (i : ℕ) (xs : List A) (x : ℕ) (d : A) → x < length xs → i + length xs ≤ length l → get_or (sets l i xs) (i + x) d ≡ get_or xs x d
sets_in l i [] x d h r = absurd (omega arith)
sets_in {A} l i (v ∷ xs) zero d h r = ap (λ (y : ℕ). get_or (sets (set l i v) (suc i) xs) y d) (add-zero i) ∙ sets_before (set l i v) (suc i) xs i d (omega arith) ∙ get_or-set_same l i v d (omega arith)
sets_in {A} l i (v ∷ xs) (suc x) d h r = ap (λ (y : ℕ). get_or (sets (set l i v) (suc i) xs) y d) next ∙ sets_in (set l i v) (suc i) xs x d (omega arith) (omega (arith, length-set l i v))
  where
    next : i + suc x ≡ suc i + x
    next = omega arith

-- ---- one row more

five_at : (row : List ℕ) (cut : Cut) (w : ℕ) → w < 5 → get_or (five_words row cut) w 0 ≡ row_from row cut.t 0 (length row) w
five_at row cut zero h = refl
five_at row cut (suc zero) h = refl
five_at row cut (suc (suc zero)) h = refl
five_at row cut (suc (suc (suc zero))) h = refl
five_at row cut (suc (suc (suc (suc zero)))) h = refl
five_at row cut (suc (suc (suc (suc (suc w))))) h = absurd (omega arith)

-- a sign counts only inside the row
same_sign : (cut : Cut) (nx x a b : ℕ) → (x < nx → a ≡ b) → bit (ltb x nx && positive cut a) ≡ bit (ltb x nx && positive cut b)
same_sign cut nx x a b e = go (ltb x nx) refl
  where
    go : (t : Bool) → ltb x nx ≡ t → bit (t && positive cut a) ≡ bit (t && positive cut b)
    go true h = ap (λ (v : ℕ). bit (positive cut v)) (e (ltb-true x nx h))
    go false h = refl

pub signed_more : (nx j : ℕ) (f : ℕ → ℕ) (cut : Cut) (row ws ws' : List ℕ) → length row ≡ nx → ((x : ℕ) → x < nx → get_or row x 0 ≡ f (nx * j + x)) → 5 * j + 5 ≤ length ws
    → ws' ≡ sets ws (5 * j) (five_words row cut) → SignedTo nx f cut j ws → SignedTo nx f cut (j + 1) ws'
unfolding row_from
signed_more nx j f cut row ws ws' long is room e before i w hi hw = go (eq-or-lt_of_le (le_of hi))
  where
    le_of : i < j + 1 → i ≤ j
    le_of q = omega arith

    here : get_or (sets ws (5 * j) (five_words row cut)) (5 * j + w) 0 ≡ row_from row cut.t 0 nx w
    here = sets_in ws (5 * j) (five_words row cut) w 0 hw room ∙ five_at row cut w hw ∙ ap (λ (m : ℕ). row_from row cut.t 0 m w) long

    go : (i ≡ j) ⊎ (i < j) → get_or ws' (5 * i + w) 0 ≡ pack (λ (x : ℕ). bit (ltb (64 * w + x) nx && positive cut (f (nx * i + (64 * w + x))))) 64
    go (inl q) =
        rw (e, q)
        (here ∙ pack_cong _ _ 64 (λ x l. same_sign cut nx (64 * w + x) (get_or row (64 * w + x + 0) 0) (f (nx * j + (64 * w + x))) (λ k. ap (λ (y : ℕ). get_or row y 0) (add-zero (64 * w + x)) ∙ is (64 * w + x) k)))
    go (inr l) = ap (λ (b : List ℕ). get_or b (5 * i + w) 0) e ∙ sets_before ws (5 * j) (five_words row cut) (5 * i + w) 0 (omega arith) ∙ before i w l hw

-- ---- a plane of a block

pub plane_signed : (n : Size) (s : List ℕ) (cut : Cut) (k : ℕ) (f : ℕ → ℕ) (ws : List ℕ) → length ws ≡ 1280 → ((i : ℕ) → i < plane_size n → get_or s (plane_size n * k + i) 0 ≡ f i)
    → SignedTo n.nx f cut n.ny ws → Plane n s cut k ws
unfolding row_sign
plane_signed n s cut k f ws long is signed = record {
  room = long;
  word = λ j w hj hw. signed j w hj hw ∙ pack_cong _ _ 64 (λ x l. same_sign cut n.nx (64 * w + x) _ _ (λ hx. sym (at n.nx n.ny j (64 * w + x) hj hx is)));
}
  where
    at : (w h j x : ℕ) → j < h → x < w → ((i : ℕ) → i < w * h → get_or s (w * h * k + i) 0 ≡ f i) → get_or s (x + w * (j + h * k)) 0 ≡ f (w * j + x)
    at w h j x hj hx e = ap (λ (y : ℕ). get_or s y 0) (place w h j x) ∙ e (w * j + x) (inside w h j x hj hx)
      where
        place : (w h j x : ℕ) → x + w * (j + h * k) ≡ w * h * k + (w * j + x)
        place w h j x = omega (arith, mul_assoc w h k)

        inside : (w h j x : ℕ) → j < h → x < w → w * j + x < w * h
        inside w h j x a b = omega (arith, pair_lt w h x j b a)

-- ---- the numbers of a row fit

pub row_in : (nx ny j : ℕ) → nx ≤ 256 → ny ≤ 256 → j < ny → (nx * j + nx ≤ nx * ny) × (nx * ny ≤ 65536)
row_in nx ny j hx hy hj = (omega (arith, mul-le-mul_left nx (next hj)), mul-le-mul hx hy)
  where
    next : j < ny → j + 1 ≤ ny
    next h = omega arith

-- a row as it is lent
pub lent_row : (s : List ℕ) (f : ℕ → ℕ) (nx p : ℕ) → p + nx ≤ length s → ((x : ℕ) → x < nx → get_or s (p + x) 0 ≡ f (p + x)) → let row = take (p + nx - p) (drop p s) in (length row ≡ nx) × ((x : ℕ) → x < nx → get_or row x 0 ≡ f (p + x))
lent_row s f nx p h e = let q = part_of s p (p + nx) nx (omega arith) h in (q.long, λ x l. q.at x l ∙ e x l)

-- m samples from p on of a plane that is remembered: the words that hold them, and where they stand in a window
abbrev pub words_for : List ℕ → ℕ → ℕ → List ℕ
words_for work p m = take ((p + m + 1) / 2 - p / 2) (drop (p / 2) work)

abbrev pub front_for : List ℕ → ℕ → ℕ → List ℕ
front_for window p m = take (p % 2 + m - p % 2) (drop (p % 2) window)

module _ (work : List ℕ) (p m : ℕ) (inside : p + m ≤ length work) (few : m ≤ 512) where
  pub words_long : (p + m + 1) / 2 ≤ length work → length (words_for work p m) ≡ (p + m + 1) / 2 - p / 2
  words_long h = length-take-le ((p + m + 1) / 2 - p / 2) (drop (p / 2) work) (omega (arith, length-drop (p / 2) work))

  pub lent_window : (w : List ℕ) → (p + m + 1) / 2 ≤ length work → length w ≡ 514 → Windowed (words_for work p m) (2 * length (words_for work p m)) w → (length (front_for w p m) ≡ m) × ((x : ℕ) → x < m → get_or (front_for w p m) x 0 ≡ sample_in work (p + x))
  lent_window w h long is =
      let q = part_of w (p % 2) (p % 2 + m) m (omega arith) (omega arith) in (
        q.long,
        λ x l.
            q.at x l
            ∙ is (p % 2 + x) (omega (arith, words_long h))
            ∙ ap (λ (v : ℕ). half_of v ((p % 2 + x) % 2)) (get_or-take ((p + m + 1) / 2 - p / 2) (drop (p / 2) work) ((p % 2 + x) / 2) 0 (omega arith) ∙ get_or-drop (p / 2) work ((p % 2 + x) / 2) 0)
            ∙ half_same work (p / 2 + (p % 2 + x) / 2) ((p + x) / 2) ((p % 2 + x) % 2) ((p + x) % 2) (omega arith) (omega arith),
      )

-- the signs of a plane are those of another with the same samples
pub signed_same : (nx ny : ℕ) (f g : ℕ → ℕ) (cut : Cut) (ws : List ℕ) → ((i : ℕ) → i < nx * ny → f i ≡ g i) → SignedTo nx f cut ny ws → SignedTo nx g cut ny ws
signed_same nx ny f g cut ws e signed i w hi hw =
    signed i w hi hw ∙ pack_cong _ _ 64 (λ x l. same_sign cut nx (64 * w + x) (f (nx * i + (64 * w + x))) (g (nx * i + (64 * w + x))) (λ hx. e (nx * i + (64 * w + x)) (omega (arith, pair_lt nx ny (64 * w + x) i hx hi))))
