-- A part of a buffer that was lent and put back, place by place; and tables of numbers that agree where numbers stand.
-- Assumes nothing.
use Prim.Native.Nat.{ℕ, ◌+◌, ◌*◌, ◌-◌, ◌≤◌, ◌<◌}
use mathlib.Core.Path.{◌≡◌, ap, sym, ◌∙◌}
use mathlib.Core.List.{List, ◌++◌}
use native.Mathlib.Omega.{arith}
use borrow.Rule.Slice.PartMut.{put_mid, post_of, take_put, drop_put, same_len_mid, mid_len}
use lib.ListN.{length, get_or, take, drop, get_or-append}
use lib.Seq.{get_or-take, get_or-drop, get_or-append-add, length-take-le}
use Rattle.notes.specs.Tables.{Numbered}

-- the list ys, put back in the place of those from a to e
module _ (a e : ℕ) (xs ys : List ℕ) (h : a ≤ e) (g : e ≤ length xs) (l : length ys ≡ e - a) where
  abbrev put : List ℕ
  put = put_mid a (e - a) xs ys

  pub put_length : length put ≡ length xs
  put_length = same_len_mid a (e - a) xs ys (l ∙ sym (mid_len a e xs g))

  pub put_before : (x : ℕ) → x < a → get_or put x 0 ≡ get_or xs x 0
  put_before x b = sym (get_or-take a put x 0 b) ∙ ap (λ (m : List ℕ). get_or m x 0) (take_put a (e - a) xs ys (omega arith)) ∙ get_or-take a xs x 0 b

  pub put_behind : (x : ℕ) → e ≤ x → get_or put x 0 ≡ get_or xs x 0
  put_behind x b =
      let back : e + (x - e) ≡ x = omega arith in
      ap (λ (i : ℕ). get_or put i 0) (sym back)
      ∙ sym (get_or-drop e put (x - e) 0)
      ∙ ap (λ (m : List ℕ). get_or m (x - e) 0) (drop_put a e xs ys h g l)
      ∙ get_or-drop e xs (x - e) 0
      ∙ ap (λ (i : ℕ). get_or xs i 0) back

  pub put_in : (x : ℕ) → x < e - a → get_or put (a + x) 0 ≡ get_or ys x 0
  put_in x b =
      ap (λ (i : ℕ). get_or put (i + x) 0) (sym (length-take-le a xs (omega arith)))
      ∙ get_or-append-add (take a xs) (ys ++ post_of a (e - a) xs) x 0
      ∙ get_or-append ys (post_of a (e - a) xs) 0 x (omega arith)

-- a part of m words from a on, as it is lent
pub part_at : (xs : List ℕ) (a m x : ℕ) → x < m → get_or (take (a + m - a) (drop a xs)) x 0 ≡ get_or xs (a + x) 0
part_at xs a m x h = get_or-take (a + m - a) (drop a xs) x 0 (omega arith) ∙ get_or-drop a xs x 0

pub part_long : (xs : List ℕ) (a m : ℕ) → a + m ≤ length xs → length (take (a + m - a) (drop a xs)) ≡ m
part_long xs a m h = mid_len a (a + m) xs h ∙ back
  where
    back : a + m - a ≡ m
    back = omega arith

-- numbers that agree where numbers stand
pub numbered_as : {g f : ℕ → List ℕ} {m v : ℕ} (l l' : List ℕ) → ((x : ℕ) → x < 2 * m → get_or l' x 0 ≡ get_or l x 0) → Numbered g f m v l → Numbered g f m v l'
numbered_as l l' same n = record {
  first = λ x h some. same (2 * x) (omega arith) ∙ n.first x h some;
  which = λ x h some. same (2 * x + 1) (omega arith) ∙ n.which x h some;
}
