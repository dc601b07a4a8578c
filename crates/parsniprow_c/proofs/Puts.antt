-- Values over the front of a place, one after the other until the values or the place end.
-- Assumes nothing.
use Prim.Native.Nat.{ℕ, suc, ◌+◌, ◌≤◌, ◌<◌}
use mathlib.Core.Path.{◌≡◌, refl, ap, sym, ◌∙◌}
use mathlib.Core.List.{List, [], ◌∷◌, ◌++◌, append_assoc}
use native.Mathlib.Numerals.{add-one}
use native.Mathlib.Omega.{arith}
use lib.ListN.{length, get_or, set, take, drop}
use lib.Seq.{length-take-le, take_all, take-suc, drop-cons, set_at}
use Rattle.laws.specs.Below.{over}
use Rattle.parsniprow_c.specs.Told.{tell_over}

module _ {A : Type 0} (values place : List A) where
  pub put_none : place ≡ over (take 0 values) place
  unfolding over
  put_none = refl

  -- one value more
  pub put_more : (l : List A) (i : ℕ) (x d : A) → l ≡ over (take i values) place → x ≡ get_or values i d → i < length values → i < length place
      → set l i x ≡ over (take (i + 1) values) place
  unfolding over
  put_more l i x d e ex h k =
      let front : length (take i values) ≡ i = length-take-le i values (omega arith) in
      rw (e, ex, add-one i, take-suc values i d h, front, drop-cons place i (get_or values i d) k)
      (set_at (take i values) (get_or place i (get_or values i d)) (drop (suc i) place) (get_or values i d) i front
      ∙ sym (append_assoc (take i values) (get_or values i d ∷ []) (drop (suc i) place))
      ∙ ap (λ (m : ℕ). (take i values ++ get_or values i d ∷ []) ++ drop m place) (behind front))
    where
      behind : length (take i values) ≡ i → suc i ≡ length (take i values ++ get_or values i d ∷ [])
      behind front = sym (ap length (sym (take-suc values i d h)) ∙ length-take-le (suc i) values (omega arith))

  -- the place is full
  pub put_full : (l : List A) (i : ℕ) → l ≡ over (take i values) place → i ≡ length place → l ≡ tell_over values place
  put_full l i e f = e ∙ ap (λ (k : ℕ). over (take k values) place) f

  -- the values are at their end
  pub put_all : (l : List A) (i : ℕ) → l ≡ over (take i values) place → length values ≤ i → i ≤ length place → l ≡ tell_over values place
  put_all l i e h k = e ∙ ap (λ (xs : List A). over xs place) (take_all i values h ∙ sym (take_all (length place) values (omega arith)))
