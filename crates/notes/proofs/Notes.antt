-- Tables of vertex numbers: one cube noted, the cubes of a word one by one, and a row word by word.
-- Assumes nothing.
use Prim.Native.Nat.{ℕ, suc, ◌+◌, ◌*◌, ◌-◌, ◌/◌, ◌%◌, ◌≤◌, ◌<◌}
use mathlib.Core.Path.{◌≡◌, refl, sym, ap, ap₂, ◌∙◌, subst}
use mathlib.Core.Logic.{◌⊎◌, inl, inr}
use mathlib.Core.List.{List, [], ◌∷◌}
use native.Mathlib.Nat.{zero-add}
use native.Mathlib.Numerals.{add-one}
use native.Mathlib.Omega.{arith}
use lib.ListN.{length, get_or, set, length-set, length-append}
use lib.Seq.{get_or-set_same, get_or-set_other, ext_get_or}
use Rattle.laws.specs.Below.{below}
use Rattle.laws.proofs.Below.{below_add, below_same}
use Rattle.laws.proofs.Stores.{sets_length}
use Rattle.laws.proofs.Tests.{lt_or_ge}
use Rattle.notes.specs.Tables.{which_of, noted_if, CubeNoted, Noted, Numbered}

-- a cube that has a vertex, and one that has none
pub noted_some : (ws : List ℕ) (new old : ℕ) → 0 < length ws → noted_if ws new old ≡ new
noted_some [] new old h = absurd (omega arith)
noted_some (w ∷ ws) new old h = refl

noted_nothing : (ws : List ℕ) (new old : ℕ) → ws ≡ [] → noted_if ws new old ≡ old
noted_nothing ws new old e = rw e

-- ---- one cube

-- what its two words are, and that nothing else is touched
pub record OneNoted (ws : List ℕ) (x v : ℕ) (old new : List ℕ) : Type 0 where
  pub long : length new ≡ length old
  pub before : (q : ℕ) → q < 2 * x → get_or new q 0 ≡ get_or old q 0
  pub behind : (q : ℕ) → 2 * x + 2 ≤ q → get_or new q 0 ≡ get_or old q 0
  pub first : get_or new (2 * x) 0 ≡ v
  pub which : get_or new (2 * x + 1) 0 ≡ which_of ws

pub one_noted : (ws : List ℕ) (x v : ℕ) (old new : List ℕ) → CubeNoted ws x v old new → 2 * x + 2 ≤ length old → OneNoted ws x v old new
one_noted ws x v old new e room = record {
  long = sets_length old (2 * x) new (v ∷ which_of ws ∷ []) e;
  before = λ q l. other q (λ t. absurd (omega arith)) (λ t. absurd (omega arith));
  behind = λ q l. other q (λ t. absurd (omega arith)) (λ t. absurd (omega arith));
  first =
      ap (λ (a : List ℕ). get_or a (2 * x) 0) e
      ∙ get_or-set_other (set old (2 * x) v) (suc (2 * x)) (2 * x) (which_of ws) 0 (λ t. absurd (omega arith))
      ∙ get_or-set_same old (2 * x) v 0 (omega arith);
  which =
      ap (λ (a : List ℕ). get_or a (2 * x + 1) 0) e
      ∙ ap (λ (q : ℕ). get_or (set (set old (2 * x) v) (suc (2 * x)) (which_of ws)) q 0) (add-one (2 * x))
      ∙ get_or-set_same (set old (2 * x) v) (suc (2 * x)) (which_of ws) 0 (omega (arith, length-set old (2 * x) v));
}
  where
    other : (q : ℕ) → (q ≡ suc (2 * x) → ⊥) → (q ≡ 2 * x → ⊥) → get_or new q 0 ≡ get_or old q 0
    other q a b =
        ap (λ (l : List ℕ). get_or l q 0) e
        ∙ get_or-set_other (set old (2 * x) v) (suc (2 * x)) q (which_of ws) 0 a
        ∙ get_or-set_other old (2 * x) q v 0 b

-- ---- cubes one by one

pub noted_none : (g f : ℕ → List ℕ) (from v : ℕ) (numbers : List ℕ) → Noted g f from 0 v numbers numbers
noted_none g f from v numbers = record { long = refl; before = λ q l. refl; behind = λ q l. refl; first = λ y l. absurd (omega arith); which = λ y l. absurd (omega arith) }

module _ {g f : ℕ → List ℕ} {from i v : ℕ} {old new : List ℕ} (p : Noted g f from i v old new) where
  -- cubes without a vertex are passed over
  pub noted_skip : (m : ℕ) → i ≤ m → ((z : ℕ) → i ≤ z → z < m → f z ≡ []) → Noted g f from m v old new
  noted_skip m more none = record {
    long = p.long;
    before = p.before;
    behind = λ q l. p.behind q (omega arith);
    first = λ y l. first y l (lt_or_ge y i);
    which = λ y l. which y l (lt_or_ge y i);
  }
    where
      first : (y : ℕ) → y < m → (y < i) ⊎ (i ≤ y) → get_or new (2 * (from + y)) 0 ≡ noted_if (f y) (v + length (below g y)) (get_or old (2 * (from + y)) 0)
      first y l (inl a) = p.first y a
      first y l (inr b) = p.behind (2 * (from + y)) (omega arith) ∙ sym (noted_nothing (f y) _ _ (none y b l))

      which : (y : ℕ) → y < m → (y < i) ⊎ (i ≤ y) → get_or new (2 * (from + y) + 1) 0 ≡ noted_if (f y) (which_of (f y)) (get_or old (2 * (from + y) + 1) 0)
      which y l (inl a) = p.which y a
      which y l (inr b) = p.behind (2 * (from + y) + 1) (omega arith) ∙ sym (noted_nothing (f y) _ _ (none y b l))

  -- one cube more, which has a vertex
  pub noted_one : {new' : List ℕ} (r : ℕ) → r ≡ v + length (below g i) → 0 < length (f i) → OneNoted (f i) (from + i) r new new' → Noted g f from (i + 1) v old new'
  noted_one {new'} r e some c = record {
    long = c.long ∙ p.long;
    before = λ q l. c.before q (omega arith) ∙ p.before q l;
    behind = λ q l. c.behind q (omega arith) ∙ p.behind q (omega arith);
    first = λ y l. first y (lt_or_ge y i) l;
    which = λ y l. which y (lt_or_ge y i) l;
  }
    where
      last : {y : ℕ} → i ≤ y → y < i + 1 → i ≡ y
      last a b = omega arith

      first : (y : ℕ) → (y < i) ⊎ (i ≤ y) → y < i + 1 → get_or new' (2 * (from + y)) 0 ≡ noted_if (f y) (v + length (below g y)) (get_or old (2 * (from + y)) 0)
      first y (inl a) l = c.before (2 * (from + y)) (omega arith) ∙ p.first y a
      first y (inr b) l =
          subst (λ (z : ℕ). get_or new' (2 * (from + z)) 0 ≡ noted_if (f z) (v + length (below g z)) (get_or old (2 * (from + z)) 0)) (last b l) (c.first ∙ e ∙ sym (noted_some (f i) _ _ some))

      which : (y : ℕ) → (y < i) ⊎ (i ≤ y) → y < i + 1 → get_or new' (2 * (from + y) + 1) 0 ≡ noted_if (f y) (which_of (f y)) (get_or old (2 * (from + y) + 1) 0)
      which y (inl a) l = c.before (2 * (from + y) + 1) (omega arith) ∙ p.which y a
      which y (inr b) l =
          subst (λ (z : ℕ). get_or new' (2 * (from + z) + 1) 0 ≡ noted_if (f z) (which_of (f z)) (get_or old (2 * (from + z) + 1) 0)) (last b l) (c.which ∙ sym (noted_some (f i) _ _ some))

  -- the same cubes, told in another way
  pub noted_as : (g' f' : ℕ → List ℕ) → ((y : ℕ) → y < i → g y ≡ g' y) → ((y : ℕ) → y < i → f y ≡ f' y) → Noted g' f' from i v old new
  noted_as g' f' eg ef = record {
    long = p.long;
    before = p.before;
    behind = p.behind;
    first = λ y l.
        p.first y l
        ∙ ap₂ (λ (ws ms : List ℕ). noted_if ws (v + length ms) (get_or old (2 * (from + y)) 0)) (ef y l) (below_same g g' y (λ m k. eg m (omega arith)));
    which = λ y l. p.which y l ∙ ap (λ (ws : List ℕ). noted_if ws (which_of ws) (get_or old (2 * (from + y) + 1) 0)) (ef y l);
  }

-- ---- words one behind the other

pub noted_join : {g f : ℕ → List ℕ} {n m v r : ℕ} {old mid new : List ℕ} → Noted g f 0 n v old mid → r ≡ v + length (below g n)
    → Noted (λ (y : ℕ). g (n + y)) (λ (y : ℕ). f (n + y)) n m r mid new → Noted g f 0 (n + m) v old new
noted_join {g} {f} {n} {m} {v} {r} {old} {mid} {new} p e q = record {
  long = q.long ∙ p.long;
  before = λ k l. absurd (omega arith);
  behind = λ k l. q.behind k (omega arith) ∙ p.behind k (omega arith);
  first = λ y l. first y l (lt_or_ge y n);
  which = λ y l. which y l (lt_or_ge y n);
}
  where
    back : (y : ℕ) → n ≤ y → n + (y - n) ≡ y
    back y h = omega arith

    count : (y : ℕ) → n ≤ y → r + length (below (λ (x : ℕ). g (n + x)) (y - n)) ≡ v + length (below g y)
    count y b =
        omega (arith, ap length (below_add g n (y - n)), length-append (below g n) (below (λ (x : ℕ). g (n + x)) (y - n)), ap (λ (z : ℕ). length (below g z)) (back y b))

    first : (y : ℕ) → y < n + m → (y < n) ⊎ (n ≤ y) → get_or new (2 * (0 + y)) 0 ≡ noted_if (f y) (v + length (below g y)) (get_or old (2 * (0 + y)) 0)
    first y l (inl a) = q.before (2 * (0 + y)) (omega arith) ∙ p.first y a
    first y l (inr b) =
        ap (λ (z : ℕ). get_or new (2 * z) 0) (zero-add y ∙ sym (back y b))
        ∙ q.first (y - n) (omega arith)
        ∙ ap₂ (λ (z c : ℕ). noted_if (f z) c (get_or mid (2 * z) 0)) (back y b) (count y b)
        ∙ ap (λ (c : ℕ). noted_if (f y) (v + length (below g y)) c) (p.behind (2 * y) (omega arith) ∙ ap (λ (z : ℕ). get_or old (2 * z) 0) (sym (zero-add y)))

    which : (y : ℕ) → y < n + m → (y < n) ⊎ (n ≤ y) → get_or new (2 * (0 + y) + 1) 0 ≡ noted_if (f y) (which_of (f y)) (get_or old (2 * (0 + y) + 1) 0)
    which y l (inl a) = q.before (2 * (0 + y) + 1) (omega arith) ∙ p.which y a
    which y l (inr b) =
        ap (λ (z : ℕ). get_or new (2 * z + 1) 0) (zero-add y ∙ sym (back y b))
        ∙ q.which (y - n) (omega arith)
        ∙ ap (λ (z : ℕ). noted_if (f z) (which_of (f z)) (get_or mid (2 * z + 1) 0)) (back y b)
        ∙ ap (λ (c : ℕ). noted_if (f y) (which_of (f y)) c) (p.behind (2 * y + 1) (omega arith) ∙ ap (λ (z : ℕ). get_or old (2 * z + 1) 0) (sym (zero-add y)))

-- fewer cubes, where those behind have no vertex
pub noted_fewer : {g f : ℕ → List ℕ} {n m v : ℕ} {old new : List ℕ} → m ≤ n → ((z : ℕ) → m ≤ z → z < n → f z ≡ []) → Noted g f 0 n v old new → Noted g f 0 m v old new
noted_fewer {g} {f} {n} {m} {v} {old} {new} h none p = record {
  long = p.long;
  before = p.before;
  behind = λ q l. behind q l (lt_or_ge q (2 * (0 + n)));
  first = λ y l. p.first y (omega arith);
  which = λ y l. p.which y (omega arith);
}
  where
    even : (q : ℕ) → (q ≡ 2 * (0 + q / 2)) ⊎ (q ≡ 2 * (0 + q / 2) + 1)
    even q = go (lt_or_ge (q % 2) 1)
      where
        go : (q % 2 < 1) ⊎ (1 ≤ q % 2) → (q ≡ 2 * (0 + q / 2)) ⊎ (q ≡ 2 * (0 + q / 2) + 1)
        go (inl a) = inl (omega arith)
        go (inr b) = inr (omega arith)

    cube : (q : ℕ) → 2 * (0 + m) ≤ q → q < 2 * (0 + n) → (q ≡ 2 * (0 + q / 2)) ⊎ (q ≡ 2 * (0 + q / 2) + 1) → get_or new q 0 ≡ get_or old q 0
    cube q l k (inl e) =
        ap (λ (z : ℕ). get_or new z 0) e ∙ p.first (q / 2) (omega arith) ∙ noted_nothing (f (q / 2)) _ _ (none (q / 2) (omega arith) (omega arith)) ∙ ap (λ (z : ℕ). get_or old z 0) (sym e)
    cube q l k (inr e) =
        ap (λ (z : ℕ). get_or new z 0) e ∙ p.which (q / 2) (omega arith) ∙ noted_nothing (f (q / 2)) _ _ (none (q / 2) (omega arith) (omega arith)) ∙ ap (λ (z : ℕ). get_or old z 0) (sym e)

    behind : (q : ℕ) → 2 * (0 + m) ≤ q → (q < 2 * (0 + n)) ⊎ (2 * (0 + n) ≤ q) → get_or new q 0 ≡ get_or old q 0
    behind q l (inl a) = cube q l a (even q)
    behind q l (inr b) = p.behind q b

pub numbered : {g f : ℕ → List ℕ} {m v : ℕ} {old new : List ℕ} → Noted g f 0 m v old new → Numbered g f m v new
numbered {g} {f} {m} {v} {old} {new} p = record {
  first = λ x l h. ap (λ (y : ℕ). get_or new (2 * y) 0) (sym (zero-add x)) ∙ p.first x l ∙ noted_some (f x) _ _ h;
  which = λ x l h. ap (λ (y : ℕ). get_or new (2 * y + 1) 0) (sym (zero-add x)) ∙ p.which x l ∙ noted_some (f x) _ _ h;
}

-- what is noted is fixed: any two that are noted on the same are equal
pub noted_fixed : {g f : ℕ → List ℕ} {m v : ℕ} {old new new' : List ℕ} → Noted g f 0 m v old new → Noted g f 0 m v old new' → new ≡ new'
noted_fixed {g} {f} {m} {v} {old} {new} {new'} p q =
    ext_get_or 0 new new' (p.long ∙ sym q.long) (λ k l. same k (lt_or_ge k (2 * (0 + m))))
  where
    at : (k : ℕ) → k < 2 * (0 + m) → (k % 2 < 1) ⊎ (1 ≤ k % 2) → get_or new k 0 ≡ get_or new' k 0
    at k h (inl a) = let e = even k a in ap (λ (z : ℕ). get_or new z 0) e ∙ p.first (k / 2) (omega arith) ∙ sym (q.first (k / 2) (omega arith)) ∙ ap (λ (z : ℕ). get_or new' z 0) (sym e)
      where
        even : (k : ℕ) → k % 2 < 1 → k ≡ 2 * (0 + k / 2)
        even k a = omega arith
    at k h (inr b) = let e = odd k b in ap (λ (z : ℕ). get_or new z 0) e ∙ p.which (k / 2) (omega arith) ∙ sym (q.which (k / 2) (omega arith)) ∙ ap (λ (z : ℕ). get_or new' z 0) (sym e)
      where
        odd : (k : ℕ) → 1 ≤ k % 2 → k ≡ 2 * (0 + k / 2) + 1
        odd k b = omega arith

    same : (k : ℕ) → (k < 2 * (0 + m)) ⊎ (2 * (0 + m) ≤ k) → get_or new k 0 ≡ get_or new' k 0
    same k (inl h) = at k h (lt_or_ge (k % 2) 1)
    same k (inr h) = p.behind k h ∙ sym (q.behind k h)
