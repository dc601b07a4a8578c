-- A row of cubes read back from the words buffer, vertex by vertex: the first vertex of each cube notes the cube.
-- Assumes nothing.
use Prim.Native.Nat.{ℕ, suc, ◌+◌, ◌*◌, ◌-◌, ◌≤◌, ◌<◌}
use mathlib.Core.Path.{◌≡◌, refl, sym, ap, ap₂, ◌∙◌, subst}
use mathlib.Core.Logic.{◌⊎◌, inl, inr}
use mathlib.Core.Bool.{Bool, true, false, true≢false, cond, not, ◌&&◌, ◌||◌}
use mathlib.Core.List.{List, [], ◌∷◌}
use native.Mathlib.Omega.{arith}
use borrow.Author.Tests.{eq-eqb, ne_eqb, lt-ltb, le-ltb, le-leb}
use lib.Dec.{ltb, eqb}
use lib.ListN.{length, get_or, get_or-eq_default}
use lib.Seq.{sets}
use Rattle.laws.specs.Below.{below}
use Rattle.laws.proofs.Below.{length-below, split}
use Rattle.laws.proofs.Tests.{lt_or_ge}
use Rattle.notes.specs.Tables.{which_of, Numbered, word_for, is_first, four_for, RowOf, in_row, noted_vertex, noted_from}
use Rattle.notes.proofs.Notes.{OneNoted, one_noted}

and_not : (a : Bool) {b : Bool} → b ≡ false → (a && b) ≡ false
and_not true h = h
and_not false h = refl

-- a vertex of the row: the cube that it is of, and its place among the cube's
pub record Place (f : ℕ → List ℕ) (m from v : ℕ) : Type 0 where
  pub cube : ℕ
  pub nth : ℕ
  pub cube_lt : cube < m
  pub nth_lt : nth < length (f cube)
  pub is : v ≡ from + length (below f cube) + nth

pub place_of_lem : (f : ℕ → List ℕ) (m from v : ℕ) → from ≤ v → v < from + length (below f m) → Place f m from v
place_of_lem f m from v h l =
    let r = split f m (v - from) (omega arith) in
    record { cube = r.0; nth = r.1; cube_lt = r.2; nth_lt = r.3; is = omega (arith, r.4) }

module _ {f : ℕ → List ℕ} {m c from : ℕ} {part : List ℕ} (row : RowOf f m c from part) where
  -- its cube's number and its word
  number_of : {v : ℕ} (p : Place f m from v) → get_or part (2 * v) 0 ≡ c + p.cube
  number_of p = ap (λ (q : ℕ). get_or part (2 * q) 0) p.is ∙ row.cube p.cube p.nth p.cube_lt p.nth_lt

  -- the vertex v, of the cube x
  module _ {v : ℕ} (p : Place f m from v) where
    abbrev x : ℕ
    x = p.cube

    there : (l : ℕ) → l < length (f x) → 2 * (from + length (below f x) + l) + 1 < length part
    there l h = omega (arith, row.room, length-below f m x p.cube_lt)

    -- ---- whether it is the first of its cube

    pub first_true : p.nth ≡ 0 → is_first part from v ≡ true
    first_true e = go (eqb v from) refl
      where
        go : (t : Bool) → eqb v from ≡ t → (t || not (eqb (get_or part (2 * v - 2) 0) (get_or part (2 * v) 0))) ≡ true
        go true e = refl
        go false d = ap not (ne_eqb _ _ apart)
          where
            more : from < v
            more = go₂ (lt_or_ge from v)
              where
                go₂ : (from < v) ⊎ (v ≤ from) → from < v
                go₂ (inl l) = l
                go₂ (inr g) = absurd (differs (eq-eqb v from (omega (arith, p.is))))
                  where
                    differs : eqb v from ≡ true → ⊥
                    differs t = true≢false (sym t ∙ d)

            before : Place f m from (v - 1)
            before = place_of_lem f m from (v - 1) (omega (arith, more)) (omega (arith, more, p.is, p.nth_lt, length-below f m x p.cube_lt))

            at : 2 * v - 2 ≡ 2 * (v - 1)
            at = omega arith

            apart : get_or part (2 * v - 2) 0 ≡ get_or part (2 * v) 0 → ⊥
            apart t = clash (omega (arith, sym (ap (λ (q : ℕ). get_or part q 0) at) ∙ t, number_of before, number_of p))
              where
                clash : before.cube ≡ x → ⊥
                clash s = omega (arith, more, e, before.is, p.is, ap (λ (y : ℕ). length (below f y)) s)

    pub first_false : 0 < p.nth → is_first part from v ≡ false
    first_false h =
        ap₂ (λ (a b : Bool). a || not b) (ne_eqb v from (λ e. absurd (omega (arith, p.is))))
        (eq-eqb _ _ (ap (λ (q : ℕ). get_or part q 0) at ∙ row.cube x (p.nth - 1) p.cube_lt (omega (arith, p.nth_lt)) ∙ sym (number_of p)))
      where
        at : 2 * v - 2 ≡ 2 * (from + length (below f x) + (p.nth - 1))
        at = omega (arith, p.is)

    -- ---- the words of its cube, if it is

    module _ (e : p.nth ≡ 0) where
      word_is : (i : ℕ) → word_for part (get_or part (2 * v) 0) (v + i) ≡ get_or (f x) i 0
      word_is i = go (lt_or_ge i (length (f x)))
        where
          at : from + length (below f x) + i ≡ v + i
          at = omega (arith, p.is)

          none : {b : Bool} → b ≡ false → cond b (get_or part (2 * (v + i) + 1) 0) 0 ≡ 0
          none e = rw e

          far : length (f x) ≤ i → (2 * (v + i) + 1 < length part) → get_or part (2 * (v + i)) 0 ≡ get_or part (2 * v) 0 → ⊥
          far g inside t = past (lt_or_ge (v + i) (from + length (below f m)))
            where
              past : (v + i < from + length (below f m)) ⊎ (from + length (below f m) ≤ v + i) → ⊥
              past (inr b) = omega (arith, row.later (v + i) b inside, t, number_of p, p.cube_lt)
              past (inl b) = clash (omega (arith, t, number_of q, number_of p))
                where
                  q : Place f m from (v + i)
                  q = place_of_lem f m from (v + i) (omega (arith, p.is)) b

                  clash : q.cube ≡ x → ⊥
                  clash s = omega (arith, q.is, p.is, q.nth_lt, ap (λ (y : ℕ). length (f y)) s, ap (λ (y : ℕ). length (below f y)) s)

          go : (i < length (f x)) ⊎ (length (f x) ≤ i) → word_for part (get_or part (2 * v) 0) (v + i) ≡ get_or (f x) i 0
          go (inl l) =
              ap₂ (λ (a b : Bool). cond (a && b) (get_or part (2 * (v + i) + 1) 0) 0)
              (lt-ltb _ _ (subst (λ (q : ℕ). 2 * q + 1 < length part) at (there i l)))
              (eq-eqb _ _ (ap (λ (q : ℕ). get_or part (2 * q) 0) (sym at) ∙ row.cube x i p.cube_lt l ∙ sym (number_of p)))
              ∙ ap (λ (q : ℕ). get_or part (2 * q + 1) 0) (sym at)
              ∙ row.word x i p.cube_lt l
          go (inr g) = outside (lt_or_ge (2 * (v + i) + 1) (length part)) ∙ sym (get_or-eq_default (f x) 0 g)
            where
              outside : (2 * (v + i) + 1 < length part) ⊎ (length part ≤ 2 * (v + i) + 1) → word_for part (get_or part (2 * v) 0) (v + i) ≡ 0
              outside (inl l) = none (and_not (ltb (2 * (v + i) + 1) (length part)) (ne_eqb _ _ (far g l)))
              outside (inr h) = none (ap (λ (b : Bool). b && eqb (get_or part (2 * (v + i)) 0) (get_or part (2 * v) 0)) (le-ltb _ _ h))

      pub which_is : which_of (four_for part v) ≡ which_of (f x)
      unfolding which_of
      which_is = rw (word_is 1, word_is 2, word_is 3)

-- ---- the vertices passed

-- the cubes whose first vertex is before v are noted
pub record Passed (f : ℕ → List ℕ) (m from first v : ℕ) (at : List ℕ) : Type 0 where
  pub in_row_lem : v ≤ from + length (below f m)
  pub numbers : (y : ℕ) → y < m → 0 < length (f y) → from + length (below f y) < v → get_or at (2 * y) 0 ≡ first + from + length (below f y)
  pub whiches : (y : ℕ) → y < m → 0 < length (f y) → from + length (below f y) < v → get_or at (2 * y + 1) 0 ≡ which_of (f y)

pub passed_none : (f : ℕ → List ℕ) (m from first : ℕ) (at : List ℕ) → Passed f m from first from at
passed_none f m from first at = record {
  in_row_lem = omega arith;
  numbers = λ y l h t. absurd (omega arith);
  whiches = λ y l h t. absurd (omega arith);
}

module _ {f : ℕ → List ℕ} {m c from first v : ℕ} {part at : List ℕ} (row : RowOf f m c from part) (s : Passed f m from first v at) (low : from ≤ v) where
  -- the end: r is behind the row
  pub passed_end : from + length (below f m) ≤ v → (v ≡ from + length (below f m)) × Numbered f f m (first + from) at
  passed_end h = (
    omega (arith, s.in_row_lem),
    record {
      first = λ y l t. s.numbers y l t (omega (arith, length-below f m y l));
      which = λ y l t. s.whiches y l t (omega (arith, length-below f m y l));
    },
  )

  pub in_part : 2 * v + 1 < length part → (get_or part (2 * v) 0 < c) ⊎ (c + m ≤ get_or part (2 * v) 0) → from + length (below f m) ≤ v
  in_part inside out = go (lt_or_ge v (from + length (below f m)))
    where
      go : (v < from + length (below f m)) ⊎ (from + length (below f m) ≤ v) → from + length (below f m) ≤ v
      go (inr g) = g
      go (inl l) = absurd (clash out)
        where
          p : Place f m from v
          p = place_of_lem f m from v low l

          clash : (get_or part (2 * v) 0 < c) ⊎ (c + m ≤ get_or part (2 * v) 0) → ⊥
          clash (inl a) = omega (arith, number_of row p, p.cube_lt)
          clash (inr b) = omega (arith, number_of row p, p.cube_lt)

  -- one vertex more
  module _ (inside : 2 * v + 1 < length part) (ge : c ≤ get_or part (2 * v) 0) (lt : get_or part (2 * v) 0 - c < m) (at' : List ℕ) (room : length at ≡ 512) (small : m ≤ 256)
      (is : at' ≡ cond (is_first part from v) (sets at (2 * (get_or part (2 * v) 0 - c)) ((first + v) ∷ which_of (four_for part v) ∷ [])) at) where
    short : v < from + length (below f m)
    short = go (lt_or_ge v (from + length (below f m)))
      where
        go : (v < from + length (below f m)) ⊎ (from + length (below f m) ≤ v) → v < from + length (below f m)
        go (inl l) = l
        go (inr g) = absurd (omega (arith, row.later v g inside))

    p : Place f m from v
    p = place_of_lem f m from v low short

    cube_is : get_or part (2 * v) 0 - c ≡ p.cube
    cube_is = omega (arith, number_of row p)

    -- a cube whose first vertex is before v is no later one, and if it is v's own, v is not its first
    earlier : (y : ℕ) → y < m → 0 < length (f y) → from + length (below f y) < v → (y < p.cube) ⊎ (0 < p.nth)
    earlier y l h t = go (lt_or_ge y p.cube)
      where
        go : (y < p.cube) ⊎ (p.cube ≤ y) → (y < p.cube) ⊎ (0 < p.nth)
        go (inl a) = inl a
        go (inr b) = inr (more (lt_or_ge p.cube y))
          where
            more : (p.cube < y) ⊎ (y ≤ p.cube) → 0 < p.nth
            more (inl a) = absurd (omega (arith, p.is, p.nth_lt, length-below f y p.cube a))
            more (inr g) = omega (arith, p.is, ap (λ (z : ℕ). length (below f z)) (same b g))
              where
                same : {a b : ℕ} → a ≤ b → b ≤ a → a ≡ b
                same q r = omega arith

    -- and one whose first vertex is v is v's own
    own : (y : ℕ) → y < m → 0 < length (f y) → from + length (below f y) ≡ v → (y ≡ p.cube) × (p.nth ≡ 0)
    own y l h t = go (lt_or_ge y p.cube) (lt_or_ge p.cube y)
      where
        go : (y < p.cube) ⊎ (p.cube ≤ y) → (p.cube < y) ⊎ (y ≤ p.cube) → (y ≡ p.cube) × (p.nth ≡ 0)
        go (inl a) _ = absurd (omega (arith, p.is, length-below f p.cube y a))
        go (inr b) (inl a) = absurd (omega (arith, p.is, p.nth_lt, length-below f y p.cube a))
        go (inr b) (inr g) = (same b g, omega (arith, p.is, ap (λ (z : ℕ). length (below f z)) (same b g)))
          where
            same : {a b : ℕ} → a ≤ b → b ≤ a → b ≡ a
            same q r = omega arith

    unnoted : 0 < p.nth → at' ≡ at
    unnoted h = is ∙ ap (λ (b : Bool). cond b (sets at (2 * (get_or part (2 * v) 0 - c)) ((first + v) ∷ which_of (four_for part v) ∷ [])) at) (first_false row p h)

    noted : p.nth ≡ 0 → OneNoted (f p.cube) p.cube (first + v) at at'
    noted h =
        one_noted (f p.cube) p.cube (first + v) at at'
        (is
        ∙ ap (λ (b : Bool). cond b (sets at (2 * (get_or part (2 * v) 0 - c)) ((first + v) ∷ which_of (four_for part v) ∷ [])) at) (first_true row p h)
        ∙ ap₂ (λ (z w : ℕ). sets at (2 * z) ((first + v) ∷ w ∷ [])) cube_is (which_is row p h))
        (omega (arith, p.cube_lt))

    kept : (y q : ℕ) → y < m → 0 < length (f y) → from + length (below f y) < v → q < 2 * y + 2 → get_or at' q 0 ≡ get_or at q 0
    kept y q l h t lq = go (earlier y l h t)
      where
        go₂ : (0 < p.nth) ⊎ (p.nth ≤ 0) → y < p.cube → get_or at' q 0 ≡ get_or at q 0
        go₂ (inl a) b = ap (λ (w : List ℕ). get_or w q 0) (unnoted a)
        go₂ (inr a) b = (noted (omega arith)).before q (omega arith)

        go : (y < p.cube) ⊎ (0 < p.nth) → get_or at' q 0 ≡ get_or at q 0
        go (inl a) = go₂ (lt_or_ge 0 p.nth) a
        go (inr b) = ap (λ (w : List ℕ). get_or w q 0) (unnoted b)

    pub passed_more : Passed f m from first (v + 1) at'
    passed_more = record {
      in_row_lem = omega (arith, short);
      numbers = λ y l h t. number y l h (lt_or_ge (from + length (below f y)) v) t;
      whiches = λ y l h t. which y l h (lt_or_ge (from + length (below f y)) v) t;
    }
      where
        last : {a b : ℕ} → a ≤ b → b < a + 1 → b ≡ a
        last q r = omega arith

        number : (y : ℕ) → y < m → 0 < length (f y) → (from + length (below f y) < v) ⊎ (v ≤ from + length (below f y)) → from + length (below f y) < v + 1 → get_or at' (2 * y) 0 ≡ first + from + length (below f y)
        number y l h (inl a) t = kept y (2 * y) l h a (omega arith) ∙ s.numbers y l h a
        number y l h (inr b) t =
            let o = own y l h (last b t) in
            ap (λ (z : ℕ). get_or at' (2 * z) 0) o.0 ∙ (noted o.1).first ∙ omega (arith, last b t)

        which : (y : ℕ) → y < m → 0 < length (f y) → (from + length (below f y) < v) ⊎ (v ≤ from + length (below f y)) → from + length (below f y) < v + 1 → get_or at' (2 * y + 1) 0 ≡ which_of (f y)
        which y l h (inl a) t = kept y (2 * y + 1) l h a (omega arith) ∙ s.whiches y l h a
        which y l h (inr b) t =
            let o = own y l h (last b t) in
            ap (λ (z : ℕ). get_or at' (2 * z + 1) 0) o.0 ∙ (noted o.1).which ∙ ap (λ (z : ℕ). which_of (f z)) (sym o.0)

-- ---- the vertices noted, whatever stands in the part

-- the vertices before v are all of the row, and they are noted
pub record NotedTo (m c from first : ℕ) (part old : List ℕ) (v : ℕ) (at : List ℕ) : Type 0 where
  pub each : (u : ℕ) → from ≤ u → u < v → in_row part c m u ≡ true
  pub noted : at ≡ noted_from part from first c (v - from) old

pub noted_none : (m c from first : ℕ) (part old : List ℕ) → NotedTo m c from first part old from old
unfolding noted_from
noted_none m c from first part old = record {
  each = λ u l h. absurd (omega arith);
  noted = ap (λ (n : ℕ). noted_from part from first c n old) none;
}
  where
    none : 0 ≡ from - from
    none = omega arith

module _ {m c from first v : ℕ} {part old at : List ℕ} (s : NotedTo m c from first part old v at) (low : from ≤ v) where
  -- one vertex more
  module _ (inside : 2 * v + 1 < length part) (ge : c ≤ get_or part (2 * v) 0) (lt : get_or part (2 * v) 0 - c < m) (at' : List ℕ)
      (is : at' ≡ cond (is_first part from v) (sets at (2 * (get_or part (2 * v) 0 - c)) ((first + v) ∷ which_of (four_for part v) ∷ [])) at) where
    here : in_row part c m v ≡ true
    here = ap₂ (λ (a b : Bool). a && b) (lt-ltb _ _ inside) (ap₂ (λ (a b : Bool). a && b) (le-leb c (get_or part (2 * v) 0) ge) (lt-ltb (get_or part (2 * v) 0) (c + m) (omega arith)))

    more : at' ≡ noted_from part from first c (suc (v - from)) old
    unfolding noted_from
    more = is ∙ ap₂ (λ (u : ℕ) (w : List ℕ). noted_vertex part from first c u w) place s.noted
      where
        place : v ≡ from + (v - from)
        place = omega arith

    pub noted_more : NotedTo m c from first part old (v + 1) at'
    noted_more = record {
      each = λ u l h. go u l h (lt_or_ge u v);
      noted = more ∙ ap (λ (n : ℕ). noted_from part from first c n old) next;
    }
      where
        next : suc (v - from) ≡ v + 1 - from
        next = omega arith

        same : {u : ℕ} → u < v + 1 → v ≤ u → v ≡ u
        same h g = omega arith

        go : (u : ℕ) → from ≤ u → u < v + 1 → (u < v) ⊎ (v ≤ u) → in_row part c m u ≡ true
        go u l h (inl a) = s.each u l a
        go u l h (inr g) = subst (λ (z : ℕ). in_row part c m z ≡ true) (same h g) here
