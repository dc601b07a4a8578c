-- A row of cubes, 64 at a time: what the words of two planes say of them is what they are, so that the cubes picked by their bits are those of
-- the row that have loops.
-- Assumes nothing.
use Prim.Native.Nat.{ℕ, ◌+◌, ◌*◌, ◌-◌, ◌/◌, ◌%◌, ◌^◌, ◌≤◌, ◌<◌}
use mathlib.Core.Path.{◌≡◌, ap, sym, ◌∙◌}
use mathlib.Core.Logic.{◌⊎◌, inl, inr}
use mathlib.Core.Bool.{true, cond}
use mathlib.Core.List.{List, [], ◌++◌}
use native.Mathlib.Nat.{eq-zero-or-pos}
use native.Mathlib.Omega.{arith}
use borrow.Author.Tests.{eq-eqb, eqb-true, lt-ltb, le-ltb}
use lib.Bits.{bit_and}
use lib.Dec.{ltb}
use Rattle.laws.specs.Below.{below}
use Rattle.laws.specs.Bits.{holds}
use Rattle.laws.proofs.Below.{below_add, below_same}
use Rattle.laws.proofs.Tests.{and_both, lt_or_ge}
use Rattle.laws.proofs.Visit.{below_skip}
use Rattle.laws.proofs.Words.{and_holds}
use Rattle.block.specs.declared.Cut.{Cut}
use Rattle.block.specs.Grey.{positive}
use Rattle.cube_rule.specs.Laws.{CubeLaws}
use Rattle.cube_rule.specs.Links.{Decider}
use Rattle.cube_rule.specs.Edges.{corner_sample}
use Rattle.planes.specs.Planes.{eight_of, active_of, limit_of}
use Rattle.signs.specs.Windows.{window_corners}
use Rattle.planes.proofs.Cubes.{pattern_is, active_quiet}
use Rattle.planes.proofs.ActiveCubes.{active_bit}
use Rattle.planes.proofs.Masks.{limit_keeps, limit_clears}
use Rattle.rows.specs.Rows.{loops_at, picked, word_loops, WordReady, RowReady}
use Rattle.rows.proofs.Visits.{bits_of, picked_set, picked_unset}

-- ---- the cubes of a row, as far as they go

-- the list of x, if x is below m
abbrev pub up_to : {A : Type 0} → ℕ → (ℕ → List A) → ℕ → List A
up_to m f x = cond (ltb x m) (f x) []

pub up_to_in : {A : Type 0} (m : ℕ) (f : ℕ → List A) (x : ℕ) → x < m → up_to m f x ≡ f x
up_to_in m f x h = rw (lt-ltb x m h)

pub up_to_out : {A : Type 0} (m : ℕ) (f : ℕ → List A) (x : ℕ) → m ≤ x → up_to m f x ≡ []
up_to_out m f x h = rw (le-ltb x m h)

-- all of them
pub up_to_all : {A : Type 0} (m : ℕ) (f : ℕ → List A) (x : ℕ) → m ≤ x → below (up_to m f) x ≡ below f m
up_to_all m f x h =
    ap (below (up_to m f)) (parts h)
    ∙ below_skip (up_to m f) m (x - m) (λ j l. up_to_out m f (m + j) (omega arith))
    ∙ below_same (up_to m f) f m (λ y l. up_to_in m f y l)
  where
    parts : m ≤ x → x ≡ m + (x - m)
    parts h = omega arith

-- a word more
pub up_to_word : {A : Type 0} (m : ℕ) (f : ℕ → List A) (w : ℕ) → below (up_to m f) (64 * (w + 1)) ≡ below (up_to m f) (64 * w) ++ below (λ (x : ℕ). up_to m f (64 * w + x)) 64
up_to_word m f w = ap (below (up_to m f)) next ∙ below_add (up_to m f) (64 * w) 64
  where
    next : 64 * (w + 1) ≡ 64 * w + 64
    next = omega arith

-- ---- the cubes of the word w of a row

module _ {lo hi : List ℕ} {cut : Cut} {a b : List ℕ} {nx j : ℕ} (ready : RowReady lo hi cut a b nx j) (w : ℕ) (hw : w < 4) where
  abbrev e : List ℕ
  e = eight_of a b (5 * j + w)

  abbrev pub act_of : ℕ
  act_of = bit_and (active_of (eight_of a b (5 * j + w))) (limit_of (nx - 1) w)

  -- a set bit is a cube of the row
  pub set_in : (x : ℕ) → x < 64 → holds act_of x ≡ true → 64 * w + x < nx - 1
  set_in x h t = go (lt_or_ge (64 * w + x) (nx - 1))
    where
      go : (64 * w + x < nx - 1) ⊎ (nx - 1 ≤ 64 * w + x) → 64 * w + x < nx - 1
      go (inl l) = l
      go (inr g) = absurd (omega (arith, limit_clears (active_of e) (nx - 1) w x h g, eqb-true (act_of / 2 ^ x % 2) 1 t))

  pub word_ready : WordReady lo hi cut nx (64 * w) e act_of
  word_ready = record {
    low_in = λ x h t. omega (arith, set_in x h t, ready.low_long);
    high_in = λ x h t. omega (arith, set_in x h t, ready.high_long);
    signs = λ x h t. pattern_is ready.lower ready.upper w x hw h (omega (arith, set_in x h t));
    active = λ x h t. sym (active_bit e x) ∙ (and_both (holds (active_of e) x) (holds (limit_of (nx - 1) w) x) (sym (and_holds (active_of e) (limit_of (nx - 1) w) x) ∙ t)).0;
  }

-- ---- whatever the loops of a cube are

module _ {D : Decider} {loops_of : Cut → List ℕ → List ℕ} (laws : CubeLaws D loops_of) {lo hi : List ℕ} {cut : Cut} {a b : List ℕ} {nx j : ℕ} (ready : RowReady lo hi cut a b nx j) (w : ℕ) (hw : w < 4) where
  abbrev eight : List ℕ
  eight = eight_of a b (5 * j + w)

  abbrev act : ℕ
  act = act_of ready w hw

  -- a cube of the row whose bit is not set has no loop
  pub quiet : (x : ℕ) → x < 64 → 64 * w + x < nx - 1 → bits_of act x ≡ 0 → loops_at loops_of lo hi cut nx (64 * w + x) ≡ []
  quiet x h l z =
      laws.quiet cut (window_corners nx lo hi (64 * w + x)) (positive cut (corner_sample (window_corners nx lo hi (64 * w + x)) 0))
      (active_quiet ready.lower ready.upper w x hw h (omega arith) (sym (limit_keeps (active_of eight) (nx - 1) w x h l) ∙ z))

  -- What the picked cubes give, by their corners and numbers, is what the row's cubes give, where a cube without a loop gives nothing.
  module _ {A : Type 0} (c : ℕ) (give : List ℕ → ℕ → List A) (none : (cs : List ℕ) (c : ℕ) → loops_of cut cs ≡ [] → give cs c ≡ []) where
    pub word_same : (x : ℕ) → x < 64
        → picked act (λ (x : ℕ). give (window_corners nx lo hi (64 * w + x)) (c + 64 * w + x)) x ≡ up_to (nx - 1) (λ (y : ℕ). give (window_corners nx lo hi y) (c + y)) (64 * w + x)
    word_same x h = go (lt_or_ge (64 * w + x) (nx - 1)) (eq-zero-or-pos (bits_of act x))
      where
        by_bit : ℕ → List A
        by_bit x = give (window_corners nx lo hi (64 * w + x)) (c + 64 * w + x)

        by_place : ℕ → List A
        by_place y = give (window_corners nx lo hi y) (c + y)

        one : (y : ℕ) → 0 < y % 2 → y % 2 ≡ 1
        one y p = omega arith

        behind : c + 64 * w + x ≡ c + (64 * w + x)
        behind = omega arith

        go : (64 * w + x < nx - 1) ⊎ (nx - 1 ≤ 64 * w + x) → (bits_of act x ≡ 0) ⊎ (0 < bits_of act x)
            → picked act by_bit x ≡ up_to (nx - 1) by_place (64 * w + x)
        go (inr g) _ = picked_unset act by_bit x (limit_clears (active_of eight) (nx - 1) w x h g) ∙ sym (up_to_out (nx - 1) by_place (64 * w + x) g)
        go (inl l) (inl z) = picked_unset act by_bit x z ∙ sym (up_to_in (nx - 1) by_place (64 * w + x) l ∙ none _ _ (quiet x h l z))
        go (inl l) (inr o) =
            picked_set act by_bit x (eq-eqb (bits_of act x) 1 (one (act / 2 ^ x) o))
            ∙ ap (give (window_corners nx lo hi (64 * w + x))) behind
            ∙ sym (up_to_in (nx - 1) by_place (64 * w + x) l)

    pub row_word_lem : below (picked act (λ (x : ℕ). give (window_corners nx lo hi (64 * w + x)) (c + 64 * w + x))) 64
        ≡ below (λ (x : ℕ). up_to (nx - 1) (λ (y : ℕ). give (window_corners nx lo hi y) (c + y)) (64 * w + x)) 64
    row_word_lem = below_same _ _ 64 word_same

  -- of their loops
  pub loops_same : (x : ℕ) → x < 64 → picked act (λ (x : ℕ). loops_at loops_of lo hi cut nx (64 * w + x)) x ≡ up_to (nx - 1) (loops_at loops_of lo hi cut nx) (64 * w + x)
  loops_same = word_same 0 (λ cs c. loops_of cut cs) (λ cs c q. q)

  pub loops_word : word_loops loops_of lo hi cut nx act (64 * w) ≡ below (λ (x : ℕ). up_to (nx - 1) (loops_at loops_of lo hi cut nx) (64 * w + x)) 64
  loops_word = row_word_lem 0 (λ cs c. loops_of cut cs) (λ cs c q. q)
