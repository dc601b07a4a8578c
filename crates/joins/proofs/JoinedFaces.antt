-- The doubtful faces of a word's cubes: the word of those with joined positive corners, made bit by bit, and the cubes with exactly one loop and
-- with exactly two that the words tell.
-- Assumes nothing.
use Prim.Native.Nat.{ℕ, zero, suc, ◌+◌, ◌-◌, ◌*◌, ◌%◌, ◌^◌, ◌≤◌, ◌<◌}
use mathlib.Core.Path.{◌≡◌, refl, ap, ap₂, sym, ◌∙◌}
use mathlib.Core.Bool.{Bool, true, false, ◌&&◌}
use mathlib.Core.List.{List, [], ◌∷◌}
use native.Mathlib.Omega.{arith}
use lib.Bits.{bit_and, bit_or}
use lib.Count.{count_trailing_zeros}
use lib.Dec.{eqb}
use lib.ListN.{length, get_or, drop}
use lib.Seq.{get_or-drop}
use Rattle.laws.specs.Bits.{bit, holds}
use Rattle.laws.specs.Pack.{pack}
use Rattle.laws.proofs.Bits.{bit_le, holds_mask}
use Rattle.laws.proofs.Pack.{pack_more, pack_put, pack_mask}
use Rattle.laws.proofs.Visit.{Left, left_skip, left_end}
use Rattle.laws.proofs.Words.{and_holds}
use Rattle.laws.proofs.Tests.{and_both}
use Rattle.block.specs.declared.Cut.{Cut}
use Rattle.cube_rule.specs.Decider.{joined, loops_of}
use Rattle.cube_rule.specs.Edges.{pattern_of, crossed_mask}
use Rattle.cube_rule.specs.Links.{decisions}
use Rattle.cube_rule.specs.Loops.{loops_by}
use Rattle.cube_rule.specs.Plain.{alternate_on, plain}
use Rattle.cube_rule.specs.Sorts.{joined_on}
use Rattle.cube_rule.proofs.Alike.{one_same, two_same}
use Rattle.cube_rule.proofs.Laws.{cube_laws, cube_one, cube_two}
use Rattle.sorts.specs.declared.Sorts.{Sorts}
use Rattle.faces.specs.Faces.{alternates_of, plain_of}
use Rattle.planes.specs.Planes.{pattern_at}
use Rattle.sorts.specs.Sorting.{one_of, two_of}
use Rattle.signs.specs.Windows.{window_corners}
use Rattle.faces.proofs.PlainCubes.{plain_bit, face_bit}
use Rattle.sorts.proofs.SortedCubes.{one_bit, two_bit}
use Rattle.joins.specs.Joined.{joined_at, joined_words, SidesIn, within_of, sorted_of, Single, Sorted}
use Rattle.rows.specs.Rows.{WordReady}
use Rattle.rows.proofs.Visits.{bits_of, visit_start, visit_set, visit_in}

-- ---- the word of the faces, as its set bits are visited

-- the bits of d where g holds
abbrev pub bits_where : ℕ → (ℕ → Bool) → ℕ → ℕ
bits_where d g x = bit (holds d x && g x)

unset : (d : ℕ) (g : ℕ → Bool) (x : ℕ) → bits_of d x ≡ 0 → bits_where d g x ≡ 0
unset d g x e = ap (λ (b : ℕ). bit (eqb b 1 && g x)) e

between : (i j : ℕ) → i ≤ j → i + (j - i) ≡ j
between i j h = omega arith

module _ (d : ℕ) (g : ℕ → Bool) {n w v : ℕ} (l : Left (bits_of d) 64 n w) (is : v ≡ pack (bits_where d g) n) where
  -- the next set bit
  pub joined_next : (w ≡ 0 → ⊥) → (b : ℕ) → b ≡ bit (g (n + count_trailing_zeros 64 w))
      → bit_or v (b * 2 ^ (n + count_trailing_zeros 64 w) % 2 ^ 64) ≡ pack (bits_where d g) (n + count_trailing_zeros 64 w + 1)
  joined_next ne b e =
      ap₂ (λ (x y : ℕ). bit_or x (y * 2 ^ (n + count_trailing_zeros 64 w) % 2 ^ 64)) (is ∙ sym (pack_more (bits_where d g) n (count_trailing_zeros 64 w) skipped)) (e ∙ sym here)
      ∙ pack_put (bits_where d g) (λ x. bit_le (holds d x && g x)) (n + count_trailing_zeros 64 w) 64 (visit_in d l ne)
    where
      skipped : (x : ℕ) → n ≤ x → x < n + count_trailing_zeros 64 w → bits_where d g x ≡ 0
      skipped x a b = unset d g x (ap (bits_of d) (sym (between n x a)) ∙ left_skip l ne (x - n) (omega arith))

      here : bits_where d g (n + count_trailing_zeros 64 w) ≡ bit (g (n + count_trailing_zeros 64 w))
      here = ap (λ (x : Bool). bit (x && g (n + count_trailing_zeros 64 w))) (visit_set d l ne)

  -- none is left
  pub joined_end : w ≡ 0 → v ≡ pack (bits_where d g) 64
  joined_end e = is ∙ sym (pack_more (bits_where d g) n (64 - n) rest) ∙ ap (pack (bits_where d g)) (between n 64 l.in_n)
    where
      rest : (x : ℕ) → n ≤ x → x < n + (64 - n) → bits_where d g x ≡ 0
      rest x a b = unset d g x (ap (bits_of d) (sym (between n x a)) ∙ left_end l e (x - n) (omega arith))

-- ---- what the six words say of the cube x

bits_where_lem : (d : ℕ) (g : ℕ → Bool) (x : ℕ) → x < 64 → holds (pack (bits_where d g) 64) x ≡ (holds d x && g x)
bits_where_lem d g x h = ap (λ (w : ℕ). holds w x) (pack_mask (λ x. holds d x && g x) 64) ∙ holds_mask (λ x. holds d x && g x) 64 x h

-- the places of its corners
module _ (p x : ℕ) where
  on : (k : ℕ) → p + k + x ≡ p + x + k
  on k = omega arith

  on_two : (k l : ℕ) → p + k + (x + l) ≡ p + x + k + l
  on_two k l = omega arith

  on_one : (k : ℕ) → p + (x + k) ≡ p + x + k
  on_one k = omega arith

module _ (lo hi : List ℕ) (nx p : ℕ) (cut : Cut) (d : List ℕ) (x : ℕ) (h : x < 64) where
  on_far : p + nx + (x + 1) ≡ p + x + 1 + nx
  on_far = omega arith

  -- how the face f is decided
  said : (f : ℕ) → f < 6 → holds (get_or (joined_words lo hi nx p cut d) f 0) x ≡ (holds (get_or d f 0) x && decisions joined cut (window_corners nx lo hi (p + x)) f)
  unfolding joined_words window_corners
  said zero l = bits_where_lem (get_or d 0 0) (joined_at cut (drop p lo) (drop p hi) nx) x h ∙ simp (get_or-drop, on_one p x nx)
  said (suc zero) l = bits_where_lem (get_or d 1 0) (joined_at cut (drop (p + 1) lo) (drop (p + 1) hi) nx) x h ∙ simp (get_or-drop, on p x 1, on_two p x 1 nx)
  said (suc (suc zero)) l = bits_where_lem (get_or d 2 0) (joined_at cut (drop p lo) (drop p hi) 1) x h ∙ simp (get_or-drop, on_one p x 1)
  said (suc (suc (suc zero))) l = bits_where_lem (get_or d 3 0) (joined_at cut (drop (p + nx) lo) (drop (p + nx) hi) 1) x h ∙ simp (get_or-drop, on p x nx, on_far)
  said (suc (suc (suc (suc zero)))) l = bits_where_lem (get_or d 4 0) (joined_at cut (drop p lo) (drop (p + nx) lo) 1) x h ∙ simp (get_or-drop, on p x nx, on_one p x 1, on_far)
  said (suc (suc (suc (suc (suc zero))))) l = bits_where_lem (get_or d 5 0) (joined_at cut (drop p hi) (drop (p + nx) hi) 1) x h ∙ simp (get_or-drop, on p x nx, on_one p x 1, on_far)
  said (suc (suc (suc (suc (suc (suc f)))))) l = absurd (omega arith)

within_at : (six : List ℕ) (act f : ℕ) → f < 6 → get_or (within_of six act) f 0 ≡ bit_and (get_or six f 0) act
unfolding within_of
within_at six act zero l = refl
within_at six act (suc zero) l = refl
within_at six act (suc (suc zero)) l = refl
within_at six act (suc (suc (suc zero))) l = refl
within_at six act (suc (suc (suc (suc zero)))) l = refl
within_at six act (suc (suc (suc (suc (suc zero))))) l = refl
within_at six act (suc (suc (suc (suc (suc (suc f)))))) l = absurd (omega arith)

-- the bit of a face, cut down to the cubes of `act`
within_bit : (six : List ℕ) (act f x : ℕ) → f < 6 → holds (get_or (within_of six act) f 0) x ≡ (holds (get_or six f 0) x && holds act x)
within_bit six act f x l = ap (λ (w : ℕ). holds w x) (within_at six act f l) ∙ and_holds (get_or six f 0) act x

and_set : (a b : Bool) → b ≡ true → (a && b) ≡ a
and_set true b e = e
and_set false b e = refl

-- ---- the cubes that are told

module _ {lo hi : List ℕ} {cut : Cut} {nx p : ℕ} {e : List ℕ} {act : ℕ} (ready : WordReady lo hi cut nx p e act) where
  -- where a bit of `act` is set, the word's first cube lies in the windows
  pub sides_in_lem : (six : List ℕ) → act < 2 ^ 64 → (act ≡ 0 → ⊥) → SidesIn lo hi nx p (within_of six act)
  sides_in_lem six small ne =
      let l = visit_start act small in
      let low = ready.low_in _ (visit_in act l ne) (visit_set act l ne) in
      let high = ready.high_in _ (visit_in act l ne) (visit_set act l ne) in
      record {
        low = omega arith;
        high = omega arith;
        low_in = λ f x hf hx t. ready.low_in x hx (and_both (holds (get_or six f 0) x) (holds act x) (sym (within_bit six act f x hf) ∙ t)).1;
        high_in = λ f x hf hx t. ready.high_in x hx (and_both (holds (get_or six f 0) x) (holds act x) (sym (within_bit six act f x hf) ∙ t)).1;
      }

  -- plain cubes have one loop
  pub plain_single : {word : ℕ} → word ≡ plain_of e → Single loops_of lo hi cut nx p act word
  plain_single is x h set t =
      (cube_laws joined).single cut (window_corners nx lo hi (p + x))
      (ap (λ (q : ℕ). plain (holds q)) (sym (ready.signs x h set)) ∙ sym (plain_bit e x) ∙ ap (λ (w : ℕ). holds w x) (sym is) ∙ t)

  abbrev words : List ℕ
  words = joined_words lo hi nx p cut (within_of (alternates_of e) act)

  module _ (x : ℕ) (h : x < 64) (set : holds act x ≡ true) where
    abbrev cs : List ℕ
    cs = window_corners nx lo hi (p + x)

    faces : (f : ℕ) → f < 6 → holds (get_or words f 0) x ≡ joined_on (holds (pattern_of cut cs)) (decisions joined cut cs) f
    faces f l =
        said lo hi nx p cut (within_of (alternates_of e) act) x h f l
        ∙ ap (λ (b : Bool). b && decisions joined cut cs f)
        (within_bit (alternates_of e) act f x l
        ∙ and_set (holds (get_or (alternates_of e) f 0) x) (holds act x) set
        ∙ face_bit e x f l
        ∙ ap (λ (q : ℕ). alternate_on (holds q) f) (ready.signs x h set))

    corners : (c : ℕ) → c < 8 → holds (pattern_at e x) c ≡ holds (pattern_of cut cs) c
    corners c l = ap (λ (q : ℕ). holds q c) (ready.signs x h set)

    told_one : holds (one_of e (alternates_of e) words) x ≡ true → loops_by joined cut cs ≡ crossed_mask (pattern_of cut cs) ∷ []
    told_one t =
        cube_one joined cut cs (sym (one_same (holds (pattern_at e x)) (holds (pattern_of cut cs)) corners (λ f. holds (get_or words f 0) x) (joined_on (holds (pattern_of cut cs)) (decisions joined cut cs)) faces) ∙ sym (one_bit x e words) ∙ t)

    told_two : holds (two_of e (alternates_of e) words) x ≡ true → length (loops_by joined cut cs) ≡ 2
    told_two t =
        cube_two joined cut cs (sym (two_same (holds (pattern_at e x)) (holds (pattern_of cut cs)) corners (λ f. holds (get_or words f 0) x) (joined_on (holds (pattern_of cut cs)) (decisions joined cut cs)) faces) ∙ sym (two_bit x e words) ∙ t)

  -- by the decided faces
  pub sorted_faces : {r : Sorts} → r ≡ sorted_of lo hi nx p cut e act → Sorted loops_of lo hi cut nx p act r
  sorted_faces {r} all = record {
    one = λ x h set t. told_one x h set (ap (λ (q : Sorts). holds q.one x) (sym all) ∙ t);
    two = λ x h set t. told_two x h set (ap (λ (q : Sorts). holds q.two x) (sym all) ∙ t);
  }
