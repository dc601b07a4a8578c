-- The vertices of the cubes of a word, visited by its set bits: each is a cube to be written, and those passed are stored and noted, since those
-- skipped are not picked.
-- Assumes nothing.
use Prim.Native.Nat.{ℕ, ◌+◌, ◌*◌, ◌-◌, ◌≤◌, ◌<◌}
use mathlib.Core.Path.{◌≡◌, ap, sym, ◌∙◌, subst}
use mathlib.Core.Bool.{true}
use mathlib.Core.List.{List, []}
use native.Mathlib.Omega.{arith}
use lib.Count.{count_trailing_zeros}
use lib.ListN.{length}
use lib.Ieee.{Float}
use Rattle.laws.specs.Below.{below}
use Rattle.laws.specs.Bits.{holds}
use Rattle.laws.proofs.Visit.{Left, left_skip, left_end}
use Rattle.cube_vertices.specs.Cubes.{Stored, names_at}
use Rattle.rows.specs.Rows.{picked, WordReady}
use Rattle.notes.specs.Tables.{Noted}
use Rattle.notes.proofs.Notes.{OneNoted, noted_skip, noted_one}
use Rattle.cube_vertices.proofs.Stored.{stored_none, stored_join, stored_words, stored_offsets}
use Rattle.block.specs.declared.Cut.{Cut}
use Rattle.cube_rule.specs.Decider.{joined, loops_of}
use Rattle.cube_rule.proofs.Laws.{cube_laws}
use Rattle.cube_rule.specs.Plain.{mixed}
use Rattle.signs.specs.Windows.{window_corners}
use Rattle.cube_vertices.proofs.Cubes.{names_some}
use Rattle.rows.proofs.Visits.{bits_of, picked_set, picked_unset, visit_set, to_next, picked_next, picked_end, picked_room}

-- a cube whose bit is set has a vertex
pub active_names : {lo hi : List ℕ} {cut : Cut} {nx p : ℕ} {e : List ℕ} {act : ℕ} → WordReady lo hi cut nx p e act → (x : ℕ) → x < 64 → holds act x ≡ true
    → 0 < length (names_at loops_of lo hi cut nx (p + x))
active_names {lo} {hi} {cut} {nx} {p} {e} ready x h set =
    names_some loops_of cut (window_corners nx lo hi (p + x))
    ((cube_laws joined).some cut (window_corners nx lo hi (p + x)) (ap (λ (q : ℕ). mixed (holds q)) (sym (ready.signs x h set)) ∙ ready.active x h set))

-- ---- storing

module _ (act : ℕ) {i w : ℕ} (l : Left (bits_of act) 64 i w) where
  module _ (f g : ℕ → List ℕ) (h : ℕ → List Float) {v m : ℕ} {w₀ ws : List ℕ} {o₀ os : List Float}
      (s : Stored v (below (picked act f) i) (below (picked act g) i) (below (picked act h) i) w₀ ws o₀ os m) where
    pub stored_next : (w ≡ 0 → ⊥) → {r : ℕ} {ws' : List ℕ} {os' : List Float}
        → Stored m (f (i + count_trailing_zeros 64 w)) (g (i + count_trailing_zeros 64 w)) (h (i + count_trailing_zeros 64 w)) ws ws' os os' r
        → Stored v (below (picked act f) (i + count_trailing_zeros 64 w + 1)) (below (picked act g) (i + count_trailing_zeros 64 w + 1)) (below (picked act h) (i + count_trailing_zeros 64 w + 1)) w₀ ws' o₀ os' r
    stored_next ne t = rw (picked_next act l f ne, picked_next act l g ne, picked_next act l h ne) (stored_join s t)

    pub stored_end : w ≡ 0 → Stored v (below (picked act f) 64) (below (picked act g) 64) (below (picked act h) 64) w₀ ws o₀ os m
    stored_end e = rw (← picked_end act l f e, ← picked_end act l g e, ← picked_end act l h e) s

    -- there is room for the next, if there is for all
    pub words_next : (w ≡ 0 → ⊥) → 2 * (v + length (below (picked act f) 64)) ≤ length w₀ → 2 * (m + length (f (i + count_trailing_zeros 64 w))) ≤ length ws
    words_next ne room = omega (arith, s.number, stored_words s, picked_room act l f ne)

    pub offsets_next : (w ≡ 0 → ⊥) → 3 * (v + length (below (picked act f) 64)) ≤ length o₀ → 3 * (m + length (f (i + count_trailing_zeros 64 w))) ≤ length os
    offsets_next ne room = omega (arith, s.number, stored_offsets s, picked_room act l f ne)

-- ---- noting

module _ (act : ℕ) {i w : ℕ} (l : Left (bits_of act) 64 i w) (g f : ℕ → List ℕ) {from v : ℕ} {old new : List ℕ} (p : Noted (picked act g) (picked act f) from i v old new) where
  back : (z : ℕ) → i ≤ z → i + (z - i) ≡ z
  back z a = omega arith

  pub noted_next : (w ≡ 0 → ⊥) → {new' : List ℕ} (r : ℕ) → r ≡ v + length (below (picked act g) i) → 0 < length (f (i + count_trailing_zeros 64 w))
      → OneNoted (f (i + count_trailing_zeros 64 w)) (from + (i + count_trailing_zeros 64 w)) r new new' → Noted (picked act g) (picked act f) from (i + count_trailing_zeros 64 w + 1) v old new'
  noted_next ne {new'} r e some c =
      noted_one (noted_skip p (i + count_trailing_zeros 64 w) (omega arith) (λ z a b. skipped z a b)) r (e ∙ ap (λ (ms : List ℕ). v + length ms) (sym (to_next act l g ne)))
      (subst (λ (ws : List ℕ). 0 < length ws) here some) (subst (λ (ws : List ℕ). OneNoted ws (from + (i + count_trailing_zeros 64 w)) r new new') here c)
    where
      here : f (i + count_trailing_zeros 64 w) ≡ picked act f (i + count_trailing_zeros 64 w)
      here = sym (picked_set act f (i + count_trailing_zeros 64 w) (visit_set act l ne))

      skipped : (z : ℕ) → i ≤ z → z < i + count_trailing_zeros 64 w → picked act f z ≡ []
      skipped z a b = picked_unset act f z (ap (bits_of act) (sym (back z a)) ∙ left_skip l ne (z - i) (omega arith))

  pub noted_end : w ≡ 0 → Noted (picked act g) (picked act f) from 64 v old new
  noted_end e = noted_skip p 64 l.in_n (λ z a b. picked_unset act f z (ap (bits_of act) (sym (back z a)) ∙ left_end l e (z - i) (omega arith)))

pub stored_start : (act v : ℕ) (f g : ℕ → List ℕ) (h : ℕ → List Float) (ws : List ℕ) (os : List Float)
    → Stored v (below (picked act f) 0) (below (picked act g) 0) (below (picked act h) 0) ws ws os os v
unfolding below
stored_start act v f g h ws os = stored_none v ws os
