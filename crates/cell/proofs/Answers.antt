-- What the cube question's answer is made of: the verdict of row 3, words and places for every loop of an accepted cube, and that its
-- promise fixes it.
-- Assumes nothing.
use mathlib.Core.Path.{◌≡◌, refl, ap, ap₂, sym, ◌∙◌}
use mathlib.Core.Bool.{Bool, true, false}
use mathlib.Core.Logic.{◌⊎◌, inl, inr}
use mathlib.Core.List.{List, [], ◌∷◌, Memᴰ}
use Prim.Native.Nat.{ℕ, ◌<◌}
use native.Mathlib.Nat.{eq-zero-or-pos}
use native.Mathlib.Omega.{arith}
use lib.ListN.{length, get_or}
use Rattle.laws.specs.Bits.{bit}
use Rattle.laws.specs.Filled.{filled}
use Rattle.laws.specs.Fixed.{Fixes}
use Rattle.laws.proofs.Fixed.{Injective}
use Rattle.laws.proofs.Bits.{some_ones}
use Rattle.block.specs.declared.Cut.{Cut}
use Rattle.block.specs.declared.Refusal.{Refusal}
use Rattle.block.specs.declared.Checked.TheVariants.{Passes, Refuses}
use Rattle.block.specs.Answer.{judged, decided}
use Rattle.block.specs.Rows.{threshold_row}
use Rattle.block.proofs.Order.{order_last}
use Rattle.cube_rule.specs.Decider.{joined, loops_of}
use Rattle.cube_rule.specs.Edges.{crossed_at}
use Rattle.cube_rule.proofs.Laws.{cube_laws}
use Rattle.cube_rule.proofs.Unique.{holding}
use Rattle.place.specs.declared.Offset.{Offset}
use Rattle.place.specs.Place.{place_of}
use Rattle.place.specs.Steps.{Placeable}
use Rattle.place.proofs.Bounds.{CrossedSet}
use Rattle.cell.specs.declared.Found.{Found}
use Rattle.cell.specs.declared.Found.TheVariants.{Loops, Refused}
use Rattle.cell.specs.declared.CubeAnswer.{CubeAnswer}
use Rattle.cell.specs.Answer.{word_of, origin, cube_verdict, said_cube, loops_answered, CubeAnswered}
use Rattle.cell.specs.Steps.{empty_answer}
use Rattle.cell.proofs.Filled.{place_mask, with_mask, places_by_mask}

-- ---- the verdict is that of row 3

pub verdict_is : (cut : Cut) → cube_verdict cut ≡ threshold_row cut
verdict_is cut = order_last (threshold_row cut)

-- ---- the loops of a cube have places

module _ (cut : Cut) (corners : List ℕ) where
  loop_some : (m : ℕ) → Memᴰ m (loops_of cut corners) → 0 < m
  loop_some m d = some_ones m (omega (arith, ((cube_laws joined).sized cut corners m d).0))

  crossed_of : (b : Bool) {n : ℕ} → 0 < n → n ≡ bit b → b ≡ true
  crossed_of true h e = refl
  crossed_of false h e = absurd (omega arith)

  -- a loop is a set of crossed edges, and not the empty one, whatever row 3 says
  pub loop_crossed : (m : ℕ) → Memᴰ m (loops_of cut corners) → CrossedSet cut corners m
  loop_crossed m d = record {
    some = loop_some m d;
    small = ((cube_laws joined).sized cut corners m d).2;
    crossed = λ e he h. crossed_of (crossed_at cut corners e) (holding e (loops_of cut corners) m d h) ((cube_laws joined).each cut corners e he);
  }

  pub loop_placeable : cube_verdict cut ≡ Passes → (m : ℕ) → Memᴰ m (loops_of cut corners) → Placeable cut corners m
  loop_placeable v m d = record { small = (loop_crossed m d).small; crossed = (loop_crossed m d).crossed; threshold = sym (verdict_is cut) ∙ v }

  -- ---- the answer of an accepted cube, and of a refused one

  pub accepted_found : cube_verdict cut ≡ Passes → (n : ℕ) → n ≡ length (loops_of cut corners)
      → said_cube (Loops n) ≡ judged (cube_verdict cut) (length (loops_of cut corners))
  unfolding decided
  accepted_found v n e = rw (v, e)

  pub accepted_loops : cube_verdict cut ≡ Passes → loops_answered cut corners ≡ loops_of cut corners
  unfolding decided
  accepted_loops v = rw v

  pub refused_loops : (r : Refusal) → cube_verdict cut ≡ Refuses r → loops_answered cut corners ≡ []
  unfolding decided
  refused_loops r v = rw v

  pub refused_found : (r : Refusal) → cube_verdict cut ≡ Refuses r → said_cube (Refused r) ≡ judged (cube_verdict cut) (length (loops_of cut corners))
  unfolding decided
  refused_found r v = rw v

-- ---- unique

pub said_cube_injective : Injective said_cube
said_cube_injective (Loops m) (Loops n) e = cc
said_cube_injective (Loops m) (Refused r) e = let z : ◌≡◌ {A = ℕ} 0 1 = cc in absurd (omega arith)
said_cube_injective (Refused r) (Loops n) e = let z : ◌≡◌ {A = ℕ} 0 1 = cc in absurd (omega arith)
said_cube_injective (Refused r) (Refused q) e = cc

abbrev pub made : Found → List ℕ → List Offset → CubeAnswer
made f ws os = record { found = f; words = ws; offsets = os }

-- any two answers that the promise of `cube` allows are equal
pub cube_fixed : (corners : List ℕ) (cut : Cut) → Fixes (CubeAnswered corners cut)
cube_fixed corners cut a b p q =
    ap (λ (f : Found). made f a.words a.offsets) (said_cube_injective a.found b.found (p.found ∙ sym q.found))
    ∙ ap₂ (made b.found) (p.words ∙ sym q.words) (p.offsets ∙ sym q.offsets)

-- ---- the whole answer

module _ (cut : Cut) (corners : List ℕ) where
  pub refused_answer : (r : Refusal) → cube_verdict cut ≡ Refuses r → CubeAnswered corners cut (empty_answer r)
  unfolding filled
  refused_answer r v = record {
    found = refused_found cut corners r v;
    words = rw (refused_loops cut corners r v);
    offsets = rw (refused_loops cut corners r v);
  }

  -- a mask in one of the four places
  pub mask_placeable : cube_verdict cut ≡ Passes → (masks : List ℕ) → masks ≡ filled 4 0 (loops_of cut corners) → (i : ℕ)
      → 0 < get_or masks i 0 → Placeable cut corners (get_or masks i 0)
  mask_placeable v masks e i = rw e (λ h. loop_placeable cut corners v _ (place_mask (loops_of cut corners) i h))

  -- and it is small
  pub mask_small : (masks : List ℕ) → masks ≡ filled 4 0 (loops_of cut corners) → (i : ℕ) → get_or masks i 0 < 4096
  mask_small masks e i = rw e (go (eq-zero-or-pos (get_or (filled 4 0 (loops_of cut corners)) i 0)))
    where
      go : (get_or (filled 4 0 (loops_of cut corners)) i 0 ≡ 0) ⊎ (0 < get_or (filled 4 0 (loops_of cut corners)) i 0) → get_or (filled 4 0 (loops_of cut corners)) i 0 < 4096
      go (inl z) = omega (arith, z)
      go (inr h) = (loop_crossed cut corners _ (place_mask (loops_of cut corners) i h)).small

  -- the word and the place of a loop, and zeros where there is none
  abbrev worded : ℕ → ℕ
  worded m = with_mask (word_of corners) 0 m

  abbrev placed : ℕ → Offset
  placed m = with_mask (place_of cut corners) origin m

  pub accepted_answer : cube_verdict cut ≡ Passes → (n : ℕ) (masks : List ℕ) → n ≡ length (loops_of cut corners) → masks ≡ filled 4 0 (loops_of cut corners)
      → CubeAnswered corners cut (made (Loops n)
      (worded (get_or masks 0 0) ∷ worded (get_or masks 1 0) ∷ worded (get_or masks 2 0) ∷ worded (get_or masks 3 0) ∷ [])
      (placed (get_or masks 0 0) ∷ placed (get_or masks 1 0) ∷ placed (get_or masks 2 0) ∷ placed (get_or masks 3 0) ∷ []))
  accepted_answer v n masks e f = record {
    found = accepted_found cut corners v n e;
    words = rw (accepted_loops cut corners v, f) (sym (places_by_mask (word_of corners) 0 (loops_of cut corners) ((cube_laws joined).four cut corners) (loop_some cut corners)));
    offsets = rw (accepted_loops cut corners v, f) (sym (places_by_mask (place_of cut corners) origin (loops_of cut corners) ((cube_laws joined).four cut corners) (loop_some cut corners)));
  }
