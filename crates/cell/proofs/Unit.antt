-- The cube question's offsets, by its promise alone: each coordinate is at least 0 and at most 1 and has the sign plus, for 16-bit samples and
-- every threshold. Places that are not used, and those of a refusal, hold zeros, which are so too.
use Prim.Native.Nat.{ℕ, zero, suc, ◌-◌}
use mathlib.Core.Path.{◌≡◌, refl, sym, subst}
use mathlib.Core.Logic.{◌⊎◌, inl, inr}
use mathlib.Core.List.Memᴰ
use mathlib.Core.List.{List, [], ◌∷◌, ◌++◌, map, Memᴰ}
use lib.ListN.{length, replicate}
use Rattle.laws.specs.Filled.{filled}
use Rattle.block.specs.declared.Cut.{Cut}
use Rattle.block.specs.declared.Checked.{Checked}
use Rattle.block.specs.declared.Checked.TheVariants.{Passes, Refuses}
use Rattle.block.specs.Answer.{decided}
use Rattle.block.specs.Grey.{SixteenBit}
use Rattle.cube_rule.specs.Decider.{loops_of}
use Rattle.place.specs.declared.Offset.{Offset}
use Rattle.place.specs.Place.{place_of}
use Rattle.place.specs.Unit.{Inside}
use Rattle.place.proofs.Bounds.{place_in_unit, zero_in_unit}
use Rattle.cell.specs.declared.CubeAnswer.{CubeAnswer}
use Rattle.cell.specs.Answer.{origin, cube_verdict, loops_answered, CubeAnswered}
use Rattle.cell.proofs.Answers.{loop_crossed}

-- each offset of a list is inside the unit cube
abbrev Each : List Offset → Type 0
Each os = (o : Offset) → Memᴰ o os → Inside o

each_more : (o : Offset) (os : List Offset) → Inside o → Each os → Each (o ∷ os)
each_more o os here rest y d = go (Memᴰ.cases_cons d)
  where
    go : (y ≡ o) ⊎ Memᴰ y os → Inside y
    go (inl e) = subst Inside (sym e) here
    go (inr k) = rest y k

each_filled : (d : Offset) (f : ℕ → Offset) (ms : List ℕ) (n : ℕ) → Inside d → ((m : ℕ) → Memᴰ m ms → Inside (f m)) → Each (map f ms ++ replicate n d)
each_filled d f [] zero p h = λ o k. absurd (Memᴰ.not-nil k)
each_filled d f [] (suc n) p h = each_more d (replicate n d) p (each_filled d f [] n p h)
each_filled d f (m ∷ ms) n p h =
    each_more (f m) (map f ms ++ replicate n d) (h m (Memᴰ.head refl)) (each_filled d f ms n p (λ k e. h k (Memᴰ.tail e)))

-- a loop that is answered is one of the cube's
answered_loop : (v : Checked) (ms : List ℕ) (m : ℕ) → Memᴰ m (decided v ms (λ r. [])) → Memᴰ m ms
unfolding decided
answered_loop Passes ms m d = d
answered_loop (Refuses r) ms m d = absurd (Memᴰ.not-nil d)

origin_inside : Inside origin
origin_inside = (zero_in_unit, zero_in_unit, zero_in_unit)

places_inside : (cut : Cut) (corners : List ℕ) → SixteenBit corners → Each (filled 4 origin (map (place_of cut corners) (loops_answered cut corners)))
unfolding filled
places_inside cut corners grey =
    each_filled origin (place_of cut corners) (loops_answered cut corners) (4 - length (map (place_of cut corners) (loops_answered cut corners))) origin_inside
    (λ m d. place_in_unit cut corners m grey (loop_crossed cut corners m (answered_loop (cube_verdict cut) (loops_of cut corners) m d)))

-- "Each coordinate of each offset is at least 0 and at most 1."
pub cube_offsets_inside : (corners : List ℕ) (cut : Cut) (r : CubeAnswer) → CubeAnswered corners cut r → SixteenBit corners → (o : Offset) → Memᴰ o r.offsets → Inside o
cube_offsets_inside corners cut r said grey = subst Each (sym said.offsets) (places_inside cut corners grey)
