-- The place of a word among those of its cube tells whether the vertex is one of ours, and with the number of the cube it tells the vertex from every other of ours.
-- Assumes nothing.
use Prim.Native.Nat.{ℕ, ◌+◌, ◌*◌, ◌-◌, ◌<◌}
use mathlib.Core.Path.{◌≡◌, refl, ap, sym, ◌∙◌}
use mathlib.Core.Bool.{Bool, true, false, cond, ◌||◌, ◌&&◌}
use mathlib.Core.List.{List, map}
use native.Mathlib.Omega.{arith}
use lib.Dec.{eqb, ltb, leb}
use lib.Ieee.{Float}
use lib.ListN.{get_or}
use borrow.Author.Tests.{eqb-true, eq-eqb, ltb-true, leb-true, leb-false}
use Rattle.laws.specs.Filled.{filled}
use Rattle.block.specs.declared.Cut.{Cut}
use Rattle.block.specs.declared.Size.{Size}
use Rattle.block.specs.Numbering.{cube_count}
use Rattle.cube_rule.specs.Decider.{loops_of}
use Rattle.cell.specs.Answer.{word_of, mark_of}
use Rattle.mesh_rule.specs.Grid.{corners_of}
use Rattle.foundry_rule.specs.Judged.{alike}
use Rattle.foundry_rule.specs.Spots.{among, own_word, place_among, word_place, place_in, cube_at, word_at, vertex_key}
use Rattle.foundry_rule.proofs.ByMask.{in_four, among_by_masks, among_low}
use Rattle.foundry_rule.proofs.Firsts.{same_test, alike_words, words_alike}
use Rattle.foundry_rule.proofs.Known.{known, known_by_cube}

-- ---- among four masks

place_four : (a b c d : Bool) → ltb (cond a 0 (cond b 1 (cond c 2 (cond d 3 4)))) 4 ≡ (a || b || c || d)
place_four true b c d = refl
place_four false true c d = refl
place_four false false true d = refl
place_four false false false true = refl
place_four false false false false = refl

place_in_four : (m : ℕ) (masks : List ℕ) → ltb (place_among m masks) 4 ≡ in_four m masks
place_in_four m masks = place_four (eqb m (get_or masks 0 0)) (eqb m (get_or masks 1 0)) (eqb m (get_or masks 2 0)) (eqb m (get_or masks 3 0))

-- a mask stands at its place
mask_there : (m : ℕ) (masks : List ℕ) → place_among m masks < 4 → m ≡ get_or masks (place_among m masks) 0
mask_there m masks = go (eqb m (get_or masks 0 0)) refl (eqb m (get_or masks 1 0)) refl (eqb m (get_or masks 2 0)) refl (eqb m (get_or masks 3 0)) refl
  where
    at : ℕ → ℕ
    at k = get_or masks k 0

    go : (a : Bool) → eqb m (at 0) ≡ a → (b : Bool) → eqb m (at 1) ≡ b → (c : Bool) → eqb m (at 2) ≡ c → (d : Bool) → eqb m (at 3) ≡ d
        → cond a 0 (cond b 1 (cond c 2 (cond d 3 4))) < 4 → m ≡ at (cond a 0 (cond b 1 (cond c 2 (cond d 3 4))))
    go true p b q c r d t h = eqb-true m (at 0) p
    go false p true q c r d t h = eqb-true m (at 1) q
    go false p false q true r d t h = eqb-true m (at 2) r
    go false p false q false r true t h = eqb-true m (at 3) t
    go false p false q false r false t h = absurd (omega arith)

module _ (cut : Cut) (corners : List ℕ) where
  -- a word is one of the cube's exactly if its place is below 4
  pub among_place : (w : ℕ) → among w (map (word_of corners) (loops_of cut corners)) ≡ ltb (word_place cut corners w) 4
  unfolding word_place
  among_place w = go (leb w (mark_of corners)) refl
    where
      go : (b : Bool) → leb w (mark_of corners) ≡ b
          → among w (map (word_of corners) (loops_of cut corners)) ≡ ltb (cond b 4 (place_among (w - mark_of corners) (filled 4 0 (loops_of cut corners)))) 4
      go true e = among_low cut corners w (leb-true w (mark_of corners) e)
      go false e = among_by_masks cut corners w (leb-false w (mark_of corners) e) ∙ sym (place_in_four (w - mark_of corners) (filled 4 0 (loops_of cut corners)))

  -- words at the same place are the same
  pub place_tells : (w x : ℕ) → word_place cut corners w < 4 → word_place cut corners w ≡ word_place cut corners x → w ≡ x
  unfolding word_place
  place_tells w x = go (leb w (mark_of corners)) refl (leb x (mark_of corners)) refl
    where
      back : (w x m : ℕ) → m < w → m < x → w - m ≡ x - m → w ≡ x
      back w x m p q e = omega arith

      there : (a : ℕ) → ℕ
      there a = place_among (a - mark_of corners) (filled 4 0 (loops_of cut corners))

      go : (b : Bool) → leb w (mark_of corners) ≡ b → (c : Bool) → leb x (mark_of corners) ≡ c → cond b 4 (there w) < 4 → cond b 4 (there w) ≡ cond c 4 (there x) → w ≡ x
      go true p c q h e = absurd (omega arith)
      go false p true q h e = absurd (omega arith)
      go false p false q h e =
          back w x (mark_of corners) (leb-false w (mark_of corners) p) (leb-false x (mark_of corners) q)
          (mask_there (w - mark_of corners) (filled 4 0 (loops_of cut corners)) h
          ∙ ap (λ (k : ℕ). get_or (filled 4 0 (loops_of cut corners)) k 0) e
          ∙ sym (mask_there (x - mark_of corners) (filled 4 0 (loops_of cut corners)) (omega arith)))

module _ (n : Size) (s : List ℕ) (cut : Cut) where
  -- the same in the cube c of a block
  pub own_place_lem : (c w : ℕ) → own_word n s cut c w ≡ ltb (place_in n s cut c w) 4
  unfolding place_in
  own_place_lem c w = go (ltb c (cube_count n))
    where
      go : (b : Bool) → (b && among w (map (word_of (corners_of n s c)) (loops_of cut (corners_of n s c)))) ≡ ltb (cond b (word_place cut (corners_of n s c) w) 4) 4
      go true = among_place cut (corners_of n s c) w
      go false = refl

  -- a word that has a place is in a cube of the block
  pub placed_cube : (c w : ℕ) → place_in n s cut c w < 4 → c < cube_count n
  unfolding place_in
  placed_cube c w = go (ltb c (cube_count n)) refl
    where
      go : (b : Bool) → ltb c (cube_count n) ≡ b → cond b (word_place cut (corners_of n s c) w) 4 < 4 → c < cube_count n
      go true e h = ltb-true c (cube_count n) e
      go false e h = absurd (omega arith)

  pub place_in_tells : (c w x : ℕ) → place_in n s cut c w < 4 → place_in n s cut c w ≡ place_in n s cut c x → w ≡ x
  unfolding place_in
  place_in_tells c w x = go (ltb c (cube_count n))
    where
      go : (b : Bool) → cond b (word_place cut (corners_of n s c) w) 4 < 4 → cond b (word_place cut (corners_of n s c) w) 4 ≡ cond b (word_place cut (corners_of n s c) x) 4 → w ≡ x
      go true h e = place_tells cut (corners_of n s c) w x h e
      go false h e = absurd (omega arith)

  module _ (our_quads words : List ℕ) (offsets : List Float) (quads : List ℕ) where
    -- a vertex is one of ours exactly if its word has a place in its cube
    pub known_by_place : (v : ℕ) → known n s cut our_quads words offsets quads v ≡ ltb (place_in n s cut (cube_at words v) (word_at words v)) 4
    known_by_place v = known_by_cube n s cut our_quads words offsets quads v ∙ own_place_lem (cube_at words v) (word_at words v)

  module _ (words : List ℕ) where
    abbrev at : ℕ → ℕ
    at v = place_in n s cut (cube_at words v) (word_at words v)

    pub key_below : (v : ℕ) → cube_at words v < cube_count n → at v < 4 → vertex_key words n s cut v < 4 * cube_count n
    key_below v h p = below (cube_at words v) (cube_count n) (at v) h p
      where
        below : (c m p : ℕ) → c < m → p < 4 → 4 * c + p < 4 * m
        below c m p h q = omega arith

    -- two vertices of ours have one key exactly if they have the same cube and word
    pub vertex_keys : (u v : ℕ) → at u < 4 → at v < 4 → eqb (vertex_key words n s cut v) (vertex_key words n s cut u) ≡ alike words v words u
    vertex_keys u v p q = same_test _ _ there back
      where
        cubes : (a b x y : ℕ) → x < 4 → y < 4 → 4 * a + x ≡ 4 * b + y → (a ≡ b) × (x ≡ y)
        cubes a b x y h k e = (omega arith, omega arith)

        there : eqb (vertex_key words n s cut v) (vertex_key words n s cut u) ≡ true → alike words v words u ≡ true
        there e =
            let r = cubes (cube_at words v) (cube_at words u) (at v) (at u) q p (eqb-true _ _ e) in
            words_alike words v words u r.0
            (place_in_tells (cube_at words v) (word_at words v) (word_at words u) q (r.1 ∙ ap (λ (c : ℕ). place_in n s cut c (word_at words u)) (sym r.0)))

        back : alike words v words u ≡ true → eqb (vertex_key words n s cut v) (vertex_key words n s cut u) ≡ true
        back e =
            let r = alike_words words v words u e in
            eq-eqb _ _ (ap (λ (c : ℕ). 4 * c + place_in n s cut c (word_at words v)) r.0 ∙ ap (λ (w : ℕ). 4 * cube_at words u + place_in n s cut (cube_at words u) w) r.1)
