-- What a sample at the detector's ceiling leaves in a mesh and in a cube's answer. A vertex is marked exactly if a corner of its cube is 65,535; and where no
-- vertex is marked, no cube with corners of both signs has such a corner, so both ends of each crossed edge are below 65,535.
use Prim.Native.Nat.{ℕ, zero, suc, ◌+◌, ◌*◌, ◌-◌, ◌%◌, ◌≤◌, ◌<◌}
use mathlib.Core.Path.{◌≡◌, refl, sym, ap, ◌∙◌, subst}
use mathlib.Core.Bool.{Bool, true, false, ◌||◌, true≢false}
use mathlib.Core.Logic.{◌↔◌, ◌⊎◌, inl, inr}
use mathlib.Core.List.{List, [], ◌∷◌, map}
use native.Mathlib.Nat.{add-zero}
use native.Mathlib.Omega.{arith}
use lib.ListN.{length, get_or, length-map, get_or-eq_default}
use borrow.Author.Tests.{le-leb}
use Rattle.laws.specs.Bits.{bit, differ, holds}
use Rattle.laws.proofs.Bits.{bit_le}
use Rattle.laws.proofs.Filled.{filled_at, mem_at}
use Rattle.laws.proofs.Index.{index_lt}
use Rattle.laws.proofs.Tests.{lt_or_ge}
use Rattle.block.specs.declared.Checked.TheVariants.{Passes}
use Rattle.block.specs.declared.Cut.{Cut}
use Rattle.block.specs.declared.Size.{Size}
use Rattle.block.specs.Answer.{accepted}
use Rattle.block.specs.Ceilings.{AtCeiling}
use Rattle.block.specs.Grey.{ceiling, has_ceiling, positive, apart, SixteenBit}
use Rattle.block.specs.Numbering.{Axis, X, Y, Z, cube_count, cube_number}
use Rattle.block.specs.Size.{size_of}
use Rattle.block.proofs.Order.{accepted_exactly}
use Rattle.block.proofs.Saturated.{ceiling_exactly}
use Rattle.cube_rule.specs.Decider.{joined, loops_of}
use Rattle.cube_rule.specs.Edges.{corner_sample, pattern_of}
use Rattle.cube_rule.specs.Plain.{mixed}
use Rattle.cube_rule.proofs.Laws.{cube_laws, pattern_sign, differ_self}
use Rattle.cell.specs.declared.CubeAnswer.{CubeAnswer}
use Rattle.cell.specs.Answer.{word_of, cube_verdict, said_cube, loops_answered, CubeAnswered}
use Rattle.cell.proofs.Answers.{accepted_loops}
use Rattle.cell.proofs.Words.{word_mark, word_mask, word_small}
use Rattle.mesh_rule.specs.Buffers.{mesh_words}
use Rattle.mesh_rule.specs.Grid.{sample_at, corners_at, corners_of, ahead, crossed_from, EdgeIn}
use Rattle.mesh_rule.specs.Mesh.{Vertex, cube_loops, vertices_before, vertices, vertex_of}
use Rattle.mesh_rule.proofs.Numbers.{corners_of_number, loop_lt, loop_stands, vertex_is_loop}
use Rattle.mesh_rule.proofs.Words.{words_at_lem}
use Rattle.demands.specs.Answers.{MeshCall}
use Rattle.demands.specs.Marks.{has_mark, word_after, corners_after, Unmarked, BothSigns}
use Rattle.demands.proofs.TheMesh.{limits, mesh_given, word_at}

-- ---- a ceiling is metal, whatever the threshold

pub ceiling_is_metal : (cut : Cut) → cut.t < 65536 → positive cut ceiling ≡ true
ceiling_is_metal cut h = le-leb cut.t ceiling (omega (arith, h))

-- ---- a mark says what it should

-- a word whose bit 12 is what the corners say
pub told_by : (word : ℕ) (corners : List ℕ) → has_mark word ≡ has_ceiling corners → (has_mark word ≡ true) ↔ AtCeiling corners
told_by word corners e = (λ h. (ceiling_exactly corners).0 (sym e ∙ h), λ c. e ∙ (ceiling_exactly corners).1 c)

-- ---- a mesh

-- the words of a mesh, whatever the size: vertex v is a loop of its cube, and its word is the loop's mask with the mark of the cube's corners
module _ (n : Size) (s : List ℕ) (cut : Cut) (v : ℕ) (h : v < length (vertices loops_of n s cut)) where
  abbrev the : Vertex
  the = vertex_of loops_of n s cut v

  small : the.mask < 4096
  small = ((cube_laws joined).sized cut (corners_of n s the.cube) the.mask (vertex_is_loop loops_of n s cut v h).1).2

  pub word_bit : has_mark (get_or (mesh_words loops_of n s cut) (2 * v + 1) 0) ≡ has_ceiling (corners_of n s (get_or (mesh_words loops_of n s cut) (2 * v) 0))
  word_bit =
      let w = words_at_lem loops_of n s cut v h in
      ap has_mark w.1 ∙ word_mark (corners_of n s the.cube) the.mask small ∙ ap (λ (c : ℕ). has_ceiling (corners_of n s c)) (sym w.0)

  pub word_rest : get_or (mesh_words loops_of n s cut) (2 * v + 1) 0 % 4096 ≡ the.mask
  word_rest = ap (λ (w : ℕ). w % 4096) (words_at_lem loops_of n s cut v h).1 ∙ word_mask (corners_of n s the.cube) the.mask small

  -- four digits are enough for a word, and the cube is one of the block's
  pub word_short : get_or (mesh_words loops_of n s cut) (2 * v + 1) 0 < 8192
  word_short = rw (words_at_lem loops_of n s cut v h).1 (word_small (corners_of n s the.cube) the.mask small)

  pub cube_short : get_or (mesh_words loops_of n s cut) (2 * v) 0 < cube_count n
  cube_short = rw (words_at_lem loops_of n s cut v h).0 (vertex_is_loop loops_of n s cut v h).0

module _ {nx ny nz : ℕ} {s : List ℕ} {cut : Cut} (a : MeshCall nx ny nz s cut) (v : ℕ) (h : v < a.counts.vertices) where
  abbrev size : Size
  size = size_of nx ny nz

  there : v < length (vertices loops_of size s cut)
  there = subst (λ (m : ℕ). v < m) (mesh_given a).vertex_count_lem h

  cube_is : get_or a.words_after (2 * v) 0 ≡ get_or (mesh_words loops_of size s cut) (2 * v) 0
  cube_is = word_at a (2 * v) (omega (arith, h))

  word_is : word_after a v ≡ get_or (mesh_words loops_of size s cut) (2 * v + 1) 0
  word_is = word_at a (2 * v + 1) (omega (arith, h))

  -- "each vertex whose cube has a ceiling corner carries a mark: bit 12 of its mask word", and no other vertex does
  pub vertex_marked : (has_mark (word_after a v) ≡ true) ↔ AtCeiling (corners_after a v)
  vertex_marked =
      told_by (word_after a v) (corners_after a v)
      (ap has_mark word_is ∙ word_bit size s cut v there ∙ ap (λ (c : ℕ). has_ceiling (corners_of size s c)) (sym cube_is))

  -- "Edge masks stay in bits 0 to 11"
  pub vertex_mask : word_after a v % 4096 ≡ (vertex_of loops_of size s cut v).mask
  vertex_mask = ap (λ (w : ℕ). w % 4096) word_is ∙ word_rest size s cut v there

-- ---- where no vertex is marked

-- a cube whose signs are not mixed has one sign
none_of : (a b : Bool) → (a || b) ≡ false → (a ≡ false) × (b ≡ false)
none_of true b e = absurd (true≢false e)
none_of false b e = (refl, e)

alike : (a b : Bool) → differ a b ≡ false → b ≡ a
alike true true e = refl
alike true false e = absurd (true≢false e)
alike false true e = absurd (true≢false e)
alike false false e = refl

one_sign : (f : ℕ → Bool) → mixed f ≡ false → (c : ℕ) → c < 8 → f c ≡ f 0
one_sign f e c h =
    let r1 = none_of (differ (f 0) (f 1)) _ e in
    let r2 = none_of (differ (f 0) (f 2)) _ r1.1 in
    let r3 = none_of (differ (f 0) (f 3)) _ r2.1 in
    let r4 = none_of (differ (f 0) (f 4)) _ r3.1 in
    let r5 = none_of (differ (f 0) (f 5)) _ r4.1 in
    let r6 = none_of (differ (f 0) (f 6)) _ r5.1 in
    go c h (alike (f 0) (f 1) r1.0) (alike (f 0) (f 2) r2.0) (alike (f 0) (f 3) r3.0) (alike (f 0) (f 4) r4.0) (alike (f 0) (f 5) r5.0) (alike (f 0) (f 6) r6.0) (alike (f 0) (f 7) r6.1)
  where
    go : (c : ℕ) → c < 8 → f 1 ≡ f 0 → f 2 ≡ f 0 → f 3 ≡ f 0 → f 4 ≡ f 0 → f 5 ≡ f 0 → f 6 ≡ f 0 → f 7 ≡ f 0 → f c ≡ f 0
    go zero h a b c d e g i = refl
    go (suc zero) h a b c d e g i = a
    go (suc (suc zero)) h a b c d e g i = b
    go (suc (suc (suc zero))) h a b c d e g i = c
    go (suc (suc (suc (suc zero)))) h a b c d e g i = d
    go (suc (suc (suc (suc (suc zero))))) h a b c d e g i = e
    go (suc (suc (suc (suc (suc (suc zero)))))) h a b c d e g i = g
    go (suc (suc (suc (suc (suc (suc (suc zero))))))) h a b c d e g i = i
    go (suc (suc (suc (suc (suc (suc (suc (suc k)))))))) h a b c d e g i = absurd (omega (arith, h))

-- so corners of both signs are mixed
both_mixed : (cut : Cut) (corners : List ℕ) → BothSigns cut corners → mixed (holds (pattern_of cut corners)) ≡ true
both_mixed cut corners b = go (mixed (holds (pattern_of cut corners))) refl
  where
    sign : (c : ℕ) → c < 8 → mixed (holds (pattern_of cut corners)) ≡ false → positive cut (corner_sample corners c) ≡ holds (pattern_of cut corners) 0
    sign c h e = sym (pattern_sign cut corners c h) ∙ one_sign (holds (pattern_of cut corners)) e c h

    go : (m : Bool) → mixed (holds (pattern_of cut corners)) ≡ m → m ≡ true
    go true e = refl
    go false e =
        absurd (true≢false (sym b.apart_there
        ∙ differ_self _ _ (holds (pattern_of cut corners) 0) (sign b.one b.one_there e) (sign b.other b.other_there e)))

-- a cube with corners of both signs has a vertex, which would be marked
pub words_clear : (n : Size) (s : List ℕ) (cut : Cut)
    → ((v : ℕ) → v < length (vertices loops_of n s cut) → has_mark (get_or (mesh_words loops_of n s cut) (2 * v + 1) 0) ≡ false)
    → (c : ℕ) → c < cube_count n → BothSigns cut (corners_of n s c) → AtCeiling (corners_of n s c) → ⊥
words_clear n s cut none c hc both at =
    true≢false (sym ((ceiling_exactly (corners_of n s c)).1 at) ∙ ap (λ (d : ℕ). has_ceiling (corners_of n s d)) (sym cube) ∙ sym (word_bit n s cut v there) ∙ none v there)
  where
    some : 0 < length (cube_loops loops_of n s cut c)
    some = (cube_laws joined).some cut (corners_of n s c) (both_mixed cut (corners_of n s c) both)

    v : ℕ
    v = length (vertices_before loops_of n s cut c) + 0

    there : v < length (vertices loops_of n s cut)
    there = loop_lt loops_of n s cut c 0 hc some

    cube : get_or (mesh_words loops_of n s cut) (2 * v) 0 ≡ c
    cube = (words_at_lem loops_of n s cut v there).0 ∙ ap (λ (u : Vertex). u.cube) (loop_stands loops_of n s cut c 0 hc some)

pub unmarked_clear : {nx ny nz : ℕ} {s : List ℕ} {cut : Cut} (a : MeshCall nx ny nz s cut) → Unmarked a
    → (c : ℕ) → c < cube_count (size_of nx ny nz) → BothSigns cut (corners_of (size_of nx ny nz) s c) → AtCeiling (corners_of (size_of nx ny nz) s c) → ⊥
unmarked_clear {nx} {ny} {nz} {s} {cut} a none =
    words_clear (size_of nx ny nz) s cut (λ v h. let l = subst (λ (m : ℕ). v < m) (sym (mesh_given a).vertex_count_lem) h in ap has_mark (sym (word_is a v l)) ∙ none v l)

-- a cube whose corners are all metal has no vertex, so a ceiling with metal all round leaves no mark
pub metal_round : (n : Size) (s : List ℕ) (cut : Cut) (c : ℕ) → ((i : ℕ) → i < 8 → positive cut (corner_sample (corners_of n s c) i) ≡ true) → cube_loops loops_of n s cut c ≡ []
metal_round n s cut c h = (cube_laws joined).quiet cut (corners_of n s c) true h

-- ---- the ends of a crossed edge

-- the corner x + 2y + 4z of a cube
abbrev corner_number : Bool → Bool → Bool → ℕ
corner_number x y z = bit x + 2 * bit y + 4 * bit z

corner_lt : (x y z : Bool) → corner_number x y z < 8
corner_lt x y z = omega (arith, bit_le x, bit_le y, bit_le z)

corner_at : (n : Size) (s : List ℕ) (i j k : ℕ) (x y z : Bool) → corner_sample (corners_at n s i j k) (corner_number x y z) ≡ sample_at n s (i + bit x) (j + bit y) (k + bit z)
corner_at n s i j k false false false = rw (add-zero i, add-zero j, add-zero k)
corner_at n s i j k true false false = rw (add-zero j, add-zero k)
corner_at n s i j k false true false = rw (add-zero i, add-zero k)
corner_at n s i j k true true false = rw (add-zero k)
corner_at n s i j k false false true = rw (add-zero i, add-zero j)
corner_at n s i j k true false true = rw (add-zero j)
corner_at n s i j k false true true = rw (add-zero i)
corner_at n s i j k true true true = refl

-- along one axis with m samples: a cube that has i and i' as corners, by its lower corner, and on which side each of them is
record Sides (m i i' : ℕ) : Type 0 where
  pub base : ℕ
  pub inside : base < m - 1
  pub low : Bool
  pub high : Bool
  pub low_is : i ≡ base + bit low
  pub high_is : i' ≡ base + bit high

-- a coordinate that stays, and one that goes on by 1
stays : (m i : ℕ) → 2 ≤ m → i < m → Sides m i i
stays m i two h = go (lt_or_ge i (m - 1))
  where
    go : (i < m - 1) ⊎ (m - 1 ≤ i) → Sides m i i
    go (inl a) = record { base = i; inside = a; low = false; high = false; low_is = omega arith; high_is = omega arith }
    go (inr a) = record { base = m - 2; inside = omega (arith, two); low = true; high = true; low_is = omega (arith, two, h, a); high_is = omega (arith, two, h, a) }

goes : (m i : ℕ) → i + 1 < m → Sides m i (i + 1)
goes m i h = record { base = i; inside = omega (arith, h); low = false; high = true; low_is = omega arith; high_is = omega arith }

-- two samples of one cube that differ in sign are not at the ceiling
module _ {nx ny nz : ℕ} {s : List ℕ} {cut : Cut} (a : MeshCall nx ny nz s cut) (none : Unmarked a) (grey : SixteenBit s) where
  abbrev n : Size
  n = size_of nx ny nz

  module _ (i j k : ℕ) (hi : i < nx - 1) (hj : j < ny - 1) (hk : k < nz - 1) (x y z x' y' z' : Bool)
      (cross : apart cut (sample_at n s (i + bit x) (j + bit y) (k + bit z)) (sample_at n s (i + bit x') (j + bit y') (k + bit z')) ≡ true) where
    corners : corners_of n s (cube_number n i j k) ≡ corners_at n s i j k
    corners = corners_of_number n s i j k hi hj

    at : (x y z : Bool) → corner_sample (corners_of n s (cube_number n i j k)) (corner_number x y z) ≡ sample_at n s (i + bit x) (j + bit y) (k + bit z)
    at x y z = ap (λ (l : List ℕ). corner_sample l (corner_number x y z)) corners ∙ corner_at n s i j k x y z

    both : BothSigns cut (corners_of n s (cube_number n i j k))
    both = record {
      one = corner_number x y z;
      other = corner_number x' y' z';
      one_there = corner_lt x y z;
      other_there = corner_lt x' y' z';
      apart_there = rw (at x y z, at x' y' z') cross;
    }

    clear : AtCeiling (corners_of n s (cube_number n i j k)) → ⊥
    clear = unmarked_clear a none (cube_number n i j k) (index_lt (nx - 1) (ny - 1) i j k hi hj (nz - 1) hk) both

    under : (v : ℕ) → v < 65536 → (v ≡ 65535 → ⊥) → v < 65535
    under v l d = omega arith

    corner_below : (x y z : Bool) → sample_at n s (i + bit x) (j + bit y) (k + bit z) < 65535
    corner_below x y z =
        under (sample_at n s (i + bit x) (j + bit y) (k + bit z)) (grey _)
        (λ e. clear (record { place = corner_number x y z; there = rw corners (corner_lt x y z); is = at x y z ∙ e }))

    pair_below : (sample_at n s (i + bit x) (j + bit y) (k + bit z) < 65535) × (sample_at n s (i + bit x') (j + bit y') (k + bit z') < 65535)
    pair_below = (corner_below x y z, corner_below x' y' z')

  -- two samples by their coordinates, at corners of the cube (b₀,b₁,b₂)
  near_below : (i j k i' j' k' b₀ b₁ b₂ : ℕ) (x y z x' y' z' : Bool) → b₀ < nx - 1 → b₁ < ny - 1 → b₂ < nz - 1
      → i ≡ b₀ + bit x → j ≡ b₁ + bit y → k ≡ b₂ + bit z → i' ≡ b₀ + bit x' → j' ≡ b₁ + bit y' → k' ≡ b₂ + bit z'
      → apart cut (sample_at n s i j k) (sample_at n s i' j' k') ≡ true → (sample_at n s i j k < 65535) × (sample_at n s i' j' k' < 65535)
  near_below i j k i' j' k' b₀ b₁ b₂ x y z x' y' z' h₀ h₁ h₂ e₀ e₁ e₂ f₀ f₁ f₂ cross =
      rw (e₀, e₁, e₂, f₀, f₁, f₂) (pair_below b₀ b₁ b₂ h₀ h₁ h₂ x y z x' y' z' (rw (e₀, e₁, e₂, f₀, f₁, f₂) at cross))

  neighbours_below : (i j k i' j' k' : ℕ) → Sides nx i i' → Sides ny j j' → Sides nz k k'
      → apart cut (sample_at n s i j k) (sample_at n s i' j' k') ≡ true → (sample_at n s i j k < 65535) × (sample_at n s i' j' k' < 65535)
  neighbours_below i j k i' j' k' x y z =
      near_below i j k i' j' k' x.base y.base z.base x.low y.low z.low x.high y.high z.high x.inside y.inside z.inside
      x.low_is y.low_is z.low_is x.high_is y.high_is z.high_is

  -- each crossed edge of the block, on its faces too, has both ends below 65,535
  pub crossed_below : (axis : Axis) (i j k : ℕ) → EdgeIn n axis i j k → crossed_from n s cut axis i j k ≡ true
      → (sample_at n s i j k < 65535) × (ahead (sample_at n s) axis i j k < 65535)
  crossed_below X i j k ((hi, hj, hk), (g, _, _)) = neighbours_below i j k (i + 1) j k (goes nx i g) (stays ny j (limits a).y_low hj) (stays nz k (limits a).z_low hk)
  crossed_below Y i j k ((hi, hj, hk), (_, g, _)) = neighbours_below i j k i (j + 1) k (stays nx i (limits a).x_low hi) (goes ny j g) (stays nz k (limits a).z_low hk)
  crossed_below Z i j k ((hi, hj, hk), (_, _, g)) = neighbours_below i j k i j (k + 1) (stays nx i (limits a).x_low hi) (stays ny j (limits a).y_low hj) (goes nz k g)

-- ---- the cube question

map_at : (f : ℕ → ℕ) (xs : List ℕ) (l : ℕ) → l < length xs → get_or (map f xs) l 0 ≡ f (get_or xs l 0)
map_at f [] l h = absurd (omega (arith, h))
map_at f (x ∷ xs) zero h = refl
map_at f (x ∷ xs) (suc l) h = map_at f xs l (omega (arith, h))

-- a place that holds a loop's word carries the mark exactly if a corner is at the ceiling, and its other bits are the loop's mask
module _ (corners : List ℕ) (cut : Cut) (r : CubeAnswer) (promise : CubeAnswered corners cut r) (n : ℕ) (accepts : said_cube r.found ≡ accepted n) where
  both_of : (cube_verdict cut ≡ Passes) × (n ≡ length (loops_of cut corners))
  both_of = (accepted_exactly (cube_verdict cut) (length (loops_of cut corners)) _ promise.found n).0 accepts

  place_is : (l : ℕ) → get_or r.words l 0 ≡ get_or (map (word_of corners) (loops_of cut corners)) l 0
  place_is l =
      ap (λ (ws : List ℕ). get_or ws l 0) promise.words ∙ filled_at 4 0 (map (word_of corners) (loops_answered cut corners)) l
      ∙ ap (λ (ms : List ℕ). get_or (map (word_of corners) ms) l 0) (accepted_loops cut corners both_of.0)

  used_is : (l : ℕ) → l < n → get_or r.words l 0 ≡ word_of corners (get_or (loops_of cut corners) l 0)
  used_is l h = place_is l ∙ map_at (word_of corners) (loops_of cut corners) l (omega (arith, h, both_of.1))

  mask_small : (l : ℕ) → l < n → get_or (loops_of cut corners) l 0 < 4096
  mask_small l h = ((cube_laws joined).sized cut corners _ (mem_at (loops_of cut corners) l (omega (arith, h, both_of.1)))).2

  pub cube_marked : (l : ℕ) → l < n → (has_mark (get_or r.words l 0) ≡ true) ↔ AtCeiling corners
  cube_marked l h = told_by (get_or r.words l 0) corners (ap has_mark (used_is l h) ∙ word_mark corners (get_or (loops_of cut corners) l 0) (mask_small l h))

  pub cube_mask : (l : ℕ) → l < n → get_or r.words l 0 % 4096 ≡ get_or (loops_of cut corners) l 0
  cube_mask l h = ap (λ (w : ℕ). w % 4096) (used_is l h) ∙ word_mask corners (get_or (loops_of cut corners) l 0) (mask_small l h)

  -- unused places hold zero, whatever the corners
  pub cube_unused : (l : ℕ) → n ≤ l → get_or r.words l 0 ≡ 0
  cube_unused l h = place_is l ∙ get_or-eq_default (map (word_of corners) (loops_of cut corners)) 0 (rw (length-map (loops_of cut corners) (word_of corners)) (omega (arith, h, both_of.1)))
