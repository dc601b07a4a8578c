-- A mesh as a PLY file, from the very promise of `write` (document 02, Three): what it refuses and accepts, that a refusal keeps the buffer, which numbers it
-- gives, and that a mesh which `mesh` wrote is refused by no row but 15, if the spacing is good.
use Prim.Native.Nat.{ℕ, ◌+◌, ◌*◌, ◌/◌, ◌≤◌, ◌<◌}
use mathlib.Core.Path.{◌≡◌, ◌∙◌}
use mathlib.Core.Bool.{true}
use mathlib.Core.Logic.{◌↔◌, ◌⊎◌, inl, inr}
use mathlib.Core.List.{List}
use native.Mathlib.Omega.{arith}
use lib.Dec.{leb}
use lib.ListN.{length, get_or, take}
use lib.Ieee.{Float, nan, le}
use borrow.Author.Tests.{lt-ltb}
use Rattle.laws.proofs.Leading.{HoldsTo}
use Rattle.laws.proofs.Tests.{is_true}
use Rattle.block.specs.declared.Cut.{Cut}
use Rattle.block.specs.declared.Refusal.{Refusal}
use Rattle.block.specs.declared.Checked.TheVariants.{Passes, Refuses}
use Rattle.block.specs.declared.Size.{Size}
use Rattle.block.specs.Answer.{accepted, refused, First}
use Rattle.block.specs.Grey.{SixteenBit}
use Rattle.block.specs.Numbering.{cube_count}
use Rattle.block.specs.Rows.{axis_row, room_row}
use Rattle.block.specs.Size.{size_of, Limits}
use Rattle.block.proofs.Order.{order_passes, order_last, accepted_exactly, refused_exactly, written_refused, first_has}
use Rattle.block.proofs.Searches.{search_passes}
use Rattle.block.proofs.Sizes.{within_axes}
use Rattle.lists.specs.Rows.{length_row, quad_below, number_row}
use Rattle.cube_rule.specs.Decider.{joined, loops_of}
use Rattle.cube_rule.proofs.Laws.{cube_laws}
use Rattle.place.specs.Place.{plus_zero, one}
use Rattle.place.specs.Unit.{InUnit}
use Rattle.mesh_rule.specs.Buffers.{mesh_words, mesh_offsets, mesh_quads}
use Rattle.mesh_rule.specs.Mesh.{vertices}
use Rattle.mesh_rule.proofs.Counts.{most_vertices}
use Rattle.mesh_rule.proofs.Numbers.{vertex_is_loop}
use Rattle.mesh_rule.proofs.Offsets.{offsets_in_unit, mesh_offsets_length}
use Rattle.mesh_rule.proofs.Words.{mesh_words_length, words_at_lem}
use Rattle.vertex_lists.specs.Rows.{shaped, shape_row, cube_inside, cube_row, from_zero_to_one, offset_inside, offset_row}
use Rattle.vertex_lists.proofs.Rows.{shape_passes}
use Rattle.ply.specs.declared.Spacing.{Spacing}
use Rattle.ply.specs.declared.Filed.{Filed}
use Rattle.ply.specs.Rows.{spacings, bad_spacing, spacing_row}
use Rattle.ply.specs.File.{ply_file}
use Rattle.ply.specs.Answer.{said_file, ply_rows, ply_verdict, PlyWritten}
use Rattle.demands.specs.Answers.{MeshCall}
use Rattle.demands.proofs.Lists.{quads_whole, quads_known}
use Rattle.demands.proofs.Numbers.{axis_number_lem, lowest_number, unless_number, search_number, length_number}
use Rattle.demands.proofs.Refusals.{refuses_by}
use Rattle.demands.proofs.TheMesh.{limits, words_front, offsets_front, quads_front}

-- ---- demand 1

module _ (nx ny nz : ℕ) (words : List ℕ) (offsets : List Float) (quads : List ℕ) (s : Spacing) (file : List ℕ) (r : Filed) (file' : List ℕ)
    (promise : PlyWritten nx ny nz words offsets quads s file r file') where
  pub ply_refuses : (x : Refusal) → (said_file r ≡ refused x) ↔ First (ply_rows nx ny nz words offsets quads s (length file)) x
  ply_refuses = refuses_by _ _ _ promise.answer

  pub ply_accepts : (l : ℕ) → (said_file r ≡ accepted l)
      ↔ ((ply_verdict nx ny nz words offsets quads s (length file) ≡ Passes) × (l ≡ length (ply_file (size_of nx ny nz) words offsets quads s)))
  ply_accepts = accepted_exactly _ _ _ promise.answer

  -- a refusal keeps the buffer
  pub ply_keeps : (x : Refusal) → said_file r ≡ refused x → file' ≡ file
  ply_keeps x e = promise.bytes ∙ written_refused _ _ file x ((refused_exactly _ _ _ promise.answer x).0 e)

-- ---- which numbers are given

-- 1, 7, 13 to 15, 22 to 24
abbrev pub PlyNumber : ℕ → Type 0
PlyNumber n = (n ≡ 1) ⊎ ((n ≡ 7) ⊎ (((13 ≤ n) × (n ≤ 15)) ⊎ ((22 ≤ n) × (n ≤ 24))))

low : (x : Refusal) {n : ℕ} → x.number ≡ n → 13 ≤ n → n ≤ 15 → PlyNumber x.number
low x e a b = inr (inr (inl (omega (arith, e, a), omega (arith, e, b))))

high : (x : Refusal) {n : ℕ} → x.number ≡ n → 22 ≤ n → n ≤ 24 → PlyNumber x.number
high x e a b = inr (inr (inr (omega (arith, e, a), omega (arith, e, b))))

pub ply_numbers : (nx ny nz : ℕ) (words : List ℕ) (offsets : List Float) (quads : List ℕ) (s : Spacing) (room : ℕ) (x : Refusal)
    → ply_verdict nx ny nz words offsets quads s room ≡ Refuses x → PlyNumber x.number
ply_numbers nx ny nz words offsets quads s room =
    let count = length words / 2 in
    let needed = length (ply_file (size_of nx ny nz) words offsets quads s) in
    first_has (λ (x : Refusal). PlyNumber x.number) (ply_rows nx ny nz words offsets quads s room) (
      λ x e. inl (axis_number_lem nx ny nz x e),
      (
        λ x e. high x (unless_number (shaped (length words) (length offsets) count) 22 (length words) x e) (omega arith) (omega arith),
        (
          λ x e. high x (search_number 23 (cube_inside (size_of nx ny nz) words) count x e) (omega arith) (omega arith),
          (
            λ x e. high x (search_number 24 (offset_inside offsets) (length offsets / 3) x e) (omega arith) (omega arith),
            (
              λ x e. inr (inl (length_number quads x e)),
              (
                λ x e. low x (lowest_number 13 bad_spacing (spacings s) x e) (omega arith) (omega arith),
                (
                  λ x e. low x (search_number 14 (quad_below count quads) (length quads / 4) x e) (omega arith) (omega arith),
                  (λ x e. low x (unless_number (leb needed room) 15 needed x e) (omega arith) (omega arith), tt),
                ),
              ),
            ),
          ),
        ),
      ),
    )

-- ---- what `mesh` wrote

-- a float that is in the unit passes row 24's test
unit_passes : (x : Float) → InUnit x → from_zero_to_one x ≡ true
unfolding from_zero_to_one
unit_passes x u = rw (is_true (le plus_zero x) u.at_least, is_true (le x one) u.at_most)

-- the three lists of a mesh pass all rows but 13 and 15
module _ (nx ny nz : ℕ) (s : List ℕ) (cut : Cut) (grey : SixteenBit s) (lim : Limits (size_of nx ny nz)) where
  abbrev n : Size
  n = size_of nx ny nz

  abbrev count : ℕ
  count = length (vertices loops_of n s cut)

  abbrev words : List ℕ
  words = mesh_words loops_of n s cut

  abbrev offsets : List Float
  offsets = mesh_offsets loops_of n s cut

  abbrev numbers : List ℕ
  numbers = mesh_quads loops_of n s cut

  half : length words / 2 ≡ count
  half = omega (arith, mesh_words_length n s cut)

  shape_passed : shape_row (length words) (length offsets) ≡ Passes
  shape_passed = shape_passes _ _ count (mesh_words_length n s cut) (mesh_offsets_length n s cut) (most_vertices loops_of n s cut (cube_laws joined) lim)

  cubes_pass : HoldsTo (cube_inside n words) (length words / 2)
  cubes_pass v h =
      let l : v < count = omega (arith, h, half) in
      lt-ltb (get_or words (2 * v) 0) (cube_count n) (rw (words_at_lem loops_of n s cut v l).0 (vertex_is_loop loops_of n s cut v l).0)

  pub offsets_pass : HoldsTo (offset_inside offsets) (length offsets / 3)
  offsets_pass v h =
      let at : (k : ℕ) → k < length offsets → from_zero_to_one (get_or offsets k nan) ≡ true = λ k l. unit_passes _ (offsets_in_unit n s cut grey k l) in
      rw (at (3 * v) (omega (arith, h)), at (3 * v + 1) (omega (arith, h)), at (3 * v + 2) (omega (arith, h)))

  listed : (spacing : Spacing) (room : ℕ) → spacing_row spacing ≡ Passes
      → ply_verdict nx ny nz (mesh_words loops_of n s cut) (mesh_offsets loops_of n s cut) (mesh_quads loops_of n s cut) spacing room
      ≡ room_row (length (ply_file (size_of nx ny nz) (mesh_words loops_of n s cut) (mesh_offsets loops_of n s cut) (mesh_quads loops_of n s cut) spacing)) room
  listed spacing room good =
      order_passes (axis_row nx ny nz) _ (within_axes nx ny nz lim)
      ∙ order_passes (shape_row (length words) (length offsets)) _ shape_passed
      ∙ order_passes (cube_row n words) _ (search_passes 23 _ _ cubes_pass)
      ∙ order_passes (offset_row offsets) _ (search_passes 24 _ _ offsets_pass)
      ∙ order_passes (length_row numbers) _ (quads_whole n s cut)
      ∙ order_passes (spacing_row spacing) _ good
      ∙ order_passes (number_row (length words / 2) numbers) _ (quads_known n s cut (length words / 2) half)
      ∙ order_last _

-- What a call of `mesh` wrote over the front of its buffers, with any good spacing, is refused by no row but 15: all that the verdict says is whether there is room.
pub ply_of_mesh : {nx ny nz : ℕ} {s : List ℕ} {cut : Cut} (a : MeshCall nx ny nz s cut) → SixteenBit s → (spacing : Spacing) (room : ℕ) → spacing_row spacing ≡ Passes
    → ply_verdict nx ny nz (take (2 * a.counts.vertices) a.words_after) (take (3 * a.counts.vertices) a.offsets_after) (take (4 * a.counts.quads) a.quads_after) spacing room
    ≡ room_row (length (ply_file (size_of nx ny nz) (take (2 * a.counts.vertices) a.words_after) (take (3 * a.counts.vertices) a.offsets_after) (take (4 * a.counts.quads) a.quads_after) spacing)) room
ply_of_mesh {nx} {ny} {nz} {s} {cut} a grey spacing room good =
    rw (words_front a, offsets_front a, quads_front a) (listed nx ny nz s cut grey (limits a) spacing room good)
