-- A row of cubes, word by word: the vertices of one word more are stored and noted, and there is room for them.
-- Assumes nothing.
use Prim.Native.Nat.{ℕ, ◌+◌, ◌*◌, ◌-◌, ◌≤◌, ◌<◌}
use mathlib.Core.Path.{◌≡◌, ap, ◌∙◌, subst}
use mathlib.Core.List.{List}
use native.Mathlib.Omega.{arith}
use lib.Bits.{bit_and}
use lib.ListN.{length, length-append}
use lib.Ieee.{Float}
use Rattle.laws.specs.Below.{below}
use Rattle.block.specs.declared.Cut.{Cut}
use Rattle.cube_rule.specs.Laws.{CubeLaws}
use Rattle.cube_rule.specs.Links.{Decider}
use Rattle.rows.specs.Rows.{loops_at, word_loops, RowReady, picked}
use Rattle.cube_vertices.specs.Cubes.{names_at, words_at, offsets_at, Stored, names_by, words_by, offsets_by}
use Rattle.vertices.specs.Layers.{WordRoom, WordWritten, RowRoom, RowWritten, word_words, word_offsets}
use Rattle.notes.specs.Tables.{Noted}
use Rattle.notes.proofs.Notes.{noted_none, noted_as, noted_join, noted_fewer}
use Rattle.cube_vertices.proofs.Stored.{stored_none, stored_join, stored_words, stored_offsets}
use Rattle.rows.proofs.Words.{up_to, up_to_in, up_to_out, up_to_all, up_to_word, set_in, loops_same, loops_word, act_of, word_same, row_word_lem}
use Rattle.rows.proofs.WordSteps.{WordTold, masks_to, masks_le, act_is, word_more}

module _ (loops_of : Cut → List ℕ → List ℕ) (lo hi : List ℕ) (cut : Cut) (nx : ℕ) where
  -- the words and offsets of the row's cubes before x
  abbrev pub words_to : ℕ → ℕ → List ℕ
  words_to c x = below (up_to (nx - 1) (λ (y : ℕ). words_at loops_of lo hi cut nx (c + y) y)) x

  abbrev pub offsets_to : ℕ → List Float
  offsets_to x = below (up_to (nx - 1) (offsets_at loops_of lo hi cut nx)) x

-- ---- the cubes picked by their bits give what the row's cubes give: of their words, names and offsets

module _ {D : Decider} {loops_of : Cut → List ℕ → List ℕ} (laws : CubeLaws D loops_of) {lo hi : List ℕ} {cut : Cut} {a b : List ℕ} {nx j : ℕ} (ready : RowReady lo hi cut a b nx j) (w : ℕ) (hw : w < 4) where
  abbrev act : ℕ
  act = act_of ready w hw

  pub names_same : (x : ℕ) → x < 64 → picked act (λ (x : ℕ). names_at loops_of lo hi cut nx (64 * w + x)) x ≡ up_to (nx - 1) (names_at loops_of lo hi cut nx) (64 * w + x)
  names_same = word_same laws ready w hw 0 (λ cs c. names_by loops_of cut cs) (λ cs c q. rw q)

  pub words_word : (c : ℕ) → word_words loops_of lo hi cut nx act (64 * w) (c + 64 * w) ≡ below (λ (x : ℕ). up_to (nx - 1) (λ (y : ℕ). words_at loops_of lo hi cut nx (c + y) y) (64 * w + x)) 64
  words_word c = row_word_lem laws ready w hw c (λ cs c. words_by loops_of cut cs c) (λ cs c q. rw q)

  pub offsets_word : word_offsets loops_of lo hi cut nx act (64 * w) ≡ below (λ (x : ℕ). up_to (nx - 1) (offsets_at loops_of lo hi cut nx) (64 * w + x)) 64
  offsets_word = row_word_lem laws ready w hw 0 (λ cs c. offsets_by loops_of cut cs) (λ cs c q. rw q)

-- the vertices of the cubes of the words before w were stored and noted, from the place v on
pub record RowPart (loops_of : Cut → List ℕ → List ℕ) (lo hi : List ℕ) (cut : Cut) (nx c w first v : ℕ) (w₀ ws : List ℕ) (o₀ os : List Float) (old new : List ℕ) (r : ℕ) : Type 0 where
  pub stored : Stored v (masks_to loops_of lo hi cut nx (64 * w)) (words_to loops_of lo hi cut nx c (64 * w)) (offsets_to loops_of lo hi cut nx (64 * w)) w₀ ws o₀ os r
  pub noted : Noted (up_to (nx - 1) (loops_at loops_of lo hi cut nx)) (up_to (nx - 1) (names_at loops_of lo hi cut nx)) 0 (64 * w) (first + v) old new

pub row_start : (loops_of : Cut → List ℕ → List ℕ) (lo hi : List ℕ) (cut : Cut) (nx c first v : ℕ) (ws : List ℕ) (os : List Float) (numbers : List ℕ) → RowPart loops_of lo hi cut nx c 0 first v ws ws os os numbers numbers v
unfolding below
row_start loops_of lo hi cut nx c first v ws os numbers = record { stored = stored_none v ws os; noted = noted_none _ _ 0 (first + v) numbers }

pub row_end : {loops_of : Cut → List ℕ → List ℕ} {lo hi : List ℕ} {cut : Cut} {nx c w first v : ℕ} {w₀ ws : List ℕ} {o₀ os : List Float} {old new : List ℕ} {r : ℕ}
    → RowPart loops_of lo hi cut nx c w first v w₀ ws o₀ os old new r → nx - 1 ≤ 64 * w → RowWritten loops_of lo hi cut nx c first v w₀ ws o₀ os old new r
row_end {loops_of} {lo} {hi} {cut} {nx} {c} {w} {first} {v} {w₀} {ws} {o₀} {os} {old} {new} p h = record {
  stored =
      rw (
        ← up_to_all (nx - 1) (loops_at loops_of lo hi cut nx) (64 * w) h,
        ← up_to_all (nx - 1) (λ (y : ℕ). words_at loops_of lo hi cut nx (c + y) y) (64 * w) h,
        ← up_to_all (nx - 1) (offsets_at loops_of lo hi cut nx) (64 * w) h,
      ) p.stored;
  noted =
      noted_as (noted_fewer h (λ z k l. up_to_out (nx - 1) (names_at loops_of lo hi cut nx) z k) p.noted) (loops_at loops_of lo hi cut nx) (names_at loops_of lo hi cut nx)
      (λ y k. up_to_in (nx - 1) (loops_at loops_of lo hi cut nx) y k) (λ y k. up_to_in (nx - 1) (names_at loops_of lo hi cut nx) y k);
}

module _ {D : Decider} {loops_of : Cut → List ℕ → List ℕ} (laws : CubeLaws D loops_of) {lo hi : List ℕ} {cut : Cut} {a b : List ℕ} {nx j : ℕ} (ready : RowReady lo hi cut a b nx j) (w : ℕ) (hw : w < 4)
    {eight : List ℕ} {active limit : ℕ} (t : WordTold a b nx j w eight active limit) where
  -- one word more: its vertices
  module _ {c first v m : ℕ} {w₀ ws : List ℕ} {o₀ os : List Float} {old new : List ℕ} (p : RowPart loops_of lo hi cut nx c w first v w₀ ws o₀ os old new m) where
    pub row_next : {r : ℕ} {ws' : List ℕ} {os' : List Float} {new' : List ℕ} → WordWritten loops_of lo hi cut nx (64 * w) (bit_and active limit) (c + 64 * w) first m ws ws' os os' new new' r
        → RowPart loops_of lo hi cut nx c (w + 1) first v w₀ ws' o₀ os' old new' r
    row_next {r} {ws'} {os'} {new'} q = record {
      stored =
          rw (
            up_to_word (nx - 1) (loops_at loops_of lo hi cut nx) w,
            up_to_word (nx - 1) (λ (y : ℕ). words_at loops_of lo hi cut nx (c + y) y) w,
            up_to_word (nx - 1) (offsets_at loops_of lo hi cut nx) w,
          )
          (stored_join p.stored (rw (act_is laws ready w hw t, loops_word laws ready w hw, words_word laws ready w hw c, offsets_word laws ready w hw) at q.stored));
      noted =
          subst (λ (n : ℕ). Noted (up_to (nx - 1) (loops_at loops_of lo hi cut nx)) (up_to (nx - 1) (names_at loops_of lo hi cut nx)) 0 n (first + v) old new') more
          (noted_join p.noted number
          (noted_as (rw (act_is laws ready w hw t) at q.noted) (λ (y : ℕ). up_to (nx - 1) (loops_at loops_of lo hi cut nx) (64 * w + y)) (λ (y : ℕ). up_to (nx - 1) (names_at loops_of lo hi cut nx) (64 * w + y)) (loops_same laws ready w hw) (names_same laws ready w hw)));
    }
      where
        more : 64 * w + 64 ≡ 64 * (w + 1)
        more = omega arith

        number : first + m ≡ first + v + length (masks_to loops_of lo hi cut nx (64 * w))
        number = omega (arith, p.stored.number)

    -- for which there is room, if there is for the row's
    pub row_room : RowRoom loops_of lo hi cut nx c first v w₀ o₀ old → WordRoom loops_of lo hi cut nx (64 * w) (bit_and active limit) (c + 64 * w) first m ws os new
    row_room room =
        let more = ap length (word_more laws ready w hw t) ∙ length-append (masks_to loops_of lo hi cut nx (64 * w)) (word_loops loops_of lo hi cut nx (bit_and active limit) (64 * w)) in
        let all = masks_le loops_of lo hi cut nx (64 * (w + 1)) in
        record {
          small = omega (arith, room.small);
          threshold = room.threshold;
          words_room = omega (arith, p.stored.number, stored_words p.stored, room.words_room);
          offsets_room = omega (arith, p.stored.number, stored_offsets p.stored, room.offsets_room);
          numbers_room = λ x h s. omega (arith, set_in ready w hw x h (rw (act_is laws ready w hw t) at s), ready.long, p.noted.long, room.numbers_room);
          few = omega (arith, p.stored.number, room.few);
        }
