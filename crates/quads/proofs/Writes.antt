-- Lists written one behind the other into a buffer.
-- Assumes nothing.
use Rattle.std.proofs.Common.{◌≡◌, ℕ, ◌+◌, ◌<◌, ◌≤◌, List, length, sym, ap, arith}
use lib.Seq.{sets}
use lib.Count.{count_trailing_zeros}
use Rattle.laws.specs.Below.{below}
use Rattle.laws.proofs.Below.{length-below}
use Rattle.laws.specs.Put.{Put}
use Rattle.laws.proofs.Puts.{put_none, put_length, put_further, put_then, put_as}
use Rattle.laws.proofs.Visit.{Left, below_none, below_one}
use Rattle.rows.specs.Rows.{picked}
use Rattle.rows.proofs.Visits.{bits_of, picked_next, picked_end, picked_room}

-- ---- the quads of 64 edges, one for each set bit

module _ (d : ℕ) (f : ℕ → List ℕ) {i w : ℕ} (l : Left (bits_of d) 64 i w) {from p : ℕ} {b v : List ℕ} (h : Put b from (below (picked d f) i) v p) where
  pub emit_room : (w ≡ 0 → ⊥) → length (f (i + count_trailing_zeros 64 w)) ≡ 4 → from + length (below (picked d f) 64) ≤ length b → p + 4 ≤ length v
  emit_room ne four room = omega (arith, h.behind, put_length h, picked_room d l f ne, four)

  pub emit_next : (w ≡ 0 → ⊥) → length (f (i + count_trailing_zeros 64 w)) ≡ 4 → (v' : List ℕ) → v' ≡ sets v p (f (i + count_trailing_zeros 64 w))
      → Put b from (below (picked d f) (i + count_trailing_zeros 64 w + 1)) v' (p + 4)
  emit_next ne four v' e = put_as (sym (picked_next d l f ne)) (put_further (f (i + count_trailing_zeros 64 w)) v' (p + 4) h e (ap (λ (m : ℕ). p + m) (sym four)))

  pub emit_end : w ≡ 0 → Put b from (below (picked d f) 64) v p
  emit_end e = put_as (picked_end d l f e) h

-- ---- the words of a row, one behind the other

module _ (f : ℕ → List ℕ) where
  pub words_none : (from : ℕ) (b : List ℕ) → Put b from (below f 0) b from
  words_none from b = put_as (sym (below_none f)) (put_none b from)

  pub words_more : {w from end on : ℕ} {b v u : List ℕ} → Put b from (below f w) v end → Put v end (f w) u on → Put b from (below f (w + 1)) u on
  words_more {w} g h = put_as (sym (below_one f w)) (put_then _ g h)

  pub words_room : {w m from end : ℕ} {b v : List ℕ} → w < m → from + length (below f m) ≤ length b → Put b from (below f w) v end → end + length (f w) ≤ length v
  words_room {w} {m} l h g = omega (arith, g.behind, put_length g, length-below f m w l)
