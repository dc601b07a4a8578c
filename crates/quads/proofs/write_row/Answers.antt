-- `write_row` meets its contract.
-- Assumes nothing.
use Rattle.std.proofs.Common.{◌≡◌, ℕ, ◌+◌, ◌*◌, ◌≤◌, List, length, get_or, sym, ap, subst, arith}
use Rattle.quads.specs.declared.Order.{Order}
use Rattle.laws.proofs.Puts.{put_as}
use Rattle.quads.proofs.RowQuads.{edge_reach}
use Rattle.quads.proofs.Writes.{words_none, words_more, words_room}
use Rattle.quads.proofs.write_row.Goals.{After-edges}
use Rattle.quads.proofs.write_row.Goals as goal
use Rattle.quads.proofs.write_row.Invariants.{run_by, word_of}

-- equal orders and equal words of edges have equal quads
same_run : {o p : Order} {d e : ℕ} (n0 n1 n2 n3 : List ℕ) (up x : ℕ) → o ≡ p → d ≡ e → run_by o n0 n1 n2 n3 d up x ≡ run_by p n0 n1 n2 n3 e up x
same_run n0 n1 n2 n3 up x o d = rw (o, d)

-- so the run of a word has the word's quads
told : (c : After-edges)
    → let a = c.args in let w = c.loop-w.w in
    run_by c.order_of-order.result a.n0.now a.n1.now a.n2.now a.n3.now c.edges.result (get_or a.a.now (5 * a.line.j + w) 0) (64 * w) ≡ word_of a.line a.a.now a.b.now a.n0.now a.n1.now a.n2.now a.n3.now w
told c = same_run _ _ _ _ _ _ c.order_of-order.ensures.value c.edges.ensures

pub loop-w-init : goal.loop-w-init
loop-w-init c = words_none _ _ _

pub emit-p-requires : goal.emit-p-requires
emit-p-requires c =
    let a = c.args in
    let h = c.loop-w in
    let o = c.order_of-order in
    let l = a.line in
    let room = words_room _ (omega arith) c.requires.6 h.invariant in (
      o.ensures.e_bound,
      omega arith,
      λ i h' b. edge_reach l.along a.a.now a.b.now l.nx l.j h.w i h' _ _ _ _ c.requires.5 _ _ c.edges.ensures (ap (λ (o : Order). o.back) o.ensures.value) b,
      subst (λ (xs : List ℕ). h.p + length xs ≤ length h.quads) (sym (told (goal.at.emit-p-requires c).After-edges)) room,
    )

pub loop-w-preserved : goal.loop-w-preserved
loop-w-preserved c = words_more _ c.loop-w.invariant (put_as (told (goal.at.loop-w-preserved c).After-edges) c.emit-p.ensures)
