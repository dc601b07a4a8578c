-- `write_row` meets its contract. The loop's invariant: the quads of the words before w are written.
-- Assumes nothing.
use Rattle.std.proofs.Common.{ℕ, ◌+◌, ◌*◌, List, get_or}
use Rattle.laws.specs.Below.{below}
use Rattle.quads.specs.declared.Line.{Line}
use Rattle.quads.specs.declared.Order.{Order}
use Rattle.quads.specs.Edges.{edges_of}
use Rattle.quads.specs.Writing.{order_of, word_by}
use Rattle.laws.specs.Put.{Put}
use Rattle.quads.proofs.write_row.Given as goal

-- the quads of a run
abbrev pub run_by : Order → List ℕ → List ℕ → List ℕ → List ℕ → ℕ → ℕ → ℕ → List ℕ
run_by o n0 n1 n2 n3 d up x = word_by o.e o.back o.sign n0 n1 n2 n3 d up x

-- the quads of the edges of word w of a line
abbrev pub word_of : Line → List ℕ → List ℕ → List ℕ → List ℕ → List ℕ → List ℕ → ℕ → List ℕ
word_of l a b n0 n1 n2 n3 w = run_by (order_of l.along) n0 n1 n2 n3 (edges_of l.along a b l.nx l.j w) (get_or a (5 * l.j + w) 0) (64 * w)

abbrev pub invariant-loop-w : goal.invariant-loop-w
invariant-loop-w l = Put l.initial.quads l.initial.p (below (word_of l.fn.line l.a l.b l.n0 l.n1 l.n2 l.n3) l.w) l.quads l.p
