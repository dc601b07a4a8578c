-- `check_buffers` meets its contract: the first of rows 5 and 6 that refuses decides.
-- Assumes nothing.
use mathlib.Core.Path.{sym}
use native.Mathlib.Omega.{arith}
use Rattle.mesh.proofs.BufferRows.{short_words, short_offsets, short_quads, roomy}
use Rattle.mesh.proofs.check_buffers.Goals as goal

pub returns-then-words-v : goal.returns-then-words-v
returns-then-words-v c =
    let a = c.args in
    sym (short_words a.vertices a.quads a.words a.offsets a.lent (omega arith) c.if-words-v.true)

pub returns-then-offsets-v : goal.returns-then-offsets-v
returns-then-offsets-v c =
    let a = c.args in
    sym (short_offsets a.vertices a.quads a.words a.offsets a.lent (omega arith) c.if-words-v.false c.if-offsets-v.true)

pub returns-then-lent-quads : goal.returns-then-lent-quads
returns-then-lent-quads c =
    let a = c.args in
    sym (short_quads a.vertices a.quads a.words a.offsets a.lent (omega arith) c.if-words-v.false c.if-offsets-v.false c.if-lent-quads.true)

pub returns : goal.returns
returns c =
    let a = c.args in
    sym (roomy a.vertices a.quads a.words a.offsets a.lent c.if-words-v.false c.if-offsets-v.false c.if-lent-quads.false)
