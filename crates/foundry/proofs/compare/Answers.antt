-- `compare` meets its contract: the first vertex at fault, else the first quad, else the counts.
-- Assumes nothing.
use mathlib.Core.Path.{ap}
use Rattle.block.specs.Answer.{accepted}
use Rattle.foundry.proofs.SoundQuads.{all_inside}
use Rattle.foundry.proofs.Outcome.{vertex_named, all_sound, quad_named, same_named, missing_named}
use Rattle.foundry.proofs.compare.Goals as goal

pub returns-then-v-vertices : goal.returns-then-v-vertices
returns-then-v-vertices c =
    let a = c.args in
    ap accepted (vertex_named a.size a.samples.now a.cut a.words.now a.offsets.now a.quads.now c.first_fault-v.result c.first_fault-v.ensures c.if-v-vertices.true)

pub first_fault-q-requires-clause-quads_inside : goal.first_fault-q-requires-clause-quads_inside
first_fault-q-requires-clause-quads_inside c =
    let a = c.args in
    let sound = all_sound a.size a.samples.now a.cut a.words.now a.offsets.now a.quads.now c.first_fault-v.result c.first_fault-v.ensures c.if-v-vertices.false in all_inside a.size a.samples.now a.cut a.words.now a.offsets.now a.quads.now sound c.requires.quads_below c.requires.shaped.few

pub returns-then-q-all : goal.returns-then-q-all
returns-then-q-all c =
    let a = c.args in
    ap accepted (quad_named a.size a.samples.now a.cut a.words.now a.offsets.now a.quads.now c.first_fault-v.result c.first_fault-v.ensures c.requires.quads_below c.if-v-vertices.false c.first_fault-q.result c.first_fault-q.ensures c.if-q-all.true)

pub returns-then-is_whole : goal.returns-then-is_whole
returns-then-is_whole c =
    let a = c.args in
    ap accepted (same_named a.size a.samples.now a.cut a.words.now a.offsets.now a.quads.now c.first_fault-v.result c.first_fault-v.ensures c.requires.quads_below c.if-v-vertices.false c.first_fault-q.result c.first_fault-q.ensures c.if-q-all.false c.is_whole.result c.is_whole.ensures c.if-is_whole.true)

pub returns : goal.returns
returns c =
    let a = c.args in
    ap accepted (missing_named a.size a.samples.now a.cut a.words.now a.offsets.now a.quads.now c.first_fault-v.result c.first_fault-v.ensures c.requires.quads_below c.if-v-vertices.false c.first_fault-q.result c.first_fault-q.ensures c.if-q-all.false c.is_whole.result c.is_whole.ensures c.if-is_whole.false)
