-- `put_four` meets its contract. The loop's invariant: the first i words and places are written.
-- Assumes nothing.
use Rattle.std.proofs.Common.{◌≡◌, ◌*◌, take}
use Rattle.std.proofs.lemmas.List.Edits.{sets}
use Rattle.mesh_rule.specs.Buffers.{triples}
use Rattle.mesh_rule.specs.Layers.{pairs}
use Rattle.cube_vertices.proofs.put_four.Given as goal

abbrev pub invariant-loop-i : goal.invariant-loop-i
invariant-loop-i l = record {
  words_are : l.words ≡ sets l.initial.words (2 * l.v) (pairs l.c (take l.i l.four));
  offsets_are : l.offsets ≡ sets l.initial.offsets (3 * l.v) (triples (take l.i l.places));
}
