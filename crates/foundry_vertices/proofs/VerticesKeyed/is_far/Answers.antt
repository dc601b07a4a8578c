-- `is_far` meets its contract: none of 64 is counted.
-- Assumes nothing.
use Rattle.std.proofs.Common.{rules}
use Rattle.foundry_vertices.proofs.Ranges.{far_from}
use Rattle.foundry_vertices.proofs.VerticesKeyed.is_far.Goals as goal

pub returns-then-end-v-eq64 : goal.returns-then-end-v-eq64
returns-then-end-v-eq64 c =
    let s = c.args.self.now in
    λ t. far_from s.size s.samples.now s.cut s.words.now s.offsets.now c.args.r c.args.v c.args.end c.requires.end_sound c.if-end-v-eq64.true (search rules)
