-- `active_step` meets its contract: the row's vertices are written and noted in its half of the numbers, and then its quads by all of them.
-- Assumes nothing.
use Prim.Native.Nat.{ℕ}
use mathlib.Core.Path.{◌≡◌, sym, ◌∙◌}
use mathlib.Core.List.{List}
use lib.ListN.{length}
use Rattle.layers.proofs.Halves.{lent_half_lem, lent_long, put_long, put_here, put_other}
use Rattle.layers.proofs.Steps.{ready_as, quads_as, written_as}
use Rattle.layers.proofs.active_step.Goals as goal

pub returns : goal.returns
returns c =
    let tab : List ℕ = c.args.here.now in
    let noted : List ℕ = c.write_row-v.new.numbers in
    let long : length (noted) ≡ 512 = c.write_row-v.ensures.noted.long ∙ lent_long c.args.row.j (tab) c.requires.3 in
    let j = c.args.row.j in
    record {
      long = put_long j tab noted c.requires.3 long;
      prev_kept = put_other j tab noted c.requires.3 long;
      written = written_as (lent_half_lem j tab) (sym (put_here j tab noted c.requires.3 long)) (sym c.row_quads.ensures.0) c.write_row-v.ensures;
      more = quads_as c.write_row-v.result c.row_quads.ensures.1;
    }

pub row_quads-requires : goal.row_quads-requires
row_quads-requires c =
    let tab : List ℕ = c.args.here.now in
    let noted : List ℕ = c.write_row-v.new.numbers in
    let long : length (noted) ≡ 512 = c.write_row-v.ensures.noted.long ∙ lent_long c.args.row.j (tab) c.requires.3 in
    (ready_as c.write_row-v.result c.requires.2, put_long c.args.row.j tab noted c.requires.3 long)
