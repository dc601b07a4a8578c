-- `write_row` meets its contract.
-- Assumes nothing.
use Prim.Native.Nat.{◌<◌}
use Rattle.cube_rule.specs.Decider.{joined, loops_of}
use Rattle.cube_rule.proofs.Laws.{cube_laws}
use Rattle.vertices.proofs.Rows.{row_start, row_next, row_end, row_room}
use Rattle.rows.proofs.WordSteps.{WordTold, told_ready}
use native.Mathlib.Omega.{arith}
use Rattle.vertices.proofs.write_row.Goals.{In-loop-w, After-limit}
use Rattle.vertices.proofs.write_row.Goals as goal

-- a row has four words at most
four : (c : In-loop-w) → c.loop-w.w < 4
four c = omega (arith, c.requires.0.long)

-- what the calls say of this one
told : (c : After-limit) → let a = c.args in WordTold a.a.now a.b.now a.row.nx a.row.j c.loop-w.w c.eight-e.result c.active.result c.limit.result
told c = record { eight_is = c.eight-e.ensures; active_is = c.active.ensures; limit_is = c.limit.ensures }

pub loop-w-init : goal.loop-w-init
loop-w-init c = row_start loops_of _ _ _ _ _ _ _ _ _ _

pub write_word-m-requires : goal.write_word-m-requires
write_word-m-requires c =
    let h = four (goal.at.write_word-m-requires c).In-loop-w in
    let t = told (goal.at.write_word-m-requires c).After-limit in
    let laws = cube_laws joined in
    (told_ready laws c.requires.0 _ h t, row_room laws c.requires.0 _ h t c.loop-w.invariant c.requires.1)

pub loop-w-preserved : goal.loop-w-preserved
loop-w-preserved c =
    let h = four (goal.at.loop-w-preserved c).In-loop-w in
    row_next (cube_laws joined) c.requires.0 _ h (told (goal.at.loop-w-preserved c).After-limit) c.loop-w.invariant c.write_word-m.ensures

pub returns : goal.returns
returns c = row_end c.loop-w.invariant (omega arith)
