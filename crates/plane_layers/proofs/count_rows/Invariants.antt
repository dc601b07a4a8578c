-- `count_rows` meets its contract: whatever block has these planes, the marks are moved by its rows before j.
-- Assumes nothing.
use Prim.Native.Nat.{ℕ}
use mathlib.Core.List.{List}
use Rattle.cube_rule.specs.Decider.{loops_of}
use Rattle.plane_layers.specs.Memory.{Shown}
use Rattle.plane_layers.specs.Layer.{RowsMarked}
use Rattle.plane_layers.proofs.count_rows.Given as goal

abbrev pub invariant-loop-j : goal.invariant-loop-j
invariant-loop-j l = (s : List ℕ) → Shown l.layer.size l.layer.k l.work l.plane s → RowsMarked loops_of l.layer.size s l.layer.cut l.layer.k 0 0 l.j l.m
