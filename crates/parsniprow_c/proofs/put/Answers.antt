-- `put` meets its contract. The loop's invariant: the first i values are over the front. The measure is what is left of them.
-- Assumes nothing.
use Prim.Native.Nat.{◌-◌}
use mathlib.Core.Path.{refl}
use native.Mathlib.Omega.{arith}
use borrow.Author.Rules.{rules}
use lib.ListN.{length-set}
use Rattle.parsniprow_c.proofs.Puts.{put_none, put_more, put_full, put_all}
use Rattle.parsniprow_c.proofs.put.Goals as goal

pub loop-i-init : goal.loop-i-init
loop-i-init c = (search rules, search rules, refl, put_none c.args.values.now c.args.place.now)

pub loop-i-preserved : goal.loop-i-preserved
loop-i-preserved c =
    let l = c.loop-i in
    let h = l.invariant in
    let s = c.args in
    (omega arith, omega arith, simp length-set h.2, put_more s.values.now s.place.now l.place l.i _ _ h.3 refl (omega arith) (omega arith))

pub returns : goal.returns
returns c =
    let h = c.loop-i.invariant in
    let s = c.args in
    put_all s.values.now s.place.now c.loop-i.place c.loop-i.i h.3 (omega arith) h.1

pub returns-then-i-place : goal.returns-then-i-place
returns-then-i-place c =
    let h = c.loop-i.invariant in
    let s = c.args in
    put_full s.values.now s.place.now c.loop-i.place c.loop-i.i h.3 (omega arith)
