-- `place` meets its contract: after each step the sum is that over the mask's edges so far.
-- Assumes nothing.
use mathlib.Core.Path.{◌∙◌}
use Rattle.place.proofs.Steps.{zero_bits}
use Rattle.place.proofs.Visit.{sum_none, sum_all}
use Rattle.place.proofs.place.Goals as goal

pub returns : goal.returns
returns c =
    let a = c.args in
    let s0 = c.with_held-s0.ensures (rw zero_bits (sum_none _ _ _)) in
    let s1 = c.with_held-s1.ensures s0 in
    let s2 = c.with_held-s2.ensures s1 in
    let s3 = c.with_held-s3.ensures s2 in
    let s4 = c.with_held-s4.ensures s3 in
    let s5 = c.with_held-s5.ensures s4 in
    let s6 = c.with_held-s6.ensures s5 in
    let s7 = c.with_held-s7.ensures s6 in
    let s8 = c.with_held-s8.ensures s7 in
    let s9 = c.with_held-s9.ensures s8 in
    let s10 = c.with_held-s10.ensures s9 in
    let s11 = c.with_held-s11.ensures s10 in
    c.over.ensures ∙ sum_all a.cut a.corners a.mask c.with_held-s11.result s11
