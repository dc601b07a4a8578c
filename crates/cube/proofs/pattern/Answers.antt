-- `cube::pattern` meets its contract.
-- Assumes nothing.
use mathlib.Core.Path.{◌≡◌, refl, ap, ◌∙◌}
use mathlib.Core.Bool.{Bool, true, false}
use Prim.Native.Nat.{ℕ, ◌+◌, ◌*◌, ◌^◌, ◌%◌, ◌<◌}
use native.Mathlib.Numerals.{add-one}
use native.Mathlib.Nat.{one-mul, zero-mul, add-zero}
use native.Mathlib.Omega.{arith}
use lib.Pow.{pow-lt}
use borrow.Author.Tests.{le-leb, lt-leb}
use Rattle.laws.specs.Bits.{mask_of}
use Rattle.laws.proofs.Bits.{mask_lt, shift_one}
use Rattle.cube_rule.specs.Edges.{corner_sample, pattern_of}
use Rattle.cube.proofs.pattern.Goals as goal
use Rattle.cube.proofs.pattern.Goals.{After-loop-c, then-cut-sample, else-cut-sample}
use Rattle.cube.proofs.pattern.Invariants.{signs}

-- the mask after a corner that is positive or negative
mask_next : (f : ℕ → Bool) (p c : ℕ) → p ≡ mask_of f c → f c ≡ true → c < 32 → p + 1 * 2 ^ c % 2 ^ 32 ≡ mask_of f (c + 1)
unfolding mask_of
mask_next f p c e t h = rw (add-one, t, shift_one c 32 h, e, one-mul)

mask_kept : (f : ℕ → Bool) (p c : ℕ) → p ≡ mask_of f c → f c ≡ false → p ≡ mask_of f (c + 1)
unfolding mask_of
mask_kept f p c e t = rw (add-one, t, e, zero-mul, add-zero)

pub loop-c-init : goal.loop-c-init
unfolding mask_of
loop-c-init c = refl

pub overflow_add-p : goal.overflow_add-p
overflow_add-p c =
    let i = c.loop-c.c in
    let b : 2 ^ i < 2 ^ 8 = pow-lt c.loop-c-test.true in
    let e = shift_one i 32 (omega arith) in
    let m = mask_lt (signs c.args.cut c.args.corners) i in
    omega (arith, c.loop-c.invariant)

pub loop-c-preserved : goal.loop-c-preserved
loop-c-preserved c =
    let t = c.args.cut.t in
    let sample = corner_sample c.args.corners c.loop-c.c in
    let f = signs c.args.cut c.args.corners in
    elim c.if-cut-sample.branch [
      | then-cut-sample w ↦
          w.p-is
          ∙ mask_next f c.loop-c.p c.loop-c.c c.loop-c.invariant (le-leb t sample (omega arith)) (omega arith)
      | else-cut-sample w ↦ w.p-is ∙ mask_kept f c.loop-c.p c.loop-c.c c.loop-c.invariant (lt-leb t sample (omega arith))
    ]

-- after the loop it is the mask of all eight
whole : (c : After-loop-c) → c.loop-c.p ≡ mask_of (signs c.args.cut c.args.corners) 8
whole c =
    let all : c.loop-c.c ≡ 8 = omega arith in c.loop-c.invariant ∙ ap (mask_of (signs c.args.cut c.args.corners)) all

pub returns-clause-value : goal.returns-clause-value
unfolding pattern_of
returns-clause-value c = whole c

pub returns-clause-upper_bound : goal.returns-clause-upper_bound
returns-clause-upper_bound c = rw (whole c) (mask_lt (signs c.args.cut c.args.corners) 8)
