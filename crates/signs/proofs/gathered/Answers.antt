-- `gathered` meets its contract: each eight bytes more are read as one word, and with rows and columns exchanged all 64 stand in order.
-- Assumes nothing.
use Rattle.std.proofs.Common.{◌≡◌, ℕ, ◌+◌, ◌*◌, ◌≤◌, length, ap, ◌∙◌, arith}
use Rattle.laws.specs.Pack.{pack}
use Rattle.signs.proofs.Spread.{spread_at, part_word, spread_none, spread_more, spread_exchanged}
use Rattle.signs.proofs.gathered.Goals as goal

pub loop-k-init : goal.loop-k-init
loop-k-init c = spread_none c.args.bytes.now c.args.w

pub loop-k-preserved : goal.loop-k-preserved
loop-k-preserved c =
    let bytes = c.args.bytes.now in
    let inside : 64 * c.args.w + 8 * c.loop-k.k + 8 ≤ length bytes = omega arith in
    rw c.loop-k.invariant (spread_more bytes c.requires.2 c.args.w c.loop-k.k c.loop-k-test.true c.eight_of.result (c.eight_of.ensures ∙ part_word bytes _ inside))

pub returns : goal.returns
returns c =
    let all : c.loop-k.k ≡ 8 = omega arith in
    c.transposed.ensures ∙ spread_exchanged c.args.bytes.now c.requires.2 c.args.w c.loop-k.y (c.loop-k.invariant ∙ ap (λ (k : ℕ). pack (spread_at c.args.bytes.now c.args.w k) 64) all)
