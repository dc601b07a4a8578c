-- The sign of a reading is that of its grey value.
-- Assumes nothing.
use Rattle.std.proofs.Common.{ap, sym, ◌∙◌, arith}
use Rattle.laws.specs.Bits.{bit}
use Rattle.reading_rows.proofs.Windows.{sign_is}
use Rattle.reading_rows.proofs.ReadingsSamples.sign.Goals as goal

pub returns-then-t-self-clause-value : goal.returns-then-t-self-clause-value
returns-then-t-self-clause-value c = ap bit (sym (sign_is _ c.args.self.sound c.args.i c.args.t c.requires (omega arith) ∙ c.if-t-self.true))

pub returns-else-t-self-clause-value : goal.returns-else-t-self-clause-value
returns-else-t-self-clause-value c = ap bit (sym (sign_is _ c.args.self.sound c.args.i c.args.t c.requires (omega arith) ∙ c.if-t-self.false))
