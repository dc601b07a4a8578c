-- `tell_offsets` meets its contract: the coordinates of four offsets, one after the other.
-- Assumes nothing.
use Rattle.told.proofs.Offsets.{four_offsets}
use borrow.Author.Rules.{rules}
use Rattle.told.proofs.tell_offsets.Goals as goal

pub returns : goal.returns
returns c = four_offsets c.args.o _ (search rules)
