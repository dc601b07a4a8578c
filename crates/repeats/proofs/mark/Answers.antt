use borrow.Author.Rules.{rules}
use Rattle.repeats.proofs.Marks.{marked}
use Rattle.repeats.proofs.mark.Goals as goal

pub returns-clause-marked : goal.returns-clause-marked
returns-clause-marked c = marked c.args.table.now c.args.k (search rules)
