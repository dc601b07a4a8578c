-- `fault_by_chains` meets its contract.
-- Assumes nothing.
use Rattle.closed_with.proofs.Chains.{chains_followed, chained_then, chains_written}
use Rattle.closed_with.proofs.fault_by_chains.Goals as goal

pub returns-clause-work_after : goal.returns-clause-work_after
returns-clause-work_after c = chains_written _ c.args.top _ _ c.requires.0 c.requires.2 (chained_then c.clear_heads.ensures c.chain_sides.ensures)

pub first_fault-requires : goal.first_fault-requires
first_fault-requires c = (c.requires.0, c.requires.1, chains_followed c.requires.2 (chained_then c.clear_heads.ensures c.chain_sides.ensures))
