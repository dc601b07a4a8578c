-- `tell_file` meets its contract: each case in its numbers.
-- Assumes nothing.
use mathlib.Core.Path.{sym, ap}
use Rattle.laws.specs.Filled.{filled}
use Rattle.ply.specs.declared.Filed.{Filed}
use Rattle.ply.specs.Answer.{said_file}
use Rattle.told.specs.Numbers.{told_nothing}
use Rattle.told.proofs.tell_file.Goals as goal

pub returns-in-Bytes : goal.returns-in-Bytes
unfolding filled
returns-in-Bytes c = sym (ap (λ (x : Filed). told_nothing (said_file x)) c.in-Bytes.is)

pub returns-in-Refused : goal.returns-in-Refused
unfolding filled
returns-in-Refused c = sym (ap (λ (x : Filed). told_nothing (said_file x)) c.in-Refused.is)
