-- `tell_length` meets its contract: the length, or zero.
-- Assumes nothing.
use mathlib.Core.Path.{◌≡◌, sym, ap}
use mathlib.Core.List.{[], ◌∷◌}
use Rattle.laws.specs.Filled.{filled}
use Rattle.block.specs.declared.Refusal.{Refusal}
use Rattle.ply.specs.declared.Filed.{Filed}
use Rattle.ply.specs.declared.Filed.TheVariants.{Refused}
use Rattle.ply.specs.Answer.{said_file}
use Rattle.told.specs.Numbers.{told_length}
use Rattle.told.proofs.tell_length.Goals as goal

-- what is told of a refusal
none_told : {x : Filed} {r : Refusal} → x ≡ Refused r → 0 ∷ [] ≡ told_length (said_file x)
unfolding filled
none_told e = sym (ap (λ (x : Filed). told_length (said_file x)) e)

pub returns-in-Bytes : goal.returns-in-Bytes
unfolding filled
returns-in-Bytes c = sym (ap (λ (x : Filed). told_length (said_file x)) c.in-Bytes.is)

pub returns-in-Refused : goal.returns-in-Refused
returns-in-Refused c = none_told c.in-Refused.is
