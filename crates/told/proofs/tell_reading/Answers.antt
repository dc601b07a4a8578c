-- `tell_reading` meets its contract: each case in its numbers.
-- Assumes nothing.
use mathlib.Core.Path.{sym, ap}
use Rattle.laws.specs.Filled.{filled}
use Rattle.block.specs.Answer.{decided}
use Rattle.readings.specs.declared.Reading.{Reading}
use Rattle.readings.specs.Reading.{said_reading}
use Rattle.told.specs.Numbers.{told_number}
use Rattle.told.proofs.tell_reading.Goals as goal

pub returns-in-Grey : goal.returns-in-Grey
unfolding filled decided
returns-in-Grey c = sym (ap (λ (x : Reading). told_number (said_reading x)) c.in-Grey.is)

pub returns-in-Ceiling : goal.returns-in-Ceiling
unfolding filled decided
returns-in-Ceiling c = sym (ap (λ (x : Reading). told_number (said_reading x)) c.in-Ceiling.is)

pub returns-in-NoNumber : goal.returns-in-NoNumber
unfolding filled decided
returns-in-NoNumber c = sym (ap (λ (x : Reading). told_number (said_reading x)) c.in-NoNumber.is)

pub returns-in-Infinite : goal.returns-in-Infinite
unfolding filled decided
returns-in-Infinite c = sym (ap (λ (x : Reading). told_number (said_reading x)) c.in-Infinite.is)

pub returns-in-BelowZero : goal.returns-in-BelowZero
unfolding filled decided
returns-in-BelowZero c = sym (ap (λ (x : Reading). told_number (said_reading x)) c.in-BelowZero.is)
