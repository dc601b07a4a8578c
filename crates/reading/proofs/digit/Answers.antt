-- `digit` meets its contract: each return is one stretch of bytes.
-- Assumes nothing.
use Rattle.reading.proofs.Digits.{before_digits, decimal_digit, between_digits, letter, behind_digits}
use Rattle.reading.proofs.digit.Goals as goal

pub returns-then-b-lt48-clause-value : goal.returns-then-b-lt48-clause-value
returns-then-b-lt48-clause-value c = before_digits _ c.requires c.if-b-lt48.true

pub returns-then-b-lt58-clause-value : goal.returns-then-b-lt58-clause-value
returns-then-b-lt58-clause-value c = decimal_digit _ c.requires c.if-b-lt48.false c.if-b-lt58.true

pub returns-then-b-lt65-clause-value : goal.returns-then-b-lt65-clause-value
returns-then-b-lt65-clause-value c = between_digits _ c.requires c.if-b-lt58.false c.if-b-lt65.true

pub returns-then-b-lt71-clause-value : goal.returns-then-b-lt71-clause-value
returns-then-b-lt71-clause-value c = letter _ c.requires c.if-b-lt65.false c.if-b-lt71.true

pub returns-clause-value : goal.returns-clause-value
returns-clause-value c = behind_digits _ c.requires c.if-b-lt71.false
