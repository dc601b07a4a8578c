-- `number` meets its contract: four digits, each worth what the definition says.
-- Assumes nothing.
use Rattle.reading.proofs.Reading.{number_read}
use Rattle.reading.proofs.number.Goals as goal

pub returns : goal.returns
returns c = number_read c.args.input.now _ _ _ _ _ c.digit_at-a.ensures.value c.digit_at-b.ensures.value c.digit_at-c.ensures.value c.digit_at-d.ensures.value
