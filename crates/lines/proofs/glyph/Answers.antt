-- `glyph` meets its contract: a figure or a letter.
-- Assumes nothing.
use Rattle.reading.proofs.Digits.{glyph_low, glyph_high}
use Rattle.lines.proofs.glyph.Goals as goal

pub returns-then-d-lt10 : goal.returns-then-d-lt10
returns-then-d-lt10 c = glyph_low _ c.requires c.if-d-lt10.true

pub returns : goal.returns
returns c = glyph_high _ c.requires c.if-d-lt10.false
