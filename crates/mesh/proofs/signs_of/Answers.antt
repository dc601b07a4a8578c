-- `signs_of` meets its contract: what is so of the list that is read is so of the block.
-- Assumes nothing.
use mathlib.Core.Path.{◌≡◌, sym, ◌∙◌}
use lib.ListN.{length}
use Rattle.laws.specs.Below.{over}
use Rattle.block.specs.Numbering.{sample_count}
use Rattle.signs.specs.Signs.{plane_words}
use Rattle.readings.proofs.Readings.{greys_length}
use Rattle.mesh.proofs.Sources.{of_samples, for_samples, of_readings, for_readings}
use Rattle.mesh.proofs.signs_of.Goals as goal

pub plane_signs-requires : goal.plane_signs-requires
plane_signs-requires c =
    let a = c.args in
    (c.requires.0.limits, of_samples a.samples.now a.readings.now (λ l. length l ≡ sample_count a.size) c.in-Samples.is c.requires.0.samples, c.requires.2, c.requires.3)

pub plane_signs-requires-in-Readings : goal.plane_signs-requires-in-Readings
plane_signs-requires-in-Readings c =
    let a = c.args in
    let e = c.in-Readings.is in (
      c.requires.0.limits,
      sym (greys_length a.readings.now) ∙ of_readings a.samples.now a.readings.now (λ l. length l ≡ sample_count a.size) e c.requires.0.samples,
      c.requires.2,
      c.requires.3,
      c.requires.1 e,
    )

pub returns-in-Samples : goal.returns-in-Samples
returns-in-Samples c =
    let a = c.args in
    for_samples a.samples.now a.readings.now (λ l. c.plane_signs.new.plane ≡ over (plane_words a.size l a.cut a.k) a.plane.now) c.in-Samples.is c.plane_signs.ensures

pub returns-in-Readings : goal.returns-in-Readings
returns-in-Readings c =
    let a = c.args in
    for_readings a.samples.now a.readings.now (λ l. c.plane_signs-in-Readings.new.plane ≡ over (plane_words a.size l a.cut a.k) a.plane.now) c.in-Readings.is c.plane_signs-in-Readings.ensures
