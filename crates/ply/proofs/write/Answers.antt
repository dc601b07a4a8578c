-- `write` meets its promise: a refusal leaves the buffer as it was, and else the file is over its front.
-- Assumes nothing.
use mathlib.Core.Path.{sym, ◌∙◌}
use Rattle.ply.proofs.Written.{file_refused, file_written}
use Rattle.ply.proofs.write.Goals as goal

pub returns-in-Refuses : goal.returns-in-Refuses
returns-in-Refuses c =
    let a = c.args in
    file_refused a.nx a.ny a.nz a.words.now a.offsets.now a.quads.now a.spacing a.file.now _ (sym c.check.ensures ∙ c.in-Refuses.is)

pub returns-in-Passes : goal.returns-in-Passes
returns-in-Passes c =
    let a = c.args in
    file_written a.nx a.ny a.nz a.words.now a.offsets.now a.quads.now a.spacing a.file.now _ _ (sym c.check.ensures ∙ c.in-Passes.is) c.put_file.ensures
