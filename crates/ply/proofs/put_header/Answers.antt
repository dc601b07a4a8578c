-- `put_header` meets its contract: three texts, with the counts between them.
-- Assumes nothing.
use mathlib.Core.Path.{refl}
use Rattle.file_bytes.specs.Bytes.{ascii}
use Rattle.ply.specs.File.{header}
use Rattle.ply.proofs.Files.{header_put}
use Rattle.ply.proofs.put_header.Goals as goal

pub returns-clause-put : goal.returns-clause-put
unfolding header ascii
returns-clause-put c =
    let p =
    header_put _ _ _ _ _ refl c.put_text-a.ensures.put c.put_decimal-b.ensures.put c.put_text-c.ensures.put c.put_decimal-d.ensures.put c.put_text.ensures.put in
    let a = c.args in p
