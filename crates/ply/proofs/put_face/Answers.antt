-- `put_face` meets its contract: how many numbers, and each of them.
-- Assumes nothing.
use native.Mathlib.Omega.{arith}
use Rattle.ply.proofs.Files.{face_put}
use Rattle.ply.proofs.put_face.Goals as goal

pub returns-clause-put : goal.returns-clause-put
returns-clause-put c =
    let p = face_put _ _ _ _ _ (omega arith) c.put_one-n.ensures.put c.put_four-a.ensures.put c.put_four-b.ensures.put c.put_four-c.ensures.put c.put_four.ensures.put in p
