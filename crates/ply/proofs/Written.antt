-- What `write` answers: a refusal, which leaves the buffer as it was, or the length of the file, which is over the front of the buffer.
-- Assumes nothing.
use Prim.Native.Nat.{ℕ, ◌≤◌}
use mathlib.Core.Path.{◌≡◌, sym, ◌∙◌}
use mathlib.Core.List.{List}
use native.Mathlib.Omega.{arith}
use lib.ListN.{length}
use lib.Ieee.{Float}
use Rattle.laws.specs.Put.{Put}
use Rattle.laws.proofs.Puts.{put_over}
use Rattle.block.specs.declared.Refusal.{Refusal}
use Rattle.block.specs.declared.Checked.TheVariants.{Passes, Refuses}
use Rattle.block.specs.Size.{size_of}
use Rattle.block.proofs.Order.{judged_refused, judged_passed, written_refused, written_passed}
use Rattle.ply.specs.declared.Spacing.{Spacing}
use Rattle.ply.specs.declared.Filed.TheVariants.{Bytes, Refused}
use Rattle.ply.specs.File.{ply_file}
use Rattle.ply.specs.Answer.{ply_verdict, PlyWritten}
use Rattle.ply.proofs.Accepted.{accepted_is}
use Rattle.ply.proofs.Files.{ply_length}

module _ (nx ny nz : ℕ) (words : List ℕ) (offsets : List Float) (quads : List ℕ) (s : Spacing) (file : List ℕ) where
  pub file_refused : (r : Refusal) → ply_verdict nx ny nz words offsets quads s (length file) ≡ Refuses r → PlyWritten nx ny nz words offsets quads s file (Refused r) file
  file_refused r e = record { answer = judged_refused _ _ r e; bytes = sym (written_refused _ _ file r e) }

  -- where no row holds, there is room for the file
  pub file_fits : ply_verdict nx ny nz words offsets quads s (length file) ≡ Passes → length (ply_file (size_of nx ny nz) words offsets quads s) ≤ length file
  file_fits e = omega (arith, ply_length (size_of nx ny nz) words offsets quads s, (accepted_is nx ny nz words offsets quads s (length file) e).fits)

  pub file_written : (next : ℕ) (file' : List ℕ) → ply_verdict nx ny nz words offsets quads s (length file) ≡ Passes
      → Put file 0 (ply_file (size_of nx ny nz) words offsets quads s) file' next → PlyWritten nx ny nz words offsets quads s file (Bytes next) file'
  file_written next file' e p = record {
    answer = judged_passed _ _ _ e (omega (arith, p.behind));
    bytes = put_over p (file_fits e) ∙ sym (written_passed _ _ file e);
  }
