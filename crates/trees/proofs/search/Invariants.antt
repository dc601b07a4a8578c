-- `search` meets its contract: what is left of the search leads to the same top.
-- Assumes nothing.
use mathlib.Core.Path.{◌≡◌}
use Prim.Native.Nat.{◌+◌, ◌<◌}
use lib.ListN.{length}
use Rattle.trees.specs.Forest.{at, top_of, links_of}
use Rattle.trees.proofs.search.Given as goal

abbrev pub invariant-loop-above : goal.invariant-loop-above
invariant-loop-above l =
    let up = at l.up in
    let n = length l.up in
    record {
      inside : l.top < n;
      above_inside : l.above < n;
      above : l.above ≡ up l.top;
      finds : top_of up n l.v ≡ top_of up n l.top;
      follows : links_of up n l.v ≡ l.links + links_of up n l.top;
    }

abbrev pub decreases-loop-above : goal.decreases-loop-above
decreases-loop-above l = links_of (at l.up) (length l.up) l.top
