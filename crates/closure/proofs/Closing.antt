-- If all samples on the six faces of the box are of one sign, the mesh is closed. If it is open, a face of the box cuts the surface off.
-- Assumes nothing.
use Prim.Native.Nat.{ℕ}
use mathlib.Core.Path.{◌≡◌, sym, ◌∙◌}
use mathlib.Core.Bool.{Bool}
use mathlib.Core.Logic.{⊎_elim}
use mathlib.Core.List.{List}
use native.Mathlib.Omega.{arith}
use Rattle.block.specs.declared.Cut.{Cut}
use Rattle.block.specs.declared.Size.{Size}
use Rattle.cube_rule.specs.Laws.{CubeLaws}
use Rattle.cube_rule.specs.Links.{Decider}
use Rattle.cube_rule.specs.Decider.{joined, loops_of}
use Rattle.cube_rule.proofs.Laws.{cube_laws}
use Rattle.mesh_rule.specs.Buffers.{mesh_quads}
use Rattle.mesh_rule.specs.Mesh.{quads, flat}
use Rattle.closed.specs.Closed.{all_sound, open_at, finding_of}
use Rattle.closure.specs.Faces.{FacesAre, CutOff}
use Rattle.closure.proofs.Surface.{Uncut, faces_uncut, cut_or_uncut}
use Rattle.closure.proofs.Balance.{all_balanced}
use Rattle.closure.proofs.Ends.{proper}
use Rattle.closure.proofs.Sides.{answers_closed}

-- ---- whatever decides the faces

module _ (D : Decider) (loops : Cut → List ℕ → List ℕ) (laws : CubeLaws D loops) (n : Size) (s : List ℕ) (cut : Cut) where
  uncut_closed : Uncut n s cut → finding_of (flat (quads loops n s cut)) ≡ all_sound
  uncut_closed uncut = answers_closed (quads loops n s cut) (all_balanced D loops laws n s cut uncut) (proper D loops laws n s cut)

  pub any_closed : (sign : Bool) → FacesAre sign n s cut → finding_of (flat (quads loops n s cut)) ≡ all_sound
  any_closed sign faces = uncut_closed (faces_uncut n s cut sign faces)

  -- and an open mesh is cut off
  pub any_cut : (q r : ℕ) → finding_of (flat (quads loops n s cut)) ≡ open_at q r → CutOff n s cut
  any_cut q r e = ⊎_elim (λ c. c) (λ uncut. absurd (closed_open (sym (uncut_closed uncut) ∙ e))) (cut_or_uncut n s cut)
    where
      closed_open : all_sound ≡ open_at q r → ⊥
      closed_open e = let z : ◌≡◌ {A = ℕ} 0 1 = cc in omega arith

-- ---- the paper's mesh

pub mesh_closed : (n : Size) (s : List ℕ) (cut : Cut) (sign : Bool) → FacesAre sign n s cut → finding_of (mesh_quads loops_of n s cut) ≡ all_sound
unfolding mesh_quads
mesh_closed n s cut = any_closed joined loops_of (cube_laws joined) n s cut

pub open_cut : (n : Size) (s : List ℕ) (cut : Cut) (q r : ℕ) → finding_of (mesh_quads loops_of n s cut) ≡ open_at q r → CutOff n s cut
unfolding mesh_quads
open_cut n s cut = any_cut joined loops_of (cube_laws joined) n s cut
