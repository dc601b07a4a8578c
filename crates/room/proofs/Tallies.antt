-- The crossed edges plane by plane: those within the planes up to one, and those from each plane before it to the next.
-- Assumes nothing.
use Prim.Native.Nat.{ℕ, ◌+◌, ◌<◌}
use mathlib.Core.Path.{◌≡◌, ap, ap₂, sym, ◌∙◌}
use mathlib.Core.List.{List}
use native.Mathlib.Omega.{arith}
use borrow.Author.Tests.{le-ltb}
use Rattle.laws.specs.Counting.{total}
use Rattle.laws.proofs.Sums.{total_none, total_one, total_same, total_plus, total_nothing}
use Rattle.block.specs.declared.Cut.{Cut}
use Rattle.block.specs.declared.Size.{Size}
use Rattle.block.specs.Numbering.{X, Y, Z}
use Rattle.block.specs.Size.{Limits}
use Rattle.signs.specs.Signs.{Plane}
use Rattle.room.specs.Crossed.{crossed_count}
use Rattle.room.specs.Steps.{plane_edges}
use Rattle.room.proofs.Along.{from_plane, along_boxed}
use Rattle.room.proofs.Planes.{first_plane, next_plane}

module _ (n : Size) (s : List ℕ) (cut : Cut) where
  -- within the planes before k, and from these to the next
  abbrev within : ℕ → ℕ
  within k = total (λ (z : ℕ). from_plane n s cut X z + from_plane n s cut Y z) k

  abbrev upward : ℕ → ℕ
  upward k = total (from_plane n s cut Z) k

  -- all up to the plane k
  abbrev pub tally : ℕ → ℕ
  tally k = within (k + 1) + upward k

  module _ (l : Limits n) where
    pub tally_first : {a : List ℕ} (r nx ny : ℕ) → nx ≡ n.nx → ny ≡ n.ny → Plane n s cut 0 a → r ≡ plane_edges a a nx ny → r ≡ tally 0
    tally_first {a} r nx ny ex ey p e =
        omega (
          arith,
          e ∙ ap₂ (plane_edges a a) ex ey ∙ first_plane n s cut l.x_high 0 p,
          total_one (λ (z : ℕ). from_plane n s cut X z + from_plane n s cut Y z) 0,
          total_none (λ (z : ℕ). from_plane n s cut X z + from_plane n s cut Y z),
          total_none (from_plane n s cut Z),
        )

    pub tally_next : {a b : List ℕ} (k m r nx ny : ℕ) → nx ≡ n.nx → ny ≡ n.ny → k + 1 < n.nz → Plane n s cut k a → Plane n s cut (k + 1) b → m ≡ tally k
        → r ≡ plane_edges a b nx ny → m + r ≡ tally (k + 1)
    tally_next {a} {b} k m r nx ny ex ey h p q e er =
        omega (
          arith,
          e,
          er ∙ ap₂ (plane_edges a b) ex ey ∙ next_plane n s cut l.x_high k p q h,
          total_one (λ (z : ℕ). from_plane n s cut X z + from_plane n s cut Y z) (k + 1),
          total_one (from_plane n s cut Z) k,
        )

    -- no edge leaves the last plane
    pub tally_all : (k : ℕ) → k + 1 ≡ n.nz → tally k ≡ crossed_count n s cut
    unfolding crossed_count
    tally_all k e =
        omega (
          arith,
          ap within e,
          total_plus (from_plane n s cut X) (from_plane n s cut Y) n.nz,
          ap upward (sym e) ∙ total_one (from_plane n s cut Z) k,
          last,
          along_boxed n s cut X,
          along_boxed n s cut Y,
          along_boxed n s cut Z,
        )
      where
        last : from_plane n s cut Z k ≡ 0
        last = total_same _ _ n.ny (λ j lj. total_same _ _ n.nx (λ i li. rw (le-ltb (k + 1) n.nz (omega arith))) ∙ total_nothing n.nx) ∙ total_nothing n.ny
