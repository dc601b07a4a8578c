-- A block of samples: signs, the corners of its cubes, its edges and which of them are inner and crossed (document 01, "The block and
-- its numbering" and "The mesh"). `n` is the size, `s` the samples.
use Rattle.std.specs.Prelude.{ℕ, ◌+◌, ◌≤◌, ◌<◌, ◌≡◌, Bool, false, ◌&&◌, ◌||◌, List, [], ◌∷◌, ltb, eqb, get_or}
use Rattle.laws.specs.Bits.{differ}
use Rattle.block.specs.declared.Cut.{Cut}
use Rattle.block.specs.declared.Size.{Size}
use Rattle.block.specs.Grey.{positive}
use Rattle.block.specs.Numbering.{Axis, X, Y, Z, sample_index, at_sample, at_cube}

-- (i,j,k) is a sample of the block
abbrev pub InBox : Size → ℕ → ℕ → ℕ → Type 0
InBox n i j k = (i < n.nx) × (j < n.ny) × (k < n.nz)

-- the sample (i,j,k), and whether it is positive (metal)
abbrev pub sample_at : Size → List ℕ → ℕ → ℕ → ℕ → ℕ
sample_at n s i j k = get_or s (sample_index n i j k) 0

abbrev pub metal : Size → List ℕ → Cut → ℕ → ℕ → ℕ → Bool
metal n s cut i j k = positive cut (sample_at n s i j k)

-- the corners 0 to 7 of the cube (i,j,k): corner x + 2y + 4z
abbrev pub corners_at : Size → List ℕ → ℕ → ℕ → ℕ → List ℕ
corners_at n s i j k =
    sample_at n s i j k ∷ sample_at n s (i + 1) j k ∷ sample_at n s i (j + 1) k ∷ sample_at n s (i + 1) (j + 1) k
    ∷ sample_at n s i j (k + 1) ∷ sample_at n s (i + 1) j (k + 1) ∷ sample_at n s i (j + 1) (k + 1) ∷ sample_at n s (i + 1) (j + 1) (k + 1) ∷ []

-- the corners of the cube with number c
unfoldable pub corners_of : Size → List ℕ → ℕ → List ℕ
corners_of n s c = at_cube n (corners_at n s) c

-- c is neither the first nor the last of n
abbrev pub between : ℕ → ℕ → Bool
between n c = ltb 0 c && ltb (c + 1) n

-- "An inner edge lies in four cubes": the edge from (i,j,k) along the axis lies in the box, and on no face of it
abbrev pub inner : Size → Axis → ℕ → ℕ → ℕ → Bool
inner n X i j k = ltb (i + 1) n.nx && between n.ny j && between n.nz k
inner n Y i j k = between n.nx i && ltb (j + 1) n.ny && between n.nz k
inner n Z i j k = between n.nx i && between n.ny j && ltb (k + 1) n.nz

-- f at the next sample along the axis
abbrev pub ahead {ℓ} : {A : Type ℓ} → (ℕ → ℕ → ℕ → A) → Axis → ℕ → ℕ → ℕ → A
ahead f X i j k = f (i + 1) j k
ahead f Y i j k = f i (j + 1) k
ahead f Z i j k = f i j (k + 1)

-- both ends of the edge from (i,j,k) along the axis are samples of the block
abbrev pub EdgeIn : Size → Axis → ℕ → ℕ → ℕ → Type 0
EdgeIn n a i j k = InBox n i j k × ahead (InBox n) a i j k

-- the edge from (i,j,k) does not leave the block; from a sample of the block, just then it is an edge of the block (`stays_in`, `in_stays`)
abbrev pub stays : Size → Axis → ℕ → ℕ → ℕ → Bool
stays n X i j k = ltb (i + 1) n.nx
stays n Y i j k = ltb (j + 1) n.ny
stays n Z i j k = ltb (k + 1) n.nz

-- the edge's ends differ in sign
abbrev pub crossed_from : Size → List ℕ → Cut → Axis → ℕ → ℕ → ℕ → Bool
crossed_from n s cut a i j k = differ (metal n s cut i j k) (ahead (metal n s cut) a i j k)

-- the sample (i,j,k) is a corner of the cube (x,y,z)
abbrev pub is_corner : ℕ → ℕ → ℕ → ℕ → ℕ → ℕ → Bool
is_corner x y z i j k = (eqb i x || eqb i (x + 1)) && (eqb j y || eqb j (y + 1)) && (eqb k z || eqb k (z + 1))

-- both ends of the edge along the axis from (i,j,k) are corners of the cube with number c
abbrev pub has_edge : Size → Axis → ℕ → ℕ → ℕ → ℕ → Bool
has_edge n a i j k c = at_cube n (λ x y z. is_corner x y z i j k && ahead (is_corner x y z) a i j k) c

-- the edge along the axis from the sample with the index p is inner, and crossed
abbrev pub crossed_inner : Size → List ℕ → Cut → Axis → ℕ → Bool
crossed_inner n s cut a p = at_sample n (λ i j k. inner n a i j k && crossed_from n s cut a i j k) p

-- c is the first or the last of n
abbrev pub at_end : ℕ → ℕ → Bool
at_end n c = eqb c 0 || eqb (c + 1) n

-- (i,j,k) lies on one of the twelve edges of the box: two of its coordinates are at an end
abbrev pub on_box_edge : Size → ℕ → ℕ → ℕ → Bool
on_box_edge n i j k =
    at_end n.ny j && at_end n.nz k || at_end n.nx i && at_end n.nz k || at_end n.nx i && at_end n.ny j

-- (i,j,k) is a sample of the box, off its twelve edges
abbrev pub OffEdges : Size → ℕ → ℕ → ℕ → Type 0
OffEdges n i j k = (i < n.nx) × (j < n.ny) × (k < n.nz) × (on_box_edge n i j k ≡ false)

abbrev pub AtLeastThree : Size → Type 0
AtLeastThree n = (3 ≤ n.nx) × (3 ≤ n.ny) × (3 ≤ n.nz)
