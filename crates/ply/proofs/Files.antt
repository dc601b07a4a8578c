-- The file from the puts that write it, and its length.
-- Assumes nothing.
use Prim.Native.Nat.{ℕ, ◌+◌, ◌*◌, ◌-◌, ◌/◌}
use mathlib.Core.Path.{◌≡◌, refl, sym, ap, ◌∙◌}
use mathlib.Core.List.{List, ◌++◌, append_assoc}
use native.Mathlib.Nat.{add-zero}
use native.Mathlib.Omega.{arith}
use lib.ListN.{length, get_or, length-append}
use lib.Ieee.{Float, nan}
use Rattle.laws.specs.Below.{below}
use Rattle.laws.specs.Put.{Put}
use Rattle.laws.proofs.Below.{length_constant}
use Rattle.laws.proofs.Puts.{put_then, put_as, puts_more}
use Rattle.block.specs.declared.Size.{Size}
use Rattle.file_bytes.specs.Bytes.{ascii, decimal, little_endian}
use Rattle.file_bytes.proofs.Little.{little_length}
use Rattle.ply.specs.declared.Spacing.{Spacing}
use Rattle.ply.specs.File.{header, double, vertex_bytes, face_bytes, ply_file}
use Rattle.ply.specs.Words.{header_length, file_length}
use Rattle.ply.specs.Steps.{x_of, y_of, z_of, three_doubles, index_list}

-- ---- lengths

pub header_length_lem : (v f : ℕ) → length (header v f) ≡ header_length v f
unfolding header ascii
header_length_lem v f = simp length-append (omega arith)

pub double_length : (x : Float) → length (double x) ≡ 8
unfolding double
double_length x = little_length 8 _

pub vertex_length : (x y z : Float) → length (three_doubles x y z) ≡ 24
unfolding three_doubles
vertex_length x y z = simp (length-append, double_length)

pub face_length : (a b c d : ℕ) → length (index_list a b c d) ≡ 17
unfolding index_list
face_length a b c d = simp (length-append, little_length)

-- ---- a vertex and a face as the buffers hold them

module _ (n : Size) (words : List ℕ) (offsets : List Float) (s : Spacing) where
  -- in a block of w cubes by h cubes
  abbrev pub fields_at : ℕ → ℕ → ℕ → List ℕ
  fields_at w h v =
      three_doubles (x_of w (get_or words (2 * v) 0) (get_or offsets (3 * v) nan) s) (y_of w h (get_or words (2 * v) 0) (get_or offsets (3 * v + 1) nan) s)
      (z_of w h (get_or words (2 * v) 0) (get_or offsets (3 * v + 2) nan) s)

  vertex_fields_lem : (w h v : ℕ) → w ≡ n.nx - 1 → h ≡ n.ny - 1 → fields_at w h v ≡ vertex_bytes n words offsets s v
  unfolding three_doubles vertex_bytes below
  vertex_fields_lem w h v a b = rw (a, b) (simp add-zero)

  pub vertex_more : (w h v : ℕ) {o₀ o₁ o₂ : List ℕ} {p₀ p₁ p₂ : ℕ} → w ≡ n.nx - 1 → h ≡ n.ny - 1
      → Put o₀ p₀ (below (vertex_bytes n words offsets s) v) o₁ p₁ → Put o₁ p₁ (fields_at w h v) o₂ p₂ → Put o₀ p₀ (below (vertex_bytes n words offsets s) (v + 1)) o₂ p₂
  vertex_more w h v a b p q = puts_more (vertex_bytes n words offsets s) v p (put_as (vertex_fields_lem w h v a b) q)

  pub vertex_bytes_length : (v : ℕ) → length (vertex_bytes n words offsets s v) ≡ 24
  vertex_bytes_length v = ap length (sym (vertex_fields_lem (n.nx - 1) (n.ny - 1) v refl refl)) ∙ vertex_length _ _ _

  pub vertices_length : (count : ℕ) → length (below (vertex_bytes n words offsets s) count) ≡ 24 * count
  vertices_length count = length_constant (vertex_bytes n words offsets s) 24 count (λ v l. vertex_bytes_length v)

module _ (quads : List ℕ) where
  face_fields : (q : ℕ) → index_list (get_or quads (4 * q) 0) (get_or quads (4 * q + 1) 0) (get_or quads (4 * q + 2) 0) (get_or quads (4 * q + 3) 0) ≡ face_bytes quads q
  unfolding index_list face_bytes below
  face_fields q = simp (append_assoc, add-zero)

  pub face_more : (q : ℕ) {o₀ o₁ o₂ : List ℕ} {p₀ p₁ p₂ : ℕ} → Put o₀ p₀ (below (face_bytes quads) q) o₁ p₁
      → Put o₁ p₁ (index_list (get_or quads (4 * q) 0) (get_or quads (4 * q + 1) 0) (get_or quads (4 * q + 2) 0) (get_or quads (4 * q + 3) 0)) o₂ p₂ → Put o₀ p₀ (below (face_bytes quads) (q + 1)) o₂ p₂
  face_more q p r = puts_more (face_bytes quads) q p (put_as (face_fields q) r)

  pub face_bytes_length : (q : ℕ) → length (face_bytes quads q) ≡ 17
  face_bytes_length q = ap length (sym (face_fields q)) ∙ face_length _ _ _ _

  faces_length : (count : ℕ) → length (below (face_bytes quads) count) ≡ 17 * count
  faces_length count = length_constant (face_bytes quads) 17 count (λ q l. face_bytes_length q)

-- the length of the file: 170 and the digits of both counts, 24 bytes a vertex, 17 a quad
pub ply_length : (n : Size) (words : List ℕ) (offsets : List Float) (quads : List ℕ) (s : Spacing)
    → length (ply_file n words offsets quads s) ≡ file_length (length words / 2) (length quads / 4)
unfolding ply_file
ply_length n words offsets quads s =
    let v = length words / 2 in
    let f = length quads / 4 in
    length-append (header v f ++ below (vertex_bytes n words offsets s) v) (below (face_bytes quads) f)
    ∙ rw (length-append (header v f) (below (vertex_bytes n words offsets s) v), header_length_lem v f, vertices_length n words offsets s v, faces_length quads f)

-- ---- puts

-- three texts with the counts between them
pub header_put : (v f : ℕ) (a b c : List ℕ) {o₀ o₁ o₂ o₃ o₄ o₅ : List ℕ} {p₁ p₂ p₃ p₄ p₅ : ℕ} → a ++ decimal v ++ b ++ decimal f ++ c ≡ header v f
    → Put o₀ 0 a o₁ p₁ → Put o₁ p₁ (decimal v) o₂ p₂ → Put o₂ p₂ b o₃ p₃ → Put o₃ p₃ (decimal f) o₄ p₄ → Put o₄ p₄ c o₅ p₅ → Put o₀ 0 (header v f) o₅ p₅
header_put v f a b c e p q r s t = put_as e (put_then c (put_then (decimal f) (put_then b (put_then (decimal v) p q) r) s) t)

pub vertex_put : (x y z : Float) {o₀ o₁ o₂ o₃ : List ℕ} {p₀ p₁ p₂ p₃ : ℕ} → Put o₀ p₀ (double x) o₁ p₁ → Put o₁ p₁ (double y) o₂ p₂ → Put o₂ p₂ (double z) o₃ p₃
    → Put o₀ p₀ (three_doubles x y z) o₃ p₃
unfolding three_doubles
vertex_put x y z p q r = put_then (double z) (put_then (double y) p q) r

pub face_put : (m a b c d : ℕ) {o₀ o₁ o₂ o₃ o₄ o₅ : List ℕ} {p₀ p₁ p₂ p₃ p₄ p₅ : ℕ} → m ≡ 4 → Put o₀ p₀ (little_endian 1 m) o₁ p₁ → Put o₁ p₁ (little_endian 4 a) o₂ p₂ → Put o₂ p₂ (little_endian 4 b) o₃ p₃
    → Put o₃ p₃ (little_endian 4 c) o₄ p₄ → Put o₄ p₄ (little_endian 4 d) o₅ p₅ → Put o₀ p₀ (index_list a b c d) o₅ p₅
unfolding index_list
face_put m a b c d e n p q r s = put_then (little_endian 4 d) (put_then (little_endian 4 c) (put_then (little_endian 4 b) (put_then (little_endian 4 a) (rw e at n) p) q) r) s

pub file_put : (n : Size) (words : List ℕ) (offsets : List Float) (quads : List ℕ) (s : Spacing) {o₀ o₁ o₂ o₃ : List ℕ} {p₁ p₂ p₃ : ℕ}
    → Put o₀ 0 (header (length words / 2) (length quads / 4)) o₁ p₁ → Put o₁ p₁ (below (vertex_bytes n words offsets s) (length words / 2)) o₂ p₂
    → Put o₂ p₂ (below (face_bytes quads) (length quads / 4)) o₃ p₃ → Put o₀ 0 (ply_file n words offsets quads s) o₃ p₃
unfolding ply_file
file_put n words offsets quads s p q r = put_then _ (put_then _ p q) r
