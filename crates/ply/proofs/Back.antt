-- The file can stand in for what it was written from: a reader that goes by the counts finds each coordinate of each vertex, bit for bit, and each number of each
-- face, in its place.
-- Assumes nothing.
use Prim.Native.Nat.{ℕ, suc, ◌+◌, ◌*◌, ◌-◌, ◌/◌, ◌<◌}
use mathlib.Core.Path.{◌≡◌, sym, ap, ◌∙◌}
use mathlib.Core.List.{List, [], ◌++◌, append_assoc, append-nil}
use native.Mathlib.Omega.{arith}
use lib.ListN.{length, get_or, take, drop, length-append}
use lib.Seq.{take_at, drop_at}
use lib.Ieee.{Float, binary64, to_bits}
use lib.Ieee.Bits.{of_bits-to_bits, to_bits-lt}
use lib.Ieee.Fits.{mul-fits}
use Rattle.laws.specs.Below.{below}
use Rattle.laws.proofs.Below.{below_add, length_constant}
use Rattle.block.specs.declared.Size.{Size}
use Rattle.file_bytes.specs.Bytes.{little_endian}
use Rattle.file_bytes.proofs.Little.{little_length, little_back}
use Rattle.ply.specs.declared.Spacing.{Spacing}
use Rattle.ply.specs.File.{header, millimetres, double, place_on, vertex_bytes, face_bytes, ply_file}
use Rattle.ply.specs.Words.{header_length, double_at, int_at}
use Rattle.ply.proofs.Files.{header_length_lem, double_length, vertex_bytes_length, vertices_length, face_bytes_length}

-- ---- a part of a list, and where it stands

record Part (p : ℕ) (ys bytes : List ℕ) : Type 0 where
  front : List ℕ
  back : List ℕ
  whole : bytes ≡ front ++ ys ++ back
  place : length front ≡ p

part_read : {p : ℕ} {ys bytes : List ℕ} (k : ℕ) → length ys ≡ k → Part p ys bytes → take k (drop p bytes) ≡ ys
part_read {p} {ys} {bytes} k e h =
    rw (h.whole, append_assoc h.front ys h.back) (ap (take k) (drop_at h.front (ys ++ h.back) p h.place) ∙ take_at ys h.back k e)

part_in : {p q : ℕ} {zs ys bytes : List ℕ} → Part p ys bytes → Part q zs ys → Part (p + q) zs bytes
part_in {p} {q} {zs} {ys} {bytes} a b = record {
  front = a.front ++ b.front;
  back = b.back ++ a.back;
  whole = a.whole ∙ ap (λ (l : List ℕ). a.front ++ l ++ a.back) b.whole ∙ again a.front b.front zs b.back a.back;
  place = length-append a.front b.front ∙ omega (arith, a.place, b.place);
}
  where
    again : (f g m h i : List ℕ) → f ++ (g ++ m ++ h) ++ i ≡ (f ++ g) ++ m ++ (h ++ i)
    again f g m h i = simp append_assoc

-- a part of the left of two, and the right of them
part_left : {q : ℕ} {zs xs : List ℕ} (ys : List ℕ) → Part q zs xs → Part q zs (xs ++ ys)
part_left {q} {zs} {xs} ys a = record { front = a.front; back = a.back ++ ys; whole = ap (λ (l : List ℕ). l ++ ys) a.whole ∙ append_assoc (a.front ++ zs) a.back ys; place = a.place }

part_right : (xs ys : List ℕ) (p : ℕ) → length xs ≡ p → Part p ys (xs ++ ys)
part_right xs ys p e = record { front = xs; back = []; whole = sym (append-nil (xs ++ ys)); place = e }

-- one of the lists over an index, all of one length
part_below : (f : ℕ → List ℕ) (w n v : ℕ) → ((m : ℕ) → length (f m) ≡ w) → v < n → Part (w * v) (f v) (below f n)
unfolding below
part_below f w n v e h =
    let rest : n ≡ suc v + (n - suc v) = omega (arith, h) in
    record {
      front = below f v;
      back = below (λ (x : ℕ). f (suc v + x)) (n - suc v);
      whole = ap (below f) rest ∙ below_add f (suc v) (n - suc v);
      place = length_constant f w v (λ m l. e m);
    }

-- ---- a double, and an int

double_back : (c : ℕ) (offset spacing : Float) (bytes : List ℕ) (p : ℕ) → Part p (double (millimetres c offset spacing)) bytes → double_at bytes p ≡ millimetres c offset spacing
unfolding double millimetres
double_back c offset spacing bytes p h =
    let fits = mul-fits binary64 _ spacing in
    rw (part_read 8 (little_length 8 _) h, little_back 8 (to_bits binary64 (millimetres c offset spacing)) (to_bits-lt binary64 (millimetres c offset spacing) fits))
    (of_bits-to_bits binary64 (millimetres c offset spacing) fits)

int_back : (v : ℕ) (bytes : List ℕ) (p : ℕ) → v < 4294967296 → Part p (little_endian 4 v) bytes → int_at bytes p ≡ v
int_back v bytes p h q = rw (part_read 4 (little_length 4 v) q) (little_back 4 v h)

-- ---- the file

module _ (n : Size) (words : List ℕ) (offsets : List Float) (quads : List ℕ) (s : Spacing) where
  abbrev count : ℕ
  count = length words / 2

  abbrev faces : ℕ
  faces = length quads / 4

  -- coordinate a of vertex v
  pub vertex_back : (v a : ℕ) → v < length words / 2 → a < 3
      → double_at (ply_file n words offsets quads s) (header_length (length words / 2) (length quads / 4) + (24 * v + 8 * a)) ≡ place_on n words offsets s v a
  unfolding ply_file vertex_bytes
  vertex_back v a h l =
      double_back _ _ _ _ _
      (part_in (part_left (below (face_bytes quads) faces) (part_right (header count faces) (below (vertex_bytes n words offsets s) count) (header_length count faces) (header_length_lem count faces)))
      (part_in (part_below (vertex_bytes n words offsets s) 24 count v (vertex_bytes_length n words offsets s) h) (part_below (λ (b : ℕ). double (place_on n words offsets s v b)) 8 3 a (λ b. double_length _) l)))

  -- number i of face q, behind the byte that says how many there are
  pub face_back : (q i : ℕ) → q < length quads / 4 → i < 4 → get_or quads (4 * q + i) 0 < 4294967296
      → int_at (ply_file n words offsets quads s) (header_length (length words / 2) (length quads / 4) + 24 * (length words / 2) + (17 * q + (1 + 4 * i))) ≡ get_or quads (4 * q + i) 0
  unfolding ply_file face_bytes
  face_back q i h l b =
      let before : length (header count faces ++ below (vertex_bytes n words offsets s) count) ≡ header_length count faces + 24 * count =
      length-append (header count faces) (below (vertex_bytes n words offsets s) count) ∙ rw (header_length_lem count faces, vertices_length n words offsets s count) in
      int_back _ _ _ b
      (part_in (part_right (header count faces ++ below (vertex_bytes n words offsets s) count) (below (face_bytes quads) faces) (header_length count faces + 24 * count) before)
      (part_in (part_below (face_bytes quads) 17 faces q (face_bytes_length quads) h)
      (part_in (part_right (little_endian 1 4) _ 1 (little_length 1 4)) (part_below (λ (j : ℕ). little_endian 4 (get_or quads (4 * q + j) 0)) 4 4 i (λ j. little_length 4 _) l))))
