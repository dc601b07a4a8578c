-- Vertices stored in both buffers, one behind the other: two words and three coordinates each.
-- Assumes nothing.
use Prim.Native.Nat.{ℕ, ◌*◌}
use mathlib.Core.Path.{◌≡◌, refl}
use mathlib.Core.List.{List, [], ◌++◌}
use native.Mathlib.Omega.{arith}
use lib.ListN.{length, length-append}
use lib.Ieee.{Float}
use Rattle.laws.proofs.Stores.{sets_join, sets_length}
use Rattle.cube_vertices.specs.Cubes.{Stored}

pub stored_none : (v : ℕ) (w : List ℕ) (o : List Float) → Stored v [] [] [] w w o o v
stored_none v w o = record { number = omega arith; words_are = refl; offsets_are = refl; two = refl; three = refl }

module _ {v r : ℕ} {ms ws : List ℕ} {os : List Float} {w₀ w : List ℕ} {o₀ o : List Float} (s : Stored v ms ws os w₀ w o₀ o r) where
  pub stored_join : {ms' ws' : List ℕ} {os' : List Float} {w' : List ℕ} {o' : List Float} {r' : ℕ} → Stored r ms' ws' os' w w' o o' r'
      → Stored v (ms ++ ms') (ws ++ ws') (os ++ os') w₀ w' o₀ o' r'
  stored_join {ms'} {ws'} {os'} {w'} {o'} {r'} t = record {
    number = simp length-append (omega (arith, s.number, t.number));
    words_are = sets_join w₀ (2 * v) w w' (2 * r) ws ws' s.words_are (omega (arith, s.number, s.two)) t.words_are;
    offsets_are = sets_join o₀ (3 * v) o o' (3 * r) os os' s.offsets_are (omega (arith, s.number, s.three)) t.offsets_are;
    two = simp length-append (omega (arith, s.two, t.two));
    three = simp length-append (omega (arith, s.three, t.three));
  }

  -- the buffers keep their lengths
  pub stored_words : length w ≡ length w₀
  stored_words = sets_length w₀ (2 * v) w ws s.words_are

  pub stored_offsets : length o ≡ length o₀
  stored_offsets = sets_length o₀ (3 * v) o os s.offsets_are
