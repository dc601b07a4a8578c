-- The words of a layer, read row by row: where the vertices of a cube stand, and that those behind a row are of later cubes.
-- Assumes nothing.
use Prim.Native.Nat.{ℕ, zero, suc, ◌+◌, ◌*◌, ◌-◌, ◌≤◌, ◌<◌}
use mathlib.Core.Path.{◌≡◌, refl, sym, ap, ◌∙◌}
use mathlib.Core.Logic.{◌⊎◌, inl, inr}
use mathlib.Core.List.{List, [], ◌∷◌}
use native.Mathlib.Omega.{arith}
use lib.ListN.{length, get_or, length-append}
use Rattle.laws.specs.Below.{below}
use Rattle.laws.proofs.Below.{below_add, get_or-below, length-below, split}
use Rattle.laws.proofs.Tests.{lt_or_ge}
use Rattle.mesh_rule.specs.Layers.{pairs}
use Rattle.notes.specs.Tables.{RowOf}
use Rattle.mesh_rule.proofs.Words.{pairs_length}
use Rattle.mesh.proofs.Layers.{length_scaled}

pairs_number : (c : ℕ) (ws : List ℕ) (l : ℕ) → l < length ws → get_or (pairs c ws) (2 * l) 0 ≡ c
pairs_number c [] l h = absurd (omega arith)
pairs_number c (w ∷ ws) zero h = refl
pairs_number c (w ∷ ws) (suc l) h = ap (λ (k : ℕ). get_or (pairs c (w ∷ ws)) k 0) two_more ∙ pairs_number c ws l (omega arith)
  where
    two_more : 2 * suc l ≡ suc (suc (2 * l))
    two_more = omega arith

pairs_word : (c : ℕ) (ws : List ℕ) (l : ℕ) → get_or (pairs c ws) (2 * l + 1) 0 ≡ get_or ws l 0
pairs_word c [] l = refl
pairs_word c (w ∷ ws) zero = refl
pairs_word c (w ∷ ws) (suc l) = ap (λ (k : ℕ). get_or (pairs c (w ∷ ws)) k 0) two_more ∙ pairs_word c ws l
  where
    two_more : 2 * suc l + 1 ≡ suc (suc (2 * l + 1))
    two_more = omega arith

module _ (F : ℕ → List ℕ) (base M : ℕ) where
  abbrev block : ℕ → List ℕ
  block y = pairs (base + y) (F y)

  pub rows_length : (m : ℕ) → length (below block m) ≡ 2 * length (below F m)
  rows_length m = length_scaled block F 2 m (λ y. pairs_length (base + y) (F y))

  number_at : (y l : ℕ) → y < M → l < length (F y) → get_or (below block M) (2 * (length (below F y) + l)) 0 ≡ base + y
  number_at y l h some =
      ap (λ (k : ℕ). get_or (below block M) k 0) behind
      ∙ get_or-below block 0 M y (2 * l) h (omega (arith, pairs_length (base + y) (F y)))
      ∙ pairs_number (base + y) (F y) l some
    where
      behind : 2 * (length (below F y) + l) ≡ length (below block y) + 2 * l
      behind = omega (arith, rows_length y)

  word_at : (y l : ℕ) → y < M → l < length (F y) → get_or (below block M) (2 * (length (below F y) + l) + 1) 0 ≡ get_or (F y) l 0
  word_at y l h some =
      ap (λ (k : ℕ). get_or (below block M) k 0) behind
      ∙ get_or-below block 0 M y (2 * l + 1) h (omega (arith, pairs_length (base + y) (F y)))
      ∙ pairs_word (base + y) (F y) l
    where
      behind : 2 * (length (below F y) + l) + 1 ≡ length (below block y) + (2 * l + 1)
      behind = omega (arith, rows_length y)

  -- the w cubes from the cube o on
  pub row_of_lem : (o w : ℕ) → o + w ≤ M → ((x : ℕ) → length (F x) ≤ 4) → RowOf (λ (x : ℕ). F (o + x)) w (base + o) (length (below F o)) (below block M)
  row_of_lem o w h four = record {
    room = omega (arith, up w, rows_length M, less);
    cube = λ x l hx hl.
        ap (λ (v : ℕ). get_or (below block M) (2 * (v + l)) 0) (sym (up x))
        ∙ number_at (o + x) l (omega arith) hl
        ∙ further base o x;
    word = λ x l hx hl. ap (λ (v : ℕ). get_or (below block M) (2 * (v + l) + 1) 0) (sym (up x)) ∙ word_at (o + x) l (omega arith) hl;
    later = λ u hu inside. later u (omega (arith, up w)) (split F M u (omega (arith, rows_length M)));
    four = λ x hx. four (o + x);
  }
    where
      further : (a b c : ℕ) → a + (b + c) ≡ a + b + c
      further a b c = omega arith

      up : (x : ℕ) → length (below F (o + x)) ≡ length (below F o) + length (below (λ (x : ℕ). F (o + x)) x)
      up x = ap length (below_add F o x) ∙ length-append (below F o) (below (λ (x : ℕ). F (o + x)) x)

      less : length (below F (o + w)) ≤ length (below F M)
      less = omega (arith, ap (λ (m : ℕ). length (below F m)) all, ap length (below_add F (o + w) (M - (o + w))), length-append (below F (o + w)) (below (λ (x : ℕ). F (o + w + x)) (M - (o + w))))
        where
          all : M ≡ o + w + (M - (o + w))
          all = omega arith

      later : (u : ℕ) → length (below F (o + w)) ≤ u → (y : ℕ) × (p : ℕ) × (y < M) × (p < length (F y)) × (u ≡ length (below F y) + p) → base + o + w ≤ get_or (below block M) (2 * u) 0
      later u hu r = go (lt_or_ge r.0 (o + w))
        where
          is : get_or (below block M) (2 * u) 0 ≡ base + r.0
          is = ap (λ (v : ℕ). get_or (below block M) (2 * v) 0) r.4 ∙ number_at r.0 r.1 r.2 r.3

          go : (r.0 < o + w) ⊎ (o + w ≤ r.0) → base + o + w ≤ get_or (below block M) (2 * u) 0
          go (inl a) = absurd (omega (arith, r.4, r.3, length-below F (o + w) r.0 a))
          go (inr b) = omega (arith, is)
