-- Layer by layer: the lists and counts up to a layer and of the layer are those up to the next.
-- Assumes nothing.
use Prim.Native.Nat.{ℕ, zero, suc, ◌+◌, ◌*◌, ◌-◌}
use mathlib.Core.Path.{◌≡◌, ap, ap₂, sym, ◌∙◌}
use mathlib.Core.List.{List, ◌++◌, map}
use native.Mathlib.Nat.{mul-add, mul-one, mul_assoc}
use native.Mathlib.Omega.{arith}
use lib.ListN.{length, length-append, length-map}
use Rattle.laws.specs.Below.{below}
use Rattle.laws.proofs.Below.{below_add}
use Rattle.block.specs.declared.Cut.{Cut}
use Rattle.block.specs.declared.Size.{Size}
use Rattle.block.specs.Numbering.{cube_count}
use Rattle.cube_rule.specs.Decider.{loops_of}
use Rattle.place.specs.Place.{place_of}
use Rattle.cell.specs.Answer.{word_of}
use Rattle.mesh_rule.proofs.Words.{pairs_length, triples_length}
use Rattle.mesh_rule.specs.Grid.{corners_of}
use Rattle.mesh_rule.specs.Mesh.{vertices_of, vertices_before, cube_loops}
use Rattle.mesh_rule.specs.Layers.{cube_words, cube_offsets, layer_size, layer_words, layer_count, layer_first}
use Rattle.mesh_rule.proofs.Numbers.{one_for_each_loop}

-- one layer of l more
pub layer_next : {A : Type 0} (f : ℕ → List A) (l k : ℕ) → below f (l * (k + 1)) ≡ below f (l * k) ++ below (λ (x : ℕ). f (l * k + x)) l
layer_next f l k = ap (below f) (mul-add l k 1 ∙ ap (λ (x : ℕ). l * k + x) (mul-one l)) ∙ below_add f (l * k) l

-- lists of proportional lengths have proportional lengths together
pub length_scaled : {A B : Type 0} (f : ℕ → List A) (g : ℕ → List B) (m n : ℕ) → ((x : ℕ) → length (f x) ≡ m * length (g x)) → length (below f n) ≡ m * length (below g n)
unfolding below
length_scaled f g m zero h = omega arith
length_scaled f g m (suc n) h =
    length-append (below f n) (f n) ∙ ap₂ (λ (x y : ℕ). x + y) (length_scaled f g m n h) (h n)
    ∙ sym (mul-add m (length (below g n)) (length (g n))) ∙ ap (λ (x : ℕ). m * x) (sym (length-append (below g n) (g n)))

-- all layers are all cubes
pub layers_all : (n : Size) (k : ℕ) → k + 1 ≡ n.nz → layer_size n * k ≡ cube_count n
layers_all n k e = ap (λ (x : ℕ). layer_size n * x) (last n.nz k e) ∙ mul_assoc (n.nx - 1) (n.ny - 1) (n.nz - 1)
  where
    last : (z k : ℕ) → k + 1 ≡ z → k ≡ z - 1
    last z k e = omega arith

module _ (n : Size) (s : List ℕ) (cut : Cut) where
  -- as many vertices as masks
  abbrev masks_before : ℕ → List ℕ
  masks_before c = below (cube_loops loops_of n s cut) c

  pub vertices_masks : (c : ℕ) → length (vertices_before loops_of n s cut c) ≡ length (masks_before c)
  unfolding vertices_before
  vertices_masks c = length_scaled (vertices_of loops_of n s cut) (cube_loops loops_of n s cut) 1 c (λ x. one_for_each_loop loops_of n s cut x ∙ one (length (cube_loops loops_of n s cut x))) ∙ sym (one (length (masks_before c)))
    where
      one : (x : ℕ) → x ≡ 1 * x
      one x = omega arith

  pub layer_first_next : (k : ℕ) → layer_first loops_of n s cut (k + 1) ≡ layer_first loops_of n s cut k + layer_count loops_of n s cut k
  layer_first_next k =
      vertices_masks (layer_size n * (k + 1))
      ∙ ap length (layer_next (cube_loops loops_of n s cut) (layer_size n) k)
      ∙ length-append (masks_before (layer_size n * k)) (below (λ (x : ℕ). cube_loops loops_of n s cut (layer_size n * k + x)) (layer_size n))
      ∙ ap (λ (x : ℕ). x + layer_count loops_of n s cut k) (sym (vertices_masks (layer_size n * k)))

  pub words_of_cube : (c : ℕ) → length (cube_words loops_of n s cut c) ≡ 2 * length (cube_loops loops_of n s cut c)
  unfolding cube_words
  words_of_cube c = pairs_length c (map (word_of (corners_of n s c)) (cube_loops loops_of n s cut c)) ∙ ap (λ (x : ℕ). 2 * x) (length-map (cube_loops loops_of n s cut c) (word_of (corners_of n s c)))

  pub offsets_of_cube : (c : ℕ) → length (cube_offsets loops_of n s cut c) ≡ 3 * length (cube_loops loops_of n s cut c)
  unfolding cube_offsets
  offsets_of_cube c = triples_length (map (place_of cut (corners_of n s c)) (cube_loops loops_of n s cut c)) ∙ ap (λ (x : ℕ). 3 * x) (length-map (cube_loops loops_of n s cut c) (place_of cut (corners_of n s c)))

  -- two words and three floats a vertex
  pub words_length : (c : ℕ) → length (below (cube_words loops_of n s cut) c) ≡ 2 * length (vertices_before loops_of n s cut c)
  words_length c = length_scaled (cube_words loops_of n s cut) (cube_loops loops_of n s cut) 2 c words_of_cube ∙ ap (λ (x : ℕ). 2 * x) (sym (vertices_masks c))

  pub offsets_length : (c : ℕ) → length (below (cube_offsets loops_of n s cut) c) ≡ 3 * length (vertices_before loops_of n s cut c)
  offsets_length c = length_scaled (cube_offsets loops_of n s cut) (cube_loops loops_of n s cut) 3 c offsets_of_cube ∙ ap (λ (x : ℕ). 3 * x) (sym (vertices_masks c))

  pub layer_words_length : (k : ℕ) → length (layer_words loops_of n s cut k) ≡ 2 * layer_count loops_of n s cut k
  layer_words_length k = length_scaled (λ (x : ℕ). cube_words loops_of n s cut (layer_size n * k + x)) (λ (x : ℕ). cube_loops loops_of n s cut (layer_size n * k + x)) 2 (layer_size n) (λ x. words_of_cube (layer_size n * k + x))
