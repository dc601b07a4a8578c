-- How many crossed inner edges start from a row: a sum over its words, and a quarter of the words that its quads take.
-- Assumes nothing.
use Rattle.std.proofs.Common.{◌≡◌, ℕ, zero, suc, ◌+◌, ◌-◌, ◌*◌, ◌^◌, ◌<◌, ◌≤◌, Bool, true, false, cond, ltb, List, [], length, sym, refl, ap, ◌∙◌, arith, length-append}
use lib.Bits.{bit_and, and_le_r}
use lib.Count.{ones}
use Rattle.laws.specs.Below.{below}
use Rattle.laws.specs.Bits.{bit, holds}
use Rattle.laws.specs.Counting.{total}
use Rattle.laws.specs.Pack.{pack}
use Rattle.laws.proofs.Bits.{bit_le}
use Rattle.laws.proofs.Pack.{pack_lt}
use Rattle.laws.proofs.Words.{digit_holds, word_of, word_ones}
use Rattle.block.specs.declared.Cut.{Cut}
use Rattle.block.specs.declared.Size.{Size}
use Rattle.mesh_rule.specs.Grid.{between}
use Rattle.planes.specs.Planes.{along_x, along_y, along_z}
use Rattle.rows.specs.Rows.{picked}
use Rattle.rows.proofs.Visits.{bits_of}
use Rattle.quads.specs.declared.Along.{Along}
use Rattle.quads.specs.declared.Along.TheVariants.{AxisX, AxisY, AxisZ}
use Rattle.quads.specs.Edges.{along_axis, RowIn, Planes, words_in, edges_of, edge_count}
use Rattle.quads.specs.Writing.{row_by, row_quads}
use Rattle.quads.proofs.RowQuads.{quad_four, row_count}

-- ---- four words for each edge

-- lists, each four times as long as a number
length-total : {A : Type 0} (f : ℕ → List A) (g : ℕ → ℕ) (n : ℕ) → ((x : ℕ) → x < n → length (f x) ≡ 4 * g x) → length (below f n) ≡ 4 * total g n
unfolding below total
length-total f g zero h = refl
length-total f g (suc n) h = omega (arith, length-append (below f n) (f n), length-total f g n (λ x l. h x (omega arith)), h n (omega arith))

-- one list for each set bit
picked_total : {A : Type 0} (d : ℕ) (f : ℕ → List A) → d < 2 ^ 64 → ((i : ℕ) → length (f i) ≡ 4) → length (below (picked d f) 64) ≡ 4 * ones d
picked_total d f h four =
    length-total (picked d f) (bits_of d) 64 (λ i l. one i (holds d i) ∙ ap (λ (x : ℕ). 4 * x) (sym (digit_holds d i)))
    ∙ ap (λ (x : ℕ). 4 * x) (sym (word_ones (word_of d 64 h)))
  where
    one : (i : ℕ) (t : Bool) → length (cond t (f i) []) ≡ 4 * bit t
    one i true = four i
    one i false = refl

-- a word under a mask is a word
under : (d : ℕ) (f : ℕ → Bool) → bit_and d (pack (λ i. bit (f i)) 64) < 2 ^ 64
under d f = less (and_le_r d (pack (λ i. bit (f i)) 64)) (pack_lt (λ i. bit (f i)) (λ i. bit_le (f i)) 64)
  where
    less : {x y z : ℕ} → x ≤ y → y < z → x < z
    less p q = omega arith

edges_lt : (along : Along) (a b : List ℕ) (nx j w : ℕ) → edges_of along a b nx j w < 2 ^ 64
unfolding edges_of
edges_lt AxisX a b nx j w = under (along_x a (5 * j + w)) (λ i. ltb (64 * w + i) (nx - 1))
edges_lt AxisY a b nx j w = under (along_y a (5 * j + w)) (λ i. between nx (64 * w + i))
edges_lt AxisZ a b nx j w = under (along_z a b (5 * j + w)) (λ i. between nx (64 * w + i))

-- whatever the tables say
pub row_counted : (along : Along) (a b : List ℕ) (nx j : ℕ) (n0 n1 n2 n3 : List ℕ) → length (row_by along a b nx j n0 n1 n2 n3) ≡ 4 * edge_count along a b nx j
row_counted along a b nx j n0 n1 n2 n3 =
    length-total _ _ (words_in nx) (λ w _. picked_total (edges_of along a b nx j w) _ (edges_lt along a b nx j w) (λ i. quad_four _ _ _ n0 n1 n2 n3 _ _))

-- in a block
pub block_counted : (loops_of : Cut → List ℕ → List ℕ) (n : Size) (s : List ℕ) (cut : Cut) (along : Along) (j k : ℕ) (a b : List ℕ) → Planes n s cut (along_axis along) k a b → RowIn n along j
    → length (row_quads loops_of n s cut (along_axis along) k j) ≡ 4 * edge_count along a b n.nx j
block_counted loops_of n s cut along j k a b p r = sym (row_count loops_of n s cut along j k a b p r [] [] [] []) ∙ row_counted along a b n.nx j [] [] [] []
