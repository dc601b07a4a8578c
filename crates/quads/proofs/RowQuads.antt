-- The quads of a row by its tables are those of the block: each set bit is a crossed inner edge, and the numbers in the tables are those of the
-- vertices round it.
-- Assumes nothing.
use Rattle.std.proofs.Common.{◌≡◌, ℕ, zero, suc, ◌+◌, ◌-◌, ◌*◌, ◌/◌, ◌%◌, ◌^◌, ◌<◌, ◌≤◌, Bool, true, false, eqb, ◌⊎◌, List, [], ◌∷◌, length, get_or, sym, refl, ap, ◌∙◌, subst, inl, inr, arith, length-append, eq-eqb, eqb-true}
use lib.Bits.{bit_and}
use Rattle.laws.specs.Below.{below}
use Rattle.laws.specs.Bits.{bit, holds}
use Rattle.laws.proofs.Below.{below_mul, below_same}
use Rattle.laws.proofs.Tests.{and_both, lt_or_ge}
use Rattle.laws.proofs.Words.{word_bit}
use Rattle.block.specs.declared.Cut.{Cut}
use Rattle.block.specs.declared.Size.{Size}
use Rattle.cube_rule.specs.Laws.{CubeLaws}
use Rattle.cube_rule.specs.Links.{Decider}
use Rattle.mesh_rule.specs.Grid.{metal, inner, between, crossed_from}
use Rattle.mesh_rule.specs.Mesh.{Quad, flat}
use Rattle.mesh_rule.proofs.Inner.{inner_facts, CrossedIn}
use Rattle.planes.specs.Planes.{limit_of, inner_of, along_x, along_y, along_z}
use Rattle.planes.proofs.Masks.{limit_clears, inner_clears, inner_in}
use Rattle.signs.proofs.Planes.{sign_bit}
use Rattle.rows.specs.Rows.{picked}
use Rattle.rows.proofs.Visits.{picked_set, picked_unset}
use Rattle.quads.specs.declared.Along.{Along}
use Rattle.quads.specs.declared.Along.TheVariants.{AxisX, AxisY, AxisZ}
use Rattle.quads.specs.Edges.{along_axis, crossed_on, RowIn, Planes, words_in, edges_of}
use Rattle.quads.specs.Writing.{back_of, edge_of, order_sign, up_on, quad_by, word_by, row_by, Reach, Tables, RingTables, edge_quads, row_quads}
use Rattle.quads.proofs.Crossed.{crossed_past, edges_word}
use Rattle.quads.proofs.Numbers.{numbered_vertex}
use Rattle.quads.proofs.Ranges.{below_past}
use Rattle.quads.proofs.Round.{Ring, crossed_ring, turned_is, quads_of, quads_none, quads_four}

-- ---- the bits of a word of edges

-- a quad takes four words
pub quad_four : (e back sign : ℕ) (n0 n1 n2 n3 : List ℕ) (up x : ℕ) → length (quad_by e back sign n0 n1 n2 n3 up x) ≡ 4
unfolding quad_by
quad_four e back sign n0 n1 n2 n3 up x = refl

-- lists of equal lengths, one by one
pub same_below : {A B : Type 0} (f : ℕ → List A) (g : ℕ → List B) (m : ℕ) → ((x : ℕ) → x < m → length (f x) ≡ length (g x)) → length (below f m) ≡ length (below g m)
unfolding below
same_below f g zero e = refl
same_below f g (suc m) e = rw (length-append (below f m) (f m), length-append (below g m) (g m), same_below f g m (λ x l. e x (omega arith)), e m (omega arith))

limited : (a nx w i : ℕ) → i < 64 → holds (bit_and a (limit_of (nx - 1) w)) i ≡ true → 64 * w + i + 1 < nx
limited a nx w i h t = go (lt_or_ge (64 * w + i) (nx - 1))
  where
    go : (64 * w + i < nx - 1) ⊎ (nx - 1 ≤ 64 * w + i) → 64 * w + i + 1 < nx
    go (inl l) = omega arith
    go (inr g) = absurd (omega (arith, limit_clears a (nx - 1) w i h g, eqb-true (bit_and a (limit_of (nx - 1) w) / 2 ^ i % 2) 1 t))

inside : (a nx w i : ℕ) → i < 64 → holds (bit_and a (inner_of nx w)) i ≡ true → (0 < 64 * w + i) × (64 * w + i + 1 < nx)
inside a nx w i h t = go (between nx (64 * w + i)) refl
  where
    go : (b : Bool) → between nx (64 * w + i) ≡ b → (0 < 64 * w + i) × (64 * w + i + 1 < nx)
    go true e = inner_in nx (64 * w + i) e
    go false e = absurd (omega (arith, inner_clears a nx w i h e, eqb-true (bit_and a (inner_of nx w) / 2 ^ i % 2) 1 t))

-- a set bit is an edge that the tables reach
pub edge_in : (along : Along) (a b : List ℕ) (nx j w i : ℕ) → i < 64 → holds (edges_of along a b nx j w) i ≡ true → (back_of along ≤ 64 * w + i) × (64 * w + i + 1 < nx)
unfolding edges_of
edge_in AxisX a b nx j w i h t = (omega arith, limited (along_x a (5 * j + w)) nx w i h t)
edge_in AxisY a b nx j w i h t = inside (along_y a (5 * j + w)) nx w i h t
edge_in AxisZ a b nx j w i h t = inside (along_z a b (5 * j + w)) nx w i h t

pub edge_reach : (along : Along) (a b : List ℕ) (nx j w i : ℕ) → i < 64 → (n0 n1 n2 n3 : List ℕ) → Tables nx n0 n1 n2 n3 → (d back : ℕ) → d ≡ edges_of along a b nx j w → back ≡ back_of along
    → holds d i ≡ true → Reach back (64 * w + i) n0 n1 n2 n3
edge_reach along a b nx j w i h n0 n1 n2 n3 r d back ed eb t =
    let e = edge_in along a b nx j w i h (subst (λ (x : ℕ). holds x i ≡ true) ed t) in
    record {
      low = omega (arith, e.0);
      n0_long = omega (arith, e.1, r.n0_row);
      n1_long = omega (arith, e.1, r.n1_row);
      n2_long = omega (arith, e.1, r.n2_row);
      n3_long = omega (arith, e.1, r.n3_row);
    }

-- the sign is that with which the order is the quad's
up_test : (along : Along) (b : Bool) → eqb (bit b) (order_sign along) ≡ up_on along b
up_test AxisX true = refl
up_test AxisX false = refl
up_test AxisY true = refl
up_test AxisY false = refl
up_test AxisZ true = refl
up_test AxisZ false = refl

-- how many words they take, whatever the tables say
module _ (loops_of : Cut → List ℕ → List ℕ) (n : Size) (s : List ℕ) (cut : Cut) (along : Along) (j k : ℕ) (a b : List ℕ) (planes : Planes n s cut (along_axis along) k a b) (row : RowIn n along j) (n0 n1 n2 n3 : List ℕ) where
  pub row_count : length (row_by along a b n.nx j n0 n1 n2 n3) ≡ length (row_quads loops_of n s cut (along_axis along) k j)
  row_count =
      same_below _ (λ (w : ℕ). below (λ (i : ℕ). lists (64 * w + i)) 64) (words_in n.nx) (λ w h. word w (omega (arith, planes.limits.x_high)))
      ∙ ap length (sym (below_mul lists 64 (words_in n.nx)))
      ∙ ap length (below_past lists n.nx (λ x h. quads_none loops_of n s cut (along_axis along) x j k (crossed_past n s cut (along_axis along) x j k (omega arith))) (64 * words_in n.nx) (omega arith))
    where
      lists : ℕ → List ℕ
      lists x = edge_quads loops_of n s cut (along_axis along) j k x

      quad_of : ℕ → ℕ → List ℕ
      quad_of w i = quad_by (edge_of along) (back_of along) (order_sign along) n0 n1 n2 n3 (get_or a (5 * j + w) 0 / 2 ^ i % 2) (64 * w + i)

      edge : (w : ℕ) → w < 4 → (i : ℕ) → i < 64 → length (picked (edges_of along a b n.nx j w) (quad_of w) i) ≡ length (lists (64 * w + i))
      edge w hw i h = go (crossed_on n s cut (along_axis along) j k (64 * w + i)) refl
        where
          d : ℕ
          d = edges_of along a b n.nx j w

          digit : d / 2 ^ i % 2 ≡ bit (crossed_on n s cut (along_axis along) j k (64 * w + i))
          digit = word_bit (edges_word n s cut along k a b j w planes row hw) i h

          go : (c : Bool) → crossed_on n s cut (along_axis along) j k (64 * w + i) ≡ c → length (picked d (quad_of w) i) ≡ length (lists (64 * w + i))
          go false e = ap length (picked_unset d (quad_of w) i (digit ∙ ap bit e) ∙ sym (quads_none loops_of n s cut (along_axis along) (64 * w + i) j k e))
          go true e =
              ap length (picked_set d (quad_of w) i (eq-eqb _ 1 (digit ∙ ap bit e)))
              ∙ quad_four (edge_of along) (back_of along) (order_sign along) n0 n1 n2 n3 (get_or a (5 * j + w) 0 / 2 ^ i % 2) (64 * w + i)
              ∙ sym (quads_four loops_of n s cut (along_axis along) (64 * w + i) j k e)

      word : (w : ℕ) → w < 4 → length (below (picked (edges_of along a b n.nx j w) (quad_of w)) 64) ≡ length (below (λ (i : ℕ). lists (64 * w + i)) 64)
      word w hw = same_below _ _ 64 (edge w hw)

-- and what they are
module _ {D : Decider} {loops_of : Cut → List ℕ → List ℕ} (laws : CubeLaws D loops_of) (n : Size) (s : List ℕ) (cut : Cut) (along : Along) (j k : ℕ) (a b : List ℕ) (planes : Planes n s cut (along_axis along) k a b) (row : RowIn n along j)
    (n0 n1 n2 n3 : List ℕ) (t : RingTables loops_of n s cut along j k n0 n1 n2 n3) where
  abbrev crossed : ℕ → Bool
  crossed x = crossed_on n s cut (along_axis along) j k x

  abbrev lists : ℕ → List ℕ
  lists x = edge_quads loops_of n s cut (along_axis along) j k x

  abbrev quad_of : ℕ → ℕ → List ℕ
  quad_of up x = quad_by (edge_of along) (back_of along) (order_sign along) n0 n1 n2 n3 up x

  -- a crossed inner edge
  quad_is : (x up : ℕ) → crossed x ≡ true → up ≡ bit (metal n s cut x j k) → quad_of up x ≡ lists x
  unfolding quad_by
  quad_is x up c e =
      rw (
        e,
        up_test along (metal n s cut x j k),
        numbered_vertex laws n s cut planes.limits _ _ _ _ ring.q0 n0 t.t0,
        numbered_vertex laws n s cut planes.limits _ _ _ _ ring.q1 n1 t.t1,
        numbered_vertex laws n s cut planes.limits _ _ _ _ ring.q2 n2 t.t2,
        numbered_vertex laws n s cut planes.limits _ _ _ _ ring.q3 n3 t.t3,
      )
      (ap (λ (q : Quad). flat (q ∷ [])) (turned_is loops_of n s cut along x j k) ∙ sym (quads_of loops_of n s cut (along_axis along) x j k c))
    where
      facts : (inner n (along_axis along) x j k ≡ true) × (crossed_from n s cut (along_axis along) x j k ≡ true)
      facts = and_both (inner n (along_axis along) x j k) (crossed_from n s cut (along_axis along) x j k) c

      ring : Ring (CrossedIn n s cut) along x j k
      ring = crossed_ring n s cut along x j k (inner_facts n (along_axis along) x j k facts.0) facts.1

  module _ (w : ℕ) (hw : w < 4) where
    abbrev d : ℕ
    d = edges_of along a b n.nx j w

    digit : (i : ℕ) → i < 64 → d / 2 ^ i % 2 ≡ bit (crossed (64 * w + i))
    digit i h = word_bit (edges_word n s cut along k a b j w planes row hw) i h

    edge_is : (i : ℕ) → i < 64 → picked d (λ (i : ℕ). quad_of (get_or a (5 * j + w) 0 / 2 ^ i % 2) (64 * w + i)) i ≡ lists (64 * w + i)
    edge_is i h = go (crossed (64 * w + i)) refl
      where
        go : (c : Bool) → crossed (64 * w + i) ≡ c → picked d (λ (i : ℕ). quad_of (get_or a (5 * j + w) 0 / 2 ^ i % 2) (64 * w + i)) i ≡ lists (64 * w + i)
        go false e = picked_unset d (λ (i : ℕ). quad_of (get_or a (5 * j + w) 0 / 2 ^ i % 2) (64 * w + i)) i (digit i h ∙ ap bit e) ∙ sym (quads_none loops_of n s cut (along_axis along) (64 * w + i) j k e)
        go true e =
            let set : holds d i ≡ true = eq-eqb _ 1 (digit i h ∙ ap bit e) in
            picked_set d (λ (i : ℕ). quad_of (get_or a (5 * j + w) 0 / 2 ^ i % 2) (64 * w + i)) i set
            ∙ quad_is (64 * w + i) _ e (sign_bit planes.lower j w (omega (arith, row.1)) i (omega arith) h (omega (arith, edge_in along a b n.nx j w i h set)))

    word_is : word_by (edge_of along) (back_of along) (order_sign along) n0 n1 n2 n3 d (get_or a (5 * j + w) 0) (64 * w) ≡ below (λ (i : ℕ). lists (64 * w + i)) 64
    word_is = below_same _ _ 64 edge_is

  pub row_is : row_by along a b n.nx j n0 n1 n2 n3 ≡ row_quads loops_of n s cut (along_axis along) k j
  row_is =
      below_same _ (λ (w : ℕ). below (λ (i : ℕ). lists (64 * w + i)) 64) (words_in n.nx) (λ w h. word_is w (omega (arith, planes.limits.x_high)))
      ∙ sym (below_mul lists 64 (words_in n.nx))
      ∙ below_past lists n.nx (λ x h. quads_none loops_of n s cut (along_axis along) x j k (crossed_past n s cut (along_axis along) x j k (omega arith))) (64 * words_in n.nx) (omega arith)
