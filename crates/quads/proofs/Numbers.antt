-- The number that a row's table gives a vertex is the number that the mesh gives it.
-- Assumes nothing.
use Rattle.std.proofs.Common.{◌≡◌, ℕ, zero, suc, ◌+◌, ◌-◌, ◌*◌, ◌/◌, ◌%◌, ◌^◌, ◌<◌, ◌≤◌, Bool, true, false, cond, List, [], ◌∷◌, map, length, get_or, sym, refl, ap, ◌∙◌, ap₂, mod-eq_of_lt, arith, length-append}
use lib.Bits.{bit_or}
use lib.ListN.{length-map}
use lib.Pow.{field, mod-mod-pow}
use Rattle.laws.specs.Below.{below}
use Rattle.laws.specs.Bits.{bit, holds}
use Rattle.laws.proofs.Below.{below_add, at_most}
use Rattle.laws.proofs.Bits.{holds_none}
use Rattle.laws.proofs.Index.{index_lt}
use Rattle.laws.proofs.Words.{or_digit, digit_holds}
use Rattle.block.specs.declared.Cut.{Cut}
use Rattle.block.specs.declared.Size.{Size}
use Rattle.block.specs.Numbering.{cube_number, cube_count}
use Rattle.block.specs.Size.{Limits}
use Rattle.block.proofs.Products.{product_le}
use Rattle.cell.specs.Answer.{word_of}
use Rattle.cell.proofs.Words.{word_holds}
use Rattle.cube_rule.specs.Laws.{CubeLaws}
use Rattle.cube_rule.specs.Links.{Decider}
use Rattle.block.specs.Rows.{lowest}
use Rattle.cube_rule.specs.Rule.{holders, first_holder}
use Rattle.mesh_rule.specs.Grid.{corners_at, corners_of}
use Rattle.mesh_rule.specs.Layers.{row_cube, vertex_at}
use Rattle.mesh_rule.specs.Mesh.{cube_loops, vertices_of, vertices_before, vertex_number}
use Rattle.mesh_rule.proofs.Holders.{first_lt}
use Rattle.mesh_rule.proofs.Inner.{CrossedIn}
use Rattle.mesh_rule.proofs.Numbers.{one_for_each_loop, corners_of_number}
use Rattle.cube_vertices.specs.Cubes.{names_by}
use Rattle.notes.specs.Tables.{which_of, vertex_in}
use Rattle.quads.specs.Writing.{RowTable}

-- ---- which vertex has an edge

-- a bit of the low 16
low_digit : (z e : ℕ) → e < 16 → z % 65536 / 2 ^ e % 2 ≡ z / 2 ^ e % 2
low_digit z e h =
    ap (λ (m : ℕ). z % 2 ^ m / 2 ^ e % 2) (parts h)
    ∙ ap (λ (x : ℕ). x % 2) (field z (15 - e + 1) e)
    ∙ mod-mod-pow (z / 2 ^ e) (15 - e) 1
  where
    parts : e < 16 → 16 ≡ 15 - e + 1 + e
    parts h = omega arith

-- the two digits of the one that holds, of one to four
one_of : (p : Bool) → bit p + 0 ≡ 1 → ◌≡◌ {A = ℕ} (cond p 0 1) 0
one_of true e = refl
one_of false e = absurd (omega arith)

two_of_lem : (p q : Bool) → bit p + (bit q + 0) ≡ 1 → ◌≡◌ {A = ℕ} (cond p 0 (suc (cond q 0 1))) (bit q)
two_of_lem true true e = absurd (omega arith)
two_of_lem true false e = refl
two_of_lem false true e = refl
two_of_lem false false e = absurd (omega arith)

three_of_lem : (p q r : Bool) → bit p + (bit q + (bit r + 0)) ≡ 1 → ◌≡◌ {A = ℕ} (cond p 0 (suc (cond q 0 (suc (cond r 0 1))))) (bit q + 2 * bit r)
three_of_lem true true r e = absurd (omega arith)
three_of_lem true false true e = absurd (omega arith)
three_of_lem true false false e = refl
three_of_lem false true true e = absurd (omega arith)
three_of_lem false true false e = refl
three_of_lem false false true e = refl
three_of_lem false false false e = absurd (omega arith)

four_of : (p q r t : Bool) → bit p + (bit q + (bit r + (bit t + 0))) ≡ 1
    → ◌≡◌ {A = ℕ} (cond p 0 (suc (cond q 0 (suc (cond r 0 (suc (cond t 0 1))))))) (bit_or (bit q) (bit t) + 2 * bit_or (bit r) (bit t))
four_of true true r t e = absurd (omega arith)
four_of true false true t e = absurd (omega arith)
four_of true false false true e = absurd (omega arith)
four_of true false false false e = refl
four_of false true true t e = absurd (omega arith)
four_of false true false true e = absurd (omega arith)
four_of false true false false e = refl
four_of false false true true e = absurd (omega arith)
four_of false false true false e = refl
four_of false false false true e = refl
four_of false false false false e = absurd (omega arith)

-- the digits of two words joined
or_digits : (a b e : ℕ) → bit_or a b / 2 ^ e % 2 ≡ bit_or (bit (holds a e)) (bit (holds b e))
or_digits a b e = or_digit a b e ∙ ap₂ bit_or (digit_holds a e) (digit_holds b e)

none_holds : (e : ℕ) → bit (holds 0 e) ≡ 0
none_holds e = rw (holds_none e)

-- what a cube notes tells which of its words holds an edge
abbrev digits : List ℕ → ℕ → ℕ
digits ws e = bit_or (get_or ws 1 0) (get_or ws 3 0) / 2 ^ e % 2 + 2 * (bit_or (get_or ws 2 0) (get_or ws 3 0) / 2 ^ e % 2)

digits_first : (ws : List ℕ) (e : ℕ) → length ws ≤ 4 → holders e ws ≡ 1 → digits ws e ≡ first_holder e ws
unfolding lowest
digits_first [] e h o = absurd (omega arith)
digits_first (a ∷ []) e h o = rw (or_digits 0 0 e, none_holds e) (sym (one_of (holds a e) o))
digits_first (a ∷ b ∷ []) e h o = rw (or_digits b 0 e, or_digits 0 0 e, none_holds e) (or_zero (holds b e) ∙ sym (two_of_lem (holds a e) (holds b e) o))
  where
    or_zero : (t : Bool) → bit_or (bit t) 0 + 2 * bit_or 0 0 ≡ bit t
    or_zero true = refl
    or_zero false = refl
digits_first (a ∷ b ∷ c ∷ []) e h o = rw (or_digits b 0 e, or_digits c 0 e, none_holds e) (or_zero (holds b e) (holds c e) ∙ sym (three_of_lem (holds a e) (holds b e) (holds c e) o))
  where
    or_zero : (t u : Bool) → bit_or (bit t) 0 + 2 * bit_or (bit u) 0 ≡ bit t + 2 * bit u
    or_zero true true = refl
    or_zero true false = refl
    or_zero false true = refl
    or_zero false false = refl
digits_first (a ∷ b ∷ c ∷ d ∷ []) e h o = rw (or_digits b d e, or_digits c d e) (sym (four_of (holds a e) (holds b e) (holds c e) (holds d e) o))
digits_first (a ∷ b ∷ c ∷ d ∷ f ∷ ws) e h o = absurd (omega arith)

which_digits : (ws : List ℕ) (e : ℕ) → e < 16 → which_of ws % 65536 / 2 ^ e % 2 + 2 * (which_of ws / 65536 / 2 ^ e % 2) ≡ digits ws e
unfolding which_of
which_digits ws e h =
    ap₂ (λ (x y : ℕ). x / 2 ^ e % 2 + 2 * (y / 2 ^ e % 2)) (low (bit_or (get_or ws 1 0) (get_or ws 3 0)) (bit_or (get_or ws 2 0) (get_or ws 3 0))) (high (bit_or (get_or ws 1 0) (get_or ws 3 0)) (bit_or (get_or ws 2 0) (get_or ws 3 0)))
    ∙ ap₂ (λ (x y : ℕ). x + 2 * y) (low_digit (bit_or (get_or ws 1 0) (get_or ws 3 0)) e h) (low_digit (bit_or (get_or ws 2 0) (get_or ws 3 0)) e h)
  where
    low : (x y : ℕ) → (x % 65536 + 65536 * (y % 65536)) % 65536 ≡ x % 65536
    low x y = omega arith

    high : (x y : ℕ) → (x % 65536 + 65536 * (y % 65536)) / 65536 ≡ y % 65536
    high x y = omega arith

-- ---- how many vertices there are before a cube

same_lengths : {A B : Type 0} (f : ℕ → List A) (g : ℕ → List B) → ((x : ℕ) → length (f x) ≡ length (g x)) → (m : ℕ) → length (below f m) ≡ length (below g m)
unfolding below
same_lengths f g e zero = refl
same_lengths f g e (suc m) = rw (length-append (below f m) (f m), length-append (below g m) (g m), same_lengths f g e m, e m)

module _ (loops_of : Cut → List ℕ → List ℕ) (n : Size) (s : List ℕ) (cut : Cut) where
  pub number_run : (c₀ m : ℕ) → length (vertices_before loops_of n s cut (c₀ + m)) ≡ length (vertices_before loops_of n s cut c₀) + length (below (λ (x : ℕ). cube_loops loops_of n s cut (c₀ + x)) m)
  unfolding vertices_before
  number_run c₀ m =
      ap length (below_add (vertices_of loops_of n s cut) c₀ m)
      ∙ length-append (below (vertices_of loops_of n s cut) c₀) (below (λ (x : ℕ). vertices_of loops_of n s cut (c₀ + x)) m)
      ∙ ap (λ (x : ℕ). length (below (vertices_of loops_of n s cut) c₀) + x)
      (same_lengths (λ (x : ℕ). vertices_of loops_of n s cut (c₀ + x)) (λ (x : ℕ). cube_loops loops_of n s cut (c₀ + x)) (λ x. one_for_each_loop loops_of n s cut (c₀ + x)) m)

  pub vertices_few : ((cs : List ℕ) → length (loops_of cut cs) ≤ 4) → (c : ℕ) → length (vertices_before loops_of n s cut c) ≤ 4 * c
  unfolding vertices_before
  vertices_few four c =
      at_most (vertices_of loops_of n s cut) 4 c
      (λ m l. omega (arith, one_for_each_loop loops_of n s cut m, four (corners_of n s m)))

pub cubes_few : (n : Size) → Limits n → cube_count n ≤ 16581375
cubes_few n l = product_le (n.nx - 1) (n.ny - 1) (n.nz - 1) 255 255 255 (less l.x_high) (less l.y_high) (less l.z_high)
  where
    less : {m : ℕ} → m ≤ 256 → m - 1 ≤ 255
    less h = omega arith

-- ---- a vertex by its row's table

-- the words of a cube's vertices hold the edges that its masks hold
words_hold : (cs ms : List ℕ) (e : ℕ) → e < 12 → (holders e (map (word_of cs) ms) ≡ holders e ms) × (first_holder e (map (word_of cs) ms) ≡ first_holder e ms)
unfolding lowest
words_hold cs [] e h = (refl, refl)
words_hold cs (m ∷ ms) e h =
    let r = words_hold cs ms e h in
    (ap₂ (λ (b : Bool) (x : ℕ). bit b + x) (word_holds cs m e h) r.0, ap₂ (λ (b : Bool) (x : ℕ). cond b 0 (suc x)) (word_holds cs m e h) r.1)

module _ {D : Decider} {loops_of : Cut → List ℕ → List ℕ} (laws : CubeLaws D loops_of) (n : Size) (s : List ℕ) (cut : Cut) (limits : Limits n) (x y z e : ℕ) (h : CrossedIn n s cut x y z e) (numbers : List ℕ) (t : RowTable loops_of n s cut y z numbers) where
  abbrev row : ℕ
  row = row_cube n.nx n.ny y z

  abbrev loops : List ℕ
  loops = cube_loops loops_of n s cut (row + x)

  cube_is : row + x ≡ cube_number n x y z
  cube_is = behind (n.nx - 1) (n.ny - 1)
    where
      behind : (w k : ℕ) → w * (y + k * z) + x ≡ x + w * (y + k * z)
      behind w k = omega arith

  one : holders e loops ≡ 1
  one =
      ap (λ (c : ℕ). holders e (cube_loops loops_of n s cut c)) cube_is
      ∙ ap (λ (cs : List ℕ). holders e (loops_of cut cs)) (corners_of_number n s x y z h.cube_in_lem.0 h.cube_in_lem.1)
      ∙ laws.each cut (corners_at n s x y z) e h.edge_lt
      ∙ ap bit h.is_crossed

  first_in : first_holder e loops < length loops
  first_in = first_lt e loops (omega (arith, one))

  abbrev names : List ℕ
  names = names_by loops_of cut (corners_of n s (row + x))

  names_count : length names ≡ length loops
  names_count = length-map loops (word_of (corners_of n s (row + x)))

  some : 0 < length names
  some = omega (arith, names_count, first_in)

  which : digits names e ≡ first_holder e loops
  which =
      digits_first names e (omega (arith, names_count, laws.four cut (corners_of n s (row + x)))) ((words_hold (corners_of n s (row + x)) loops e h.edge_lt).0 ∙ one)
      ∙ (words_hold (corners_of n s (row + x)) loops e h.edge_lt).1

  in_box : cube_number n x y z < cube_count n
  in_box = index_lt (n.nx - 1) (n.ny - 1) x y z h.cube_in_lem.0 h.cube_in_lem.1 (n.nz - 1) h.cube_in_lem.2

  pub numbered_vertex : vertex_in numbers x e ≡ vertex_at loops_of n s cut x y z e
  unfolding vertex_in vertex_number
  numbered_vertex =
      ap₂ (λ (f w : ℕ). (f + (w % 65536 / 2 ^ e % 2 + 2 * (w / 65536 / 2 ^ e % 2))) % 4294967296) (t.first x h.cube_in_lem.0 some) (t.which x h.cube_in_lem.0 some)
      ∙ ap (λ (d : ℕ). (before + d) % 4294967296) (which_digits names e (omega (arith, h.edge_lt)) ∙ which)
      ∙ mod-eq_of_lt (small _ _ _ _ _ _ (number_run loops_of n s cut row x) (vertices_few loops_of n s cut (laws.four cut) (row + x)) cube_is in_box (cubes_few n limits) first_in (laws.four cut (corners_of n s (row + x))))
      ∙ ap (λ (v : ℕ). v + first_holder e loops) (sym (number_run loops_of n s cut row x))
      ∙ ap (λ (c : ℕ). length (vertices_before loops_of n s cut c) + first_holder e (cube_loops loops_of n s cut c)) cube_is
    where
      before : ℕ
      before = length (vertices_before loops_of n s cut row) + length (below (λ (x : ℕ). cube_loops loops_of n s cut (row + x)) x)

      small : (v b c k d m : ℕ) {l : ℕ} → v ≡ b → v ≤ 4 * c → c ≡ k → k < d → d ≤ 16581375 → m < l → l ≤ 4 → b + m < 4294967296
      small v b c k d m p q r a u f g = omega arith
