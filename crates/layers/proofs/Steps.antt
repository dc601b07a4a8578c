-- The quads of a row: none where there are none, room for them whatever the tables say, all three axes written, and how many there are.
-- Assumes nothing.
use Prim.Native.Nat.{ℕ, ◌+◌, ◌*◌, ◌≤◌}
use mathlib.Core.Path.{◌≡◌, refl, sym, ap, ◌∙◌, subst}
use mathlib.Core.Bool.{Bool, true, false, cond}
use mathlib.Core.List.{List, []}
use native.Mathlib.Omega.{arith}
use borrow.Author.Tests.{lt-ltb}
use lib.Dec.{ltb}
use lib.ListN.{length}
use lib.Seq.{sets}
use lib.Ieee.{Float}
use Rattle.block.specs.declared.Cut.{Cut}
use Rattle.vertices.specs.Layers.{RowWritten}
use Rattle.quads.specs.declared.Along.{Along}
use Rattle.quads.specs.declared.Along.TheVariants.{AxisX, AxisY, AxisZ}
use Rattle.quads.specs.Edges.{edge_count}
use Rattle.laws.specs.Put.{Put}
use Rattle.quads.specs.Writing.{row_by}
use Rattle.quads.proofs.Counts.{row_counted}
use Rattle.laws.proofs.Puts.{put_none, put_as}
use Rattle.layers.specs.declared.Marks.{Marks}
use Rattle.rows.specs.declared.Row.{Row}
use Rattle.layers.specs.Steps.{half, has_quads, step_by, step_x, step_y, step_z, QuadsReady, QuadsMore, RowStepped, RowCounted}

-- ---- along one axis

-- what `has_quads` answers
module _ {along : Along} (j : ℕ) (lower : Bool) where
  pub has_none_x : along ≡ AxisX → j ≡ 0 → false ≡ has_quads along j lower
  has_none_x e f = rw (e, f)

  pub has_x : along ≡ AxisX → (j ≡ 0 → ⊥) → lower ≡ has_quads along j lower
  has_x e ne = rw (e, lt-ltb 0 j (omega arith))

  pub has_z : along ≡ AxisZ → ltb 0 j ≡ has_quads along j lower
  has_z e = rw e

module _ (along : Along) (a b : List ℕ) (nx j : ℕ) (lower : Bool) where
  module _ (n0 n1 n2 n3 : List ℕ) where
    pub step_none : {t : Bool} → t ≡ has_quads along j lower → t ≡ false → step_by along a b nx j lower n0 n1 n2 n3 ≡ []
    step_none e f = rw (sym e ∙ f)

    pub step_some : {t : Bool} → t ≡ has_quads along j lower → t ≡ true → step_by along a b nx j lower n0 n1 n2 n3 ≡ row_by along a b nx j n0 n1 n2 n3
    step_some e f = rw (sym e ∙ f)

  pub step_counted : {t : Bool} → t ≡ has_quads along j lower → t ≡ true → length (step_by along a b nx j lower [] [] [] []) ≡ 4 * edge_count along a b nx j
  step_counted e f = ap length (step_some [] [] [] [] e f) ∙ row_counted along a b nx j [] [] [] []

  -- how many words they take does not depend on what the tables say
  pub step_length : (n0 n1 n2 n3 m0 m1 m2 m3 : List ℕ) → length (step_by along a b nx j lower n0 n1 n2 n3) ≡ length (step_by along a b nx j lower m0 m1 m2 m3)
  step_length n0 n1 n2 n3 m0 m1 m2 m3 = go (has_quads along j lower)
    where
      go : (t : Bool) → length (cond t (row_by along a b nx j n0 n1 n2 n3) []) ≡ length (cond t (row_by along a b nx j m0 m1 m2 m3) [])
      go true = row_counted along a b nx j n0 n1 n2 n3 ∙ sym (row_counted along a b nx j m0 m1 m2 m3)
      go false = refl

-- nothing is written
pub put_nothing : {xs : List ℕ} (from : ℕ) (b : List ℕ) → xs ≡ [] → Put b from xs b from
put_nothing from b e = put_as (sym e) (put_none b from)

-- ---- along all three

module _ {row : Row} {a b below : List ℕ} {m : Marks} {room : ℕ} (r : QuadsReady row a b below m room) (old under prev own : List ℕ) where
  pub x_room : m.x + length (step_x a row.nx row.j row.lower old under prev own) ≤ room
  x_room = omega (arith, r.room_x, step_length AxisX a a row.nx row.j row.lower old under own prev [] [] [] [])

  pub y_room : m.y + length (step_y a row.nx row.j row.lower under own) ≤ room
  y_room = omega (arith, r.room_y, step_length AxisY a a row.nx row.j row.lower under under own own [] [] [] [])

  pub z_room : m.z + length (step_z a b row.nx row.j row.lower prev own) ≤ room
  z_room = omega (arith, r.room_z, step_length AxisZ a b row.nx row.j row.lower prev prev own own [] [] [] [])

pub quads_more : {xs ys zs : List ℕ} {m : Marks} {q q₁ q₂ q₃ : List ℕ} {x y z : ℕ} → Put q m.x xs q₁ x → Put q₁ m.y ys q₂ y → Put q₂ m.z zs q₃ z
    → QuadsMore xs ys zs m (record { v = m.v; x = x; y = y; z = z }) q q₃
quads_more {xs} {ys} {zs} {m} g h f = record {
  x_is = g.behind;
  y_is = h.behind;
  z_is = f.behind;
  quads_are = f.stored ∙ ap (λ (l : List ℕ). sets l m.z zs) (h.stored ∙ ap (λ (l : List ℕ). sets l m.y ys) g.stored);
}

-- the same tables, told in another way
module _ (row : Row) (a b : List ℕ) (m r : Marks) (q q' : List ℕ) where
  abbrev More : List ℕ → List ℕ → List ℕ → List ℕ → Type 0
  More old under prev own =
      QuadsMore (step_x a row.nx row.j row.lower old under prev own) (step_y a row.nx row.j row.lower under own) (step_z a b row.nx row.j row.lower prev own) m r q q'

  pub more_as : {old old' under under' prev prev' own own' : List ℕ} → old ≡ old' → under ≡ under' → prev ≡ prev' → own ≡ own' → More old under prev own → More old' under' prev' own'
  more_as {old} {old'} {under} {under'} {prev} {prev'} {own} {own'} e f g h x =
      subst (λ (t : List ℕ). More t under' prev' own') e (subst (λ (t : List ℕ). More old t prev' own') f (subst (λ (t : List ℕ). More old under t own') g (subst (λ (t : List ℕ). More old under prev t) h x)))

-- ---- a row

pub written_as : {loops_of : Cut → List ℕ → List ℕ} {lo hi : List ℕ} {cut : Cut} {nx c first v : ℕ} {w₀ w : List ℕ} {o₀ o : List Float} {t₀ t₀' t t' : List ℕ} {r r' : ℕ} → t₀ ≡ t₀' → t ≡ t' → r ≡ r'
    → RowWritten loops_of lo hi cut nx c first v w₀ w o₀ o t₀ t r → RowWritten loops_of lo hi cut nx c first v w₀ w o₀ o t₀' t' r'
written_as {loops_of} {lo} {hi} {cut} {nx} {c} {first} {v} {w₀} {w} {o₀} {o} {t₀} {t₀'} {t} {t'} {r} {r'} e₀ e f h =
    subst (λ (x : ℕ). RowWritten loops_of lo hi cut nx c first v w₀ w o₀ o t₀' t' x) f
    (subst (λ (x : List ℕ). RowWritten loops_of lo hi cut nx c first v w₀ w o₀ o t₀' x r) e (subst (λ (x : List ℕ). RowWritten loops_of lo hi cut nx c first v w₀ w o₀ o x t r) e₀ h))

-- a row's quads do not depend on the vertices' mark
pub ready_as : {row : Row} {a b below : List ℕ} {m : Marks} {room : ℕ} (v : ℕ) → QuadsReady row a b below m room → QuadsReady row a b below (record { v = v; x = m.x; y = m.y; z = m.z }) room
ready_as v r = record { fits = r.fits; below_long = r.below_long; room_x = r.room_x; room_y = r.room_y; room_z = r.room_z }

pub quads_as : {xs ys zs : List ℕ} {m r : Marks} {q q' : List ℕ} (v : ℕ) → QuadsMore xs ys zs (record { v = v; x = m.x; y = m.y; z = m.z }) r q q' → QuadsMore xs ys zs m r q q'
quads_as v h = record { x_is = h.x_is; y_is = h.y_is; z_is = h.z_is; quads_are = h.quads_are }

-- `row_step` moves the marks as far as `row_counts` says
pub step_counts : (loops_of : Cut → List ℕ → List ℕ) (lo hi : List ℕ) (row : Row) (a b below : List ℕ) (m : Marks) (w₀ w : List ℕ) (o₀ o : List Float) (q₀ q t₀ t : List ℕ) (r : Marks)
    → RowStepped loops_of lo hi row a b below m w₀ w o₀ o q₀ q t₀ t r → RowCounted loops_of lo hi row a b m r
step_counts loops_of lo hi row a b below m w₀ w o₀ o q₀ q t₀ t r h =
    let j = row.j in
    record {
      v_is = h.written.stored.number;
      x_is = h.more.x_is ∙ ap (λ (l : ℕ). m.x + l) (step_length AxisX a a row.nx j row.lower (half (j + 1) below) (half j below) (half j t) (half (j + 1) t) [] [] [] []);
      y_is = h.more.y_is ∙ ap (λ (l : ℕ). m.y + l) (step_length AxisY a a row.nx j row.lower (half j below) (half j below) (half j t) (half j t) [] [] [] []);
      z_is = h.more.z_is ∙ ap (λ (l : ℕ). m.z + l) (step_length AxisZ a b row.nx j row.lower (half (j + 1) t) (half (j + 1) t) (half j t) (half j t) [] [] [] []);
    }
