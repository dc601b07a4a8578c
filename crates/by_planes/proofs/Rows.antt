-- The rows of a start, of a plane and of an end, one after the other, as the code tries them.
-- Assumes nothing.
use Rattle.std.proofs.Common.{◌≡◌, ℕ, ◌*◌, ◌<◌, ◌≤◌, Bool, cond, eqb, ltb, leb, List, [], ◌∷◌, sym, refl, ap, ◌∙◌, ap₂, mul-le-mul, arith, ltb-true, le-ltb, lt-ltb, eq-eqb, ne_eqb, eqb-true, le-leb, leb-true}
use borrow.Author.Tests.{lt-leb}
use Rattle.block.specs.declared.Checked.{Checked}
use Rattle.block.specs.declared.Checked.TheVariants.{Passes, Refuses}
use Rattle.block.specs.declared.Refusal.{Refusal}
use Rattle.block.specs.declared.Size.{Size}
use Rattle.block.specs.Answer.{refuses, in_order, judged}
use Rattle.block.specs.Rows.{axis_row, threshold_row, room_row}
use Rattle.block.specs.Size.{Limits}
use Rattle.block.proofs.Order.{order_refuses, order_passes, order_last, order_first, order_rest, judged_refused, judged_passed}
use Rattle.block.proofs.Rows.{given_small, unless_none, unless_passes, unless_refuses}
use Rattle.block.proofs.Sizes.{within_axes}
use Rattle.mesh.specs.declared.Counted.TheVariants as counted
use Rattle.mesh.specs.declared.Totals.{Totals}
use Rattle.by_planes.specs.declared.Stream.{Stream}
use Rattle.by_planes.specs.declared.Started.TheVariants as started
use Rattle.by_planes.specs.Answer.{size_in, work_row, past_row, plane_row, call_rows, end_row, said_start, FinishAnswered}
use Rattle.by_planes.specs.Steps.{Sizes, first_of}

-- the plane of a size is small
module _ {st : Stream} {n : Size} (z : Sizes st n) {nx ny : ℕ} (ex : nx ≡ n.nx) (ey : ny ≡ n.ny) where
  pub plane_small : nx * ny ≤ 65536
  plane_small =
      let x : nx ≤ 256 = omega (arith, z.limits.x_high) in
      let y : ny ≤ 256 = omega (arith, z.limits.y_high) in
      mul-le-mul x y

  pub plane_is : nx * ny ≡ st.nx * st.ny
  plane_is = ap₂ (λ (x y : ℕ). x * y) (ex ∙ ap (λ (m : Size). m.nx) z.is) (ey ∙ ap (λ (m : Size). m.ny) z.is)

  -- row 15 by what the code makes
  pub work_is : (room : ℕ) → room_row (6 * (nx * ny)) room ≡ work_row st.nx st.ny room
  work_is room = ap (λ (a : ℕ). room_row (6 * a) room) plane_is

-- ---- a start

module _ (st : Stream) (room : ℕ) where
  abbrev start_last : Checked
  start_last = in_order (threshold_row st.cut ∷ work_row st.nx st.ny room ∷ [])

  pub start_threshold : (x : Refusal) → threshold_row st.cut ≡ Refuses x → said_start (started.Refused x) ≡ judged start_last st
  start_threshold x e = judged_refused start_last st x (order_refuses (threshold_row st.cut) _ x e)

  module _ (t : threshold_row st.cut ≡ Passes) where
    start_last_lem : start_last ≡ work_row st.nx st.ny room
    start_last_lem = order_passes (threshold_row st.cut) _ t ∙ order_last (work_row st.nx st.ny room)

    pub start_short : (x : Refusal) → work_row st.nx st.ny room ≡ Refuses x → said_start (started.Refused x) ≡ judged start_last st
    start_short x e = judged_refused start_last st x (start_last_lem ∙ e)

    pub start_begins : work_row st.nx st.ny room ≡ Passes → said_start (started.Begun st) ≡ judged start_last st
    start_begins e = judged_passed start_last st st (start_last_lem ∙ e) refl

-- ---- a plane: rows 3, 17, 2 and 15

module _ (st : Stream) (count room : ℕ) where
  abbrev pub later_rows : List Checked
  later_rows = threshold_row st.cut ∷ past_row st ∷ plane_row st count ∷ work_row st.nx st.ny room ∷ []

  pub call_threshold : (x : Refusal) → threshold_row st.cut ≡ Refuses x → Refuses x ≡ in_order later_rows
  call_threshold x e = sym (order_refuses (threshold_row st.cut) _ x e)

  module _ (t : threshold_row st.cut ≡ Passes) where
    after_threshold : in_order later_rows ≡ in_order (past_row st ∷ plane_row st count ∷ work_row st.nx st.ny room ∷ [])
    after_threshold = order_passes (threshold_row st.cut) _ t

    pub call_past : st.nz ≤ 4294967295 → st.nz ≤ st.planes → Refuses (record { number = 17; value = st.nz }) ≡ in_order later_rows
    call_past s h = sym (after_threshold ∙ order_refuses (past_row st) _ _ (sym (unless_refuses (ltb st.planes st.nz) 17 st.nz st.nz (le-ltb st.planes st.nz h) (sym (given_small st.nz s)))))

    module _ (h : st.planes < st.nz) where
      after_past : in_order later_rows ≡ in_order (plane_row st count ∷ work_row st.nx st.ny room ∷ [])
      after_past = after_threshold ∙ order_passes (past_row st) _ (sym (unless_passes (ltb st.planes st.nz) 17 st.nz (lt-ltb st.planes st.nz h)))

      pub call_plane : (all : ℕ) → all ≤ 65536 → all ≡ st.nx * st.ny → (count ≡ all → ⊥) → Refuses (record { number = 2; value = all }) ≡ in_order later_rows
      call_plane all s e ne =
          sym (after_past ∙ order_refuses (plane_row st count) _ _ (sym (unless_refuses (eqb count (st.nx * st.ny)) 2 (st.nx * st.ny) all (ne_eqb count (st.nx * st.ny) (λ q. ne (q ∙ sym e))) (e ∙ sym (given_small (st.nx * st.ny) (omega arith))))))

      pub call_room : count ≡ st.nx * st.ny → work_row st.nx st.ny room ≡ in_order later_rows
      call_room e =
          sym (after_past ∙ order_passes (plane_row st count) _ (sym (unless_passes (eqb count (st.nx * st.ny)) 2 (st.nx * st.ny) (eq-eqb count (st.nx * st.ny) e))) ∙ order_last (work_row st.nx st.ny room))

  -- row 1 is passed by a size within its limits
  pub call_axes : Limits (size_in st) → in_order (call_rows st count room) ≡ in_order later_rows
  call_axes l = order_passes (axis_row st.nx st.ny st.nz) _ (within_axes st.nx st.ny st.nz l)

  -- what follows where they pass
  pub passed : in_order later_rows ≡ Passes → (threshold_row st.cut ≡ Passes) × (st.planes < st.nz) × (count ≡ st.nx * st.ny) × (6 * (st.nx * st.ny) ≤ room)
  passed e =
      let a = order_rest (threshold_row st.cut) _ e in
      let b = order_rest (past_row st) _ a in
      let c = order_rest (plane_row st count) _ b in (
        order_first (threshold_row st.cut) _ e,
        ltb-true st.planes st.nz (unless_none (ltb st.planes st.nz) 17 st.nz (order_first (past_row st) _ a)),
        eqb-true count (st.nx * st.ny) (unless_none (eqb count (st.nx * st.ny)) 2 (st.nx * st.ny) (order_first (plane_row st count) _ b)),
        leb-true (6 * (st.nx * st.ny)) room (unless_none (leb (6 * (st.nx * st.ny)) room) 15 (6 * (st.nx * st.ny)) (order_first (work_row st.nx st.ny room) _ c)),
      )

-- ---- an end

module _ (st : Stream) where
  abbrev both : Totals
  both = record { vertices = st.vertices; quads = st.quads }

  pub end_early : st.planes ≤ 4294967295 → st.planes < st.nz → FinishAnswered st (counted.Refused (record { number = 18; value = st.planes }))
  end_early s h =
      judged_refused (in_order (end_row st ∷ [])) both _
      (order_last (end_row st) ∙ ap (λ (b : Bool). cond b (refuses 18 st.planes) Passes) (lt-ltb st.planes st.nz h) ∙ ap (λ (v : ℕ). Refuses (record { number = 18; value = v })) (given_small st.planes s))

  pub end_given : st.nz ≤ st.planes → FinishAnswered st (counted.Counts (record { vertices = st.vertices; quads = st.quads }))
  end_given h = judged_passed (in_order (end_row st ∷ [])) both both (order_last (end_row st) ∙ ap (λ (b : Bool). cond b (refuses 18 st.planes) Passes) (le-ltb st.planes st.nz h)) refl

-- ---- the number of a layer's first vertex

pub first_small : (v : ℕ) → v ≤ 66325500 → v ≡ first_of v
first_small v h = ap (λ (b : Bool). cond b v 0) (sym (le-leb v 66325500 h))

pub first_large : (v : ℕ) → 66325500 < v → 0 ≡ first_of v
first_large v h = ap (λ (b : Bool). cond b v 0) (sym (lt-leb v 66325500 h))
