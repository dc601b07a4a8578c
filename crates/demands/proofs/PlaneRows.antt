-- A mesh plane by plane (document 02, Nine): what a start, a plane and an end refuse and accept, that a refused plane changes nothing, and which numbers they
-- give. A state that a start gave, or a plane after it, never meets rows 1 and 3.
use Prim.Native.Nat.{ℕ, ◌*◌, ◌≤◌, ◌<◌}
use mathlib.Core.Path.{◌≡◌, refl, ap, sym, ◌∙◌, subst}
use mathlib.Core.Logic.{◌↔◌, ◌⊎◌, inl, inr}
use mathlib.Core.List.{List, [], ◌∷◌, ◌++◌}
use native.Mathlib.Nat.{mod-eq_of_lt}
use native.Mathlib.Omega.{arith}
use lib.Dec.{leb, ltb, eqb}
use lib.Ieee.{Float}
use lib.ListN.{length}
use lib.Seq.{take_all}
use Rattle.laws.specs.Below.{over}
use Rattle.block.specs.declared.Checked.{Checked}
use Rattle.block.specs.declared.Checked.TheVariants.{Passes, Refuses}
use Rattle.block.specs.declared.Cut.{Cut}
use Rattle.block.specs.declared.Refusal.{Refusal}
use Rattle.block.specs.Answer.{Answer, accepted, refused, in_order, First, judged}
use Rattle.block.specs.Grey.{cut_of}
use Rattle.block.specs.Rows.{axis_row, threshold_row}
use Rattle.block.proofs.Order.{orders_refuse, judged_refused, accepted_exactly, refused_exactly, first_has}
use Rattle.block.proofs.Sizes.{within_axes}
use Rattle.block.proofs.Rows.{holds_where}
use Rattle.mesh.specs.declared.Counted.{Counted}
use Rattle.mesh.specs.declared.Counted.TheVariants as counted
use Rattle.mesh.specs.declared.Totals.{Totals}
use Rattle.mesh.specs.Answer.{said_counts, buffer_rows, told_counts}
use Rattle.by_planes.specs.declared.Stream.{Stream}
use Rattle.by_planes.specs.declared.Growth.{Growth}
use Rattle.by_planes.specs.declared.Started.{Started}
use Rattle.by_planes.specs.declared.Started.TheVariants as started
use Rattle.by_planes.specs.declared.Taken.{Taken}
use Rattle.by_planes.specs.Answer.{size_in, plane_of, part_totals, begun, further, start_rows, call_rows, take_verdict, end_row, said_start, said_taken, StartAnswered, FinishAnswered}
use Rattle.by_planes.specs.Left.{Left, PlaneTaken}
use Rattle.by_planes.proofs.Rows.{call_axes, passed}
use Rattle.parsniprow_c.specs.Told.{tell_over, state_after, StartTold, EndTold}
use Rattle.told.specs.Numbers.{told_nothing, state_numbers, state_of}
use Rattle.demands.proofs.Numbers.{unless_number, axis_number_lem, threshold_number, vertex_number_lem, quad_number}
use Rattle.demands.proofs.Refusals.{refuses_by}

-- ---- there is an answer to every start and to every end

start_of : (a : Answer Stream) → (r : Started) × (said_start r ≡ a)
start_of (accepted st) = (started.Begun st, refl)
start_of (refused x) = (started.Refused x, refl)

counts_of_lem : (a : Answer Totals) → (r : Counted) × (said_counts r ≡ a)
counts_of_lem (accepted c) = (counted.Counts c, refl)
counts_of_lem (refused x) = (counted.Refused x, refl)

pub start_allows : (nx ny nz : ℕ) (cut : Cut) (room : ℕ) → (r : Started) × StartAnswered nx ny nz cut room r
start_allows nx ny nz cut room = start_of (judged (in_order (start_rows nx ny nz cut room)) (begun nx ny nz cut))

pub finish_allows : (st : Stream) → (r : Counted) × FinishAnswered st r
finish_allows st = counts_of_lem (judged (in_order (end_row st ∷ [])) (record { vertices = st.vertices; quads = st.quads }))

pub start_told_allows : (nx ny nz t noise : ℕ) (work state place : List ℕ) → (state' : List ℕ) × (place' : List ℕ) × StartTold nx ny nz t noise work state place state' place'
start_told_allows nx ny nz t noise work state place =
    let r = start_allows nx ny nz (cut_of t noise) (length work) in
    (state_after (said_start r.0) state, tell_over (told_nothing (said_start r.0)) place, record { answer = r.0; answered = r.1; state_told = refl; is_told = refl })

pub end_told_allows : (state place : List ℕ) → (place' : List ℕ) × EndTold state place place'
end_told_allows state place =
    let r = finish_allows (state_of state) in (tell_over (told_counts (said_counts r.0)) place, record { answer = r.0; answered = r.1; is_told = refl })

-- ---- a start

module _ (nx ny nz : ℕ) (cut : Cut) (room : ℕ) where
  -- the numbers 1, 3 and 15
  pub start_numbers : (x : Refusal) → in_order (start_rows nx ny nz cut room) ≡ Refuses x → (x.number ≡ 1) ⊎ ((x.number ≡ 3) ⊎ (x.number ≡ 15))
  start_numbers =
      first_has (λ (x : Refusal). (x.number ≡ 1) ⊎ ((x.number ≡ 3) ⊎ (x.number ≡ 15))) _ (
        λ x e. inl (axis_number_lem nx ny nz x e),
        (λ x e. inr (inl (threshold_number cut x e)), (λ x e. inr (inr (unless_number (leb (6 * (nx * ny)) room) 15 (6 * (nx * ny)) x e)), tt)),
      )

  module _ (r : Started) (promise : StartAnswered nx ny nz cut room r) where
    pub start_refuses : (x : Refusal) → (said_start r ≡ refused x) ↔ First (start_rows nx ny nz cut room) x
    start_refuses = refuses_by _ _ _ promise

    pub start_accepts : (st : Stream) → (said_start r ≡ accepted st) ↔ ((in_order (start_rows nx ny nz cut room) ≡ Passes) × (st ≡ begun nx ny nz cut))
    start_accepts = accepted_exactly _ _ _ promise

-- ---- a plane

-- the numbers 1 to 3, 5, 6, 15 and 17
abbrev pub PlaneNumber : ℕ → Type 0
PlaneNumber n = ((1 ≤ n) × (n ≤ 3)) ⊎ (((5 ≤ n) × (n ≤ 6)) ⊎ ((n ≡ 15) ⊎ (n ≡ 17)))

pub verdict_numbers : (st : Stream) (count room : ℕ) (c : Totals) (words offsets lent : ℕ) (x : Refusal) → take_verdict st count room c words offsets lent ≡ Refuses x → PlaneNumber x.number
verdict_numbers st count room c words offsets lent =
    first_has (λ (x : Refusal). PlaneNumber x.number) _ (
      λ x e. let n = axis_number_lem st.nx st.ny st.nz x e in inl (omega (arith, n), omega (arith, n)),
      (
        λ x e. let n = threshold_number st.cut x e in inl (omega (arith, n), omega (arith, n)),
        (
          λ x e. inr (inr (inr (unless_number (ltb st.planes st.nz) 17 st.nz x e))),
          (
            λ x e. let n = unless_number (eqb count (st.nx * st.ny)) 2 (st.nx * st.ny) x e in inl (omega (arith, n), omega (arith, n)),
            (
              λ x e. inr (inr (inl (unless_number (leb (6 * (st.nx * st.ny)) room) 15 (6 * (st.nx * st.ny)) x e))),
              (
                λ x e. let n = vertex_number_lem c.vertices words offsets x e in inr (inl (omega (arith, n), omega (arith, n))),
                (λ x e. let n = quad_number c.quads lent x e in inr (inl (omega (arith, n), omega (arith, n))), tt),
              ),
            ),
          ),
        ),
      ),
    )

module _ {st : Stream} {plane work w : List ℕ} {o : List Float} {q : List ℕ} {r : Taken} {work' w' : List ℕ} {o' : List Float} {q' : List ℕ} (promise : PlaneTaken st plane work w o q r work' w' o' q') where
  -- with any state and any work buffer the first row that holds decides, rows 5 and 6 by what the call counts
  pub plane_decides : (x : Refusal) → (said_taken r ≡ refused x) ↔ First (call_rows st (length plane) (length work) ++ buffer_rows promise.counted (length w) (length o) (length q)) x
  plane_decides = refuses_by _ _ _ promise.answer

  pub plane_numbers : (x : Refusal) → said_taken r ≡ refused x → PlaneNumber x.number
  plane_numbers x e = verdict_numbers st (length plane) (length work) promise.counted (length w) (length o) (length q) x ((refused_exactly _ _ _ promise.answer x).0 e)

  pub plane_keeps : (x : Refusal) → said_taken r ≡ refused x → (work' ≡ work) × (w' ≡ w) × (o' ≡ o) × (q' ≡ q)
  plane_keeps = promise.refusal_keeps

  -- a state and a work buffer as last left, and any plane, which is the block's next one if it has its length: 17, 2, 15, 5, 6 with what this call needs
  module _ {s : List ℕ} (left : Left s st work) (is : st.planes < st.nz → length plane ≡ st.nx * st.ny → plane ≡ plane_of (size_in st) s st.planes) where
    abbrev needed : Totals
    needed = part_totals (size_in st) s st.cut st.planes

    abbrev verdict : Totals → Checked
    verdict c = take_verdict st (length plane) (length work) c (length w) (length o) (length q)

    abbrev growth : Totals → Growth
    growth c = record { stream = further st c; counts = c }

    -- where a row refuses that needs no count, it does not matter what the call needs
    needs : (e : Checked) → in_order (call_rows st (length plane) (length work)) ≡ e → said_taken r ≡ judged (verdict needed) (growth needed)
    needs (Refuses x) e = promise.answer ∙ sym (judged_refused _ _ x (early promise.counted)) ∙ judged_refused _ _ x (early needed)
      where
        early : (c : Totals) → verdict c ≡ Refuses x
        early c = orders_refuse (call_rows st (length plane) (length work)) _ x e
    needs Passes e =
        let p = passed st (length plane) (length work) (sym (call_axes st (length plane) (length work) left.block.limits) ∙ e) in
        let t = promise.part s left p.1 (is p.1 p.2) in
        subst (λ (c : Totals). said_taken r ≡ judged (verdict c) (growth c)) t.counts_are (promise.answer ∙ ap (judged (verdict promise.counted)) t.uncut)

    pub plane_refuses : (x : Refusal) → (said_taken r ≡ refused x) ↔ First (call_rows st (length plane) (length work) ++ buffer_rows needed (length w) (length o) (length q)) x
    plane_refuses = refuses_by _ _ _ (needs _ refl)

    pub plane_accepts : (g : Growth) → (said_taken r ≡ accepted g) ↔ ((verdict needed ≡ Passes) × (g ≡ growth needed))
    plane_accepts = accepted_exactly _ _ _ (needs _ refl)

-- a state that was started never meets rows 1 and 3
pub begun_passes : {s : List ℕ} {st : Stream} {work : List ℕ} → Left s st work → (axis_row st.nx st.ny st.nz ≡ Passes) × (threshold_row st.cut ≡ Passes)
begun_passes {s} {st} left = (within_axes st.nx st.ny st.nz left.block.limits, left.threshold)

-- ---- an end

module _ (st : Stream) where
  pub end_numbers : (x : Refusal) → in_order (end_row st ∷ []) ≡ Refuses x → x.number ≡ 18
  end_numbers = first_has (λ (x : Refusal). x.number ≡ 18) _ (λ x e. ap (λ (y : Refusal). y.number) (holds_where (ltb st.planes st.nz) 18 st.planes x e), tt)

  module _ (r : Counted) (promise : FinishAnswered st r) where
    pub end_refuses : (x : Refusal) → (said_counts r ≡ refused x) ↔ First (end_row st ∷ []) x
    end_refuses = refuses_by _ _ _ promise

    pub end_gives : (c : Totals) → (said_counts r ≡ accepted c) ↔ ((in_order (end_row st ∷ []) ≡ Passes) × (c ≡ record { vertices = st.vertices; quads = st.quads }))
    end_gives = accepted_exactly _ _ _ promise

-- ---- a C caller

-- a place of eight items or more gives back the state that was told there
pub state_comes_back : (st : Stream) (place : List ℕ) → 8 ≤ length place → st.cut.t < 65536 → state_of (tell_over (state_numbers st) place) ≡ st
unfolding over
state_comes_back st place room small =
    ap (λ (l : List ℕ). state_of (over l place)) (take_all (length place) (state_numbers st) room)
    ∙ ap (λ (t : ℕ). record { nx = st.nx; ny = st.ny; nz = st.nz; cut = cut_of t st.cut.noise; vertices = st.vertices; quads = st.quads; planes = st.planes }) (mod-eq_of_lt small)
