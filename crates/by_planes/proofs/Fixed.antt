-- The promises of `start` and `finish` fix their answers. That of `take` fixes the answer and the three buffers at exit for a state and a work buffer as last
-- left. With any state and any work buffer it fixes a refusal that needs no count, and with it every buffer. What the work buffer holds after an accepted
-- call is the library's own.
-- Assumes nothing.
use Rattle.std.proofs.Common.{◌≡◌, ℕ, ◌<◌, List, length, sym, ap, ◌∙◌, arith}
use lib.Ieee.{Float}
use Rattle.laws.specs.Fixed.{Fixes}
use Rattle.laws.proofs.Fixed.{Injective, said_fixes}
use Rattle.block.specs.declared.Checked.{Checked}
use Rattle.block.specs.declared.Checked.TheVariants.{Refuses}
use Rattle.block.specs.declared.Cut.{Cut}
use Rattle.block.specs.declared.Refusal.{Refusal}
use Rattle.block.specs.Answer.{refused, in_order, judged, written}
use Rattle.block.proofs.Order.{orders_refuse, judged_refused}
use Rattle.mesh.specs.declared.Totals.{Totals}
use Rattle.mesh.specs.Answer.{said_counts}
use Rattle.mesh.proofs.Verdicts.{said_counts_injective}
use Rattle.by_planes.specs.declared.Stream.{Stream}
use Rattle.by_planes.specs.declared.Started.TheVariants as started
use Rattle.by_planes.specs.declared.Taken.{Taken}
use Rattle.by_planes.specs.declared.Taken.TheVariants as taken
use Rattle.by_planes.specs.Answer.{size_in, plane_of, part_words, part_offsets, part_quads, grown_by, call_rows, take_verdict, said_start, said_taken, StartAnswered, FinishAnswered}
use Rattle.by_planes.specs.Left.{Left, PlaneTaken}

said_start_injective : Injective said_start
said_start_injective (started.Begun a) (started.Begun b) e = cc
said_start_injective (started.Begun a) (started.Refused r) e = let z : ◌≡◌ {A = ℕ} 0 1 = cc in absurd (omega arith)
said_start_injective (started.Refused r) (started.Begun b) e = let z : ◌≡◌ {A = ℕ} 0 1 = cc in absurd (omega arith)
said_start_injective (started.Refused r) (started.Refused q) e = cc

said_taken_injective : Injective said_taken
said_taken_injective (taken.Wrote a) (taken.Wrote b) e = cc
said_taken_injective (taken.Wrote a) (taken.Refused r) e = let z : ◌≡◌ {A = ℕ} 0 1 = cc in absurd (omega arith)
said_taken_injective (taken.Refused r) (taken.Wrote b) e = let z : ◌≡◌ {A = ℕ} 0 1 = cc in absurd (omega arith)
said_taken_injective (taken.Refused r) (taken.Refused q) e = cc

pub start_fixed : (nx ny nz : ℕ) (cut : Cut) (room : ℕ) → Fixes (StartAnswered nx ny nz cut room)
start_fixed nx ny nz cut room = said_fixes said_start _ said_start_injective

pub finish_fixed : (st : Stream) → Fixes (FinishAnswered st)
finish_fixed st = said_fixes said_counts _ said_counts_injective

-- rows 1, 3, 17, 2 and 15
pub plane_early_fixed : {st : Stream} {plane work w : List ℕ} {o : List Float} {q : List ℕ} {r : Taken} {work' w' : List ℕ} {o' : List Float} {q' : List ℕ} → PlaneTaken st plane work w o q r work' w' o' q'
    → (x : Refusal) → in_order (call_rows st (length plane) (length work)) ≡ Refuses x → (r ≡ taken.Refused x) × (work' ≡ work) × (w' ≡ w) × (o' ≡ o) × (q' ≡ q)
plane_early_fixed {st} {plane} {work} {w} {o} {q} {r} promise x e =
    let says : said_taken r ≡ refused x = promise.answer ∙ sym (judged_refused _ _ x (orders_refuse (call_rows st (length plane) (length work)) _ x e)) in
    let k = promise.refusal_keeps x says in (said_taken_injective r (taken.Refused x) says, k.0, k.1, k.2, k.3)

pub plane_fixed : (st : Stream) (plane work w : List ℕ) (o : List Float) (q s : List ℕ) → Left s st work → st.planes < st.nz → plane ≡ plane_of (size_in st) s st.planes
    → (r r' : Taken) (work₁ work₂ w₁ w₂ : List ℕ) (o₁ o₂ : List Float) (q₁ q₂ : List ℕ) → PlaneTaken st plane work w o q r work₁ w₁ o₁ q₁ → PlaneTaken st plane work w o q r' work₂ w₂ o₂ q₂
    → (r ≡ r') × (w₁ ≡ w₂) × (o₁ ≡ o₂) × (q₁ ≡ q₂)
plane_fixed st plane work w o q s left more is r r' work₁ work₂ w₁ w₂ o₁ o₂ q₁ q₂ a b =
    let p = a.part s left more is in
    let x = b.part s left more is in
    let e : a.counted ≡ b.counted = p.counts_are ∙ sym x.counts_are in (
      said_taken_injective r r' (a.answer ∙ ap (λ (c : Totals). judged (verdict c) (grown_by st c)) e ∙ sym b.answer),
      p.words ∙ ap (λ (c : Totals). written (verdict c) (part_words (size_in st) s st.cut st.planes) w) e ∙ sym x.words,
      p.offsets ∙ ap (λ (c : Totals). written (verdict c) (part_offsets (size_in st) s st.cut st.planes) o) e ∙ sym x.offsets,
      p.quads ∙ ap (λ (c : Totals). written (verdict c) (part_quads (size_in st) s st.cut st.planes) q) e ∙ sym x.quads,
    )
  where
    verdict : Totals → Checked
    verdict c = take_verdict st (length plane) (length work) c (length w) (length o) (length q)
