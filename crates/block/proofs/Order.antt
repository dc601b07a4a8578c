-- Checks in order: one that refuses decides, and one that passes leaves it to the others.
use mathlib.Core.Path.{◌≡◌, refl, sym, ◌∙◌}
use mathlib.Core.Logic.{◌↔◌, ◌⊎◌, inl, inr}
use mathlib.Core.List.{List, [], ◌∷◌, ◌++◌}
use Prim.Native.Nat.{ℕ, zero, suc, ◌<◌}
use native.Mathlib.Nat.{not-suc-le-zero, le_of_suc-le-suc}
use native.Mathlib.Omega.{arith}
use lib.ListN.{length, get_or}
use Rattle.laws.specs.Below.{over}
use Rattle.block.specs.declared.Refusal.{Refusal}
use Rattle.block.specs.declared.Checked.{Checked}
use Rattle.block.specs.declared.Checked.TheVariants.{Passes, Refuses}
use Rattle.block.specs.Answer.{Answer, accepted, refused, in_order, First, decided, judged, written}

-- ---- a check and an answer are one thing or the other

pub passes_refuses : {r : Refusal} → Passes ≡ Refuses r → ⊥
passes_refuses {r} e = let z : ◌≡◌ {A = ℕ} 0 1 = cc in omega arith

pub accepted_refused : {A : Type 0} {a : A} {r : Refusal} → accepted a ≡ refused r → ⊥
accepted_refused {a} {r} e = let z : ◌≡◌ {A = ℕ} 0 1 = cc in omega arith

-- ---- checks in order

pub order_refuses : (k : Checked) (ks : List Checked) (r : Refusal) → k ≡ Refuses r → in_order (k ∷ ks) ≡ Refuses r
unfolding in_order
order_refuses k ks r e = rw e

pub order_passes : (k : Checked) (ks : List Checked) → k ≡ Passes → in_order (k ∷ ks) ≡ in_order ks
unfolding in_order
order_passes k ks e = rw e

pub order_last : (k : Checked) → in_order (k ∷ []) ≡ k
unfolding in_order
order_last Passes = refl
order_last (Refuses r) = refl

-- the same of several checks: what they say if they refuse, and the others if they pass
pub orders_refuse : (ks ls : List Checked) (r : Refusal) → in_order ks ≡ Refuses r → in_order (ks ++ ls) ≡ Refuses r
unfolding in_order
orders_refuse [] ls r e = absurd (passes_refuses e)
orders_refuse (Passes ∷ ks) ls r e = orders_refuse ks ls r e
orders_refuse (Refuses q ∷ ks) ls r e = e

pub orders_pass : (ks ls : List Checked) → in_order ks ≡ Passes → in_order (ks ++ ls) ≡ in_order ls
unfolding in_order
orders_pass [] ls e = refl
orders_pass (Passes ∷ ks) ls e = orders_pass ks ls e
orders_pass (Refuses q ∷ ks) ls e = absurd (passes_refuses (sym e))

-- checks that pass together pass each
pub order_first : (k : Checked) (ks : List Checked) → in_order (k ∷ ks) ≡ Passes → k ≡ Passes
unfolding in_order
order_first Passes ks e = refl
order_first (Refuses q) ks e = e

pub order_rest : (k : Checked) (ks : List Checked) → in_order (k ∷ ks) ≡ Passes → in_order ks ≡ Passes
unfolding in_order
order_rest Passes ks e = e
order_rest (Refuses q) ks e = absurd (passes_refuses (sym e))

-- ---- "given exactly when": a refusal is that of the first check that refuses, and there is none exactly if each check passes

pub first_exactly : (ks : List Checked) (r : Refusal) → (in_order ks ≡ Refuses r) ↔ First ks r
unfolding in_order
first_exactly [] r = (λ e. absurd (passes_refuses e), λ f. absurd (not-suc-le-zero f.there))
first_exactly (Passes ∷ ks) r = (λ e. later ((first_exactly ks r).0 e), λ f. (first_exactly ks r).1 (earlier f f.place refl))
  where
    later : First ks r → First (Passes ∷ ks) r
    later f = record { place = suc f.place; there = omega (arith, f.there); refuses = f.refuses; before = passed f }
      where
        passed : (f : First ks r) (i : ℕ) → i < suc f.place → get_or (Passes ∷ ks) i Passes ≡ Passes
        passed f zero h = refl
        passed f (suc i) h = f.before i (le_of_suc-le-suc h)

    earlier : (f : First (Passes ∷ ks) r) (p : ℕ) → f.place ≡ p → First ks r
    earlier f zero e = absurd (passes_refuses (rw e at f.refuses))
    earlier f (suc p) e =
        record { place = p; there = le_of_suc-le-suc (rw e at f.there); refuses = rw e at f.refuses; before = λ i h. f.before (suc i) (rw e (omega (arith, h))) }
first_exactly (Refuses q ∷ ks) r =
    (λ e. record { place = 0; there = omega arith; refuses = e; before = λ i h. absurd (not-suc-le-zero h) }, λ f. only f f.place refl)
  where
    only : (f : First (Refuses q ∷ ks) r) (p : ℕ) → f.place ≡ p → Refuses q ≡ Refuses r
    only f zero e = rw e at f.refuses
    only f (suc p) e = absurd (passes_refuses (sym (f.before 0 (rw e (omega arith)))))

pub none_exactly : (ks : List Checked) → (in_order ks ≡ Passes) ↔ ((i : ℕ) → i < length ks → get_or ks i Passes ≡ Passes)
unfolding in_order
none_exactly [] = (λ e i h. refl, λ f. refl)
none_exactly (Passes ∷ ks) = (λ e. there ((none_exactly ks).0 e), λ f. (none_exactly ks).1 (λ i h. f (suc i) (omega (arith, h))))
  where
    there : ((i : ℕ) → i < length ks → get_or ks i Passes ≡ Passes) → (i : ℕ) → i < suc (length ks) → get_or (Passes ∷ ks) i Passes ≡ Passes
    there f zero h = refl
    there f (suc i) h = f i (le_of_suc-le-suc h)
none_exactly (Refuses q ∷ ks) = (λ e. absurd (passes_refuses (sym e)), λ f. f 0 (omega arith))

-- the first check refuses, or it passes and the others refuse
pub order_splits : (k : Checked) (ks : List Checked) (r : Refusal) → in_order (k ∷ ks) ≡ Refuses r → (k ≡ Refuses r) ⊎ ((k ≡ Passes) × (in_order ks ≡ Refuses r))
unfolding in_order
order_splits Passes ks r e = inr (refl, e)
order_splits (Refuses q) ks r e = inl e

-- what each check that refuses has, the refusal has
abbrev pub Each : (Refusal → Type 0) → List Checked → Type 0
Each P [] = Unit
Each P (k ∷ ks) = ((r : Refusal) → k ≡ Refuses r → P r) × Each P ks

pub first_has : (P : Refusal → Type 0) (ks : List Checked) → Each P ks → (r : Refusal) → in_order ks ≡ Refuses r → P r
unfolding in_order
first_has P [] h r e = absurd (passes_refuses e)
first_has P (Passes ∷ ks) h r e = first_has P ks h.1 r e
first_has P (Refuses q ∷ ks) h r e = h.0 r e

-- ---- answers: what is judged is refused as the checks say, and else accepted with what it is

pub refused_says : {A : Type 0} (k : Checked) (a : A) (r : Refusal) → refused r ≡ judged k a → k ≡ Refuses r
unfolding decided
refused_says Passes a r e = absurd (accepted_refused (sym e))
refused_says (Refuses q) a r e = cc

pub judged_refused : {A : Type 0} (k : Checked) (a : A) (r : Refusal) → k ≡ Refuses r → refused r ≡ judged k a
unfolding decided
judged_refused k a r e = rw e

pub accepted_says : {A : Type 0} (k : Checked) (a b : A) → accepted b ≡ judged k a → (k ≡ Passes) × (b ≡ a)
unfolding decided
accepted_says Passes a b e = (refl, cc)
accepted_says (Refuses q) a b e = absurd (accepted_refused e)

pub judged_passed : {A : Type 0} (k : Checked) (a b : A) → k ≡ Passes → a ≡ b → accepted a ≡ judged k b
unfolding decided
judged_passed k a b e f = rw (e, f)

module _ {A : Type 0} (k : Checked) (a : A) (said : Answer A) (promise : said ≡ judged k a) where
  pub refused_exactly : (r : Refusal) → (said ≡ refused r) ↔ (k ≡ Refuses r)
  refused_exactly r = (λ e. refused_says k a r (sym e ∙ promise), λ e. promise ∙ sym (judged_refused k a r e))

  pub accepted_exactly : (b : A) → (said ≡ accepted b) ↔ ((k ≡ Passes) × (b ≡ a))
  accepted_exactly b = (λ e. accepted_says k a b (sym e ∙ promise), λ h. promise ∙ sym (judged_passed k b a h.0 h.1))

-- ---- buffers: after a refusal one is as it was, else what is answered is over its front

pub written_refused : {A : Type 0} (k : Checked) (xs b : List A) (r : Refusal) → k ≡ Refuses r → written k xs b ≡ b
unfolding decided
written_refused k xs b r e = rw e

pub written_passed : {A : Type 0} (k : Checked) (xs b : List A) → k ≡ Passes → written k xs b ≡ over xs b
unfolding decided
written_passed k xs b e = rw e
