-- The promise of `judge` fixes its answer.
-- Assumes nothing.
use Prim.Native.Nat.{ℕ}
use mathlib.Core.Path.{◌≡◌, refl, ap, sym, ◌∙◌}
use mathlib.Core.List.{List}
use lib.Ieee.{Float}
use Rattle.laws.specs.Fixed.{Fixes}
use Rattle.laws.proofs.Fixed.{Injective, said_fixes}
use Rattle.block.specs.declared.Cut.{Cut}
use Rattle.block.specs.Answer.{Answer, accepted, refused, judged}
use Rattle.block.specs.Size.{size_of}
use Rattle.foundry_rule.specs.Judged.{Comparison, same, vertex_at_fault, quad_at_fault, some_missing}
use Rattle.foundry.specs.declared.Judgement.{Judgement}
use Rattle.foundry.specs.declared.Judgement.TheVariants as judgement
use Rattle.foundry.specs.Answer.{said_judgement, judge_verdict, compared_with, MeshJudged}

-- the case that says it
abbrev pub judgement_of : Answer Comparison → Judgement
judgement_of (accepted same) = judgement.Same
judgement_of (accepted (vertex_at_fault v)) = judgement.BadVertex v
judgement_of (accepted (quad_at_fault q)) = judgement.BadQuad q
judgement_of (accepted some_missing) = judgement.Missing
judgement_of (refused r) = judgement.Refused r

case_back : (r : Judgement) → judgement_of (said_judgement r) ≡ r
case_back judgement.Same = refl
case_back (judgement.BadVertex v) = refl
case_back (judgement.BadQuad q) = refl
case_back judgement.Missing = refl
case_back (judgement.Refused r) = refl

pub said_back : (a : Answer Comparison) → said_judgement (judgement_of a) ≡ a
said_back (accepted same) = refl
said_back (accepted (vertex_at_fault v)) = refl
said_back (accepted (quad_at_fault q)) = refl
said_back (accepted some_missing) = refl
said_back (refused r) = refl

said_injective : Injective said_judgement
said_injective a b e = sym (case_back a) ∙ ap judgement_of e ∙ case_back b

pub judge_fixed : (nx ny nz : ℕ) (s : List ℕ) (cut : Cut) (words : List ℕ) (offsets : List Float) (quads : List ℕ) → Fixes (MeshJudged nx ny nz s cut words offsets quads)
judge_fixed nx ny nz s cut words offsets quads =
    said_fixes said_judgement (judged (judge_verdict nx ny nz s cut words offsets quads) (compared_with (size_of nx ny nz) s cut words offsets quads)) said_injective
