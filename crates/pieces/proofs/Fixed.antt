-- The promise of `pieces` fixes its answer and both buffers: any two outcomes that it allows are equal. A vertex has one piece number only.
-- Assumes nothing.
use mathlib.Core.Path.{◌≡◌, refl, ap, ap₂, sym, ◌∙◌}
use mathlib.Core.List.{List}
use Prim.Native.Nat.{ℕ}
use native.Mathlib.Omega.{arith}
use lib.Seq.{ext_get_or}
use Rattle.laws.specs.Fixed.{Fixes}
use Rattle.laws.proofs.Fixed.{Injective}
use Rattle.block.specs.declared.Checked.{Checked}
use Rattle.block.specs.declared.Checked.TheVariants.{Passes, Refuses}
use Rattle.block.specs.declared.Refusal.{Refusal}
use Rattle.block.specs.Answer.{judged, written}
use Rattle.block.proofs.Order.{judged_refused, written_refused}
use Rattle.pieces.specs.declared.Pieced.{Pieced}
use Rattle.pieces.specs.declared.Pieced.TheVariants.{Found, Refused}
use Rattle.pieces.specs.Chains.{PieceOf}
use Rattle.pieces.specs.Answer.{Numbers, sizes, parts_of, said_pieces, PiecesBy, PiecesFound}

pub said_pieces_injective : Injective said_pieces
said_pieces_injective (Found p) (Found q) e = cc
said_pieces_injective (Found p) (Refused r) e = let z : ◌≡◌ {A = ℕ} 0 1 = cc in absurd (omega arith)
said_pieces_injective (Refused r) (Found p) e = let z : ◌≡◌ {A = ℕ} 0 1 = cc in absurd (omega arith)
said_pieces_injective (Refused r) (Refused q) e = cc

-- a vertex is in one piece
pub piece_fixed : (quads : List ℕ) (v : ℕ) → Fixes (PieceOf quads v)
piece_fixed quads v p q a b = omega (arith, a.lowest q b.together, b.lowest p a.together)

pub numbers_fixed : (n : ℕ) (quads : List ℕ) → Fixes (Numbers n quads)
numbers_fixed n quads k l a b =
    ext_get_or 0 k l (a.for_each ∙ sym b.for_each) (λ v h. piece_fixed quads v _ _ (a.number v (rw a.for_each at h)) (b.number v (rw a.for_each at h)))

pub pieces_by_fixed : (k : Checked) (n : ℕ) (quads piece size : List ℕ) → Fixes (λ (x : Pieced × List ℕ × List ℕ). PiecesBy k n quads piece size x.0 x.1 x.2)
pieces_by_fixed k n quads piece size a b p q = go k refl
  where
    -- the three by what was found, where the checks passed
    same : p.numbers ≡ q.numbers → a ≡ b
    same e = ap₂ (λ (x : Pieced) (y : List ℕ × List ℕ). (x, y.0, y.1))
        (said_pieces_injective a.0 b.0 (p.answer ∙ ap (λ (l : List ℕ). judged k (parts_of n quads l)) e ∙ sym q.answer))
        (ap₂ (λ (x y : List ℕ). (x, y)) (p.numbered ∙ ap (λ (l : List ℕ). written k l piece) e ∙ sym q.numbered) (p.sized ∙ ap (λ (l : List ℕ). written k (sizes n l) size) e ∙ sym q.sized))

    -- and where they refuse, which nothing that was found enters
    kept : (r : Refusal) → k ≡ Refuses r → a ≡ b
    kept r e = ap₂ (λ (x : Pieced) (y : List ℕ × List ℕ). (x, y.0, y.1))
        (said_pieces_injective a.0 b.0 (p.answer ∙ sym (judged_refused k _ r e) ∙ judged_refused k _ r e ∙ sym q.answer))
        (ap₂ (λ (x y : List ℕ). (x, y)) (p.numbered ∙ written_refused k _ piece r e ∙ sym (written_refused k _ piece r e) ∙ sym q.numbered) (p.sized ∙ written_refused k _ size r e ∙ sym (written_refused k _ size r e) ∙ sym q.sized))

    go : (c : Checked) → k ≡ c → a ≡ b
    go Passes e = same (numbers_fixed n quads _ _ (p.right e) (q.right e))
    go (Refuses r) e = kept r e

pub pieces_fixed : (n : ℕ) (quads piece size : List ℕ) → Fixes (λ (x : Pieced × List ℕ × List ℕ). PiecesFound n quads piece size x.0 x.1 x.2)
pieces_fixed n quads piece size = pieces_by_fixed _ n quads piece size
