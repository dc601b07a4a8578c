-- Chains of quads: the other way, and from a vertex in no quad.
-- Assumes nothing.
use Prim.Native.Nat.{ℕ}
use mathlib.Core.Path.{◌≡◌, refl, ◌∙◌, subst}
use mathlib.Core.List.{List}
use Rattle.pieces.specs.Chains.{Chain, none, one, more}
use Rattle.pieces.specs.Rules.{InNoQuad}

pub turn : {quads : List ℕ} {v w : ℕ} → Chain quads v w → Chain quads w v
turn none = none
turn (one q a b) = one q b a
turn (more p q) = more (turn q) (turn p)

-- a chain from a vertex in no quad leads nowhere else
pub alone_chain : {quads : List ℕ} {v w : ℕ} → InNoQuad quads v → Chain quads v w → v ≡ w
alone_chain out none = refl
alone_chain out (one q a b) = absurd (out q a)
alone_chain {quads} out (more p q) =
    let e = alone_chain out p in
    e ∙ alone_chain (subst (InNoQuad quads) e out) q
