-- A loop hangs together: a trail of its edges, each linked to the next, on which all of them lie. `ls` are the twelve links of a cube
-- as sets of its edges, two for each face.
-- Assumes nothing.
use mathlib.Core.Path.{◌≡◌, sym, ap, ◌∙◌}
use mathlib.Core.Bool.{Bool, true, false, not}
use mathlib.Core.Logic.{⊎_elim}
use mathlib.Core.List.{List, [], ◌∷◌}
use Prim.Native.Nat.{ℕ, zero, suc, ◌+◌, ◌-◌, ◌*◌, ◌/◌, ◌%◌, ◌<◌}
use lib.Dec.{T, eqb, ltb, eqb→eq}
use lib.ListN.{get_or}
use lib.Count.{count_trailing_zeros}
use Rattle.laws.specs.Bits.{holds}
use Rattle.laws.proofs.Tests.{both, one_of, left, right, cases, imply, below, below_at, some}

-- ---- the trail from an edge

record Pull : Type 0 where
  pub link : ℕ
  pub rest : List ℕ

-- the first link with the edge x (a set of one), and the other links
unfoldable pull : ℕ → List ℕ → Pull
pull x [] = record { link = 0; rest = [] }
pull x (l ∷ ls) =
    let r = pull x ls in
    elim (eqb (l / x % 2) 1) [ true ↦ record { link = l; rest = ls } | false ↦ record { link = r.link; rest = l ∷ r.rest } ]

-- at most n edges, from the edge x (a set of one) along the links
unfoldable pub trail : ℕ → List ℕ → ℕ → List ℕ
unfolding pull count_trailing_zeros
trail zero ls x = []
trail (suc n) ls zero = []
trail (suc n) ls (suc x) = let r = pull (suc x) ls in count_trailing_zeros 12 (suc x) ∷ trail n r.rest (r.link - suc x)

-- ---- each edge of a trail is linked to the next

-- a set has both edges
abbrev pub has : ℕ → ℕ → ℕ → Bool
has l a b = both (holds l a) (holds l b)

-- one of the two links of the face f
abbrev pub links_on : List ℕ → ℕ → ℕ → ℕ → Bool
links_on ls a b f = one_of (has (get_or ls (2 * f) 0) a b) (has (get_or ls (2 * f + 1) 0) a b)

unfoldable pub linked : List ℕ → ℕ → ℕ → Bool
unfolding some
linked ls a b = both (ltb a 12) (both (ltb b 12) (some 6 (links_on ls a b)))

unfoldable chain : List ℕ → ℕ → List ℕ → Bool
unfolding linked
chain ls a [] = true
chain ls a (b ∷ es) = both (linked ls a b) (chain ls b es)

unfoldable chained : List ℕ → List ℕ → Bool
unfolding chain
chained ls [] = true
chained ls (a ∷ es) = chain ls a es

unfoldable elem : ℕ → List ℕ → Bool
elem e [] = false
elem e (x ∷ xs) = one_of (eqb e x) (elem e xs)

unfoldable covers : ℕ → List ℕ → Bool
unfolding below elem
covers l es = below 12 (λ e. one_of (not (holds l e)) (elem e es))

-- the edges of l lie on the trail es
unfoldable pub hangs : List ℕ → ℕ → List ℕ → Bool
unfolding chained covers
hangs ls l es = both (chained ls es) (covers l es)

-- ---- what is the same at both ends of each link is the same along a trail

module _ (ls : List ℕ) (S : ℕ → Bool) (same : (a b : ℕ) → T (linked ls a b) → S a ≡ S b) where
  chain_same : (a : ℕ) (es : List ℕ) → T (chain ls a es) → (e : ℕ) → T (elem e (a ∷ es)) → S a ≡ S e
  unfolding chain elem
  chain_same a [] t e m = ⊎_elim (λ (g : T (eqb e a)). ap S (sym (eqb→eq e a g))) (λ (g : ⊥). absurd g) (cases (eqb e a) false m)
  chain_same a (b ∷ es) t e m =
      ⊎_elim (λ (g : T (eqb e a)). ap S (sym (eqb→eq e a g)))
      (λ (g : T (elem e (b ∷ es))). same a b (left (linked ls a b) (chain ls b es) t) ∙ chain_same b es (right (linked ls a b) (chain ls b es) t) e g)
      (cases (eqb e a) (elem e (b ∷ es)) m)

  chained_same : (es : List ℕ) → T (chained ls es) → (d e : ℕ) → T (elem d es) → T (elem e es) → S d ≡ S e
  unfolding chained elem
  chained_same [] t d e p q = absurd p
  chained_same (a ∷ es) t d e p q = sym (chain_same a es t d p) ∙ chain_same a es t e q

  covered : (l : ℕ) (es : List ℕ) → T (covers l es) → (e : ℕ) → e < 12 → holds l e ≡ true → T (elem e es)
  unfolding covers
  covered l es t e h p = imply (holds l e) (elem e es) (below_at 12 (λ e. one_of (not (holds l e)) (elem e es)) t e h) p

  pub hangs_same : (l : ℕ) (es : List ℕ) → T (hangs ls l es) → (d e : ℕ) → d < 12 → e < 12 → holds l d ≡ true → holds l e ≡ true → S d ≡ S e
  unfolding hangs
  hangs_same l es t d e hd he pd pe =
      chained_same es (left (chained ls es) (covers l es) t) d e
      (covered l es (right (chained ls es) (covers l es) t) d hd pd)
      (covered l es (right (chained ls es) (covers l es) t) e he pe)
