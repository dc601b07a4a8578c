-- Pieces get their numbers in place, vertex by vertex. Before vertex v, every vertex below v, and every top whose piece has a vertex below v, hangs
-- under the lowest vertex of its piece. The others hang as they did. So a search from any vertex ends at the lowest vertex of its piece where that is
-- below v, and else at the old top.
-- Assumes nothing.
use Prim.Native.Nat.{ℕ, ◌+◌, ◌≤◌, ◌<◌}
use mathlib.Core.Path.{◌≡◌, refl, ap, ap₂, sym, ◌∙◌}
use mathlib.Core.Bool.{Bool, true, false, not, cond, ◌&&◌, ◌||◌, false≢true, true≢false}
use mathlib.Core.Logic.{◌⊎◌, inl, inr}
use native.Mathlib.Omega.{arith}
use lib.Dec.{eqb, ltb}
use borrow.Author.Tests.{eq-eqb, ne_eqb, eqb-true, eqb-false, lt-ltb, le-ltb, ltb-true}
use Rattle.laws.specs.Bits.{bit}
use Rattle.laws.specs.Counting.{count}
use Rattle.laws.proofs.Bits.{bit_le}
use Rattle.laws.proofs.Counting.{count_same, clear_count}
use Rattle.laws.proofs.Tests.{lt_or_ge}
use Rattle.trees.specs.Steps.{Trees}
use Rattle.trees.proofs.Trees.{shallow}
use Rattle.pieces.specs.Steps.{low}
use Rattle.pieces.proofs.Lowest.{low_le, low_lt, low_root, low_same, low_low, low_eq}

-- ---- before vertex v

-- u hangs under the lowest vertex of its piece
abbrev pub moved : ℕ → (ℕ → ℕ) → ℕ → ℕ → Bool
moved n root v u = ltb (low n root u) v && (ltb u v || eqb u (root u))

abbrev pub up_at : ℕ → (ℕ → ℕ) → (ℕ → ℕ) → ℕ → ℕ → ℕ
up_at n up root v u = cond (moved n root v u) (low n root u) (up u)

abbrev pub top_at : ℕ → (ℕ → ℕ) → ℕ → ℕ → ℕ
top_at n root v u = cond (ltb (low n root u) v) (low n root u) (root u)

abbrev pub size_at : ℕ → (ℕ → ℕ) → (ℕ → ℕ) → ℕ → ℕ → ℕ
size_at n size root v u = cond (eqb u (top_at n root v u)) (size (root u)) 0

module _ {n : ℕ} {up size depth root : ℕ → ℕ} (F : Trees n up size depth root) (v : ℕ) where
  moved_low : (x : ℕ) → moved n root v x ≡ true → low n root x < v
  moved_low x = go (ltb (low n root x) v) refl
    where
      go : (c : Bool) → ltb (low n root x) v ≡ c → (c && (ltb x v || eqb x (root x))) ≡ true → low n root x < v
      go true q e = ltb-true _ _ q
      go false q e = absurd (false≢true e)

  low_moved : (x : ℕ) → low n root x < v → (ltb x v || eqb x (root x)) ≡ true → moved n root v x ≡ true
  low_moved x l e = rw (lt-ltb _ _ l, e)

  -- a search that cannot go on is at the top
  pub stops : (x : ℕ) → x < n → up_at n up root v x ≡ x → top_at n root v x ≡ x
  stops x l = go (moved n root v x) refl
    where
      go : (c : Bool) → moved n root v x ≡ c → cond c (low n root x) (up x) ≡ x → top_at n root v x ≡ x
      go true q e = rw (lt-ltb _ _ (moved_low x q)) e
      go false q e = at_root (lt_or_ge (low n root x) v)
        where
          is_root : root x ≡ x
          is_root = (F.stay x l e).0

          either : (a : Bool) {b : Bool} → b ≡ true → (a || b) ≡ true
          either true h = refl
          either false h = h

          at_root : (low n root x < v) ⊎ (v ≤ low n root x) → top_at n root v x ≡ x
          at_root (inl g) = absurd (true≢false (sym (low_moved x g (either (ltb x v) (eq-eqb x (root x) (sym is_root)))) ∙ q))
          at_root (inr g) = rw (le-ltb (low n root x) v g) is_root

  -- and one that can go on stays in its piece
  pub goes : (x : ℕ) → x < n → (up_at n up root v x ≡ x → ⊥) → (up_at n up root v x < n) × (top_at n root v (up_at n up root v x) ≡ top_at n root v x)
  goes x l ne = let g = go (moved n root v x) ne in (g.0, same (up_at n up root v x) g.1)
    where
      same : (y : ℕ) → root y ≡ root x → top_at n root v y ≡ top_at n root v x
      same y e = ap₂ (λ (l r : ℕ). cond (ltb l v) l r) (low_same n root y x e) e

      go : (c : Bool) → (cond c (low n root x) (up x) ≡ x → ⊥) → (cond c (low n root x) (up x) < n) × (root (cond c (low n root x) (up x)) ≡ root x)
      go true m = (low_lt n root x l, low_root n root x l)
      go false m = let s = F.step x l m in (s.0, sym s.1)

  -- what falls at each link
  abbrev pub left : ℕ → ℕ
  left x = cond (moved n root v x) (bit (not (eqb x (low n root x)))) (depth x + 1)

  left_le : (x : ℕ) → left x ≤ depth x + 1
  left_le x = go (moved n root v x)
    where
      go : (c : Bool) → cond c (bit (not (eqb x (low n root x)))) (depth x + 1) ≤ depth x + 1
      go true = omega (arith, bit_le (not (eqb x (low n root x))))
      go false = omega arith

  pub left_few : (x : ℕ) → x < n → left x ≤ n
  left_few x l = omega (arith, left_le x, shallow F x l)

  at_low : (x : ℕ) → x < n → moved n root v x ≡ true → left (low n root x) ≡ 0
  at_low x l q =
      let p : low n root x < v = moved_low x q in
      let e : low n root (low n root x) ≡ low n root x = low_low n root x l in
      let m : moved n root v (low n root x) ≡ true = low_moved (low n root x) (omega arith) (rw (lt-ltb _ _ p)) in
      rw (m, e, eq-eqb (low n root x) (low n root x) refl)

  pub falls : (x : ℕ) → x < n → (up_at n up root v x ≡ x → ⊥) → left (up_at n up root v x) < left x
  falls x l = go (moved n root v x) refl
    where
      go : (c : Bool) → moved n root v x ≡ c → (cond c (low n root x) (up x) ≡ x → ⊥) → left (cond c (low n root x) (up x)) < cond c (bit (not (eqb x (low n root x)))) (depth x + 1)
      go true q m = rw (at_low x l q, ne_eqb x (low n root x) (λ e. m (sym e))) (omega arith)
      go false q m = omega (arith, left_le (up x), (F.step x l m).2)

-- ---- from vertex v to the next

ltb_next : (a v : ℕ) → (a ≡ v → ⊥) → ltb a (v + 1) ≡ ltb a v
ltb_next a v ne = go (lt_or_ge a v) (lt_or_ge v a)
  where
    go : (a < v) ⊎ (v ≤ a) → (v < a) ⊎ (a ≤ v) → ltb a (v + 1) ≡ ltb a v
    go (inl l) _ = lt-ltb a (v + 1) (omega arith) ∙ sym (lt-ltb a v l)
    go (inr g) (inl l) = le-ltb a (v + 1) (omega arith) ∙ sym (le-ltb a v g)
    go (inr g) (inr h) = absurd (ne (omega arith))

module _ {n : ℕ} {up size depth root : ℕ → ℕ} (F : Trees n up size depth root) (v : ℕ) (hv : v < n) where
  -- the test that the code makes: what the search finds is below v where the piece of v has its number already
  pub was_numbered : top_at n root v v < v → low n root v < v
  was_numbered h = go (lt_or_ge (low n root v) v)
    where
      go : (low n root v < v) ⊎ (v ≤ low n root v) → low n root v < v
      go (inl g) = g
      go (inr g) = absurd (omega (arith, rw (le-ltb (low n root v) v g) at h, low_le n root v (root v) (F.inside v hv) (F.stay (root v) (F.inside v hv) (F.tops v hv)).0))

  pub not_numbered : v ≤ top_at n root v v → low n root v ≡ v
  not_numbered h = go (lt_or_ge (low n root v) v)
    where
      go : (low n root v < v) ⊎ (v ≤ low n root v) → low n root v ≡ v
      go (inl g) = absurd (omega (arith, rw (lt-ltb (low n root v) v g) at h))
      go (inr g) = omega (arith, low_le n root v v hv refl)

  abbrev now : ℕ → ℕ
  now u = up_at n up root v u

  abbrev next : ℕ → ℕ
  next u = up_at n up root (v + 1) u

  -- of another piece than one whose lowest vertex is v
  other_up : (u : ℕ) → (u ≡ v → ⊥) → (low n root u ≡ v → ⊥) → now u ≡ next u
  other_up u nu nl = rw (ltb_next (low n root u) v nl, ltb_next u v nu)

  other_size : (u : ℕ) → (low n root u ≡ v → ⊥) → size_at n size root v u ≡ size_at n size root (v + 1) u
  other_size u nl = rw (ltb_next (low n root u) v nl)

  -- v itself afterwards
  next_self : next v ≡ low n root v
  next_self = rw (lt-ltb (low n root v) (v + 1) (omega (arith, low_le n root v v hv refl)), lt-ltb v (v + 1) (omega arith))

  -- the piece has its number already: v is hung under that
  module _ (h : low n root v < v) where
    not_low : (u : ℕ) → u < n → low n root u ≡ v → ⊥
    not_low u hu e = omega (arith, h, ap (low n root) (sym e) ∙ low_low n root u hu, e)

    pub numbered_up : (u : ℕ) → u < n → cond (eqb u v) (top_at n root v v) (now u) ≡ next u
    numbered_up u hu = go (eqb u v) refl
      where
        go : (c : Bool) → eqb u v ≡ c → cond c (top_at n root v v) (now u) ≡ next u
        go true q = rw (lt-ltb (low n root v) v h, eqb-true u v q) (sym next_self)
        go false q = other_up u (eqb-false u v q) (not_low u hu)

    pub numbered_size : (u : ℕ) → u < n → size_at n size root v u ≡ size_at n size root (v + 1) u
    numbered_size u hu = other_size u (not_low u hu)

  -- v is the lowest of its piece: the old top hangs under it, and it is the top now
  module _ (h : low n root v ≡ v) where
    abbrev t : ℕ
    t = root v

    pub old_top : top_at n root v v ≡ t
    old_top = rw (le-ltb (low n root v) v (omega arith))

    same_piece : (u : ℕ) → u < n → low n root u ≡ v → root u ≡ t
    same_piece u hu e = low_eq n root u v hu hv (e ∙ sym h)

    root_t : root t ≡ t
    root_t = (F.stay t (F.inside v hv) (F.tops v hv)).0

    low_t : low n root t ≡ v
    low_t = low_same n root t v root_t ∙ h

    -- the size of the old top is still there
    pub size_there : size_at n size root v t ≡ size t
    size_there = rw (low_t, le-ltb v v (omega arith), root_t, eq-eqb t t refl)

    pub lowest_up : (u : ℕ) → u < n → cond (eqb u v) v (cond (eqb u t) v (now u)) ≡ next u
    lowest_up u hu = go (eqb u v) (eqb u t) refl refl
      where
        at_t : next t ≡ v
        at_t = rw (low_t, lt-ltb v (v + 1) (omega arith), eq-eqb t (root t) (sym root_t)) (pick (ltb t (v + 1)))
          where
            pick : (b : Bool) → cond (b || true) v (up t) ≡ v
            pick true = refl
            pick false = refl

        rest : (c : Bool) → eqb (low n root u) v ≡ c → (u ≡ v → ⊥) → (u ≡ t → ⊥) → now u ≡ next u
        rest false q nu nt = other_up u nu (eqb-false _ _ q)
        rest true q nu nt =
            let e : low n root u ≡ v = eqb-true _ _ q in
            let le : v ≤ u = omega (arith, low_le n root u u hu refl) in
            rw (e, le-ltb v v (omega arith), lt-ltb v (v + 1) (omega arith), ltb_next u v nu, le-ltb u v le, ne_eqb u (root u) (λ z. nt (z ∙ same_piece u hu e)))

        go : (c d : Bool) → eqb u v ≡ c → eqb u t ≡ d → cond c v (cond d v (now u)) ≡ next u
        go true d p q = rw (eqb-true u v p) (sym (next_self ∙ h))
        go false true p q = rw (eqb-true u t q) (sym at_t)
        go false false p q = rest (eqb (low n root u) v) refl (eqb-false u v p) (eqb-false u t q)

    -- the size moves from the old top to v
    pub lowest_size : (u : ℕ) → u < n → cond (eqb u v) (size t) (cond (eqb u t) 0 (size_at n size root v u)) ≡ size_at n size root (v + 1) u
    lowest_size u hu = go (eqb u v) (eqb u t) refl refl
      where
        top_next : (x : ℕ) → low n root x ≡ v → top_at n root (v + 1) x ≡ v
        top_next x e = rw (e, lt-ltb v (v + 1) (omega arith))

        rest : (c : Bool) → eqb (low n root u) v ≡ c → (u ≡ v → ⊥) → (u ≡ t → ⊥) → size_at n size root v u ≡ size_at n size root (v + 1) u
        rest false q nu nt = other_size u (eqb-false _ _ q)
        rest true q nu nt =
            let e : low n root u ≡ v = eqb-true _ _ q in
            rw (top_next u e, e, le-ltb v v (omega arith), ne_eqb u v nu, ne_eqb u (root u) (λ z. nt (z ∙ same_piece u hu e)))

        go : (c d : Bool) → eqb u v ≡ c → eqb u t ≡ d → cond c (size t) (cond d 0 (size_at n size root v u)) ≡ size_at n size root (v + 1) u
        go true d p q = rw (eqb-true u v p, top_next v h, eq-eqb v v refl)
        go false true p q = rw (eqb-true u t q, top_next t low_t, ne_eqb t v (λ z. eqb-false u v p (eqb-true u t q ∙ z)))
        go false false p q = rest (eqb (low n root u) v) refl (eqb-false u v p) (eqb-false u t q)

-- ---- at the beginning, and at the end

module _ {n : ℕ} {up size depth root : ℕ → ℕ} (F : Trees n up size depth root) where
  pub first_up : (u : ℕ) → u < n → up u ≡ up_at n up root 0 u
  first_up u hu = rw (le-ltb (low n root u) 0 (omega arith))

  pub first_size : (u : ℕ) → u < n → size u ≡ size_at n size root 0 u
  first_size u hu = rw (le-ltb (low n root u) 0 (omega arith)) (go (eqb u (root u)) refl)
    where
      go : (c : Bool) → eqb u (root u) ≡ c → size u ≡ cond c (size (root u)) 0
      go true q = ap size (eqb-true u (root u) q)
      go false q = F.spent u hu (λ e. eqb-false u (root u) q (sym (F.stay u hu e).0))

  pub last_up : (u : ℕ) → u < n → up_at n up root n u ≡ low n root u
  last_up u hu = rw (lt-ltb _ _ (low_lt n root u hu), lt-ltb u n hu)

  -- the size at the end: how many vertices have this one as their piece's number
  pub last_size : (u : ℕ) → u < n → size_at n size root n u ≡ count (λ (w : ℕ). eqb (low n root w) u) n
  last_size u hu = rw (lt-ltb _ _ (low_lt n root u hu)) (go (eqb u (low n root u)) refl)
    where
      same : (w : ℕ) → w < n → u ≡ low n root u → eqb (root w) (root u) ≡ eqb (low n root w) u
      same w hw e = pick (eqb (root w) (root u)) (eqb (low n root w) u) refl refl
        where
          pick : (c d : Bool) → eqb (root w) (root u) ≡ c → eqb (low n root w) u ≡ d → c ≡ d
          pick true true p q = refl
          pick false false p q = refl
          pick true false p q = absurd (eqb-false _ _ q (low_same n root w u (eqb-true _ _ p) ∙ sym e))
          pick false true p q = absurd (eqb-false _ _ p (low_eq n root w u hw hu (eqb-true _ _ q ∙ e)))

      none : (w : ℕ) → w < n → (u ≡ low n root u → ⊥) → eqb (low n root w) u ≡ false
      none w hw ne = ne_eqb (low n root w) u (λ e. ne (sym (ap (low n root) (sym e) ∙ low_low n root w hw ∙ e)))

      go : (c : Bool) → eqb u (low n root u) ≡ c → cond c (size (root u)) 0 ≡ count (λ (w : ℕ). eqb (low n root w) u) n
      go true q = F.counted (root u) (F.inside u hu) (F.tops u hu) ∙ count_same _ _ n (λ w hw. same w hw (eqb-true _ _ q))
      go false q = sym (clear_count _ n (λ w hw. none w hw (eqb-false _ _ q)))
