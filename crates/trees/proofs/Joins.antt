-- One join: the links stay those of trees, its two vertices have one top then, vertices that had one top have one still, and others have one only if they
-- had the tops of the two. Its two searches are short. Then what the code makes of it.
-- Assumes nothing.
use Prim.Native.Nat.{ℕ, suc, ◌+◌, ◌^◌, ◌≤◌, ◌<◌, max}
use mathlib.Core.Path.{◌≡◌, refl, ap, ap₂, sym, ◌∙◌, subst}
use mathlib.Core.Bool.{Bool, true, false, not, cond, ◌&&◌}
use mathlib.Core.List.{List}
use native.Mathlib.Omega.{arith}
use lib.Dec.{eqb}
use lib.ListN.{length, set, length-set}
use borrow.Author.Tests.{eq-eqb, ne_eqb, eqb-true, eqb-false}
use Rattle.laws.specs.Bits.{bit}
use Rattle.trees.specs.Forest.{State, at, top_of, links_of, hung, goes_under, united, counted, join}
use Rattle.trees.specs.Steps.{stored, Trees, Standing, Tops, Unites, Follows, Reached, Joins}
use Rattle.trees.proofs.Trees.{hung_up, hung_size, hang, small, found, settled}
use Rattle.trees.proofs.Searches.{at_top, one_link, tops}
use Rattle.trees.proofs.Stored.{set_as}
use Rattle.trees.proofs.Unites.{under_true, under_false}

-- ---- the sizes after a top is hung, as a function

size_as : (l : List ℕ) (a b : ℕ) → a < length l → b < length l
    → ◌≡◌ {A = ℕ → ℕ} (at (set (set l b (at l a + at l b)) a 0)) (hung_size (at l) a b)
size_as l a b ha hb =
    set_as (set l b (at l a + at l b)) a 0 (simp length-set ha)
    ∙ (λ p v. cond (eqb v a) 0 (set_as l b (at l a + at l b) hb p v))

-- ---- one join

-- the links and sizes of a state are those of trees
abbrev pub Stands : ℕ → State → Type 0
Stands n st = Standing n st.up st.size

max_pow : (a b n : ℕ) → 2 ^ a ≤ n → 2 ^ b ≤ n → 2 ^ max a b ≤ n
max_pow a b n p q = grind arith

-- x and y have one top, or one of them has the top of v and the other that of w
pub data Merged (root : ℕ → ℕ) (v w x y : ℕ) : Type 0 where
  same : root x ≡ root y → Merged root v w x y
  there : root x ≡ root v → root y ≡ root w → Merged root v w x y
  back : root x ≡ root w → root y ≡ root v → Merged root v w x y

module _ (n : ℕ) where
  -- the top that a search finds
  abbrev pub top : State → ℕ → ℕ
  top st x = top_of (at st.up) n x

  abbrev pub links : State → ℕ → ℕ
  links st x = links_of (at st.up) n x

  -- a later state, in which v and w have one top
  pub record Next (st st' : State) (v w : ℕ) : Type 0 where
    pub stands : Stands n st'
    pub keep : (x y : ℕ) → x < n → y < n → top st x ≡ top st y → top st' x ≡ top st' y
    pub done : top st' v ≡ top st' w
    -- a way goes on from the top that it had
    pub onward : (x : ℕ) → x < n → (top st' x ≡ top st' (top st x)) × (links st' x ≡ links st x + links st' (top st x))
    pub only : (x y : ℕ) → x < n → y < n → top st' x ≡ top st' y → Merged (top st) v w x y

  -- c, the top of v, is hung under d, the top of w
  hung_next : (st : State) → Stands n st → (c d v w : ℕ) → v < n → w < n → top st v ≡ c → top st w ≡ d → (c ≡ d → ⊥) → at st.size c ≤ at st.size d
      → Next st (hung c d st) v w
  hung_next st S c d v w hv hw ev ew ne le = record {
    stands = record {
      up_length = simp length-set S.up_length;
      size_length = simp length-set S.size_length;
      few = S.few;
      trees = settled grown;
    };
    keep = λ x y hx hy e. is x hx ∙ ap (λ (r : ℕ). cond (eqb r c) d r) e ∙ sym (is y hy);
    done = is v hv ∙ from_v ∙ sym from_w ∙ sym (is w hw);
    onward = λ x hx. (
      is x hx ∙ sym (ap (λ (r : ℕ). cond (eqb r c) d r) (own x hx)) ∙ sym (is (top st x) (S.trees.inside x hx)),
      (found grown x hx).1 ∙ longer (eqb (top st x) c) (links st x) ∙ ap (λ (k : ℕ). links st x + k) (sym ((found grown (top st x) (S.trees.inside x hx)).1 ∙ rw (own x hx, still x hx))),
    );
    only = λ x y hx hy e. merged x y (eqb (top st x) c) (eqb (top st y) c) refl refl (sym (is x hx) ∙ e ∙ is y hy);
  }
    where
      hc : c < n
      hc = subst (λ (x : ℕ). x < n) ev (S.trees.inside v hv)

      hd : d < n
      hd = subst (λ (x : ℕ). x < n) ew (S.trees.inside w hw)

      depth' : ℕ → ℕ
      depth' x = cond (eqb (top st x) c) (suc (links_of (at st.up) n x)) (links_of (at st.up) n x)

      new : ℕ → ℕ
      new x = cond (eqb (top st x) c) d (top st x)

      grown : Trees n (at (hung c d st).up) (at (hung c d st).size) depth' new
      grown =
          subst (λ (f : ℕ → ℕ). Trees n f (at (hung c d st).size) depth' new) (sym (set_as st.up c d (rw S.up_length hc)))
          (subst (λ (f : ℕ → ℕ). Trees n (hung_up (at st.up) c d) f depth' new) (sym (size_as st.size c d (rw S.size_length hc) (rw S.size_length hd)))
          (hang n (at st.up) (at st.size) _ _ S.trees c d hc hd (subst (λ (x : ℕ). at st.up x ≡ x) ev (S.trees.tops v hv)) (subst (λ (x : ℕ). at st.up x ≡ x) ew (S.trees.tops w hw)) ne le))

      is : (x : ℕ) → x < n → top (hung c d st) x ≡ new x
      is x hx = (found grown x hx).0

      -- a top is its own, by no link
      own : (x : ℕ) → x < n → top st (top st x) ≡ top st x
      own x hx = (S.trees.stay (top st x) (S.trees.inside x hx) (S.trees.tops x hx)).0

      still : (x : ℕ) → x < n → links st (top st x) ≡ 0
      still x hx = (S.trees.stay (top st x) (S.trees.inside x hx) (S.trees.tops x hx)).1

      longer : (b : Bool) (k : ℕ) → cond b (suc k) k ≡ k + cond b 1 0
      longer true k = omega arith
      longer false k = omega arith

      from_v : new v ≡ d
      from_v = rw (ev, eq-eqb c c refl)

      from_w : new w ≡ d
      from_w = rw (ew, ne_eqb d c (λ (z : d ≡ c). ne (sym z)))

      merged : (x y : ℕ) (p q : Bool) → eqb (top st x) c ≡ p → eqb (top st y) c ≡ q → cond p d (top st x) ≡ cond q d (top st y) → Merged (top st) v w x y
      merged x y true true ep eq e = same (eqb-true _ _ ep ∙ sym (eqb-true _ _ eq))
      merged x y true false ep eq e = there (eqb-true _ _ ep ∙ sym ev) (sym e ∙ sym ew)
      merged x y false true ep eq e = back (e ∙ sym ew) (eqb-true _ _ eq ∙ sym ev)
      merged x y false false ep eq e = same e

  united_next : (st : State) → Stands n st → (v w : ℕ) → v < n → w < n → Next st (united (top st v) (top st w) st) v w
  united_next st S v w hv hw = go (eqb (top st v) (top st w)) refl
    where
      other : (x y : ℕ) → Merged (top st) w v x y → Merged (top st) v w x y
      other x y (same p) = same p
      other x y (there p q) = back p q
      other x y (back p q) = there p q

      swap : (st' : State) → Next st st' w v → Next st st' v w
      swap st' N = record { stands = N.stands; keep = N.keep; done = sym N.done; onward = N.onward; only = λ x y hx hy e. other x y (N.only x y hx hy e) }

      two : (x : Bool) → goes_under st.size (top st v) (top st w) ≡ x → (top st v ≡ top st w → ⊥)
          → Next st (cond x (hung (top st v) (top st w) st) (hung (top st w) (top st v) st)) v w
      two true u ne = hung_next st S (top st v) (top st w) v w hv hw refl refl ne (under_true st.size (top st v) (top st w) u)
      two false u ne = swap _ (hung_next st S (top st w) (top st v) w v hw hv refl refl (λ z. ne (sym z)) (under_false st.size (top st v) (top st w) u))

      go : (x : Bool) → eqb (top st v) (top st w) ≡ x
          → Next st (cond x st (cond (goes_under st.size (top st v) (top st w)) (hung (top st v) (top st w) st) (hung (top st w) (top st v) st))) v w
      go true e = record {
        stands = S;
        keep = λ x y hx hy z. z;
        done = eqb-true (top st v) (top st w) e;
        onward = λ x hx.
            let s = S.trees.stay (top st x) (S.trees.inside x hx) (S.trees.tops x hx) in
            (sym s.0, omega (arith, s.1));
        only = λ x y hx hy z. same z;
      }
      go false e = two (goes_under st.size (top st v) (top st w)) refl (eqb-false (top st v) (top st w) e)

  pub join_next : (st : State) → Stands n st → (v w : ℕ) → v < n → w < n → Next st (join n v w st) v w
  unfolding join
  join_next st S v w hv hw =
      let N = united_next (counted (links_of (at st.up) n v) (links_of (at st.up) n w) st) S v w hv hw in
      record { stands = N.stands; keep = N.keep; done = N.done; onward = N.onward; only = N.only }

  -- the longest search so far is short
  abbrev pub Short : State → Type 0
  Short st = 2 ^ st.longest ≤ n

  pub join_short : (st : State) → Stands n st → (v w : ℕ) → v < n → w < n → Short st → Short (join n v w st)
  unfolding join
  join_short st S v w hv hw s = go (eqb (top st v) (top st w)) (goes_under st.size (top st v) (top st w))
    where
      searched : State
      searched = counted (links_of (at st.up) n v) (links_of (at st.up) n w) st

      go : (x y : Bool) → Short (cond x searched (cond y (hung (top st v) (top st w) searched) (hung (top st w) (top st v) searched)))
      go true y = max_pow _ _ n s (max_pow _ _ n (small S.trees v hv) (small S.trees w hw))
      go false true = max_pow _ _ n s (max_pow _ _ n (small S.trees v hv) (small S.trees w hw))
      go false false = max_pow _ _ n s (max_pow _ _ n (small S.trees v hv) (small S.trees w hw))

-- ---- as the code finds it

-- two searches, and the tops that they find are united
pub join_is : (up size up' size' : List ℕ) (v w longest r a b k l : ℕ)
    → a ≡ top_of (at up) (length up) v → k ≡ links_of (at up) (length up) v → b ≡ top_of (at up) (length up) w → l ≡ links_of (at up) (length up) w
    → Unites a b up size up' size' → r ≡ max longest (max k l)
    → stored up' size' r ≡ join (length up) v w (stored up size longest)
unfolding join
join_is up size up' size' v w longest r a b k l ea ek eb el u er =
    ap (stored up' size') er
    ∙ u (max longest (max k l))
    ∙ (λ p. united (ea p) (eb p) (stored up size (max longest (max (ek p) (el p)))))

-- where the first of two tops hangs once they are united
hung_top : {n : ℕ} {up size : List ℕ} {a b : ℕ} → Standing n up size → Tops n up a b → (up' size' : List ℕ) → Unites a b up size up' size'
    → (top_of (at up') n a ≡ cond (not (eqb a b) && goes_under size a b) b a) × (links_of (at up') n a ≡ bit (not (eqb a b) && goes_under size a b))
hung_top {n} {up} {size} {a} {b} S t up' size' u = go (eqb a b) (goes_under size a b) refl refl
  where
    stored_up : (x y : Bool) → eqb a b ≡ x → goes_under size a b ≡ y → up' ≡ (cond x (stored up size 0) (cond y (hung a b (stored up size 0)) (hung b a (stored up size 0)))).up
    stored_up x y p q = ap (λ (st : State). st.up) (u 0) ∙ ap₂ (λ (c d : Bool). (cond c (stored up size 0) (cond d (hung a b (stored up size 0)) (hung b a (stored up size 0)))).up) p q

    -- a stays a top
    as_it_was : at up' a ≡ a → (top_of (at up') n a ≡ a) × (links_of (at up') n a ≡ 0)
    as_it_was e = at_top (at up') n a e

    go : (x y : Bool) → eqb a b ≡ x → goes_under size a b ≡ y → (top_of (at up') n a ≡ cond (not x && y) b a) × (links_of (at up') n a ≡ bit (not x && y))
    go true y p q = as_it_was (ap (λ (l : List ℕ). at l a) (stored_up true y p q) ∙ t.first_top)
    go false false p q =
        as_it_was (ap (λ (l : List ℕ). at l a) (stored_up false false p q) ∙ (λ i. set_as up b a (rw S.up_length t.second_lt) i a) ∙ rw (p) t.first_top)
    go false true p q = one_link (at up') n a b t.first_lt (λ e. eqb-false a b p (sym e)) here there
      where
        here : at up' a ≡ b
        here = ap (λ (l : List ℕ). at l a) (stored_up false true p q) ∙ (λ i. set_as up a b (rw S.up_length t.first_lt) i a) ∙ rw (eq-eqb a a refl)

        there : at up' b ≡ b
        there = ap (λ (l : List ℕ). at l b) (stored_up false true p q) ∙ (λ i. set_as up a b (rw S.up_length t.first_lt) i b) ∙ rw (ne_eqb b a (λ e. eqb-false a b p (sym e))) t.second_top

-- A vertex whose way is known, by k links to a, is joined with w, whose way is known by l links to b: their tops are united, and c says whether a was hung.
module _ {up size up' size' : List ℕ} {w a k b l longest' : ℕ} {c : Bool} (longest : ℕ) (hw : w < length up) (S : Standing (length up) up size)
    (eb : b ≡ top_of (at up) (length up) w) (el : l ≡ links_of (at up) (length up) w)
    (u : Unites a b up size up' size') (ec : c ≡ (not (eqb a b) && goes_under size a b)) (em : longest' ≡ max longest (max k l)) where
  is_joined : (v : ℕ) → Follows (length up) up v a k → stored up' size' longest' ≡ join (length up) v w (stored up size longest)
  is_joined v F = join_is up size up' size' v w longest longest' a b k l F.finds F.follows eb el u em

  -- its way goes on, by a link where its top was hung, or not at all
  pub goes_on : (d : Bool) (k' : ℕ) → c ≡ d → k' ≡ k + bit d → Joins w up size a k longest up' size' (cond d b a) k' longest'
  goes_on d k' ed ek = λ v F. (is_joined v F, way v F)
    where
      way : (v : ℕ) → Follows (length up) up v a k → Follows (length up) up' v (cond d b a) k'
      way v F =
          let t = tops S v w F.inside hw a b F.finds eb in
          let h = hung_top S t up' size' u in
          let o = subst (λ (st : State). (top_of (at st.up) (length up) v ≡ top_of (at st.up) (length up) (top_of (at up) (length up) v)) × (links_of (at st.up) (length up) v ≡ links_of (at up) (length up) v + links_of (at st.up) (length up) (top_of (at up) (length up) v)))
          (sym (is_joined v F)) ((join_next (length up) (stored up size longest) S v w F.inside hw).onward v F.inside) in
          let e = sym ed ∙ ec in
          record {
            inside = F.inside;
            finds = ap (λ (x : Bool). cond x b a) e ∙ sym h.0 ∙ ap (top_of (at up') (length up)) F.finds ∙ sym o.0;
            follows = ek ∙ ap₂ (λ (x y : ℕ). x + y) F.follows (ap bit e ∙ sym h.1 ∙ ap (links_of (at up') (length up)) F.finds) ∙ sym o.1;
          }

-- A vertex v of n on its way through several joins: the links and sizes are those of a state, and its way is known.
pub record Going (n v : ℕ) (st : State) (up size : List ℕ) (top links longest : ℕ) : Type 0 where
  pub is : stored up size longest ≡ st
  pub stands : Standing n up size
  pub way : Follows n up v top links

module _ {n v : ℕ} {st : State} {up size : List ℕ} {a k longest : ℕ} (G : Going n v st up size a k longest) where
  -- it can be joined with w
  pub joinable : (w : ℕ) → w < n → (w < length up) × Standing (length up) up size × Reached (length up) up a k
  joinable w hw = rw G.stands.up_length (hw, G.stands, record { from = v; way = G.way })

  -- and is on its way still then
  pub going_on : {w : ℕ} {up' size' : List ℕ} {a' k' longest' : ℕ} → w < n → Joins w up size a k longest up' size' a' k' longest'
      → Going n v (join n v w st) up' size' a' k' longest'
  going_on {w} {up'} {size'} {a'} {k'} {longest'} hw J =
      let j = subst (λ (m : ℕ). Follows m up v a k → (stored up' size' longest' ≡ join m v w (stored up size longest)) × Follows m up' v a' k') G.stands.up_length (J v) G.way in
      record {
        is = j.0 ∙ ap (join n v w) G.is;
        stands = subst (Stands n) (sym j.0) (join_next n (stored up size longest) G.stands v w G.way.inside hw).stands;
        way = j.1;
      }
