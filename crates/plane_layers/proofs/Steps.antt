-- One row of the layer, counted and written: what it requires is there, and what it gives is the row of every block that has the two planes.
-- Assumes nothing.
use Prim.Native.Nat.{ℕ, ◌+◌, ◌*◌, ◌≤◌, ◌<◌}
use mathlib.Core.Path.{◌≡◌, ap, sym, ◌∙◌, subst}
use mathlib.Core.List.{List}
use native.Mathlib.Nat.{mul-le-mul}
use native.Mathlib.Omega.{arith}
use lib.ListN.{length, get_or}
use lib.Seq.{sets}
use lib.Ieee.{Float, nan}
use Rattle.cube_rule.specs.Decider.{loops_of}
use Rattle.mesh_rule.specs.Layers.{plane_size}
use Rattle.cube_vertices.specs.Cubes.{Stored}
use Rattle.rows.specs.declared.Row.{Row}
use Rattle.rows.specs.Rows.{RowReady}
use Rattle.vertices.specs.Layers.{RowRoom}
use Rattle.vertices.proofs.Layers.{row_ready}
use Rattle.layers.specs.declared.Marks.{Marks}
use Rattle.layers.specs.Steps.{half, RowFits, QuadsReady, QuadsMore, RowStepped, RowFew, RowCounted}
use Rattle.layers.proofs.Steps.{step_counts}
use Rattle.mesh.specs.Steps.{row_of, RowMoved}
use Rattle.mesh.proofs.RowSteps.{row_fits, row_moved, step_ready, row_more}
use Rattle.plane_layers.specs.declared.Layer.{Layer}
use Rattle.plane_layers.specs.Memory.{Windowed, Shown}
use Rattle.plane_layers.specs.Layer.{LayerReady, SignsReady, RowsMarked, StepReady, RowTaken}
use Rattle.plane_layers.proofs.Rows.{marked_more, marked_few}
use Rattle.plane_layers.proofs.Shown.{made, made_shown, shown_ready, two_rows, part_fits, shown_windows}
use Rattle.plane_layers.proofs.Signed.{sets_behind, words_for, front_for}

-- nothing behind what is stored is touched
module _ {v : ℕ} {ms us : List ℕ} {os : List Float} {w w' : List ℕ} {o o' : List Float} {r : ℕ} (h : Stored v ms us os w w' o o' r) where
  stored_words_behind : (i : ℕ) → 2 * r ≤ i → get_or w' i 0 ≡ get_or w i 0
  stored_words_behind i l = ap (λ (b : List ℕ). get_or b i 0) h.words_are ∙ sets_behind w (2 * v) us i 0 (omega (arith, h.number, h.two))

  stored_offsets_behind : (i : ℕ) → 3 * r ≤ i → get_or o' i nan ≡ get_or o i nan
  stored_offsets_behind i l = ap (λ (b : List Float). get_or b i nan) h.offsets_are ∙ sets_behind o (3 * v) os i nan (omega (arith, h.number, h.three))

more_behind : {xs ys zs : List ℕ} {m r : Marks} {q q' : List ℕ} → QuadsMore xs ys zs m r q q' → (i : ℕ) → r.x ≤ i → r.y ≤ i → r.z ≤ i → get_or q' i 0 ≡ get_or q i 0
more_behind {xs} {ys} {zs} {m} {r} {q} {q'} h i lx ly lz =
    ap (λ (b : List ℕ). get_or b i 0) h.quads_are
    ∙ sets_behind (sets (sets q m.x xs) m.y ys) m.z zs i 0 (omega (arith, h.z_is))
    ∙ sets_behind (sets q m.x xs) m.y ys i 0 (omega (arith, h.y_is))
    ∙ sets_behind q m.x xs i 0 (omega (arith, h.x_is))

-- the numbers of a row fit
pub row_small : {layer : Layer} {work plane : List ℕ} → LayerReady layer work plane → (j nx : ℕ) → nx ≡ layer.size.nx → j + 1 < layer.size.ny
    → (nx * j + 2 * nx ≤ 65536) × (nx ≤ 256) × (nx * j + 2 * nx ≤ length work) × (nx * j + 2 * nx ≤ length plane)
row_small {layer} {work} {plane} r j nx ex hj =
    let fits = part_fits r j nx ex hj in
    let all : plane_size layer.size ≤ 65536 = mul-le-mul r.limits.x_high r.limits.y_high in
    (omega arith, omega (arith, r.limits.x_high), omega (arith, r.room), omega (arith, r.plane_long))

module _ {layer : Layer} {work plane a b : List ℕ} (r : LayerReady layer work plane) (g : SignsReady layer work plane a b) (j nx : ℕ) (ex : nx ≡ layer.size.nx) (hj : j + 1 < layer.size.ny)
    (w : List ℕ) (long : length w ≡ 514) where
  abbrev some : List ℕ
  some = made layer.size layer.k work plane

  some_shown : Shown layer.size layer.k work plane some
  some_shown = made_shown layer.size layer.k work plane r.inside

  module _ (is : Windowed (words_for work (nx * j) (2 * nx)) (2 * length (words_for work (nx * j) (2 * nx))) w) (row : Row) (er : row ≡ row_of layer.size layer.cut layer.first j layer.k) where
    abbrev lo : List ℕ
    lo = front_for w (nx * j) (2 * nx)

    abbrev hi : List ℕ
    hi = two_rows plane nx j

    -- ---- it is counted

    pub counted_ready : {m : Marks} → ((s : List ℕ) → Shown layer.size layer.k work plane s → RowsMarked loops_of layer.size s layer.cut layer.k 0 0 j m)
        → RowReady lo hi row.cut a b row.nx row.j × RowFits row a b × RowFew m
    counted_ready {m} marked =
        subst (λ (x : Row). RowReady lo hi x.cut a b x.nx x.j × RowFits x a b × RowFew m) (sym er) (
          row_ready (shown_ready r g some_shown) hj (shown_windows r j nx ex hj some_shown w long is),
          row_fits (shown_ready r g some_shown) j hj layer.first,
          marked_few layer.size some layer.cut layer.k r.limits r.inside (omega arith) (marked some some_shown),
        )

    row_moves : {s : List ℕ} → Shown layer.size layer.k work plane s → {m m' : Marks} → RowCounted loops_of lo hi row a b m m' → RowMoved loops_of layer.size s layer.cut j layer.k m m'
    row_moves h {m} {m'} c = row_moved (shown_ready r g h) j hj layer.first (shown_windows r j nx ex hj h w long is) (subst (λ (x : Row). RowCounted loops_of lo hi x a b m m') er c)

    pub counted_next : {s : List ℕ} → Shown layer.size layer.k work plane s → {m m' : Marks} → RowsMarked loops_of layer.size s layer.cut layer.k 0 0 j m → RowCounted loops_of lo hi row a b m m'
        → RowsMarked loops_of layer.size s layer.cut layer.k 0 0 (j + 1) m'
    counted_next {s} h marked c = marked_more layer.size s layer.cut layer.k marked (row_moves h c)

    -- ---- it is written

    pub written_ready : {m : Marks} {words : List ℕ} {o : List Float} {q : List ℕ} (under tab : List ℕ) → StepReady loops_of layer work plane j m words o q under tab
        → RowReady lo hi row.cut a b row.nx row.j × RowRoom loops_of lo hi row.cut row.nx row.c row.first m.v words o (half row.j tab) × QuadsReady row a b under m (length q) × (length tab ≡ 1024)
    written_ready under tab t =
        step_ready (shown_ready r g t.shown) hj r.threshold t.room under tab t.under_long t.tab_long (shown_windows r j nx ex hj t.shown w long is) row er

    pub row_taken : {m m' : Marks} {ws ws' : List ℕ} {o o' : List Float} {q q' under tab tab' : List ℕ} → StepReady loops_of layer work plane j m ws o q under tab
        → RowStepped loops_of lo hi row a b under m ws ws' o o' q q' tab tab' m' → RowTaken loops_of layer work plane j m m' ws ws' o o' q q' under tab tab'
    row_taken {m} {m'} {ws} {ws'} {o} {o'} {q} {q'} {under} {tab} {tab'} t h = record {
      tab_long = h.long;
      words_behind = stored_words_behind h.written.stored;
      offsets_behind = stored_offsets_behind h.written.stored;
      quads_behind = more_behind h.more;
      moved = λ s sh. row_moves sh (step_counts loops_of lo hi row a b under m ws ws' o o' q q' tab tab' m' h);
      more = λ s sh number ready. row_more (shown_ready r g sh) ready number (shown_windows r j nx ex hj sh w long is) row er h;
    }
