-- `note_below` meets its contract: nothing under the first layer; else the row is read back from the words of the layer below.
-- Assumes nothing.
use Prim.Native.Nat.{ℕ, ◌+◌, ◌*◌, ◌-◌, ◌<◌}
use mathlib.Core.Path.{◌≡◌, sym, ap, ◌∙◌, subst}
use mathlib.Core.List.{List}
use lib.ListN.{length, take, drop, length-drop}
use lib.Seq.{length-take-le}
use Rattle.cube_rule.specs.Decider.{loops_of}
use Rattle.quads.specs.Writing.{RowTable}
use Rattle.layers.proofs.Halves.{lent_half_lem, half_long, put_long, put_here, put_other}
use Rattle.mesh.specs.Source.{block_of}
use Rattle.mesh.specs.Writes.{rows_count}
use Rattle.mesh.proofs.Belows.{rows_le, read_row}
use Rattle.mesh.proofs.Layers.{layer_words_length}
use native.Mathlib.Omega.{arith}
use Rattle.mesh.proofs.note_below.Goals as goal

-- there is a layer below
some : {k : ℕ} → (k ≡ 0 → ⊥) → 0 < k
some ne = omega arith

pub note_row-requires : goal.note_row-requires
note_row-requires c =
    let block : List ℕ = block_of c.args.source c.args.samples.now c.args.readings.now in
    let under-it : 0 < c.args.k = some c.if-k-eq0.false in
    let part_of : List ℕ = let a = c.args in take (2 * a.first - 2 * a.below) (drop (2 * a.below) a.words.now) in
    let part_long : length (part_of) ≡ 2 * c.args.first - 2 * c.args.below = let low = 2 * c.args.below in let h = under-it in length-take-le (2 * c.args.first - low) (drop low c.args.words.now) (omega (arith, length-drop low c.args.words.now, c.requires.inside h, c.requires.order h)) in
    let h = under-it in
    let samples = block in
    let z = c.args.k - 1 in (
      omega (arith, c.requires.passed_is h, ap length (c.requires.part h), layer_words_length c.args.size samples c.args.cut z, rows_le c.args.size samples c.args.cut c.args.j z (omega (arith, c.requires.row))),
      omega (arith, c.nx-nx.ensures, c.requires.limits.x_high),
      ap length (lent_half_lem c.args.j c.args.under.now) ∙ half_long c.args.j c.args.under.now c.requires.long,
      omega (arith, part_long, c.requires.few h, c.requires.order h),
    )

pub returns : goal.returns
returns c =
    let block : List ℕ = block_of c.args.source c.args.samples.now c.args.readings.now in
    let noted : List ℕ = c.note_row.new.numbers in
    let noted-long : length (noted) ≡ 512 = let t = c.args.under.now in c.note_row.auto.numbers ∙ ap length (lent_half_lem c.args.j t) ∙ half_long c.args.j t c.requires.long in
    let row_read : let j = c.args.j in let z = c.args.k - 1 in 0 < c.args.k → (c.note_row.result ≡ rows_count loops_of c.args.size (block) c.args.cut (j + 1) z) × RowTable loops_of c.args.size (block) c.args.cut j z (noted) = λ h. read_row c.args.size (block) c.args.cut c.args.j (c.args.k - 1) _ _ _ _ _ _ _ c.nx-nx.ensures c.ny-ny.ensures (c.requires.passed_is h) (c.requires.part h) (c.requires.below_is h) c.requires.row c.note_row.ensures.row_read in
    let j = c.args.j in
    let t = c.args.under.now in
    let p = noted-long in
    let l = c.requires.long in
    record {
      long = put_long j t noted l p;
      kept = put_other j t noted l p;
      passed_is = λ h. (row_read h).0;
      noted = λ h. subst (RowTable loops_of c.args.size block c.args.cut j (c.args.k - 1)) (sym (put_here j t noted l p)) (row_read h).1;
    }
