-- `row_quads` meets its contract: the quads along each axis, one after the other, by the halves of both buffers of tables.
-- Assumes nothing.
use Prim.Native.Nat.{ℕ}
use mathlib.Core.Path.{refl}
use mathlib.Core.List.{List}
use native.Mathlib.Omega.{arith}
use Rattle.laws.proofs.Puts.{put_length}
use Rattle.layers.proofs.Halves.{lent_half, lent_other, lent_half_lem, lent_other_lem, lent_long, other_long, halves_reach}
use Rattle.layers.proofs.Steps.{x_room, y_room, z_room, quads_more, more_as}
use Rattle.layers.proofs.row_quads.Goals as goal

pub write_along-x-requires : goal.write_along-x-requires
write_along-x-requires c =
    let old : List ℕ = lent_other c.args.row.j c.args.below.now in
    let under : List ℕ = lent_half c.args.row.j c.args.below.now in
    let prev : List ℕ = lent_other c.args.row.j c.args.here.now in
    let own : List ℕ = lent_half c.args.row.j c.args.here.now in
    let f = c.requires.0.fits in
    let j = c.args.row.j in
    let lb = c.requires.0.below_long in
    let lh = c.requires.1 in (
      f.short,
      f.long,
      f.inside,
      f.a_long,
      f.a_long,
      halves_reach _ f.long (other_long j _ lb) (lent_long j _ lb) (lent_long j _ lh) (other_long j _ lh),
      x_room c.requires.0 old under prev own,
    )

pub write_along-y-requires : goal.write_along-y-requires
write_along-y-requires c =
    let old : List ℕ = lent_other c.args.row.j c.args.below.now in
    let under : List ℕ = lent_half c.args.row.j c.args.below.now in
    let prev : List ℕ = lent_other c.args.row.j c.args.here.now in
    let own : List ℕ = lent_half c.args.row.j c.args.here.now in
    let f = c.requires.0.fits in
    let j = c.args.row.j in
    let lb = c.requires.0.below_long in
    let lh = c.requires.1 in (
      f.short,
      f.long,
      f.inside,
      f.a_long,
      f.a_long,
      halves_reach _ f.long (lent_long j _ lb) (lent_long j _ lb) (lent_long j _ lh) (lent_long j _ lh),
      omega (arith, y_room c.requires.0 old under prev own, put_length c.write_along-x.ensures),
    )

pub write_along-z-requires : goal.write_along-z-requires
write_along-z-requires c =
    let old : List ℕ = lent_other c.args.row.j c.args.below.now in
    let under : List ℕ = lent_half c.args.row.j c.args.below.now in
    let prev : List ℕ = lent_other c.args.row.j c.args.here.now in
    let own : List ℕ = lent_half c.args.row.j c.args.here.now in
    let f = c.requires.0.fits in
    let j = c.args.row.j in
    let lh = c.requires.1 in (
      f.short,
      f.long,
      f.inside,
      f.a_long,
      f.b_long,
      halves_reach _ f.long (other_long j _ lh) (other_long j _ lh) (lent_long j _ lh) (lent_long j _ lh),
      omega (arith, z_room c.requires.0 old under prev own, put_length c.write_along-x.ensures, put_length c.write_along-y.ensures),
    )

pub returns : goal.returns
returns c =
    let a = c.args in
    let j = a.row.j in (
      refl,
      more_as a.row a.a.now a.b.now a.m _ _ _ (lent_other_lem j a.below.now) (lent_half_lem j a.below.now) (lent_other_lem j a.here.now) (lent_half_lem j a.here.now)
          (quads_more c.write_along-x.ensures c.write_along-y.ensures c.write_along-z.ensures),
    )
