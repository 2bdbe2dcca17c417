use Rattle.std.proofs.Common.{◌≤◌, ◌^◌, unsigned_abs, ℤ, to_z, of_z, w64, FitsSigned, ap, ◌∙◌, subst, sym}
use Rattle.std.proofs.lemmas.Int.{to_z-of_z}
use Rattle.mesh_slice.proofs.Shares.{share_read, computed_share}
use Rattle.mesh_slice.proofs.positions.share.Goals as goal

pub overflow_cast-result : goal.overflow_cast-result
overflow_cast-result c =
    let is = computed_share c.args.run c.args.part c.args.way c.from.result c.from-2.result c.from-3.result c.div_euclid.result c.requires.run c.requires.some
    c.requires.between c.requires.few c.ranges.run c.from.ensures c.from-2.ensures c.from-3.ensures c.div_euclid.ensures in
    let r = share_read c.args.run c.args.part c.args.way c.div_euclid.result c.requires.run c.requires.some c.requires.between is in
    subst (λ (z : ℤ). FitsSigned w64 z) (sym r.read) r.fits

pub returns-clause-share : goal.returns-clause-share
returns-clause-share c =
    let is = computed_share c.args.run c.args.part c.args.way c.from.result c.from-2.result c.from-3.result c.div_euclid.result c.requires.run c.requires.some
    c.requires.between c.requires.few c.ranges.run c.from.ensures c.from-2.ensures c.from-3.ensures c.div_euclid.ensures in
    let r = share_read c.args.run c.args.part c.args.way c.div_euclid.result c.requires.run c.requires.some c.requires.between is in
    ap (λ (z : ℤ). to_z w64 (of_z w64 z)) r.read ∙ to_z-of_z w64 c.div_euclid.result r.fits ∙ is

pub returns-clause-small : goal.returns-clause-small
returns-clause-small c =
    let is = computed_share c.args.run c.args.part c.args.way c.from.result c.from-2.result c.from-3.result c.div_euclid.result c.requires.run c.requires.some
    c.requires.between c.requires.few c.ranges.run c.from.ensures c.from-2.ensures c.from-3.ensures c.div_euclid.ensures in
    let r = share_read c.args.run c.args.part c.args.way c.div_euclid.result c.requires.run c.requires.some c.requires.between is in
    subst (λ (z : ℤ). unsigned_abs z ≤ 2 ^ 53) (sym (ap (λ (z : ℤ). to_z w64 (of_z w64 z)) r.read ∙ to_z-of_z w64 c.div_euclid.result r.fits)) r.small
