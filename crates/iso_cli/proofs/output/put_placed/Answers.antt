use Rattle.std.proofs.Common.{rules, FitsSigned, ◌≡◌, ◌≤◌, ◌^◌, ℤ, w64, to_z, of_z, unsigned_abs, sym, subst}
use Rattle.std.proofs.lemmas.Int.{to_z-of_z}
use Rattle.iso_cli.proofs.output.put_placed.Goals as goal

pub extract-requires : goal.extract-requires
extract-requires g c =
    let fits : FitsSigned w64 c.args.iso = search rules in
    let same : to_z w64 (of_z w64 c.args.iso) ≡ c.args.iso = to_z-of_z w64 c.args.iso fits in
    let iso : unsigned_abs (to_z w64 (of_z w64 c.args.iso)) ≤ 2 ^ 40 = subst (λ (z : ℤ). unsigned_abs z ≤ 2 ^ 40) (sym same) c.requires.iso in
    search (rules, c.requires.regular, c.requires.fits, c.table.ensures.dimension, iso)
