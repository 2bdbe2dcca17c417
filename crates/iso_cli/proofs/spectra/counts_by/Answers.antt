use Rattle.std.proofs.Common.{◌≡◌, ◌≤◌, ◌^◌, ◌∙◌, ℤ, List, rules, subst, sym, w64, to_z, of_z, unsigned_abs}
use Rattle.iso_cli.proofs.Counting.{few_steps, isovalue_is, range_moved}
use Rattle.iso_cli.proofs.spectra.counts_by.Goals as goal

pub spectrum-requires : goal.spectrum-requires
spectrum-requires g c =
    let first = isovalue_is c.args.from c.requires.from in
    let last = isovalue_is c.args.to c.requires.to in
    let moved = range_moved c.args.from c.args.to (to_z w64 (of_z w64 c.args.from)) (to_z w64 (of_z w64 c.args.to)) first last c.requires.range in
    let few = few_steps (to_z w64 (of_z w64 c.args.from)) (to_z w64 (of_z w64 c.args.to)) moved in
    let low : unsigned_abs (to_z w64 (of_z w64 c.args.from)) ≤ 2 ^ 40 = subst (λ (z : ℤ). unsigned_abs z ≤ 2 ^ 40) (sym first) c.requires.from in
    let high : unsigned_abs (to_z w64 (of_z w64 c.args.to)) ≤ 2 ^ 40 = subst (λ (z : ℤ). unsigned_abs z ≤ 2 ^ 40) (sym last) c.requires.to in
    search (rules, c.requires.regular, c.new-complex.ensures ∙ c.sizes_of.ensures, low, high, moved.0, few)
