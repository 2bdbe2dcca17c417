use Rattle.std.proofs.Common.{ap, arith, ◌∙◌, ℤ, w64, FitsSigned}
use Rattle.std.proofs.lemmas.Int.{fits_signed_from_abs, to_z-of_z}
use Rattle.bit_rows.specs.SampleRows.{is_above}
use Rattle.layer_scan.specs.SlicePlanes.{samples_of}
use Rattle.layer_scan.proofs.StatesTold.{stands_begun}
use Rattle.layer_scan.proofs.scan.LayerPlanes.begin.Goals as goal

pub returns-clause-signs : goal.returns-clause-signs
returns-clause-signs c = λ n lt x.
    let iso : ℤ = c.args.self.now.iso in
    let fits : FitsSigned w64 iso = fits_signed_from_abs w64 iso (omega (arith, c.requires.planes.iso)) in
    c.write_signs.ensures.bits n lt x ∙ ap (λ (z : ℤ). is_above z (samples_of c.args.self.now.rows c.args.slice.now n) x) (to_z-of_z w64 iso fits)

pub returns-clause-told : goal.returns-clause-told
returns-clause-told c = λ v s takes.
    stands_begun v s c.args.slice.now c.args.self.now c.write_signs.new.signs c.write_clear.new.clear takes (returns-clause-signs c) c.write_clear.ensures.bits
