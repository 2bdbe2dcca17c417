use Rattle.std.proofs.Common.{sym, ◌∙◌, ◌≡◌, ℤ}
use Rattle.iso_model.specs.declared.Kind.TheVariants.{Cube, Pyramid, Simplex}
use Rattle.edge_spectrum.proofs.StepSums.{grows_none, grows_same}
use Rattle.edge_spectrum.proofs.Walked.{none_between}
use Rattle.edge_spectrum.proofs.differences.Differences.add_between.Goals as goal

pub returns-in-Cube : goal.returns-in-Cube
returns-in-Cube c =
    grows_same c.args.self.now c.args.self.now (λ (iso : ℤ). 0) _
    (λ (iso : ℤ).
    sym (none_between c.args.kind c.args.grid.now c.args.step c.requires.walked.fits
    (λ is. absurd (let bad : Cube ≡ Pyramid = sym c.in-Cube.is ∙ is in cc)) iso))
    (grows_none c.args.self.now c.requires.sound)

pub returns-in-Simplex : goal.returns-in-Simplex
returns-in-Simplex c =
    grows_same c.args.self.now c.args.self.now (λ (iso : ℤ). 0) _
    (λ (iso : ℤ).
    sym (none_between c.args.kind c.args.grid.now c.args.step c.requires.walked.fits
    (λ is. absurd (let bad : Simplex ≡ Pyramid = sym c.in-Simplex.is ∙ is in cc)) iso))
    (grows_none c.args.self.now c.requires.sound)
