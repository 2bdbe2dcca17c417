use Rattle.std.proofs.Common.{ap, arith, sym, ◌+◌, ◌*◌, ◌≡◌, ℤ, length}
use Rattle.edge_middles.specs.MeshMiddles.{middles_between}
use Rattle.edge_spectrum.specs.Counted.{grid_at}
use Rattle.edge_spectrum.proofs.StepSums.{grows_both, grows_none, grows_same}
use Rattle.edge_spectrum.proofs.Walked.{below_plane, none_below, plane_more}
use Rattle.edge_spectrum.proofs.differences.Differences.add_layers.Goals as goal

pub loop-step-init : goal.loop-step-init
loop-step-init c =
    grows_same c.args.self.now c.args.self.now (λ (iso : ℤ). 0) (below_plane c.args.kind c.args.grid.now 0)
    (λ (iso : ℤ). sym (none_below c.args.kind c.args.grid.now c.requires.walked.fits iso)) (grows_none c.args.self.now c.requires.sound)

pub loop-step-preserved : goal.loop-step-preserved
loop-step-preserved c =
    let step = c.loop-step.step in
    let before = below_plane c.args.kind c.args.grid.now step in
    let plane = λ (iso : ℤ). length (middles_between (grid_at c.args.kind c.args.grid.now iso) (2 * step) (2 * step + 1)) in
    let between = λ (iso : ℤ). length (middles_between (grid_at c.args.kind c.args.grid.now iso) (2 * step + 1) (2 * step + 2)) in
    grows_same c.args.self.now c.add_between.new.self (λ (iso : ℤ). before iso + plane iso + between iso)
    (below_plane c.args.kind c.args.grid.now (step + 1)) (plane_more c.args.kind c.args.grid.now step c.requires.walked.fits)
    (grows_both c.args.self.now c.add_plane.new.self c.add_between.new.self (λ (iso : ℤ). before iso + plane iso) between
    (grows_both c.args.self.now c.loop-step.self c.add_plane.new.self before plane c.loop-step.invariant c.add_plane.ensures) c.add_between.ensures)

pub returns : goal.returns
returns c =
    let all : c.loop-step.step ≡ c.args.last = omega (arith, c.loop-step-test.false, c.loop-step.auto.step-end) in
    grows_same c.args.self.now c.loop-step.self (below_plane c.args.kind c.args.grid.now c.loop-step.step) _
    (λ (iso : ℤ). ap (λ n. below_plane c.args.kind c.args.grid.now n iso) all) c.loop-step.invariant
