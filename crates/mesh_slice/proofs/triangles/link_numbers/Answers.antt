use Rattle.std.proofs.Common.{◌≡◌, ◌≢◌, ◌<◌, length, ap, ◌∙◌, arith, below_more, get_or-set_other, get_or-set_same}
use Rattle.std.proofs.Math.ListN.{length-set}
use Rattle.cut_laws.specs.Cuts.{number_in}
use Rattle.mesh_slice.proofs.triangles.link_numbers.Goals as goal

pub loop-edge-preserved : goal.loop-edge-preserved
loop-edge-preserved c =
    let long : length c.loop-edge.places ≡ 6 = c.loop-edge.invariant.0 in
    let lt : c.loop-edge.edge < length c.loop-edge.places = omega (arith, c.loop-edge-test.true) in
    let here : c.number_if_parted.result ≡ number_in c.args.links.now _ = c.number_if_parted.ensures ∙ ap (number_in c.args.links.now) c.edge_of.ensures in (
      simp length-set long,
      below_more _ _
          (λ k h. let ne : k ≢ c.loop-edge.edge = omega arith in rw get_or-set_other (c.loop-edge.invariant.1 k h)) (rw get_or-set_same here),
    )
