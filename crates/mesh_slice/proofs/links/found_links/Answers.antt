use Rattle.std.proofs.Common.{ℕ, List, []}
use Rattle.cut_laws.specs.declared.Link.{Link}
use Rattle.cut_laws.specs.CutSteps.{links_in}
use Rattle.mesh_slice.specs.Slices.{late_by}
use Rattle.mesh_slice.proofs.GrowingLists.{joined_more}
use Rattle.mesh_slice.proofs.links.found_links.Goals as goal

pub add_links-requires : goal.add_links-requires
add_links-requires c = c.requires c.loop-simplex.simplex-index [] c.loop-simplex-test.true

pub loop-simplex-preserved : goal.loop-simplex-preserved
loop-simplex-preserved c =
    let f : List ℕ → List Link = links_in (late_by c.args.late.now) in
    joined_more f c.args.simplices.now c.loop-simplex.simplex-index [] c.loop-simplex.links.items c.add_links.new.links.items
    c.loop-simplex-test.true c.loop-simplex.invariant c.in_ok-add_links.ensures
