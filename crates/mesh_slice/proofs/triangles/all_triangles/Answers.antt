use Rattle.std.proofs.Common.{ℕ, List, []}
use Rattle.cut_laws.specs.Cuts.{triangles_in}
use Rattle.mesh_slice.specs.Slices.{late_by}
use Rattle.mesh_slice.proofs.GrowingLists.{joined_more}
use Rattle.mesh_slice.proofs.triangles.all_triangles.Goals as goal

pub add_triangles-requires-clause-simplex : goal.add_triangles-requires-clause-simplex
add_triangles-requires-clause-simplex c = c.requires.simplices c.loop-simplex.simplex-index [] c.loop-simplex-test.true

pub loop-simplex-preserved : goal.loop-simplex-preserved
loop-simplex-preserved c =
    let f : List ℕ → List (List ℕ) = triangles_in (late_by c.args.late.now) c.args.links.now c.args.cut.now in
    joined_more f c.args.simplices.now c.loop-simplex.simplex-index [] c.loop-simplex.triangles.items c.add_triangles.new.found.items
    c.loop-simplex-test.true c.loop-simplex.invariant c.in_ok-add_triangles.ensures
