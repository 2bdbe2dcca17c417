use Rattle.std.proofs.Common.{◌≤◌}
use Rattle.iso_base.specs.Shelves.{IsSameShelf}
use Rattle.iso_formats.specs.MeshFile.{Body, before_coordinates}
use Rattle.off_read.specs.ScanForms.{limit}
use Rattle.off_read.specs.Scans.{Goes}
use Rattle.off_read.proofs.meshes.read_coordinates.Given as goal

abbrev pub invariant-loop-left : goal.invariant-loop-left
invariant-loop-left g l = record {
  same : IsSameShelf g.S.Shelf.faults g.S.Shelf.files g.S.Shelf.sound l.initial.shelf l.shelf;
  few : l.reader.taken ≤ limit;
  goes : (b : Body) → Goes (g.S.Shelf.rest l.initial.shelf) (g.S.Shelf.rest l.shelf) l.initial.reader l.reader (before_coordinates b l.count)
      (before_coordinates b l.left);
}

abbrev pub decreases-loop-left : goal.decreases-loop-left
decreases-loop-left g l = l.left
