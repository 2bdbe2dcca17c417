use Rattle.std.proofs.Common.{◌<◌, ◌≤◌, ◌+◌, ◌-◌, ℕ, List, length, All, []}
use Rattle.iso_base.specs.Shelves.{IsSameShelf}
use Rattle.off_read.specs.ScanForms.{limit}
use Rattle.off_read.specs.Scans.{Goes, budget}
use Rattle.off_read.specs.Meshes.{at_next_face}
use Rattle.off_read.proofs.meshes.read_faces.Given as goal

abbrev pub invariant-loop-shelf : goal.invariant-loop-shelf
invariant-loop-shelf g l = record {
  same : IsSameShelf g.S.Shelf.faults g.S.Shelf.files g.S.Shelf.sound l.initial.shelf l.shelf;
  few : l.reader.taken ≤ limit;
  counted : length l.simplices.items ≤ l.faces;
  spends : length l.simplices.items + budget l.reader ≤ budget l.initial.reader;
  below : All (λ (w : List ℕ). All (λ i. i < l.vertices) w) l.simplices.items;
  goes : Goes (g.S.Shelf.rest l.initial.shelf) (g.S.Shelf.rest l.shelf) l.initial.reader l.reader
      (at_next_face g.row.D l.vertices l.faces []) (at_next_face g.row.D l.vertices l.faces l.simplices.items);
}

abbrev pub decreases-loop-shelf : goal.decreases-loop-shelf
decreases-loop-shelf g l = l.faces - length l.simplices.items
