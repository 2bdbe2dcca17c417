use Rattle.std.proofs.Common.{◌≡◌, ◌<◌, ◌≤◌, ℕ, List, length, take, get_or}
use Rattle.iso_base.specs.Shelves.{IsSameShelf}
use Rattle.iso_formats.specs.MeshFile.{with_index}
use Rattle.off_read.specs.ScanForms.{limit}
use Rattle.off_read.specs.Scans.{Goes, budget, lines_passed}
use Rattle.off_read.specs.Meshes.{at_next_face, body_with}
use Rattle.off_read.proofs.meshes.read_face.Given as goal

abbrev pub invariant-loop-place : goal.invariant-loop-place
invariant-loop-place g l = record {
  same : IsSameShelf g.S.Shelf.faults g.S.Shelf.files g.S.Shelf.sound l.fn.shelf l.shelf;
  few : l.reader.taken ≤ limit;
  spends : budget l.reader < budget l.fn.reader;
  long : length l.simplex ≡ g.row.D;
  below : (k d : ℕ) → k < l.place → get_or l.simplex k d < l.vertices;
  goes : (f : ℕ) (ss : List (List ℕ)) → length ss < f → Goes (g.S.Shelf.rest l.fn.shelf) (g.S.Shelf.rest l.shelf) l.fn.reader l.reader
      (at_next_face g.row.D l.vertices f ss) (with_index (body_with g.row.D l.vertices f ss) (take l.place l.simplex) (lines_passed l.reader));
}
