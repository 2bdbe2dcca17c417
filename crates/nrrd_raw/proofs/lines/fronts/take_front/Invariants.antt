use Rattle.std.proofs.Common.{◌≤◌, ◌-◌, length}
use Rattle.std.specs.Io.KnownBytes.{Consumes}
use Rattle.iso_base.specs.Shelves.{IsSameShelf}
use Rattle.nrrd_raw.specs.HeaderFronts.{HasFront}
use Rattle.nrrd_raw.specs.Undecided.{TakesSuch, EndsOpenHeader}
use Rattle.nrrd_raw.proofs.lines.fronts.take_front.Given as goal

abbrev pub invariant-bytes : goal.invariant-bytes
invariant-bytes g l = record {
  same : IsSameShelf g.S.Shelf.faults g.S.Shelf.files g.S.Shelf.sound l.fn.shelf l.shelf;
  short : length l.front.items ≤ 65536;
  came : Consumes (g.S.Shelf.rest l.fn.shelf) (g.S.Shelf.rest l.shelf) l.front.items;
  begun : HasFront l.front.items l.start;
  no_further : TakesSuch EndsOpenHeader (g.S.Shelf.rest l.fn.shelf) (g.S.Shelf.rest l.shelf);
}

abbrev pub decreases-bytes : goal.decreases-bytes
decreases-bytes g l = 65536 - length l.front.items
