use Rattle.std.specs.Io.KnownBytes.{Consumes}
use Rattle.iso_base.specs.Shelves.{IsSameShelf}
use Rattle.nrrd_raw.specs.HeaderFronts.{FitsFirst}
use Rattle.nrrd_raw.proofs.lines.fronts.take_first_line.Given as goal

abbrev pub invariant-places : goal.invariant-places
invariant-places g l = record {
  same : IsSameShelf g.S.Shelf.faults g.S.Shelf.files g.S.Shelf.sound l.initial.shelf l.shelf;
  fits : FitsFirst l.front.items l.place;
  came : Consumes (g.S.Shelf.rest l.initial.shelf) (g.S.Shelf.rest l.shelf) l.front.items;
}
