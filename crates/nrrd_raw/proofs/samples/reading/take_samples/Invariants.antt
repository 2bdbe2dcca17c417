use Rattle.std.proofs.Common.{◌≤◌, ◌-◌, ◌*◌, vec_len, All}
use Rattle.iso_base.specs.Shelves.{IsSameShelf, TakesAtMost}
use Rattle.nrrd_raw.specs.FaultCauses.{ReadsSamples}
use Rattle.nrrd_raw.specs.Shapes.{InRange}
use Rattle.nrrd_raw.proofs.samples.reading.take_samples.Given as goal

abbrev pub invariant-pieces : goal.invariant-pieces
invariant-pieces g l = record {
  same : IsSameShelf g.S.Shelf.faults g.S.Shelf.files g.S.Shelf.sound l.initial.shelf l.shelf;
  few : vec_len l.samples ≤ l.count;
  range : All InRange l.samples.items;
  taken : TakesAtMost (vec_len l.samples * l.width) (g.S.Shelf.rest l.initial.shelf) (g.S.Shelf.rest l.shelf);
  read : ReadsSamples l.header (g.S.Shelf.rest l.initial.shelf) (g.S.Shelf.rest l.shelf) (vec_len l.samples) l.samples.items;
}

abbrev pub decreases-pieces : goal.decreases-pieces
decreases-pieces g l = l.count - vec_len l.samples
