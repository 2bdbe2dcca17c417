use Rattle.std.proofs.Common.{◌≡◌, []}
use Rattle.iso_base.specs.Shelves.{IsSameShelf}
use Rattle.off_read.specs.Scans.{TakesFew, budget}
use Rattle.off_read.proofs.reader.Reader.drain.Given as goal

abbrev pub invariant-loop-self : goal.invariant-loop-self
invariant-loop-self g l = record {
  same : IsSameShelf g.S.Shelf.faults g.S.Shelf.files g.S.Shelf.sound l.initial.shelf l.shelf;
  takes : TakesFew (g.S.Shelf.rest l.initial.shelf) (g.S.Shelf.rest l.shelf) l.initial.self l.self;
  empty : l.self.left ≡ [];
}

abbrev pub decreases-loop-self : goal.decreases-loop-self
decreases-loop-self g l = budget l.self
