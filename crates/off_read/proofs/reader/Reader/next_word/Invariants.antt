use Rattle.iso_base.specs.Shelves.{IsSameShelf}
use Rattle.off_read.specs.Scans.{ReadsOn, budget}
use Rattle.off_read.proofs.reader.Reader.next_word.Given as goal

abbrev pub invariant-loop-byte : goal.invariant-loop-byte
invariant-loop-byte g l = record {
  same : IsSameShelf g.S.Shelf.faults g.S.Shelf.files g.S.Shelf.sound l.initial.shelf l.shelf;
  reads : ReadsOn (g.S.Shelf.rest l.initial.shelf) (g.S.Shelf.rest l.shelf) l.fn.self l.self l.word;
}

abbrev pub decreases-loop-byte : goal.decreases-loop-byte
decreases-loop-byte g l = budget l.self
