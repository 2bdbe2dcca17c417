use Rattle.std.proofs.Common.{ℕ, List, sym, subst}
use Rattle.std.specs.Io.KnownBytes.{Consumes}
use Rattle.nrrd_raw.specs.HeaderFronts.{IsFront}
use Rattle.nrrd_raw.proofs.FirstLaws.{some_front}
use Rattle.nrrd_raw.proofs.ReadingLaws.{header-read, header-cause}
use Rattle.nrrd_raw.proofs.reading.read_header.Goals as goal

pub header_of-requires-clause-some : goal.header_of-requires-clause-some
header_of-requires-clause-some g c = some_front c.deref.result.now (subst IsFront (sym c.deref.ensures.0) c.in_ok-take_front.ensures.whole)

pub returns-clause-read : goal.returns-clause-read
returns-clause-read g c =
    header-read c.header_of.result _ _ c.deref.result.now (subst IsFront (sym c.deref.ensures.0) c.in_ok-take_front.ensures.whole)
    (subst (λ (bs : List ℕ). Consumes (g.S.Shelf.rest c.args.shelf.now) (g.S.Shelf.rest c.take_front.new.shelf) bs) (sym c.deref.ensures.0)
    c.in_ok-take_front.ensures.came)
    c.header_of.ensures.spelled

pub returns-clause-cause : goal.returns-clause-cause
returns-clause-cause g c =
    header-cause c.header_of.result (g.S.Shelf.rest c.args.shelf.now) (g.S.Shelf.rest c.take_front.new.shelf) c.deref.result.now
    (subst IsFront (sym c.deref.ensures.0) c.in_ok-take_front.ensures.whole)
    (subst (λ (bs : List ℕ). Consumes (g.S.Shelf.rest c.args.shelf.now) (g.S.Shelf.rest c.take_front.new.shelf) bs) (sym c.deref.ensures.0)
    c.in_ok-take_front.ensures.came)
    c.header_of.ensures.causes c.header_of.ensures.form c.header_of.ensures.cause
