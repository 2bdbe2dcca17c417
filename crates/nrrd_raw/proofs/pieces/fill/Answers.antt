use Rattle.std.proofs.Common.{◌-◌, [], length, take, arith, append-nil, rules, subst, sym, List, ℕ}
use Rattle.std.proofs.KnownBytes.{Consumes-kept, Consumes-trans}
use Rattle.std.proofs.lemmas.List.{length-take-le}
use Rattle.std.specs.Io.KnownBytes.{Consumes}
use Rattle.nrrd_raw.proofs.TakenLaws.{front-within, take-filled}
use Rattle.nrrd_raw.proofs.pieces.fill.Goals as goal

pub loop-filled-preserved : goal.loop-filled-preserved
loop-filled-preserved g c = record {
  same = record {
    later = omega (arith, c.in-Ok.ensures.faults, c.loop-filled.invariant.same.later);
    stay = search rules;
    sound_stays = search rules;
  };
  within = search rules;
  came =
      let joined = take-filled c.loop-filled.filled (length c.loop-filled.buf - c.loop-filled.filled) c.in-Ok.count c.loop-filled.buf c.take.new.buf
      (omega arith) (omega (arith, c.in-Ok.ensures.bound)) in
      subst (λ (bs : List ℕ). Consumes (g.S.Shelf.rest c.args.shelf.now) (g.S.Shelf.rest c.take.new.self) bs) (sym joined)
      (Consumes-trans _ _ _ _ _ c.loop-filled.invariant.came c.in-Ok.ensures.taken.0);
}

pub returns-in-Ok-eq0-clause-taken : goal.returns-in-Ok-eq0-clause-taken
returns-in-Ok-eq0-clause-taken g c = (
  take c.loop-filled.filled c.loop-filled.buf,
  front-within _ _ _ _ _ (omega arith) (length-take-le _ _ (omega arith)),
  let none : Consumes (g.S.Shelf.rest c.loop-filled.shelf) (g.S.Shelf.rest c.take.new.self) [] =
      subst (λ (n : ℕ). Consumes (g.S.Shelf.rest c.loop-filled.shelf) (g.S.Shelf.rest c.take.new.self) (take n c.take.new.buf)) c.in-Ok-eq0.field-0-test
      c.in-Ok-eq0.ensures.taken.0 in
      subst (λ (bs : List ℕ). Consumes (g.S.Shelf.rest c.args.shelf.now) (g.S.Shelf.rest c.take.new.self) bs) (append-nil _)
      (Consumes-trans _ _ _ _ _ c.loop-filled.invariant.came none),
)

pub returns-in-Err-clause-taken : goal.returns-in-Err-clause-taken
returns-in-Err-clause-taken g c = (
  take c.loop-filled.filled c.loop-filled.buf,
  front-within _ _ _ _ _ (omega arith) (length-take-le _ _ (omega arith)),
  Consumes-kept _ _ _ _ c.loop-filled.invariant.came c.in-Err.ensures.taken,
)
