use Rattle.std.proofs.Common.{ap, sym, refl, ◌≡◌, arith, rules}
use Rattle.std.proofs.lemmas.Result.{err_from_is_err_and}
use Rattle.off_read.specs.ScanForms.{Scan}
use Rattle.off_read.proofs.TakingLaws.{fails_then, takes_like, takes_then, none_left}
use Rattle.off_read.proofs.reader.Reader.drain.Goals as goal

pub returns-in_err-refill-clause-fails : goal.returns-in_err-refill-clause-fails
returns-in_err-refill-clause-fails g c =
    let p = err_from_is_err_and c.from_residual.result c.from_residual.ensures.1 in
    let s = c.args.self.now in
    let taken : s.taken ≡ c.self.inside.taken = sym (ap (λ (s : Scan). s.taken) c.self.view_is) in
    rw (p.1, p.2)
    (fails_then _ _ _ s c.loop-self.self c.refill.new.self _ (takes_like _ _ _ s _ c.loop-self.self c.loop-self.invariant.takes.0 taken refl)
    c.in_err-refill.ensures.fails)

pub loop-self-preserved : goal.loop-self-preserved
loop-self-preserved g c =
    let r = c.self-in-loop-self.inside in
    let taken = ap (λ (s : Scan). s.taken) c.self-in-loop-self.view_is in
    record {
      same = search rules;
      takes = (
        takes_like _ _ _ _ c.refill.new.self _ (takes_then _ _ _ _ _ _ c.loop-self.invariant.takes.0 c.in_ok-refill.ensures.gives.takes.0) refl taken,
        let few = c.in_ok-refill.ensures.gives.takes.1 in omega (arith, few, taken),
      );
      empty = none_left r.end _;
    }
