use Rattle.std.proofs.Common.{ap, arith, length, rules, ◌∙◌, ◌<◌, ◌^◌, ℕ}
use Rattle.bit_rows.specs.Rows.{places}
use Rattle.bit_rows.proofs.SetPlaces.{next_places, no_places, positive}
use Rattle.bit_rows.proofs.ones.OnesIterator.next.Goals as goal

pub returns-then-self-eq0-clause-steps : goal.returns-then-self-eq0-clause-steps
returns-then-self-eq0-clause-steps c =
    let none = ap places c.if-self-eq0.true ∙ no_places in
    (none, none)

pub returns-clause-steps : goal.returns-clause-steps
returns-clause-steps c =
    let fits : c.args.self.now.rest < 2 ^ 64 = search rules in
    next_places c.args.self.now.rest (positive c.args.self.now.rest c.if-self-eq0.false) fits

pub returns-clause-goes : goal.returns-clause-goes
returns-clause-goes c =
    let n : ℕ = c.args.self.now.rest in
    let fits : n < 2 ^ 64 = search rules in
    let shorter = ap (length {A = ℕ}) (next_places n (positive n c.if-self-eq0.false) fits) in
    record { on = λ _. (tt, tt, omega (arith, shorter)); keeps = tt; rests = λ _. tt }
