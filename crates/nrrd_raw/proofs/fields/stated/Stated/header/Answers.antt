use Rattle.std.proofs.Common.{◌≡◌, ◌∙◌, ◌==◌, true, refl, sym, rules, arith}
use Rattle.std.proofs.lemmas.Bool.Decides.{nat_tests}
use Rattle.nrrd_raw.proofs.WholeLaws.{header-spelled, states-at}
use Rattle.nrrd_raw.proofs.fields.stated.Stated.header.Goals as goal

pub returns-clause-spelled : goal.returns-clause-spelled
returns-clause-spelled c = λ texts h between first.
    let raw : c.args.self.raw ≡ true = search rules in
    let same : (c.in-Some-sizes.sizes.count == c.in-Some-dimension.dims) ≡ true = grind (arith, nat_tests) in
    header-spelled c.in-Some.sample c.in-Some-dimension.dims c.in-Some-sizes.sizes c.in-Some-sizes.line c.args.self.big texts c.order_of.result
    (states-at c.args.self.sample _ c.args.self.dimension _ c.args.self.sizes _ c.args.self.raw _ c.args.self.big _ texts c.in-Some.is
    c.in-Some-dimension.is c.in-Some-sizes.is raw refl h)
    (sym c.lacks_order.ensures ∙ c.if-lacks_order.false) same c.order_of.ensures between first
