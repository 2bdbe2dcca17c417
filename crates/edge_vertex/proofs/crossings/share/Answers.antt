use Rattle.std.proofs.Common.{rules, ◌≤◌, unsigned_abs, w64, FitsSigned, arith}
use Rattle.std.proofs.lemmas.Int.{to_z-of_z, fits_signed_from_abs}
use Rattle.edge_vertex.proofs.Quotients.{share_small}
use Rattle.edge_vertex.proofs.crossings.share.Goals as goal

pub returns-clause-small : goal.returns-clause-small
returns-clause-small c =
    let small : unsigned_abs c.div_euclid.result ≤ 1000000 =
    search (rules, share_small c.args.run c.args.part c.args.way c.requires.near c.requires.some c.requires.between) in
    let fits : FitsSigned w64 c.div_euclid.result = fits_signed_from_abs w64 c.div_euclid.result (omega (arith, small)) in
    rw (to_z-of_z w64 c.div_euclid.result fits) small
