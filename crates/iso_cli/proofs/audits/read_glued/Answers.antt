use Rattle.iso_cli.proofs.Auditing.{found_refused, not_clean}
use Rattle.iso_cli.proofs.audits.read_glued.Goals as goal

pub returns : goal.returns
returns g c = record {
  shelf = c.in_ok-mesh.ensures.shelf;
  blamed = tt;
  missing = λ sound fault. absurd fault;
  kinds = tt;
  refused = λ decided.
      found_refused (g.S.Shelf.files c.args.shelf.now) c.args.name.now c.in_ok-mesh.mesh c.in_ok-finding.finding c.in_ok-mesh.ensures.held
      c.in_ok-finding.ensures (not_clean c.in_ok-finding.finding c.in_default.not-Clean);
  left = c.in_ok-mesh.ensures.whole;
  whole = tt;
  held = tt;
}
