use Rattle.std.proofs.Common.{◌∙◌}
use Rattle.mesh_laws.proofs.RoundPlaces.{end_found}
use Rattle.mesh_laws.proofs.rounds.has_end.Goals as goal

pub returns : goal.returns
returns c = λ qs a. c.is_ok.ensures.value ∙ end_found qs c.args.ends.now c.args.vertex c.binary_search.result a c.binary_search.ensures.position
