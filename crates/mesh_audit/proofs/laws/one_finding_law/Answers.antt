use Rattle.mesh_audit.proofs.FindingLaws.{has_one_finding}
use Rattle.mesh_audit.proofs.laws.one_finding_law.Goals as goal

pub returns : goal.returns
returns c = has_one_finding
