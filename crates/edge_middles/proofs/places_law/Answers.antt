use Rattle.std.specs.Prelude.{length}
use Rattle.iso_model.proofs.DimensionLaws.{dimension_cases}
use Rattle.edge_middles.proofs.ListedEdges.{by_middles}
use Rattle.edge_middles.proofs.PlacesOfEdges.{has_place}
use Rattle.edge_middles.proofs.places_law.Goals as goal

pub returns-clause-listed : goal.returns-clause-listed
returns-clause-listed c = λ v fits. by_middles v fits (dimension_cases v.kind (length v.sizes) fits)

pub returns-clause-places : goal.returns-clause-places
returns-clause-places c = λ v fits. has_place v fits (dimension_cases v.kind (length v.sizes) fits)
