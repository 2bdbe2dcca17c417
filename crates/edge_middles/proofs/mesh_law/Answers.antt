use Rattle.std.specs.Prelude.{length}
use Rattle.iso_model.proofs.DimensionLaws.{dimension_cases}
use Rattle.edge_middles.proofs.MeshMiddles.{between_heights, counts_cell_edges, cube_by_cube, has_counted, simplices_by_cubes, vertices_by_middles}
use Rattle.edge_middles.proofs.MiddleVertices.{vertex_along, vertex_to_centre}
use Rattle.edge_middles.proofs.mesh_law.Goals as goal

pub returns-clause-heights : goal.returns-clause-heights
returns-clause-heights c = λ v fits. between_heights v fits (dimension_cases v.kind (length v.sizes) fits)

pub returns-clause-vertices : goal.returns-clause-vertices
returns-clause-vertices c = λ v t fits. vertices_by_middles v t fits (dimension_cases v.kind (length v.sizes) fits)

pub returns-clause-along : goal.returns-clause-along
returns-clause-along c = vertex_along

pub returns-clause-to_centre : goal.returns-clause-to_centre
returns-clause-to_centre c = vertex_to_centre

pub returns-clause-edges : goal.returns-clause-edges
returns-clause-edges c = λ v fits. counts_cell_edges v fits (dimension_cases v.kind (length v.sizes) fits)

pub returns-clause-cell : goal.returns-clause-cell
returns-clause-cell c = λ v t fits. has_counted v t fits (dimension_cases v.kind (length v.sizes) fits)

pub returns-clause-cubes : goal.returns-clause-cubes
returns-clause-cubes c = cube_by_cube

pub returns-clause-simplices : goal.returns-clause-simplices
returns-clause-simplices c = λ v t fits. simplices_by_cubes v t fits (dimension_cases v.kind (length v.sizes) fits)
