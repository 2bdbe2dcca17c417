-- The midpoints of the edges of one cube, found: in each split the cells of a cube have an edge at every point of the cube that can be a midpoint.
use Rattle.std.proofs.Common.{◌≡◌, true, refl}
use Rattle.iso_model.specs.declared.Kind.TheVariants.{Cube, Simplex, Pyramid}
use Rattle.edge_middles.specs.MiddleTests.{edges_at_middles, has_all_middles, lie_inside}

pub squares : has_all_middles Cube 2 ≡ true
squares = refl

pub cubes : has_all_middles Cube 3 ≡ true
cubes = refl

pub triangles : has_all_middles Simplex 2 ≡ true
triangles = refl

pub tetrahedra : has_all_middles Simplex 3 ≡ true
tetrahedra = refl

pub pyramids : has_all_middles Pyramid 3 ≡ true
pyramids = refl

pub hypercubes : has_all_middles Cube 4 ≡ true
hypercubes = refl

pub four_simplices : has_all_middles Simplex 4 ≡ true
four_simplices = refl

pub squares_inside : lie_inside Cube 2 ≡ true
squares_inside = refl

pub cubes_inside : lie_inside Cube 3 ≡ true
cubes_inside = refl

pub hypercubes_inside : lie_inside Cube 4 ≡ true
hypercubes_inside = refl

pub triangles_inside : lie_inside Simplex 2 ≡ true
triangles_inside = refl

pub tetrahedra_inside : lie_inside Simplex 3 ≡ true
tetrahedra_inside = refl

pub four_simplices_inside : lie_inside Simplex 4 ≡ true
four_simplices_inside = refl

pub pyramids_inside : lie_inside Pyramid 3 ≡ true
pyramids_inside = refl

pub squares_at_middles : edges_at_middles Cube 2 ≡ true
squares_at_middles = refl

pub cubes_at_middles : edges_at_middles Cube 3 ≡ true
cubes_at_middles = refl

pub hypercubes_at_middles : edges_at_middles Cube 4 ≡ true
hypercubes_at_middles = refl

pub triangles_at_middles : edges_at_middles Simplex 2 ≡ true
triangles_at_middles = refl

pub tetrahedra_at_middles : edges_at_middles Simplex 3 ≡ true
tetrahedra_at_middles = refl

pub four_simplices_at_middles : edges_at_middles Simplex 4 ≡ true
four_simplices_at_middles = refl

pub pyramids_at_middles : edges_at_middles Pyramid 3 ≡ true
pyramids_at_middles = refl
