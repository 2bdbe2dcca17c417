-- The tests of corners, sides and edges of each kind, passed.
use Rattle.std.proofs.Common.{◌≡◌, true, refl}
use Rattle.iso_model.specs.declared.Kind.TheVariants.{Cube, Simplex, Pyramid}
use Rattle.lists.specs.Orders.{numbers}
use Rattle.split_checks.specs.CornerTests.{all_corners_fit}

pub squares_fit : all_corners_fit Cube 2 (numbers 1) ≡ true
squares_fit = refl

pub cubes_fit : all_corners_fit Cube 3 (numbers 1) ≡ true
cubes_fit = refl

pub hypercubes_fit : all_corners_fit Cube 4 (numbers 1) ≡ true
hypercubes_fit = refl

pub triangles_fit : all_corners_fit Simplex 2 (numbers 2) ≡ true
triangles_fit = refl

pub tetrahedra_fit : all_corners_fit Simplex 3 (numbers 6) ≡ true
tetrahedra_fit = refl

pub four_axes_fit : all_corners_fit Simplex 4 (numbers 24) ≡ true
four_axes_fit = refl

pub pyramids_fit : all_corners_fit Pyramid 3 (numbers 6) ≡ true
pyramids_fit = refl
