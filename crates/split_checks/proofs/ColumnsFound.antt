-- Each rank of each kind is the canonical cell, its axes in another order.
use Rattle.std.proofs.Common.{◌≡◌, true, refl}
use Rattle.iso_model.specs.declared.Kind.TheVariants.{Cube, Simplex, Pyramid}
use Rattle.lists.specs.Orders.{numbers}
use Rattle.split_checks.specs.ColumnTests.{all_placed}

pub squares_placed : all_placed Cube 2 (numbers 1) ≡ true
squares_placed = refl

pub cubes_placed : all_placed Cube 3 (numbers 1) ≡ true
cubes_placed = refl

pub hypercubes_placed : all_placed Cube 4 (numbers 1) ≡ true
hypercubes_placed = refl

pub triangles_placed : all_placed Simplex 2 (numbers 2) ≡ true
triangles_placed = refl

pub tetrahedra_placed : all_placed Simplex 3 (numbers 6) ≡ true
tetrahedra_placed = refl

pub four_axes_placed : all_placed Simplex 4 (numbers 24) ≡ true
four_axes_placed = refl

pub pyramids_placed : all_placed Pyramid 3 (numbers 6) ≡ true
pyramids_placed = refl
