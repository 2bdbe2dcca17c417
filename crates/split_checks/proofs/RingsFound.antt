-- The ring tests of each kind of three dimensions, passed.
use Rattle.std.proofs.Common.{◌≡◌, true, refl}
use Rattle.iso_model.specs.declared.Kind.TheVariants.{Cube, Simplex, Pyramid}
use Rattle.lists.specs.Orders.{numbers}
use Rattle.split_checks.specs.RingTests.{all_rings}

pub cubes_ring : all_rings Cube 3 (numbers 1) ≡ true
cubes_ring = refl

pub tetrahedra_ring : all_rings Simplex 3 (numbers 6) ≡ true
tetrahedra_ring = refl

pub pyramids_ring : all_rings Pyramid 3 (numbers 6) ≡ true
pyramids_ring = refl
