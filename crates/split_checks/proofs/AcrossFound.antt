-- What stands across each facet, found, and joined by a seam.
use Rattle.std.proofs.Common.{◌≡◌, true, refl}
use Rattle.std.specs.List.{range_with_len}
use Rattle.iso_model.specs.declared.Kind.TheVariants.{Cube, Simplex, Pyramid}
use Rattle.lists.specs.Orders.{numbers}
use Rattle.split_checks.specs.AcrossTests.{all_across, all_lead_back, all_joined}

pub squares_across : all_across Cube 2 (numbers 1) ≡ true
squares_across = refl

pub squares_joined : all_joined Cube 2 (numbers 1) ≡ true
squares_joined = refl

pub squares_lead_back : all_lead_back Cube 2 ≡ true
squares_lead_back = refl

pub cubes_across : all_across Cube 3 (numbers 1) ≡ true
cubes_across = refl

pub cubes_joined : all_joined Cube 3 (numbers 1) ≡ true
cubes_joined = refl

pub cubes_lead_back : all_lead_back Cube 3 ≡ true
cubes_lead_back = refl

pub hypercubes_across : all_across Cube 4 (numbers 1) ≡ true
hypercubes_across = refl

pub hypercubes_joined : all_joined Cube 4 (numbers 1) ≡ true
hypercubes_joined = refl

pub hypercubes_lead_back : all_lead_back Cube 4 ≡ true
hypercubes_lead_back = refl

pub triangles_across : all_across Simplex 2 (numbers 2) ≡ true
triangles_across = refl

pub triangles_joined : all_joined Simplex 2 (numbers 2) ≡ true
triangles_joined = refl

pub triangles_lead_back : all_lead_back Simplex 2 ≡ true
triangles_lead_back = refl

pub tetrahedra_across : all_across Simplex 3 (numbers 6) ≡ true
tetrahedra_across = refl

pub tetrahedra_joined : all_joined Simplex 3 (numbers 6) ≡ true
tetrahedra_joined = refl

pub tetrahedra_lead_back : all_lead_back Simplex 3 ≡ true
tetrahedra_lead_back = refl

pub four_axes_0_across : all_across Simplex 4 (range_with_len 0 6) ≡ true
four_axes_0_across = refl

pub four_axes_6_across : all_across Simplex 4 (range_with_len 6 6) ≡ true
four_axes_6_across = refl

pub four_axes_12_across : all_across Simplex 4 (range_with_len 12 6) ≡ true
four_axes_12_across = refl

pub four_axes_18_across : all_across Simplex 4 (range_with_len 18 6) ≡ true
four_axes_18_across = refl

pub four_axes_0_joined : all_joined Simplex 4 (range_with_len 0 12) ≡ true
four_axes_0_joined = refl

pub four_axes_12_joined : all_joined Simplex 4 (range_with_len 12 12) ≡ true
four_axes_12_joined = refl

pub four_axes_lead_back : all_lead_back Simplex 4 ≡ true
four_axes_lead_back = refl

pub pyramids_across : all_across Pyramid 3 (numbers 6) ≡ true
pyramids_across = refl

pub pyramids_joined : all_joined Pyramid 3 (numbers 6) ≡ true
pyramids_joined = refl

pub pyramids_lead_back : all_lead_back Pyramid 3 ≡ true
pyramids_lead_back = refl
