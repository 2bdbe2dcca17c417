-- The share tests of each kind, passed.
use Rattle.std.proofs.Common.{◌≡◌, true, refl}
use Rattle.std.specs.List.{range_with_len}
use Rattle.iso_model.specs.declared.Kind.TheVariants.{Cube, Simplex, Pyramid}
use Rattle.lists.specs.Orders.{numbers}
use Rattle.split_checks.specs.ShareTests.{all_share}

pub squares_share : all_share Cube 2 (numbers 1) ≡ true
squares_share = refl

pub cubes_share : all_share Cube 3 (numbers 1) ≡ true
cubes_share = refl

pub hypercubes_share : all_share Cube 4 (numbers 1) ≡ true
hypercubes_share = refl

pub triangles_share : all_share Simplex 2 (numbers 2) ≡ true
triangles_share = refl

pub tetrahedra_share : all_share Simplex 3 (numbers 6) ≡ true
tetrahedra_share = refl

pub four_axes_0_share : all_share Simplex 4 (range_with_len 0 3) ≡ true
four_axes_0_share = refl

pub four_axes_3_share : all_share Simplex 4 (range_with_len 3 3) ≡ true
four_axes_3_share = refl

pub four_axes_6_share : all_share Simplex 4 (range_with_len 6 3) ≡ true
four_axes_6_share = refl

pub four_axes_9_share : all_share Simplex 4 (range_with_len 9 3) ≡ true
four_axes_9_share = refl

pub four_axes_12_share : all_share Simplex 4 (range_with_len 12 3) ≡ true
four_axes_12_share = refl

pub four_axes_15_share : all_share Simplex 4 (range_with_len 15 3) ≡ true
four_axes_15_share = refl

pub four_axes_18_share : all_share Simplex 4 (range_with_len 18 3) ≡ true
four_axes_18_share = refl

pub four_axes_21_share : all_share Simplex 4 (range_with_len 21 3) ≡ true
four_axes_21_share = refl

pub pyramids_share : all_share Pyramid 3 (numbers 6) ≡ true
pyramids_share = refl
