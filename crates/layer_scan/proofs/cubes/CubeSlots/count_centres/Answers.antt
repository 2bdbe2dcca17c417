use Rattle.layer_scan.proofs.cubes.CubeSlots.count_centres.Goals as goal

pub count_pairs-requires-clause-few : goal.count_pairs-requires-clause-few
count_pairs-requires-clause-few c = c.requires.few c.in-Pyramid.is
