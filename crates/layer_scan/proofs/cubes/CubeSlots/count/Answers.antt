use Rattle.std.proofs.Common.{sym, ◌∙◌, ◌*◌, ◌+◌}
use Rattle.grid_rows.specs.Planes.{no_edge}
use Rattle.layer_scan.proofs.CubeEdges.{all_counted, cube_edges_counted}
use Rattle.layer_scan.proofs.SlotsTold.{few_around, few_word}
use Rattle.layer_scan.proofs.cubes.CubeSlots.count.Goals as goal

pub count_rows-requires-clause-few : goal.count_rows-requires-clause-few
count_rows-requires-clause-few c =
    let t = c.requires.told in few_around t.0 t.1 (4 * t.2) t.3 t.4 c.args.self.now.below t.5.fits t.5.few t.5.below

pub count_rows-requires-2-clause-few : goal.count_rows-requires-2-clause-few
count_rows-requires-2-clause-few c =
    let t = c.requires.told in few_around t.0 t.1 (4 * t.2 + 2) t.3 t.4 c.args.self.now.upright t.5.fits t.5.few t.5.upright

pub count_rows-requires-3-clause-few : goal.count_rows-requires-3-clause-few
count_rows-requires-3-clause-few c =
    let t = c.requires.told in few_around t.0 t.1 (4 * (t.2 + 1)) t.3 t.4 c.args.self.now.lower t.5.fits t.5.few t.5.lower

pub count_centres-requires-clause-few : goal.count_centres-requires-clause-few
count_centres-requires-clause-few c = λ own k h.
    let t = c.requires.told in few_word t.0 _ _ _ t.4 _ t.5.fits t.5.few (t.5.centres (sym t.5.kind ∙ own) k h)

pub returns : goal.returns
returns c = record {
  numbers = λ v rows s i w tells lt.
      cube_edges_counted v rows s i w c.args.place c.args.self.now tells c.requires.place c.count_centres.new.numbers
      (all_counted v rows s i w c.args.place c.args.self.now c.count_rows.new.numbers c.count_rows-2.new.numbers c.count_rows-3.new.numbers
      c.count_centres.new.numbers tells c.count_rows.ensures.ranks c.count_rows-2.ensures.ranks c.count_rows-2.ensures.below c.count_rows-3.ensures.ranks
      c.count_rows-3.ensures.below c.count_centres.ensures.ranks c.count_centres.ensures.below c.count_centres.ensures.others)
      lt;
}
