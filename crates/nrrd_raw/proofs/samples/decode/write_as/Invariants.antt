use Rattle.std.specs.List.{AllWithin}
use Rattle.nrrd_raw.specs.Forms.{HasValues}
use Rattle.nrrd_raw.specs.Shapes.{InRange}
use Rattle.nrrd_raw.proofs.samples.decode.write_as.Given as goal

abbrev pub invariant-loop-i : goal.invariant-loop-i
invariant-loop-i g l = record {
  range : AllWithin InRange l.samples 0 l.i;
  values : HasValues g.F.Form.value g.F.Form.WIDTH l.piece l.samples l.i;
}
