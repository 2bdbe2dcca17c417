use Rattle.iso_model.specs.Cells.{label_count}
use Rattle.iso_model.specs.Seams.{seams}
use Rattle.table_faults.proofs.OneFaultList.{one_list}
use Rattle.table_faults.proofs.laws.one_list_law.Goals as goal

pub returns : goal.returns
returns c = λ t fs gs one two. one_list (seams t.kind t.dimension) t (label_count t.kind t.dimension) fs gs one two
