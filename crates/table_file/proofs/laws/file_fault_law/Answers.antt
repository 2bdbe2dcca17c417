use Rattle.table_file.proofs.FileFaultLaws.{faults_exclude, same_file_fault}
use Rattle.table_file.proofs.laws.file_fault_law.Goals as goal

pub returns-clause-one : goal.returns-clause-one
returns-clause-one c = same_file_fault

pub returns-clause-excluded : goal.returns-clause-excluded
returns-clause-excluded c = faults_exclude
