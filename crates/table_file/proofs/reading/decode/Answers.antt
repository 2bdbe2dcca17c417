use Rattle.table_file.proofs.FileCauses.{begins_some, stops_some, no_whole_file}
use Rattle.table_file.proofs.FileLaws.{one_file_table}
use Rattle.table_file.proofs.reading.decode.Goals as goal

pub head_fault-requires-clause-head : goal.head_fault-requires-clause-head
head_fault-requires-clause-head c = c.in-Err.ensures.fault.inside_head

pub head_fault-requires-clause-inside : goal.head_fault-requires-clause-inside
head_fault-requires-clause-inside c = c.in-Err.ensures.fault.inside

pub head_fault-requires-clause-begun : goal.head_fault-requires-clause-begun
head_fault-requires-clause-begun c = begins_some c.version_of-version.result c.args.bytes.now c.in-Err.place c.in-Err.ensures.fault.begun

pub head_fault-requires-clause-stopped : goal.head_fault-requires-clause-stopped
head_fault-requires-clause-stopped c =
    stops_some c.version_of-version.result c.args.bytes.now c.in-Err.place c.version_of-version.ensures.0 c.version_of-version.ensures.1
    c.in-Err.ensures.fault

pub returns-in-Err-clause-whole : goal.returns-in-Err-clause-whole
returns-in-Err-clause-whole c = λ w.
    absurd (no_whole_file c.args.bytes.now c.in-Err.place c.in-Err.ensures.fault.inside_head
    (stops_some c.version_of-version.result c.args.bytes.now c.in-Err.place c.version_of-version.ensures.0 c.version_of-version.ensures.1
    c.in-Err.ensures.fault) w)

pub returns-in_ok-read_version-in-2-clause-same : goal.returns-in_ok-read_version-in-2-clause-same
returns-in_ok-read_version-in-2-clause-same c = λ t s.
    one_file_table c.args.bytes.now t c.in_ok-read_version-in-2.field-0 s c.in_ok-read_version-in-2.ensures.table

pub returns-in_ok-read_version-in-3-clause-same : goal.returns-in_ok-read_version-in-3-clause-same
returns-in_ok-read_version-in-3-clause-same c = λ t s.
    one_file_table c.args.bytes.now t c.in_ok-read_version-in-3.field-0 s c.in_ok-read_version-in-3.ensures.table

pub returns-in_ok-read_version-in_default-clause-same : goal.returns-in_ok-read_version-in_default-clause-same
returns-in_ok-read_version-in_default-clause-same c = λ t s.
    one_file_table c.args.bytes.now t c.in_ok-read_version-in_default.field-0 s c.in_ok-read_version-in_default.ensures.table
