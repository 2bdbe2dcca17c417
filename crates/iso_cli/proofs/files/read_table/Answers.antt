use Rattle.std.proofs.Common.{◌≡◌, ℕ, List, ◌≤◌, ◌+◌, length, drop, take, Some, subst, arith, sym, ◌∙◌, ◌<◌}
use Rattle.std.proofs.lemmas.Grind.{common_steps}
use Rattle.iso_formats.specs.TableFile2.{IsFileTooLong, IsTableFile, limit_of}
use Rattle.table_file.specs.Reading.{HasCause, table_in}
use Rattle.iso_cli.specs.declared.status.Status.{Status}
use Rattle.iso_cli.specs.StatusCauses.{table_status}
use Rattle.iso_cli.specs.Refusals.{FileHas, IsFileOf, IsRefusedForm, too_long}
use Rattle.iso_cli.specs.Statuses.{IsDecided}
use Rattle.iso_cli.specs.Rests.{LeavesTableFile}
use Rattle.iso_cli.proofs.Interrupting.{left_behind, reading_leaves}
use Rattle.iso_cli.proofs.Refusing.{IfErr-more, fault_refused, file_has, known}
use Rattle.iso_cli.proofs.FileTaking.{file_whole, front-whole, long_file}
use Rattle.iso_cli.proofs.files.read_table.Goals as goal

pub returns-clause-held : goal.returns-clause-held
returns-clause-held g c = record {
  held =
      file_has (g.S.Shelf.files c.args.shelf.now) c.args.name.now (g.S.Shelf.rest c.begin.new.self)
      (λ bytes. IsFileOf bytes (table_in c.in_ok-decode.field-0)) c.in_ok-begin.ensures.begun
      (λ bytes there rest.
      let few : length c.in_ok-bytes.bytes.items ≤ limit_of c.in_ok-bytes.bytes.items = grind (arith, common_steps) in
      let same =
      front-whole (g.S.Shelf.files c.args.shelf.now) c.args.name.now bytes (g.S.Shelf.rest c.begin.new.self) (limit_of c.in_ok-bytes.bytes.items)
      c.in_ok-bytes.bytes.items there c.in_ok-begin.ensures.begun c.in_ok-bytes.ensures.front few in
      record {
        few = subst (λ (xs : List ℕ). ¬ IsFileTooLong xs) same (λ long. omega (arith, few, long));
        spelled =
            subst (λ (xs : List ℕ). IsTableFile xs (table_in c.in_ok-decode.field-0)) (c.deref-2.ensures.value ∙ same)
            c.in_ok-decode.ensures.table;
      });
  whole = file_whole _ _ c.in_ok-decode.ensures.table;
}

pub returns-then-len-table_limit-clause-refused : goal.returns-then-len-table_limit-clause-refused
returns-then-len-table_limit-clause-refused g c = λ decided.
    file_has (g.S.Shelf.files c.args.shelf.now) c.args.name.now (g.S.Shelf.rest c.begin.new.self) _ c.in_ok-begin.ensures.begun
    (λ bytes there rest.
    let front = c.in_ok-bytes.bytes.items in
    let many : limit_of front < length front = grind (arith, common_steps) in
    let is = known (g.S.Shelf.rest c.begin.new.self) bytes (λ bs. front ≡ take (limit_of front + 1) bs) rest c.in_ok-bytes.ensures.front in
    too_long (long_file bytes front is many).1)

pub returns-in_err-decode-clause-refused : goal.returns-in_err-decode-clause-refused
returns-in_err-decode-clause-refused g c =
    let refused : IsDecided (table_status c.in_err-decode.field-0.0)
    → FileHas (g.S.Shelf.files c.args.shelf.now) c.args.name.now (λ bytes. IsRefusedForm bytes (table_status c.in_err-decode.field-0.0)) =
    λ decided.
    file_has (g.S.Shelf.files c.args.shelf.now) c.args.name.now (g.S.Shelf.rest c.begin.new.self)
    (λ bytes. IsRefusedForm bytes (table_status c.in_err-decode.field-0.0)) c.in_ok-begin.ensures.begun
    (λ bytes there rest.
    let few : length c.in_ok-bytes.bytes.items ≤ limit_of c.in_ok-bytes.bytes.items = grind (arith, common_steps) in
    let same =
    front-whole (g.S.Shelf.files c.args.shelf.now) c.args.name.now bytes (g.S.Shelf.rest c.begin.new.self) (limit_of c.in_ok-bytes.bytes.items)
    c.in_ok-bytes.bytes.items there c.in_ok-begin.ensures.begun c.in_ok-bytes.ensures.front few in
    fault_refused c.in_err-decode.field-0.0 bytes (subst (λ (xs : List ℕ). ¬ IsFileTooLong xs) same (λ long. omega (arith, few, long)))
    (subst (λ (xs : List ℕ). HasCause xs c.in_err-decode.field-0.0) (c.deref-2.ensures.value ∙ same) c.in_err-decode.ensures.cause) decided) in
    IfErr-more c.from_residual-in_err-decode.result (λ status. status ≡ table_status c.in_err-decode.field-0.0) _ c.from_residual-in_err-decode.ensures.1
    (λ status is.
    subst (λ (s : Status). IsDecided s → FileHas (g.S.Shelf.files c.args.shelf.now) c.args.name.now (λ bytes. IsRefusedForm bytes s)) (sym is)
    refused)

pub returns-then-len-table_limit-clause-left : goal.returns-then-len-table_limit-clause-left
returns-then-len-table_limit-clause-left g c =
    let front = c.in_ok-bytes.bytes.items in
    let many : limit_of front < length front = grind (arith, common_steps) in
    record {
      long =
          file_has (g.S.Shelf.files c.args.shelf.now) c.args.name.now (g.S.Shelf.rest c.begin.new.self)
          (λ bytes. g.S.Shelf.rest c.read_to_limit.new.shelf ≡ Some (drop (limit_of bytes + 1) bytes)) c.in_ok-begin.ensures.begun
          (λ bytes there rest.
          let is = known (g.S.Shelf.rest c.begin.new.self) bytes (λ bs. front ≡ take (limit_of front + 1) bs) rest c.in_ok-bytes.ensures.front in
          let same = (long_file bytes front is many).0 in
          let count : length front ≡ limit_of bytes + 1 = omega (arith, many, same, c.in_ok-bytes.ensures.few) in
          left_behind bytes front (g.S.Shelf.rest c.begin.new.self) (g.S.Shelf.rest c.read_to_limit.new.shelf) (limit_of bytes + 1) rest
          c.in_ok-bytes.ensures.came count);
      undecided = λ fault. absurd fault;
    }

pub returns-in_err-bytes-clause-left : goal.returns-in_err-bytes-clause-left
returns-in_err-bytes-clause-left g c =
    let left = LeavesTableFile (g.S.Shelf.files c.args.shelf.now) c.args.name.now (g.S.Shelf.rest c.read_to_limit.new.shelf) in
    IfErr-more c.from_residual-in_err-bytes.result (λ status. status ≡ c.in_err-bytes.field-0.0) left c.from_residual-in_err-bytes.ensures.1
    (λ status is.
    subst (λ (s : Status). left s) (sym is)
    (reading_leaves (g.S.Shelf.files c.args.shelf.now) c.args.name.now (g.S.Shelf.rest c.begin.new.self)
    (g.S.Shelf.rest c.read_to_limit.new.shelf) c.in_err-bytes.field-0.0 c.in_ok-begin.ensures.begun c.in_err-bytes.ensures.refused
    c.in_err-bytes.ensures.undecided))
