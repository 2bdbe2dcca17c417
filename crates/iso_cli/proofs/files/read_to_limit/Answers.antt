use Rattle.std.proofs.Common.{◌≡◌, ◌-◌, ◌+◌, ◌<◌, ◌≤◌, ◌++◌, ◌∙◌, ap, arith, length, List, subst, ℕ}
use Rattle.std.proofs.lemmas.Grind.{common_steps}
use Rattle.iso_formats.specs.TableFile2.{limit_of}
use Rattle.iso_cli.specs.declared.status.Status.{Status}
use Rattle.iso_cli.specs.Rests.{IsOpenTable}
use Rattle.iso_cli.specs.Shelves.{BlamesWhile}
use Rattle.iso_cli.specs.Statuses.{IsShelfFault}
use Rattle.iso_cli.proofs.FileTaking.{front_below, front_more, AreFrontOf_longer, TakesSuch_more, front_all, limit_least, open_below, open_more}
use Rattle.iso_cli.proofs.Refusing.{IfErr-more}
use Rattle.iso_cli.proofs.files.read_to_limit.Goals as goal

pub returns-in_err-bytes-clause-undecided : goal.returns-in_err-bytes-clause-undecided
returns-in_err-bytes-clause-undecided g c =
    IfErr-more c.from_residual.result (λ status. status ≡ c.in_err-bytes.field-0.0)
    (BlamesWhile IsOpenTable (g.S.Shelf.rest c.args.shelf.now) (g.S.Shelf.rest c.read_front.new.shelf)) c.from_residual.ensures.1
    (λ status is fault.
    let taken = c.in_err-bytes.ensures.undecided (subst (λ (s : Status). IsShelfFault s) is fault) in
    (taken.0, open_below taken.0 taken.1, taken.2))

pub returns-then-len-le-TABLE_LIMIT-clause-front :
    goal.returns-then-len-le-TABLE_LIMIT-clause-front
returns-then-len-le-TABLE_LIMIT-clause-front g c =
    let bytes = c.in_ok-bytes.bytes.items in
    let few : length bytes ≤ 1073741824 = grind (arith, common_steps) in
    AreFrontOf_longer (g.S.Shelf.rest c.args.shelf.now) bytes 1073741825 (limit_of bytes + 1) c.in_ok-bytes.ensures.front (omega (arith, few))
    (omega (arith, limit_least bytes))

pub returns-in_err-more-clause-undecided : goal.returns-in_err-more-clause-undecided
returns-in_err-more-clause-undecided g c =
    let bytes = c.in_ok-bytes.bytes.items in
    let count : length bytes ≡ 1073741825 = grind (arith, common_steps) in
    let most : c.table_limit.result ≡ limit_of bytes = c.table_limit.ensures ∙ ap (λ (bs : List ℕ). limit_of bs) c.deref.ensures.value in
    IfErr-more c.from_residual-in_err-more.result (λ status. status ≡ c.in_err-more.field-0.0)
    (BlamesWhile IsOpenTable (g.S.Shelf.rest c.args.shelf.now) (g.S.Shelf.rest c.read_front-2.new.shelf))
    c.from_residual-in_err-more.ensures.1
    (λ status is fault.
    TakesSuch_more (λ (ys : List ℕ). length ys < c.table_limit.result - 1073741824) IsOpenTable (g.S.Shelf.rest c.args.shelf.now)
    (g.S.Shelf.rest c.read_front.new.shelf) (g.S.Shelf.rest c.read_front-2.new.shelf) bytes
    (λ ys short. open_more bytes ys c.table_limit.result count most short) c.in_ok-bytes.ensures.came
    (c.in_err-more.ensures.undecided (subst (λ (s : Status). IsShelfFault s) is fault)))

pub returns-clause-front : goal.returns-clause-front
returns-clause-front g c =
    let bytes = c.in_ok-bytes.bytes.items in
    let count : length bytes ≡ 1073741825 = grind (arith, common_steps) in
    let most : c.table_limit.result ≡ limit_of bytes = c.table_limit.ensures ∙ ap (λ (bs : List ℕ). limit_of bs) c.deref.ensures.value in
    let joined : c.extend_from_slice.new.self.items ≡ bytes ++ c.in_ok-more.more.items = grind (arith, common_steps) in
    front_all (g.S.Shelf.rest c.args.shelf.now) (g.S.Shelf.rest c.read_front.new.shelf) bytes c.in_ok-more.more.items
    c.extend_from_slice.new.self.items c.table_limit.result count most c.in_ok-bytes.ensures.came c.in_ok-more.ensures.front joined

pub returns-in_err-more-clause-taken : goal.returns-in_err-more-clause-taken
returns-in_err-more-clause-taken g c =
    let bytes = c.in_ok-bytes.bytes.items in
    let count : length bytes ≡ 1073741825 = grind (arith, common_steps) in
    let most : c.table_limit.result ≡ limit_of bytes = c.table_limit.ensures ∙ ap (λ (bs : List ℕ). limit_of bs) c.deref.ensures.value in
    front_more (g.S.Shelf.rest c.args.shelf.now) (g.S.Shelf.rest c.read_front.new.shelf) (g.S.Shelf.rest c.read_front-2.new.shelf) bytes
    c.table_limit.result count most c.in_ok-bytes.ensures.came c.read_front-2.ensures.taken

pub returns-in_err-extend_from_slice-clause-taken : goal.returns-in_err-extend_from_slice-clause-taken
returns-in_err-extend_from_slice-clause-taken g c =
    let bytes = c.in_ok-bytes.bytes.items in
    let count : length bytes ≡ 1073741825 = grind (arith, common_steps) in
    let most : c.table_limit.result ≡ limit_of bytes = c.table_limit.ensures ∙ ap (λ (bs : List ℕ). limit_of bs) c.deref.ensures.value in
    front_more (g.S.Shelf.rest c.args.shelf.now) (g.S.Shelf.rest c.read_front.new.shelf) (g.S.Shelf.rest c.read_front-2.new.shelf) bytes
    c.table_limit.result count most c.in_ok-bytes.ensures.came c.read_front-2.ensures.taken

pub returns-clause-taken : goal.returns-clause-taken
returns-clause-taken g c =
    let bytes = c.in_ok-bytes.bytes.items in
    let count : length bytes ≡ 1073741825 = grind (arith, common_steps) in
    let most : c.table_limit.result ≡ limit_of bytes = c.table_limit.ensures ∙ ap (λ (bs : List ℕ). limit_of bs) c.deref.ensures.value in
    front_more (g.S.Shelf.rest c.args.shelf.now) (g.S.Shelf.rest c.read_front.new.shelf) (g.S.Shelf.rest c.read_front-2.new.shelf) bytes
    c.table_limit.result count most c.in_ok-bytes.ensures.came c.read_front-2.ensures.taken

pub returns-in_err-bytes-clause-taken : goal.returns-in_err-bytes-clause-taken
returns-in_err-bytes-clause-taken g c = front_below (g.S.Shelf.rest c.args.shelf.now) (g.S.Shelf.rest c.read_front.new.shelf) c.read_front.ensures.taken

pub returns-then-len-le-TABLE_LIMIT-clause-taken : goal.returns-then-len-le-TABLE_LIMIT-clause-taken
returns-then-len-le-TABLE_LIMIT-clause-taken g c = front_below (g.S.Shelf.rest c.args.shelf.now) (g.S.Shelf.rest c.read_front.new.shelf) c.read_front.ensures.taken
