use Rattle.std.proofs.Common.{refl, arith, ◌≡◌, ◌<◌, ap, ◌∙◌, length, map, ◌+◌}
use Rattle.std.proofs.lemmas.List.{length-map, map_push, length_push}
use Rattle.std.proofs.lemmas.Result.{err_from_is_err_and}
use Rattle.iso_model.specs.Cells.{label_count}
use Rattle.table_file.proofs.Progress.{read_none, read_more, not_whole-extra}
use Rattle.table_file.proofs.Causes.{entry_cause, extra_cause}
use Rattle.table_file.proofs.RefusalLaws.{only_memory}
use Rattle.table_file.proofs.reading.read_table.Goals as goal

pub loop-label-init : goal.loop-label-init
loop-label-init g c = rw c.in_ok-entries.ensures.items (record { read = read_none c.args.kind g.row.D c.args.bytes.now c.requires.head; count = refl })

pub returns-in_err-entry-clause-whole : goal.returns-in_err-entry-clause-whole
returns-in_err-entry-clause-whole g c =
    let p = err_from_is_err_and c.from_residual-in_err-entry.result c.from_residual-in_err-entry.ensures.1 in
    let entries = map (λ entry. entry.items) c.loop-label.entries.items in
    let few : length entries < label_count c.args.kind g.row.D =
    omega (arith, c.labels-labels.ensures, length-map c.loop-label.entries.items (λ entry. entry.items), c.loop-label.invariant.count) in
    λ w.
    rw p.1
    (p.2
    ∙ only_memory c.args.kind g.row.D c.args.bytes.now entries c.loop-label.place c.in_err-entry.field-0.0 c.loop-label.invariant.read
    few c.in_err-entry.ensures.fault w)

pub loop-label-preserved : goal.loop-label-preserved
loop-label-preserved g c =
    let entries = map (λ entry. entry.items) c.loop-label.entries.items in
    let long : c.len.result ≡ length c.in_ok-entry.entry.items = omega (arith, c.len.ensures, c.in_ok-entry.entry.ok) in
    let more =
    read_more c.args.kind g.row.D c.args.bytes.now entries c.loop-label.place c.in_ok-entry.entry.items c.loop-label.invariant.read
    c.in_ok-entry.ensures.entry in
    record {
      read = rw (c.in_ok-push.ensures.items, map_push (λ entry. entry.items) c.loop-label.entries.items c.in_ok-entry.entry, long) more;
      count = rw c.in_ok-push.ensures.items (length_push c.loop-label.entries.items c.in_ok-entry.entry ∙ ap (λ n. n + 1) c.loop-label.invariant.count);
    }

pub returns-then-place-bytes-clause-whole : goal.returns-then-place-bytes-clause-whole
returns-then-place-bytes-clause-whole g c =
    let entries = map (λ entry. entry.items) c.loop-label.entries.items in
    let all : length entries ≡ label_count c.args.kind g.row.D =
    omega (
      arith,
      c.labels-labels.ensures,
      length-map c.loop-label.entries.items (λ entry. entry.items),
      c.loop-label.invariant.count,
      c.loop-label-test.false,
      c.loop-label.auto._label-end,
    )
    in
    λ w. absurd (not_whole-extra c.args.kind g.row.D c.args.bytes.now entries c.loop-label.place c.loop-label.invariant.read all c.if-place-bytes.true w)

pub returns-in_err-entry-clause-cause : goal.returns-in_err-entry-clause-cause
returns-in_err-entry-clause-cause g c =
    let p = err_from_is_err_and c.from_residual-in_err-entry.result c.from_residual-in_err-entry.ensures.1 in
    let entries = map (λ entry. entry.items) c.loop-label.entries.items in
    let few : length entries < label_count c.args.kind g.row.D =
    omega (arith, c.labels-labels.ensures, length-map c.loop-label.entries.items (λ entry. entry.items), c.loop-label.invariant.count) in
    rw (p.1, p.2)
    (entry_cause c.args.kind g.row.D c.args.bytes.now entries c.loop-label.place c.in_err-entry.field-0.0 c.loop-label.invariant.read few
    c.in_err-entry.ensures.fault)

pub returns-then-place-bytes-clause-cause : goal.returns-then-place-bytes-clause-cause
returns-then-place-bytes-clause-cause g c =
    let entries = map (λ entry. entry.items) c.loop-label.entries.items in
    let all : length entries ≡ label_count c.args.kind g.row.D =
    omega (
      arith,
      c.labels-labels.ensures,
      length-map c.loop-label.entries.items (λ entry. entry.items),
      c.loop-label.invariant.count,
      c.loop-label-test.false,
      c.loop-label.auto._label-end,
    )
    in
    extra_cause c.args.kind g.row.D c.args.bytes.now entries c.loop-label.place c.loop-label.invariant.read all c.if-place-bytes.true
