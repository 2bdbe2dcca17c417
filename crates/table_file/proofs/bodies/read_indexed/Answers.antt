use Rattle.std.proofs.Common.{arith, refl, sym, ap, ◌∙◌, ◌≡◌, ◌≢◌, ◌*◌, ◌<◌, ◌+◌, ◌++◌, ◌∷◌, [], subst, length, map, List, ℕ}
use Rattle.std.proofs.lemmas.List.{length-map, map_push, length_push}
use Rattle.iso_model.specs.Tables.{Table}
use Rattle.iso_formats.specs.TableFile2.{SpellsTable2, label_at, stated}
use Rattle.lists.proofs.Tests.{equal_of, of_equal}
use Rattle.iso_formats.proofs.TableReadLaws.{HasReadOn, has_read_empty, has_read_all}
use Rattle.table_file.proofs.TupleRows.{small_counts}
use Rattle.table_file.proofs.BodyLaws.{all_small}
use Rattle.std.proofs.lemmas.Bool.{le-ltb}
use Rattle.table_file.proofs.IndexedReading.{started, next_body_of, one_more_body, extra_behind, not_both}
use Rattle.table_file.proofs.bodies.read_indexed.Goals as goal
use Rattle.table_file.proofs.bodies.read_indexed.Goals.{then-number-records, else-number-records}
use Rattle.table_file.proofs.bodies.read_indexed.Goals.{then-filled+in_ok-entry+in_ok-push, else-filled+in_ok-push-2}

pub loop-label-init : goal.loop-label-init
loop-label-init g c =
    rw (c.in_ok-entries.ensures.items, c.index_end-place.ensures)
    (record {
      read =
          started c.args.kind g.row.D c.args.bytes.now c.in_ok-records.records c.requires.head
          (all_small c.args.bytes.now (λ i. let f = c.type_inv.bytes i in omega (arith, f))) c.in_ok-records.ensures.stated c.in_ok-records.ensures.inside
          c.in_ok-records.ensures.right;
      count = refl;
      inside = c.in_ok-records.ensures.inside;
      most = omega arith;
    })

pub index_end-place-requires : goal.index_end-place-requires
index_end-place-requires g c =
    omega (arith, (small_counts c.args.kind g.row.D c.requires.head.fits).labels, c.in_ok-records.ensures.labels)

pub read_body-requires : goal.read_body-requires
read_body-requires g c =
    let entries = map (λ entry. entry.items) c.loop-label.entries.items in
    let counted : c.loop-label.number < stated c.args.bytes.now = elim c.if-number-records.branch [
      | then-number-records w ↦ omega (arith, w.if-number-records.true, c.in_ok-records.ensures.stated)
      | else-number-records w ↦ absurd (not_both c.if-number-records.filled c.if-filled.true (w.filled-is ∙ le-ltb _ _ w.if-number-records.false))
    ] in
    let small = small_counts c.args.kind g.row.D c.requires.head.fits in
    let next =
    next_body_of c.args.kind g.row.D c.args.bytes.now entries c.loop-label.number c.loop-label.place c.loop-label.invariant.read counted
    (omega (arith, small.labels, c.in_ok-records.ensures.labels, c.in_ok-records.ensures.stated)) in
    (omega (arith, small.dimension), (c.requires.few, (c.in_ok-records.ensures.stated, next)))

pub loop-label-preserved : goal.loop-label-preserved
loop-label-preserved g c =
    let bytes = c.args.bytes.now in
    let items = c.loop-label.entries.items in
    let entries = map (λ entry. entry.items) items in
    let number = c.loop-label.number in
    let long : length entries ≡ c.loop-label.label = length-map items (λ entry. entry.items) ∙ c.loop-label.invariant.count in
    elim c.if-filled.branch [
      | then-filled+in_ok-entry+in_ok-push w ↦
          let record_here : (number < stated bytes) × (label_at bytes number ≡ length entries) = elim c.if-number-records.branch [
            | then-number-records v ↦ (
              omega (arith, v.if-number-records.true, c.in_ok-records.ensures.stated),
              sym v.u32_at.ensures ∙ equal_of _ _ (sym v.filled-is ∙ w.if-filled.true) ∙ sym long,
            )
            | else-number-records v ↦ absurd (not_both c.if-number-records.filled w.if-filled.true (v.filled-is ∙ le-ltb _ _ v.if-number-records.false))
          ] in
          let size : w.len.result ≡ length w.in_ok-entry.entry.items = omega (arith, w.len.ensures, w.in_ok-entry.entry.ok) in
          let far : c.loop-label.place + 4 + w.len.result * g.row.D ≡ c.loop-label.place + 4 + length w.in_ok-entry.entry.items * g.row.D =
          ap (λ n. c.loop-label.place + 4 + n * g.row.D) size in
          let more =
          one_more_body c.args.kind g.row.D bytes entries number c.loop-label.place (c.loop-label.place + 4 + w.len.result * g.row.D)
          w.in_ok-entry.entry.items c.loop-label.invariant.read record_here.0 record_here.1 w.in_ok-entry.ensures.body far in
          rw (w.entries-is, w.place-is, w.number-is, w.in_ok-push.ensures.items, map_push (λ entry. entry.items) items w.in_ok-entry.entry)
          (record {
            read = more;
            count = length_push items w.in_ok-entry.entry ∙ ap (λ n. n + 1) c.loop-label.invariant.count;
            inside = more.inside;
            most = omega (arith, record_here.0, c.in_ok-records.ensures.stated);
          })
      | else-filled+in_ok-push-2 w ↦
          let differ : number < stated bytes → label_at bytes number ≢ length entries = λ h same. elim c.if-number-records.branch [
            | then-number-records v ↦
                not_both c.if-number-records.filled (v.filled-is ∙ of_equal _ _ (v.u32_at.ensures ∙ same ∙ long)) w.if-filled.false
            | else-number-records v ↦ omega (arith, h, v.if-number-records.false, c.in_ok-records.ensures.stated)
          ] in
          let more =
          subst (λ (x : List (List ℕ)). HasReadOn c.args.kind g.row.D bytes (entries ++ x ∷ []) number c.loop-label.place) (sym w.new.ensures.items)
          (has_read_empty c.args.kind g.row.D bytes entries number c.loop-label.place c.loop-label.invariant.read differ) in
          rw (w.entries-is, w.place-is, w.number-is, w.in_ok-push-2.ensures.items, map_push (λ entry. entry.items) items w.new.result)
          (record {
            read = more;
            count = length_push items w.new.result ∙ ap (λ n. n + 1) c.loop-label.invariant.count;
            inside = more.inside;
            most = c.loop-label.invariant.most;
          })
    ]

pub assemble-requires : goal.assemble-requires
assemble-requires g c =
    let entries = map (λ entry. entry.items) c.loop-label.entries.items in (
      omega (arith, (small_counts c.args.kind g.row.D c.requires.head.fits).dimension),
      (
        omega arith,
        (has_read_all c.args.kind g.row.D c.args.bytes.now entries c.loop-label.number c.loop-label.place c.loop-label.invariant.read
            (omega (
              arith,
              c.labels-labels.ensures,
              length-map c.loop-label.entries.items (λ entry. entry.items),
              c.loop-label.invariant.count,
              c.loop-label-test.false,
              c.loop-label.auto.label-end,
            ))
            c.if-place-bytes.false).0,
      ),
    )

pub returns-clause-table : goal.returns-clause-table
returns-clause-table g c =
    let entries = map (λ entry. entry.items) c.loop-label.entries.items in
    subst (λ (t : Table). SpellsTable2 c.args.bytes.now t) (sym c.assemble.ensures)
    (has_read_all c.args.kind g.row.D c.args.bytes.now entries c.loop-label.number c.loop-label.place c.loop-label.invariant.read
    (omega (
      arith,
      c.labels-labels.ensures,
      length-map c.loop-label.entries.items (λ entry. entry.items),
      c.loop-label.invariant.count,
      c.loop-label-test.false,
      c.loop-label.auto.label-end,
    ))
    c.if-place-bytes.false)

pub returns-then-place-bytes-clause-cause : goal.returns-then-place-bytes-clause-cause
returns-then-place-bytes-clause-cause g c =
    let entries = map (λ entry. entry.items) c.loop-label.entries.items in
    extra_behind c.args.kind g.row.D c.args.bytes.now entries c.loop-label.number c.loop-label.place c.loop-label.invariant.read
    (omega (
      arith,
      c.labels-labels.ensures,
      length-map c.loop-label.entries.items (λ entry. entry.items),
      c.loop-label.invariant.count,
      c.loop-label-test.false,
      c.loop-label.auto.label-end,
    ))
    c.if-place-bytes.true
