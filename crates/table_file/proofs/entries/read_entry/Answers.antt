use Rattle.std.proofs.Common.{◌≡◌, ◌+◌, ◌*◌, ◌∙◌, arith, refl, inr}
use Rattle.std.proofs.lemmas.List.{take_rest}
use Rattle.table_file.proofs.TupleRows.{small_counts}
use Rattle.table_file.proofs.EntryLaws.{wrong_edge_at, cut_off_at, entry_at}
use Rattle.table_file.proofs.entries.read_entry.Goals as goal

pub returns-in-Some-first_wrong-clause-fault : goal.returns-in-Some-first_wrong-clause-fault
returns-in-Some-first_wrong-clause-fault g c = (
  c.in-Some-first_wrong.wrong,
  refl,
  wrong_edge_at c.args.kind g.row.D c.in-Some.count _ _ c.edges.result c.args.bytes.now c.args.place c.min.result c.in-Some-first_wrong.wrong
      (record {
        inside = c.requires.inside;
        front_is = take_rest c.args.bytes.now c.args.place;
        behind_is = take_rest c.args.bytes.now (c.args.place + 4);
        edges_is = c.edges.ensures;
        begins = c.in-Some.ensures.count;
      })
      (omega (arith, c.min.ensures)) c.in-Some-first_wrong.ensures.inside c.in-Some-first_wrong.ensures.before c.in-Some-first_wrong.ensures.wrong,
)

pub returns-then-rest-size-clause-fault : goal.returns-then-rest-size-clause-fault
returns-then-rest-size-clause-fault g c = (
  refl,
  inr (cut_off_at c.args.kind g.row.D c.in-Some.count _ _ c.edges.result c.args.bytes.now c.args.place c.min.result
      (record {
        inside = c.requires.inside;
        front_is = take_rest c.args.bytes.now c.args.place;
        behind_is = take_rest c.args.bytes.now (c.args.place + 4);
        edges_is = c.edges.ensures;
        begins = c.in-Some.ensures.count;
      })
      c.if-rest-size.true (omega (arith, c.min.ensures, c.if-rest-size.true)) c.in_default-first_wrong.ensures.none),
)

pub returns-clause-entry : goal.returns-clause-entry
returns-clause-entry g c =
    let small = small_counts c.args.kind g.row.D c.requires.fits in
    let size : c.min.result ≡ c.in-Some.count * g.row.D = omega (arith, c.min.ensures, c.if-rest-size.false) in
    entry_at c.args.kind g.row.D c.in-Some.count _ _ c.edges.result c.args.bytes.now c.args.place c.min.result c.in_ok-from_slice.field-0.items
    (record {
      inside = c.requires.inside;
      front_is = take_rest c.args.bytes.now c.args.place;
      behind_is = take_rest c.args.bytes.now (c.args.place + 4);
      edges_is = c.edges.ensures;
      begins = c.in-Some.ensures.count;
    })
    (omega (arith, small.some)) size c.if-rest-size.false c.in_default-first_wrong.ensures.none (c.in_ok-from_slice.ensures.items ∙ c.as_chunks.ensures.front)
