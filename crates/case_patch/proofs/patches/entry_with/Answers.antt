use Rattle.std.proofs.Common.{◌≡◌, ◌<◌, ◌∙◌, ap, sym, subst, List, ℕ, map, length, All}
use Rattle.std.proofs.lemmas.List.{length-map}
use Rattle.iso_model.specs.Entries.{oriented}
use Rattle.case_patch.proofs.Narrow.{bytes_fit}
use Rattle.case_patch.proofs.FoundTuples.{tuple_wide, tuple_edges}
use Rattle.lists.proofs.Contained.{All-from_each}
use Rattle.case_patch.proofs.AppendedLists.{written_back}
use Rattle.case_patch.proofs.patches.entry_with.Goals as goal

pub put_in_order-requires : goal.put_in_order-requires
put_in_order-requires g c = (
  bytes_fit g.row.D g.met.C.Cell.is_dimension,
  (g.met.C.Cell.is_dimension, λ t m. tuple_wide g.C.Cell.KIND g.row.D c.args.label t ((c.in_ok-tuples.ensures t).0 m)),
)

pub orient-requires : goal.orient-requires
orient-requires g c = (
  bytes_fit g.row.D g.met.C.Cell.is_dimension,
  subst (λ (ws : List (List ℕ)). All (λ w. All (λ e. e < g.C.Cell.EDGES) w) ws) (sym c.deref_mut.ensures.value)
      (All-from_each (λ w. All (λ e. e < g.C.Cell.EDGES) w) c.put_in_order.new.tuples.items
      (λ w m. subst (λ (n : ℕ). All (λ e. e < n) w) (sym g.met.C.Cell.edges)
      (tuple_edges g.C.Cell.KIND g.row.D c.args.label w ((c.in_ok-tuples.ensures w).0 ((c.put_in_order.ensures.same w).0 m))))),
)

pub returns : goal.returns
returns g c =
    let turned : c.orient.new.tuples ≡ map (oriented g.C.Cell.KIND g.row.D c.args.label) c.put_in_order.new.tuples.items =
    c.orient.ensures ∙ ap (map (oriented g.C.Cell.KIND g.row.D c.args.label)) c.deref_mut.ensures.value in
    let same : length c.orient.new.tuples ≡ length c.put_in_order.new.tuples.items =
    ap length turned ∙ length-map c.put_in_order.new.tuples.items (oriented g.C.Cell.KIND g.row.D c.args.label) in
    record {
      tuples = c.put_in_order.new.tuples.items;
      each =
          λ t. (
            λ m. (c.in_ok-tuples.ensures t).0 ((c.put_in_order.ensures.same t).0 m),
            λ p. (c.put_in_order.ensures.same t).1 ((c.in_ok-tuples.ensures t).1 p),
          );
      ascending = c.put_in_order.ensures.ascending;
      turned =
          written_back c.put_in_order.new.tuples.len c.orient.new.tuples c.put_in_order.new.tuples.items same
          (sym c.deref_mut.ensures.len ∙ ap length c.deref_mut.ensures.value ∙ sym same)
          ∙ turned;
    }
