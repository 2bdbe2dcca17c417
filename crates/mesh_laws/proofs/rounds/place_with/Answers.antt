use Rattle.std.proofs.Common.{rules, ltb, ◌≡◌, ◌∙◌, ap, slice_index_or}
use Rattle.std.proofs.lemmas.List.{get_or_default}
use Rattle.std.proofs.lemmas.List.Sorted.{IsPartitionPoint-from_clause, IsPartitionedBy-ltb}
use Rattle.mesh_laws.specs.declared.rounds.Begin.{Begin}
use Rattle.mesh_laws.proofs.RoundPlaces.{begins_by_p, place_found, place_missing}
use Rattle.mesh_laws.proofs.rounds.place_with.Goals as goal
use Rattle.mesh_laws.proofs.rounds.place_with.Goals.{else-index-begins-via-then-index-begins+else-begins-index, else-index-begins-via-else-index-begins}

pub returns-then-begins-index : goal.returns-then-begins-index
returns-then-begins-index c = λ ps a.
    let begins = c.args.begins.now in
    let parted = IsPartitionedBy-ltb (λ (b : Begin). b.p) begins c.args.p (begins_by_p ps begins a) in
    let point =
    IsPartitionPoint-from_clause (λ (b : Begin). ltb b.p c.args.p) begins c.partition_point-index.result c.partition_point-index.ensures.partitioned parted
    (λ a r q k. search rules) in
    place_found ps begins c.args.p c.partition_point-index.result a point (record { p = 0; place = 0 }) (search rules) (search rules)

pub returns-else-index-begins : goal.returns-else-index-begins
returns-else-index-begins c = λ ps a.
    let begins = c.args.begins.now in
    let index = c.partition_point-index.result in
    let parted = IsPartitionedBy-ltb (λ (b : Begin). b.p) begins c.args.p (begins_by_p ps begins a) in
    let point =
    IsPartitionPoint-from_clause (λ (b : Begin). ltb b.p c.args.p) begins index c.partition_point-index.ensures.partitioned parted
    (λ a r q k. search rules) in
    place_missing ps begins c.args.p index a point (λ d l e.
    let here : (slice_index_or begins index (record { p = 0; place = 0 })).p ≡ c.args.p =
    ap (λ (b : Begin). b.p) (get_or_default begins index (record { p = 0; place = 0 }) d l) ∙ e in
    elim c.else-index-begins.branch as (λ _. ⊥) [
      | else-index-begins-via-then-index-begins+else-begins-index w ↦ search (rules, here)
      | else-index-begins-via-else-index-begins w ↦ search (rules, l)
    ])
