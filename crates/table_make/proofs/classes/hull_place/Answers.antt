use Rattle.std.proofs.Common.{◌≡◌, ◌∙◌, map, length, sym, arith, slice_index_or, None, Some, vec_len, rules}
use Rattle.std.proofs.lemmas.List.{length-map}
use Rattle.table_make.proofs.ClassHullLaws.{one_more_known}
use Rattle.lists.proofs.Contained.{any_default}
use Rattle.table_make.proofs.classes.hull_place.Goals as goal

pub returns-in-Some-clause-within : goal.returns-in-Some-clause-within
returns-in-Some-clause-within g c =
    let at : slice_index_or c.args.places.now.items c.args.label None ≡ Some c.in-Some.place =
    any_default c.args.places.now.items c.args.label None c.index.result.now c.requires.inside ∙ sym c.index.ensures ∙ c.in-Some.is in
    let k = (c.requires.known.each c.args.label c.in-Some.place at).0 in
    omega (arith, k, length-map c.args.hulls.now.items (λ h. h.items))

pub returns-clause-known : goal.returns-clause-known
returns-clause-known g c =
    let same : vec_len c.args.hulls.now ≡ length c.args.hulls.now.items = search rules in
    one_more_known g.C.Cell.KIND g.row.D c.args.places.now.items (map (λ h. h.items) c.args.hulls.now.items)
    (map (λ h. h.items) c.add_hull.new.hulls.items) c.args.label c.len-place.result c.in_ok-facets.facets.items
    c.requires.inside c.requires.known c.in_ok-facets.ensures (c.len-place.ensures ∙ same ∙ sym (length-map c.args.hulls.now.items (λ h. h.items)))
    c.in_ok-add_hull.ensures
