use Rattle.std.proofs.Common.{◌∙◌, sym, subst, List}
use Rattle.std.proofs.lemmas.List.{with_items_is}
use Rattle.seam_traces.specs.declared.facets.Facet.{Facet}
use Rattle.seam_traces.specs.Kept.{AreFacetsOf, EachTakesLater, HaveSamePatterns, JoinRuns}
use Rattle.seam_traces.proofs.JoinedRuns.{same_patterns, facets_joined, joined_runs}
use Rattle.seam_traces.proofs.run_traces.RunTraces.followed_by.Goals as goal

pub add_later-requires : goal.add_later-requires
add_later-requires g c =
    subst (λ (xs : List Facet). HaveSamePatterns xs c.deref_mut-2.result.now) (sym (c.deref_mut.ensures.value ∙ c.self.view_is))
    (subst (λ (ys : List Facet). HaveSamePatterns c.args.self ys) (sym (c.deref_mut-2.ensures.value ∙ c.later.view_is))
    (same_patterns g.C.Cell.KIND g.row.D c.args.self c.args.later c.requires.facets c.requires.later_facets))

pub returns : goal.returns
returns g c =
    let law = g.met.C.Cell in
    let old = c.args.self in
    let later = c.args.later in
    let new = c.add_later.new.facets in
    let takes : EachTakesLater old later new =
    subst (λ (xs : List Facet). EachTakesLater xs later new) (c.deref_mut.ensures.value ∙ c.self.view_is)
    (subst (λ (ys : List Facet). EachTakesLater c.deref_mut.result.now ys new) (c.deref_mut-2.ensures.value ∙ c.later.view_is) c.add_later.ensures) in
    let e = with_items_is c.self.inside.facets new (c.add_later.ensures.count ∙ c.deref_mut.ensures.len) in
    record {
      facets = subst (λ xs. AreFacetsOf g.C.Cell.KIND g.row.D xs) (sym e) (facets_joined g.C.Cell.KIND g.row.D old later new c.requires.facets takes);
      joined = subst (λ xs. JoinRuns g.C.Cell.KIND g.row.D old later xs) (sym e)
          (joined_runs g.C.Cell.KIND g.row.D old later new law.is_dimension law.has_dimension c.requires.facets takes);
    }
