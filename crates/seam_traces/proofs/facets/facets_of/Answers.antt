use Rattle.std.proofs.Common.{◌≡◌, ◌+◌, ◌∙◌, sym, ap, subst, ◌++◌, ◌∷◌, [], ℕ, arith}
use Rattle.seam_traces.specs.declared.facets.Seen.TheVariants.{Never}
use Rattle.seam_traces.specs.Kept.{seen_at, IsFacetOf}
use Rattle.seam_traces.proofs.KeptSteps.{each_more, length_more}
use Rattle.seam_traces.proofs.facets.facets_of.Goals as goal

pub loop-facet-preserved : goal.loop-facet-preserved
loop-facet-preserved g c =
    let xs = c.loop-facet.facets.items in
    let ys = c.push.new.items.items in
    let y = c.in_ok-facet_of.field-0 in
    let e : ys ≡ xs ++ y ∷ [] = c.in_ok-push.ensures in
    let n = c.loop-facet.invariant.count in
    record {
      count = length_more xs ys y e ∙ ap (λ k. k + 1) n;
      each = λ f x h.
          each_more (λ k z. IsFacetOf g.C.Cell.KIND g.row.D k z) xs ys y e (λ k z less. c.loop-facet.invariant.each k z (omega arith))
          (subst (λ k. IsFacetOf g.C.Cell.KIND g.row.D k y) (sym n) c.in_ok-facet_of.ensures.is_facet) f x (omega arith);
      never =
          λ k d less.
          each_more (λ _ z. (p : ℕ) → seen_at z p ≡ Never) xs ys y e (λ f x h. c.loop-facet.invariant.never f x h) c.in_ok-facet_of.ensures.never
          k d (let w = length_more xs ys y e in omega arith);
    }
