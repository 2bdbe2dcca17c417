use Rattle.std.proofs.Common.{◌≡◌, ◌<◌, true, false, slice_index_or, length, sym, ap, ◌∙◌, subst, below_more, arith}
use Rattle.std.proofs.lemmas.List.{get_or-map}
use Rattle.iso_model.specs.Seams.{Seam}
use Rattle.lists.proofs.MemberLaws.{length_map}
use Rattle.seam_traces.specs.declared.seams.FacetSeam.{FacetSeam}
use Rattle.seam_traces.specs.Clashes.{ClashesAt}
use Rattle.seam_traces.specs.Traces.{keeps_seam}
use Rattle.seam_traces.specs.SeamLists.{seam_of, seams_of}
use Rattle.seam_traces.proofs.SeamRule.{keeps_all}
use Rattle.seam_traces.proofs.TraceTables.{seam_said}
use Rattle.seam_traces.proofs.table_traces.Traces.first_clash.Goals as goal

-- a seam for places past the end of a list
blank : FacetSeam
blank = record { facet = 0; other = 0; same = false }

pub clash_at-requires : goal.clash_at-requires
unfolding blank
clash_at-requires g c =
    (omega arith, seam_said g.C.Cell.KIND g.row.D c.args.seams.now c.loop-seam.seam-index blank c.requires c.loop-seam-test.true)

pub returns-in-Some : goal.returns-in-Some
unfolding blank
returns-in-Some g c = λ t tell are.
    let ss = c.args.seams.now in
    let i = c.loop-seam.seam-index in
    let less : i < length ss = c.loop-seam-test.true in
    record {
      place = i;
      inside = subst (λ n. i < n) (sym (length_map seam_of ss)) less;
      before = c.loop-seam.invariant t tell are;
      clashes = λ s.
          subst (λ x. ClashesAt t c.args.label x c.in-Some.clash) (sym (get_or-map seam_of ss i blank s less)) (c.in-Some.ensures t tell are);
    }

pub loop-seam-preserved : goal.loop-seam-preserved
unfolding blank
loop-seam-preserved g c = λ t tell are k s less.
    let ss = c.args.seams.now in
    let i = c.loop-seam.seam-index in
    let here : (x : Seam) → keeps_seam t c.args.label (slice_index_or (seams_of ss) i x) ≡ true =
    λ x. ap (keeps_seam t c.args.label) (get_or-map seam_of ss i blank x c.loop-seam-test.true) ∙ c.in_default.ensures t tell are in
    below_more (λ n. (x : Seam) → keeps_seam t c.args.label (slice_index_or (seams_of ss) n x) ≡ true) i
    (λ n h x. c.loop-seam.invariant t tell are n x h) here k less s

pub returns : goal.returns
unfolding blank
returns g c = λ t tell are.
    let last = c.loop-seam-test.false in
    let wide = length_map seam_of c.args.seams.now in
    keeps_all t c.args.label (seams_of c.args.seams.now) (λ k s less. c.loop-seam.invariant t tell are k s (omega (arith, last, wide, less)))
