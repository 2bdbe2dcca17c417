use Rattle.seam_traces.proofs.JoinedFacets.{no_facets, still_facets, next_facets, all_facets}
use Rattle.seam_traces.proofs.facets.add_later.Goals as goal

pub loop-number-init : goal.loop-number-init
loop-number-init c = no_facets c.args.facets.now c.args.later.now

pub add_later-requires : goal.add_later-requires
add_later-requires c =
    let f = c.loop-number in
    still_facets f.number c.args.facets.now c.args.later.now f.facets f.later c.index-facets-number.result c.index-later-number.result f.invariant c.requires
    c.loop-number-test.true

pub loop-number-preserved : goal.loop-number-preserved
loop-number-preserved c =
    let f = c.loop-number in
    next_facets f.number c.args.facets.now c.args.later.now f.facets f.later c.index-facets-number.result c.index-later-number.result c.add_later.new.self
    c.add_later.new.later f.invariant c.loop-number-test.true c.requires.count c.add_later.ensures

pub returns : goal.returns
returns c =
    let f = c.loop-number in
    all_facets f.number c.args.facets.now c.args.later.now f.facets f.later c.loop-number-test.false f.invariant
