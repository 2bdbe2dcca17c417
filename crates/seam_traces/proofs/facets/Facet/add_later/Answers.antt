use Rattle.std.proofs.Common.{arith}
use Rattle.seam_traces.proofs.JoinedFacets.{none_joined, all_joined, still_same, one_more}
use Rattle.seam_traces.proofs.facets.Facet.add_later.Goals as goal

pub loop-pattern-init : goal.loop-pattern-init
loop-pattern-init c = none_joined c.args.self.now c.args.later.now

pub add_pattern-requires : goal.add_pattern-requires
add_pattern-requires c = record {
  patterns =
      still_same c.loop-pattern.pattern c.args.self.now c.args.later.now c.loop-pattern.self c.loop-pattern.later c.requires c.loop-pattern.invariant;
  inside = omega (arith, c.loop-pattern-test.true, c.len-pattern-end.ensures, c.loop-pattern.invariant.seen);
}

pub loop-pattern-preserved : goal.loop-pattern-preserved
loop-pattern-preserved c =
    one_more c.loop-pattern.pattern c.args.self.now c.args.later.now c.loop-pattern.self c.loop-pattern.later c.add_pattern.new.self
    c.add_pattern.new.later c.loop-pattern.invariant c.add_pattern.ensures

pub returns : goal.returns
returns c =
    all_joined c.loop-pattern.pattern c.args.self.now c.args.later.now c.loop-pattern.self c.loop-pattern.later
    (omega (arith, c.loop-pattern-test.false, c.len-pattern-end.ensures)) c.loop-pattern.invariant
