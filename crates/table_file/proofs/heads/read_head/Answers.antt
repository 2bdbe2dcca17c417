use Rattle.std.proofs.Common.{arith, ◌<◌, List, ℕ, subst}
use Rattle.table_file.specs.Heads.{IsAgreement, version_number}
use Rattle.table_file.proofs.HeadLaws.{reached_none, reached_more, agreement_begins, stops_in_head}
use Rattle.table_file.proofs.heads.read_head.Goals as goal
use Rattle.table_file.proofs.heads.read_head.Goals.{then-reached-places, else-reached-places}

pub loop-number-init : goal.loop-number-init
loop-number-init c = reached_none (version_number c.args.version) c.args.bytes.now

pub loop-number-preserved : goal.loop-number-preserved
loop-number-preserved c =
    let bytes = c.args.bytes.now in
    let i = c.loop-number.invariant in
    let places = c.agreement-places.result in
    let a = subst (λ (h : List ℕ). IsAgreement bytes h places) c.head.ensures c.agreement-places.ensures in
    let more = reached_more (version_number c.args.version) bytes c.loop-number.reached c.loop-number.number in
    let inside : c.loop-number.number < 7 = omega arith in
    elim c.if-reached-places.branch [
      | then-reached-places w ↦ rw w.reached-is
          (more places c.row-kind.result places i inside c.row-kind.ensures.row a c.if-places-eq16.false
          (omega (arith, a.inside_head, c.if-places-eq16.false)) a.inside
          (agreement_begins (version_number c.args.version) bytes c.row-kind.result places c.row-kind.ensures.fits a) (omega arith) (omega arith))
      | else-reached-places w ↦ rw w.reached-is
          (more c.loop-number.reached c.row-kind.result places i inside c.row-kind.ensures.row a c.if-places-eq16.false i.short i.inside i.begun
          (omega arith) (omega arith))
    ]

pub returns-clause-fault : goal.returns-clause-fault
returns-clause-fault c = stops_in_head (version_number c.args.version) c.args.bytes.now c.loop-number.reached c.loop-number.number c.loop-number.invariant (omega arith)
