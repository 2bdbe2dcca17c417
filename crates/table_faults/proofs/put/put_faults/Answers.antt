use Rattle.std.proofs.Common.{◌≡◌, ◌-◌, ◌++◌, List, ℕ, length, take, drop, arith, subst}
use Rattle.std.specs.Io.KnownBytes.{Appends}
use Rattle.std.proofs.KnownBytes.{Appends-nil, Appends-trans}
use Rattle.std.proofs.lemmas.List.{take_all}
use Rattle.std.proofs.lemmas.Result.{on_err_weaker, on_ok_weaker}
use Rattle.iso_base.specs.Fronts.{AppendsFront}
use Rattle.table_faults.specs.FaultText.{count_line, fault_lines, faults_text}
use Rattle.table_faults.proofs.FaultTexts.{failed_within, front_last, lines_more, text_parts}
use Rattle.table_faults.proofs.put.put_faults.Goals as goal

pub loop-done-init : goal.loop-done-init
loop-done-init g c = record { later = omega arith; within = omega arith; put = Appends-nil _ }

pub loop-done-preserved : goal.loop-done-preserved
loop-done-preserved g c =
    let fs = c.args.faults.now in
    let i = c.loop-done.done in
    let j = c.min-end.result in
    let page : c.as_bytes.result.now ≡ fault_lines (take (j - i) (drop i fs)) = cc in
    let put : Appends (g.O.Sink.bytes c.loop-done.out) (g.O.Sink.bytes c.put_all.new.out) (fault_lines (take (j - i) (drop i fs))) =
    subst (λ (xs : List ℕ). Appends (g.O.Sink.bytes c.loop-done.out) (g.O.Sink.bytes c.put_all.new.out) xs) page c.in_ok-put_all.ensures.all in
    record {
      later = omega (arith, c.in_ok-put_all.ensures.faults.later, c.loop-done.invariant.later);
      within = omega arith;
      put = subst (λ (xs : List ℕ). Appends (g.O.Sink.bytes c.args.out.now) (g.O.Sink.bytes c.put_all.new.out) xs)
          (lines_more fs i j (omega arith)) (Appends-trans _ _ _ _ _ c.loop-done.invariant.put put);
    }

pub returns-in_err-put_all-clause-front : goal.returns-in_err-put_all-clause-front
returns-in_err-put_all-clause-front g c =
    let fs = c.args.faults.now in
    let i = c.loop-done.done in
    let j = c.min-end.result in
    let page : c.as_bytes.result.now ≡ fault_lines (take (j - i) (drop i fs)) = cc in
    failed_within c.from_residual.result (g.O.Sink.bytes c.args.out.now) (g.O.Sink.bytes c.loop-done.out) (g.O.Sink.bytes c.put_all.new.out)
    (faults_text fs) (fault_lines (take i fs)) (fault_lines (take (j - i) (drop i fs))) (fault_lines (drop j fs) ++ count_line (length fs))
    (text_parts fs i j (omega arith)) c.loop-done.invariant.put
    (subst (λ (xs : List ℕ). AppendsFront (g.O.Sink.bytes c.loop-done.out) (g.O.Sink.bytes c.put_all.new.out) xs) page c.in_err-put_all.ensures.front)

pub returns-clause-all : goal.returns-clause-all
returns-clause-all g c =
    let fs = c.args.faults.now in
    let i = c.loop-done.done in
    let every : take i fs ≡ fs = take_all i fs (omega arith) in
    let last : c.as_bytes-2.result.now ≡ count_line (length fs) = cc in
    on_ok_weaker c.put_all-2.result
    (λ put.
    Appends-trans (g.O.Sink.bytes c.args.out.now) (g.O.Sink.bytes c.loop-done.out) (g.O.Sink.bytes c.put_all-2.new.out) (fault_lines fs)
    (count_line (length fs))
    (subst (λ fs'. Appends (g.O.Sink.bytes c.args.out.now) (g.O.Sink.bytes c.loop-done.out) (fault_lines fs')) every c.loop-done.invariant.put)
    (subst (λ (xs : List ℕ). Appends (g.O.Sink.bytes c.loop-done.out) (g.O.Sink.bytes c.put_all-2.new.out) xs) last put))
    c.put_all-2.ensures.all

pub returns-clause-front : goal.returns-clause-front
returns-clause-front g c =
    let fs = c.args.faults.now in
    let i = c.loop-done.done in
    let every : take i fs ≡ fs = take_all i fs (omega arith) in
    let last : c.as_bytes-2.result.now ≡ count_line (length fs) = cc in
    on_err_weaker c.put_all-2.result
    (λ front.
    front_last (g.O.Sink.bytes c.args.out.now) (g.O.Sink.bytes c.loop-done.out) (g.O.Sink.bytes c.put_all-2.new.out) (fault_lines fs)
    (count_line (length fs))
    (subst (λ fs'. Appends (g.O.Sink.bytes c.args.out.now) (g.O.Sink.bytes c.loop-done.out) (fault_lines fs')) every c.loop-done.invariant.put)
    (subst (λ (xs : List ℕ). AppendsFront (g.O.Sink.bytes c.loop-done.out) (g.O.Sink.bytes c.put_all-2.new.out) xs) last front))
    c.put_all-2.ensures.front
