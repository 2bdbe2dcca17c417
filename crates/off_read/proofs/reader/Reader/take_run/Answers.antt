use Rattle.std.proofs.Common.{ap, append-nil, refl, rules, sym, subst, arith, ◌≡◌, ◌∙◌}
use Rattle.std.specs.Prelude.{◌-◌, ◌≤◌, length, take, drop, []}
use Rattle.std.proofs.lemmas.List.{length-take}
use Rattle.off_read.specs.ScanForms.{Scan}
use Rattle.off_read.specs.WordForms.{IsSoFar}
use Rattle.off_read.proofs.TakingLaws.{rest_left}
use Rattle.off_read.proofs.reader.Reader.take_run.Goals as goal

pub returns-then-ne : goal.returns-then-ne
returns-then-ne c = record {
  run = [];
  same = ((refl, refl), refl);
  left = refl;
  right = refl;
  standing = λ h. absurd (omega (arith, h));
  known = λ text so. subst (IsSoFar c.args.word.now) (sym (append-nil text)) so;
}

pub returns : goal.returns
returns c =
    let r = c.self.inside in
    let left = take (r.end - r.start) (drop r.start r.piece) in
    let n = c.run_length-count.result in
    let is : left ≡ c.args.self.now.left = ap (λ (s : Scan). s.left) c.self.view_is in
    let within : n ≤ length left = c.run_length-count.ensures.within in
    let most : n ≤ r.end - r.start = omega (arith, within, length-take (r.end - r.start) (drop r.start r.piece)) in
    record {
      run = take n left;
      same = ((ap (λ (s : Scan). s.ended) c.self.view_is, ap (λ (s : Scan). s.place) c.self.view_is), ap (λ (s : Scan). s.taken) c.self.view_is);
      left = sym is ∙ rest_left r.piece r.start r.end n most;
      right = c.run_length-count.ensures.right;
      standing = λ h. search rules;
      known = λ text so. c.push_all.ensures text so;
    }
