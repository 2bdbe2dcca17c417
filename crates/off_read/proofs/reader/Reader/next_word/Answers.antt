use Rattle.std.proofs.Common.{ap, sym, ◌∙◌, rules, subst}
use Rattle.std.specs.Prelude.{Bool, Option, ℕ}
use Rattle.std.proofs.lemmas.Result.{err_from_is_err_and}
use Rattle.off_read.specs.Scans.{GivesByte, GivesNext, Sees}
use Rattle.off_read.specs.WordForms.{Known}
use Rattle.off_read.proofs.TakingLaws.{fails_then, reads_more, reads_none, runs_on, word_ends, finds_end, word_at_end, none_given}
use Rattle.off_read.proofs.reader.Reader.next_word.Goals as goal

pub loop-byte-init : goal.loop-byte-init
loop-byte-init g c =
    let rest = g.S.Shelf.rest c.args.shelf.now in
    record {
      same = search rules;
      reads = runs_on rest rest c.args.self.now c.args.self.now c.take_run.new.self c.new-word.result c.take_run.new.word
          (reads_none rest c.args.self.now c.new-word.result c.requires c.new-word.ensures) c.take_run.ensures;
    }

pub returns-in_err-byte-clause-fails : goal.returns-in_err-byte-clause-fails
returns-in_err-byte-clause-fails g c =
    let p = err_from_is_err_and c.from_residual.result c.from_residual.ensures.1 in
    rw (p.1, p.2) (fails_then _ _ _ _ _ _ _ c.loop-byte.invariant.reads.takes.0 c.in_err-byte.ensures.fails)

pub returns-then-see-clause-gives : goal.returns-then-see-clause-gives
returns-then-see-clause-gives g c =
    let before = g.S.Shelf.rest c.loop-byte.shelf in
    let now = g.S.Shelf.rest c.next_byte.new.shelf in
    let next = c.next_byte.new.self in
    let new = c.see.new.self in
    let byte : GivesNext before now c.loop-byte.self next c.in-Some.byte =
    subst (λ (o : Option ℕ). GivesByte before now c.loop-byte.self next o) c.in-Some.is c.in_ok-byte.ensures.gives in
    let word = ap (λ (w : Known). record w { line = c.lines.result }) c.word.view_is
    ∙ ap (λ (n : ℕ). record c.see.new.word { line = n }) c.lines.ensures in
    word_ends _ before now c.args.self.now c.loop-byte.self next new c.loop-byte.word c.see.new.word _ c.in-Some.byte c.loop-byte.invariant.reads byte
    c.see.ensures.kept.0 c.see.ensures.kept.1
    (λ text so i. subst (λ (b : Bool). Sees next new c.see.new.word text c.in-Some.byte b) c.if-see.true (c.see.ensures.seen text so i)) word

pub loop-byte-preserved : goal.loop-byte-preserved
loop-byte-preserved g c =
    let before = g.S.Shelf.rest c.loop-byte.shelf in
    let now = g.S.Shelf.rest c.next_byte.new.shelf in
    let next = c.next_byte.new.self in
    let new = c.see.new.self in
    let byte : GivesNext before now c.loop-byte.self next c.in-Some.byte =
    subst (λ (o : Option ℕ). GivesByte before now c.loop-byte.self next o) c.in-Some.is c.in_ok-byte.ensures.gives in
    let on = reads_more _ before now c.args.self.now c.loop-byte.self next new c.loop-byte.word c.see.new.word c.in-Some.byte c.loop-byte.invariant.reads byte
    c.see.ensures.kept.0 c.see.ensures.kept.1
    (λ text so i. subst (λ (b : Bool). Sees next new c.see.new.word text c.in-Some.byte b) c.if-see.false (c.see.ensures.seen text so i)) in
    record {
      same = search rules;
      reads = runs_on _ now c.args.self.now new c.take_run-in-Some.new.self c.see.new.word c.take_run-in-Some.new.word on c.take_run-in-Some.ensures;
    }

pub returns-then-is_empty-clause-gives : goal.returns-then-is_empty-clause-gives
returns-then-is_empty-clause-gives g c =
    let none = none_given _ _ c.loop-byte.self c.next_byte.new.self c.in_ok-byte.field-0 c.in_default.not-Some c.in_ok-byte.ensures.gives in
    finds_end _ _ _ c.args.self.now c.loop-byte.self c.next_byte.new.self c.loop-byte.word c.loop-byte.invariant.reads none
    (λ text so. sym c.if-is_empty.true ∙ c.is_empty.ensures text so)

pub returns-clause-gives : goal.returns-clause-gives
returns-clause-gives g c =
    let none = none_given _ _ c.loop-byte.self c.next_byte.new.self c.in_ok-byte.field-0 c.in_default.not-Some c.in_ok-byte.ensures.gives in
    let word = ap (λ (w : Known). record w { line = c.lines-2.result }) c.word-2.view_is
    ∙ ap (λ (n : ℕ). record c.loop-byte.word { line = n }) c.lines-2.ensures in
    word_at_end _ _ _ c.args.self.now c.loop-byte.self c.next_byte.new.self c.loop-byte.word _ c.loop-byte.invariant.reads none
    (λ text so. sym c.if-is_empty.false ∙ c.is_empty.ensures text so) word
