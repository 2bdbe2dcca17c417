use Rattle.std.proofs.Common.{◌≡◌, ◌∙◌, ◌<◌, ◌+◌, ℕ, length, List, [], ◌∷◌, ◌++◌, take, arith, ap, sym, subst}
use Rattle.iso_commands.specs.Commands.{BeginRight, IsWrongWord}
use Rattle.iso_words.specs.Built.{is_built, texts}
use Rattle.iso_words.specs.Keys.{name_text}
use Rattle.iso_words.specs.Given.{Gave}
use Rattle.iso_words.proofs.WrongLemmas.{few_given, length-texts, texts-more, texts-end, wrong_further, wrong_early}
use Rattle.iso_words.proofs.MissingLemmas.{Lacks-wrong}
use Rattle.iso_words.proofs.RightLemmas.{Say-whole}
use Rattle.iso_words.proofs.parse_further.Goals as goal

pub overflow_cast-result : goal.overflow_cast-result
overflow_cast-result c = omega (arith, few_given c.loop-i.given, c.loop-i.invariant.count)

pub overflow_add-result : goal.overflow_add-result
overflow_add-result c = omega (arith, few_given c.loop-i.given, c.loop-i.invariant.count)

pub returns-then-not-take-clause-place : goal.returns-then-not-take-clause-place
returns-then-not-take-clause-place c =
    let name = c.args.name in
    let further = c.args.further.now in
    let i = c.loop-i.i in
    let in' : i < length further = omega arith in
    let more =
    ap (λ (t : List ℕ). take i (texts further) ++ t ∷ []) c.as_str.ensures.value
    ∙ texts-more further i c.index-further-i.result in' c.index-further-i.is in
    let counted : i + 2 ≡ i + 1 + 1 = omega arith in
    subst (λ (n : ℕ). IsWrongWord is_built (name_text name ∷ texts further) n) counted
    (wrong_further name (texts further) i c.loop-i.given (omega (arith, length-texts further)) c.loop-i.invariant.gave
    (λ b. c.if-not-take.ensures.refused (take i (texts further)) c.loop-i.invariant.gave
    (subst (λ (ws : List (List ℕ)). BeginRight is_built (name_text name ∷ ws)) (sym more) b)))

pub returns-then-not-take-clause-few : goal.returns-then-not-take-clause-few
returns-then-not-take-clause-few c = omega (arith, few_given c.loop-i.given, c.loop-i.invariant.count)

pub loop-i-preserved : goal.loop-i-preserved
loop-i-preserved c =
    let name = c.args.name in
    let further = c.args.further.now in
    let i = c.loop-i.i in
    let in' : i < length further = omega arith in
    let more =
    ap (λ (t : List ℕ). take i (texts further) ++ t ∷ []) c.as_str.ensures.value
    ∙ texts-more further i c.index-further-i.result in' c.index-further-i.is in
    record {
      gave = subst (λ (ws : List (List ℕ)). Gave name ws c.take.new.self) more (c.if-not-take.ensures.taken (take i (texts further)) c.loop-i.invariant.gave);
      count = c.if-not-take.ensures.count ∙ ap (λ (n : ℕ). n + 1) c.loop-i.invariant.count;
    }

pub overflow_cast-result-in-None : goal.overflow_cast-result-in-None
overflow_cast-result-in-None c = omega (arith, few_given c.loop-i.given, c.loop-i.invariant.count)

pub overflow_add-result-in-None : goal.overflow_add-result-in-None
overflow_add-result-in-None c = omega (arith, few_given c.loop-i.given, c.loop-i.invariant.count)

pub returns-in-Some-clause-said : goal.returns-in-Some-clause-said
returns-in-Some-clause-said c =
    let name = c.args.name in
    let further = c.args.further.now in
    let gave = subst (λ (ws : List (List ℕ)). Gave name ws c.loop-i.given) (texts-end further c.loop-i.i (omega arith)) c.loop-i.invariant.gave in
    Say-whole name c.in-Some.command (texts further) c.loop-i.given c.in-Some.ensures.said gave

pub returns-in-Some-clause-named : goal.returns-in-Some-clause-named
returns-in-Some-clause-named c = sym c.in-Some.ensures.said.0

pub returns-in-None-clause-place : goal.returns-in-None-clause-place
returns-in-None-clause-place c =
    let name = c.args.name in
    let further = c.args.further.now in
    let gave = subst (λ (ws : List (List ℕ)). Gave name ws c.loop-i.given) (texts-end further c.loop-i.i (omega arith)) c.loop-i.invariant.gave in
    let counted : length further + 2 ≡ length further + 1 + 1 = omega arith in
    subst (λ (n : ℕ). IsWrongWord is_built (name_text name ∷ texts further) n) counted
    (wrong_early name further c.loop-i.given gave (Lacks-wrong name (texts further) c.loop-i.given gave c.in-None.ensures.early))

pub returns-in-None-clause-few : goal.returns-in-None-clause-few
returns-in-None-clause-few c = omega (arith, few_given c.loop-i.given, c.loop-i.invariant.count)
