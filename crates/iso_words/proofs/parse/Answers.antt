use Rattle.std.proofs.Common.{◌≡◌, ◌∙◌, ◌+◌, ℕ, List, ◌∷◌, ap, sym, subst}
use Rattle.iso_commands.specs.Commands.{IsWrongWord, Say}
use Rattle.iso_words.specs.Built.{is_built, texts, asked}
use Rattle.iso_words.specs.Keys.{name_text}
use Rattle.iso_words.proofs.WrongLemmas.{Say-one, asked_built, IsWrongWord-one, never_said, texts-first, wrong_empty, wrong_first}
use Rattle.iso_words.proofs.parse.Goals as goal

pub returns-in_default-clause-place : goal.returns-in_default-clause-place
returns-in_default-clause-place c = wrong_empty c.args.words.now c.in_default.ensures.cases

pub returns-in_default-named-clause-place : goal.returns-in_default-named-clause-place
returns-in_default-named-clause-place c =
    subst (λ (ws : List (List ℕ)). IsWrongWord is_built ws 1) (sym (ap texts c.in-Some.ensures.cases.0))
    (wrong_first _ (texts c.in-Some.further.now) (λ name e. c.in_default-named.ensures name (c.as_str.ensures.value ∙ e)))

pub returns-in_default-named-clause-exact : goal.returns-in_default-named-clause-exact
returns-in_default-named-clause-exact c = never_said (texts c.args.words.now) 1 (returns-in_default-named-clause-place c)

pub returns-in_default-clause-wrong : goal.returns-in_default-clause-wrong
returns-in_default-clause-wrong c = λ n w. IsWrongWord-one (texts c.args.words.now) 1 n (returns-in_default-clause-place c) w

pub returns-in_default-named-clause-wrong : goal.returns-in_default-named-clause-wrong
returns-in_default-named-clause-wrong c = λ n w. IsWrongWord-one (texts c.args.words.now) 1 n (returns-in_default-named-clause-place c) w

pub returns-in-Ok-clause-said : goal.returns-in-Ok-clause-said
returns-in-Ok-clause-said c =
    let further = c.in-Some.further.now in
    let name = c.in-Some-named.name in
    subst (λ (ws : List (List ℕ)). Say ws (asked c.in-Ok.command))
    (sym (texts-first c.args.words.now further c.in-Some.first.now name c.in-Some.ensures.cases.0 (sym c.as_str.ensures.value ∙ c.in-Some-named.ensures)))
    c.in-Ok.ensures.said

pub returns-in-Ok-clause-exact : goal.returns-in-Ok-clause-exact
returns-in-Ok-clause-exact c = λ command b s.
    Say-one (texts c.args.words.now) (asked c.in-Ok.command) command (asked_built c.in-Ok.command) b (returns-in-Ok-clause-said c) s

pub returns-in-Ok-clause-wrong : goal.returns-in-Ok-clause-wrong
returns-in-Ok-clause-wrong c =
    λ n w. never_said (texts c.args.words.now) n w (asked c.in-Ok.command) (asked_built c.in-Ok.command) (returns-in-Ok-clause-said c)

pub returns-in-Err-clause-place : goal.returns-in-Err-clause-place
returns-in-Err-clause-place c =
    let further = c.in-Some.further.now in
    let name = c.in-Some-named.name in
    subst (λ (ws : List (List ℕ)). IsWrongWord is_built ws (c.in-Err.wrong.0 + 1))
    (sym (texts-first c.args.words.now further c.in-Some.first.now name c.in-Some.ensures.cases.0 (sym c.as_str.ensures.value ∙ c.in-Some-named.ensures)))
    c.in-Err.ensures.place

pub returns-in-Err-clause-exact : goal.returns-in-Err-clause-exact
returns-in-Err-clause-exact c = never_said (texts c.args.words.now) (c.in-Err.wrong.0 + 1) (returns-in-Err-clause-place c)

pub returns-in-Err-clause-wrong : goal.returns-in-Err-clause-wrong
returns-in-Err-clause-wrong c = λ n w. IsWrongWord-one (texts c.args.words.now) (c.in-Err.wrong.0 + 1) n (returns-in-Err-clause-place c) w
