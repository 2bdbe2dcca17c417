use Rattle.std.proofs.Common.{◌≡◌, ◌∙◌, ◌+◌, take, arith, rules, sym, ap}
use Rattle.std.proofs.lemmas.List.{take_rest}
use Rattle.iso_formats.specs.HeaderLines.{trimmed}
use Rattle.nrrd_raw.proofs.ContentLaws.{content-unreadable, content-named}
use Rattle.nrrd_raw.proofs.lines.content.content_of.Goals as goal

pub returns-then-colon-text : goal.returns-then-colon-text
returns-then-colon-text c =
    content-unreadable c.args.text.now (sym c.is_comment.ensures ∙ c.if-is_comment.false) (sym c.is_pair.ensures ∙ c.if-is_pair.false)
    (sym c.colon_in-colon.ensures.first ∙ c.if-colon-text.true)

pub returns : goal.returns
returns c =
    let colon = c.colon_in-colon.result in
    let name : c.trimmed-name.result.now ≡ trimmed (take colon c.args.text.now) = search rules in
    content-named c.args.text.now _ _ colon (sym c.is_comment.ensures ∙ c.if-is_comment.false) (sym c.is_pair.ensures ∙ c.if-is_pair.false)
    c.colon_in-colon.ensures.first (omega arith) name (sym c.is_empty.ensures ∙ c.if-is_empty.false)
    (c.trimmed.ensures ∙ ap trimmed (take_rest c.args.text.now (colon + 1)))
