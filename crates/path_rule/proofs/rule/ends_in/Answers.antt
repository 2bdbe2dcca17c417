use Rattle.std.proofs.Common.{sym, ap, ◌∙◌}
use Rattle.std.specs.Prelude.{◌&&◌}
use Rattle.iso_model.specs.Cells.{edge_count, edge_in_facet}
use Rattle.path_rule.proofs.rule.ends_in.Goals as goal

pub has_member-requires : goal.has_member-requires
has_member-requires g c = c.in-Some.ensures.small 32 c.requires.small c.requires.edges

pub returns-in-Some : goal.returns-in-Some
returns-in-Some g c = λ kind f tuples some lies members shares free.
    let face = c.in-Some.face in
    c.has_member.ensures ∙ members face (c.in-Some.ensures.met some (edge_count kind 3) (λ k d h. (tuples k d h).1))
    ∙ sym (c.in-Some.ensures.end shares free kind f ∙ ap (λ b. b && edge_in_facet kind 3 f face) lies)

pub returns-in-None : goal.returns-in-None
returns-in-None g c = λ kind f tuples some lies members shares free. sym (c.in-None.ensures.end shares free kind f)
