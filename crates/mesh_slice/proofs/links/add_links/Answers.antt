use Rattle.std.proofs.Common.{◌≡◌, sym, ◌∙◌, ap, length, List, [], ◌++◌, subst}
use Rattle.std.proofs.lemmas.List.{append-nil}
use Rattle.cut_laws.specs.declared.Link.{Link}
use Rattle.cut_laws.specs.CutSteps.{links_in}
use Rattle.cut_laws.proofs.LateLabels.{not_cut}
use Rattle.mesh_slice.specs.Slices.{late_by, Name}
use Rattle.mesh_slice.proofs.WholeCuts.{name_sorted}
use Rattle.mesh_slice.proofs.links.add_links.Goals as goal

pub add_parted-requires : goal.add_parted-requires
add_parted-requires c =
    subst (Name (length c.args.late.now)) (sym c.in_order.ensures) (name_sorted (length c.args.late.now) c.args.simplex.now c.requires.below)

pub returns : goal.returns
returns c =
    let late = late_by c.args.late.now in
    let none : links_in late c.args.simplex.now ≡ [] =
    (not_cut (length c.args.late.now) late c.args.simplex.now c.requires (sym c.is_cut.ensures ∙ c.if-is_cut.false)).no_links in
    sym (ap (λ (ls : List Link). c.args.links.now.items ++ ls) none ∙ append-nil c.args.links.now.items)
