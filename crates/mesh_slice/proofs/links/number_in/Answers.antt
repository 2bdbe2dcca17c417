use Rattle.std.proofs.Common.{rules, ◌≡◌, length, subst}
use Rattle.cut_laws.specs.Cuts.{number_in}
use Rattle.cut_laws.proofs.LinkOrder.{SaysNumber, searched_number}
use Rattle.mesh_slice.proofs.links.number_in.Goals as goal

pub returns-in-Ok : goal.returns-in-Ok
returns-in-Ok c =
    let says : SaysNumber c.args.links.now c.args.link c.binary_search.result =
    searched_number c.args.links.now c.requires.ascend c.args.link c.binary_search.result c.binary_search.ensures.bound c.binary_search.ensures.position in
    let at : number_in c.args.links.now c.args.link ≡ c.in-Ok.place = subst (SaysNumber c.args.links.now c.args.link) c.in-Ok.is says in
    search (rules, at)

pub returns-in-Err : goal.returns-in-Err
returns-in-Err c =
    let says : SaysNumber c.args.links.now c.args.link c.binary_search.result =
    searched_number c.args.links.now c.requires.ascend c.args.link c.binary_search.result c.binary_search.ensures.bound c.binary_search.ensures.position in
    let none : number_in c.args.links.now c.args.link ≡ length c.args.links.now = subst (SaysNumber c.args.links.now c.args.link) c.in-Err.is says in
    search (rules, none)
