use Rattle.std.proofs.Common.{◌≡◌, ◌*◌, ◌≤◌, ℕ, List, length, sym, ◌∙◌, subst, arith}
use Rattle.std.specs.Prelude.{flat_map}
use Rattle.std.specs.List.{dedup}
use Rattle.std.specs.List.Sorted.{IsPermutation}
use Rattle.std.proofs.lemmas.List.Filters.{dedup_is}
use Rattle.lists.proofs.Contained.{each-from_All}
use Rattle.lists.proofs.MemberLaws.{Contains_from}
use Rattle.cut_laws.specs.declared.Link.{Link}
use Rattle.cut_laws.specs.Cuts.{same_link}
use Rattle.cut_laws.specs.CutSteps.{IsSimplex, links_in}
use Rattle.cut_laws.proofs.FoundLinks.{found_links_are, found_few}
use Rattle.cut_laws.proofs.LinkOrder.{ordered_once}
use Rattle.mesh_slice.specs.Slices.{late_by}
use Rattle.mesh_slice.proofs.links.all_links.Goals as goal

pub returns-clause-links : goal.returns-clause-links
returns-clause-links c =
    let n : ℕ = length c.args.late.now in
    let late = late_by c.args.late.now in
    let sorted : List Link = c.sort_unstable.new.self.items in
    let freed : c.dedup.new.self.items ≡ dedup same_link sorted = dedup_is _ _ _ c.dedup.ensures.filtered in
    let once = ordered_once (flat_map (links_in late) c.args.simplices.now) sorted
    (subst (λ (ls : List Link). IsPermutation ls sorted) c.in_ok-links.ensures c.sort_unstable.ensures.permutation) c.sort_unstable.ensures.sorted in
    freed
    ∙ found_links_are n late c.args.simplices.now
    (λ w i. each-from_All (IsSimplex n) c.args.simplices.now c.requires.simplices w (Contains_from c.args.simplices.now w i)) (dedup same_link sorted) once.0 once.1

pub returns-clause-few : goal.returns-clause-few
returns-clause-few c =
    let late = late_by c.args.late.now in
    let found : length c.in_ok-links.links.items ≤ 6 * length c.args.simplices.now =
    subst (λ (ls : List Link). length ls ≤ 6 * length c.args.simplices.now) (sym c.in_ok-links.ensures) (found_few late c.args.simplices.now) in
    omega (arith, found, c.sort_unstable.ensures.len, c.dedup.ensures.bound, c.requires.few, c.sort_unstable.new.self.ok, c.in_ok-links.links.ok, c.dedup.new.self.ok)
