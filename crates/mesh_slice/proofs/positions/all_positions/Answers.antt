use Rattle.std.proofs.Common.{rules, ◌≡◌, ◌++◌, List, [], ◌∷◌, true, get_or, ℤ, w64, to_z, of_z, ap, sym, ◌∙◌, subst}
use Rattle.std.specs.Prelude.{is_ok, if◌then◌else◌}
use Rattle.std.proofs.lemmas.Int.{to_z-of_z}
use Rattle.cut_laws.specs.declared.Link.{Link}
use Rattle.cut_laws.specs.Cuts.{position_on}
use Rattle.mesh_slice.specs.Slices.{IsCrossed}
use Rattle.mesh_slice.proofs.GrowingLists.{mapped_more}
use Rattle.mesh_slice.proofs.positions.all_positions.Goals as goal

pub position_on-requires-clause-crossed : goal.position_on-requires-clause-crossed
position_on-requires-clause-crossed c =
    subst (λ (z : ℤ). IsCrossed c.args.vertices.now z (get_or c.args.links.now c.loop-link.link-index (record { low = 0; high = 0 })))
    (sym (to_z-of_z w64 c.args.time c.ranges.time))
    (c.requires.crossed c.loop-link.link-index (record { low = 0; high = 0 }) c.loop-link-test.true)

pub loop-link-preserved : goal.loop-link-preserved
loop-link-preserved c =
    let f : Link → List ℤ = position_on c.args.vertices.now (to_z w64 (of_z w64 c.args.time)) in
    let ok : is_ok c.push.result ≡ true = search rules in
    let pushed : c.push.new.self.items ≡ c.loop-link.positions.items ++ c.position_on.result ∷ [] =
    c.push.ensures.items ∙ ap (λ b. if b then c.loop-link.positions.items ++ c.position_on.result ∷ [] else c.loop-link.positions.items) ok in
    mapped_more f c.args.links.now c.loop-link.link-index (record { low = 0; high = 0 }) [] c.loop-link.positions.items c.push.new.self.items
    c.loop-link-test.true c.loop-link.invariant (pushed ∙ ap (λ (x : List ℤ). c.loop-link.positions.items ++ x ∷ []) c.position_on.ensures)
