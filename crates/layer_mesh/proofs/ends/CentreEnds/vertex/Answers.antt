use Rattle.std.proofs.Common.{rules, arith, subst, sym, ◌∙◌, ◌≡◌, ◌≤◌, ◌^◌, All, List, [], ◌∷◌, ℕ, zero, suc, true}
use Rattle.std.specs.Prelude.{int_le}
use Rattle.iso_model.specs.Bipolar.{differ}
use Rattle.iso_model.specs.Values.{is_positive}
use Rattle.iso_model.proofs.SignLaws.{differ-exchanged}
use Rattle.edge_vertex.specs.Sums.{sample}
use Rattle.layer_mesh.specs.RowVertices.{middle_in}
use Rattle.layer_mesh.proofs.ends.CentreEnds.vertex.Goals as goal

-- a row of small coordinates stays one where the first is another small one
few_middle : (row : List ℕ) (n : ℕ) → All (λ k. k ≤ 2 ^ 30) row → n ≤ 2 ^ 30 → All (λ k. k ≤ 2 ^ 30) (middle_in row n)
few_middle row n few low zero d h = low
few_middle [] n few low (suc i) d h = absurd (omega (arith, h))
few_middle (a ∷ row) n few low (suc i) d h = few (suc i) d h

pub crossing_from_centre-requires : goal.crossing_from_centre-requires
crossing_from_centre-requires g c =
    let few : All (λ k. k ≤ 2 ^ 30) c.middle_in-middle.result =
    subst (All (λ k. k ≤ 2 ^ 30)) (sym c.middle_in-middle.ensures) (few_middle c.args.self.now.row c.args.coordinate c.requires.sound.few c.requires.coordinate) in
    let bipolar : differ (is_positive c.args.self.now.iso c.sum-sum.result) (int_le c.args.self.now.iso (sample c.args.self.now.corners.now c.args.y)) ≡ true =
    subst (λ s. differ (is_positive c.args.self.now.iso s) (int_le c.args.self.now.iso (sample c.args.self.now.corners.now c.args.y)) ≡ true)
    (sym c.sum-sum.ensures.sum) c.requires.crossed.2 in
    search (rules, few, bipolar)

pub crossing_from_corner-requires : goal.crossing_from_corner-requires
crossing_from_corner-requires g c =
    let few : All (λ k. k ≤ 2 ^ 30) c.middle_in-middle.result =
    subst (All (λ k. k ≤ 2 ^ 30)) (sym c.middle_in-middle.ensures) (few_middle c.args.self.now.row c.args.coordinate c.requires.sound.few c.requires.coordinate) in
    let bipolar : differ (int_le c.args.self.now.iso (sample c.args.self.now.corners.now c.args.y)) (is_positive c.args.self.now.iso c.sum-sum.result) ≡ true =
    differ-exchanged (is_positive c.args.self.now.iso c.sum-sum.result) (int_le c.args.self.now.iso (sample c.args.self.now.corners.now c.args.y))
    ∙ subst (λ s. differ (is_positive c.args.self.now.iso s) (int_le c.args.self.now.iso (sample c.args.self.now.corners.now c.args.y)) ≡ true)
    (sym c.sum-sum.ensures.sum) c.requires.crossed.2 in
    search (rules, few, bipolar)
