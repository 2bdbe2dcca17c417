use Rattle.std.proofs.Common.{rules, ◌≡◌, ℕ, ◌^◌, ◌<◌, ◌≤◌, length, pos, ◌*ℤ◌, ◌-ℤ◌, unsigned_abs, arith, ◌∙◌, ap}
use Rattle.std.specs.Prelude.{map}
use Rattle.std.proofs.lemmas.Int.{ints}
use Rattle.iso_model.specs.Points.{axes}
use Rattle.iso_model.specs.Crossing.{crossing}
use Rattle.edge_vertex.specs.EdgeEnds.{coordinate_between}
use Rattle.edge_vertex.proofs.Quotients.{lies_between}
use Rattle.edge_vertex.proofs.crossings.crossing.Goals as goal

pub point_between-requires : goal.point_between-requires
point_between-requires g c =
    let between = lies_between c.args.low c.args.high c.args.iso c.requires.bipolar in
    let part : c.abs_diff-part.result ≡ unsigned_abs (pos 8 *ℤ c.args.iso -ℤ c.args.low) = search rules in
    let way : c.abs_diff-way.result ≡ unsigned_abs (c.args.high -ℤ c.args.low) = search rules in
    let apart : unsigned_abs (c.args.high -ℤ c.args.low) ≤ 2 ^ 37 = omega (arith, ints, c.requires.low, c.requires.high) in
    let some : 0 < c.abs_diff-way.result = omega (arith, between.some, way) in
    let within : c.abs_diff-part.result ≤ c.abs_diff-way.result = omega (arith, between.part, part, way) in
    let few : c.abs_diff-way.result ≤ 2 ^ 37 = omega (arith, apart, way) in
    search (rules, c.requires.near, some, within, few)

pub returns : goal.returns
unfolding crossing
returns g c =
    let part : c.abs_diff-part.result ≡ unsigned_abs (pos 8 *ℤ c.args.iso -ℤ c.args.low) = search rules in
    let way : c.abs_diff-way.result ≡ unsigned_abs (c.args.high -ℤ c.args.low) = search rules in
    c.point_between.ensures
    ∙ ap (λ (n : ℕ). map (coordinate_between c.args.edge.now.low c.args.edge.now.high n c.abs_diff-way.result) (axes (length c.args.edge.now.low))) part
    ∙ ap
    (λ (n : ℕ).
    map (coordinate_between c.args.edge.now.low c.args.edge.now.high (unsigned_abs (pos 8 *ℤ c.args.iso -ℤ c.args.low)) n)
    (axes (length c.args.edge.now.low)))
    way
