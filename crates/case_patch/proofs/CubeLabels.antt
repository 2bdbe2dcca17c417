-- Labels, edges and corners of a cell that is a cube.
use Rattle.std.specs.Prelude.{◌≡◌, ℕ, ◌+◌, ◌^◌, ◌<◌, ◌≤◌, List, length, All}
use Rattle.std.proofs.Common.{sym, ap, subst, arith}
use Rattle.iso_model.specs.declared.Kind.{Kind}
use Rattle.iso_model.specs.declared.Kind.TheVariants.{Cube}
use Rattle.iso_model.specs.Cells.{HasDimension, corner_count, edge_count}
use Rattle.iso_model.specs.Entries.{label_edges, label_corners}
use Rattle.case_patch.proofs.LabelPoints.{edges_below, corners_below, few_points}

pub cube_label : (kind : Kind) (d corners label : ℕ) → kind ≡ Cube → corners ≡ corner_count kind d → label < 2 ^ corners → label < 2 ^ (2 ^ d)
cube_label kind d corners label k c h = subst (λ (q : Kind). label < 2 ^ corner_count q d) k (subst (λ (n : ℕ). label < 2 ^ n) c h)

pub cube_edges_below : (kind : Kind) (d label : ℕ) (es : List ℕ) → kind ≡ Cube → es ≡ label_edges kind d label → All (λ e. e < edge_count Cube d) es
cube_edges_below kind d label es k e = subst (λ (q : Kind). All (λ x. x < edge_count q d) es) k
    (subst (All (λ x. x < edge_count kind d)) (sym e) (edges_below kind d label))

pub cube_corners_below : (kind : Kind) (d label : ℕ) (ks : List ℕ) → kind ≡ Cube → ks ≡ label_corners kind d label → All (λ k. k < 2 ^ d) ks
cube_corners_below kind d label ks k e = subst (λ (q : Kind). All (λ x. x < corner_count q d) ks) k
    (subst (All (λ x. x < corner_count kind d)) (sym e) (corners_below kind d label))

pub few_of : (kind : Kind) (d label : ℕ) (es ks : List ℕ) → HasDimension kind d → es ≡ label_edges kind d label → ks ≡ label_corners kind d label
    → length es + length ks ≤ 48
few_of kind d label es ks has e k = omega (arith, ap length e, ap length k, few_points kind d label has)
