-- What an accepted table keeps of the rule of bipolar edges.
use Rattle.std.specs.Prelude.{◌≡◌, ℕ, ◌<◌, true}
use Rattle.std.proofs.Common.{subst, arith}
use Rattle.iso_model.specs.declared.Kind.{Kind}
use Rattle.iso_model.specs.Cells.{label_count}
use Rattle.iso_model.specs.Tables.{Table, entry_of}
use Rattle.iso_model.specs.Acceptance.{rule_edges, IsAccepted}

-- each entry keeps the rule of bipolar edges
pub keeps_edges : (t : Table) (kind : Kind) (d : ℕ) → IsAccepted t → t.kind ≡ kind → t.dimension ≡ d → (label : ℕ) → label < label_count kind d
    → rule_edges kind d label (entry_of t label) ≡ true
keeps_edges t kind d accepted same_kind same_dimension =
    subst (λ (k : Kind). (label : ℕ) → label < label_count k d → rule_edges k d label (entry_of t label) ≡ true) same_kind
    (subst (λ (n : ℕ). (label : ℕ) → label < label_count t.kind n → rule_edges t.kind n label (entry_of t label) ≡ true) same_dimension
    (λ label below. accepted label 1 below (omega arith)))
