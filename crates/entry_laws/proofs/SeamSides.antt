-- Two entries that meet across a seam, seen from either end of the seam, by the parities of the two cells.
use Rattle.std.proofs.Common.{◌≡◌, ℕ, ◌+◌, ◌<◌, Bool, true, false, List, refl, sym, arith}
use Rattle.std.specs.Prelude.{◌%◌, ◌↔◌}
use Rattle.std.proofs.lemmas.Bool.{false≢true}
use Rattle.lists.specs.Orders.{sorted}
use Rattle.iso_model.specs.Cells.{edge_count, edge_in_facet, label_count}
use Rattle.iso_model.specs.Seams.{Seam}
use Rattle.iso_model.specs.Tables.{Table}
use Rattle.iso_model.specs.Acceptance.{labels_meet}
use Rattle.lists.specs.Members.{Each}
use Rattle.lists.proofs.Sorting.{bit}

-- two labels that meet across a seam, the first at the seam's first facet
pub record MeetAt (t : Table) (s : Seam) (here there : ℕ) : Type 0 where
  pub is_label : here < label_count t.kind t.dimension
  pub other_label : there < label_count t.kind t.dimension
  pub agree : labels_meet t.kind t.dimension s here there ≡ true

-- an ascending list of edges of the seam's first facet
pub record IsOnSeam (t : Table) (s : Seam) (face : List ℕ) : Type 0 where
  pub ascends : sorted face ≡ face
  pub edges : Each (λ e. (e < edge_count t.kind t.dimension) × (edge_in_facet t.kind t.dimension s.facet e ≡ true)) face

-- the sign turns once where the parities are the same, and else twice
turns : (same a b : Bool) → (same ≡ true) ↔ (a ≡ b) → (m : ℕ) → (m + bit same) % 2 ≡ (m + 1 + bit a + bit b) % 2
turns true true true tells m = omega arith
turns true true false tells m = absurd (false≢true (sym (tells.0 refl)))
turns true false true tells m = absurd (false≢true (tells.0 refl))
turns true false false tells m = omega arith
turns false true true tells m = absurd (false≢true (tells.1 refl))
turns false true false tells m = omega arith
turns false false true tells m = omega arith
turns false false false tells m = absurd (false≢true (tells.1 refl))
