-- Patterns and traces: what a label, and the tuples of its entry, look like in a facet of the cell.
use Rattle.std.specs.Prelude.{ℕ, ℤ, ◌+◌, ◌-◌, ◌*◌, Bool, ◌&&◌, List, [], ◌∷◌, map, if◌then◌else◌}
use Rattle.std.specs.List.{list_all}
use Rattle.iso_model.specs.declared.Kind.{Kind}
use Rattle.lists.specs.Orders.{numbers, choices}
use Rattle.iso_model.specs.Turns.{signed}
use Rattle.iso_model.specs.Cells.{facet_corners, facet_edges, label_count}
use Rattle.iso_model.specs.Seams.{Seam}
use Rattle.iso_model.specs.Faces.{face_count, face_sum}
use Rattle.iso_model.specs.Tables.{Table}
use Rattle.iso_model.specs.Acceptance.{meets_across}
use Rattle.lists.specs.Bits.{is_set}

-- bits as a number, the first bit the lowest
abbrev pub number_of_bits : List Bool → ℕ
number_of_bits [] = 0
number_of_bits (b ∷ bs) = (if b then 1 else 0) + 2 * number_of_bits bs

-- which members of a list are in a set: bit i is set where the member at place i is
abbrev pub places : List ℕ → ℕ → ℕ
places members set = number_of_bits (map (is_set set) members)

-- the pattern of a label on a facet: bit i is set where corner i of the facet is positive
abbrev pub pattern : Kind → ℕ → ℕ → ℕ → ℕ
pattern kind d f label = places (facet_corners kind d f) label

-- the trace of tuples in a facet: of each set of D - 1 edges of the facet the count and the sum, in the order of the choices of these edges
abbrev pub trace : Kind → ℕ → ℕ → List (List ℕ) → List (ℕ × ℤ)
trace kind d f tuples = map (λ face. (face_count tuples face, face_sum tuples face)) (choices (d - 1) (facet_edges kind d f))

-- the trace on the other side of a seam: the counts are the same, and the sums are the negatives where both cells have the same parity, and else the same
abbrev pub trace_across : Bool → List (ℕ × ℤ) → List (ℕ × ℤ)
trace_across same counts = map (λ (c : ℕ × ℤ). (c.0, signed same c.1)) counts

-- a label keeps the rule of seams at one seam, with the label at either end
abbrev pub keeps_seam : Table → ℕ → Seam → Bool
keeps_seam t label s = list_all (λ m. meets_across t s label m && meets_across t s m label) (numbers (label_count t.kind t.dimension))
