-- The simplices of a cell whose edges are numbered.
use Rattle.std.proofs.Common.{ap, sym, ◌∙◌}
use Rattle.std.specs.Prelude.{ℕ, ◌≡◌, Bool, List, length, map, slice_index, if◌then◌else◌}
use Rattle.lists.specs.Orders.{exchange_last}
use Rattle.lists.proofs.MemberLaws.{map_same}
use Rattle.iso_model.specs.Bipolar.{bipolar_edges, is_bipolar_in}
use Rattle.iso_model.specs.Placed.{cell_simplices, placed_tuple}
use Rattle.iso_model.specs.Splits.{edge, is_odd_cell, midpoint}
use Rattle.iso_model.specs.Tables.{Table, entry_of}
use Rattle.iso_model.specs.Values.{Volume, label_of}
use Rattle.iso_model.proofs.DimensionLaws.{dimension_cases}
use Rattle.edge_middles.specs.GridMiddles.{count_before}
use Rattle.edge_middles.proofs.MeshMiddles.{entry_edges, has_counted}
use Rattle.layer_mesh.specs.CellNumbers.{TellsCell}

pub cell_counted : (v : Volume) (cell d : ℕ) (t : Table) (label : ℕ) (numbers : List ℕ) (odd : Bool) → TellsCell v cell d t label numbers odd
    → map (placed_tuple odd (λ e. slice_index numbers e)) (entry_of t label) ≡ cell_simplices v t (bipolar_edges v) cell
cell_counted v cell d t label numbers odd told =
    let own : Bool = is_odd_cell v.kind v.sizes cell in
    let number : ℕ → ℕ = λ e. slice_index numbers e in
    let count : ℕ → ℕ = λ e. count_before v (midpoint (edge v.kind v.sizes cell e)) in
    (λ i. map (placed_tuple (told.own_sign i) number) (entry_of t (told.own_label i)))
    ∙ map_same (placed_tuple own number) (placed_tuple own count) (entry_of t (label_of v cell)) (λ w i.
    ap (λ (u : List ℕ). if own then exchange_last u else u) (map_same number count w (λ e j.
    let of = entry_edges v t cell told.entry w i e j in
    told.counted e of.0 (ap (λ l. is_bipolar_in v.kind (length v.sizes) l e) told.own_label ∙ of.1))))
    ∙ sym (has_counted v t told.fits (dimension_cases v.kind (length v.sizes) told.fits) cell told.inside told.entry)
