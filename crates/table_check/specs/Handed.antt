-- What a table that is not certified comes back with.
use Rattle.std.specs.Prelude.{◌≡◌, ℕ, List}
use Rattle.iso_model.specs.Seams.{Seam, seams}
use Rattle.iso_model.specs.Tables.{Table}
use Rattle.iso_model.specs.Acceptance.{IsRefusedOver}
use Rattle.iso_model.specs.OrderedAcceptance.{ordered_seams}
use Rattle.table_check.specs.declared.certified.CertifyFault.{CertifyFault}
use Rattle.table_check.specs.declared.certified.CertifyFault.TheVariants.{Refused, Memory}

-- the table is handed back as it was: refused over these seams at a label and a rule, or unchecked for want of memory
abbrev pub HandsBackOver : {D : ℕ} → List Seam → Table → CertifyFault D → Type 0
HandsBackOver ss t (Refused back label rule) = (back ≡ t) × IsRefusedOver ss t label rule
HandsBackOver ss t (Memory back) = back ≡ t

-- the same over the seams of its own kind and dimension
abbrev pub HandsBack : {D : ℕ} → Table → CertifyFault D → Type 0
HandsBack t fault = HandsBackOver (seams t.kind t.dimension) t fault

-- the same over the ordered seams
abbrev pub HandsBackInOrder : {D : ℕ} → Table → CertifyFault D → Type 0
HandsBackInOrder t fault = HandsBackOver ordered_seams t fault
