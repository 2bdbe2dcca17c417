-- What each command means: a new command adds its lines at the end, and changes none.
use Rattle.std.specs.Prelude.{◌≡◌, ℕ, List, [], ◌∷◌, Option, None, ⊤}
use Rattle.iso_base.specs.Files.{Files, bytes_of}
use Rattle.iso_commands.specs.Commands.{Command, generate_command, check_command, extract_command, demo_command}
use Rattle.iso_commands.specs.Commands.{convert_command, audit_command, spectrum_command}
use Rattle.iso_model.specs.Tables.{Table}
use Rattle.iso_model.specs.Values.{Grid}
use Rattle.iso_cli.specs.declared.status.Status.{Status}
use Rattle.iso_cli.specs.Axes.{axes_needed}
use Rattle.iso_cli.specs.Audits.{HoldsGlued, IsCleanLine, IsRefusedAudit, LeavesOff}
use Rattle.iso_cli.specs.Demonstrations.{IsDemonstration, IsMadeAccepted, IsRefusedMade}
use Rattle.iso_cli.specs.Outputs.{IsAcceptance, IsConverted, IsGenerated, IsMeshText}
use Rattle.iso_cli.specs.Refusals.{HoldBoth, HoldsAccepted, HoldsTable, IsRefusedFile, IsRefusedForm, IsRefusedGrid, IsRefusedMesh, IsRefusedTable}
use Rattle.iso_cli.specs.Refusals.{LacksMeshFile}
use Rattle.iso_cli.specs.Rests.{LeavesGridFile, LeavesMeshFile, LeavesTableFile}
use Rattle.iso_cli.specs.Spectra.{HoldsGrid, IsSpectrumText}

-- what a command reads, needs, refuses and puts: the names of its files; that the files hold what it needs; that they are refused with a status;
-- what is left after that of the file that was read last; that one that it names is not there, and none is refused that is read before it; and that a
-- text is its whole output
pub record Meaning : Type 1 where
  pub reads : List (List ℕ)
  pub needs : Option Files → Type 0
  pub refuses : Option Files → Status → Type 0
  pub leaves : Option Files → Status → Option (List ℕ) → Type 0
  pub lacks : Option Files → Type 0
  pub puts : Option Files → List ℕ → Type 0

-- a command without files is not refused by any
abbrev pub without_files : (List ℕ → Type 0) → Meaning
without_files IsText = record {
  reads = [];
  needs = λ files. ⊤;
  refuses = λ files status. ⊥;
  leaves = λ files status rest. ⊤;
  lacks = λ files. ⊥;
  puts = λ files text. IsText text;
}

abbrev pub meaning : Command → Meaning
-- the table of the construction
meaning (generate_command kind d) = without_files (IsGenerated kind d)
-- the line for an accepted table
meaning (check_command table) = record {
  reads = table ∷ [];
  needs = λ files. (t : Table) × HoldsAccepted files table t;
  refuses = λ files status. IsRefusedFile files table IsRefusedTable status;
  leaves = λ files status rest. LeavesTableFile files table rest status;
  lacks = λ files. bytes_of files table ≡ None;
  puts = λ files text. IsAcceptance files table text;
}
-- the mesh by an accepted table in a grid of its dimension
meaning (extract_command table grid iso) = record {
  reads = table ∷ grid ∷ [];
  needs = λ files. (t : Table) × (g : Grid) × HoldBoth files table grid t g;
  refuses = λ files status. IsRefusedMesh files table grid status;
  leaves = λ files status rest. LeavesMeshFile files table grid rest status;
  lacks = λ files. LacksMeshFile files table grid;
  puts = λ files text. IsMeshText files table grid iso text;
}
-- what is said of a mesh by the table of the construction, which is refused where it is not accepted
meaning (demo_command kind d size seed) = record {
  reads = [];
  needs = λ files. IsMadeAccepted kind d;
  refuses = λ files status. IsRefusedMade kind d status;
  leaves = λ files status rest. ⊤;
  lacks = λ files. ⊥;
  puts = λ files text. IsDemonstration kind d size seed text;
}
-- version 2 of the table, whether or not it is accepted
meaning (convert_command table) = record {
  reads = table ∷ [];
  needs = λ files. (t : Table) × HoldsTable files table t;
  refuses = λ files status. IsRefusedFile files table IsRefusedForm status;
  leaves = λ files status rest. LeavesTableFile files table rest status;
  lacks = λ files. bytes_of files table ≡ None;
  puts = λ files text. IsConverted files table text;
}
-- the line for a mesh of anybody whose simplices are glued
meaning (audit_command mesh) = record {
  reads = mesh ∷ [];
  needs = λ files. (boundary : ℕ) × HoldsGlued files mesh boundary;
  refuses = λ files status. IsRefusedFile files mesh IsRefusedAudit status;
  leaves = λ files status rest. LeavesOff files mesh rest status;
  lacks = λ files. bytes_of files mesh ≡ None;
  puts = λ files text. IsCleanLine files mesh text;
}
-- the spectrum of a grid whose dimension cells of the kind have
meaning (spectrum_command kind grid from to) = record {
  reads = grid ∷ [];
  needs = λ files. (g : Grid) × HoldsGrid files grid kind g;
  refuses = λ files status. IsRefusedFile files grid (IsRefusedGrid (axes_needed kind)) status;
  leaves = λ files status rest. LeavesGridFile files grid (axes_needed kind) rest status;
  lacks = λ files. bytes_of files grid ≡ None;
  puts = λ files text. IsSpectrumText files grid kind from to text;
}
