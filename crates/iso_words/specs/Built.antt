-- The commands that are built, and what a list of words asks for.
use Rattle.std.specs.Prelude.{ℕ, Bool, true, false, List, map, IsTrue}
use Rattle.std.specs.String.{string_bytes}
use Rattle.std.specs.declared.string.String.{String}
use Rattle.iso_commands.specs.Commands.{Command as Asked, Say, generate_command, check_command, extract_command, demo_command, convert_command, audit_command}
use Rattle.iso_commands.specs.Commands.{spectrum_command}
use Rattle.iso_words.specs.declared.Command.{Command}
use Rattle.iso_words.specs.declared.Command.TheVariants.{Generate, Check, Extract, Demo, Convert, Audit, Spectrum}

-- the commands that are built
abbrev pub is_built : Asked → Bool
is_built (generate_command kind d) = true
is_built (check_command table) = true
is_built (extract_command table grid iso) = true
is_built (demo_command kind d size seed) = true
is_built (convert_command table) = true
is_built (audit_command mesh) = true
is_built (spectrum_command kind grid from to) = true

-- the bytes of each word
abbrev pub texts : {A : Type 0} → List (String A) → List (List ℕ)
texts words = map string_bytes words

-- this holds of each command that is built and that the words say
abbrev pub EachSaid : List (List ℕ) → (Asked → Type 0) → Type 0
EachSaid words P = (command : Asked) → IsTrue (is_built command) → Say words command → P command

-- the command, by the bytes of its values
abbrev pub asked : Command → Asked
asked (Generate kind dim) = generate_command kind dim
asked (Check table) = check_command table.now
asked (Extract table grid iso) = extract_command table.now grid.now iso
asked (Demo kind dim size seed) = demo_command kind dim size seed
asked (Convert table) = convert_command table.now
asked (Audit mesh) = audit_command mesh.now
asked (Spectrum kind grid from to) = spectrum_command kind grid.now from to
