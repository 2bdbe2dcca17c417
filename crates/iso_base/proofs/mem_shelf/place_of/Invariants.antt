use Rattle.std.proofs.Common.{◌≡◌, drop}
use Rattle.iso_base.specs.Files.{file_bytes}
use Rattle.iso_base.proofs.mem_shelf.place_of.Given as goal

-- no file before `place` has the name
abbrev pub invariant-loop-place : goal.invariant-loop-place
invariant-loop-place l = file_bytes l.files l.name ≡ file_bytes (drop l.place l.files) l.name
