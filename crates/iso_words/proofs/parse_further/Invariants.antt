use Rattle.std.proofs.Common.{◌≡◌, take}
use Rattle.iso_words.specs.Built.{texts}
use Rattle.iso_words.specs.Given.{Gave, given_count}
use Rattle.iso_words.proofs.parse_further.Given as goal

abbrev pub invariant-loop-i : goal.invariant-loop-i
invariant-loop-i l = record {
  gave : Gave l.name (take l.i (texts l.further)) l.given;
  count : given_count l.given ≡ l.i;
}
