-- Calls that are lent one shelf, one after the other.
use Rattle.std.proofs.Common.{ℕ, Option, arith, ◌∙◌}
use Rattle.iso_base.specs.Files.{Files}
use Rattle.iso_base.specs.Shelves.{IsSameShelf}

pub IsSameShelf-then : {S : Type 0} (faults : S → ℕ) (files : S → Option Files) (sound : S → Type 0) (a b c : S) → IsSameShelf faults files sound a b
    → IsSameShelf faults files sound b c → IsSameShelf faults files sound a c
IsSameShelf-then faults files sound a b c first then = record {
  later = omega (arith, first.later, then.later);
  stay = then.stay ∙ first.stay;
  sound_stays = λ s. then.sound_stays (first.sound_stays s);
}
