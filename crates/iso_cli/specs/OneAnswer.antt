-- That an answer is the only one.
use Rattle.std.specs.Prelude.{◌≡◌, ◌⊎◌, ℕ, List, Some}
use Rattle.iso_base.specs.Files.{Files}
use Rattle.iso_cli.specs.declared.status.Status.{Status}
use Rattle.iso_cli.specs.Runs.{HoldNeeded, IsTrueAnswer, SayBuilt}
use Rattle.iso_cli.specs.Statuses.{IsDecided, IsUsage}

-- an answer that the words, or the bytes of the files, decide
abbrev pub IsExact : Status → Type 0
IsExact status = IsUsage status ⊎ IsDecided status

-- two such answers that are true of the same words and the same files are equal
abbrev pub HaveOneAnswer : Files → List (List ℕ) → Type 0
HaveOneAnswer files words =
    (a b : Status) → IsExact a → IsExact b → IsTrueAnswer (Some files) words a → IsTrueAnswer (Some files) words b → a ≡ b

-- where such an answer is true, the words say no command for which the files hold what it needs
abbrev pub LackWhereRefused : Files → List (List ℕ) → Type 0
LackWhereRefused files words = (a : Status) → IsExact a → IsTrueAnswer (Some files) words a → ¬ SayBuilt words (HoldNeeded (Some files))
