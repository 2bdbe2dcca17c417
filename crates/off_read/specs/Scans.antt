-- A reader of a file's words: what is still to be read of the file, whatever comes, and what its calls make of it.
use Rattle.std.specs.Prelude.{◌≡◌, ℕ, ◌+◌, ◌-◌, ◌<◌, ◌≤◌, Bool, true, false, not, ◌&&◌, ◌==◌, nat_eq, List, [], ◌∷◌, ◌++◌, length}
use Rattle.std.specs.List.{list_all}
use Rattle.std.specs.Prelude.{Option, Some, None, ⊤}
use Rattle.std.specs.Io.KnownBytes.{Consumes, IsAtEnd}
use Rattle.iso_formats.specs.MeshFile.{Stage, MeshReading, MeshFault, lines_of, words_from, is_gap, next_stage, stage_behind, ends_at, mesh_refused}
use Rattle.iso_formats.specs.MeshFile.{wrong_header, wrong_count, wrong_coordinate, wrong_size, wrong_index, extra_word, short_of_words}
use Rattle.off_read.specs.declared.faults.OffFault.{OffFault}
use Rattle.off_read.specs.declared.faults.OffFault.TheVariants as Fault
use Rattle.off_read.specs.declared.reader.Place.{Place}
use Rattle.off_read.specs.declared.reader.Place.TheVariants.{LineStart, OnLine, Passing}
use Rattle.off_read.specs.ScanForms.{Scan, limit}
use Rattle.off_read.specs.WordForms.{IsSoFar, Known}

-- a reader before the first byte
abbrev pub new_scan : Scan
new_scan = record { left = []; taken = 0; ended = 0; place = LineStart }

-- ---- what is still to be read

-- on a line that has begun the rest reads as though a space stood before it, and in a comment as though # did
abbrev pub mark : Place → List ℕ
mark LineStart = []
mark OnLine = 32 ∷ []
mark Passing = 35 ∷ []

-- what a file is, of which so many lines ended, where its next word is asked to be this, and these bytes are to be read
unfoldable pub reading_from : ℕ → Stage → List ℕ → MeshReading
reading_from ended stage bytes = ends_at (ended + length (lines_of bytes)) (stage_behind stage (words_from (ended + 1) (lines_of bytes)))

-- what a file is, where its next word is asked to be this, a word has begun with this text, and these bytes come
abbrev pub reading_in : Scan → List ℕ → Stage → List ℕ → MeshReading
reading_in s text stage bytes = reading_from s.ended stage (mark s.place ++ (text ++ bytes))

-- what a file is, where its next word is asked to be this, and these bytes come behind those that are left
abbrev pub reading : Scan → Stage → List ℕ → MeshReading
reading s stage more = reading_in s [] stage (s.left ++ more)

-- how many lines the file has, where it ends here
abbrev pub lines_passed : Scan → ℕ
lines_passed s = s.ended + length (mark s.place)

-- the rest of the line is passed over, where the line has not ended
abbrev pub passed : Place → Place
passed LineStart = LineStart
passed OnLine = Passing
passed Passing = Passing

abbrev pub without_line : Scan → Scan
without_line s = record s { place = passed s.place }

-- the rest of the line is passed over
abbrev pub is_passing : Place → Bool
is_passing LineStart = false
is_passing OnLine = false
is_passing Passing = true

-- how many bytes may still be looked at
abbrev pub budget : Scan → ℕ
budget s = (limit - s.taken) + length s.left

-- ---- bytes

-- where what is left of a file is told before a call and after it, this holds of both
abbrev pub Told : Option (List ℕ) → Option (List ℕ) → (List ℕ → List ℕ → Type 0) → Type 0
Told None new P = ⊤
Told (Some a) None P = ⊥
Told (Some a) (Some b) P = P a b

-- bytes came off the front of what was left of a file, and are counted
pub record Takes (old_rest new_rest : Option (List ℕ)) (old new : Scan) : Type 0 where
  pub came : List ℕ
  pub consumed : Consumes old_rest new_rest came
  pub counted : new.taken ≡ old.taken + length came

-- and there are no more so far than a file has
abbrev pub TakesFew : Option (List ℕ) → Option (List ℕ) → Scan → Scan → Type 0
TakesFew old_rest new_rest old new = Takes old_rest new_rest old new × (new.taken ≤ limit)

-- and there is one more than a file has
abbrev pub TakesMany : Option (List ℕ) → Option (List ℕ) → Scan → Scan → Type 0
TakesMany old_rest new_rest old new = Takes old_rest new_rest old new × (new.taken ≡ limit + 1)

-- the same line and place
abbrev pub IsSameLine : Scan → Scan → Type 0
IsSameLine old new = (new.ended ≡ old.ended) × (new.place ≡ old.place)

-- bytes are left, which came now where none were left before; or the file has ended
pub record Refills (old_rest new_rest : Option (List ℕ)) (old new : Scan) (more : Bool) : Type 0 where
  pub takes : TakesFew old_rest new_rest old new
  pub same : IsSameLine old new
  pub counted : new.taken + length old.left ≡ old.taken + length new.left
  pub came : Told old_rest new_rest (λ a b. old.left ++ a ≡ new.left ++ b)
  pub some : more ≡ true → 0 < length new.left
  pub none : more ≡ false → (new.left ≡ []) × IsAtEnd new_rest

-- a byte is given, the first one of those that are left
pub record GivesNext (old_rest new_rest : Option (List ℕ)) (old new : Scan) (byte : ℕ) : Type 0 where
  pub takes : TakesFew old_rest new_rest old new
  pub same : IsSameLine old new
  pub spends : budget new < budget old
  pub next : Told old_rest new_rest (λ a b. old.left ++ a ≡ byte ∷ (new.left ++ b))
  pub before : new.ended + length new.left < new.taken

-- no byte is left
pub record FindsNone (old_rest new_rest : Option (List ℕ)) (old new : Scan) : Type 0 where
  pub takes : TakesFew old_rest new_rest old new
  pub same : IsSameLine old new
  pub end : IsAtEnd new_rest
  pub none : Told old_rest new_rest (λ a b. old.left ++ a ≡ [])
  pub left : new.left ≡ []
  pub spends : budget new ≤ budget old

abbrev pub GivesByte : Option (List ℕ) → Option (List ℕ) → Scan → Scan → Option ℕ → Type 0
GivesByte old_rest new_rest old new (Some byte) = GivesNext old_rest new_rest old new byte
GivesByte old_rest new_rest old new None = FindsNone old_rest new_rest old new

-- all that was left of the file came
abbrev pub Drains : Option (List ℕ) → Option (List ℕ) → Scan → Scan → Type 0
Drains old_rest new_rest old new = TakesFew old_rest new_rest old new × IsAtEnd new_rest

-- bytes can not be had: more came than a file has, or no more than that, and the shelf failed
abbrev pub Fails : Option (List ℕ) → Option (List ℕ) → Scan → Scan → OffFault → Type 0
Fails old_rest new_rest old new Fault.Long = TakesMany old_rest new_rest old new
Fails old_rest new_rest old new (Fault.Shelf count) = TakesFew old_rest new_rest old new
Fails old_rest new_rest old new fault = ⊥

-- ---- words

-- a byte that may stand in a word
abbrev pub is_word_byte : ℕ → Bool
is_word_byte c = not (is_gap c) && (not (c == 10) && not (nat_eq 35 c))

-- a word has begun with these bytes, or none has, and where one has, the reader stands on a line
pub record IsInWord (s : Scan) (text : List ℕ) : Type 0 where
  pub right : list_all is_word_byte text ≡ true
  pub standing : 0 < length text → s.place ≡ OnLine

-- a byte is seen behind a word that has begun with this text, or none: it ends the word; or the word goes on, or none has begun
abbrev pub Sees : Scan → Scan → Known → List ℕ → ℕ → Bool → Type 0
Sees old new word text byte true =
    IsSoFar word text
    × ((stage : Stage) (bytes : List ℕ) → reading_in old text stage (byte ∷ bytes)
    ≡ reading_in new [] (next_stage stage (record { text = text; line = lines_passed new })) bytes)
Sees old new word text byte false =
    (after : List ℕ) × IsSoFar word after × IsInWord new after
    × ((stage : Stage) (bytes : List ℕ) → reading_in old text stage (byte ∷ bytes) ≡ reading_in new after stage bytes)

-- a word may have begun since a call began
pub record ReadsOn (old_rest new_rest : Option (List ℕ)) (old new : Scan) (word : Known) : Type 0 where
  pub takes : TakesFew old_rest new_rest old new
  pub text : List ℕ
  pub known : IsSoFar word text
  pub begun : IsInWord new text
  pub spends : budget new ≤ budget old
  pub spends_more : 0 < length text → budget new < budget old
  pub reads : Told old_rest new_rest (λ a b. (stage : Stage) → reading old stage a ≡ reading_in new text stage (new.left ++ b))

-- bytes of a word come off the front of those that are left, where there are any on a line that has begun
pub record Runs (old new : Scan) (before after : Known) : Type 0 where
  pub run : List ℕ
  pub same : IsSameLine old new × (new.taken ≡ old.taken)
  pub left : old.left ≡ run ++ new.left
  pub right : list_all is_word_byte run ≡ true
  pub standing : 0 < length run → old.place ≡ OnLine
  pub known : (text : List ℕ) → IsSoFar before text → IsSoFar after (text ++ run)

-- a byte is seen, whatever the text of the word that has begun
abbrev pub IsSeen : Scan → Scan → Known → Known → ℕ → Bool → Type 0
IsSeen old new before after byte ends = (text : List ℕ) → IsSoFar before text → IsInWord old text → Sees old new after text byte ends

-- a word is given: it is the next one of the file
pub record GivesWord (old_rest new_rest : Option (List ℕ)) (old new : Scan) (word : Known) : Type 0 where
  pub takes : TakesFew old_rest new_rest old new
  pub spends : budget new < budget old
  pub text : List ℕ
  pub known : IsSoFar word text
  pub line : word.line ≡ lines_passed new
  pub next : Told old_rest new_rest
      (λ a b. (stage : Stage) → reading old stage a ≡ reading new (next_stage stage (record { text = text; line = word.line })) b)

-- no word is left, and the file has ended
pub record FindsEnd (old_rest new_rest : Option (List ℕ)) (old new : Scan) : Type 0 where
  pub takes : TakesFew old_rest new_rest old new
  pub end : IsAtEnd new_rest
  pub over : Told old_rest new_rest (λ a b. (stage : Stage) → reading old stage a ≡ ends_at (lines_passed new) stage)

abbrev pub Gives : Option (List ℕ) → Option (List ℕ) → Scan → Scan → Option Known → Type 0
Gives old_rest new_rest old new (Some word) = GivesWord old_rest new_rest old new word
Gives old_rest new_rest old new None = FindsEnd old_rest new_rest old new

-- ---- what is asked

-- where the next word was asked to be one thing, it is asked to be another
pub record Goes (old_rest new_rest : Option (List ℕ)) (old new : Scan) (before after : Stage) : Type 0 where
  pub takes : TakesFew old_rest new_rest old new
  pub spends : budget new ≤ budget old
  pub reads : Told old_rest new_rest (λ a b. reading old before a ≡ reading new after b)

-- where the next word was asked to be this, the file has this cause
abbrev pub Refuses : Option (List ℕ) → Option (List ℕ) → Scan → Scan → Stage → MeshFault → Type 0
Refuses old_rest new_rest old new stage cause =
    TakesFew old_rest new_rest old new × Told old_rest new_rest (λ a b. reading old stage a ≡ mesh_refused cause)

-- a call fails where the next word was asked to be this
abbrev pub FailsAt : Option (List ℕ) → Option (List ℕ) → Scan → Scan → Stage → OffFault → Type 0
FailsAt old_rest new_rest old new stage Fault.Long = TakesMany old_rest new_rest old new
FailsAt old_rest new_rest old new stage (Fault.Shelf count) = TakesFew old_rest new_rest old new
FailsAt old_rest new_rest old new stage Fault.Memory = TakesFew old_rest new_rest old new
FailsAt old_rest new_rest old new stage (Fault.Short n) = Refuses old_rest new_rest old new stage (short_of_words n) × IsAtEnd new_rest
FailsAt old_rest new_rest old new stage (Fault.Header n) = Refuses old_rest new_rest old new stage (wrong_header n)
FailsAt old_rest new_rest old new stage (Fault.Count n) = Refuses old_rest new_rest old new stage (wrong_count n)
FailsAt old_rest new_rest old new stage (Fault.Coordinate n) = Refuses old_rest new_rest old new stage (wrong_coordinate n)
FailsAt old_rest new_rest old new stage (Fault.FaceSize n) = Refuses old_rest new_rest old new stage (wrong_size n)
FailsAt old_rest new_rest old new stage (Fault.Index n) = Refuses old_rest new_rest old new stage (wrong_index n)
FailsAt old_rest new_rest old new stage (Fault.Extra n) = Refuses old_rest new_rest old new stage (extra_word n)

-- the words end where one more is asked for
abbrev pub EndsEarly : Option (List ℕ) → Option (List ℕ) → Scan → Scan → OffFault → Type 0
EndsEarly old_rest new_rest old new (Fault.Short n) =
    TakesFew old_rest new_rest old new × IsAtEnd new_rest × Told old_rest new_rest (λ a b. (stage : Stage) → reading old stage a ≡ ends_at n stage)
EndsEarly old_rest new_rest old new fault = Fails old_rest new_rest old new fault
