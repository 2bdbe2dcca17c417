-- What may be taken of a whole grid file while nothing is decided.
use Rattle.std.proofs.Common.{◌≡◌, ℕ, suc, ◌+◌, ◌-◌, ◌≤◌, List, [], ◌∷◌, ◌++◌, length, take, drop, Option, None, Some, inl, inr}
use Rattle.std.proofs.Common.{refl, sym, ap, ◌∙◌, subst, arith, append_assoc, length-append, take-append-drop}
use Rattle.std.specs.Prelude.{IfSome, Result, Ok, Err, flat_map}
use Rattle.std.proofs.lemmas.List.{length-drop, take_at}
use Rattle.iso_model.specs.Values.{product}
use Rattle.iso_formats.specs.HeaderLines.{line_bytes}
use Rattle.iso_formats.specs.GridFile.{HasHeader, Header, sample_limit}
use Rattle.iso_base.specs.Shelves.{TakesAtMost}
use Rattle.nrrd_raw.specs.declared.faults.GridFault.{GridFault}
use Rattle.nrrd_raw.specs.FaultCauses.{data_length}
use Rattle.nrrd_raw.specs.GridFaultWords.{blame_of}
use Rattle.nrrd_raw.specs.Headers.{HeaderIsRead}
use Rattle.nrrd_raw.specs.Undecided.{BlamesWhile, EndsOpenFile, EndsOpenHeader, IsOpenData, IsOpenFile, IsOpenHeader, TakesSuch}
use Rattle.nrrd_raw.proofs.OpenLaws.{some_map}

-- bytes that begin with a header begin with it too where they are cut off behind it
pub header_moved : (bytes data_bytes taken left : List ℕ) (h : Header) → HasHeader bytes h data_bytes → data_bytes ≡ taken ++ left
    → (front : List ℕ) × (bytes ≡ front ++ left) × HasHeader front h taken
header_moved bytes data_bytes taken left h (texts, lines, spelled) same =
    let head : List ℕ = flat_map line_bytes lines.lines in
    let is : bytes ≡ (head ++ taken) ++ left =
    lines.spelled ∙ ap (λ (bs : List ℕ). head ++ bs) same ∙ sym (append_assoc head taken left) in (
      head ++ taken,
      is,
      (
        texts,
        record { lines = lines.lines; are_lines = lines.are_lines; spelled = refl; read = lines.read; filled = lines.filled; short = lines.short },
        spelled,
      ),
    )

-- a list without its last one
without_last : (xs ys : List ℕ) → length ys ≡ 1 → take (length (xs ++ ys) - 1) (xs ++ ys) ≡ xs
without_last xs ys one =
    let place : length (xs ++ ys) - 1 ≡ length xs = omega (arith, length-append xs ys, one) in
    ap (λ (i : ℕ). take i (xs ++ ys)) place ∙ take_at xs ys (length xs) refl

-- what was taken of the header alone
pub header_open : (old new : Option (List ℕ)) → TakesSuch IsOpenHeader old new → TakesSuch IsOpenFile old new
header_open old new takes = (takes.0, inl takes.1, takes.2)

pub header_ends : (old new : Option (List ℕ)) → TakesSuch EndsOpenHeader old new → TakesSuch EndsOpenFile old new
header_ends old new takes = (takes.0, inl takes.1, takes.2)

-- what was taken behind a header decides nothing
pub samples_open : (old middle new : Option (List ℕ)) (h : Header) → HeaderIsRead old middle h → TakesSuch EndsOpenHeader old middle
    → TakesSuch (IsOpenData h) middle new → TakesSuch IsOpenFile old new
samples_open None middle new h read header takes = (take (length header.0 - 1) header.0, inl header.1, tt)
samples_open (Some bytes) middle new h (data_bytes, has, is) header takes =
    go new (subst (λ (o : Option (List ℕ)). TakesSuch (IsOpenData h) o new) is takes)
  where
    go : (now : Option (List ℕ)) → TakesSuch (IsOpenData h) (Some data_bytes) now → TakesSuch IsOpenFile (Some bytes) now
    go None took = absurd took.2
    go (Some left) took =
        let moved = header_moved bytes data_bytes took.0 left h has took.2 in (moved.0, inr (h, took.0, moved.2, took.1), moved.1)

-- no byte was taken behind one that decides
pub samples_end : (old middle new : Option (List ℕ)) (h : Header) → HeaderIsRead old middle h → TakesSuch EndsOpenHeader old middle
    → product h.sizes ≤ sample_limit → TakesAtMost (data_length h + 1) middle new → TakesSuch EndsOpenFile old new
samples_end None middle new h read header few takes = (header.0, inl header.1, tt)
samples_end (Some bytes) middle new h (data_bytes, has, is) header few takes =
    go new (subst (λ (o : Option (List ℕ)). TakesSuch EndsOpenHeader (Some bytes) o) is header)
    (subst (λ (o : Option (List ℕ)). TakesAtMost (data_length h + 1) o new) is takes)
  where
    go : (now : Option (List ℕ)) → TakesSuch EndsOpenHeader (Some bytes) (Some data_bytes) → TakesAtMost (data_length h + 1) (Some data_bytes) now
        → TakesSuch EndsOpenFile (Some bytes) now
    go None ends took = absurd took.2
    go (Some left) ends ([], short, same) = (ends.0, inl ends.1, ends.2 ∙ ap (λ (bs : List ℕ). ends.0 ++ bs) same)
    go (Some left) ends (b ∷ bs, short, same) =
        let n : ℕ = length bs in
        let kept : List ℕ = take n (b ∷ bs) in
        let last : List ℕ = drop n (b ∷ bs) in
        let one : length last ≡ 1 = omega (arith, length-drop n (b ∷ bs)) in
        let parts : kept ++ last ≡ b ∷ bs = take-append-drop n (b ∷ bs) in
        let whole : data_bytes ≡ kept ++ (last ++ left) =
        same ∙ ap (λ (xs : List ℕ). xs ++ left) (sym parts) ∙ append_assoc kept last left in
        let count : length kept + length last ≡ suc n = sym (length-append kept last) ∙ ap length parts in
        let moved = header_moved bytes data_bytes kept (last ++ left) h has whole in
        let open' : IsOpenFile moved.0 =
        inr (h, kept, moved.2, record { few = few; short = omega (arith, short, count, one) }) in (
          moved.0 ++ last,
          subst IsOpenFile (sym (without_last moved.0 last one)) open',
          moved.1 ∙ sym (append_assoc moved.0 last left),
        )

-- ---- by the fault that is answered

pub blamed_header : (old new : Option (List ℕ)) (fault : GridFault) → IfSome (blame_of fault) (λ n. TakesSuch IsOpenHeader old new)
    → IfSome (blame_of fault) (λ n. TakesSuch IsOpenFile old new)
blamed_header old new fault blames = some_map (blame_of fault) (header_open old new) blames

pub blames_samples : {T : Type 0} (r : Result T GridFault) (old middle new : Option (List ℕ)) (h : Header) → HeaderIsRead old middle h
    → TakesSuch EndsOpenHeader old middle → BlamesWhile (IsOpenData h) middle new r → BlamesWhile IsOpenFile old new r
blames_samples (Ok x) old middle new h read header blames = tt
blames_samples (Err fault) old middle new h read header blames = some_map (blame_of fault) (samples_open old middle new h read header) blames
