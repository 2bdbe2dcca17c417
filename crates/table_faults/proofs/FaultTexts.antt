-- Texts of faults that are put piece by piece.
use Rattle.std.specs.Prelude.{◌≡◌, ℕ, ◌+◌, ◌-◌, ◌≤◌, List, [], ◌++◌, length, take, drop, Option, Result, Ok, Err, OnErr}
use Rattle.std.specs.Io.KnownBytes.{Appends}
use Rattle.std.proofs.Common.{refl, sym, ap, ◌∙◌, subst, arith, append_assoc, append-nil, length-append, take-append-drop}
use Rattle.std.proofs.KnownBytes.{Appends-trans}
use Rattle.std.proofs.Math.Seq.{take-add}
use Rattle.std.proofs.Transfers.{drop-appended}
use Rattle.std.proofs.lemmas.List.{take-append-le, take_at}
use Rattle.std.proofs.lemmas.List.Concat.{flat_map-append}
use Rattle.iso_base.specs.Fronts.{AppendsFront}
use Rattle.table_faults.specs.declared.faults.Fault.{Fault}
use Rattle.table_faults.specs.FaultText.{count_line, fault_line, fault_lines, faults_text}

-- a front of a piece, put behind all that stands before the piece in a text, makes a front of the text
front_within : (a b c : Option (List ℕ)) (text before piece after : List ℕ) → text ≡ before ++ (piece ++ after) → Appends a b before
    → AppendsFront b c piece → AppendsFront a c text
front_within a b c text before piece after e p q =
    let rest : drop (length before) text ≡ piece ++ after = drop-appended before text (piece ++ after) e in
    let first : take (length before) text ≡ before = rw e (take_at before (piece ++ after) (length before) refl) in
    let cut : take (length before + q.0) text ≡ before ++ take q.0 piece =
    rw (take-add (length before) q.0 text, first, rest, take-append-le q.0 piece after q.1) refl in
    let short : length before + q.0 ≤ length text =
    omega (arith, q.1, ap (λ (xs : List ℕ). length xs) e, length-append before (piece ++ after), length-append piece after) in
    (length before + q.0, short, rw cut (Appends-trans a b c before (take q.0 piece) p q.2))

-- so it is where putting the piece failed
pub failed_within :
    {T E : Type 0} (put : Result T E) (a b c : Option (List ℕ)) (text before piece after : List ℕ) → text ≡ before ++ (piece ++ after) → Appends a b before
    → AppendsFront b c piece → OnErr put (AppendsFront a c text)
failed_within (Ok x) a b c text before piece after e p q = tt
failed_within (Err x) a b c text before piece after e p q = front_within a b c text before piece after e p q

-- the same of the last piece of a text
pub front_last : (a b c : Option (List ℕ)) (before piece : List ℕ) → Appends a b before → AppendsFront b c piece → AppendsFront a c (before ++ piece)
front_last a b c before piece p q =
    front_within a b c (before ++ piece) before piece [] (ap (λ (xs : List ℕ). before ++ xs) (sym (append-nil piece))) p q

-- the lines up to a place, and those of a page from there on
pub lines_more : (faults : List Fault) (i j : ℕ) → i ≤ j → fault_lines (take i faults) ++ fault_lines (take (j - i) (drop i faults)) ≡ fault_lines (take j faults)
lines_more faults i j less =
    let e : i + (j - i) ≡ j = omega arith in
    sym (flat_map-append fault_line (take i faults) (take (j - i) (drop i faults)))
    ∙ ap fault_lines (sym (take-add i (j - i) faults) ∙ ap (λ (n : ℕ). take n faults) e)

-- the text, by the lines up to a place, those of a page, and what stands behind it
pub text_parts : (faults : List Fault) (i j : ℕ) → i ≤ j
    → faults_text faults
    ≡ fault_lines (take i faults) ++ (fault_lines (take (j - i) (drop i faults)) ++ (fault_lines (drop j faults) ++ count_line (length faults)))
text_parts faults i j less =
    let front = fault_lines (take i faults) in
    let page = fault_lines (take (j - i) (drop i faults)) in
    let rest = fault_lines (drop j faults) in
    let last = count_line (length faults) in
    let all : fault_lines faults ≡ (front ++ page) ++ rest =
    ap fault_lines (sym (take-append-drop j faults)) ∙ flat_map-append fault_line (take j faults) (drop j faults)
    ∙ ap (λ (xs : List ℕ). xs ++ rest) (sym (lines_more faults i j less)) in
    ap (λ (xs : List ℕ). xs ++ last) all ∙ append_assoc (front ++ page) rest last ∙ append_assoc front page (rest ++ last)
