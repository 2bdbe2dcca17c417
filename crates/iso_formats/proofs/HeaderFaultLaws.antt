-- Bytes that begin with a well-formed header have no header fault.
use Rattle.std.specs.Prelude.{◌≡◌, ◌⊎◌, ℕ, Bool, true, false, ◌||◌, List, [], ◌∷◌, ◌++◌, map, flat_map, codes, slice_index_or, Some, None}
use Rattle.std.proofs.Common.{refl, sym, ap, ◌∙◌, subst, inl, inr}
use Rattle.std.proofs.lemmas.Bool.{false≢true, or_cases}
use Rattle.std.proofs.lemmas.List.{append_assoc}
use Rattle.std.proofs.lemmas.Slice.Eq.{bytes_eq-Decides}
use Rattle.lists.specs.Orders.{same_list}
use Rattle.iso_formats.specs.HeaderLines.{Line, line_bytes, is_first_line, begins_right}
use Rattle.iso_formats.specs.GridFile.{Header, HasHeader}
use Rattle.iso_formats.specs.GridFaults.{GridFault, lines_fault, HasHeaderFault, no_magic, too_long, unended, of_lines}
use Rattle.iso_formats.proofs.HeaderLaws.{lines_fault-none}
use Rattle.iso_formats.proofs.LineLaws.{one_header}
use Rattle.lists.proofs.MemberLaws.{lists_equal}

-- bytes that begin with a line of this text begin right
abbrev BeginsWith : List ℕ → Type 0
BeginsWith text = (r : Bool) (more : List ℕ) → begins_right (line_bytes (record { text = text; has_return = r }) ++ more) ≡ true

one : BeginsWith (codes "NRRD0001")
one true more = refl
one false more = refl

two : BeginsWith (codes "NRRD0002")
two true more = refl
two false more = refl

three : BeginsWith (codes "NRRD0003")
three true more = refl
three false more = refl

four : BeginsWith (codes "NRRD0004")
four true more = refl
four false more = refl

five : BeginsWith (codes "NRRD0005")
five true more = refl
five false more = refl

carried : (text t : List ℕ) → BeginsWith text → same_list t text ≡ true → BeginsWith t
carried text t b e = subst (λ (u : List ℕ). BeginsWith u) (sym (lists_equal t text e)) b

first_begins : (t : List ℕ) → is_first_line t ≡ true → BeginsWith t
first_begins t e = elim (or_cases (same_list t (codes "NRRD0001")) _ e) as (λ _. BeginsWith t) [
  | inl a ↦ carried _ t one a
  | inr a ↦ elim (or_cases (same_list t (codes "NRRD0002")) _ a) as (λ _. BeginsWith t) [
    | inl b ↦ carried _ t two b
    | inr b ↦ elim (or_cases (same_list t (codes "NRRD0003")) _ b) as (λ _. BeginsWith t) [
      | inl c ↦ carried _ t three c
      | inr c ↦ elim (or_cases (same_list t (codes "NRRD0004")) _ c) as (λ _. BeginsWith t) [
        | inl d ↦ carried _ t four d
        | inr d ↦ elim (or_cases (same_list t (codes "NRRD0005")) _ d) as (λ _. BeginsWith t) [
          | inl f ↦ carried _ t five f
          | inr f ↦ absurd (false≢true f)
        ]
      ]
    ]
  ]
]

begins_cases : (ls : List Line) (texts : List (List ℕ)) (x : List ℕ) → map (λ (l : Line). l.text) ls ≡ texts ++ [] ∷ []
    → is_first_line (slice_index_or texts 0 []) ≡ true
    → begins_right (flat_map line_bytes ls ++ x) ≡ true
begins_cases ls [] x r f = absurd (false≢true f)
begins_cases [] (t ∷ ts) x r f = absurd (cc)
begins_cases (l ∷ ls) (t ∷ ts) x r f =
    let same : l.text ≡ t = ap (λ (us : List (List ℕ)). slice_index_or us 0 []) r in
    subst (λ (b : List ℕ). begins_right b ≡ true) (sym (append_assoc (line_bytes l) (flat_map line_bytes ls) x))
    (first_begins l.text (subst (λ (u : List ℕ). is_first_line u ≡ true) (sym same) f) l.has_return (flat_map line_bytes ls ++ x))

-- bytes with a header begin right
pub begins_right-header : (bytes : List ℕ) (h : Header) (x : List ℕ) → HasHeader bytes h x → begins_right bytes ≡ true
begins_right-header bytes h x p =
    subst (λ (b : List ℕ). begins_right b ≡ true) (sym p.1.spelled) (begins_cases p.1.lines p.0 x p.1.read p.2.first)

none_some : (f : GridFault) → None ≡ Some f → ⊥
none_some f e = cc

-- and have no fault of the header
pub header_or_fault : (bytes : List ℕ) (h : Header) (x : List ℕ) (f : GridFault) → HasHeader bytes h x → HasHeaderFault bytes f → ⊥
header_or_fault bytes h x f p (no_magic e) = false≢true (sym e ∙ begins_right-header bytes h x p)
header_or_fault bytes h x f p (too_long b l n) = n p.0 x p.1
header_or_fault bytes h x f p (unended b l n) = n p.0 x p.1
header_or_fault bytes h x f p (of_lines texts data_bytes fault b lines e) =
    let same = one_header bytes p.0 texts x data_bytes p.1 lines in
    none_some fault (sym (lines_fault-none p.0 h p.2) ∙ ap lines_fault same.0 ∙ e)
