-- Taking the first line.
use Rattle.std.proofs.Common.{true, false, ◌≡◌, inl, inr, ℕ, zero, suc, ◌<◌, ◌≤◌, List, [], ◌∷◌, ◌++◌, length, get_or, Option, Some, None, sym, ap}
use Rattle.std.proofs.Common.{◌∙◌, subst, arith, length-append}
use Rattle.std.specs.Prelude.{Result, Ok, Err, OnOk, IfErr, IfSome, IsSome}
use Rattle.std.specs.Io.KnownBytes.{Consumes}
use Rattle.std.proofs.lemmas.List.{append_assoc}
use Rattle.iso_formats.specs.HeaderLines.{begins_right}
use Rattle.nrrd_raw.specs.declared.faults.GridFault.{GridFault}
use Rattle.nrrd_raw.specs.declared.faults.GridFault.TheVariants.{Shelf}
use Rattle.nrrd_raw.specs.FaultCauses.{cause_of}
use Rattle.nrrd_raw.specs.GridFaultWords.{blame_of}
use Rattle.iso_formats.specs.GridFaults.{HasHeaderFault, no_magic}
use Rattle.std.proofs.lemmas.Bool.{false≢true}
use Rattle.std.specs.Prelude.{drop, ◌==◌}
use Rattle.nrrd_raw.specs.LineEnds.{without_return}
use Rattle.nrrd_raw.proofs.FrontLaws.{front-end}
use Rattle.nrrd_raw.specs.HeaderFronts.{texts_of, IsFront, HasFront, FitsFirst, TakesFitting, IsUnfit, IsNoBeginning, least_first, greatest_first}
use Rattle.iso_base.specs.Shelves.{TakesAtMost}
use Rattle.nrrd_raw.specs.Taken.{TakesByte}
use Rattle.nrrd_raw.proofs.TakenLaws.{TakesAtMost-consumed, TakesAtMost-none}
use Rattle.nrrd_raw.proofs.MagicLaws.{wrong-place, wrong-return, front-return}

pub least_some : (k : ℕ) → k < 8 → 1 ≤ get_or least_first k 0
least_some zero m = omega arith
least_some (suc zero) m = omega arith
least_some (suc (suc zero)) m = omega arith
least_some (suc (suc (suc zero))) m = omega arith
least_some (suc (suc (suc (suc zero)))) m = omega arith
least_some (suc (suc (suc (suc (suc zero))))) m = omega arith
least_some (suc (suc (suc (suc (suc (suc zero)))))) m = omega arith
least_some (suc (suc (suc (suc (suc (suc (suc zero))))))) m = omega arith
least_some (suc (suc (suc (suc (suc (suc (suc (suc k)))))))) m = absurd (omega arith)

pub no_beginning-place : (old now : Option (List ℕ)) (front : List ℕ) (place : ℕ) (fault : GridFault) → FitsFirst front place → place < 8
    → Consumes old now front
    → IsUnfit now (get_or least_first place 0) (get_or greatest_first place 0) fault → IsNoBeginning old fault
no_beginning-place old now front place fault f l c (inl s) = inl s
no_beginning-place old now front place fault f l c (inr w) = inr (w.0, wrong-place old now front place f l c w.1)

pub no_beginning-return : {X : Type 0} (r : Result X GridFault) (old now : Option (List ℕ)) (front before : List ℕ) → length front ≡ 8
    → before ≡ front ++ 13 ∷ [] → Consumes old now before
    → IfErr r (IsUnfit now 10 10) → IfErr r (IsNoBeginning old)
no_beginning-return (Ok x) old now front before l e c u = tt
no_beginning-return (Err k) old now front before l e c (inl s) = inl s
no_beginning-return (Err k) old now front before l e c (inr w) = inr (w.0, wrong-return old now front l (subst (λ (bs : List ℕ). Consumes old now bs) e c) w.1)

pub first-return : {X S : Type 0} (r : Result X GridFault) (rest : S → Option (List ℕ)) (old now : S) (front before after : List ℕ) → FitsFirst front 8
    → before ≡ front ++ 13 ∷ []
    → OnOk r (TakesFitting rest old now 10 10 before after) → OnOk r (HasFront after (length after))
first-return (Err k) rest old now front before after f e t = tt
first-return (Ok x) rest old now front before after f e t =
    let ten : t.byte ≡ 10 = omega (arith, t.above, t.below) in
    let whole : after ≡ front ++ 13 ∷ 10 ∷ [] =
    t.pushed ∙ ap (λ (b : ℕ). before ++ b ∷ []) ten ∙ ap (λ zs. zs ++ 10 ∷ []) e ∙ append_assoc front (13 ∷ []) (10 ∷ []) in
    subst (λ (xs : List ℕ). HasFront xs (length xs)) (sym whole) (front-return front f)

pub taken-byte : (old now : Option (List ℕ)) (o : Option ℕ) → TakesByte old now o → TakesAtMost 1 old now
taken-byte old now None t = TakesAtMost-none 1 old now t.0
taken-byte old now (Some b) t = TakesAtMost-consumed 1 old now (b ∷ []) t (omega arith)

pub other-byte : (old now : Option (List ℕ)) (o : Option ℕ) → TakesByte old now o → (o ≡ Some 10 → ⊥) → (o ≡ Some 13 → ⊥)
    → IfSome old (λ ys. (get_or ys 0 0 ≡ 10 → ⊥) × (get_or ys 0 0 ≡ 13 → ⊥))
other-byte None now o t a b = tt
other-byte (Some xs) None None t a b = absurd t.0
other-byte (Some xs) (Some ys) None t a b =
    let none : xs ≡ [] = sym t.0 ∙ t.1 in
    let at : get_or xs 0 0 ≡ 0 = ap (λ (zs : List ℕ). get_or zs 0 0) none in
    ((λ e. omega (arith, at, e)), (λ e. omega (arith, at, e)))
other-byte (Some xs) None (Some c) t a b = absurd t
other-byte (Some xs) (Some ys) (Some c) t a b =
    let at : get_or xs 0 0 ≡ c = ap (λ (zs : List ℕ). get_or zs 0 0) t in
    ((λ e. a (ap Some (sym at ∙ e))), (λ e. b (ap Some (sym at ∙ e))))

-- ---- a front that goes on

shelf_fault : (bytes : List ℕ) (fault : GridFault) → IsSome (blame_of fault) → IfSome (cause_of fault) (HasHeaderFault bytes)
shelf_fault bytes (Shelf n) s = tt
shelf_fault bytes fault s = absurd (no_shelf s)
  where
    no_shelf : false ≡ true → ⊥
    no_shelf e = false≢true e

pub no_beginning-fault : (old : Option (List ℕ)) (fault : GridFault) → IsNoBeginning old fault
    → IfSome old (λ bytes. IfSome (cause_of fault) (HasHeaderFault bytes))
no_beginning-fault None fault w = tt
no_beginning-fault (Some bytes) fault (inl s) = shelf_fault bytes fault s
no_beginning-fault (Some bytes) fault (inr w) = subst (λ (k : GridFault). IfSome (cause_of k) (HasHeaderFault bytes)) (sym w.0) (no_magic w.1)

pub some_front : (front : List ℕ) → IsFront front → 0 < length front
some_front [] f = absurd (false≢true (f.begins []))
some_front (x ∷ xs) f = omega arith

pub is_front : (front : List ℕ) (start : ℕ) → HasFront front start → (length (without_return (drop start front)) == 0) ≡ true → length front < 65536
    → IsFront (front ++ 10 ∷ [])
is_front front start f e l = record {
  texts = texts_of f.lines;
  lines = front-end front start f e (omega (arith, length-append front (10 ∷ []), l));
  first = f.first;
  begins = λ more. ap begins_right (append_assoc front (10 ∷ []) more) ∙ f.begins (10 ∷ more);
}
