-- Bytes that can still begin a header.
use Rattle.std.proofs.Common.{◌≡◌, ℕ, zero, suc, ◌+◌, ◌-◌, ◌<◌, ◌≤◌, Bool, true, false, nat_eq, List, [], ◌∷◌, ◌++◌, length, take, drop, get_or}
use Rattle.std.proofs.Common.{Option, Some, None, refl, sym, ap, ◌∙◌, subst, arith, length-append, append-nil}
use Rattle.std.specs.Prelude.{Result, Ok, Err, IfErr, IfSome, ◌||◌, flat_map}
use Rattle.std.specs.Io.KnownBytes.{Consumes, Keeps}
use Rattle.std.proofs.KnownBytes.{Consumes-trans, Consumes-kept}
use Rattle.std.proofs.lemmas.Bool.Decides.{nat_tests}
use Rattle.std.proofs.lemmas.List.{append_assoc, take-append-drop, take_at, length_push}
use Rattle.lists.specs.Orders.{has}
use Rattle.iso_formats.specs.HeaderLines.{HasLines, begins_right, line_bytes}
use Rattle.iso_formats.specs.GridFaults.{HasNoLines}
use Rattle.iso_base.specs.Shelves.{TakesAtMost}
use Rattle.nrrd_raw.specs.declared.faults.GridFault.{GridFault}
use Rattle.nrrd_raw.specs.HeaderFronts.{HasFront, FitsFirst, least_first, greatest_first}
use Rattle.nrrd_raw.specs.Undecided.{TakesSuch, BlamesWhile, BlamesUntouched, IsOpenHeader, EndsOpenHeader}
use Rattle.nrrd_raw.specs.GridFaultWords.{blame_of}
use Rattle.nrrd_raw.proofs.FrontLaws.{no_lines_left, no_lines_plain, has-push}
use Rattle.nrrd_raw.proofs.MagicLaws.{FitsFirst-more, front-feed, front-return}

-- ---- fronts of open bytes are open

lines_behind : (xs ys texts_end : List ℕ) (texts : List (List ℕ)) → HasLines xs texts texts_end → HasLines (xs ++ ys) texts (texts_end ++ ys)
lines_behind xs ys more texts p = record {
  lines = p.lines;
  are_lines = p.are_lines;
  spelled = ap (λ zs. zs ++ ys) p.spelled ∙ append_assoc (flat_map line_bytes p.lines) more ys;
  read = p.read;
  filled = p.filled;
  short = p.short;
}

open_front : (xs ys : List ℕ) → IsOpenHeader (xs ++ ys) → IsOpenHeader xs
open_front xs ys p = record {
  begun = (ys ++ p.begun.0, ap begins_right (sym (append_assoc xs ys p.begun.0)) ∙ p.begun.1);
  unended = λ texts more h. p.unended texts (more ++ ys) (lines_behind xs ys more texts h);
  short = omega (arith, p.short, length-append xs ys);
}

open_ends : (xs : List ℕ) → IsOpenHeader xs → EndsOpenHeader xs
open_ends xs p =
    open_front (take (length xs - 1) xs) (drop (length xs - 1) xs) (subst IsOpenHeader (sym (take-append-drop (length xs - 1) xs)) p)

-- one byte more
open_then : (xs bs : List ℕ) → IsOpenHeader xs → length bs ≤ 1 → EndsOpenHeader (xs ++ bs)
open_then xs [] p l = subst EndsOpenHeader (sym (append-nil xs)) (open_ends xs p)
open_then xs (b ∷ []) p l =
    let place : length (xs ++ b ∷ []) - 1 ≡ length xs = omega (arith, length_push xs b) in
    let front : take (length (xs ++ b ∷ []) - 1) (xs ++ b ∷ []) ≡ xs =
    ap (λ i. take i (xs ++ b ∷ [])) place ∙ take_at xs (b ∷ []) (length xs) refl in
    subst IsOpenHeader (sym front) p
open_then xs (b ∷ c ∷ bs) p l = absurd (omega arith)

pub ends-open : (a b c : Option (List ℕ)) (xs : List ℕ) → Consumes a b xs → IsOpenHeader xs → TakesAtMost 1 b c → TakesSuch EndsOpenHeader a c
ends-open a b c xs t p m = (xs ++ m.0, open_then xs m.0 p m.1, Consumes-trans a b c xs m.0 t m.2)

-- ---- the first line

high_plain : (xs : List ℕ) → ((k : ℕ) → k < length xs → 11 ≤ get_or xs k 0) → has xs 10 ≡ false
high_plain [] h = refl
high_plain (x ∷ xs) h = both (nat_eq 10 x) (has xs 10) (other x (h 0 (omega arith))) (high_plain xs (λ k l. h (suc k) (omega (arith, l))))
  where
    other : (n : ℕ) → 11 ≤ n → nat_eq 10 n ≡ false
    other n l = grind (arith, nat_tests)

    both : (a b : Bool) → a ≡ false → b ≡ false → a || b ≡ false
    both a b p q = rw (p, q) refl

-- the bounds of each of the first bytes
record Bounds (k : ℕ) : Type 0 where
  high : 11 ≤ get_or least_first k 0
  ordered : get_or least_first k 0 ≤ get_or greatest_first k 0

bounds : (k : ℕ) → k < 8 → Bounds k
bounds zero m = record { high = omega arith; ordered = omega arith }
bounds (suc zero) m = record { high = omega arith; ordered = omega arith }
bounds (suc (suc zero)) m = record { high = omega arith; ordered = omega arith }
bounds (suc (suc (suc zero))) m = record { high = omega arith; ordered = omega arith }
bounds (suc (suc (suc (suc zero)))) m = record { high = omega arith; ordered = omega arith }
bounds (suc (suc (suc (suc (suc zero))))) m = record { high = omega arith; ordered = omega arith }
bounds (suc (suc (suc (suc (suc (suc zero)))))) m = record { high = omega arith; ordered = omega arith }
bounds (suc (suc (suc (suc (suc (suc (suc zero))))))) m = record { high = omega arith; ordered = omega arith }
bounds (suc (suc (suc (suc (suc (suc (suc (suc k)))))))) m = absurd (omega arith)

fits_plain : (front : List ℕ) (place : ℕ) → FitsFirst front place → place ≤ 8 → has front 10 ≡ false
fits_plain front place f l =
    high_plain front (λ k m. omega (arith, (f.fits k (omega (arith, m, f.len))).0, (bounds k (omega (arith, m, f.len, l))).high))

-- so many bytes more make eight that fit
completes : (n : ℕ) (front : List ℕ) (place : ℕ) → n + place ≡ 8 → FitsFirst front place → (more : List ℕ) × FitsFirst (front ++ more) 8
completes zero front place e f =
    let eight : place ≡ 8 = omega (arith, e) in
    ([], subst (λ (xs : List ℕ). FitsFirst xs 8) (sym (append-nil front)) (subst (FitsFirst front) eight f))
completes (suc n) front place e f =
    let byte = get_or least_first place 0 in
    let next : FitsFirst (front ++ byte ∷ []) (place + 1) =
    FitsFirst-more (λ (o : Option (List ℕ)). o) front (front ++ byte ∷ []) place None None f
    (record { byte = byte; above = omega arith; below = (bounds place (omega arith)).ordered; pushed = refl; taken = tt }) in
    let later = completes n (front ++ byte ∷ []) (place + 1) (omega (arith, e)) next in
    (byte ∷ later.0, subst (λ (xs : List ℕ). FitsFirst xs 8) (append_assoc front (byte ∷ []) later.0) later.1)

pub open-fits : (front : List ℕ) (place : ℕ) → FitsFirst front place → place ≤ 8 → IsOpenHeader front
open-fits front place f l =
    let all = completes (8 - place) front place (omega (arith, l)) f in
    let whole = (front ++ all.0) ++ 10 ∷ [] in
    record {
      begun = (
        all.0 ++ 10 ∷ [],
        ap begins_right (sym (append_assoc front all.0 (10 ∷ [])) ∙ sym (append-nil whole)) ∙ (front-feed (front ++ all.0) all.1).begins [],
      );
      unended = no_lines_plain front (fits_plain front place f l);
      short = omega (arith, f.len, l);
    }

pub open-return : (front : List ℕ) → FitsFirst front 8 → IsOpenHeader (front ++ 13 ∷ [])
open-return front f = record {
  begun = (
    10 ∷ [],
    ap begins_right (append_assoc front (13 ∷ []) (10 ∷ []) ∙ sym (append-nil (front ++ 13 ∷ 10 ∷ []))) ∙ (front-return front f).begins [],
  );
  unended = no_lines_plain (front ++ 13 ∷ []) (has-push front 13 (fits_plain front 8 f (omega arith)) refl);
  short = omega (arith, f.len, length_push front 13);
}

-- ---- whole lines

pub open-lines : (front : List ℕ) (start : ℕ) → HasFront front start → length front < 65536 → IsOpenHeader front
open-lines front start f l = record {
  begun = ([], f.begins []);
  unended = no_lines_left front start f;
  short = l;
}

-- ---- a shelf that is blamed

pub some_map : {A B : Type 0} (o : Option ℕ) → (A → B) → IfSome o (λ n. A) → IfSome o (λ n. B)
some_map None f h = tt
some_map (Some n) f h = f h

pub some-all : {A : Type 0} (o : Option ℕ) → A → IfSome o (λ n. A)
some-all None x = tt
some-all (Some n) x = x

-- behind bytes that were taken, none were
pub blame-kept : (fault : GridFault) (P : List ℕ → Type 0) (a b c : Option (List ℕ)) (xs : List ℕ) → Consumes a b xs → P xs
    → IfSome (blame_of fault) (λ n. Keeps b c) → IfSome (blame_of fault) (λ n. TakesSuch P a c)
blame-kept fault P a b c xs t p h = some_map (blame_of fault) (λ k. (xs, p, Consumes-kept a b c xs t k)) h

pub blames-kept : {T : Type 0} (r : Result T GridFault) (P : List ℕ → Type 0) (a b c : Option (List ℕ)) (xs : List ℕ) → Consumes a b xs → P xs
    → BlamesUntouched b c r → BlamesWhile P a c r
blames-kept (Ok x) P a b c xs t p h = tt
blames-kept (Err fault) P a b c xs t p h = blame-kept fault P a b c xs t p h

-- behind bytes that were taken, others were
pub blame-then : (fault : GridFault) (P Q : List ℕ → Type 0) (a b c : Option (List ℕ)) (xs : List ℕ) → Consumes a b xs
    → ((bs : List ℕ) → P bs → Q (xs ++ bs)) → IfSome (blame_of fault) (λ n. TakesSuch P b c) → IfSome (blame_of fault) (λ n. TakesSuch Q a c)
blame-then fault P Q a b c xs t f h = some_map (blame_of fault) (λ k. (xs ++ k.0, f k.0 k.1, Consumes-trans a b c xs k.0 t k.2)) h
