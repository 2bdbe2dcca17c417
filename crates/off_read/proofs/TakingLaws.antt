-- Calls of a reader, one after another.
use Rattle.std.specs.Prelude.{◌≡◌, ℕ, suc, ◌+◌, ◌-◌, ◌<◌, ◌≤◌, true, false, List, [], ◌∷◌, ◌++◌, length, take, drop, slice_index, Option, Some, None}
use Rattle.std.specs.Io.KnownBytes.{Consumes, IsAtEnd}
use Rattle.std.proofs.KnownBytes.{Consumes-trans}
use Rattle.std.proofs.Common.{refl, ap, sym, ◌∙◌, arith, subst}
use Rattle.std.specs.List.{list_all}
use Rattle.std.proofs.lemmas.List.{append_assoc, drop-drop, drop-take, length-append, take-append-drop, take_more}
use Rattle.std.proofs.lemmas.List.Folds.{list_all-append}
use Rattle.std.proofs.Math.Seq.{drop-cons}
use Rattle.iso_formats.specs.MeshFile.{Stage, next_stage}
use Rattle.off_read.specs.declared.faults.OffFault.{OffFault}
use Rattle.off_read.specs.declared.faults.OffFault.TheVariants.{Long, Header, Count, Coordinate, FaceSize, Index, Extra, Short, Shelf, Memory}
use Rattle.off_read.specs.ScanForms.{Scan, limit}
use Rattle.off_read.specs.Scans.{Told, Takes, TakesFew, Refills, FindsNone, GivesByte, GivesNext, GivesWord, FindsEnd, ReadsOn, Runs, Sees, IsInWord, Fails, budget}
use Rattle.off_read.specs.Scans.{is_word_byte, mark, reading, reading_from, reading_in, lines_passed, IsSameLine}
use Rattle.off_read.specs.declared.reader.Place.TheVariants.{OnLine}
use Rattle.off_read.specs.WordForms.{IsSoFar, Known}
use Rattle.off_read.proofs.SeeLaws.{moved, no_more, word_last}
use Rattle.off_read.proofs.LineWords.{filled}
use Rattle.iso_formats.specs.HeaderLines.{is_empty}

pub told_map : (a b : Option (List ℕ)) (P Q : List ℕ → List ℕ → Type 0) → ((x y : List ℕ) → P x y → Q x y) → Told a b P → Told a b Q
told_map None b P Q f h = tt
told_map (Some x) None P Q f h = h
told_map (Some x) (Some y) P Q f h = f x y h

pub told_then : (a b c : Option (List ℕ)) (P Q R : List ℕ → List ℕ → Type 0) → ((x y z : List ℕ) → P x y → Q y z → R x z)
    → Told a b P → Told b c Q → Told a c R
told_then None b c P Q R f h k = tt
told_then (Some x) None c P Q R f h k = absurd h
told_then (Some x) (Some y) None P Q R f h k = k
told_then (Some x) (Some y) (Some z) P Q R f h k = f x y z h k

pub told_end : (a b : Option (List ℕ)) (P Q : List ℕ → List ℕ → Type 0) → ((x : List ℕ) → P x [] → Q x []) → IsAtEnd b → Told a b P → Told a b Q
told_end None b P Q f e h = tt
told_end (Some x) None P Q f e h = h
told_end (Some x) (Some y) P Q f e h = subst (λ (l : List ℕ). Q x l) (sym e) (f x (subst (λ (l : List ℕ). P x l) e h))

pub told_same : (a : Option (List ℕ)) (P : List ℕ → List ℕ → Type 0) → ((x : List ℕ) → P x x) → Told a a P
told_same None P f = tt
told_same (Some x) P f = f x

-- ---- bytes that came

consumes_none : (a : Option (List ℕ)) → Consumes a a []
consumes_none None = tt
consumes_none (Some x) = refl

pub takes_then : (a b c : Option (List ℕ)) (r s t : Scan) → Takes a b r s → Takes b c s t → Takes a c r t
takes_then a b c r s t h k =
    let n = length-append h.came k.came in
    record { came = h.came ++ k.came; consumed = Consumes-trans a b c h.came k.came h.consumed k.consumed; counted = omega (arith, n, h.counted, k.counted) }

pub takes_few : (a b c : Option (List ℕ)) (r s t : Scan) → Takes a b r s → TakesFew b c s t → TakesFew a c r t
takes_few a b c r s t h k = (takes_then a b c r s t h k.0, k.1)

pub takes_none : (a : Option (List ℕ)) (s t : Scan) → t.taken ≡ s.taken → Takes a a s t
takes_none a s t e = record { came = []; consumed = consumes_none a; counted = omega (arith, e) }

-- ---- a byte

pub first_left : (piece : List ℕ) (start end : ℕ) → start < end → end ≤ length piece
    → take (end - start) (drop start piece) ≡ slice_index piece start ∷ take (end - (start + 1)) (drop (start + 1) piece)
first_left piece start end h k =
    let n : end - start ≡ suc (end - (start + 1)) = omega (arith, h) in
    let m : suc start ≡ start + 1 = omega arith in
    ap (λ (l : List ℕ). take (end - start) l) (drop-cons piece start 0 (omega (arith, h, k)))
    ∙ ap (λ (j : ℕ). take j (slice_index piece start ∷ drop (suc start) piece)) n
    ∙ ap (λ (j : ℕ). slice_index piece start ∷ take (end - (start + 1)) (drop j piece)) m

pub gives_next : (a b : Option (List ℕ)) (old mid new : Scan) (byte : ℕ) → Refills a b old mid true → mid.left ≡ byte ∷ new.left
    → IsSameLine mid new → new.taken ≡ mid.taken → mid.ended + length mid.left ≤ mid.taken → GivesNext a b old new byte
gives_next a b old mid new byte r e same t i =
    let n = ap (λ (l : List ℕ). length l) e in
    let c = r.takes.0.counted in
    let d = r.counted in
    record {
      takes = (record { came = r.takes.0.came; consumed = r.takes.0.consumed; counted = t ∙ r.takes.0.counted }, let k = r.takes.1 in omega (arith, k, t));
      same = (same.0 ∙ r.same.0, same.1 ∙ r.same.1);
      spends = let k = r.takes.1 in omega (arith, n, c, d, t, k);
      next = told_map a b _ _ (λ x y h. h ∙ ap (λ (l : List ℕ). l ++ y) e) r.came;
      before = let k = same.0 in omega (arith, n, k, t, i);
    }

-- what is left is a front of it and the rest
pub rest_left : (piece : List ℕ) (start end n : ℕ) → n ≤ end - start
    → take (end - start) (drop start piece) ≡ take n (take (end - start) (drop start piece)) ++ take (end - (start + n)) (drop (start + n) piece)
rest_left piece start end n h =
    let long : end - start ≡ n + (end - (start + n)) = omega (arith, h) in
    let left = take (end - start) (drop start piece) in
    sym (take-append-drop n left)
    ∙ ap (λ (l : List ℕ). take n left ++ l)
    (ap (λ (k : ℕ). drop n (take k (drop start piece))) long ∙ drop-take n (end - (start + n)) (drop start piece)
    ∙ ap (take (end - (start + n))) (drop-drop n start piece))

-- one byte more may stand in a word
pub run_more : (bytes : List ℕ) (i : ℕ) → i < length bytes → list_all is_word_byte (take i bytes) ≡ true
    → is_word_byte (slice_index bytes i) ≡ true → list_all is_word_byte (take (i + 1) bytes) ≡ true
run_more bytes i h all one =
    ap (list_all is_word_byte) (take_more bytes i 0 h)
    ∙ list_all-append is_word_byte (take i bytes) (slice_index bytes i ∷ []) ∙ rw (all, one) refl

-- ---- failures

pub fails_then : (a b c : Option (List ℕ)) (r s t : Scan) (fault : OffFault) → Takes a b r s → Fails b c s t fault → Fails a c r t fault
fails_then a b c r s t Long h k = (takes_then a b c r s t h k.0, k.1)
fails_then a b c r s t (Shelf n) h k = takes_few a b c r s t h k
fails_then a b c r s t (Header n) h k = k
fails_then a b c r s t (Count n) h k = k
fails_then a b c r s t (Coordinate n) h k = k
fails_then a b c r s t (FaceSize n) h k = k
fails_then a b c r s t (Index n) h k = k
fails_then a b c r s t (Extra n) h k = k
fails_then a b c r s t (Short n) h k = k
fails_then a b c r s t Memory h k = k

-- ---- a word that has begun, or none

-- a byte is given, and seen, and the word goes on or none has begun
same_in : (s t : Scan) (text : List ℕ) (stage : Stage) (bytes : List ℕ) → IsSameLine s t → reading_in s text stage bytes ≡ reading_in t text stage bytes
same_in s t text stage bytes same = moved s t.ended t.place text stage bytes (sym same.0) (sym same.1)

begun_in : (s t : Scan) (text : List ℕ) → IsSameLine s t → IsInWord s text → IsInWord t text
begun_in s t text same i = record { right = i.right; standing = λ h. same.1 ∙ i.standing h }

pub reads_more : (a b c : Option (List ℕ)) (old mid next new : Scan) (before after : Known) (byte : ℕ) → ReadsOn a b old mid before
    → GivesNext b c mid next byte → new.left ≡ next.left → new.taken ≡ next.taken
    → ((text : List ℕ) → IsSoFar before text → IsInWord next text → Sees next new after text byte false) → ReadsOn a c old new after
reads_more a b c old mid next new before after byte r g l t see =
    let s = see r.text r.known (begun_in mid next r.text g.same r.begun) in
    let n = ap (λ (l : List ℕ). length l) l in
    let few = g.takes.1 in
    let spends : budget new < budget old = let x = r.spends in let y = g.spends in omega (arith, x, y, n, t) in
    record {
      takes = (
        let k = takes_then a b c old mid next r.takes.0 g.takes.0 in record { came = k.came; consumed = k.consumed; counted = t ∙ k.counted },
        omega (arith, few, t),
      );
      text = s.0;
      known = s.1;
      begun = s.2;
      spends = omega (arith, spends);
      spends_more = λ h. spends;
      reads = told_then a b c _ _ _ (λ x y z p q stage.
          p stage ∙ ap (λ (m : List ℕ). reading_in mid r.text stage m) q ∙ same_in mid next r.text stage (byte ∷ (next.left ++ z)) g.same
          ∙ s.3 stage (next.left ++ z) ∙ ap (λ (m : List ℕ). reading_in new s.0 stage (m ++ z)) (sym l)) r.reads g.next;
    }

-- no byte is looked at yet
pub reads_none : (a : Option (List ℕ)) (s : Scan) (word : Known) → s.taken ≤ limit → IsSoFar word [] → ReadsOn a a s s word
reads_none a s word few so = record {
  takes = (takes_none a s s refl, few);
  text = [];
  known = so;
  begun = record { right = refl; standing = λ h. absurd (omega (arith, h)) };
  spends = omega arith;
  spends_more = λ h. absurd (omega (arith, h));
  reads = told_same a _ (λ x stage. refl);
}

-- bytes of the word that has begun, or of one that begins, are added
pub runs_on : (a b : Option (List ℕ)) (old mid new : Scan) (before after : Known) → ReadsOn a b old mid before → Runs mid new before after
    → ReadsOn a b old new after
runs_on a b old mid new before after r n =
    let long = ap (λ (l : List ℕ). length l) n.left in
    let lengths = length-append n.run new.left in
    let taken = n.same.1 in
    record {
      takes = (
        record { came = r.takes.0.came; consumed = r.takes.0.consumed; counted = taken ∙ r.takes.0.counted },
        let few = r.takes.1 in omega (arith, few, taken),
      );
      text = r.text ++ n.run;
      known = n.known r.text r.known;
      begun = record {
        right = let s = r.begun.right in let t = n.right in list_all-append is_word_byte r.text n.run ∙ rw (s, t) refl;
        standing = λ h. n.same.0.1 ∙ on_line_at r.text h r.begun.standing;
      };
      spends = let x = r.spends in omega (arith, x, long, lengths, taken);
      spends_more = λ h. more r.text h r.spends_more;
      reads = told_map a b _ _ (λ x y p stage.
          p stage ∙ same_in mid new r.text stage (mid.left ++ y) n.same.0
          ∙ ap (λ (l : List ℕ). reading_in new r.text stage (l ++ y)) n.left
          ∙ ap (λ (l : List ℕ). reading_from new.ended stage (mark new.place ++ l)) (moved_in r.text y)) r.reads;
    }
  where
    on_line_at : (text : List ℕ) → 0 < length (text ++ n.run) → (0 < length text → mid.place ≡ OnLine) → mid.place ≡ OnLine
    on_line_at [] h standing = n.standing h
    on_line_at (x ∷ text) h standing = standing (omega arith)

    more : (text : List ℕ) → 0 < length (text ++ n.run) → (0 < length text → budget mid < budget old) → budget new < budget old
    more [] h spends =
        let x = r.spends in
        let long = ap (λ (l : List ℕ). length l) n.left in
        let taken = n.same.1 in
        omega (arith, h, x, long, length-append n.run new.left, taken, r.takes.1)
    more (c ∷ text) h spends =
        let x = spends (omega arith) in
        let long = ap (λ (l : List ℕ). length l) n.left in
        let taken = n.same.1 in
        omega (arith, x, long, length-append n.run new.left, taken)

    moved_in : (text y : List ℕ) → text ++ ((n.run ++ new.left) ++ y) ≡ (text ++ n.run) ++ (new.left ++ y)
    moved_in text y = ap (λ (l : List ℕ). text ++ l) (append_assoc n.run new.left y) ∙ sym (append_assoc text n.run (new.left ++ y))

-- and no byte more may be looked at
pub runs_spend : (mid new : Scan) (before after : Known) → Runs mid new before after → budget new ≤ budget mid
runs_spend mid new before after n =
    let long = ap (λ (l : List ℕ). length l) n.left in
    let taken = n.same.1 in
    omega (arith, long, length-append n.run new.left, taken)

-- the line of a word is no part of what is known of its bytes
on_line : (w v : Known) (n : ℕ) (text : List ℕ) → v ≡ record w { line = n } → IsSoFar w text → IsSoFar v text
on_line w v n text e so = subst (λ (k : Known). IsSoFar k text) (sym e) (record {
  front = so.front;
  digits = so.digits;
  some = so.some;
  standing = so.standing;
  counted = so.counted;
})

-- a byte is given, and seen, and ends a word
pub word_ends : (a b c : Option (List ℕ)) (old mid next new : Scan) (before after word : Known) (byte : ℕ) → ReadsOn a b old mid before
    → GivesNext b c mid next byte → new.left ≡ next.left → new.taken ≡ next.taken
    → ((text : List ℕ) → IsSoFar before text → IsInWord next text → Sees next new after text byte true)
    → word ≡ record after { line = lines_passed new } → GivesWord a c old new word
word_ends a b c old mid next new before after word byte r g l t see e =
    let s = see r.text r.known (begun_in mid next r.text g.same r.begun) in
    let n = ap (λ (l : List ℕ). length l) l in
    let few = g.takes.1 in
    let line : word.line ≡ lines_passed new = ap (λ (w : Known). w.line) e in
    record {
      takes = (
        let k = takes_then a b c old mid next r.takes.0 g.takes.0 in record { came = k.came; consumed = k.consumed; counted = t ∙ k.counted },
        omega (arith, few, t),
      );
      spends = let x = r.spends in let y = g.spends in omega (arith, x, y, n, t);
      text = r.text;
      known = on_line after word (lines_passed new) r.text e s.0;
      line = line;
      next = told_then a b c _ _ _ (λ x y z p q stage.
          p stage ∙ ap (λ (m : List ℕ). reading_in mid r.text stage m) q ∙ same_in mid next r.text stage (byte ∷ (next.left ++ z)) g.same
          ∙ s.1 stage (next.left ++ z)
          ∙ ap (λ (k : ℕ). reading_in new [] (next_stage stage (record { text = r.text; line = k })) (next.left ++ z)) (sym line)
          ∙ ap (λ (m : List ℕ). reading_in new [] (next_stage stage (record { text = r.text; line = word.line })) (m ++ z)) (sym l)) r.reads g.next;
    }

-- ---- the end of a file

empty_text : (text : List ℕ) → is_empty text ≡ true → text ≡ []
empty_text [] e = refl
empty_text (x ∷ text) e = let f = filled x text in absurd (cc)

some_text : (text : List ℕ) → is_empty text ≡ false → 0 < length text
some_text [] e = absurd (cc)
some_text (x ∷ text) e = omega arith

pub finds_end : (a b c : Option (List ℕ)) (old mid new : Scan) (word : Known) → ReadsOn a b old mid word → FindsNone b c mid new
    → ((text : List ℕ) → IsSoFar word text → true ≡ is_empty text) → FindsEnd a c old new
finds_end a b c old mid new word r f e =
    let none = empty_text r.text (sym (e r.text r.known)) in
    record {
      takes = takes_few a b c old mid new r.takes.0 f.takes;
      end = f.end;
      over = told_then a b c _ _ _ (λ x y z p q stage.
          p stage ∙ ap (λ (m : List ℕ). reading_in mid r.text stage m) q ∙ ap (λ (m : List ℕ). reading_in mid m stage []) none
          ∙ same_in mid new [] stage [] f.same ∙ no_more new.ended new.place stage) r.reads f.none;
    }

pub word_at_end : (a b c : Option (List ℕ)) (old mid new : Scan) (before word : Known) → ReadsOn a b old mid before → FindsNone b c mid new
    → ((text : List ℕ) → IsSoFar before text → false ≡ is_empty text) → word ≡ record before { line = lines_passed new } → GivesWord a c old new word
word_at_end a b c old mid new before word r f e w =
    let some = sym (e r.text r.known) in
    let line : word.line ≡ lines_passed new = ap (λ (w : Known). w.line) w in
    let begun = begun_in mid new r.text f.same r.begun in
    record {
      takes = takes_few a b c old mid new r.takes.0 f.takes;
      spends = let x = r.spends_more (some_text r.text some) in let y = f.spends in omega (arith, x, y);
      text = r.text;
      known = on_line before word (lines_passed new) r.text w r.known;
      line = line;
      next = told_end a c (λ x z. (stage : Stage) → reading old stage x
          ≡ reading_in new [] (next_stage stage (record { text = r.text; line = lines_passed new })) [])
          (λ x z. (stage : Stage) → reading old stage x ≡ reading new (next_stage stage (record { text = r.text; line = word.line })) z)
          (λ x p stage. p stage
          ∙ ap (λ (k : ℕ). reading_in new [] (next_stage stage (record { text = r.text; line = k })) []) (sym line)
          ∙ ap (λ (m : List ℕ). reading_in new [] (next_stage stage (record { text = r.text; line = word.line })) (m ++ [])) (sym f.left)) f.end
          (told_then a b c _ _ _ (λ x y z p q stage.
          p stage ∙ ap (λ (m : List ℕ). reading_in mid r.text stage m) q ∙ same_in mid new r.text stage [] f.same
          ∙ word_last new r.text stage begun some) r.reads f.none);
    }

-- a count that is seen elsewhere
pub takes_like : (a b : Option (List ℕ)) (r s t u : Scan) → Takes a b r t → s.taken ≡ r.taken → u.taken ≡ t.taken → Takes a b s u
takes_like a b r s t u h e f = let c = h.counted in record { came = h.came; consumed = h.consumed; counted = omega (arith, c, e, f) }

pub none_left : (n : ℕ) (piece : List ℕ) → take (n - n) piece ≡ []
none_left n piece = ap (λ (k : ℕ). take k piece) (let e : n - n ≡ 0 = omega arith in e)

pub none_given : (a b : Option (List ℕ)) (s t : Scan) (o : Option ℕ) → ((x : ℕ) → o ≡ Some x → ⊥) → GivesByte a b s t o → FindsNone a b s t
none_given a b s t None f h = h
none_given a b s t (Some x) f h = absurd (f x refl)
