-- What the parts of a reading say of the whole file.
use Rattle.std.specs.Prelude.{◌≡◌, ℕ, ◌+◌, ◌≤◌, true, false, List, [], ◌++◌, length, Option, Some, None, IfSome, is_some, ⊤}
use Rattle.std.specs.Io.KnownBytes.{Consumes, IsAtEnd}
use Rattle.std.proofs.Common.{ap, sym, ◌∙◌, arith, subst}
use Rattle.std.proofs.lemmas.List.{append-nil}
use Rattle.iso_formats.specs.MeshFile.{MeshFault, MeshReading, SpellsMesh, at_first, lines_of, words_from, stage_behind, ends_at, read_mesh, mesh_read, mesh_refused}
use Rattle.iso_formats.proofs.MeshFileRead.{read_is_spelled}
use Rattle.off_read.specs.declared.faults.OffFault.{OffFault}
use Rattle.off_read.specs.declared.faults.OffFault.TheVariants.{Long, Header, Count, Coordinate, FaceSize, Index, Extra, Short, Shelf, Memory}
use Rattle.off_read.specs.AnyOffs as off
use Rattle.off_read.specs.Faults.{word_cause}
use Rattle.off_read.specs.Meshes.{EndsAs}
use Rattle.off_read.specs.ScanForms.{Scan, limit}
use Rattle.off_read.specs.Scans.{Told, TakesFew, TakesMany, Drains, Fails, FailsAt, Refuses, new_scan, reading, reading_from}
use Rattle.off_read.proofs.TakingLaws.{takes_then, takes_few, told_then}

start_reads : (bytes : List ℕ) → reading new_scan at_first bytes ≡ read_mesh bytes
unfolding reading_from
start_reads bytes =
    ap (λ (n : ℕ). ends_at n (stage_behind at_first (words_from 1 (lines_of bytes))))
    (let e : 0 + length (lines_of bytes) ≡ length (lines_of bytes) = omega arith in e)

-- bytes that came since the start
came_few : (a c : Option (List ℕ)) (t : Scan) → TakesFew a c new_scan t → off.Takes (λ n. n ≤ limit) a c
came_few a c t h = let n = h.0.counted in let few = h.1 in (h.0.came, h.0.consumed, omega (arith, n, few))

came_many : (a c : Option (List ℕ)) (t : Scan) → TakesMany a c new_scan t → off.Takes (λ n. n ≡ limit + 1) a c
came_many a c t h = let n = h.0.counted in let few = h.1 in (h.0.came, h.0.consumed, omega (arith, n, few))

-- a whole file that came
all_came : (xs ys came : List ℕ) → xs ≡ came ++ ys → ys ≡ [] → length came ≤ limit → length xs ≤ limit
all_came xs ys came e f h = subst (λ (l : List ℕ). length l ≤ limit) (sym (e ∙ ap (λ (l : List ℕ). came ++ l) f ∙ append-nil came)) h

told_whole : (a c : Option (List ℕ)) (t : Scan) (r : MeshReading) → TakesFew a c new_scan t → IsAtEnd c
    → Told a c (λ x y. reading new_scan at_first x ≡ r) → IfSome a (λ bytes. (length bytes ≤ limit) × (read_mesh bytes ≡ r))
unfolding came_few
told_whole None c t r h e q = tt
told_whole (Some xs) None t r h e q = absurd q
told_whole (Some xs) (Some ys) t r h e q = (all_came xs ys h.0.came h.0.consumed e (came_few (Some xs) (Some ys) t h).2, sym (start_reads xs) ∙ q)

refused_for : (a c : Option (List ℕ)) (t : Scan) (cause : MeshFault) → Refuses a c new_scan t at_first cause → IsAtEnd c → off.IsRefusedFor a c cause
refused_for a c t cause h e = ((came_few a c t h.0, e), told_whole a c t (mesh_refused cause) h.0 e h.1)

-- ---- refusals

-- an answer that is no word's
pub refusal : (a c : Option (List ℕ)) (s t : Scan) (fault : OffFault) → s ≡ new_scan → FailsAt a c s t at_first fault → is_some (word_cause fault) ≡ false
    → off.IsRefusal a c fault
refusal a c s t fault same h w = go fault w (subst (λ (r : Scan). FailsAt a c r t at_first fault) same h)
  where
    go : (fault : OffFault) → is_some (word_cause fault) ≡ false → FailsAt a c new_scan t at_first fault → off.IsRefusal a c fault
    go Long w h = came_many a c t h
    go (Shelf n) w h = came_few a c t h
    go Memory w h = came_few a c t h
    go (Short n) w h = refused_for a c t _ h.0 h.1
    go (Header n) w h = absurd (cc)
    go (Count n) w h = absurd (cc)
    go (Coordinate n) w h = absurd (cc)
    go (FaceSize n) w h = absurd (cc)
    go (Index n) w h = absurd (cc)
    go (Extra n) w h = absurd (cc)

taken_word : (a b : Option (List ℕ)) (t : Scan) (fault : OffFault) → is_some (word_cause fault) ≡ true → FailsAt a b new_scan t at_first fault
    → TakesFew a b new_scan t
taken_word a b t Long w h = absurd (cc)
taken_word a b t (Shelf n) w h = h
taken_word a b t Memory w h = h
taken_word a b t (Short n) w h = h.0.0
taken_word a b t (Header n) w h = h.0
taken_word a b t (Count n) w h = h.0
taken_word a b t (Coordinate n) w h = h.0
taken_word a b t (FaceSize n) w h = h.0
taken_word a b t (Index n) w h = h.0
taken_word a b t (Extra n) w h = h.0

-- a word's answer, where the rest of the file can not be had
pub refusal_lost : (a b c : Option (List ℕ)) (s t u : Scan) (fault other : OffFault) → s ≡ new_scan → FailsAt a b s t at_first fault
    → is_some (word_cause fault) ≡ true → Fails b c t u other → off.IsRefusal a c other
refusal_lost a b c s t u fault other same h w k = go other k
  where
    first : TakesFew a b new_scan t
    first = taken_word a b t fault w (subst (λ (r : Scan). FailsAt a b r t at_first fault) same h)

    go : (other : OffFault) → Fails b c t u other → off.IsRefusal a c other
    go Long k = came_many a c u (takes_then a b c new_scan t u first.0 k.0, k.1)
    go (Shelf n) k = came_few a c u (takes_few a b c new_scan t u first.0 k)
    go Memory k = absurd k
    go (Short n) k = absurd k
    go (Header n) k = absurd k
    go (Count n) k = absurd k
    go (Coordinate n) k = absurd k
    go (FaceSize n) k = absurd k
    go (Index n) k = absurd k
    go (Extra n) k = absurd k

told_any : (b c : Option (List ℕ)) (came : List ℕ) → Consumes b c came → Told b c (λ x y. ⊤)
told_any None c came h = tt
told_any (Some x) None came h = h
told_any (Some x) (Some y) came h = tt

refuses_drained : (a b c : Option (List ℕ)) (t u : Scan) (cause : MeshFault) → Refuses a b new_scan t at_first cause → Drains b c t u
    → off.IsRefusedFor a c cause
refuses_drained a b c t u cause h k =
    refused_for a c u cause (
      takes_few a b c new_scan t u h.0.0 k.0,
      told_then a b c _ _ _ (λ x y z p q. p) h.1 (told_any b c k.0.0.came k.0.0.consumed),
    ) k.1

-- a word's answer, behind which the rest of the file was taken
pub refusal_drained : (a b c : Option (List ℕ)) (s t u : Scan) (fault : OffFault) → s ≡ new_scan → FailsAt a b s t at_first fault
    → is_some (word_cause fault) ≡ true → Drains b c t u → off.IsRefusal a c fault
refusal_drained a b c s t u fault same h w k = go fault w (subst (λ (r : Scan). FailsAt a b r t at_first fault) same h)
  where
    go : (fault : OffFault) → is_some (word_cause fault) ≡ true → FailsAt a b new_scan t at_first fault → off.IsRefusal a c fault
    go Long w h = absurd (cc)
    go (Shelf n) w h = absurd (cc)
    go Memory w h = absurd (cc)
    go (Short n) w h = absurd (cc)
    go (Header n) w h = refuses_drained a b c t u _ h k
    go (Count n) w h = refuses_drained a b c t u _ h k
    go (Coordinate n) w h = refuses_drained a b c t u _ h k
    go (FaceSize n) w h = refuses_drained a b c t u _ h k
    go (Index n) w h = refuses_drained a b c t u _ h k
    go (Extra n) w h = refuses_drained a b c t u _ h k

-- ---- a mesh

spelled_from : (d v : ℕ) (ss : List (List ℕ)) (a : Option (List ℕ)) → IfSome a (λ bytes. (length bytes ≤ limit) × (read_mesh bytes ≡ mesh_read d v ss))
    → IfSome a (λ bytes. (length bytes ≤ limit) × SpellsMesh bytes d v ss)
spelled_from d v ss None h = tt
spelled_from d v ss (Some bytes) h = (h.0, read_is_spelled bytes d v ss h.1)

pub mesh_spelled : (a c : Option (List ℕ)) (s t : Scan) (d v : ℕ) (ss : List (List ℕ)) → s ≡ new_scan → EndsAs a c s t at_first d v ss
    → IfSome a (λ bytes. (length bytes ≤ limit) × SpellsMesh bytes d v ss)
mesh_spelled a c s t d v ss same h =
    let k : EndsAs a c new_scan t at_first d v ss = subst (λ (r : Scan). EndsAs a c r t at_first d v ss) same h in
    spelled_from d v ss a (told_whole a c t (mesh_read d v ss) k.takes k.end k.reads)
