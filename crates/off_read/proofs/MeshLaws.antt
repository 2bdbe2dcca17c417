-- Numbers and indices of a mesh file.
use Rattle.std.specs.Prelude.{◌≡◌, ℕ, ◌+◌, ◌-◌, ◌<◌, zero, suc, Bool, true, false, ◌==◌, List, [], ◌∷◌, ◌++◌, length, All, slice_index_or, Option, Some, None, if◌then◌else◌}
use Rattle.std.proofs.Common.{refl, ap, ◌∙◌, arith}
use Rattle.std.proofs.lemmas.Bool.{and_parts}
use Rattle.lists.proofs.Tests.{lt_of, of_equal}
use Rattle.iso_formats.proofs.MeshFileLaws.{unequal}
use Rattle.iso_formats.specs.HeaderLines.{is_numeral, numeral_value}
use Rattle.iso_formats.specs.MeshFile.{Word, Body, Stage, stopped, next_stage, at_index, with_index, is_count, is_index, wrong_count, wrong_index}
use Rattle.iso_formats.specs.MeshFile.{at_vertices, at_faces, at_edges, before_coordinates, at_coordinate, at_face, is_size, is_whole, wrong_size, ends_at, is_coordinate, wrong_coordinate}
use Rattle.off_read.specs.ScanForms.{Scan}
use Rattle.off_read.specs.Scans.{GivesWord, Goes, Refuses, lines_passed, reading, reading_from, mark, passed, without_line}
use Rattle.off_read.specs.Meshes.{AsksCount, IsUnended, at_next_face, body_with}
use Rattle.off_read.specs.WordForms.{Known}
use Rattle.off_read.specs.declared.reader.Place.{Place}
use Rattle.off_read.specs.declared.reader.Place.TheVariants.{LineStart, OnLine, Passing}
use Rattle.off_read.proofs.UnreadBytes.{passed-line, passed-start}
use Rattle.off_read.proofs.StageLaws.{goes_word, refuses_at}
use Rattle.off_read.proofs.TakingLaws.{told_map}

-- what an optional number says of the test behind it
some_where : (t : Bool) (v n : ℕ) (o : Option ℕ) → o ≡ (if t then Some v else None) → o ≡ Some n → (t ≡ true) × (v ≡ n)
some_where true v n o e f = (refl, cc)
some_where false v n o e f = absurd (cc)

none_where : (t : Bool) (v : ℕ) (o : Option ℕ) → o ≡ (if t then Some v else None) → o ≡ None → t ≡ false
none_where true v o e f = absurd (cc)
none_where false v o e f = refl

pub count_goes : (a b : Option (List ℕ)) (old new : Scan) (word : Known) (g : GivesWord a b old new word) (o : Option ℕ) (n : ℕ) (before : Stage)
    (after : ℕ → Stage) → AsksCount before after → o ≡ (if is_count g.text then Some (numeral_value g.text) else None) → o ≡ Some n
    → Goes a b old new before (after n)
count_goes a b old new word g o n before after asks e f =
    let p = some_where (is_count g.text) (numeral_value g.text) n o e f in
    let t = p.0 in
    goes_word a b old new word g before (after n)
    (asks.next (record { text = g.text; line = word.line })
    ∙ ap (λ (x : Bool). if x then after (numeral_value g.text) else stopped (wrong_count word.line)) t ∙ ap after p.1)

pub count_fails : (a b : Option (List ℕ)) (old new : Scan) (word : Known) (g : GivesWord a b old new word) (o : Option ℕ) (line : ℕ) (before : Stage)
    (after : ℕ → Stage) → AsksCount before after → o ≡ (if is_count g.text then Some (numeral_value g.text) else None) → o ≡ None
    → line ≡ word.line → Refuses a b old new before (wrong_count line)
count_fails a b old new word g o line before after asks e f same =
    let t = none_where (is_count g.text) (numeral_value g.text) o e f in
    refuses_at a b old new word g before wrong_count line same
    (asks.next (record { text = g.text; line = word.line })
    ∙ ap (λ (x : Bool). if x then after (numeral_value g.text) else stopped (wrong_count word.line)) t)

pub index_goes : (a b : Option (List ℕ)) (old new : Scan) (word : Known) (g : GivesWord a b old new word) (vertices : ℕ) (o : Option ℕ) (n : ℕ) (body : Body)
    (ks : List ℕ) → body.vertices ≡ vertices → o ≡ (if is_index vertices g.text then Some (numeral_value g.text) else None) → o ≡ Some n
    → Goes a b old new (at_index body ks) (with_index body (ks ++ n ∷ []) (lines_passed new))
index_goes a b old new word g vertices o n body ks same e f =
    let p = some_where (is_index vertices g.text) (numeral_value g.text) n o e f in
    let t : is_index body.vertices g.text ≡ true = ap (λ (v : ℕ). is_index v g.text) same ∙ p.0 in
    goes_word a b old new word g (at_index body ks) (with_index body (ks ++ n ∷ []) (lines_passed new))
    (ap (λ (x : Bool). if x then with_index body (ks ++ numeral_value g.text ∷ []) word.line else stopped (wrong_index word.line)) t
    ∙ ap (λ (k : ℕ). with_index body (ks ++ k ∷ []) word.line) p.1
    ∙ ap (λ (k : ℕ). with_index body (ks ++ n ∷ []) k) g.line)

pub index_fails : (a b : Option (List ℕ)) (old new : Scan) (word : Known) (g : GivesWord a b old new word) (vertices : ℕ) (o : Option ℕ) (line : ℕ)
    (body : Body) (ks : List ℕ) → body.vertices ≡ vertices → o ≡ (if is_index vertices g.text then Some (numeral_value g.text) else None) → o ≡ None
    → line ≡ word.line → Refuses a b old new (at_index body ks) (wrong_index line)
index_fails a b old new word g vertices o line body ks same e f at =
    let t : is_index body.vertices g.text ≡ false =
    ap (λ (v : ℕ). is_index v g.text) same ∙ none_where (is_index vertices g.text) (numeral_value g.text) o e f in
    refuses_at a b old new word g (at_index body ks) wrong_index line at
    (ap (λ (x : Bool). if x then with_index body (ks ++ numeral_value g.text ∷ []) word.line else stopped (wrong_index word.line)) t)

pub index_below : (vertices : ℕ) (text : List ℕ) (o : Option ℕ) (n : ℕ) → o ≡ (if is_index vertices text then Some (numeral_value text) else None)
    → o ≡ Some n → n < vertices
index_below vertices text o n e f =
    let p = some_where (is_index vertices text) (numeral_value text) n o e f in
    let l = lt_of (numeral_value text) vertices (and_parts (is_numeral text) _ p.0).1 in
    let m = p.1 in
    omega (arith, l, m)

-- ---- coordinates

pub coordinate_asked : (b : Body) (n : ℕ) → 0 < n → before_coordinates b n ≡ at_coordinate b (n - 1)
coordinate_asked b zero h = absurd (omega (arith, h))
coordinate_asked b (suc n) h = ap (at_coordinate b) (let e : n ≡ suc n - 1 = omega arith in e)

pub coordinate_refused : (b : Body) (n : ℕ) (w : Word) → is_coordinate w.text ≡ false → next_stage (at_coordinate b n) w ≡ stopped (wrong_coordinate w.line)
coordinate_refused b n w t = rw t refl

pub coordinates_unended : (b : Body) (n : ℕ) → 0 < n → IsUnended (before_coordinates b n)
coordinates_unended b n h k = ap (ends_at k) (coordinate_asked b n h)

-- ---- faces

pub face_refused : (d v f : ℕ) (ss : List (List ℕ)) (w : Word) → length ss < f → is_size d w.text ≡ false
    → next_stage (at_next_face d v f ss) w ≡ stopped (wrong_size w.line)
face_refused d v f ss w h t = let u : is_whole (body_with d v f ss) ≡ false = unequal (length ss) f h in rw (u, t) refl

pub face_ends : (d v f : ℕ) (ss : List (List ℕ)) (ks : List ℕ) (line : ℕ) → length ks ≡ d
    → with_index (body_with d v f ss) ks line ≡ at_face (body_with d v f (ss ++ ks ∷ [])) (Some line)
face_ends d v f ss ks line h = let t : (length ks == d) ≡ true = of_equal (length ks) d h in rw t refl

pub line_passed : (s : Scan) (b : Body) (bytes : List ℕ) → reading s (at_face b (Some (lines_passed s))) bytes ≡ reading (without_line s) (at_face b None) bytes
line_passed s b bytes = go s.place refl (s.left ++ bytes)
  where
    go : (p : Place) → s.place ≡ p → (more : List ℕ)
        → reading_from s.ended (at_face b (Some (s.ended + length (mark s.place)))) (mark s.place ++ ([] ++ more))
        ≡ reading_from s.ended (at_face b None) (mark (passed s.place) ++ ([] ++ more))
    go LineStart e more = rw e (passed-start s.ended b more)
    go OnLine e more = rw e (passed-line s.ended b 32 more refl)
    go Passing e more = rw e (passed-line s.ended b 35 more refl)

pub goes_passed : (a c : Option (List ℕ)) (r s : Scan) (before : Stage) (b : Body) → Goes a c r s before (at_face b (Some (lines_passed s)))
    → Goes a c r (without_line s) before (at_face b None)
goes_passed a c r s before b g = record {
  takes = (record { came = g.takes.0.came; consumed = g.takes.0.consumed; counted = g.takes.0.counted }, g.takes.1);
  spends = g.spends;
  reads = told_map a c _ _ (λ x y p. p ∙ line_passed s b y) g.reads;
}

-- ---- the parts together

pub asks_vertices : (d : ℕ) → AsksCount (at_vertices d) (at_faces d)
asks_vertices d = record { next = λ w. refl; unended = λ n. refl }

pub asks_faces : (d v : ℕ) → AsksCount (at_faces d v) (at_edges d v)
asks_faces d v = record { next = λ w. refl; unended = λ n. refl }

pub all_single : (P : List ℕ → Type 0) (x : List ℕ) → P x → All P (x ∷ [])
all_single P x p = λ k d h. go k d h
  where
    go : (k : ℕ) (d : List ℕ) → k < length (x ∷ []) → P (slice_index_or (x ∷ []) k d)
    go zero d h = p
    go (suc k) d h = absurd (omega (arith, h))
