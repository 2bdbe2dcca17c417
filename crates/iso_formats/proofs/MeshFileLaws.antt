-- What a file spells is what is read from it; so it spells one mesh at most.
use Rattle.std.specs.Prelude.{◌≡◌, ◌<◌, ◌≤◌, ◌+◌, ◌*◌, ◌==◌, ℕ, zero, suc, Bool, true, false, List, [], ◌∷◌, ◌++◌, map, length, All, codes, Option, Some}
use Rattle.std.specs.Prelude.{None}
use Rattle.std.specs.List.{AllPass}
use Rattle.std.proofs.Common.{refl, ap, arith, subst, sym, ◌∙◌}
use Rattle.std.proofs.lemmas.List.{append_assoc, append-nil, length-append}
use Rattle.std.proofs.lemmas.List.Elements.{All-head, All-tail}
use Rattle.lists.proofs.Tests.{of_equal, equal_of}
use Rattle.iso_formats.specs.HeaderLines.{is_numeral, numeral_value}
use Rattle.iso_formats.specs.MeshFile.{Word, Body, Stage, IsFirst, plain, named, HasFront, HasFace, HasFaces, BeginsOffLine, SpellsMesh, at_first}
use Rattle.iso_formats.specs.MeshFile.{at_vertices, at_faces, at_edges, at_coordinate, at_face, at_index, before_coordinates, empty_body, with_index}
use Rattle.iso_formats.specs.MeshFile.{next_stage, stage_behind, is_coordinate, is_count, is_index, is_passed, is_whole, is_size, ends_at, read_mesh}
use Rattle.iso_formats.specs.MeshFile.{mesh_read, words_in, lines_of}

pub stage-append : (s : Stage) (xs ys : List Word) → stage_behind s (xs ++ ys) ≡ stage_behind (stage_behind s xs) ys
stage-append s [] ys = refl
stage-append s (x ∷ xs) ys = stage-append (next_stage s x) xs ys

-- the first words
first_dimension : (d : ℕ) (w x : Word) → 2 ≤ d → d ≤ 4 → w.text ≡ codes "nOFF" → x.text ≡ (48 + d) ∷ [] → stage_behind at_first (w ∷ x ∷ []) ≡ at_vertices d
first_dimension zero w x l h e f = absurd (omega (arith, l))
first_dimension (suc zero) w x l h e f = absurd (omega (arith, l))
first_dimension (suc (suc zero)) w x l h e f = rw (e, f) refl
first_dimension (suc (suc (suc zero))) w x l h e f = rw (e, f) refl
first_dimension (suc (suc (suc (suc zero)))) w x l h e f = rw (e, f) refl
first_dimension (suc (suc (suc (suc (suc d))))) w x l h e f = absurd (omega (arith, h))

first_read : (d : ℕ) (ts : List (List ℕ)) → IsFirst d ts → (ws : List Word) → map (λ (w : Word). w.text) ws ≡ ts → stage_behind at_first ws ≡ at_vertices d
first_read d _ (plain three) [] e = absurd (cc)
first_read d _ (plain three) (w ∷ []) e = let t : w.text ≡ codes "OFF" = cc in rw (t, three) refl
first_read d _ (plain three) (w ∷ x ∷ ws) e = absurd (cc)
first_read d _ (named l h) [] e = absurd (cc)
first_read d _ (named l h) (w ∷ []) e = absurd (cc)
first_read d _ (named l h) (w ∷ x ∷ []) e = let t : w.text ≡ codes "nOFF" = cc in let u : x.text ≡ (48 + d) ∷ [] = cc in first_dimension d w x l h t u
first_read d _ (named l h) (w ∷ x ∷ y ∷ ws) e = absurd (cc)

-- one word more
after : (s t : Stage) (w : Word) (ws : List Word) → next_stage s w ≡ t → stage_behind s (w ∷ ws) ≡ stage_behind t ws
after s t w ws e = ap (λ (u : Stage). stage_behind u ws) e

vertices_fit : (d v : ℕ) (w : Word) → is_count w.text ≡ true → numeral_value w.text ≡ v → next_stage (at_vertices d) w ≡ at_faces d v
vertices_fit d v w t e = rw (t, e) refl

faces_fit : (d v f : ℕ) (w : Word) → is_count w.text ≡ true → numeral_value w.text ≡ f → next_stage (at_faces d v) w ≡ at_edges d v f
faces_fit d v f w t e = rw (t, e) refl

edges_fit : (d v f : ℕ) (w : Word) → is_numeral w.text ≡ true → next_stage (at_edges d v f) w ≡ before_coordinates (empty_body d v f) (v * d)
edges_fit d v f w t = rw t refl

pub coordinate_fits : (b : Body) (n : ℕ) (w : Word) → is_coordinate w.text ≡ true → next_stage (at_coordinate b n) w ≡ before_coordinates b n
coordinate_fits b n w t = rw t refl

passed_fits : (b : Body) (line : ℕ) (w : Word) → w.line ≡ line → next_stage (at_face b (Some line)) w ≡ at_face b (Some line)
passed_fits b line w e = let t : (w.line == line) ≡ true = of_equal w.line line e in rw t refl

size_fits : (b : Body) (p : Option ℕ) (w : Word) → is_passed p w ≡ false → is_whole b ≡ false → is_size b.dimension w.text ≡ true
    → next_stage (at_face b p) w ≡ at_index b []
size_fits b p w t u v = rw (t, u, v) refl

index_fits : (b : Body) (ks : List ℕ) (w : Word) → is_index b.vertices w.text ≡ true → next_stage (at_index b ks) w
    ≡ with_index b (ks ++ numeral_value w.text ∷ []) w.line
index_fits b ks w t = rw t refl

-- coordinates
coordinates_read : (b : Body) (cs rest : List Word) → AllPass (λ (w : Word). is_coordinate w.text) cs
    → stage_behind (before_coordinates b (length cs)) (cs ++ rest) ≡ stage_behind (at_face b None) rest
coordinates_read b [] rest h = refl
coordinates_read b (c ∷ cs) rest h =
    after (at_coordinate b (length cs)) (before_coordinates b (length cs)) c (cs ++ rest)
    (coordinate_fits b (length cs) c (All-head (λ (w : Word). is_coordinate w.text ≡ true) c cs h))
    ∙ coordinates_read b cs rest (All-tail (λ (w : Word). is_coordinate w.text ≡ true) c cs h)

-- what is passed over
passed_read : (b : Body) (line : ℕ) (ps rest : List Word) → All (λ (w : Word). w.line ≡ line) ps
    → stage_behind (at_face b (Some line)) (ps ++ rest) ≡ stage_behind (at_face b (Some line)) rest
passed_read b line [] rest h = refl
passed_read b line (p ∷ ps) rest h =
    after (at_face b (Some line)) (at_face b (Some line)) p (ps ++ rest) (passed_fits b line p (All-head (λ (w : Word). w.line ≡ line) p ps h))
    ∙ passed_read b line ps rest (All-tail (λ (w : Word). w.line ≡ line) p ps h)

-- the front
front_read : (words rest : List Word) (d v f : ℕ) → HasFront words d v f (v * d) rest → stage_behind at_first words
    ≡ stage_behind (at_face (empty_body d v f) None) rest
front_read words rest d v f h =
    let tail = h.coordinates ++ rest in
    let body = empty_body d v f in
    ap (stage_behind at_first) h.split
    ∙ stage-append at_first h.first (h.vertex_word ∷ h.face_word ∷ h.edge_word ∷ tail)
    ∙ ap (λ (s : Stage). stage_behind s (h.vertex_word ∷ h.face_word ∷ h.edge_word ∷ tail))
    (first_read d (map (λ (w : Word). w.text) h.first) h.is_first h.first refl)
    ∙ after (at_vertices d) (at_faces d v) h.vertex_word (h.face_word ∷ h.edge_word ∷ tail) (vertices_fit d v h.vertex_word h.right_vertices h.counts_vertices)
    ∙ after (at_faces d v) (at_edges d v f) h.face_word (h.edge_word ∷ tail) (faces_fit d v f h.face_word h.right_faces h.counts_faces)
    ∙ after (at_edges d v f) (before_coordinates body (v * d)) h.edge_word tail (edges_fit d v f h.edge_word h.right_edges)
    ∙ ap (λ (n : ℕ). stage_behind (before_coordinates body n) tail) (sym h.counted)
    ∙ coordinates_read body h.coordinates rest h.right_coordinates

-- ---- faces

-- a body with further faces
unfoldable pub with_faces : Body → List (List ℕ) → Body
with_faces b ss = record { dimension = b.dimension; vertices = b.vertices; faces = b.faces; simplices = b.simplices ++ ss }

-- the first word does not stand on the line that is passed over
unfoldable pub BeginsUnpassed : Option ℕ → List Word → Type 0
BeginsUnpassed p [] = Unit {0}
BeginsUnpassed p (w ∷ ws) = is_passed p w ≡ false

unpassed_off : (line : ℕ) (ws : List Word) → BeginsOffLine line ws → BeginsUnpassed (Some line) ws
unfolding BeginsUnpassed
unpassed_off line [] h = tt
unpassed_off line (w ∷ ws) h = go (w.line == line) refl
  where
    go : (b : Bool) → (w.line == line) ≡ b → (w.line == line) ≡ false
    go true e = absurd (h (equal_of w.line line e))
    go false e = e

unpassed_none : (ws : List Word) → BeginsUnpassed None ws
unfolding BeginsUnpassed
unpassed_none [] = tt
unpassed_none (w ∷ ws) = refl

pub unequal : (m n : ℕ) → m < n → (m == n) ≡ false
unequal m n h = go (m == n) refl
  where
    go : (b : Bool) → (m == n) ≡ b → (m == n) ≡ false
    go true e = let s = equal_of m n e in absurd (omega (arith, h, s))
    go false e = e

-- indices before the last one
pub index_goes_on : (b : Body) (ks : List ℕ) (line : ℕ) → length ks < b.dimension → with_index b ks line ≡ at_index b ks
index_goes_on b ks line h = let t : (length ks == b.dimension) ≡ false = unequal (length ks) b.dimension h in rw t refl

index_ends : (b : Body) (ks : List ℕ) (line : ℕ) → length ks ≡ b.dimension → with_index b ks line ≡ at_face (with_faces b (ks ∷ [])) (Some line)
unfolding with_faces
index_ends b ks line h = let t : (length ks == b.dimension) ≡ true = of_equal (length ks) b.dimension h in rw t refl

unfoldable pub values : List Word → List ℕ
values ws = map (λ (w : Word). numeral_value w.text) ws

indices_read : (b : Body) (ks : List ℕ) (ws : List Word) (last : Word) (rest : List Word)
    → AllPass (λ (w : Word). is_index b.vertices w.text) (ws ++ last ∷ []) → length ks + length ws + 1 ≡ b.dimension
    → stage_behind (at_index b ks) (ws ++ last ∷ rest) ≡ stage_behind (at_face (with_faces b ((ks ++ values (ws ++ last ∷ [])) ∷ [])) (Some last.line)) rest
unfolding values
indices_read b ks [] last rest h n =
    let more = length-append ks (numeral_value last.text ∷ []) in
    after (at_index b ks) (with_index b (ks ++ numeral_value last.text ∷ []) last.line) last rest
    (index_fits b ks last (All-head (λ (w : Word). is_index b.vertices w.text ≡ true) last [] h))
    ∙ ap (λ (s : Stage). stage_behind s rest) (index_ends b (ks ++ numeral_value last.text ∷ []) last.line (omega (arith, more, n)))
indices_read b ks (w ∷ ws) last rest h n =
    let more = length-append ks (numeral_value w.text ∷ []) in
    let next = ks ++ numeral_value w.text ∷ [] in
    after (at_index b ks) (with_index b next w.line) w (ws ++ last ∷ rest)
    (index_fits b ks w (All-head (λ (w : Word). is_index b.vertices w.text ≡ true) w (ws ++ last ∷ []) h))
    ∙ ap (λ (s : Stage). stage_behind s (ws ++ last ∷ rest)) (index_goes_on b next w.line (omega (arith, more, n)))
    ∙ indices_read b next ws last rest (All-tail (λ (w : Word). is_index b.vertices w.text ≡ true) w (ws ++ last ∷ []) h) (omega (arith, more, n))
    ∙ ap (λ (l : List ℕ). stage_behind (at_face (with_faces b (l ∷ [])) (Some last.line)) rest)
    (append_assoc ks (numeral_value w.text ∷ []) (values (ws ++ last ∷ [])))

-- a face
face_read : (words rest : List Word) (b : Body) (p : Option ℕ) (simplex : List ℕ) (h : HasFace words b.dimension b.vertices simplex rest)
    → BeginsUnpassed p words → is_whole b ≡ false
    → stage_behind (at_face b p) words ≡ stage_behind (at_face (with_faces b (simplex ∷ [])) (Some h.last.line)) rest
unfolding BeginsUnpassed values
face_read words rest b p simplex h u some =
    let unpassed : BeginsUnpassed p (h.size ∷ (h.before ++ (h.last ∷ (h.passed ++ rest)))) = subst (BeginsUnpassed p) h.split u in
    ap (stage_behind (at_face b p)) h.split
    ∙ after (at_face b p) (at_index b []) h.size (h.before ++ (h.last ∷ (h.passed ++ rest))) (size_fits b p h.size unpassed some h.right_size)
    ∙ indices_read b [] h.before h.last (h.passed ++ rest) h.right_indices (let e = h.enough in omega (arith, e))
    ∙ ap (λ (l : List ℕ). stage_behind (at_face (with_faces b (l ∷ [])) (Some h.last.line)) (h.passed ++ rest)) h.spelled
    ∙ passed_read (with_faces b (simplex ∷ [])) h.last.line h.passed rest h.on_line

-- a whole body is one whose faces are all there
whole_where : (b : Body) → b.faces ≡ length b.simplices → is_whole b ≡ true
whole_where b e = of_equal (length b.simplices) b.faces (sym e)

faces_read : (lines : ℕ) (ss : List (List ℕ)) (words : List Word) (b : Body) (p : Option ℕ) → HasFaces words b.dimension b.vertices ss []
    → BeginsUnpassed p words → b.faces ≡ length b.simplices + length ss
    → ends_at lines (stage_behind (at_face b p) words) ≡ mesh_read b.dimension b.vertices (b.simplices ++ ss)
unfolding with_faces
faces_read lines [] words b p h u n =
    let w : is_whole b ≡ true = whole_where b (omega (arith, n)) in
    ap (λ (l : List Word). ends_at lines (stage_behind (at_face b p) l)) h ∙ rw w (ap (mesh_read b.dimension b.vertices) (sym (append-nil b.simplices)))
faces_read lines (s ∷ ss) words b p h u n =
    let some : is_whole b ≡ false = unequal (length b.simplices) b.faces (omega (arith, n)) in
    let more = length-append b.simplices (s ∷ []) in
    ap (ends_at lines) (face_read words h.0 b p s h.1 u some)
    ∙ faces_read lines ss h.0 (with_faces b (s ∷ [])) (Some h.1.last.line) h.2 (unpassed_off h.1.last.line h.0 h.1.off_line) (omega (arith, n, more))
    ∙ ap (mesh_read b.dimension b.vertices) (append_assoc b.simplices (s ∷ []) ss)

-- what a file spells is read from it
pub spelled_is_read : (bytes : List ℕ) (d v : ℕ) (ss : List (List ℕ)) → SpellsMesh bytes d v ss → read_mesh bytes ≡ mesh_read d v ss
spelled_is_read bytes d v ss h =
    let lines = length (lines_of bytes) in
    ap (ends_at lines) (front_read (words_in bytes) h.body d v (length ss) h.front)
    ∙ faces_read lines ss h.body (empty_body d v (length ss)) None h.faces (unpassed_none h.body) (omega arith)

-- two meshes that one file spells are the same
pub one_mesh : (bytes : List ℕ) (d e v w : ℕ) (ss ts : List (List ℕ)) → SpellsMesh bytes d v ss → SpellsMesh bytes e w ts → (d ≡ e) × (v ≡ w) × (ss ≡ ts)
one_mesh bytes d e v w ss ts a b =
    let s : mesh_read d v ss ≡ mesh_read e w ts = sym (spelled_is_read bytes d v ss a) ∙ spelled_is_read bytes e w ts b in
    (cc, cc, cc)
