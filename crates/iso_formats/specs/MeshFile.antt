-- Mesh files: what a text in the format OFF or nOFF spells, and the cause for which one is refused. Positions are passed over.
use Rattle.std.specs.Prelude.{◌≡◌, ◌≢◌, ℕ, zero, suc, ◌+◌, ◌*◌, ◌≤◌, Bool, true, false, ◌&&◌, ◌||◌, ◌==◌, nat_eq, nat_lt, List, [], ◌∷◌, ◌++◌, map, filter}
use Rattle.std.specs.Prelude.{length, All, codes, Option, Some, None, if◌then◌else◌}
use Rattle.std.specs.List.{AllPass, list_any, list_all, before_first, slice_split, onto_first}
use Rattle.std.specs.Char.{is_ascii_digit}
use Rattle.lists.specs.Orders.{has, same_list}
use Rattle.iso_formats.specs.HeaderLines.{is_filled, is_numeral, numeral_value, is_numeral_within}

-- ---- lines and words

-- the lines of a file: each ends with LF, and bytes after the last LF are a line too where there are any
abbrev pub lines_of : List ℕ → List (List ℕ)
lines_of [] = []
lines_of (c ∷ cs) = if c == 10 then [] ∷ lines_of cs else onto_first c (lines_of cs)

-- a byte between words is a space, a tab or CR
abbrev pub is_gap : ℕ → Bool
is_gap c = has (32 ∷ 9 ∷ 13 ∷ []) c

-- the words of a line: its longest runs of other bytes, before the first # where there is one
abbrev pub words_on : List ℕ → List (List ℕ)
words_on text = filter is_filled (slice_split is_gap (before_first (nat_eq 35) text))

-- a word of a file: its bytes, and the number of its line, counted from 1
pub record Word : Type 0 where
  pub text : List ℕ
  pub line : ℕ

-- the words of lines of which the first has this number
abbrev pub words_from : ℕ → List (List ℕ) → List Word
words_from n [] = []
words_from n (l ∷ ls) = map (λ w. record { text = w; line = n }) (words_on l) ++ words_from (n + 1) ls

-- the words of a file
abbrev pub words_in : List ℕ → List Word
words_in bytes = words_from 1 (lines_of bytes)

-- ---- what a word may be

-- a number of vertices or of faces: digits, with a value of at most 4294967295
abbrev pub is_count : List ℕ → Bool
is_count text = is_numeral_within 0 4294967295 text

-- a coordinate has digits, signs, points, e and E alone, and at least one digit
abbrev pub is_coordinate : List ℕ → Bool
is_coordinate text = list_all (λ c. is_ascii_digit c || has (codes "+-.eE") c) text && list_any is_ascii_digit text

-- the word behind nOFF, and the word before the numbers of a face: the dimension as one digit
abbrev pub is_size : ℕ → List ℕ → Bool
is_size d text = same_list text ((48 + d) ∷ [])

-- a number of one of v vertices: digits, with a value below v
abbrev pub is_index : ℕ → List ℕ → Bool
is_index v text = is_numeral text && nat_lt (numeral_value text) v

-- ---- what a file spells

-- the first words: OFF where the dimension is 3, or nOFF and the dimension, 2, 3 or 4, as one digit
pub data IsFirst (d : ℕ) : List (List ℕ) → Type 0 where
  plain : d ≡ 3 → IsFirst d (codes "OFF" ∷ [])
  named : 2 ≤ d → d ≤ 4 → IsFirst d (codes "nOFF" ∷ ((48 + d) ∷ []) ∷ [])

-- the front of a file: the first words, the numbers of vertices and of faces, a number of edges, which is not used, and the coordinates seen so far; the
-- other words follow
pub record HasFront (words : List Word) (d vertices faces seen : ℕ) (rest : List Word) : Type 0 where
  pub first : List Word
  pub vertex_word : Word
  pub face_word : Word
  pub edge_word : Word
  pub coordinates : List Word
  pub split : words ≡ first ++ (vertex_word ∷ face_word ∷ edge_word ∷ (coordinates ++ rest))
  pub is_first : IsFirst d (map (λ (w : Word). w.text) first)
  pub right_vertices : is_count vertex_word.text ≡ true
  pub counts_vertices : numeral_value vertex_word.text ≡ vertices
  pub right_faces : is_count face_word.text ≡ true
  pub counts_faces : numeral_value face_word.text ≡ faces
  pub right_edges : is_numeral edge_word.text ≡ true
  pub right_coordinates : AllPass (λ (w : Word). is_coordinate w.text) coordinates
  pub counted : length coordinates ≡ seen

-- the first of the words, where there is one, does not stand on the line
abbrev pub BeginsOffLine : ℕ → List Word → Type 0
BeginsOffLine line [] = Unit {0}
BeginsOffLine line (w ∷ ws) = w.line ≢ line

-- a face begins the words: the word d, d indices, and what else stands on the line of the last of them, which is passed over; the other words follow
pub record HasFace (words : List Word) (d vertices : ℕ) (simplex : List ℕ) (rest : List Word) : Type 0 where
  pub size : Word
  pub before : List Word
  pub last : Word
  pub passed : List Word
  pub split : words ≡ size ∷ (before ++ (last ∷ (passed ++ rest)))
  pub right_size : is_size d size.text ≡ true
  pub right_indices : AllPass (λ (w : Word). is_index vertices w.text) (before ++ last ∷ [])
  pub enough : length before + 1 ≡ d
  pub spelled : map (λ (w : Word). numeral_value w.text) (before ++ last ∷ []) ≡ simplex
  pub on_line : All (λ (w : Word). w.line ≡ last.line) passed
  pub off_line : BeginsOffLine last.line rest

-- faces begin the words, one after the other; the other words follow
abbrev pub HasFaces : List Word → ℕ → ℕ → List (List ℕ) → List Word → Type 0
HasFaces words d vertices [] rest = words ≡ rest
HasFaces words d vertices (simplex ∷ simplices) rest = (after : List Word) × HasFace words d vertices simplex after × HasFaces after d vertices simplices rest

-- a file spells a mesh of dimension d with so many vertices and these simplices: all coordinates stand there, then as many faces as were announced, and then
-- no more words
pub record SpellsMesh (bytes : List ℕ) (d vertices : ℕ) (simplices : List (List ℕ)) : Type 0 where
  pub body : List Word
  pub front : HasFront (words_in bytes) d vertices (length simplices) (vertices * d) body
  pub faces : HasFaces body d vertices simplices []

-- ---- the first word that does not fit

-- the causes of refusal, each with a line, and short_of_words with the number of lines
pub data MeshFault : Type 0 where
  wrong_header : ℕ → MeshFault
  wrong_count : ℕ → MeshFault
  wrong_coordinate : ℕ → MeshFault
  wrong_size : ℕ → MeshFault
  wrong_index : ℕ → MeshFault
  extra_word : ℕ → MeshFault
  short_of_words : ℕ → MeshFault

-- what is known once the numbers are read: the dimension, the numbers of vertices and of faces, and the faces read so far
pub record Body : Type 0 where
  pub dimension : ℕ
  pub vertices : ℕ
  pub faces : ℕ
  pub simplices : List (List ℕ)

-- what the next word is asked to be, with what is known by then: a first word; the dimension; the number of vertices, of faces, of edges; a coordinate, with
-- the number of those behind it;
-- the word before a face, with the line that is passed over; an index, with those before it in its face. Or a word did not fit
pub data Stage : Type 0 where
  at_first : Stage
  at_dimension : Stage
  at_vertices : ℕ → Stage
  at_faces : ℕ → ℕ → Stage
  at_edges : ℕ → ℕ → ℕ → Stage
  at_coordinate : Body → ℕ → Stage
  at_face : Body → Option ℕ → Stage
  at_index : Body → List ℕ → Stage
  stopped : MeshFault → Stage

-- the body before its first face
abbrev pub empty_body : ℕ → ℕ → ℕ → Body
empty_body d v f = record { dimension = d; vertices = v; faces = f; simplices = [] }

-- so many coordinates are to come; behind the last one a face is asked for, and no line is passed over
abbrev pub before_coordinates : Body → ℕ → Stage
before_coordinates b zero = at_face b None
before_coordinates b (suc n) = at_coordinate b n

-- one more index: with the last one the face is whole, and the rest of its line is passed over
abbrev pub with_index : Body → List ℕ → ℕ → Stage
with_index b ks line =
    if length ks == b.dimension
    then at_face (record { dimension = b.dimension; vertices = b.vertices; faces = b.faces; simplices = b.simplices ++ ks ∷ [] }) (Some line)
    else at_index b ks

-- the word stands on the line that is passed over, where there is one
abbrev pub is_passed : Option ℕ → Word → Bool
is_passed None w = false
is_passed (Some line) w = w.line == line

-- all faces have been read
abbrev pub is_whole : Body → Bool
is_whole b = length b.simplices == b.faces

-- the stage behind a word: it fits what was asked, or its cause is told with its line. At a face a word on the line that is passed over changes nothing, and
-- behind the last face no other word fits
abbrev pub next_stage : Stage → Word → Stage
next_stage at_first w =
    if same_list w.text (codes "OFF") then at_vertices 3 else if same_list w.text (codes "nOFF") then at_dimension else stopped (wrong_header w.line)
next_stage at_dimension w =
    if is_size 2 w.text then at_vertices 2 else if is_size 3 w.text then at_vertices 3
    else if is_size 4 w.text then at_vertices 4 else stopped (wrong_header w.line)
next_stage (at_vertices d) w = if is_count w.text then at_faces d (numeral_value w.text) else stopped (wrong_count w.line)
next_stage (at_faces d v) w = if is_count w.text then at_edges d v (numeral_value w.text) else stopped (wrong_count w.line)
next_stage (at_edges d v f) w = if is_numeral w.text then before_coordinates (empty_body d v f) (v * d) else stopped (wrong_count w.line)
next_stage (at_coordinate b n) w = if is_coordinate w.text then before_coordinates b n else stopped (wrong_coordinate w.line)
next_stage (at_face b passed) w =
    if is_passed passed w then at_face b passed
    else if is_whole b then stopped (extra_word w.line)
    else if is_size b.dimension w.text then at_index b [] else stopped (wrong_size w.line)
next_stage (at_index b ks) w =
    if is_index b.vertices w.text then with_index b (ks ++ numeral_value w.text ∷ []) w.line else stopped (wrong_index w.line)
next_stage (stopped fault) w = stopped fault

-- the stage behind words
abbrev pub stage_behind : Stage → List Word → Stage
stage_behind s [] = s
stage_behind s (w ∷ ws) = stage_behind (next_stage s w) ws

-- what a file is: a mesh of dimension d with so many vertices and these simplices, or a fault
pub data MeshReading : Type 0 where
  mesh_read : ℕ → ℕ → List (List ℕ) → MeshReading
  mesh_refused : MeshFault → MeshReading

-- what is answered where the words end at a stage and the file has so many lines
abbrev pub ends_at : ℕ → Stage → MeshReading
ends_at lines (at_face b passed) = if is_whole b then mesh_read b.dimension b.vertices b.simplices else mesh_refused (short_of_words lines)
ends_at lines (stopped fault) = mesh_refused fault
ends_at lines s = mesh_refused (short_of_words lines)

-- what the bytes of a file are
abbrev pub read_mesh : List ℕ → MeshReading
read_mesh bytes = ends_at (length (lines_of bytes)) (stage_behind at_first (words_in bytes))
