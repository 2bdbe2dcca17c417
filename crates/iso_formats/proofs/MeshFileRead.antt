-- What is read from a file is what it spells.
use Rattle.std.specs.Prelude.{◌≡◌, ◌<◌, ◌≤◌, ◌+◌, ◌*◌, ◌==◌, ℕ, zero, suc, Bool, true, false, List, [], ◌∷◌, ◌++◌, map, length, slice_index_or, All, codes}
use Rattle.std.specs.Prelude.{Option, Some, None, if◌then◌else◌}
use Rattle.std.specs.List.{AllPass}
use Rattle.std.proofs.Common.{refl, ap, arith, subst, sym, ◌∙◌}
use Rattle.std.proofs.lemmas.List.{append_assoc, append-nil, length-append}
use Rattle.lists.specs.Orders.{same_list}
use Rattle.lists.proofs.MemberLaws.{lists_equal}
use Rattle.lists.proofs.Tests.{of_equal, equal_of}
use Rattle.iso_formats.specs.HeaderLines.{is_numeral, numeral_value}
use Rattle.iso_formats.specs.MeshFile.{Word, Body, Stage, MeshFault, IsFirst, plain, named, HasFaces, BeginsOffLine, SpellsMesh, at_first, at_dimension}
use Rattle.iso_formats.specs.MeshFile.{at_vertices, at_faces, at_edges, at_face, at_index, stopped, before_coordinates, empty_body, stage_behind}
use Rattle.iso_formats.specs.MeshFile.{is_coordinate, is_count, is_index, is_passed, is_whole, is_size, ends_at, read_mesh, mesh_read, words_in, lines_of}
use Rattle.iso_formats.specs.MeshFile.{wrong_header, wrong_count, wrong_coordinate, wrong_size, wrong_index, extra_word, mesh_refused, short_of_words}
use Rattle.iso_formats.proofs.MeshFileLaws.{with_faces, BeginsUnpassed, values}

-- the words behind a stage end well: a mesh is read
EndsWell : ℕ → Stage → List Word → ℕ → ℕ → List (List ℕ) → Type 0
EndsWell lines s ws d v ss = ends_at lines (stage_behind s ws) ≡ mesh_read d v ss

stopped_stays : (f : MeshFault) (ws : List Word) → stage_behind (stopped f) ws ≡ stopped f
stopped_stays f [] = refl
stopped_stays f (w ∷ ws) = stopped_stays f ws

never : (lines : ℕ) (f : MeshFault) (ws : List Word) (d v : ℕ) (ss : List (List ℕ)) → EndsWell lines (stopped f) ws d v ss → ⊥
unfolding EndsWell
never lines f ws d v ss e = let x = sym (ap (ends_at lines) (stopped_stays f ws)) ∙ e in cc

-- ---- coordinates

record Coordinates (lines : ℕ) (b : Body) (n : ℕ) (ws : List Word) (d v : ℕ) (ss : List (List ℕ)) : Type 0 where
  coordinates : List Word
  body : List Word
  split : ws ≡ coordinates ++ body
  right : AllPass (λ (w : Word). is_coordinate w.text) coordinates
  counted : length coordinates ≡ n
  goes_on : EndsWell lines (at_face b None) body d v ss

none_yet : (P : Word → Type 0) → All P []
none_yet P = λ k d h. absurd (omega (arith, h))

one_more : (P : Word → Type 0) (w : Word) (ws : List Word) → P w → All P ws → All P (w ∷ ws)
one_more P w ws p a = λ k d h. go k d h
  where
    go : (k : ℕ) (d : Word) → k < length (w ∷ ws) → P (slice_index_or (w ∷ ws) k d)
    go zero d h = p
    go (suc k) d h = a k d (omega (arith, h))

coordinates_of : (lines : ℕ) (b : Body) (n : ℕ) (ws : List Word) (d v : ℕ) (ss : List (List ℕ)) → EndsWell lines (before_coordinates b n) ws d v ss
    → Coordinates lines b n ws d v ss
unfolding EndsWell
coordinates_of lines b zero ws d v ss e = record {
  coordinates = [];
  body = ws;
  split = refl;
  right = none_yet (λ (w : Word). is_coordinate w.text
      ≡ true);
  counted = refl;
  goes_on = e;
}
coordinates_of lines b (suc n) [] d v ss e = absurd (cc)
coordinates_of lines b (suc n) (w ∷ ws) d v ss e = go (is_coordinate w.text) refl (coordinates_of lines b n ws d v ss) e
  where
    go : (x : Bool) → is_coordinate w.text ≡ x → (EndsWell lines (before_coordinates b n) ws d v ss → Coordinates lines b n ws d v ss)
        → ends_at lines (stage_behind (if x then before_coordinates b n else stopped (wrong_coordinate w.line)) ws) ≡ mesh_read d v ss
        → Coordinates lines b (suc n) (w ∷ ws) d v ss
    go true t later e =
        let c = later e in
        record {
          coordinates = w ∷ c.coordinates;
          body = c.body;
          split = ap (λ (l : List Word). w ∷ l) c.split;
          right = one_more (λ (w : Word). is_coordinate w.text ≡ true) w c.coordinates t c.right;
          counted = let k = c.counted in omega (arith, k);
          goes_on = c.goes_on;
        }
    go false t later e = absurd (never lines (wrong_coordinate w.line) ws d v ss e)

-- ---- faces

-- behind a face: what is passed over, and further faces
record Faces (b : Body) (p : Option ℕ) (ws : List Word) (d v : ℕ) (ss : List (List ℕ)) : Type 0 where
  passed : List Word
  rest : List Word
  new : List (List ℕ)
  split : ws ≡ passed ++ rest
  on_line : All (λ (w : Word). is_passed p w ≡ true) passed
  off_line : BeginsUnpassed p rest
  faces : HasFaces rest b.dimension b.vertices new []
  read : b.simplices ++ new ≡ ss
  enough : length ss ≡ b.faces
  same_dimension : b.dimension ≡ d
  same_vertices : b.vertices ≡ v

-- within a face: its further indices, and then as behind a face
record Indices (b : Body) (ks : List ℕ) (ws : List Word) (d v : ℕ) (ss : List (List ℕ)) : Type 0 where
  before : List Word
  last : Word
  after : List Word
  split : ws ≡ before ++ (last ∷ after)
  right : AllPass (λ (w : Word). is_index b.vertices w.text) (before ++ last ∷ [])
  counted : length ks + length before + 1 ≡ b.dimension
  faces : Faces (with_faces b ((ks ++ values (before ++ last ∷ [])) ∷ [])) (Some last.line) after d v ss

-- both, for all bodies
record ReadOn (lines : ℕ) (ws : List Word) (d v : ℕ) (ss : List (List ℕ)) : Type 0 where
  faces : (b : Body) (p : Option ℕ) → 0 < b.dimension → EndsWell lines (at_face b p) ws d v ss → Faces b p ws d v ss
  indices : (b : Body) (ks : List ℕ) → length ks < b.dimension → EndsWell lines (at_index b ks) ws d v ss → Indices b ks ws d v ss

-- where the words end
faces_end : (lines : ℕ) (d v : ℕ) (ss : List (List ℕ)) (b : Body) (p : Option ℕ) → EndsWell lines (at_face b p) [] d v ss → Faces b p [] d v ss
unfolding EndsWell BeginsUnpassed
faces_end lines d v ss b p e = go (is_whole b) refl e
  where
    go : (x : Bool) → is_whole b ≡ x → (if x then mesh_read b.dimension b.vertices b.simplices else mesh_refused (short_of_words lines))
        ≡ mesh_read d v ss → Faces b p [] d v ss
    go true t e =
        let same : b.simplices ≡ ss = cc in
        let whole = equal_of (length b.simplices) b.faces t in
        record {
          passed = [];
          rest = [];
          new = [];
          split = refl;
          on_line = none_yet (λ (w : Word). is_passed p w ≡ true);
          off_line = tt;
          faces = refl;
          read = append-nil b.simplices ∙ same;
          enough = ap (λ (l : List (List ℕ)). length l) (sym same) ∙ whole;
          same_dimension = cc;
          same_vertices = cc;
        }
    go false t e = absurd (cc)

-- words that do not begin on a line
off_from : (line : ℕ) (ws : List Word) → BeginsUnpassed (Some line) ws → BeginsOffLine line ws
unfolding BeginsUnpassed
off_from line [] h = tt
off_from line (w ∷ ws) h = λ e. let y = of_equal w.line line e in absurd (cc)

-- one word more at a face
faces_more : (lines : ℕ) (d v : ℕ) (ss : List (List ℕ)) (b : Body) (p : Option ℕ) (w : Word) (ws : List Word) → 0 < b.dimension → ReadOn lines ws d v ss
    → EndsWell lines (at_face b p) (w ∷ ws) d v ss → Faces b p (w ∷ ws) d v ss
unfolding EndsWell BeginsUnpassed values with_faces
faces_more lines d v ss b p w ws some r e = go (is_passed p w) (is_whole b) (is_size b.dimension w.text) refl refl refl e
  where
    go : (x y z : Bool) → is_passed p w ≡ x → is_whole b ≡ y → is_size b.dimension w.text ≡ z
        → ends_at lines (stage_behind (if x then at_face b p else if y then stopped (extra_word w.line) else if z then at_index b []
        else stopped (wrong_size w.line)) ws) ≡ mesh_read d v ss
        → Faces b p (w ∷ ws) d v ss
    go true y z t _ _ e =
        let f = r.faces b p some e in
        record {
          passed = w ∷ f.passed;
          rest = f.rest;
          new = f.new;
          split = ap (λ (l : List Word). w ∷ l) f.split;
          on_line = one_more (λ (w : Word). is_passed p w ≡ true) w f.passed t f.on_line;
          off_line = f.off_line;
          faces = f.faces;
          read = f.read;
          enough = f.enough;
          same_dimension = f.same_dimension;
          same_vertices = f.same_vertices;
        }
    go false true z t _ _ e = absurd (never lines (extra_word w.line) ws d v ss e)
    go false false true t _ u e =
        let i = r.indices b [] some e in
        let f = i.faces in
        let face = values (i.before ++ i.last ∷ []) in
        record {
          passed = [];
          rest = w ∷ ws;
          new = face ∷ f.new;
          split = refl;
          on_line = none_yet (λ (w : Word). is_passed p w ≡ true);
          off_line = t;
          faces = (
            f.rest,
            record {
              size = w;
              before = i.before;
              last = i.last;
              passed = f.passed;
              split = ap (λ (l : List Word). w ∷ l) (i.split ∙ ap (λ (l : List Word). i.before ++ (i.last ∷ l)) f.split);
              right_size = u;
              right_indices = i.right;
              enough = let k = i.counted in omega (arith, k);
              spelled = refl;
              on_line = λ k d h. equal_of _ _ (f.on_line k d h);
              off_line = off_from i.last.line f.rest f.off_line;
            },
            f.faces,
          );
          read = sym (append_assoc b.simplices (face ∷ []) f.new) ∙ f.read;
          enough = f.enough;
          same_dimension = f.same_dimension;
          same_vertices = f.same_vertices;
        }
    go false false false t _ _ e = absurd (never lines (wrong_size w.line) ws d v ss e)

-- one word more at an index
indices_more : (lines : ℕ) (d v : ℕ) (ss : List (List ℕ)) (b : Body) (ks : List ℕ) (w : Word) (ws : List Word) → length ks < b.dimension
    → ReadOn lines ws d v ss
    → EndsWell lines (at_index b ks) (w ∷ ws) d v ss → Indices b ks (w ∷ ws) d v ss
unfolding EndsWell values with_faces
indices_more lines d v ss b ks w ws some r e = go (is_index b.vertices w.text) (length (ks ++ numeral_value w.text ∷ []) == b.dimension) refl refl e
  where
    next : List ℕ
    next = ks ++ numeral_value w.text ∷ []

    go : (x y : Bool) → is_index b.vertices w.text ≡ x → (length (ks ++ numeral_value w.text ∷ []) == b.dimension) ≡ y
        → ends_at lines (stage_behind (if x then (if y then at_face (with_faces b ((ks ++ numeral_value w.text ∷ []) ∷ [])) (Some w.line)
        else at_index b (ks ++ numeral_value w.text ∷ [])) else stopped (wrong_index w.line)) ws) ≡ mesh_read d v ss
        → Indices b ks (w ∷ ws) d v ss
    go true true t u e =
        let more = length-append ks (numeral_value w.text ∷ []) in
        let n = equal_of (length (ks ++ numeral_value w.text ∷ [])) b.dimension u in
        record {
          before = [];
          last = w;
          after = ws;
          split = refl;
          right = one_more (λ (w : Word). is_index b.vertices w.text ≡ true) w [] t (none_yet (λ (w : Word). is_index b.vertices w.text ≡ true));
          counted = omega (arith, more, n);
          faces = r.faces (with_faces b ((ks ++ numeral_value w.text ∷ []) ∷ [])) (Some w.line) (omega (arith, some)) e;
        }
    go true false t u e =
        let more = length-append ks (numeral_value w.text ∷ []) in
        let n : ¬ (length (ks ++ numeral_value w.text ∷ []) ≡ b.dimension) = λ x. let y =
        of_equal (length (ks ++ numeral_value w.text ∷ [])) b.dimension x in cc in
        let i = r.indices b (ks ++ numeral_value w.text ∷ []) (omega (arith, more, n, some)) e in
        record {
          before = w ∷ i.before;
          last = i.last;
          after = i.after;
          split = ap (λ (l : List Word). w ∷ l) i.split;
          right = one_more (λ (w : Word). is_index b.vertices w.text ≡ true) w (i.before ++ i.last ∷ []) t i.right;
          counted = let c = i.counted in omega (arith, more, c);
          faces = subst (λ (l : List ℕ). Faces (with_faces b (l ∷ [])) (Some i.last.line) i.after d v ss)
              (append_assoc ks (numeral_value w.text ∷ []) (values (i.before ++ i.last ∷ []))) i.faces;
        }
    go false y t u e = absurd (never lines (wrong_index w.line) ws d v ss e)

read_on : (lines : ℕ) (ws : List Word) (d v : ℕ) (ss : List (List ℕ)) → ReadOn lines ws d v ss
unfolding EndsWell
read_on lines [] d v ss = record { faces = λ b p some e. faces_end lines d v ss b p e; indices = λ b ks some e. absurd (cc) }
read_on lines (w ∷ ws) d v ss =
    let r = read_on lines ws d v ss in
    record { faces = λ b p some e. faces_more lines d v ss b p w ws some r e; indices = λ b ks some e. indices_more lines d v ss b ks w ws some r e }

-- ---- the front

-- the first words, and then the numbers
record First (lines : ℕ) (ws : List Word) (d v : ℕ) (ss : List (List ℕ)) : Type 0 where
  dimension : ℕ
  first : List Word
  rest : List Word
  split : ws ≡ first ++ rest
  is_first : IsFirst dimension (map (λ (w : Word). w.text) first)
  some : 0 < dimension
  goes_on : EndsWell lines (at_vertices dimension) rest d v ss

dimension_next : (lines : ℕ) (d v : ℕ) (ss : List (List ℕ)) (w : Word) (ws : List Word) → w.text ≡ codes "nOFF" → EndsWell lines at_dimension ws d v ss
    → First lines (w ∷ ws) d v ss
unfolding EndsWell
dimension_next lines d v ss w [] h e = absurd (cc)
dimension_next lines d v ss w (x ∷ ws) h e = go (is_size 2 x.text) (is_size 3 x.text) (is_size 4 x.text) refl refl refl e
  where
    with : (k : ℕ) → 2 ≤ k → k ≤ 4 → is_size k x.text ≡ true → ends_at lines (stage_behind (at_vertices k) ws) ≡ mesh_read d v ss
        → First lines (w ∷ x ∷ ws) d v ss
    with k l m t e = record {
      dimension = k;
      first = w ∷ x ∷ [];
      rest = ws;
      split = refl;
      is_first = subst (λ (ts : List (List ℕ)). IsFirst k ts) (ap (λ (a : List ℕ). a ∷ ((48 + k) ∷ []) ∷ []) (sym h)
          ∙ ap (λ (a : List ℕ). w.text ∷ a ∷ []) (sym (lists_equal x.text ((48 + k) ∷ []) t))) (named l m);
      some = omega (arith, l);
      goes_on = e;
    }

    go : (p q r : Bool) → is_size 2 x.text ≡ p → is_size 3 x.text ≡ q → is_size 4 x.text ≡ r
        → ends_at lines (stage_behind (if p then at_vertices 2 else if q then at_vertices 3 else if r then at_vertices 4
        else stopped (wrong_header x.line)) ws) ≡ mesh_read d v ss
        → First lines (w ∷ x ∷ ws) d v ss
    go true q r t _ _ e = with 2 (omega arith) (omega arith) t e
    go false true r _ t _ e = with 3 (omega arith) (omega arith) t e
    go false false true _ _ t e = with 4 (omega arith) (omega arith) t e
    go false false false _ _ _ e = absurd (never lines (wrong_header x.line) ws d v ss e)

first_of : (lines : ℕ) (d v : ℕ) (ss : List (List ℕ)) (ws : List Word) → EndsWell lines at_first ws d v ss → First lines ws d v ss
unfolding EndsWell
first_of lines d v ss [] e = absurd (cc)
first_of lines d v ss (w ∷ ws) e = go (same_list w.text (codes "OFF")) (same_list w.text (codes "nOFF")) refl refl e
  where
    go : (x y : Bool) → same_list w.text (codes "OFF") ≡ x → same_list w.text (codes "nOFF") ≡ y
        → ends_at lines (stage_behind (if x then at_vertices 3 else if y then at_dimension else stopped (wrong_header w.line)) ws) ≡ mesh_read d v ss
        → First lines (w ∷ ws) d v ss
    go true y t _ e = record {
      dimension = 3;
      first = w ∷ [];
      rest = ws;
      split = refl;
      is_first = subst (λ (ts : List (List ℕ)). IsFirst 3 ts) (ap (λ (a : List ℕ). a ∷ []) (sym (lists_equal w.text (codes "OFF") t))) (plain refl);
      some = omega arith;
      goes_on = e;
    }
    go false true _ u e = dimension_next lines d v ss w ws (lists_equal w.text (codes "nOFF") u) e
    go false false _ _ e = absurd (never lines (wrong_header w.line) ws d v ss e)

-- the three numbers, and then the coordinates
record Counts (lines k : ℕ) (ws : List Word) (d v : ℕ) (ss : List (List ℕ)) : Type 0 where
  vertex_word : Word
  face_word : Word
  edge_word : Word
  rest : List Word
  split : ws ≡ vertex_word ∷ face_word ∷ edge_word ∷ rest
  right_vertices : is_count vertex_word.text ≡ true
  right_faces : is_count face_word.text ≡ true
  right_edges : is_numeral edge_word.text ≡ true
  goes_on : EndsWell lines
      (before_coordinates (empty_body k (numeral_value vertex_word.text) (numeral_value face_word.text)) (numeral_value vertex_word.text * k)) rest d v ss

edges_next : (lines k : ℕ) (d v : ℕ) (ss : List (List ℕ)) (a b : Word) (ws : List Word) → is_count a.text ≡ true → is_count b.text ≡ true
    → EndsWell lines (at_edges k (numeral_value a.text) (numeral_value b.text)) ws d v ss → Counts lines k (a ∷ b ∷ ws) d v ss
unfolding EndsWell
edges_next lines k d v ss a b [] h i e = absurd (cc)
edges_next lines k d v ss a b (c ∷ ws) h i e = go (is_numeral c.text) refl e
  where
    go : (x : Bool) → is_numeral c.text ≡ x
        → ends_at lines
        (stage_behind (if x then before_coordinates (empty_body k (numeral_value a.text) (numeral_value b.text)) (numeral_value a.text * k)
        else stopped (wrong_count c.line)) ws) ≡ mesh_read d v ss
        → Counts lines k (a ∷ b ∷ c ∷ ws) d v ss
    go true t e = record {
      vertex_word = a;
      face_word = b;
      edge_word = c;
      rest = ws;
      split = refl;
      right_vertices = h;
      right_faces = i;
      right_edges =
          t;
      goes_on = e;
    }
    go false t e = absurd (never lines (wrong_count c.line) ws d v ss e)

faces_next : (lines k : ℕ) (d v : ℕ) (ss : List (List ℕ)) (a : Word) (ws : List Word) → is_count a.text ≡ true
    → EndsWell lines (at_faces k (numeral_value a.text)) ws d v ss → Counts lines k (a ∷ ws) d v ss
unfolding EndsWell
faces_next lines k d v ss a [] h e = absurd (cc)
faces_next lines k d v ss a (b ∷ ws) h e = go (is_count b.text) refl e
  where
    go : (x : Bool) → is_count b.text ≡ x
        → ends_at lines (stage_behind (if x then at_edges k (numeral_value a.text) (numeral_value b.text) else stopped (wrong_count b.line)) ws)
        ≡ mesh_read d v ss
        → Counts lines k (a ∷ b ∷ ws) d v ss
    go true t e = edges_next lines k d v ss a b ws h t e
    go false t e = absurd (never lines (wrong_count b.line) ws d v ss e)

counts_of : (lines k : ℕ) (d v : ℕ) (ss : List (List ℕ)) (ws : List Word) → EndsWell lines (at_vertices k) ws d v ss → Counts lines k ws d v ss
unfolding EndsWell
counts_of lines k d v ss [] e = absurd (cc)
counts_of lines k d v ss (a ∷ ws) e = go (is_count a.text) refl e
  where
    go : (x : Bool) → is_count a.text ≡ x
        → ends_at lines (stage_behind (if x then at_faces k (numeral_value a.text) else stopped (wrong_count a.line)) ws) ≡ mesh_read d v ss
        → Counts lines k (a ∷ ws) d v ss
    go true t e = faces_next lines k d v ss a ws t e
    go false t e = absurd (never lines (wrong_count a.line) ws d v ss e)

-- ---- the file

-- with no line to pass over nothing is passed over
nothing_passed : (ws : List Word) → All (λ (w : Word). is_passed None w ≡ true) ws → ws ≡ []
nothing_passed [] h = refl
nothing_passed (w ∷ ws) h = absurd (let x = h 0 w (omega arith) in cc)

-- what is read from a file is what it spells
pub read_is_spelled : (bytes : List ℕ) (d v : ℕ) (ss : List (List ℕ)) → read_mesh bytes ≡ mesh_read d v ss → SpellsMesh bytes d v ss
unfolding EndsWell
read_is_spelled bytes d v ss e =
    let lines = length (lines_of bytes) in
    let f = first_of lines d v ss (words_in bytes) e in
    let n = counts_of lines f.dimension d v ss f.rest f.goes_on in
    let vertices = numeral_value n.vertex_word.text in
    let body = empty_body f.dimension vertices (numeral_value n.face_word.text) in
    let c = coordinates_of lines body (vertices * f.dimension) n.rest d v ss n.goes_on in
    let g = (read_on lines c.body d v ss).faces body None f.some c.goes_on in
    let rest : c.body ≡ g.rest = g.split ∙ ap (λ (l : List Word). l ++ g.rest) (nothing_passed g.passed g.on_line) in
    record {
      body = g.rest;
      front = record {
        first = f.first;
        vertex_word = n.vertex_word;
        face_word = n.face_word;
        edge_word = n.edge_word;
        coordinates = c.coordinates;
        split = f.split ∙ ap (λ (l : List Word). f.first ++ l) (n.split ∙ ap (λ (l : List Word). n.vertex_word ∷ n.face_word ∷ n.edge_word ∷ l) (c.split
            ∙ ap (λ (l : List Word). c.coordinates ++ l) rest));
        is_first = subst (λ (k : ℕ). IsFirst k (map (λ (w : Word). w.text) f.first)) g.same_dimension f.is_first;
        right_vertices = n.right_vertices;
        counts_vertices = g.same_vertices;
        right_faces = n.right_faces;
        counts_faces = sym g.enough;
        right_edges = n.right_edges;
        right_coordinates = c.right;
        counted = c.counted ∙ ap (λ (k : ℕ). vertices * k) g.same_dimension ∙ ap (λ (m : ℕ). m * d) g.same_vertices;
      };
      faces =
          subst (λ (k : ℕ). HasFaces g.rest k v ss []) g.same_dimension
          (subst (λ (m : ℕ). HasFaces g.rest f.dimension m ss []) g.same_vertices
          (subst (λ (l : List (List ℕ)). HasFaces g.rest f.dimension vertices l []) g.read g.faces));
    }
