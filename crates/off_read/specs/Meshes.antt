-- The parts of a mesh file, as they are read one after another.
use Rattle.std.specs.Prelude.{◌≡◌, ℕ, ◌*◌, ◌<◌, ◌++◌, ◌∷◌, true, List, [], length, Option, None, if◌then◌else◌}
use Rattle.std.specs.Io.KnownBytes.{IsAtEnd}
use Rattle.iso_formats.specs.HeaderLines.{numeral_value}
use Rattle.iso_formats.specs.MeshFile.{Word, Body, Stage, is_count, next_stage, stopped, at_face, wrong_count, ends_at, mesh_refused, mesh_read, short_of_words}
use Rattle.iso_formats.specs.MeshFile.{at_edges, at_first, at_index, at_vertices, before_coordinates, empty_body, with_index, is_whole}
use Rattle.mesh_audit.specs.OffMeshes.{Off}
use Rattle.off_read.specs.ScanForms.{Scan}
use Rattle.off_read.specs.Scans.{TakesFew, Told, Goes, FailsAt, reading, lines_passed}
use Rattle.off_read.specs.declared.faults.OffFault.{OffFault}

-- more words are to come
abbrev pub IsUnended : Stage → Type 0
IsUnended stage = (n : ℕ) → ends_at n stage ≡ mesh_refused (short_of_words n)

-- the next word is asked to be a number of vertices or faces, and what is asked behind it depends on the number
pub record AsksCount (before : Stage) (after : ℕ → Stage) : Type 0 where
  pub next : (w : Word) → next_stage before w ≡ (if is_count w.text then after (numeral_value w.text) else stopped (wrong_count w.line))
  pub unended : IsUnended before

-- what is known behind these faces
abbrev pub body_with : ℕ → ℕ → ℕ → List (List ℕ) → Body
body_with d v f simplices = record { dimension = d; vertices = v; faces = f; simplices = simplices }

-- a face is asked for, behind these, and no line is passed over
abbrev pub at_next_face : ℕ → ℕ → ℕ → List (List ℕ) → Stage
at_next_face d v f simplices = at_face (body_with d v f simplices) None

-- the file ends, and is this mesh
pub record EndsAs (old_rest new_rest : Option (List ℕ)) (old new : Scan) (stage : Stage) (d v : ℕ) (simplices : List (List ℕ)) : Type 0 where
  pub takes : TakesFew old_rest new_rest old new
  pub end : IsAtEnd new_rest
  pub reads : Told old_rest new_rest (λ a b. reading old stage a ≡ mesh_read d v simplices)

-- ---- what each part gives, and how it fails

-- the dimension that the first words say
abbrev pub GivesDimension : Option (List ℕ) → Option (List ℕ) → Scan → Scan → ℕ → Type 0
GivesDimension old_rest new_rest old new d = Goes old_rest new_rest old new at_first (at_vertices d)

-- a number of vertices or faces
abbrev pub GivesCount : Option (List ℕ) → Option (List ℕ) → Scan → Scan → ℕ → Type 0
GivesCount old_rest new_rest old new count = (before : Stage) (after : ℕ → Stage) → AsksCount before after → Goes old_rest new_rest old new before (after count)

abbrev pub FailsCount : Option (List ℕ) → Option (List ℕ) → Scan → Scan → OffFault → Type 0
FailsCount old_rest new_rest old new fault = (before : Stage) (after : ℕ → Stage) → AsksCount before after → FailsAt old_rest new_rest old new before fault

-- a number of edges, of any length
abbrev pub GivesEdges : Option (List ℕ) → Option (List ℕ) → Scan → Scan → Type 0
GivesEdges old_rest new_rest old new = (d v f : ℕ) → Goes old_rest new_rest old new (at_edges d v f) (before_coordinates (empty_body d v f) (v * d))

abbrev pub FailsEdges : Option (List ℕ) → Option (List ℕ) → Scan → Scan → OffFault → Type 0
FailsEdges old_rest new_rest old new fault = (d v f : ℕ) → FailsAt old_rest new_rest old new (at_edges d v f) fault

-- so many coordinates
abbrev pub GivesCoordinates : ℕ → Option (List ℕ) → Option (List ℕ) → Scan → Scan → Type 0
GivesCoordinates count old_rest new_rest old new = (b : Body) → Goes old_rest new_rest old new (before_coordinates b count) (at_face b None)

abbrev pub FailsCoordinates : ℕ → Option (List ℕ) → Option (List ℕ) → Scan → Scan → OffFault → Type 0
FailsCoordinates count old_rest new_rest old new fault = (b : Body) → FailsAt old_rest new_rest old new (before_coordinates b count) fault

-- an index of one of the vertices
abbrev pub GivesIndex : ℕ → Option (List ℕ) → Option (List ℕ) → Scan → Scan → ℕ → Type 0
GivesIndex vertices old_rest new_rest old new index = (b : Body) (ks : List ℕ) → b.vertices ≡ vertices
    → Goes old_rest new_rest old new (at_index b ks) (with_index b (ks ++ index ∷ []) (lines_passed new))

abbrev pub FailsIndex : ℕ → Option (List ℕ) → Option (List ℕ) → Scan → Scan → OffFault → Type 0
FailsIndex vertices old_rest new_rest old new fault = (b : Body) (ks : List ℕ) → b.vertices ≡ vertices
    → FailsAt old_rest new_rest old new (at_index b ks) fault

-- a face, where there are to be more than those before it
abbrev pub GivesFace : ℕ → ℕ → Option (List ℕ) → Option (List ℕ) → Scan → Scan → List ℕ → Type 0
GivesFace d v old_rest new_rest old new simplex = (f : ℕ) (ss : List (List ℕ)) → length ss < f
    → Goes old_rest new_rest old new (at_next_face d v f ss) (at_next_face d v f (ss ++ simplex ∷ []))

abbrev pub FailsFace : ℕ → ℕ → Option (List ℕ) → Option (List ℕ) → Scan → Scan → OffFault → Type 0
FailsFace d v old_rest new_rest old new fault = (f : ℕ) (ss : List (List ℕ)) → length ss < f
    → FailsAt old_rest new_rest old new (at_next_face d v f ss) fault

-- the end, where all faces have been read
abbrev pub GivesEnd : Option (List ℕ) → Option (List ℕ) → Scan → Scan → Type 0
GivesEnd old_rest new_rest old new = (b : Body) → is_whole b ≡ true
    → EndsAs old_rest new_rest old new (at_face b None) b.dimension b.vertices b.simplices

abbrev pub FailsEnd : Option (List ℕ) → Option (List ℕ) → Scan → Scan → OffFault → Type 0
FailsEnd old_rest new_rest old new fault = (b : Body) → is_whole b ≡ true → FailsAt old_rest new_rest old new (at_face b None) fault

-- all faces
abbrev pub GivesFaces : ℕ → ℕ → ℕ → Option (List ℕ) → Option (List ℕ) → Scan → Scan → List (List ℕ) → Type 0
GivesFaces d v f old_rest new_rest old new simplices = Goes old_rest new_rest old new (at_next_face d v f []) (at_next_face d v f simplices)

abbrev pub FailsFaces : ℕ → ℕ → ℕ → Option (List ℕ) → Option (List ℕ) → Scan → Scan → OffFault → Type 0
FailsFaces d v f old_rest new_rest old new fault = FailsAt old_rest new_rest old new (at_next_face d v f []) fault

-- a mesh
abbrev pub EndsAsMesh : Option (List ℕ) → Option (List ℕ) → Scan → Scan → Stage → ℕ → Off → Type 0
EndsAsMesh old_rest new_rest old new stage d off = EndsAs old_rest new_rest old new stage d off.vertices off.simplices

-- what stands behind the first words is a mesh of this dimension
abbrev pub EndsAsMeshOf : ℕ → Option (List ℕ) → Option (List ℕ) → Scan → Scan → Off → Type 0
EndsAsMeshOf d old_rest new_rest old new off = EndsAsMesh old_rest new_rest old new (at_vertices d) d off
