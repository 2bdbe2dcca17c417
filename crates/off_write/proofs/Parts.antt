-- The text of a mesh, part by part.
use Rattle.std.proofs.Common.{◌≡◌, ℕ, List, [], ◌∷◌, ◌++◌, length, Option, refl, arith, ◌==◌, false}
use Rattle.std.specs.Fmt.{decimal}
use Rattle.iso_base.specs.Fronts.{AppendsFront}
use Rattle.iso_model.specs.Faces.{Mesh}
use Rattle.iso_formats.specs.MeshText.{mesh_text}
use Rattle.off_write.specs.Pages.{format_lines, head, vertex_lines, simplex_lines, AllButPage}
use Rattle.off_write.proofs.Waiting.{waits_more, waits_on, waits_front, front_more}

pub format_not_three : (d : ℕ) → (d ≡ 3 → ⊥) → format_lines d ≡ (110 ∷ 79 ∷ 70 ∷ 70 ∷ 10 ∷ []) ++ (decimal d ++ 10 ∷ [])
unfolding format_lines
format_not_three d h = let e : (d == 3) ≡ false = grind arith in rw e refl

pub text_is : (d : ℕ) (m : Mesh) → (head d (length m.vertices) (length m.simplices) ++ vertex_lines m.vertices) ++ simplex_lines d m.simplices ≡ mesh_text d m
unfolding head format_lines vertex_lines simplex_lines mesh_text
text_is d m = refl

-- the vertices failed
pub front_in_vertices : (a b : Option (List ℕ)) (d : ℕ) (m : Mesh) (first : List ℕ) → first ≡ head d (length m.vertices) (length m.simplices)
    → AppendsFront a b (first ++ vertex_lines m.vertices) → AppendsFront a b (mesh_text d m)
front_in_vertices a b d m first e p =
    rw (← text_is d m, ← e) (front_more a b (first ++ vertex_lines m.vertices) (simplex_lines d m.simplices) p)

-- the simplices failed
pub front_in_simplices : (a b c : Option (List ℕ)) (d : ℕ) (m : Mesh) (first second : List ℕ) → first ≡ head d (length m.vertices) (length m.simplices)
    → AllButPage a b (first ++ vertex_lines m.vertices) second → AppendsFront b c (second ++ simplex_lines d m.simplices) → AppendsFront a c (mesh_text d m)
front_in_simplices a b c d m first second e p q =
    let lines = simplex_lines d m.simplices in
    rw (← text_is d m, ← e)
    (waits_front a b c ((first ++ vertex_lines m.vertices) ++ lines) (second ++ lines)
    (waits_more a b (first ++ vertex_lines m.vertices) second lines p) q)

-- the last page waits
pub last_waits : (a b c : Option (List ℕ)) (d : ℕ) (m : Mesh) (first second third : List ℕ) → first ≡ head d (length m.vertices) (length m.simplices)
    → AllButPage a b (first ++ vertex_lines m.vertices) second → AllButPage b c (second ++ simplex_lines d m.simplices) third
    → AllButPage a c (mesh_text d m) third
last_waits a b c d m first second third e p q =
    let lines = simplex_lines d m.simplices in
    rw (← text_is d m, ← e)
    (waits_on a b c ((first ++ vertex_lines m.vertices) ++ lines) (second ++ lines) third
    (waits_more a b (first ++ vertex_lines m.vertices) second lines p) q)
