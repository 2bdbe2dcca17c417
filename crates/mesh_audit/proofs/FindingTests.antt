-- Worked audits, by computing.
use Rattle.std.specs.Prelude.{◌≡◌, [], ◌∷◌, pos}
use Rattle.std.proofs.Common.{refl}
use Rattle.iso_model.specs.Walks.{walk}
use Rattle.mesh_audit.specs.declared.findings.Finding.TheVariants.{Clean, Repeat, Face, Link}
use Rattle.mesh_audit.specs.Findings.{finding}

-- the same triangle twice
twice : finding 3 3 ((0 ∷ 1 ∷ 2 ∷ []) ∷ (0 ∷ 1 ∷ 2 ∷ []) ∷ []) ≡ Face 0 0 2 (pos 2)
unfolding walk
twice = refl

one_triangle : finding 3 3 ((0 ∷ 1 ∷ 2 ∷ []) ∷ []) ≡ Clean 3
unfolding walk
one_triangle = refl

-- two triangles that share a vertex alone
two_paths : finding 3 5 ((0 ∷ 1 ∷ 4 ∷ []) ∷ (2 ∷ 4 ∷ 3 ∷ []) ∷ []) ≡ Link 4
unfolding walk
two_paths = refl

-- a triangle and its reverse: its faces are glued, and the walk at each vertex closes with two
pillow : finding 3 3 ((0 ∷ 1 ∷ 2 ∷ []) ∷ (0 ∷ 2 ∷ 1 ∷ []) ∷ []) ≡ Link 0
unfolding walk
pillow = refl

-- in other dimensions links are not looked at
segments : finding 2 2 ((0 ∷ 1 ∷ []) ∷ (1 ∷ 0 ∷ []) ∷ []) ≡ Clean 0
unfolding walk
segments = refl

-- a repeated number is found first, wherever it stands
repeated : finding 3 4 ((0 ∷ 1 ∷ 2 ∷ []) ∷ (0 ∷ 1 ∷ 2 ∷ []) ∷ (3 ∷ 1 ∷ 3 ∷ []) ∷ []) ≡ Repeat 2
unfolding walk
repeated = refl

-- the least place that is wrong, and a negative sum
three_at_an_edge : finding 3 5 ((0 ∷ 1 ∷ 2 ∷ []) ∷ (4 ∷ 2 ∷ 1 ∷ []) ∷ (1 ∷ 4 ∷ 0 ∷ []) ∷ (4 ∷ 0 ∷ 1 ∷ []) ∷ []) ≡ Face 0 2 3 (pos 3)
unfolding walk
three_at_an_edge = refl
