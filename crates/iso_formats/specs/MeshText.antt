-- The text of a mesh. Its numbers are written by std's decimal, which gives the digits of each number below 10^64; the coordinates and counts of
-- a mesh that a call writes have at most 64 bits.
use Rattle.std.specs.Prelude.{◌≡◌, ◌<◌, ◌≤◌, ◌^◌, All, nat_abs, ℕ, zero, suc, ◌+◌, ◌/◌, ◌%◌, ◌==◌, List, [], ◌∷◌, ◌++◌, map, length, ℤ, pos, negsuc}
use Rattle.std.specs.Prelude.{decimal, codes, flat_map, if◌then◌else◌}
use Rattle.iso_model.specs.Faces.{Mesh, IsMesh}

-- a line: the pieces with a space between each two, and LF at the end
abbrev pub line : List (List ℕ) → List ℕ
line [] = 10 ∷ []
line (x ∷ []) = x ++ 10 ∷ []
line (x ∷ y ∷ xs) = x ++ 32 ∷ line (y ∷ xs)

-- the last n decimal digits
abbrev pub last_digits : ℕ → ℕ → List ℕ
last_digits zero v = []
last_digits (suc n) v = last_digits n (v / 10) ++ (48 + v % 10) ∷ []

-- a number of millionths with six decimals: its size divided by 1,000,000 and rounded down, a point and the last six digits; a negative number has - before it
abbrev pub millionths : ℤ → List ℕ
millionths (pos v) = decimal (v / 1000000) ++ 46 ∷ last_digits 6 v
millionths (negsuc v) = 45 ∷ decimal ((v + 1) / 1000000) ++ 46 ∷ last_digits 6 (v + 1)

-- the text of a mesh of dimension D: OFF, or nOFF and D on its own line where D is not 3; the numbers of vertices and of simplices and 0;
-- a line of D coordinates for each vertex; a line with D and the D numbers for each simplex
unfoldable pub mesh_text : ℕ → Mesh → List ℕ
mesh_text d m =
    (if d == 3 then line (codes "OFF" ∷ []) else line (codes "nOFF" ∷ []) ++ line (decimal d ∷ []))
    ++ line (decimal (length m.vertices) ∷ decimal (length m.simplices) ∷ codes "0" ∷ [])
    ++ flat_map (λ v. line (map millionths v)) m.vertices
    ++ flat_map (λ w. line (decimal d ∷ map decimal w)) m.simplices

-- coordinates have at most 64 bits, and numbers of vertices have 32
pub record HasShortNumbers (m : Mesh) : Type 0 where
  pub positions : All (All (λ c. nat_abs c ≤ 2 ^ 63)) m.vertices
  pub corners : All (All (λ k. k < 2 ^ 32)) m.simplices

-- different meshes of one dimension have different texts
abbrev pub TextFixesMesh : ℕ → Mesh → Mesh → Type 0
TextFixesMesh d m n = IsMesh d m → IsMesh d n → HasShortNumbers m → HasShortNumbers n → mesh_text d m ≡ mesh_text d n → m ≡ n
