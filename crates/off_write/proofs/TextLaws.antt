-- Two meshes of one dimension that have the same text are the same.
use Rattle.std.proofs.Common.{◌≡◌, ℕ, ◌+◌, ◌/◌, ◌%◌, ◌^◌, ◌<◌, ◌≤◌, ◌⊎◌, inl, inr, List, [], ◌∷◌, ◌++◌, length, map, ℤ, pos, negsuc, nat_abs, refl}
use Rattle.std.proofs.Common.{sym, ap, ◌∙◌, arith, append_assoc}
use Rattle.std.specs.Prelude.{All}
use Rattle.std.specs.Fmt.{decimal}
use Rattle.std.proofs.lemmas.Fmt.{decimal_injective}
use Rattle.std.proofs.lemmas.List.{append_cancel_left}
use Rattle.std.proofs.lemmas.List.Elements.{All-head, All-tail}
use Rattle.iso_model.specs.Faces.{Mesh}
use Rattle.iso_formats.specs.MeshText.{line, last_digits, millionths, mesh_text, TextFixesMesh}
use Rattle.off_write.specs.Pages.{format_lines, head, vertex_lines, simplex_lines}
use Rattle.off_write.proofs.TextPieces.{Above, Above-append, Above-rest, Above-less, same_piece, ArePlain, same_line, line_not_nothing, decimal_above}
use Rattle.off_write.proofs.TextPieces.{last_above}
use Rattle.off_write.proofs.Parts.{text_is}

-- ---- a coordinate's text fixes it

ten_more : (x y : ℕ) → 48 + x % 10 ≡ 48 + y % 10 → x / 10 ≡ y / 10 → x ≡ y
ten_more x y e f = omega arith

six_digits : (x y : ℕ) → last_digits 6 x ≡ last_digits 6 y → x / 1000000 ≡ y / 1000000 → x ≡ y
six_digits x y e f =
    let top : x / 10 / 10 / 10 / 10 / 10 / 10 ≡ y / 10 / 10 / 10 / 10 / 10 / 10 = omega arith in
    let d0 : 48 + x % 10 ≡ 48 + y % 10 = cc in
    let d1 : 48 + x / 10 % 10 ≡ 48 + y / 10 % 10 = cc in
    let d2 : 48 + x / 10 / 10 % 10 ≡ 48 + y / 10 / 10 % 10 = cc in
    let d3 : 48 + x / 10 / 10 / 10 % 10 ≡ 48 + y / 10 / 10 / 10 % 10 = cc in
    let d4 : 48 + x / 10 / 10 / 10 / 10 % 10 ≡ 48 + y / 10 / 10 / 10 / 10 % 10 = cc in
    let d5 : 48 + x / 10 / 10 / 10 / 10 / 10 % 10 ≡ 48 + y / 10 / 10 / 10 / 10 / 10 % 10 = cc in
    ten_more x y d0 (ten_more _ _ d1 (ten_more _ _ d2 (ten_more _ _ d3 (ten_more _ _ d4 (ten_more _ _ d5 top)))))

size_fixed : (x y : ℕ) → x < 2 ^ 64 → y < 2 ^ 64 → decimal (x / 1000000) ++ 46 ∷ last_digits 6 x ≡ decimal (y / 1000000) ++ 46 ∷ last_digits 6 y → x ≡ y
size_fixed x y h k e =
    let less = λ (n : ℕ). Above-less 46 47 (decimal n) (omega arith) (decimal_above n) in
    let r =
    same_piece 46 (decimal (x / 1000000)) (decimal (y / 1000000)) (last_digits 6 x) (last_digits 6 y) 46 46 (less (x / 1000000))
    (less (y / 1000000)) (omega arith) (omega arith) e in
    six_digits x y r.2 (decimal_injective (x / 1000000) (y / 1000000) (omega arith) (omega arith) r.0)

size_above : (n k : ℕ) → Above 45 (decimal n ++ 46 ∷ last_digits 6 k)
size_above n k =
    Above-append 45 (decimal n) (46 ∷ last_digits 6 k) (Above-less 45 47 (decimal n) (omega arith) (decimal_above n))
    (omega arith, Above-less 45 47 (last_digits 6 k) (omega arith) (last_above 6 k))

no_minus : (xs ys : List ℕ) → Above 45 xs → xs ≡ 45 ∷ ys → ⊥
no_minus [] ys p e = cc
no_minus (x ∷ xs) ys p e = let f : x ≡ 45 = cc in omega (arith, p.0)

millionths_fixed : (y z : ℤ) → nat_abs y ≤ 2 ^ 63 → nat_abs z ≤ 2 ^ 63 → millionths y ≡ millionths z → y ≡ z
millionths_fixed (pos x) (pos y) h k e = ap pos (size_fixed x y (omega arith) (omega arith) e)
millionths_fixed (pos x) (negsuc y) h k e =
    absurd
    (no_minus (decimal (x / 1000000) ++ 46 ∷ last_digits 6 x) (decimal ((y + 1) / 1000000) ++ 46 ∷ last_digits 6 (y + 1))
    (size_above (x / 1000000) x) e)
millionths_fixed (negsuc x) (pos y) h k e =
    absurd
    (no_minus (decimal (y / 1000000) ++ 46 ∷ last_digits 6 y) (decimal ((x + 1) / 1000000) ++ 46 ∷ last_digits 6 (x + 1))
    (size_above (y / 1000000) y) (sym e))
millionths_fixed (negsuc x) (negsuc y) h k e =
    let f : decimal ((x + 1) / 1000000) ++ 46 ∷ last_digits 6 (x + 1) ≡ decimal ((y + 1) / 1000000) ++ 46 ∷ last_digits 6 (y + 1) = cc in
    let s = size_fixed (x + 1) (y + 1) (omega arith) (omega arith) f in
    ap negsuc (let t : x ≡ y = omega arith in t)

millionths_plain : (z : ℤ) → Above 32 (millionths z)
millionths_plain (pos x) = Above-less 32 45 (decimal (x / 1000000) ++ 46 ∷ last_digits 6 x) (omega arith) (size_above (x / 1000000) x)
millionths_plain (negsuc x) =
    (omega arith, Above-less 32 45 (decimal ((x + 1) / 1000000) ++ 46 ∷ last_digits 6 (x + 1)) (omega arith) (size_above ((x + 1) / 1000000) (x + 1)))

decimal_plain : (n : ℕ) → Above 32 (decimal n)
decimal_plain n = Above-less 32 47 (decimal n) (omega arith) (decimal_above n)

-- a coordinate has a point, and a number has none
point_above : (m n k : ℕ) → 46 ≤ m → Above m (decimal n ++ 46 ∷ last_digits 6 k) → ⊥
point_above m n k h p = let q = Above-rest m (decimal n) (46 ∷ last_digits 6 k) p in omega (arith, q.0)

not_a_number : (z : ℤ) → Above 46 (millionths z) → ⊥
not_a_number (pos x) p = point_above 46 (x / 1000000) x (omega arith) p
not_a_number (negsuc x) p = omega (arith, p.0)

number_apart : (n : ℕ) (z : ℤ) (xs : List ℕ) → decimal n ≡ xs → xs ≡ millionths z → ⊥
number_apart n z xs e f = let a = Above-less 46 47 (decimal n) (omega arith) (decimal_above n) in not_a_number z (rw (e ∙ f) at a)

-- ---- lists of numbers

coordinates_plain : (v : List ℤ) → ArePlain (map millionths v)
coordinates_plain [] = tt
coordinates_plain (c ∷ v) = (millionths_plain c, coordinates_plain v)

numbers_plain : (w : List ℕ) → ArePlain (map decimal w)
numbers_plain [] = tt
numbers_plain (k ∷ w) = (decimal_plain k, numbers_plain w)

coordinates_fixed : (v w : List ℤ) → All (λ c. nat_abs c ≤ 2 ^ 63) v → All (λ c. nat_abs c ≤ 2 ^ 63) w → map millionths v ≡ map millionths w → v ≡ w
coordinates_fixed [] [] p q e = refl
coordinates_fixed [] (z ∷ w) p q e = cc
coordinates_fixed (y ∷ v) [] p q e = cc
coordinates_fixed (y ∷ v) (z ∷ w) p q e =
    let f : millionths y ≡ millionths z = cc in
    let g : map millionths v ≡ map millionths w = cc in
    let P = λ (c : ℤ). nat_abs c ≤ 2 ^ 63 in
    let a = millionths_fixed y z (All-head P y v p) (All-head P z w q) f in
    let b = coordinates_fixed v w (All-tail P y v p) (All-tail P z w q) g in
    cc (a, b)

numbers_fixed : (v w : List ℕ) → All (λ k. k < 2 ^ 32) v → All (λ k. k < 2 ^ 32) w → map decimal v ≡ map decimal w → v ≡ w
numbers_fixed [] [] p q e = refl
numbers_fixed [] (z ∷ w) p q e = cc
numbers_fixed (y ∷ v) [] p q e = cc
numbers_fixed (y ∷ v) (z ∷ w) p q e =
    let f : decimal y ≡ decimal z = cc in
    let g : map decimal v ≡ map decimal w = cc in
    let P = λ (k : ℕ). k < 2 ^ 32 in
    let h = All-head P y v p in
    let k = All-head P z w q in
    let a = decimal_injective y z (omega arith) (omega arith) f in
    let b = numbers_fixed v w (All-tail P y v p) (All-tail P z w q) g in
    cc (a, b)

-- ---- lines

vertex_line_fixed : (d : ℕ) (v w : List ℤ) (s t : List ℕ) → 1 ≤ d → length v ≡ d → length w ≡ d
    → line (map millionths v) ++ s ≡ line (map millionths w) ++ t → (map millionths v ≡ map millionths w) × (s ≡ t)
vertex_line_fixed d [] w s t h p q e = absurd (omega arith)
vertex_line_fixed d (y ∷ v) [] s t h p q e = absurd (omega arith)
vertex_line_fixed d (y ∷ v) (z ∷ w) s t h p q e =
    let r = same_line (millionths y) (millionths z) (map millionths v) (map millionths w) s t (coordinates_plain (y ∷ v)) (coordinates_plain (z ∷ w)) e in
    (cc (r.0, r.1), r.2)

simplex_line_fixed : (d : ℕ) (v w s t : List ℕ) → line (decimal d ∷ map decimal v) ++ s ≡ line (decimal d ∷ map decimal w) ++ t
    → (map decimal v ≡ map decimal w) × (s ≡ t)
simplex_line_fixed d v w s t e =
    let r = same_line (decimal d) (decimal d) (map decimal v) (map decimal w) s t (decimal_plain d, numbers_plain v) (decimal_plain d, numbers_plain w) e in
    (r.1, r.2)

-- the line of a simplex is no line of a vertex
kinds_apart : (d : ℕ) (w : List ℕ) (v : List ℤ) (s t : List ℕ) → 1 ≤ d → length v ≡ d → line (decimal d ∷ map decimal w) ++ s ≡ line (map millionths v) ++ t → ⊥
kinds_apart d w [] s t h p e = omega arith
kinds_apart d w (z ∷ v) s t h p e =
    let r = same_line (decimal d) (millionths z) (map decimal w) (map millionths v) s t (decimal_plain d, numbers_plain w) (coordinates_plain (z ∷ v)) e in
    number_apart d z (millionths z) r.0 refl

vertex_line_something : (d : ℕ) (v : List ℤ) (s : List ℕ) → 1 ≤ d → length v ≡ d → [] ≡ line (map millionths v) ++ s → ⊥
vertex_line_something d [] s h p e = omega arith
vertex_line_something d (y ∷ v) s h p e = line_not_nothing (millionths y) (map millionths v) s e

-- no line of a vertex starts what follows the vertices
no_vertex : (d : ℕ) (S : List (List ℕ)) (v : List ℤ) (t : List ℕ) → 1 ≤ d → length v ≡ d → simplex_lines d S ≡ line (map millionths v) ++ t → ⊥
unfolding simplex_lines
no_vertex d [] v t h p e = vertex_line_something d v t h p e
no_vertex d (w ∷ S) v t h p e = kinds_apart d w v (simplex_lines d S) t h p e

abbrev HasLength : {X : Type 0} → ℕ → List X → Type 0
HasLength d p = length p ≡ d

abbrev IsShort : List ℤ → Type 0
IsShort p = All (λ c. nat_abs c ≤ 2 ^ 63) p

abbrev AreShort : List ℕ → Type 0
AreShort w = All (λ k. k < 2 ^ 32) w

vertices_fixed : (d : ℕ) (V W : List (List ℤ)) (S T : List (List ℕ)) → 1 ≤ d → All (HasLength d) V → All (HasLength d) W → All IsShort V → All IsShort W
    → vertex_lines V ++ simplex_lines d S ≡ vertex_lines W ++ simplex_lines d T → (V ≡ W) × (simplex_lines d S ≡ simplex_lines d T)
unfolding vertex_lines
vertices_fixed d [] [] S T h p q i j e = (refl, e)
vertices_fixed d [] (w ∷ W) S T h p q i j e =
    let f = e ∙ append_assoc (line (map millionths w)) (vertex_lines W) (simplex_lines d T) in
    absurd (no_vertex d S w (vertex_lines W ++ simplex_lines d T) h (All-head (HasLength d) w W q) f)
vertices_fixed d (v ∷ V) [] S T h p q i j e =
    let f = sym e ∙ append_assoc (line (map millionths v)) (vertex_lines V) (simplex_lines d S) in
    absurd (no_vertex d T v (vertex_lines V ++ simplex_lines d S) h (All-head (HasLength d) v V p) f)
vertices_fixed d (v ∷ V) (w ∷ W) S T h p q i j e =
    let f =
    sym (append_assoc (line (map millionths v)) (vertex_lines V) (simplex_lines d S)) ∙ e
    ∙ append_assoc (line (map millionths w)) (vertex_lines W) (simplex_lines d T) in
    let r =
    vertex_line_fixed d v w (vertex_lines V ++ simplex_lines d S) (vertex_lines W ++ simplex_lines d T) h (All-head (HasLength d) v V p)
    (All-head (HasLength d) w W q) f in
    let a = coordinates_fixed v w (All-head IsShort v V i) (All-head IsShort w W j) r.0 in
    let b = vertices_fixed d V W S T h (All-tail (HasLength d) v V p) (All-tail (HasLength d) w W q) (All-tail IsShort v V i) (All-tail IsShort w W j) r.1 in
    (cc (a, b.0), b.1)

simplices_fixed : (d : ℕ) (S T : List (List ℕ)) → All AreShort S → All AreShort T → simplex_lines d S ≡ simplex_lines d T → S ≡ T
unfolding simplex_lines
simplices_fixed d [] [] p q e = refl
simplices_fixed d [] (w ∷ T) p q e = absurd (line_not_nothing (decimal d) (map decimal w) (simplex_lines d T) e)
simplices_fixed d (v ∷ S) [] p q e = absurd (line_not_nothing (decimal d) (map decimal v) (simplex_lines d S) (sym e))
simplices_fixed d (v ∷ S) (w ∷ T) p q e =
    let r = simplex_line_fixed d v w (simplex_lines d S) (simplex_lines d T) e in
    let a = numbers_fixed v w (All-head AreShort v S p) (All-head AreShort w T q) r.0 in
    let b = simplices_fixed d S T (All-tail AreShort v S p) (All-tail AreShort w T q) r.1 in
    cc (a, b)

-- ---- the whole text

abbrev counts : ℕ → ℕ → List ℕ
counts v s = line (decimal v ∷ decimal s ∷ (48 ∷ []) ∷ [])

counts_plain : (v s : ℕ) → ArePlain (decimal v ∷ decimal s ∷ (48 ∷ []) ∷ [])
counts_plain v s = (decimal_plain v, (decimal_plain s, ((omega arith, tt), tt)))

-- the text, with the format before all else
text_split : (d : ℕ) (m : Mesh)
    → mesh_text d m ≡ format_lines d ++ (counts (length m.vertices) (length m.simplices) ++ (vertex_lines m.vertices ++ simplex_lines d m.simplices))
unfolding head
text_split d m =
    let c = counts (length m.vertices) (length m.simplices) in
    sym (text_is d m) ∙ append_assoc (format_lines d ++ c) (vertex_lines m.vertices) (simplex_lines d m.simplices)
    ∙ append_assoc (format_lines d) c (vertex_lines m.vertices ++ simplex_lines d m.simplices)

lines_same : (d : ℕ) (m n : Mesh) → mesh_text d m ≡ mesh_text d n
    → vertex_lines m.vertices ++ simplex_lines d m.simplices ≡ vertex_lines n.vertices ++ simplex_lines d n.simplices
lines_same d m n e =
    let f = append_cancel_left (format_lines d) _ _ (sym (text_split d m) ∙ e ∙ text_split d n) in
    let a = decimal (length m.vertices) in
    let r = same_line (decimal (length m.vertices)) (decimal (length n.vertices)) (decimal (length m.simplices) ∷ (48 ∷ []) ∷ [])
    (decimal (length n.simplices) ∷ (48 ∷ []) ∷ [])
    (vertex_lines m.vertices ++ simplex_lines d m.simplices) (vertex_lines n.vertices ++ simplex_lines d n.simplices)
    (counts_plain (length m.vertices) (length m.simplices)) (counts_plain (length n.vertices) (length n.simplices)) f in
    r.2

mesh_of : List (List ℤ) → List (List ℕ) → Mesh
mesh_of vertices simplices = record { vertices = vertices; simplices = simplices }

same_mesh : (m n : Mesh) → m.vertices ≡ n.vertices → m.simplices ≡ n.simplices → m ≡ n
unfolding mesh_of
same_mesh m n p q = ap (λ (v : List (List ℤ)). mesh_of v m.simplices) p ∙ ap (λ (s : List (List ℕ)). mesh_of n.vertices s) q

pub some_dimension : (d : ℕ) → (d ≡ 2) ⊎ ((d ≡ 3) ⊎ (d ≡ 4)) → 1 ≤ d
some_dimension d h = elim h [ inl a ↦ omega arith | inr b ↦ elim b [ inl c ↦ omega arith | inr e ↦ omega arith ] ]

pub text_fixes : (d : ℕ) → 1 ≤ d → (m n : Mesh) → TextFixesMesh d m n
text_fixes d h m n p q s t e =
    let r = vertices_fixed d m.vertices n.vertices m.simplices n.simplices h p.positions q.positions s.positions t.positions (lines_same d m n e) in
    same_mesh m n r.0 (simplices_fixed d m.simplices n.simplices s.corners t.corners r.1)
