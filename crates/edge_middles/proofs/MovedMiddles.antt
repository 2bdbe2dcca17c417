-- Midpoints and edges that are moved by whole cubes: the edge of a moved midpoint is the moved edge of the midpoint.
use Rattle.std.proofs.Common.{ap, arith, refl, sym, ◌∙◌}
use Rattle.std.specs.Prelude.{Bool, List, [], ◌∷◌, false, true, length, map, nat_lt, ℕ, ◌%◌, ◌&&◌, ◌||◌, ◌*◌, ◌+◌, ◌/◌, ◌==◌, ◌≡◌, if◌then◌else◌}
use Rattle.iso_model.specs.Points.{comes_first}
use Rattle.iso_model.specs.Splits.{edge_of_ends}
use Rattle.lists.specs.Orders.{same_list}
use Rattle.lists.proofs.MemberLaws.{length_map}
use Rattle.lists.proofs.Tests.{same_tests, equal_of, of_equal, lt_of, of_lt}
use Rattle.edge_middles.specs.Middles.{edge_at, joins_samples, sample_edge, centre_edge}
use Rattle.edge_middles.specs.MovedEdges.{moved, moved_edge}

-- a map that adds 2 for each 4
moved_map : (f : ℕ → ℕ) → ((c m : ℕ) → f (4 * c + m) ≡ 2 * c + f m) → (x m : List ℕ) → map f (moved 4 x m) ≡ moved 2 x (map f m)
moved_map f step [] m = refl
moved_map f step (c ∷ x) [] = refl
moved_map f step (c ∷ x) (k ∷ m) = λ i. step c k i ∷ moved_map f step x m i

pub joins_same : (x m : List ℕ) → length x ≡ length m → joins_samples (moved 4 x m) ≡ joins_samples m
joins_same [] [] e = refl
joins_same [] (k ∷ m) e = absurd (omega (arith, e))
joins_same (c ∷ x) [] e = absurd (omega (arith, e))
joins_same (c ∷ x) (k ∷ m) e =
    let rest = joins_same x m (omega (arith, e)) in
    let first : (4 * c + k) % 2 ≡ k % 2 = omega arith in
    ap (λ n. (n == 0) && joins_samples (moved 4 x m)) first ∙ ap (λ t. (k % 2 == 0) && t) rest

same_digit : (a b c : ℕ) → (2 * c + a == 2 * c + b) ≡ (a == b)
same_digit a b c = same_tests (2 * c + a == 2 * c + b) (a == b)
    (λ t. let e = equal_of (2 * c + a) (2 * c + b) t in of_equal a b (omega (arith, e)))
    (λ t. let e = equal_of a b t in of_equal (2 * c + a) (2 * c + b) (omega (arith, e)))

below_same : (a b c : ℕ) → nat_lt (2 * c + a) (2 * c + b) ≡ nat_lt a b
below_same a b c = same_tests (nat_lt (2 * c + a) (2 * c + b)) (nat_lt a b)
    (λ t. let l = lt_of (2 * c + a) (2 * c + b) t in of_lt a b (omega arith))
    (λ t. let l = lt_of a b t in of_lt (2 * c + a) (2 * c + b) (omega arith))

same_moved : (x p q : List ℕ) → length p ≡ length x → length q ≡ length x → same_list (moved 2 x p) (moved 2 x q) ≡ same_list p q
same_moved [] [] [] e h = refl
same_moved [] (a ∷ p) q e h = absurd (omega (arith, e))
same_moved [] [] (b ∷ q) e h = absurd (omega (arith, h))
same_moved (c ∷ x) [] q e h = absurd (omega (arith, e))
same_moved (c ∷ x) (a ∷ p) [] e h = absurd (omega (arith, h))
same_moved (c ∷ x) (a ∷ p) (b ∷ q) e h =
    ap (λ t. t && same_list (moved 2 x p) (moved 2 x q)) (same_digit a b c) ∙ ap (λ t. (a == b) && t) (same_moved x p q (omega (arith, e)) (omega (arith, h)))

first_moved : (x p q : List ℕ) → length p ≡ length x → length q ≡ length x → comes_first (moved 2 x p) (moved 2 x q) ≡ comes_first p q
first_moved [] [] [] e h = refl
first_moved [] (a ∷ p) q e h = absurd (omega (arith, e))
first_moved [] [] (b ∷ q) e h = absurd (omega (arith, h))
first_moved (c ∷ x) [] q e h = absurd (omega (arith, e))
first_moved (c ∷ x) (a ∷ p) [] e h = absurd (omega (arith, h))
first_moved (c ∷ x) (a ∷ p) (b ∷ q) e h =
    let k : length p ≡ length x = omega (arith, e) in
    let l : length q ≡ length x = omega (arith, h) in
    λ i. first_moved x p q k l i || (same_moved x p q k l i && below_same a b c i)

chosen : (x p q : List ℕ) (t : Bool) → (if t then record { low = moved 2 x p; high = moved 2 x q } else record { low = moved 2 x q; high = moved 2 x p })
    ≡ moved_edge x (if t then record { low = p; high = q } else record { low = q; high = p })
chosen x p q true = refl
chosen x p q false = refl

pub ends_moved : (x p q : List ℕ) → length p ≡ length x → length q ≡ length x → edge_of_ends (moved 2 x p) (moved 2 x q) ≡ moved_edge x (edge_of_ends p q)
ends_moved x p q e h =
    ap (λ t. if t then record { low = moved 2 x p; high = moved 2 x q } else record { low = moved 2 x q; high = moved 2 x p }) (first_moved x p q e h)
    ∙ chosen x p q (comes_first p q)

pub moves_edges : (x m : List ℕ) → length x ≡ length m → edge_at (moved 4 x m) ≡ moved_edge x (edge_at m)
moves_edges x m e =
    let low = moved_map (λ c. 2 * (c / 4)) (λ c k. omega arith) x m in
    let high = moved_map (λ c. 2 * ((c + 2) / 4)) (λ c k. omega arith) x m in
    let corner = moved_map (λ c. 2 * ((c + 1) / 4)) (λ c k. omega arith) x m in
    let centre = moved_map (λ c. 2 * (c / 4) + 1) (λ c k. omega arith) x m in
    let samples : sample_edge (moved 4 x m) ≡ moved_edge x (sample_edge m) = λ i. record { low = low i; high = high i } in
    let centres : centre_edge (moved 4 x m) ≡ moved_edge x (centre_edge m) =
    (λ i. edge_of_ends (corner i) (centre i)) ∙ ends_moved x (map (λ c. 2 * ((c + 1) / 4)) m) (map (λ c. 2 * (c / 4) + 1) m)
    (length_map (λ c. 2 * ((c + 1) / 4)) m ∙ sym e) (length_map (λ c. 2 * (c / 4) + 1) m ∙ sym e) in
    (λ i. if joins_same x m e i then samples i else centres i) ∙ by_case (joins_samples m)
  where
    by_case : (t : Bool) → (if t then moved_edge x (sample_edge m) else moved_edge x (centre_edge m))
        ≡ moved_edge x (if t then sample_edge m else centre_edge m)
    by_case true = refl
    by_case false = refl
