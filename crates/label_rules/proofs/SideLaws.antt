-- The rule of sides, by the half-space through a tuple's midpoints.
use Rattle.std.specs.Prelude.{◌≡◌, ℕ, zero, suc, ◌+◌, ◌<◌, ◌≤◌, Bool, true, false, not, ◌&&◌, ◌||◌, ℤ, pos, negsuc, int_lt, int_le}
use Rattle.std.specs.Prelude.{List, [], ◌∷◌, ◌++◌, map, length, All}
use Rattle.std.specs.List.{list_all, list_any}
use Rattle.std.proofs.Common.{refl, sym, ap, ◌∙◌, subst, arith, get_or, take}
use Rattle.std.proofs.lemmas.Bool.{and_parts, and_from, leb-true, false≢true}
use Rattle.std.proofs.lemmas.List.{length-map}
use Rattle.std.proofs.lemmas.List.Elements.{All-head, All-tail}
use Rattle.std.proofs.lemmas.List.Folds.{list_all_at, list_all_more}
use Rattle.iso_model.specs.declared.Kind.{Kind}
use Rattle.lists.specs.Orders.{numbers, has}
use Rattle.iso_model.specs.Turns.{turn, dot, cofactors, minus, difference, side_rows, hyper}
use Rattle.iso_model.specs.Cells.{HasDimension, corner_count, corner_point, edge_count, edge_ends, edge_midpoint}
use Rattle.iso_model.specs.Tables.{IsTuple}
use Rattle.iso_model.specs.Bipolar.{is_bipolar_in}
use Rattle.iso_model.specs.Acceptance.{is_sound_tuple, rule_edges, rule_side, side_turn, positive_end, negative_end}
use Rattle.iso_model.proofs.DimensionLaws.{dimension_cases}
use Rattle.small_turn.proofs.Planes.{AreWide, turn_laws, length-minus}
use Rattle.label_rules.proofs.FigureLaws.{midpoint_small, corner_small, ends_inside}
use Rattle.lists.specs.Bits.{is_set}
use Rattle.lists.proofs.Tests.{of_lt, chosen_below}

-- the turn of a tuple is positive with the step along each of its edges
abbrev pub is_turned : Kind → ℕ → ℕ → List ℕ → Bool
is_turned kind d label w = list_all (λ e. int_lt (pos 0) (side_turn kind d label w e)) w

-- ---- the rule, where all tuples are sound

sides_of_sound : (kind : Kind) (d label : ℕ) (ws : List (List ℕ)) → list_all (is_sound_tuple kind d label) ws ≡ true
    → rule_side kind d label ws ≡ list_all (is_turned kind d label) ws
sides_of_sound kind d label [] h = refl
sides_of_sound kind d label (w ∷ ws) h =
    let t = and_parts (is_sound_tuple kind d label w) (list_all (is_sound_tuple kind d label) ws) h in
    ap (λ b. (not b || is_turned kind d label w) && rule_side kind d label ws) t.0
    ∙ ap (λ b. is_turned kind d label w && b) (sides_of_sound kind d label ws t.1)

pub side_rule : (kind : Kind) (d label : ℕ) (ws : List (List ℕ)) → rule_edges kind d label ws ≡ true
    → rule_side kind d label ws ≡ list_all (is_turned kind d label) ws
side_rule kind d label ws h =
    sides_of_sound kind d label ws
    (and_parts (list_all (is_sound_tuple kind d label) ws)
    (list_all (λ e. not (is_bipolar_in kind d label e) || list_any (λ w. has w e) ws) (numbers (edge_count kind d))) h).0

pub side_fails : (kind : Kind) (d label : ℕ) (ws : List (List ℕ)) (i : ℕ) (w : List ℕ) → i < length ws → w ≡ get_or ws i w
    → false ≡ is_turned kind d label w → rule_edges kind d label ws ≡ true
    → false ≡ rule_side kind d label ws
side_fails kind d label ws i w inside read fails h =
    sym (side_rule kind d label ws h ∙ list_all_at (is_turned kind d label) ws i w inside (subst (λ v. is_turned kind d label v ≡ false) read (sym fails)))

-- ---- the turn with a last row

-- the steps from a point to the midpoints of edges
steps : Kind → ℕ → List ℕ → List ℕ → List (List ℤ)
steps kind d p [] = []
steps kind d p (x ∷ w) = minus (map pos (edge_midpoint kind d x)) (map pos p) ∷ steps kind d p w

steps_of_points : (kind : Kind) (d : ℕ) (p w : List ℕ) → map (λ q. difference q p) (map (edge_midpoint kind d) w) ≡ steps kind d p w
unfolding steps
steps_of_points kind d p [] = refl
steps_of_points kind d p (x ∷ w) = ap (λ rows. minus (map pos (edge_midpoint kind d x)) (map pos p) ∷ rows) (steps_of_points kind d p w)

steps_of_rows : (kind : Kind) (d : ℕ) (p w : List ℕ) → map (λ q. minus q (map pos p)) (map (λ x. map pos (edge_midpoint kind d x)) w) ≡ steps kind d p w
unfolding steps
steps_of_rows kind d p [] = refl
steps_of_rows kind d p (x ∷ w) = ap (λ rows. minus (map pos (edge_midpoint kind d x)) (map pos p) ∷ rows) (steps_of_rows kind d p w)

steps_count : (kind : Kind) (d : ℕ) (p w : List ℕ) → length (steps kind d p w) ≡ length w
unfolding steps
steps_count kind d p [] = refl
steps_count kind d p (x ∷ w) = ap suc (steps_count kind d p w)

steps_wide : (kind : Kind) (d : ℕ) (p w : List ℕ) → HasDimension kind d → length p ≡ d → All (λ e. e < edge_count kind d) w → AreWide d (steps kind d p w)
unfolding steps
steps_wide kind d p [] has l all = tt
steps_wide kind d p (x ∷ w) has l all =
    let long : length (map pos (edge_midpoint kind d x)) ≡ d =
    length-map (edge_midpoint kind d x) pos ∙ (midpoint_small kind d has x (All-head (λ e. e < edge_count kind d) x w all)).wide in
    let short : length (map pos p) ≡ d = length-map p pos ∙ l in (
      length-minus (map pos (edge_midpoint kind d x)) (map pos p) (long ∙ sym short) ∙ long,
      steps_wide kind d p w has l (All-tail (λ e. e < edge_count kind d) x w all),
    )

pub record IsInDimension (d : ℕ) : Type 0 where
  pub least : 2 ≤ d
  pub greatest : d ≤ 4

pub in_dimension : (kind : Kind) (d : ℕ) → HasDimension kind d → IsInDimension d
in_dimension kind d has = record { least = omega (arith, dimension_cases kind d has); greatest = omega (arith, dimension_cases kind d has) }

-- the turn of a tuple with a step is the product of the step with the normal of the half-space through the midpoints
pub turn_by_normal : (kind : Kind) (d : ℕ) (w : List ℕ) (step : List ℤ) → HasDimension kind d → IsTuple kind d w → length step ≡ d
    → turn (side_rows (map (edge_midpoint kind d) w) step) ≡ dot (hyper (map (λ x. map pos (edge_midpoint kind d x)) w)).normal step
turn_by_normal kind d [] step has t l = let b = in_dimension kind d has in absurd (omega (arith, t.0, b.least))
turn_by_normal kind d (x ∷ w) step has t l =
    let p = edge_midpoint kind d x in
    let b = in_dimension kind d has in
    let wide =
    steps_wide kind d p w has (midpoint_small kind d has x (All-head (λ e. e < edge_count kind d) x w t.1)).wide
    (All-tail (λ e. e < edge_count kind d) x w t.1) in
    ap (λ rows. turn (rows ++ step ∷ [])) (steps_of_points kind d p w)
    ∙ (turn_laws d b.least b.greatest).expand (steps kind d p w) step (omega (arith, t.0, steps_count kind d p w)) wide l
    ∙ ap (λ rows. dot (cofactors rows) step) (sym (steps_of_rows kind d p w))

-- ---- the turn with the step of one edge

corner_wide : (kind : Kind) (d : ℕ) → HasDimension kind d → (k : ℕ) → k < corner_count kind d → length (map pos (corner_point kind d k)) ≡ d
corner_wide kind d has k below = length-map (corner_point kind d k) pos ∙ (corner_small kind d has k below).wide

ascent_wide : (kind : Kind) (d label e : ℕ) → HasDimension kind d → e < edge_count kind d
    → length (difference (corner_point kind d (positive_end kind d label e)) (corner_point kind d (negative_end kind d label e))) ≡ d
ascent_wide kind d label e has below =
    let o = ends_inside kind d has e below in
    let n = corner_count kind d in
    let ends = edge_ends kind d e in
    let to = corner_wide kind d has (positive_end kind d label e) (chosen_below n ends.0 ends.1 (is_set label ends.0) o.0 o.1) in
    let from = corner_wide kind d has (negative_end kind d label e) (chosen_below n ends.1 ends.0 (is_set label ends.0) o.1 o.0) in
    length-minus (map pos (corner_point kind d (positive_end kind d label e))) (map pos (corner_point kind d (negative_end kind d label e)))
    (to ∙ sym from)
    ∙ to

pub edge_turn : (kind : Kind) (d label : ℕ) (w : List ℕ) (e : ℕ) (points : List (List ℤ)) (normal step : List ℤ) (r : ℤ) → HasDimension kind d
    → IsTuple kind d w → e < edge_count kind d
    → points ≡ map (λ x. map pos (edge_midpoint kind d x)) w → normal ≡ (hyper points).normal
    → step ≡ difference (corner_point kind d (positive_end kind d label e)) (corner_point kind d (negative_end kind d label e)) → r ≡ dot normal step
    → side_turn kind d label w e ≡ r
edge_turn kind d label w e points normal step r has t below points_are normal_is step_is product =
    let ascent = difference (corner_point kind d (positive_end kind d label e)) (corner_point kind d (negative_end kind d label e)) in
    turn_by_normal kind d w ascent has t (ascent_wide kind d label e has below)
    ∙ ap (λ ps. dot (hyper ps).normal ascent) (sym points_are) ∙ ap (λ n. dot n ascent) (sym normal_is) ∙ ap (λ s. dot normal s) (sym step_is) ∙ sym product

pub positive_from : (r : ℤ) → int_le r (pos 0) ≡ false → int_lt (pos 0) r ≡ true
positive_from (pos zero) h = absurd (false≢true (sym h))
positive_from (pos (suc n)) h = of_lt 0 (suc n) (omega arith)
positive_from (negsuc n) h = absurd (false≢true (sym h))

pub not_positive_from : (r : ℤ) → int_le r (pos 0) ≡ true → int_lt (pos 0) r ≡ false
not_positive_from (pos zero) h = refl
not_positive_from (pos (suc n)) h = absurd (omega (arith, leb-true (suc n) 0 h))
not_positive_from (negsuc n) h = refl

-- one more edge
pub turned_more : (kind : Kind) (d label : ℕ) (w : List ℕ) (i : ℕ) (r : ℤ) → i < length w → side_turn kind d label w (get_or w i 0) ≡ r
    → int_le r (pos 0) ≡ false
    → list_all (λ e. int_lt (pos 0) (side_turn kind d label w e)) (take i w) ≡ true
    → list_all (λ e. int_lt (pos 0) (side_turn kind d label w e)) (take (i + 1) w) ≡ true
turned_more kind d label w i r inside is positive before =
    let test : ℕ → Bool = λ e. int_lt (pos 0) (side_turn kind d label w e) in
    list_all_more test w i 0 inside
    ∙ and_from (list_all test (take i w)) (test (get_or w i 0)) before (ap (λ z. int_lt (pos 0) z) is ∙ positive_from r positive)

pub turned_fails : (kind : Kind) (d label : ℕ) (w : List ℕ) (i : ℕ) (r : ℤ) → i < length w → side_turn kind d label w (get_or w i 0) ≡ r
    → int_le r (pos 0) ≡ true → false ≡ is_turned kind d label w
turned_fails kind d label w i r inside is not_positive =
    let test : ℕ → Bool = λ e. int_lt (pos 0) (side_turn kind d label w e) in
    sym (list_all_at test w i 0 inside (ap (λ z. int_lt (pos 0) z) is ∙ not_positive_from r not_positive))
