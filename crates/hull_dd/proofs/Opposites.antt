-- The half-space through D points with a further one off it: no half-space with a normal is tight at all of these.
use Rattle.std.specs.Prelude.{◌≡◌, ◌≢◌, ◌⊎◌, ℕ, zero, suc, ◌+◌, ◌<◌, ◌≤◌, ℤ, pos, negsuc, neg_ℤ, ◌^◌, ◌-ℤ◌, ◌*ℤ◌, ◌≤ℤ◌, ◌<ℤ◌, List, [], ◌∷◌, map}
use Rattle.std.specs.Prelude.{length, slice_index_or, All}
use Rattle.std.proofs.Common.{refl, sym, ap, ◌∙◌, subst, arith, inl, inr}
use Rattle.std.proofs.lemmas.Int.{ints}
use Rattle.std.proofs.lemmas.List.Elements.{All-nil, All-cons, All-head, All-tail}
use Rattle.polynomials.specs.Small.{IsSmall, AreSmall}
use Rattle.polynomials.proofs.SmallLaws.{AreSmall-weaken, AreSmall-cons, small-neg}
use Rattle.polynomials.proofs.IntLaws.{mul-eq-zero, mul-comm, mul-zero_left}
use Rattle.polynomials.proofs.Ring.{ring, var, con, ◌⊖◌, ◌⊗◌}
use Rattle.iso_model.specs.Turns.{HalfSpace, slack, IsTight, HasNormal, rows_to, hyper, turn, dot, minus}
use Rattle.iso_model.specs.Hulls.{members}
use Rattle.small_turn.proofs.Planes.{turn_laws, AreWide, AreTight, SamePlane, tight_same, hyper-turn}
use Rattle.halfspace.proofs.Bases.{length-members, chosen_wide}
use Rattle.halfspace.proofs.FacetFound.{own_tight}
use Rattle.small_turn.specs.declared.HalfSpace.{HalfSpace as SmallHalfSpace}
use Rattle.hull_dd.specs.declared.generators.Generator.{Generator}
use Rattle.hull_dd.specs.Generators.{point_at, combined, plain, half_of, HasSmallNumbers}
use Rattle.hull_dd.specs.Starts.{IsTightAt, IsSetOf, IsOpposite}
use Rattle.hull_dd.proofs.Combinations.{combined-slack, combined-wide}
use Rattle.hull_dd.proofs.Products.{scaled_at}
use Rattle.hull_dd.proofs.Signs.{above_or_not}
use Rattle.halfspace.proofs.FacetSteps.{normal_wide}
use Rattle.lists.proofs.Contained.{any_default}

-- ---- tight at the chosen points, by the list

pub tight_list : (points : List (List ℤ)) (choice : List ℕ) (h : HalfSpace) → IsTightAt points choice h → AreTight h (members points choice)
tight_list points [] h t = tt
tight_list points (i ∷ is) h t = (
  All-head (λ j. IsTight h (point_at points j)) i is t,
  tight_list points is h
      (All-tail (λ j. IsTight h (point_at points j)) i is t),
)

pub tight_each : (points : List (List ℤ)) (choice : List ℕ) (h : HalfSpace) → AreTight h (members points choice) → IsTightAt points choice h
tight_each points [] h t = All-nil (λ j. IsTight h (point_at points j))
tight_each points (i ∷ is) h t = All-cons (λ j. IsTight h (point_at points j)) i is t.0 (tight_each points is h t.1)

-- ---- a half-space that is tight at all of them

zero_scaled : (xs : List ℤ) (k : ℕ) → slice_index_or (map (λ x. pos 0 *ℤ x) xs) k (pos 0) ≡ pos 0
zero_scaled [] k = refl
zero_scaled (x ∷ xs) zero = mul-zero_left x
zero_scaled (x ∷ xs) (suc k) = zero_scaled xs k

negative_slack : (m b : ℤ) → m -ℤ b ≡ pos 0 → b -ℤ m ≡ pos 0
negative_slack m b e = omega (arith, ints)

-- it has no normal, and is tight everywhere
pub record IsNone (h : HalfSpace) : Type 0 where
  pub flat : ¬ (HasNormal h)
  pub full : (x : List ℤ) → IsTight h x

none_by_plane : (d : ℕ) (f q : ℤ) (h g : HalfSpace) → SamePlane d f q h g → f ≢ pos 0 → q ≡ pos 0 → IsNone h
none_by_plane d f q h g plane n z = record {
  flat = λ a. a.4 (mul-eq-zero f a.1
      (ap (λ (c : ℤ). f *ℤ c) (sym a.3 ∙ any_default h.normal a.0 a.1 (pos 0) a.2) ∙ sym (scaled_at f h.normal a.0 a.2)
      ∙ ap (λ (xs : List ℤ). slice_index_or xs a.0 (pos 0)) (plane.normals ∙ ap (λ (c : ℤ). map (λ x. c *ℤ x) g.normal) z)
      ∙ zero_scaled g.normal a.0) n);
  full = λ x. mul-eq-zero f (slack h x) (plane.slacks x ∙ ap (λ (c : ℤ). c *ℤ slack g x) z ∙ mul-zero_left (slack g x)) n;
}

pub tight_at_all : (d : ℕ) → 2 ≤ d → d ≤ 4 → (points : List (List ℤ)) → All (λ p. length p ≡ d) points → (choice : List ℕ) → length choice ≡ d
    → All (λ i. i < length points) choice
    → (apart : ℕ) → apart < length points → slack (hyper (members points choice)) (point_at points apart) ≢ pos 0
    → (h : HalfSpace) → length h.normal ≡ d → IsTightAt points choice h → IsTight h (point_at points apart) → IsNone h
tight_at_all d least greatest points wide [] e inside apart l off h w t a = absurd (omega arith)
tight_at_all d least greatest points wide (i ∷ is) e inside apart l off h w t a =
    none_by_plane d (turn (rows_to (p ∷ ps) x)) (dot h.normal (minus x p)) h (hyper (p ∷ ps)) plane
    (λ z. off (negative_slack (dot (hyper (p ∷ ps)).normal x) (hyper (p ∷ ps)).bound (hyper-turn d (turn_laws d least greatest) p ps x one_less all_wide.0
    all_wide.1 x_wide ∙ z)))
    (mul-eq-zero (slack (hyper (p ∷ ps)) x) (dot h.normal (minus x p))
    (mul-comm (slack (hyper (p ∷ ps)) x) (dot h.normal (minus x p)) ∙ sym (plane.slacks x) ∙ ap (λ (c : ℤ). turn (rows_to (p ∷ ps) x) *ℤ c) a ∙ mul-comm
    (turn (rows_to (p ∷ ps) x)) (pos 0) ∙ mul-zero_left (turn (rows_to (p ∷ ps) x)))
    off)
  where
    p : List ℤ
    p = point_at points i

    ps : List (List ℤ)
    ps = members points is

    x : List ℤ
    x = point_at points apart

    x_wide : length x ≡ d
    x_wide = wide apart [] l

    one_less : length ps + 1 ≡ d
    one_less = ap (λ (n : ℕ). n + 1) (length-members points is) ∙ omega arith

    all_wide : AreWide d (members points (i ∷ is))
    all_wide = chosen_wide d points wide (i ∷ is) inside

    tights : AreTight h (members points (i ∷ is))
    tights = tight_list points (i ∷ is) h t

    plane : SamePlane d (turn (rows_to (p ∷ ps) x)) (dot h.normal (minus x p)) h (hyper (p ∷ ps))
    plane = tight_same d (turn_laws d least greatest) h p ps x w one_less all_wide.0 all_wide.1 x_wide tights.0 tights.1

-- ---- the half-space through the points is tight at them, and so is its other side

pub through : (d : ℕ) → 2 ≤ d → d ≤ 4 → (points : List (List ℤ)) → All (λ p. length p ≡ d) points → (choice : List ℕ) → length choice ≡ d
    → All (λ i. i < length points) choice → IsTightAt points choice (hyper (members points choice))
through d least greatest points wide choice e inside =
    tight_each points choice (hyper (members points choice)) (own_tight d least greatest (members points choice) (length-members points choice ∙ e)
    (chosen_wide d points wide choice inside))

turned_step : (s : ℤ) → pos 0 *ℤ s -ℤ pos 1 *ℤ s ≡ pos 0 -ℤ s
turned_step s = ring (s ∷ []) (con (pos 0) ⊗ var 0 ⊖ con (pos 1) ⊗ var 0) (con (pos 0) ⊖ var 0) refl

pub turned-slack : (h : HalfSpace) (x : List ℤ) → slack (combined (pos 0) h (pos 1) h) x ≡ pos 0 -ℤ slack h x
turned-slack h x = combined-slack (pos 0) h (pos 1) h refl x ∙ turned_step (slack h x)

turned_zero : (s t : ℤ) → t ≡ pos 0 -ℤ s → s ≡ pos 0 → t ≡ pos 0
turned_zero s t e z = omega (arith, ints)

pub turned-tight : (points : List (List ℤ)) (choice : List ℕ) (h : HalfSpace) → IsTightAt points choice h
    → IsTightAt points choice (combined (pos 0) h (pos 1) h)
turned-tight points choice h t k d l = turned_zero (slack h (point_at points (slice_index_or choice k d)))
    (slack (combined (pos 0) h (pos 1) h) (point_at points (slice_index_or choice k d))) (turned-slack h (point_at points (slice_index_or choice k d)))
    (t k d l)

-- ---- the generator

pub opposite_is : (d : ℕ) → 2 ≤ d → d ≤ 4 → (points : List (List ℤ)) → All (λ p. length p ≡ d) points → (choice : List ℕ) → length choice ≡ d
    → All (λ i. i < length points) choice
    → (apart : ℕ) → apart < length points → (g : Generator d) → length g.half.normal ≡ d → HasSmallNumbers g → IsTightAt points choice (half_of g)
    → pos 0 <ℤ slack (half_of g) (point_at points apart)
    → slack (hyper (members points choice)) (point_at points apart) ≢ pos 0 → IsSetOf choice g.tight → IsOpposite d points choice apart g
opposite_is d least greatest points wide choice e inside apart l g w small tight above off set = record {
  wide = w;
  small = small;
  tight = tight;
  above = above;
  set = set;
  flat = λ h v t a. (tight_at_all d least greatest points wide choice e inside apart l off h v t a).flat;
  full = λ h v t a. (tight_at_all d least greatest points wide choice e inside apart l off h v t a).full;
}

pub other_above : (s t : ℤ) → t ≡ pos 0 -ℤ s → s ≢ pos 0 → ¬ (pos 0 <ℤ s) → pos 0 <ℤ t
other_above s t e n h = by_sign (above_or_not s)
  where
    held_other : (s t : ℤ) → t ≡ pos 0 -ℤ s → s ≢ pos 0 → s ≤ℤ pos 0 → pos 0 <ℤ t
    held_other (pos zero) t e n p = absurd (n refl)
    held_other (pos (suc k)) t e n p = absurd (omega (arith, ints))
    held_other (negsuc k) t e n p = omega (arith, ints)

    by_sign : (pos 0 <ℤ s) ⊎ (s ≤ℤ pos 0) → pos 0 <ℤ t
    by_sign (inl p) = absurd (h p)
    by_sign (inr p) = held_other s t e n p

-- ---- the two ends

-- the half-space of the code through the chosen points, which are in their place
pub record IsThrough (d : ℕ) (points : List (List ℤ)) (choice : List ℕ) (apart : ℕ) (h : SmallHalfSpace d) : Type 0 where
  pub least : 2 ≤ d
  pub greatest : d ≤ 4
  pub wide : All (λ p. length p ≡ d) points
  pub full : length choice ≡ d
  pub inside : All (λ i. i < length points) choice
  pub there : apart < length points
  pub same : plain h ≡ hyper (members points choice)
  pub coefficients : AreSmall (2 ^ 21) h.normal
  pub constant : IsSmall (2 ^ 28) h.bound
  pub off : slack (plain h) (point_at points apart) ≢ pos 0

half_wide : (d : ℕ) (points : List (List ℤ)) (choice : List ℕ) (apart : ℕ) (h : SmallHalfSpace d) → IsThrough d points choice apart h → length h.normal ≡ d
half_wide d points choice apart h t =
    ap (λ (k : HalfSpace). length k.normal) t.same ∙ normal_wide d t.least (members points choice) (length-members points choice ∙ t.full)

half_off : (d : ℕ) (points : List (List ℤ)) (choice : List ℕ) (apart : ℕ) (h : SmallHalfSpace d) → IsThrough d points choice apart h
    → slack (hyper (members points choice)) (point_at points apart) ≢ pos 0
half_off d points choice apart h t = subst (λ (k : HalfSpace). slack k (point_at points apart) ≢ pos 0) t.same t.off

half_tight : (d : ℕ) (points : List (List ℤ)) (choice : List ℕ) (apart : ℕ) (h : SmallHalfSpace d) → IsThrough d points choice apart h
    → IsTightAt points choice (plain h)
half_tight d points choice apart h t = subst (IsTightAt points choice) (sym t.same) (through d t.least t.greatest points t.wide choice t.full t.inside)

pub this_side : (d : ℕ) (points : List (List ℤ)) (choice : List ℕ) (apart : ℕ) (h : SmallHalfSpace d) (tight : ℕ) → IsThrough d points choice apart h
    → pos 0 <ℤ slack (plain h) (point_at points apart) → IsSetOf choice tight
    → IsOpposite d points choice apart (record { half = h; tight = tight })
this_side d points choice apart h tight t above set =
    opposite_is d t.least t.greatest points t.wide choice t.full t.inside apart t.there (record { half = h; tight = tight })
    (half_wide d points choice apart h t)
    (record { coefficients = AreSmall-weaken (2 ^ 21) (2 ^ 24) h.normal (omega arith) t.coefficients; constant = t.constant })
    (half_tight d points choice apart h t) above (half_off d points choice apart h t) set

negated_small : (b : ℤ) → IsSmall (2 ^ 28) b → IsSmall (2 ^ 28) (pos 0 *ℤ b -ℤ pos 1 *ℤ b)
negated_small b h = omega (arith, ints)

each_negated : (xs : List ℤ) → minus (map (λ x. pos 0 *ℤ x) xs) (map (λ x. pos 1 *ℤ x) xs) ≡ map neg_ℤ xs
each_negated [] = refl
each_negated (x ∷ xs) = let e : pos 0 *ℤ x -ℤ pos 1 *ℤ x ≡ neg_ℤ x = omega (arith, ints) in let r = each_negated xs in cc

negated_row_small : (n : ℕ) (xs : List ℤ) → AreSmall n xs → AreSmall n (map neg_ℤ xs)
negated_row_small n [] h = λ k d l. absurd (omega arith)
negated_row_small n (x ∷ xs) h = AreSmall-cons n (neg_ℤ x) (map neg_ℤ xs) (small-neg n x (h 0 x (omega arith)))
    (negated_row_small n xs (λ k d l. h (suc k) d (omega arith)))

pub other_side : (d : ℕ) (points : List (List ℤ)) (choice : List ℕ) (apart : ℕ) (h turned : SmallHalfSpace d) (tight : ℕ)
    → IsThrough d points choice apart h → ¬ (pos 0 <ℤ slack (plain h) (point_at points apart)) → IsSetOf choice tight
    → plain turned ≡ combined (pos 0) (plain h) (pos 1) (plain h) → IsOpposite d points choice apart (record { half = turned; tight = tight })
other_side d points choice apart h turned tight t below set e =
    opposite_is d t.least t.greatest points t.wide choice t.full t.inside apart t.there (record { half = turned; tight = tight })
    (ap (λ (k : HalfSpace). length k.normal) e ∙ combined-wide (pos 0) (plain h) (pos 1) (plain h) d w w)
    (record {
      coefficients = subst (AreSmall (2 ^ 24)) (sym (ap (λ (k : HalfSpace). k.normal) e ∙ each_negated h.normal))
          (negated_row_small (2 ^ 24) h.normal (AreSmall-weaken (2 ^ 21) (2 ^ 24) h.normal (omega arith) t.coefficients));
      constant = subst (λ (b : ℤ). IsSmall (2 ^ 28) b) (sym (ap (λ (k : HalfSpace). k.bound) e)) (negated_small h.bound t.constant);
    })
    (subst (IsTightAt points choice) (sym e) (turned-tight points choice (plain h) (half_tight d points choice apart h t)))
    (other_above (slack (plain h) (point_at points apart)) (slack (plain turned) (point_at points apart))
    (ap (λ (k : HalfSpace). slack k (point_at points apart)) e ∙ turned-slack (plain h) (point_at points apart)) t.off below)
    (half_off d points choice apart h t) set
  where
    w : length h.normal ≡ d
    w = half_wide d points choice apart h t

-- two half-spaces whose fields are the same
pub same_plain : (n : List ℤ) (b : ℤ) (h : HalfSpace) → n ≡ h.normal → b ≡ h.bound → record { normal = n; bound = b } ≡ h
same_plain n b h en eb = ap (λ (m : List ℤ). of_fields m b) en ∙ ap (λ (v : ℤ). of_fields h.normal v) eb
  where
    of_fields : List ℤ → ℤ → HalfSpace
    of_fields m v = record { normal = m; bound = v }
