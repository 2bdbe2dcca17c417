-- What one choice of D points adds to the facets that are found.
use Rattle.std.specs.Prelude.{◌≡◌, ◌≢◌, ℕ, zero, suc, ◌+◌, ◌<◌, ◌≤◌, ℤ, pos, negsuc, ◌-ℤ◌, ◌*ℤ◌, ◌≤ℤ◌, ◌<ℤ◌, true, List, [], ◌∷◌, ◌++◌, map, length}
use Rattle.std.specs.Prelude.{slice_index_or, All, Any, Contains, IsTrue}
use Rattle.std.specs.Int.{bit_at}
use Rattle.std.proofs.Common.{refl, sym, ap, ◌∙◌, subst, arith, inl, inr}
use Rattle.std.proofs.lemmas.Int.{ints}
use Rattle.std.proofs.lemmas.List.{length-map}
use Rattle.std.proofs.lemmas.List.Elements.{All-nil, All-cons, All-head, All-tail, All-push, Contains-push, filter_agree, All-weaker}
use Rattle.polynomials.proofs.Ring.{ring, var, con, ◌⊖◌, ◌⊗◌}
use Rattle.lists.specs.Orders.{numbers, has}
use Rattle.iso_model.specs.Turns.{HalfSpace, slack, same_int, tight_set, HasNormal, Spans, hyper, dot, minus}
use Rattle.iso_model.specs.Hulls.{IsFacet, members}
use Rattle.small_turn.proofs.Cramer.{scaled}
use Rattle.small_turn.proofs.Planes.{AreWide, AreTight, dot-scaled}
use Rattle.small_turn.proofs.SpanLaws.{length-cofactors}
use Rattle.halfspace.specs.Choices.{IsOneSided, IsFacetNumber, AreSomeFacets, IsTried, IsWithinSome, HasNoFacet, IsFacetThrough}
use Rattle.halfspace.proofs.Bases.{length-members}
use Rattle.halfspace.proofs.FacetFound.{found, own_tight}
use Rattle.halfspace.proofs.FoundSets.{digit, bit_of_number, set_bit, occurs_once_more}
use Rattle.halfspace.proofs.TightNumbers.{has_passes, has_passing}
use Rattle.lists.specs.Bits.{set_number}
use Rattle.lists.proofs.Tests.{same_tests}
use Rattle.iso_model.proofs.PointLaws.{same_int-is, is-same_int}

-- ---- a choice within a facet that is found

-- the bits of a facet's number are those of its members
facet_bit : (d : ℕ) (points : List (List ℤ)) (set : List ℕ) → IsFacet d points set → (i : ℕ) → bit_at (set_number set) i ≡ 1 → IsTrue (has set i)
facet_bit d points set f i h =
    let b = set_bit _ (length points) i (ap (λ (s : List ℕ). bit_at (set_number s) i) (sym f.tight) ∙ h) in
    subst (λ (s : List ℕ). has s i ≡ true) (sym f.tight) (has_passing _ (length points) i b.below b.passes)

facet_has : (d : ℕ) (points : List (List ℤ)) (set : List ℕ) → IsFacet d points set → (i : ℕ) → IsTrue (has set i) → bit_at (set_number set) i ≡ 1
facet_has d points set f i h =
    let b = has_passes _ (length points) i (subst (λ (s : List ℕ). has s i ≡ true) f.tight h) in
    ap (λ (s : List ℕ). bit_at (set_number s) i) f.tight ∙ bit_of_number _ (length points) i b.below ∙ ap digit b.passes

each_bit : (d : ℕ) (points : List (List ℤ)) (set : List ℕ) → IsFacet d points set → (m : ℕ) → m ≡ set_number set → (choice : List ℕ)
    → All (λ i. bit_at m i ≡ 1) choice → All (λ i. IsTrue (has set i)) choice
each_bit d points set f m e choice h =
    All-weaker (λ i. bit_at m i ≡ 1) (λ i. IsTrue (has set i)) (λ i b. facet_bit d points set f i (ap (λ (n : ℕ). bit_at n i) (sym e) ∙ b)) choice h

each_has : (d : ℕ) (points : List (List ℤ)) (set : List ℕ) → IsFacet d points set → (choice : List ℕ) → All (λ i. IsTrue (has set i)) choice
    → All (λ i. bit_at (set_number set) i ≡ 1) choice
each_has d points set f choice h =
    All-weaker (λ i. IsTrue (has set i)) (λ i. bit_at (set_number set) i ≡ 1) (λ i k. facet_has d points set f i k) choice h

pub tried_known : (d : ℕ) → 2 ≤ d → d ≤ 4 → (points : List (List ℤ)) (choice known : List ℕ) → length choice ≡ d → AreWide d (members points choice)
    → AreSomeFacets d points known
    → IsWithinSome choice known → IsTried d points known choice
tried_known d least greatest points choice known full wide some a set f within spans =
    let number : IsFacetNumber d points a.1 = subst (IsFacetNumber d points) a.3 (some.facets a.0 a.1 a.2) in
    let one = found d least greatest points set f choice full wide within spans in
    let other = found d least greatest points number.0 number.1 choice full wide (each_bit d points number.0 number.1 a.1 number.2 choice a.4) spans in
    let same : a.1 ≡ set_number set = number.2 ∙ ap set_number (other.same ∙ sym one.same) in
    subst (Contains known) same (a.0, a.2, a.3)

-- ---- a choice that gives no facet

not_both : (h : HalfSpace) (points : List (List ℤ)) → Any (λ x. pos 0 <ℤ slack h x) points → Any (λ x. slack h x <ℤ pos 0) points → IsOneSided h points → ⊥
not_both h points a b (inl k) = let e = k b.0 b.1 b.2 in let s = b.4 in let q = b.3 in
    absurd (let z : pos 0 ≤ℤ slack h b.1 = subst (λ (x : List ℤ). pos 0 ≤ℤ slack h x) q e in omega (arith, ints))
not_both h points a b (inr k) = let e = k a.0 a.1 a.2 in let s = a.4 in let q = a.3 in
    absurd (let z : slack h a.1 ≤ℤ pos 0 = subst (λ (x : List ℤ). slack h x ≤ℤ pos 0) q e in omega (arith, ints))

-- the fields of a half-space that are those of `hyper` at the chosen points
pub same_half : (n : List ℤ) (b : ℤ) (rows ps : List (List ℤ)) → n ≡ (hyper rows).normal → b ≡ (hyper rows).bound → rows ≡ ps
    → record { normal = n; bound = b } ≡ hyper ps
same_half n b rows ps en eb e =
    ap (λ (m : List ℤ). half_of m b) en ∙ ap (λ (v : ℤ). half_of (hyper rows).normal v) eb ∙ ap hyper e
  where
    half_of : List ℤ → ℤ → HalfSpace
    half_of m v = record { normal = m; bound = v }

pub none_flat : (d : ℕ) (points : List (List ℤ)) (choice : List ℕ) → ¬ (Spans (members points choice)) → HasNoFacet d points choice
none_flat d points choice n set f within spans = n spans

pub none_two_sided : (d : ℕ) → 2 ≤ d → d ≤ 4 → (points : List (List ℤ)) (choice : List ℕ) (h : HalfSpace) → h ≡ hyper (members points choice)
    → length choice ≡ d → AreWide d (members points choice)
    → Any (λ x. pos 0 <ℤ slack h x) points → Any (λ x. slack h x <ℤ pos 0) points → HasNoFacet d points choice
none_two_sided d least greatest points choice h e full wide a b set f within spans =
    not_both h points a b (subst (λ (k : HalfSpace). IsOneSided k points) (sym e) (found d least greatest points set f choice full wide within spans).sides)

-- ---- a choice that gives a facet

-- the half-space on the other side
other_side : HalfSpace → HalfSpace
other_side h = record { normal = scaled (negsuc 0) h.normal; bound = negsuc 0 *ℤ h.bound }

negated_step : (b m : ℤ) → negsuc 0 *ℤ b -ℤ negsuc 0 *ℤ m ≡ negsuc 0 *ℤ (b -ℤ m)
negated_step b m = ring (b ∷ m ∷ []) (con (negsuc 0) ⊗ var 0 ⊖ con (negsuc 0) ⊗ var 1) (con (negsuc 0) ⊗ (var 0 ⊖ var 1)) refl

other_slack : (h : HalfSpace) (x : List ℤ) → slack (other_side h) x ≡ negsuc 0 *ℤ slack h x
unfolding other_side
other_slack h x = ap (λ (v : ℤ). negsuc 0 *ℤ h.bound -ℤ v) (dot-scaled (negsuc 0) h.normal x) ∙ negated_step h.bound (dot h.normal x)

other_zero : (s t : ℤ) → t ≡ negsuc 0 *ℤ s → s ≡ pos 0 → t ≡ pos 0
other_zero s t e z = omega (arith, ints)

other_zero_back : (s t : ℤ) → t ≡ negsuc 0 *ℤ s → t ≡ pos 0 → s ≡ pos 0
other_zero_back s t e z = omega (arith, ints)

other_held : (s t : ℤ) → t ≡ negsuc 0 *ℤ s → s ≤ℤ pos 0 → pos 0 ≤ℤ t
other_held s t e z = omega (arith, ints)

other_tight_set : (h : HalfSpace) (points : List (List ℤ)) → tight_set h points ≡ tight_set (other_side h) points
other_tight_set h points = filter_agree _ _ (λ i. at (slice_index_or points i [])) (numbers (length points))
  where
    at : (x : List ℤ) → same_int (slack h x) (pos 0) ≡ same_int (slack (other_side h) x) (pos 0)
    at x = same_tests _ _
        (λ q. is-same_int _ _ (other_zero (slack h x) (slack (other_side h) x) (other_slack h x) (same_int-is _ _ q)))
        (λ q. is-same_int _ _ (other_zero_back (slack h x) (slack (other_side h) x) (other_slack h x) (same_int-is _ _ q)))

any_scaled : (n : List ℤ) → Any (λ c. c ≢ pos 0) n → Any (λ c. c ≢ pos 0) (scaled (negsuc 0) n)
any_scaled n a = go n a.0 a.1 a.2 a.3 a.4
  where
    go : (n : List ℤ) (k : ℕ) (c : ℤ) → k < length n → slice_index_or n k c ≡ c → c ≢ pos 0 → Any (λ x. x ≢ pos 0) (scaled (negsuc 0) n)
    go [] k c h e q = absurd (omega arith)
    go (x ∷ n) zero c h e q = (0, negsuc 0 *ℤ x, omega arith, refl, λ z. q (sym e ∙ other_zero_back x (negsuc 0 *ℤ x) refl z))
    go (x ∷ n) (suc k) c h e q = let r = go n k c (omega arith) e q in (suc r.0, r.1, omega (arith, r.2), r.3, r.4)

-- the tight set of the half-space through points that span, with all points on one side
each_tight : (h : HalfSpace) (points : List (List ℤ)) (choice : List ℕ) → All (λ i. i < length points) choice → AreTight h (members points choice)
    → All (λ i. IsTrue (has (tight_set h points) i)) choice
each_tight h points [] b t = All-nil (λ i. IsTrue (has (tight_set h points) i))
each_tight h points (i ∷ is) b t =
    All-cons (λ i. IsTrue (has (tight_set h points) i)) i is
    (has_passing _ (length points) i (All-head (λ i. i < length points) i is b) (is-same_int _ _ t.0))
    (each_tight h points is (All-tail (λ i. i < length points) i is b) t.1)

pub normal_wide : (d : ℕ) → 2 ≤ d → (ps : List (List ℤ)) → length ps ≡ d → length (hyper ps).normal ≡ d
normal_wide d least [] e = absurd (omega arith)
normal_wide d least (p ∷ ps) e = length-cofactors (map (λ q. minus q p) ps) ∙ ap (λ (n : ℕ). n + 1) (length-map ps (λ q. minus q p)) ∙ omega arith

is_facet : (d : ℕ) → 2 ≤ d → d ≤ 4 → (points : List (List ℤ)) (choice : List ℕ) → length choice ≡ d → All (λ i. i < length points) choice
    → AreWide d (members points choice)
    → HasNormal (hyper (members points choice)) → Spans (members points choice) → IsOneSided (hyper (members points choice)) points
    → IsFacet d points (tight_set (hyper (members points choice)) points)
unfolding other_side
is_facet d least greatest points choice full inside wide normal spans (inl k) = record {
  half = hyper (members points choice);
  wide = normal_wide d least (members points choice) (length-members points choice ∙ full);
  normal = normal;
  holds = k;
  tight = refl;
  basis = choice;
  within =
      each_tight (hyper (members points choice)) points choice inside
      (own_tight d least greatest (members points choice) (length-members points choice ∙ full) wide);
  full = full;
  spans = spans;
}
is_facet d least greatest points choice full inside wide normal spans (inr k) = record {
  half = other_side (hyper (members points choice));
  wide =
      length-map (hyper (members points choice)).normal (λ x. negsuc 0 *ℤ x)
      ∙ normal_wide d least (members points choice) (length-members points choice ∙ full);
  normal = any_scaled (hyper (members points choice)).normal normal;
  holds = λ i z q. other_held _ _ (other_slack (hyper (members points choice)) (slice_index_or points i z)) (k i z q);
  tight = other_tight_set (hyper (members points choice)) points;
  basis = choice;
  within =
      each_tight (hyper (members points choice)) points choice inside
      (own_tight d least greatest (members points choice) (length-members points choice ∙ full) wide);
  full = full;
  spans = spans;
}

pub facet_here : (d : ℕ) → 2 ≤ d → d ≤ 4 → (points : List (List ℤ)) (choice : List ℕ) (h : HalfSpace) → h ≡ hyper (members points choice) → length choice ≡ d
    → All (λ i. i < length points) choice → AreWide d (members points choice) → HasNormal h → Spans (members points choice) → IsOneSided h points
    → (m : ℕ) → m ≡ set_number (tight_set h points) → IsFacetThrough d points choice m
facet_here d least greatest points choice h same full inside wide normal spans sides m e =
    let number : m ≡ set_number (tight_set (hyper (members points choice)) points) = e ∙ ap (λ (k : HalfSpace). set_number (tight_set k points)) same in
    let f : IsFacet d points (tight_set (hyper (members points choice)) points) =
    is_facet d least greatest points choice full inside wide (subst HasNormal same normal) spans (subst (λ (k : HalfSpace). IsOneSided k points) same sides) in
    let own : All (λ i. IsTrue (has (tight_set (hyper (members points choice)) points) i)) choice =
    each_tight (hyper (members points choice)) points choice inside
    (own_tight d least greatest (members points choice) (length-members points choice ∙ full) wide) in
    record {
      facet = (tight_set (hyper (members points choice)) points, f, number);
      through =
          subst (λ (n : ℕ). All (λ i. bit_at n i ≡ 1) choice) (sym number)
          (each_has d points (tight_set (hyper (members points choice)) points) f choice own);
      alone = λ other g within. number ∙ ap set_number (sym (found d least greatest points other g choice full wide within spans).same);
    }

-- ---- the facets that are found with one more

pub some_more : (d : ℕ) (points : List (List ℤ)) (choice known : List ℕ) (m : ℕ) → AreSomeFacets d points known → ¬ (IsWithinSome choice known)
    → IsFacetThrough d points choice m
    → AreSomeFacets d points (known ++ m ∷ [])
some_more d points choice known m some new t = record {
  facets = All-push (IsFacetNumber d points) known m some.facets t.facet;
  once = occurs_once_more known m (λ c. new (c.0, m, c.1, c.2, t.through)) some.once;
}

pub tried_more : (d : ℕ) (points : List (List ℤ)) (choice known : List ℕ) (m : ℕ) → IsFacetThrough d points choice m → IsTried d points (known ++ m ∷ []) choice
tried_more d points choice known m t set f within spans = subst (Contains (known ++ m ∷ [])) (t.alone set f within) (Contains-push known m)
