-- A facet has an ascending choice of D of its points that span a hyperplane.
use Rattle.std.specs.Prelude.{◌≡◌, ℕ, suc, ◌<◌, ◌≤◌, ℤ, pos, neg_ℤ, true, List, [], ◌∷◌, ◌++◌, length, slice_index_or, All, IsTrue}
use Rattle.std.proofs.Common.{refl, sym, ap, ◌∙◌, subst, arith, length-append}
use Rattle.std.proofs.lemmas.Int.{ints}
use Rattle.std.proofs.lemmas.List.Elements.{All-cons, All-nil, All-head, All-tail}
use Rattle.lists.specs.Orders.{has, sorted}
use Rattle.iso_model.specs.Turns.{Spans}
use Rattle.iso_model.specs.Hulls.{IsFacet, members}
use Rattle.small_turn.proofs.Planes.{AreWide}
use Rattle.halfspace.specs.Choices.{IsAscending}
use Rattle.halfspace.proofs.Exchange.{Exchanges, exchange_two_0, exchange_three_0, exchange_three_1, exchange_four_0, exchange_four_1, exchange_four_2}
use Rattle.halfspace.proofs.SortedExchanges.{Each-exchange, KeepsExchanges, HasNoRepeat, sorted_keeps, sorted_rises, ascends}
use Rattle.halfspace.proofs.TightNumbers.{has_below}
use Rattle.lists.specs.Members.{Each}

-- ---- neighbours exchanged, in each dimension

exchanged : (d : ℕ) → d ≤ 4 → (us : List (List ℤ)) (x y : List ℤ) (bs : List (List ℤ)) (z : List ℤ) → length (us ++ x ∷ y ∷ bs) ≡ d
    → AreWide d (us ++ x ∷ y ∷ bs) → length z ≡ d
    → Exchanges (us ++ x ∷ y ∷ bs) (us ++ y ∷ x ∷ bs) z
exchanged d f [] x y [] z e w l = exchange_two_0 x y z (w.0 ∙ sym e) (w.1.0 ∙ sym e) (l ∙ sym e)
exchanged d f [] x y (c ∷ []) z e w l = exchange_three_0 x y c z (w.0 ∙ sym e) (w.1.0 ∙ sym e) (w.1.1.0 ∙ sym e) (l ∙ sym e)
exchanged d f [] x y (c ∷ g ∷ []) z e w l = exchange_four_0 x y c g z (w.0 ∙ sym e) (w.1.0 ∙ sym e) (w.1.1.0 ∙ sym e) (w.1.1.1.0 ∙ sym e) (l ∙ sym e)
exchanged d f [] x y (c ∷ g ∷ k ∷ bs) z e w l = absurd (omega arith)
exchanged d f (a ∷ []) x y [] z e w l = exchange_three_1 a x y z (w.0 ∙ sym e) (w.1.0 ∙ sym e) (w.1.1.0 ∙ sym e) (l ∙ sym e)
exchanged d f (a ∷ []) x y (c ∷ []) z e w l = exchange_four_1 a x y c z (w.0 ∙ sym e) (w.1.0 ∙ sym e) (w.1.1.0 ∙ sym e) (w.1.1.1.0 ∙ sym e) (l ∙ sym e)
exchanged d f (a ∷ []) x y (c ∷ g ∷ bs) z e w l = absurd (omega arith)
exchanged d f (a ∷ b ∷ []) x y [] z e w l = exchange_four_2 a b x y z (w.0 ∙ sym e) (w.1.0 ∙ sym e) (w.1.1.0 ∙ sym e) (w.1.1.1.0 ∙ sym e) (l ∙ sym e)
exchanged d f (a ∷ b ∷ []) x y (c ∷ bs) z e w l = absurd (omega arith)
exchanged d f (a ∷ b ∷ g ∷ us) x y bs z e w l = absurd (omega (arith, length-append us (x ∷ y ∷ bs)))

same_length : (us : List (List ℤ)) (x y : List ℤ) (bs : List (List ℤ)) → length (us ++ x ∷ y ∷ bs) ≡ length (us ++ y ∷ x ∷ bs)
same_length us x y bs = length-append us (x ∷ y ∷ bs) ∙ sym (length-append us (y ∷ x ∷ bs))

spans_exchanged : (d : ℕ) → d ≤ 4 → (us : List (List ℤ)) (x y : List ℤ) (bs : List (List ℤ)) → length (us ++ x ∷ y ∷ bs) ≡ d → AreWide d (us ++ x ∷ y ∷ bs)
    → Spans (us ++ x ∷ y ∷ bs) → Spans (us ++ y ∷ x ∷ bs)
spans_exchanged d f us x y bs e w s = (
  s.0,
  s.1 ∙ same_length us x y bs,
  λ q. s.2 (exchanged d f us x y bs s.0 e w (s.1 ∙ e) ∙ ap neg_ℤ q),
)

own_negative : (t : ℤ) → t ≡ neg_ℤ t → t ≡ pos 0
own_negative t e = omega (arith, ints)

spans_no_repeat : (d : ℕ) → d ≤ 4 → (us : List (List ℤ)) (x : List ℤ) (bs : List (List ℤ)) → length (us ++ x ∷ x ∷ bs) ≡ d
    → AreWide d (us ++ x ∷ x ∷ bs) → Spans (us ++ x ∷ x ∷ bs) → ⊥
spans_no_repeat d f us x bs e w s = s.2 (own_negative _ (exchanged d f us x x bs s.0 e w (s.1 ∙ e)))

-- ---- points by their numbers

pub members_wide : (d : ℕ) (points : List (List ℤ)) → All (λ p. length p ≡ d) points → (basis : List ℕ) → Each (λ i. i < length points) basis
    → AreWide d (members points basis)
members_wide d points h [] e = tt
members_wide d points h (i ∷ is) e = (h i [] e.0, members_wide d points h is e.1)

members-append : (points : List (List ℤ)) (us bs : List ℕ) → members points (us ++ bs) ≡ members points us ++ members points bs
members-append points [] bs = refl
members-append points (a ∷ us) bs = ap (λ (ps : List (List ℤ)). slice_index_or points a [] ∷ ps) (members-append points us bs)

pub length-members : (points : List (List ℤ)) (us : List ℕ) → length (members points us) ≡ length us
length-members points [] = refl
length-members points (a ∷ us) = ap suc (length-members points us)

-- ---- a choice of D points of a set that span

pub record IsBasis (d : ℕ) (points : List (List ℤ)) (set basis : List ℕ) : Type 0 where
  pub full : length basis ≡ d
  pub inside : Each (λ i. i < length points) basis
  pub within : Each (λ i. IsTrue (has set i)) basis
  pub spans : Spans (members points basis)

numbers_same_length : (us : List ℕ) (x y : ℕ) (bs : List ℕ) → length (us ++ x ∷ y ∷ bs) ≡ length (us ++ y ∷ x ∷ bs)
numbers_same_length us x y bs = length-append us (x ∷ y ∷ bs) ∙ sym (length-append us (y ∷ x ∷ bs))

basis_exchanged : (d : ℕ) → d ≤ 4 → (points : List (List ℤ)) → All (λ p. length p ≡ d) points → (set : List ℕ) → KeepsExchanges (IsBasis d points set)
basis_exchanged d f points wide set us x y bs h = record {
  full = sym (numbers_same_length us x y bs) ∙ h.full;
  inside = Each-exchange (λ i. i < length points) us x y bs h.inside;
  within = Each-exchange (λ i. IsTrue (has set i)) us x y bs h.within;
  spans = subst Spans (sym (members-append points us (y ∷ x ∷ bs)))
      (spans_exchanged d f (members points us) (slice_index_or points x []) (slice_index_or points y []) (members points bs)
      (ap length (sym parted) ∙ length-members points (us ++ x ∷ y ∷ bs) ∙ h.full)
      (subst (AreWide d) parted (members_wide d points wide (us ++ x ∷ y ∷ bs) h.inside))
      (subst Spans parted h.spans));
}
  where
    parted : members points (us ++ x ∷ y ∷ bs) ≡ members points us ++ members points (x ∷ y ∷ bs)
    parted = members-append points us (x ∷ y ∷ bs)

basis_no_repeat : (d : ℕ) → d ≤ 4 → (points : List (List ℤ)) → All (λ p. length p ≡ d) points → (set : List ℕ) → HasNoRepeat (IsBasis d points set)
basis_no_repeat d f points wide set us x bs h =
    spans_no_repeat d f (members points us) (slice_index_or points x []) (members points bs)
    (ap length (sym parted) ∙ length-members points (us ++ x ∷ x ∷ bs) ∙ h.full)
    (subst (AreWide d) parted (members_wide d points wide (us ++ x ∷ x ∷ bs) h.inside))
    (subst Spans parted h.spans)
  where
    parted : members points (us ++ x ∷ x ∷ bs) ≡ members points us ++ members points (x ∷ x ∷ bs)
    parted = members-append points us (x ∷ x ∷ bs)

-- ---- what the choices of a facet are

each_from_All : (P Q : ℕ → Type 0) → ((i : ℕ) → P i → Q i) → (xs : List ℕ) → All P xs → Each Q xs
each_from_All P Q f [] h = tt
each_from_All P Q f (x ∷ xs) h = (f x (All-head P x xs h), each_from_All P Q f xs (All-tail P x xs h))

pub All-from_Each : (P : ℕ → Type 0) (xs : List ℕ) → Each P xs → All P xs
All-from_Each P [] h = All-nil P
All-from_Each P (x ∷ xs) h = All-cons P x xs h.0 (All-from_Each P xs h.1)

pub record HasChoice (d : ℕ) (points : List (List ℤ)) (set : List ℕ) : Type 0 where
  pub choice : List ℕ
  pub full : length choice ≡ d
  pub ascending : IsAscending 0 (length points) choice
  pub within : All (λ i. IsTrue (has set i)) choice
  pub spans : Spans (members points choice)

pub facet_choice : (d : ℕ) → d ≤ 4 → (points : List (List ℤ)) → All (λ p. length p ≡ d) points → (set : List ℕ) → IsFacet d points set → HasChoice d points set
facet_choice d f points wide set facet =
    let basis : IsBasis d points set facet.basis = record {
      full = facet.full;
      inside = each_from_All (λ i. IsTrue (has set i)) (λ i. i < length points)
          (λ i h. has_below _ (length points) i (subst (λ (s : List ℕ). has s i ≡ true) facet.tight h)) facet.basis facet.within;
      within = each_from_All (λ i. IsTrue (has set i)) (λ i. IsTrue (has set i)) (λ i h. h) facet.basis facet.within;
      spans = facet.spans;
    } in
    let ordered = sorted_keeps (IsBasis d points set) (basis_exchanged d f points wide set) facet.basis basis in
    record {
      choice = sorted facet.basis;
      full = ordered.full;
      ascending =
          ascends (IsBasis d points set) (basis_no_repeat d f points wide set) (length points) (sorted facet.basis) ordered (sorted_rises facet.basis)
          ordered.inside;
      within = All-from_Each (λ i. IsTrue (has set i)) (sorted facet.basis) ordered.within;
      spans = ordered.spans;
    }

-- a list of points that was filled place by place
pub members_from : (points : List (List ℤ)) (choice : List ℕ) (chosen : List (List ℤ)) → length chosen ≡ length choice
    → ((k : ℕ) → k < length choice → slice_index_or chosen k [] ≡ slice_index_or points (slice_index_or choice k 0) []) → chosen ≡ members points choice
members_from points [] [] e h = refl
members_from points [] (p ∷ ps) e h = absurd (omega arith)
members_from points (i ∷ is) [] e h = absurd (omega arith)
members_from points (i ∷ is) (p ∷ ps) e h =
    let a : p ≡ slice_index_or points i [] = h 0 (omega arith) in
    let b = members_from points is ps (omega arith) (λ k q. h (suc k) (omega arith)) in
    cc

-- a fact of all points is one of the chosen ones
pub members_all : (P : List ℤ → Type 0) (points : List (List ℤ)) → All P points → (choice : List ℕ) → All (λ i. i < length points) choice
    → All P (members points choice)
members_all P points h [] e = All-nil P
members_all P points h (i ∷ is) e =
    All-cons P (slice_index_or points i []) (members points is) (h i [] (All-head (λ k. k < length points) i is e))
    (members_all P points h is (All-tail (λ k. k < length points) i is e))

pub chosen_wide : (d : ℕ) (points : List (List ℤ)) → All (λ p. length p ≡ d) points → (choice : List ℕ) → All (λ i. i < length points) choice
    → AreWide d (members points choice)
chosen_wide d points h choice e = members_wide d points h choice (each_from_All (λ i. i < length points) (λ i. i < length points) (λ i k. k) choice e)
