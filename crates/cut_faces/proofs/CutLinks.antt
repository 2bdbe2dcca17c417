-- The links of a tetrahedron: each has a number, and the number tells the local edge.
use Rattle.std.proofs.Common.{◌≡◌, ℕ, ◌+◌, ◌<◌, Bool, true, List, length, refl, inl, inr, ap, sym, ◌∙◌, subst, arith}
use Rattle.std.specs.Prelude.{map, flat_map, Contains, ◌&&◌, ◌==◌, nat_lt, slice_index, slice_index_or}
use Rattle.std.specs.List.{position_or_len}
use Rattle.std.proofs.lemmas.Bool.{and_parts, and_from, cases_eq, false_from_ne_true}
use Rattle.std.proofs.lemmas.List.FromFn.{get_or-range_with_len}
use Rattle.std.proofs.lemmas.List.Sums.{position_or_len_is}
use Rattle.lists.specs.Orders.{numbers, sorted}
use Rattle.lists.specs.Members.{In}
use Rattle.lists.proofs.Contained.{any_default}
use Rattle.lists.proofs.MemberLaws.{In-numbers, In-map, In-filter, Contains_from, In-flat_map}
use Rattle.lists.proofs.Tests.{lt_of, of_lt, equal_of, of_equal}
use Rattle.iso_model.specs.declared.Kind.TheVariants.{Simplex}
use Rattle.iso_model.specs.Cells.{edge_ends, edge_between}
use Rattle.cut_laws.specs.declared.Link.{Link}
use Rattle.cut_laws.specs.Cuts.{link_at, links_below, number_in}
use Rattle.cut_laws.specs.CutSteps.{IsSimplex, is_parted, links_in}
use Rattle.cut_laws.proofs.FoundLinks.{found_is_link, links_are}
use Rattle.cut_laws.proofs.LinkOrder.{number_at}
use Rattle.cut_faces.proofs.Sides.{side, left_out, kept}
use Rattle.cut_faces.proofs.SeamEdges.{edge_of_ends, ends_few}

-- ---- the local edges of one tetrahedron

module _ (n : ℕ) (w : List ℕ) (is : IsSimplex n w) where
  -- different corners have different numbers
  pub corner_fixed : (i j : ℕ) → i < 4 → j < 4 → slice_index (sorted w) i ≡ slice_index (sorted w) j → i ≡ j
  corner_fixed i j hi hj e = elim (cases_eq i j) as (λ _. i ≡ j) [
    | inl same ↦ same
    | inr apart ↦ absurd (left_out n w is j hj (subst (λ (x : ℕ). In x (side w j)) e (kept n w is j i hi apart)))
  ]

  -- and different local edges are different links
  pub link_fixed : (d e : ℕ) → d < 6 → e < 6 → link_at w d ≡ link_at w e → d ≡ e
  link_fixed d e hd he same =
      let p = edge_ends Simplex 3 d in
      let q = edge_ends Simplex 3 e in
      let low : p.0 ≡ q.0 = corner_fixed p.0 q.0 (ends_few d hd).0 (ends_few e he).0 (ap (λ (l : Link). l.low) same) in
      let high : p.1 ≡ q.1 = corner_fixed p.1 q.1 (ends_few d hd).1 (ends_few e he).1 (ap (λ (l : Link). l.high) same) in
      sym (edge_of_ends d hd) ∙ ap (λ (i : ℕ). edge_between Simplex 3 i p.1) low ∙ ap (λ (j : ℕ). edge_between Simplex 3 q.0 j) high ∙ edge_of_ends e he

-- ---- the numbers of the links of a mesh

-- a link without ends
abbrev pub no_link : Link
no_link = record { low = 0; high = 0 }

-- the link with a number
abbrev pub link_of : List Link → ℕ → Link
link_of ls k = slice_index_or ls k no_link

-- a local edge has a link
abbrev pub is_linked : (ℕ → Bool) → List ℕ → ℕ → Bool
is_linked late w e = nat_lt e 6 && is_parted late (link_at w e)

pub from_linked : (late : ℕ → Bool) (w : List ℕ) (e : ℕ) → is_linked late w e ≡ true → (e < 6) × (is_parted late (link_at w e) ≡ true)
from_linked late w e h = let both = and_parts (nat_lt e 6) (is_parted late (link_at w e)) h in (lt_of e 6 both.0, both.1)

pub to_linked : (late : ℕ → Bool) (w : List ℕ) (e : ℕ) → e < 6 → is_parted late (link_at w e) ≡ true → is_linked late w e ≡ true
to_linked late w e h p = and_from (nat_lt e 6) (is_parted late (link_at w e)) (of_lt e 6 h) p

-- the local edge of a tetrahedron whose link has a number
abbrev pub local_of : (ℕ → Bool) → List Link → List ℕ → ℕ → ℕ
local_of late ls w k = position_or_len (λ e. is_linked late w e && (number_in ls (link_at w e) == k)) (numbers 6)

module _ (n : ℕ) (late : ℕ → Bool) (S : List (List ℕ)) (are : (w : List ℕ) → In w S → IsSimplex n w) where
  abbrev ls : List Link
  ls = links_below n late S

  -- a link stands at its number
  pub numbered : (l : Link) → Contains (links_below n late S) l → link_of (links_below n late S) (number_in (links_below n late S) l) ≡ l
  numbered l c =
      let at : number_in ls l ≡ c.0 = number_at ls (links_are n late S).ascend c.0 l c.1 c.2 in
      ap (link_of ls) at ∙ any_default ls c.0 no_link l c.1 ∙ c.2

  pub number_few : (l : Link) → Contains (links_below n late S) l → number_in (links_below n late S) l < length (links_below n late S)
  number_few l c = subst (λ (k : ℕ). k < length ls) (sym (number_at ls (links_are n late S).ascend c.0 l c.1 c.2)) c.1

  -- the link on a local edge is one of the links
  pub is_a_link : (w : List ℕ) (e : ℕ) → In w S → is_linked late w e ≡ true → Contains (links_below n late S) (link_at w e)
  is_a_link w e i h =
      let both = from_linked late w e h in
      let local : In (link_at w e) (links_in late w) =
      In-filter (is_parted late) (map (link_at w) (numbers 6)) (link_at w e) (In-map (link_at w) (numbers 6) e (In-numbers 6 e both.0)) both.1 in
      found_is_link n late S are (link_at w e) (Contains_from (flat_map (links_in late) S) (link_at w e) (In-flat_map (links_in late) S w (link_at w e) i local))

  -- the link on a local edge stands at its number
  pub link_there : (w : List ℕ) (e : ℕ) → In w S → is_linked late w e ≡ true
      → link_of (links_below n late S) (number_in (links_below n late S) (link_at w e)) ≡ link_at w e
  link_there w e i h = numbered (link_at w e) (is_a_link w e i h)

  -- links of two tetrahedra with one number are one link
  pub same_links : (v w : List ℕ) (d e : ℕ) → In v S → In w S → is_linked late v d ≡ true → is_linked late w e ≡ true
      → number_in (links_below n late S) (link_at v d) ≡ number_in (links_below n late S) (link_at w e) → link_at v d ≡ link_at w e
  same_links v w d e i j h k same = sym (link_there v d i h) ∙ ap (link_of ls) same ∙ link_there w e j k

  -- the number of a link leads back to the local edge
  pub back : (w : List ℕ) (e : ℕ) → In w S → is_linked late w e ≡ true
      → local_of late (links_below n late S) w (number_in (links_below n late S) (link_at w e)) ≡ e
  back w e i h =
      position_or_len_is test (numbers 6) e 0 (omega (arith, few)) (λ k b.
      rw (get_or-range_with_len 0 6 k 0 (omega (arith, b, few))) (false_from_ne_true (test (0 + k)) (λ t. other k b (subst (λ (x : ℕ). test x ≡ true) (zero_plus k) t))))
      (λ b. rw (get_or-range_with_len 0 6 e 0 few) (subst (λ (x : ℕ). test x ≡ true) (sym (zero_plus e)) here))
    where
      test : ℕ → Bool
      test d = is_linked late w d && (number_in ls (link_at w d) == number_in ls (link_at w e))

      few : e < 6
      few = (from_linked late w e h).0

      zero_plus : (k : ℕ) → 0 + k ≡ k
      zero_plus k = omega arith

      here : test e ≡ true
      here = and_from (is_linked late w e) (number_in ls (link_at w e) == number_in ls (link_at w e)) h
          (of_equal (number_in ls (link_at w e)) (number_in ls (link_at w e)) refl)

      other : (k : ℕ) → k < e → test k ≡ true → ⊥
      other k b t =
          let both = and_parts (is_linked late w k) (number_in ls (link_at w k) == number_in ls (link_at w e)) t in
          let same : k ≡ e =
          link_fixed n w (are w i) k e (from_linked late w k both.0).0 few
          (same_links w w k e i i both.0 h (equal_of (number_in ls (link_at w k)) (number_in ls (link_at w e)) both.1)) in
          omega (arith, b, same)
