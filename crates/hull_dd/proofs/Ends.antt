-- Where each generator's tight set lies on a facet that is found, all facets are found.
use Rattle.std.specs.Prelude.{◌≡◌, ℕ, ◌+◌, ◌*◌, ◌%◌, ◌/◌, ◌^◌, ◌<◌, ◌≤◌, ℤ, pos, bit_and, bit_or, List, [], length, slice_index_or, All, Any, Contains, IsTrue}
use Rattle.std.specs.Int.{bit_at}
use Rattle.std.proofs.Common.{sym, ap, ◌∙◌, subst, arith, inl, inr}
use Rattle.std.proofs.lemmas.List.Elements.{All-contains, All-weaker}
use Rattle.std.proofs.lemmas.Nat.Bits.{shr_and_one, bit_at-lt}
use Rattle.iso_model.specs.Turns.{HalfSpace, slack, IsTight, same_int}
use Rattle.iso_model.specs.Hulls.{IsFacet}
use Rattle.halfspace.specs.Choices.{AreSomeFacets}
use Rattle.halfspace.proofs.Bases.{chosen_wide}
use Rattle.hull_dd.specs.declared.generators.Generator.{Generator}
use Rattle.hull_dd.specs.Generators.{point_at, IsCoveredBy, Generate, GenerateAll, with_point}
use Rattle.hull_dd.specs.Steps.{IsWithinAny, AreWithinAny}
use Rattle.hull_dd.proofs.GeneratorBits.{point_added, member_stays, within_bit}
use Rattle.lists.specs.Orders.{has}
use Rattle.lists.specs.Bits.{set_number}
use Rattle.halfspace.proofs.TightNumbers.{has_passes}
use Rattle.iso_model.proofs.PointLaws.{same_int-is}
use Rattle.lists.proofs.Contained.{any_default}
use Rattle.halfspace.proofs.FacetSteps.{tried_known}
use Rattle.lists.proofs.Bits.{shifted_one}
use Rattle.std.proofs.lemmas.Bool.{cases_eq}

-- ---- a facet is found

-- a member of a facet, and that its half-space is tight there
record IsTightMember (points : List (List ℤ)) (h : HalfSpace) (i : ℕ) : Type 0 where
  below : i < length points
  tight : IsTight h (point_at points i)

tight_member : (d : ℕ) (points : List (List ℤ)) (set : List ℕ) (f : IsFacet d points set) (i : ℕ) → IsTrue (has set i) → IsTightMember points f.half i
tight_member d points set f i h =
    let p = has_passes (λ j. same_int (slack f.half (slice_index_or points j [])) (pos 0)) (length points) i
    (subst (λ (s : List ℕ). IsTrue (has s i)) f.tight h) in
    record { below = p.below; tight = same_int-is (slack f.half (point_at points i)) (pos 0) p.passes }

pub facet_found : (d : ℕ) → 2 ≤ d → d ≤ 4 → (points : List (List ℤ)) → All (λ p. length p ≡ d) points → (gs : List (Generator d)) → GenerateAll d points gs
    → (found : List ℕ) → AreSomeFacets d points found
    → AreWithinAny gs found → (set : List ℕ) → IsFacet d points set → Contains found (set_number set)
facet_found d least greatest points wide gs all found some within set f =
    tried_known d least greatest points f.basis found f.full (chosen_wide d points wide f.basis inside) some (w.0, w.1, w.2, w.3, on_facet) set f f.within
    f.spans
  where
    gen : Generate d points all.set gs
    gen = all.generate

    inside : All (λ i. i < length points) f.basis
    inside = All-weaker (λ i. IsTrue (has set i)) (λ i. i < length points) (λ i h. (tight_member d points set f i h).below) f.basis f.within

    covering : Any (IsCoveredBy points all.set f.half) gs
    covering = gen.enough f.half f.wide (λ j l m. f.holds j [] l) (λ t. gen.flat f.half f.wide t f.normal)

    g : Generator d
    g = covering.1

    w : IsWithinAny g.tight found
    w = All-contains (λ (x : Generator d). IsWithinAny x.tight found) gs g within (covering.0, covering.2, covering.3)

    on_facet : All (λ i. bit_at w.1 i ≡ 1) f.basis
    on_facet = All-weaker (λ i. IsTrue (has set i)) (λ i. bit_at w.1 i ≡ 1)
        (λ i h. let t = tight_member d points set f i h in within_bit g.tight w.1 i w.4 (covering.4 i t.below (all.all i t.below) t.tight)) f.basis f.within

-- ---- the points one after the other

-- a bit that the code finds not to be 0
pub bit_found : (set i : ℕ) → ¬ (bit_and (set / 2 ^ i) 1 ≡ 0) → bit_at set i ≡ 1
bit_found set i n =
    let e = shr_and_one set i in
    let l = bit_at-lt set i in
    let m : ¬ (bit_at set i ≡ 0) = λ z. n (e ∙ z) in
    omega arith

-- the set with point i, as the code sets its bit
pub set_with : (set i after : ℕ) → i < 48 → after ≡ bit_or set (1 * 2 ^ i % 2 ^ 64) → after ≡ with_point set i
set_with set i after few e = e ∙ ap (bit_or set) (shifted_one i (omega arith))

pub before_more : (set i : ℕ) → ((j : ℕ) → j < i → bit_at set j ≡ 1) → bit_at set i ≡ 1 → (j : ℕ) → j < i + 1 → bit_at set j ≡ 1
before_more set i h here j l = elim (cases_eq j i) [
  | inl s ↦ subst (λ (k : ℕ). bit_at set k ≡ 1) (sym s) here
  | inr n ↦ h j (omega arith)
]

pub before_added : (set i : ℕ) → ((j : ℕ) → j < i → bit_at set j ≡ 1) → (j : ℕ) → j < i + 1 → bit_at (with_point set i) j ≡ 1
before_added set i h = before_more (with_point set i) i (λ j l. member_stays set i j (h j l)) (point_added set i)

-- ---- the generators one after the other

pub within_kept : (set : ℕ) (old new : List ℕ) → All (Contains new) old → IsWithinAny set old → IsWithinAny set new
within_kept set old new kept w = let c : Contains new w.1 = subst (Contains new) w.3 (kept w.0 w.1 w.2) in (c.0, w.1, c.1, c.2, w.4)

abbrev pub WithinBelow : {d : ℕ} → List (Generator d) → List ℕ → ℕ → Type 0
WithinBelow {d} gs found n = (k : ℕ) (e : Generator d) → k < n → IsWithinAny (slice_index_or gs k e).tight found

pub within_more : (d : ℕ) (gs : List (Generator d)) (old new : List ℕ) (n : ℕ) (g : Generator d) → n < length gs → g ≡ slice_index_or gs n g
    → All (Contains new) old → IsWithinAny g.tight new
    → WithinBelow gs old n → WithinBelow gs new (n + 1)
within_more d gs old new n g l s kept w h k e b = elim (cases_eq k n) [
  | inl z ↦ subst (λ (j : ℕ). IsWithinAny (slice_index_or gs j e).tight new) (sym z) (subst (λ (x : Generator d). IsWithinAny x.tight new)
      (s ∙ any_default gs n g e l) w)
  | inr z ↦ within_kept (slice_index_or gs k e).tight old new kept (h k e (omega arith))
]
