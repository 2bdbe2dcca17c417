-- A list that ascends by a strict order is fixed by its members: so facets, pulled simplices and entries are fixed by what is said of them.
use Rattle.std.specs.Prelude.{◌≡◌, ℕ, ℤ, List, map}
use Rattle.std.proofs.Common.{sym, ap, ◌∙◌}
use Rattle.iso_model.specs.declared.Kind.{Kind}
use Rattle.iso_model.specs.Hulls.{AreFacets, ArePulled}
use Rattle.iso_model.specs.Entries.{IsEntryOf, oriented}
use Rattle.lists.proofs.Orderings.{fixed_by}
use Rattle.lists.proofs.Orderings.{tuples_strict, sets_strict}

-- ---- a strict order

-- ---- tuples, place by place

-- ---- what is said fixes the list

pub facets-fixed : (d : ℕ) (points : List (List ℤ)) (sets others : List (List ℕ)) → AreFacets d points sets → AreFacets d points others → sets ≡ others
facets-fixed d points sets others a b = fixed_by _ _ sets_strict sets others a.ascending b.ascending a.each b.each

pub pulled-fixed : (Facet : List ℕ → Type 0) (d : ℕ) (facet : List ℕ) (simplices others : List (List ℕ)) → ArePulled Facet d facet simplices
    → ArePulled Facet d facet others → simplices ≡ others
pulled-fixed Facet d facet simplices others a b = fixed_by _ _ tuples_strict simplices others a.ascending b.ascending a.each b.each

pub entry-fixed : (kind : Kind) (d label : ℕ) (entry other : List (List ℕ)) → IsEntryOf kind d label entry → IsEntryOf kind d label other → entry ≡ other
entry-fixed kind d label entry other a b =
    a.turned ∙ ap (map (oriented kind d label)) (fixed_by _ _ tuples_strict a.tuples b.tuples a.ascending b.ascending a.each b.each) ∙ sym b.turned
