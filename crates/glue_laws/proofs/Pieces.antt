-- Cells with entries of tuples of local edges, each edge with its place in one list: the laws under which the placed simplices are closed.
use Rattle.std.proofs.Common.{◌≡◌, ℕ, ◌+◌, ◌<◌, ◌≤◌, Bool, true, List, length, Option, Some, None}
use Rattle.std.specs.Prelude.{map, count_by, flat_map, ◌≢◌}
use Rattle.lists.specs.Orders.{sorted}
use Rattle.iso_model.specs.Placed.{placed_tuple}
use Rattle.mesh_laws.proofs.FaceSigns.{Part, has_signed}
use Rattle.lists.specs.Members.{In, Each, Distinct}
use Rattle.lists.proofs.Sorting.{bit}

pub record Pieces : Type 0 where
  pub cells : List ℕ
  pub entry : ℕ → List (List ℕ)
  pub is_odd_cell : ℕ → Bool
  -- the place of a local edge of a cell, and back
  pub place : ℕ → ℕ → ℕ
  pub local : ℕ → ℕ → ℕ
  pub is_bipolar : ℕ → ℕ → Bool
  pub facets : ℕ
  pub in_facet : ℕ → ℕ → Bool
  -- the kept cell across a facet and its facet there, and where the seam takes an edge of the facet
  pub across : ℕ → ℕ → Option (ℕ × ℕ)
  pub seam : ℕ → ℕ → ℕ → ℕ

module _ (p : Pieces) where
  -- all edges of the cell are bipolar; lie in the facet
  abbrev pub AllBipolar : ℕ → List ℕ → Type 0
  AllBipolar c es = Each (λ e. p.is_bipolar c e ≡ true) es

  abbrev pub AllIn : ℕ → List ℕ → Type 0
  AllIn f es = Each (λ e. p.in_facet f e ≡ true) es

  -- the cell has a bipolar edge with this place
  abbrev pub Has : ℕ → ℕ → Type 0
  Has c k = (e : ℕ) × (p.is_bipolar c e ≡ true) × (p.place c e ≡ k)

  -- how many tuples of the cell's entry have the face with the sign (-1)^m
  abbrev pub local_count : ℕ → ℕ → List ℕ → ℕ
  local_count c m face = count_by (has_signed m face) (p.entry c)

  abbrev pub piece : ℕ → List (List ℕ)
  piece c = map (placed_tuple (p.is_odd_cell c) (p.place c)) (p.entry c)

  abbrev pub placed_simplices : List (List ℕ)
  placed_simplices = flat_map piece p.cells

  abbrev pub placed_count : ℕ → List ℕ → ℕ
  placed_count m face = count_by (has_signed m face) placed_simplices

  -- a tuple of an entry, and a face of it
  pub record IsTuple (c : ℕ) (t : List ℕ) : Type 0 where
    pub distinct : Distinct t
    pub long : 2 ≤ length t
    pub bipolar : AllBipolar c t

  pub record Laws : Type 0 where
    pub cells_distinct : Distinct p.cells
    pub back : (c e : ℕ) → In c p.cells → p.is_bipolar c e ≡ true → p.local c (p.place c e) ≡ e
    pub tuples : (c : ℕ) (t : List ℕ) → In c p.cells → In t (p.entry c) → IsTuple c t
    -- the rule on the faces of one entry
    pub inside : (c : ℕ) (t l : List ℕ) → In c p.cells → In t (p.entry c) → Part l t → ((f : ℕ) → f < p.facets → ¬ AllIn f l) →
        (local_count c 0 (sorted l) ≡ 1) × (local_count c 1 (sorted l) ≡ 1)
    pub once : (c : ℕ) (t l : List ℕ) (f : ℕ) → In c p.cells → In t (p.entry c) → Part l t → f < p.facets → AllIn f l →
        local_count c 0 (sorted l) + local_count c 1 (sorted l) ≡ 1
    pub one_facet : (c : ℕ) (t l : List ℕ) (f g : ℕ) → In c p.cells → In t (p.entry c) → Part l t → f < p.facets → g < p.facets → AllIn f l → AllIn g l → f ≡ g
    -- no tuple lies in a facet, and every bipolar edge stands in a tuple
    pub not_flat : (c : ℕ) (t : List ℕ) (f : ℕ) → In c p.cells → In t (p.entry c) → f < p.facets → ¬ AllIn f t
    pub covers : (c e : ℕ) → In c p.cells → p.is_bipolar c e ≡ true → (t : List ℕ) × In t (p.entry c) × In e t
    -- neighbours
    pub leads_back : (c f d g : ℕ) → In c p.cells → f < p.facets → p.across c f ≡ Some (d, g)
        → In d p.cells × (c ≢ d) × (g < p.facets) × (p.across d g ≡ Some (c, f))
    pub seam_keeps : (c f d g e : ℕ) → In c p.cells → f < p.facets → p.across c f ≡ Some (d, g) → p.is_bipolar c e ≡ true → p.in_facet f e ≡ true →
        (p.is_bipolar d (p.seam c f e) ≡ true) × (p.in_facet g (p.seam c f e) ≡ true) × (p.place d (p.seam c f e) ≡ p.place c e)
    pub seam_order : (c f d g a b : ℕ) → In c p.cells → f < p.facets → p.across c f ≡ Some (d, g) → p.is_bipolar c a ≡ true → p.is_bipolar c b ≡ true →
        p.in_facet f a ≡ true → p.in_facet f b ≡ true → a ≤ b → p.seam c f a ≤ p.seam c f b
    -- the rule across seams: opposite sums where the parity is the same, equal ones where it is opposite
    pub matches : (c f d g m : ℕ) (face : List ℕ) → In c p.cells → f < p.facets → p.across c f ≡ Some (d, g) → sorted face ≡ face → AllBipolar c face
        → AllIn f face →
        local_count d m (map (p.seam c f) face) ≡ local_count c (m + 1 + bit (p.is_odd_cell c) + bit (p.is_odd_cell d)) face
    -- the share law
    pub shares : (c d : ℕ) (es : List ℕ) → In c p.cells → In d p.cells → c ≢ d → AllBipolar c es → Each (λ e. Has d (p.place c e)) es →
        (f : ℕ) × (f < p.facets) × AllIn f es × (((g : ℕ) → g < p.facets → AllIn g es → g ≡ f) → (g : ℕ) × (p.across c f ≡ Some (d, g)))

  -- the numbers all lie in one facet across which there is no kept cell
  pub record OnFree (face : List ℕ) : Type 0 where
    pub cell : ℕ
    pub facet : ℕ
    pub is_cell : In cell p.cells
    pub is_facet : facet < p.facets
    pub none_across : p.across cell facet ≡ None
    pub lies : Each (λ k. (e : ℕ) × (p.is_bipolar cell e ≡ true) × (p.in_facet facet e ≡ true) × (p.place cell e ≡ k)) face
