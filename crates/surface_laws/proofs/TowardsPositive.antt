-- The positive end of an edge of a cell is the corner that its label says; so is the direction towards it, and whether the edge is bipolar.
use Rattle.std.proofs.Common.{◌≡◌, ℕ, ◌<◌, Bool, true, false, List, length, refl, ap, sym, ◌∙◌, subst, arith, inl, inr}
use Rattle.std.specs.Prelude.{if◌then◌else◌}
use Rattle.std.proofs.lemmas.Bool.{cases_lt}
use Rattle.std.proofs.lemmas.List.{get_or_past}
use Rattle.iso_model.specs.declared.Kind.{Kind}
use Rattle.iso_model.specs.Points.{comes_first}
use Rattle.iso_model.specs.Turns.{difference}
use Rattle.iso_model.specs.Cells.{HasDimension, corner_count, edges, edge_count, edge_ends}
use Rattle.iso_model.specs.Splits.{Edge, corner, edge}
use Rattle.iso_model.specs.Values.{Volume, cells, IsRegularVolume, label_of, positive_at}
use Rattle.iso_model.specs.Bipolar.{differ, is_bipolar, is_bipolar_in}
use Rattle.iso_model.specs.Acceptance.{positive_end, negative_end}
use Rattle.iso_model.specs.Surface.{towards_positive}
use Rattle.iso_model.specs.Dimensions.{IsDimension}
use Rattle.cell_lattice.specs.CellLemmas.{as_many_edges}
use Rattle.split_laws.proofs.Passed.{ends_are_corners}
use Rattle.volume_pieces.proofs.Seams.{LabelsTellSigns}
use Rattle.volume_pieces.proofs.AcrossStands.{volume_dimension}
use Rattle.lists.specs.Bits.{is_set}
use Rattle.lists.specs.Members.{In}
use Rattle.lists.proofs.Tests.{chosen_below}

-- ---- numbers that are no edge are not bipolar

no_difference : (a : Bool) → differ a a ≡ true → ⊥
no_difference true h = cc
no_difference false h = cc

-- a bipolar edge is an edge
pub bipolar_below : (kind : Kind) (d : ℕ) → IsDimension d → HasDimension kind d → (label e : ℕ) → is_bipolar_in kind d label e ≡ true → e < edge_count kind d
bipolar_below kind d is has label e bipolar = elim (cases_lt e (edge_count kind d)) [
  | inl less ↦ less
  | inr past ↦ (let none : edge_ends kind d e ≡ no_ends = get_or_past (edges kind d) e (0, 0) (omega (arith, past, as_many_edges kind d is has)) in
      absurd (no_difference (is_set label 0) (subst (λ (p : ℕ × ℕ). differ (is_set label p.0) (is_set label p.1) ≡ true) none bipolar)))
]
  where
    no_ends : ℕ × ℕ
    no_ends = (0, 0)

-- ---- two ends, in either order

abbrev in_order : List ℕ → List ℕ → Bool → Edge
in_order p q b = if b then record { low = p; high = q } else record { low = q; high = p }

module _ (v : Volume) (p q : List ℕ) where
  differ_back : (a b : Bool) → differ a b ≡ differ b a
  differ_back true true = refl
  differ_back true false = refl
  differ_back false true = refl
  differ_back false false = refl

  bipolar_case : (b : Bool) → is_bipolar v (in_order p q b) ≡ differ (positive_at v p) (positive_at v q)
  bipolar_case true = refl
  bipolar_case false = differ_back (positive_at v q) (positive_at v p)

  low_first : (s t : Bool) → positive_at v p ≡ s → positive_at v q ≡ t → differ s t ≡ true
      → (if positive_at v p then difference p q else difference q p) ≡ (if s then difference p q else difference q p)
  low_first s t is is' h = rw is refl

  high_first : (s t : Bool) → positive_at v p ≡ s → positive_at v q ≡ t → differ s t ≡ true
      → (if positive_at v q then difference q p else difference p q) ≡ (if s then difference p q else difference q p)
  high_first true true is is' h = cc
  high_first true false is is' h = rw is' refl
  high_first false true is is' h = rw is' refl
  high_first false false is is' h = cc

  towards_case : (b s t : Bool) → positive_at v p ≡ s → positive_at v q ≡ t → differ s t ≡ true
      → towards_positive v (in_order p q b) ≡ (if s then difference p q else difference q p)
  towards_case true = low_first
  towards_case false = high_first

-- the direction by the corners that a test chooses
chosen_difference : (at : ℕ → List ℕ) (a b : ℕ) (s : Bool)
    → (if s then difference (at a) (at b) else difference (at b) (at a)) ≡ difference (at (if s then a else b)) (at (if s then b else a))
chosen_difference at a b true = refl
chosen_difference at a b false = refl

module _ (v : Volume) (regular : IsRegularVolume v) (signs : LabelsTellSigns v) (c e : ℕ) (is_cell : In c (cells v))
    (below : e < edge_count v.kind (length v.sizes)) where
  abbrev D : ℕ
  D = length v.sizes

  abbrev low : ℕ
  low = (edge_ends v.kind (length v.sizes) e).0

  abbrev high : ℕ
  high = (edge_ends v.kind (length v.sizes) e).1

  ends_in : (low < corner_count v.kind (length v.sizes)) × (high < corner_count v.kind (length v.sizes))
  ends_in = ends_are_corners v.kind D (volume_dimension v regular) regular.fits e below

  low_sign : positive_at v (corner v.kind v.sizes c low) ≡ is_set (label_of v c) low
  low_sign = sym (signs c low is_cell ends_in.0)

  high_sign : positive_at v (corner v.kind v.sizes c high) ≡ is_set (label_of v c) high
  high_sign = sym (signs c high is_cell ends_in.1)

  -- an edge of a cell is bipolar where its label says so
  pub bipolar_by_label : is_bipolar v (edge v.kind v.sizes c e) ≡ is_bipolar_in v.kind (length v.sizes) (label_of v c) e
  bipolar_by_label =
      bipolar_case v (corner v.kind v.sizes c low) (corner v.kind v.sizes c high) (comes_first (corner v.kind v.sizes c low) (corner v.kind v.sizes c high))
      ∙ ap (λ (s : Bool). differ s (positive_at v (corner v.kind v.sizes c high))) low_sign ∙ ap (differ (is_set (label_of v c) low)) high_sign

  -- the direction towards the positive end goes from the negative corner to the positive one
  pub towards_by_label : is_bipolar_in v.kind (length v.sizes) (label_of v c) e ≡ true →
      towards_positive v (edge v.kind v.sizes c e)
      ≡ difference (corner v.kind v.sizes c (positive_end v.kind (length v.sizes) (label_of v c) e))
      (corner v.kind v.sizes c (negative_end v.kind (length v.sizes) (label_of v c) e))
  towards_by_label bipolar =
      towards_case v (corner v.kind v.sizes c low) (corner v.kind v.sizes c high)
      (comes_first (corner v.kind v.sizes c low) (corner v.kind v.sizes c high)) (is_set (label_of v c) low) (is_set (label_of v c) high) low_sign
      high_sign bipolar
      ∙ chosen_difference (corner v.kind v.sizes c) low high (is_set (label_of v c) low)

  pub ends_are_below :
      (positive_end v.kind (length v.sizes) (label_of v c) e < corner_count v.kind (length v.sizes))
      × (negative_end v.kind (length v.sizes) (label_of v c) e < corner_count v.kind (length v.sizes))
  ends_are_below = (
    chosen_below (corner_count v.kind D) low high (is_set (label_of v c) low) ends_in.0 ends_in.1,
    chosen_below (corner_count v.kind D) high low (is_set (label_of v c) low) ends_in.1 ends_in.0,
  )
