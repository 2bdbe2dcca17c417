-- Each placed simplex belongs to one cell, and each cell that has a vertex has a simplex at it.
use Rattle.std.proofs.Common.{◌≡◌, ℕ, Bool, true, false, List, refl, sym, subst, inl, inr}
use Rattle.std.specs.Prelude.{map}
use Rattle.std.proofs.lemmas.Bool.{cases_eq}
use Rattle.lists.specs.Orders.{exchange_last}
use Rattle.iso_model.specs.Placed.{placed_tuple}
use Rattle.mesh_laws.proofs.FaceSigns.{Each-sorted, from_Each-sorted, sorted-exchange}
use Rattle.glue_laws.proofs.Pieces.{Pieces, Has, piece, placed_simplices, Laws}
use Rattle.lists.specs.Members.{In, Each}
use Rattle.lists.proofs.MemberLaws.{In-map, from_In-map, from_In-flat_map, Each-In, Each-from_In, Each-map, from_Each-map}

Each-exchange : (D : ℕ → Type 0) (w : List ℕ) → Each D w → Each D (exchange_last w)
Each-exchange D w all = from_Each-sorted D (exchange_last w) (subst (Each D) (sym (sorted-exchange w)) (Each-sorted D w all))

from_Each-exchange : (D : ℕ → Type 0) (w : List ℕ) → Each D (exchange_last w) → Each D w
from_Each-exchange D w all = from_Each-sorted D w (subst (Each D) (sorted-exchange w) (Each-sorted D (exchange_last w) all))

-- what holds of the places of a tuple's edges holds of the placed tuple's numbers
pub Each-placed : (D : ℕ → Type 0) (odd : Bool) (f : ℕ → ℕ) (t : List ℕ) → Each (λ e. D (f e)) t → Each D (placed_tuple odd f t)
Each-placed D false f t all = Each-map D f t all
Each-placed D true f t all = Each-exchange D (map f t) (Each-map D f t all)

-- and the other way round
pub from_Each-placed : (D : ℕ → Type 0) (odd : Bool) (f : ℕ → ℕ) (t : List ℕ) → Each D (placed_tuple odd f t) → Each (λ e. D (f e)) t
from_Each-placed D false f t all = from_Each-map D f t all
from_Each-placed D true f t all = from_Each-map D f t (from_Each-exchange D (map f t) all)

-- the place of a tuple's edge is a number of the placed tuple
pub In-placed : (odd : Bool) (f : ℕ → ℕ) (t : List ℕ) (e : ℕ) → In e t → In (f e) (placed_tuple odd f t)
In-placed odd f t e i =
    Each-In (λ x. In (f x) (placed_tuple odd f t)) t
    (from_Each-placed (λ y. In y (placed_tuple odd f t)) odd f t
    (Each-from_In (λ y. In y (placed_tuple odd f t)) (placed_tuple odd f t) (λ y j. j)))
    e i

module _ (p : Pieces) (laws : Laws p) where
  -- a simplex of a cell's piece has numbers of the cell alone
  pub piece_has : (c : ℕ) (w : List ℕ) → In c p.cells → In w (piece p c) → Each (Has p c) w
  piece_has c w i j =
      let s = from_In-map (placed_tuple (p.is_odd_cell c) (p.place c)) (p.entry c) w j in
      let bipolar = (laws.tuples c s.0 i s.1).bipolar in
      subst (Each (Has p c)) (sym s.2) (Each-placed (Has p c) (p.is_odd_cell c) (p.place c) s.0
      (Each-from_In _ s.0 (λ e k. (e, Each-In (λ x. p.is_bipolar c x ≡ true) s.0 bipolar e k, refl))))

  -- the cell of a simplex: it alone has all its numbers
  pub record BelongsTo (w : List ℕ) : Type 0 where
    pub cell : ℕ
    pub is_cell : In cell p.cells
    pub is_there : In w (piece p cell)
    pub has : Each (Has p cell) w
    pub only : (d : ℕ) → In d p.cells → Each (Has p d) w → d ≡ cell

  -- each placed simplex belongs to exactly one cell
  pub in_one_cell : (w : List ℕ) → In w (placed_simplices p) → BelongsTo w
  in_one_cell w i =
      let r = from_In-flat_map (piece p) p.cells w i in
      let s = from_In-map (placed_tuple (p.is_odd_cell r.0) (p.place r.0)) (p.entry r.0) w r.2 in
      let bipolar = (laws.tuples r.0 s.0 r.1 s.1).bipolar in
      record {
        cell = r.0;
        is_cell = r.1;
        is_there = r.2;
        has = piece_has r.0 w r.1 r.2;
        only = λ d j all. elim (cases_eq d r.0) [
          | inl same ↦ same
          | inr differ ↦ (let places = from_Each-placed (Has p d) (p.is_odd_cell r.0) (p.place r.0) s.0 (subst (Each (Has p d)) s.2 all) in
              let f = laws.shares r.0 d s.0 r.1 j (λ e. differ (sym e)) bipolar places in
              absurd (laws.not_flat r.0 s.0 f.0 r.1 s.1 f.1 f.2))
        ];
      }

  -- a cell that has a number has a simplex with it
  pub everywhere : (c k : ℕ) → In c p.cells → Has p c k → (w : List ℕ) × In w (piece p c) × In k w
  everywhere c k i has =
      let t = laws.covers c has.0 i has.1 in
      let place = placed_tuple (p.is_odd_cell c) (p.place c) in
      (place t.0, In-map place (p.entry c) t.0 t.1, subst (λ (v : ℕ). In v (place t.0)) has.2 (In-placed (p.is_odd_cell c) (p.place c) t.0 has.0 t.2))
