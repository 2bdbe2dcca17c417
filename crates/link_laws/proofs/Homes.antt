-- The triangles at a vertex and their cells: each spoke has one triangle, of one cell; two spokes are joined exactly where their cells stand on one
-- arc, and where a path begins or ends the cell has a free facet.
use Rattle.std.proofs.Common.{◌≡◌, ℕ, ◌+◌, List, Some, refl, sym, ◌∙◌, subst}
use Rattle.std.specs.Prelude.{◌≢◌}
use Rattle.iso_model.specs.Placed.{placed_tuple}
use Rattle.mesh_laws.proofs.FaceSigns.{has_signed}
use Rattle.glue_laws.proofs.Pieces.{Pieces, Has, piece, placed_simplices, Laws}
use Rattle.glue_laws.proofs.InOneCell.{piece_has, everywhere, in_one_cell}
use Rattle.link_laws.proofs.Readings.{Reading, pair, leaving, distinct_of, from_turned, turned_is, reading_has}
use Rattle.link_laws.proofs.Links.{AreLinked, injection, from_next, from_out, from_spokes, In-spokes, out_is, one_leaves, next_is}
use Rattle.link_laws.proofs.Walks.{IsInjection, itself, on, back}
use Rattle.link_laws.proofs.Arcs.{LinkLaws, OnArc, step, spokes_at, JoinedAt, FreeAt, at, arc_on, are_linked, In-piece, reading_at, arc_joined}
use Rattle.link_laws.proofs.Arcs.{step_on_arc, entering_reads, alone_at}
use Rattle.lists.specs.Members.{In, Each}
use Rattle.lists.proofs.MemberLaws.{In-map, from_In-map, from_In-flat_map, Each-In}
use Rattle.lists.proofs.Counts.{count_none}

module _ (p : Pieces) (laws : Laws p) (links : LinkLaws p) (k : ℕ) where
  -- the triangles follow each other one by one
  pub linked : AreLinked (placed_simplices p)
  linked = are_linked p laws links

  -- the step leads from no two spokes to one
  pub steps : IsInjection (step p k) (spokes_at p k)
  steps = injection k (placed_simplices p) linked

  -- what leads on is a spoke
  pub only : (x y : ℕ) → step p k x ≡ Some y → In x (spokes_at p k)
  only x y e = let v = from_out k (placed_simplices p) x y (from_next k (placed_simplices p) linked x y e).0 in In-spokes k (placed_simplices p) v.0 x y v.1 v.2

  -- where a triangle that leaves by a spoke comes from
  pub record Home (z : ℕ) : Type 0 where
    pub cell : ℕ
    pub tuple : List ℕ
    pub is_cell : In cell p.cells
    pub is_tuple : In tuple (p.entry cell)
    pub to : ℕ
    pub reads : Reading k z to (at p cell tuple)

  -- each spoke has one
  pub home_of : (z : ℕ) → In z (spokes_at p k) → Home z
  home_of z i =
      let r = from_spokes k (placed_simplices p) z i in
      let c = from_In-flat_map (piece p) p.cells r.0 r.2 in
      let t = from_In-map (placed_tuple (p.is_odd_cell c.0) (p.place c.0)) (p.entry c.0) r.0 c.2 in
      record { cell = c.0; tuple = t.0; is_cell = c.1; is_tuple = t.1; to = r.1; reads = subst (Reading k z r.1) t.2 (from_turned k z r.1 r.0 r.3) }

  -- its triangle is one of the placed ones
  pub in_all : (z : ℕ) (h : Home z) → In (at p h.cell h.tuple) (placed_simplices p)
  in_all z h = In-piece p laws links h.cell h.tuple h.is_cell h.is_tuple

  -- and what has one is a spoke
  pub spoke_of : (z : ℕ) → Home z → In z (spokes_at p k)
  spoke_of z h = In-spokes k (placed_simplices p) (at p h.cell h.tuple) z h.to (in_all z h) (turned_is k z h.to h.reads (linked.distinct _ (in_all z h)))

  -- the numbers by which the triangle leaves and comes in are not the vertex
  pub not_k : (z : ℕ) (h : Home z) → (k ≢ z) × (k ≢ h.to)
  not_k z h = distinct_of k z h.to h.reads (linked.distinct _ (in_all z h))

  -- two homes that share a further vertex stand on one arc
  share_arc : (y z x : ℕ) (g : Home y) (h : Home z) → In x (at p g.cell g.tuple) → In x (at p h.cell h.tuple) → x ≢ k → OnArc p k g.cell h.cell
  share_arc y z x g h xg xh differ =
      step_on_arc p laws links g.cell h.cell g.tuple h.tuple k x g.is_cell h.is_cell g.is_tuple h.is_tuple (reading_has k y g.to g.reads).0 xg
      (reading_has k z h.to h.reads).0 xh differ

  -- equal options have the same value
  pub some_eq : (a b : ℕ) → Some a ≡ Some b → a ≡ b
  some_eq a b h = cc

  -- a step stays on its arc
  step_arc : (x y : ℕ) → step p k x ≡ Some y → (g : Home x) (h : Home y) → OnArc p k g.cell h.cell × OnArc p k h.cell g.cell
  step_arc x y e g h =
      let f = (from_next k (placed_simplices p) linked x y e).0 in
      let to_is : g.to ≡ y = some_eq g.to y (sym (out_is k (placed_simplices p) linked (at p g.cell g.tuple) x g.to (in_all x g) g.reads) ∙ f) in
      let yg : In y (at p g.cell g.tuple) = subst (λ (v : ℕ). In v (at p g.cell g.tuple)) to_is (reading_has k x g.to g.reads).2 in
      let yh : In y (at p h.cell h.tuple) = (reading_has k y h.to h.reads).1 in
      let differ : y ≢ k = λ s. (not_k y h).0 (sym s) in
      (share_arc x y y g h yg yh differ, share_arc y x y h g yh yg differ)

  -- joined spokes stand on one arc
  pub joined_arc : {a b : ℕ} → JoinedAt p k a b → (g : Home a) (h : Home b) → OnArc p k g.cell h.cell
  joined_arc (itself {x = x}) g h = share_arc x x x g h (reading_has k x g.to g.reads).1 (reading_has k x h.to h.reads).1 (λ s. (not_k x h).0 (sym s))
  joined_arc (on {x = x} {y = y} is j) g h = let m = home_of y (steps.stays x y (only x y is) is) in arc_on p k (step_arc x y is g m).0 (joined_arc j m h)
  joined_arc (back {x = x} {y = y} i is j) g h = let m = home_of y i in arc_on p k (step_arc y x is m g).1 (joined_arc j m h)

  -- spokes of one arc are joined
  pub homes_joined : (a b : ℕ) (g : Home a) (h : Home b) → OnArc p k g.cell h.cell → JoinedAt p k a b
  homes_joined a b g h arc =
      arc_joined p laws links k arc g.is_cell h.is_cell g.tuple h.tuple g.is_tuple h.is_tuple (reading_has k a g.to g.reads).0
      (reading_has k b h.to h.reads).0 a g.to b h.to g.reads h.reads

  -- each cell that has the vertex has a spoke there
  pub spoke_in : (c : ℕ) → In c p.cells → Has p c k → (z : ℕ) × (h : Home z) × (h.cell ≡ c)
  spoke_in c i has =
      let w = everywhere p laws c k i has in
      let t = from_In-map (placed_tuple (p.is_odd_cell c) (p.place c)) (p.entry c) w.0 w.1 in
      let r = reading_at p laws links c t.0 k i t.1 (subst (In k) t.2 w.2) in
      (r.0, record { cell = c; tuple = t.0; is_cell = i; is_tuple = t.1; to = r.1; reads = r.2 }, refl)

  -- and so has that of a spoke to which none leads
  pub start_free : (z : ℕ) (h : Home z) → ((u : ℕ) → In u (spokes_at p k) → step p k u ≢ Some z) → FreeAt p h.cell k
  start_free z h begins =
      alone_at p laws links h.cell h.tuple k z (leaving k z + 1) h.is_cell h.is_tuple (reading_has k z h.to h.reads).0
      (reading_has k z h.to h.reads).1 (λ s. (not_k z h).0 (sym s))
      (count_none (has_signed (leaving k z + 1) (pair k z)) (placed_simplices p) (λ v i t.
      let r = entering_reads p laws links k z v i t (not_k z h).0 in
      let e = next_is k (placed_simplices p) linked v (at p h.cell h.tuple) r.0 z h.to i (in_all z h) r.1 h.reads in
      begins r.0 (only r.0 z e) e))

  -- the cell has all numbers of the triangle
  pub all_at : (y : ℕ) (h : Home y) → Each (Has p h.cell) (at p h.cell h.tuple)
  all_at y h =
      piece_has p laws h.cell (at p h.cell h.tuple) h.is_cell
      (In-map (placed_tuple (p.is_odd_cell h.cell) (p.place h.cell)) (p.entry h.cell) h.tuple h.is_tuple)

  -- and so it has the vertex
  pub has_at : (y : ℕ) (h : Home y) → Has p h.cell k
  has_at y h = Each-In (Has p h.cell) (at p h.cell h.tuple) (all_at y h) k (reading_has k y h.to h.reads).0

  -- a spoke has one triangle
  pub one_triangle : (z : ℕ) (g h : Home z) → at p g.cell g.tuple ≡ at p h.cell h.tuple
  one_triangle z g h = one_leaves k (placed_simplices p) linked _ _ z g.to h.to (in_all z g) (in_all z h) g.reads h.reads

  -- it is of one cell alone
  pub only_cell : (z : ℕ) (h : Home z) (d : ℕ) → In d p.cells → Each (Has p d) (at p h.cell h.tuple) → d ≡ h.cell
  only_cell z h d i all =
      let b = in_one_cell p laws (at p h.cell h.tuple) (in_all z h) in
      b.only d i all ∙ sym (b.only h.cell h.is_cell (all_at z h))

  -- so all homes of a spoke are in one cell
  pub one_cell : (z : ℕ) (g h : Home z) → g.cell ≡ h.cell
  one_cell z g h = only_cell z h g.cell g.is_cell (subst (Each (Has p g.cell)) (one_triangle z g h) (all_at z g))

  -- a triangle of a cell that leaves by a spoke is a home of the spoke
  pub home_in : (c : ℕ) (w : List ℕ) (z q : ℕ) → In c p.cells → In w (piece p c) → Reading k z q w → (h : Home z) × (h.cell ≡ c) × (at p h.cell h.tuple ≡ w)
  home_in c w z q i j r =
      let t = from_In-map (placed_tuple (p.is_odd_cell c) (p.place c)) (p.entry c) w j in
      (record { cell = c; tuple = t.0; is_cell = i; is_tuple = t.1; to = q; reads = subst (Reading k z q) t.2 r }, refl, sym t.2)
