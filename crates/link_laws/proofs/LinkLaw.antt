-- The link law: the triangles at a vertex form one cycle, or one path for each arc of kept cells.
use Rattle.std.proofs.Common.{◌≡◌, ℕ, ◌≤◌, [], ◌∷◌, length, Some, None, refl, sym, ◌∙◌, subst, arith, inl, inr}
use Rattle.std.specs.Prelude.{◌≢◌, nat_eq}
use Rattle.std.proofs.lemmas.Bool.{cases_eq}
use Rattle.std.proofs.lemmas.Bool.Decides.{nat_tests}
use Rattle.glue_laws.proofs.Pieces.{Pieces, Has, placed_simplices, Laws}
use Rattle.link_laws.proofs.Readings.{Reading, from_turned}
use Rattle.link_laws.proofs.Links.{from_next, from_out, out_is}
use Rattle.link_laws.proofs.Walks.{Walk, outcome, FromStart, walk, meets_joined, all_before, all_after, come_from, start_in, no_longer, the_other_way}
use Rattle.link_laws.proofs.Walks.{member_joined}
use Rattle.link_laws.proofs.Arcs.{LinkLaws, OnArc, step, spokes_at, FreeAt, arc_on, at_free}
use Rattle.link_laws.proofs.Homes.{linked, steps, only, Home, home_of, spoke_of, in_all, some_eq, joined_arc, homes_joined, spoke_in, start_free}
use Rattle.link_laws.proofs.Homes.{has_at, one_cell}
use Rattle.lists.specs.Members.{In, Distinct}
use Rattle.lists.proofs.Sorting.{bit, count_by-cons}

-- the ring law, as kept cells have it
pub record RingLaws (p : Pieces) : Type 0 where
  -- an arc with no free facet at the vertex is all the cells there
  pub one_ring : (k c d : ℕ) → In c p.cells → In d p.cells → Has p c k → Has p d k → ((m : ℕ) → In m p.cells → OnArc p k c m → ¬ FreeAt p m k) → OnArc p k c d
  -- and where no cell has a free facet there, there are three of them
  pub three_cells : (k c : ℕ) → In c p.cells → Has p c k → ((m : ℕ) → In m p.cells → ¬ FreeAt p m k) →
      (d : ℕ) × (e : ℕ) × In d p.cells × In e p.cells × Has p d k × Has p e k × (c ≢ d) × (c ≢ e) × (d ≢ e)

-- three numbers that differ
three_apart : (a b c : ℕ) → a ≢ b → a ≢ c → b ≢ c → Distinct (a ∷ b ∷ c ∷ [])
three_apart a b c h j l =
    let x : bit (nat_eq a b) ≡ 0 = grind (arith, nat_tests) in
    let y : bit (nat_eq a c) ≡ 0 = grind (arith, nat_tests) in
    let z : bit (nat_eq b c) ≡ 0 = grind (arith, nat_tests) in
    (omega (arith, x, y, count_by-cons (nat_eq a) b (c ∷ []), count_by-cons (nat_eq a) c []), (omega (arith, z, count_by-cons (nat_eq b) c []), (refl, tt)))

-- what holds of three numbers holds of each of them
among : (D : ℕ → Type 0) (a b c x : ℕ) → D a → D b → D c → In x (a ∷ b ∷ c ∷ []) → D x
among D a b c x da db dc (inl e) = subst D (sym e) da
among D a b c x da db dc (inr (inl e)) = subst D (sym e) db
among D a b c x da db dc (inr (inr (inl e))) = subst D (sym e) dc
among D a b c x da db dc (inr (inr (inr n))) = absurd n

module _ (p : Pieces) (laws : Laws p) (links : LinkLaws p) (k : ℕ) where
  -- a walk along the spokes at the vertex
  abbrev WalkFrom : ℕ → Type 0
  WalkFrom s = Walk (step p k) (spokes_at p k) s

  -- two homes in different cells are of different spokes
  apart_homes : (z y : ℕ) (g : Home p laws links k z) (h : Home p laws links k y) → g.cell ≢ h.cell → z ≢ y
  apart_homes z y g h differ e =
      subst (λ (v : ℕ). (i : Home p laws links k v) → g.cell ≢ i.cell → ⊥) e (λ i apart. apart (one_cell p laws links k z g i)) h differ

  -- a walk that comes back meets all spokes of its arc
  meets : (y : ℕ) (g : Home p laws links k y) (w : WalkFrom y) → step p k w.newest ≡ Some y → (z : ℕ) (h : Home p laws links k z)
      → OnArc p k g.cell h.cell → In z (w.newest ∷ w.earlier)
  meets y g w came z h arc =
      meets_joined (step p k) (spokes_at p k) (steps p laws links k) y w (inr came) (homes_joined p laws links k y z g h arc)
      (start_in (step p k) y w.newest w.earlier w.chain)

  -- no cell on the arc of a walk that comes back has a free facet at the vertex
  no_free_on_cycle : (y : ℕ) (g : Home p laws links k y) (w : WalkFrom y) → step p k w.newest ≡ Some y → (m : ℕ) → In m p.cells → OnArc p k g.cell m
      → ¬ FreeAt p m k
  no_free_on_cycle y g w came m im arc free =
      let q = at_free p laws links m k im free in
      let h : Home p laws links k q.leaves_by = record { cell = m; tuple = q.tuple; is_cell = im; is_tuple = q.is_tuple; to = q.enters_by; reads = q.reads } in
      let met : In q.leaves_by (w.newest ∷ w.earlier) = meets y g w came q.leaves_by h arc in
      elim q.alone [
        | inl never ↦ (let b = all_before (step p k) (spokes_at p k) (steps p laws links k) (only p laws links k) y w came q.leaves_by met in
            let v = from_out k (placed_simplices p) b.0 q.leaves_by (from_next k (placed_simplices p) (linked p laws links k) b.0 q.leaves_by b.2).0 in
            never v.0 b.0 v.1 (from_turned k b.0 q.leaves_by v.0 v.2))
        | inr never ↦ (let a = all_after (step p k) (spokes_at p k) (steps p laws links k) (only p laws links k) y w came q.leaves_by met in
            let f = from_next k (placed_simplices p) (linked p laws links k) q.leaves_by a.0 a.1 in
            let own = out_is k (placed_simplices p) (linked p laws links k) _ q.leaves_by q.enters_by (in_all p laws links k q.leaves_by h) q.reads in
            let to_is : q.enters_by ≡ a.0 = some_eq p laws links k q.enters_by a.0 (sym own ∙ f.0) in
            let v = from_out k (placed_simplices p) a.0 f.1.0 f.1.1 in
            never v.0 f.1.0 v.1 (subst (λ (z : ℕ). Reading k z f.1.0 v.0) (sym to_is) (from_turned k a.0 f.1.0 v.0 v.2)))
      ]

  -- one cycle from the spoke s: a walk that comes back, meets all spokes at the vertex, and is of three at least
  pub record IsCycle (s : ℕ) : Type 0 where
    pub round : Walk (step p k) (spokes_at p k) s
    pub closes : step p k round.newest ≡ Some s
    pub meets_all : (z : ℕ) → In z (spokes_at p k) → In z (round.newest ∷ round.earlier)
    pub three : 3 ≤ length (round.newest ∷ round.earlier)

  -- one path on the arc of the cell c: one spoke on it to which none leads, and a walk from there that ends, and meets the spokes on the arc and no other
  pub record IsPath (c : ℕ) : Type 0 where
    pub start : ℕ
    pub home : Home p laws links k start
    pub on_arc : OnArc p k c home.cell
    pub begins : (u : ℕ) → In u (spokes_at p k) → step p k u ≢ Some start
    pub one_start : (z : ℕ) (h : Home p laws links k z) → OnArc p k c h.cell → ((u : ℕ) → In u (spokes_at p k) → step p k u ≢ Some z) → z ≡ start
    pub path : Walk (step p k) (spokes_at p k) start
    pub ends : step p k path.newest ≡ None
    pub meets_arc : (z : ℕ) (h : Home p laws links k z) → OnArc p k c h.cell → In z (path.newest ∷ path.earlier)
    pub meets_only : (z : ℕ) (h : Home p laws links k z) → In z (path.newest ∷ path.earlier) → OnArc p k c h.cell

  module _ (ring : RingLaws p) where
    -- where no cell has a free facet at the vertex
    module _ (closed : (m : ℕ) → In m p.cells → ¬ FreeAt p m k) (s : ℕ) (i : In s (spokes_at p k)) where
      home : Home p laws links k s
      home = home_of p laws links k s i

      meets_each : (w : WalkFrom s) → step p k w.newest ≡ Some s → (z : ℕ) → In z (spokes_at p k) → In z (w.newest ∷ w.earlier)
      meets_each w came z j =
          let h = home_of p laws links k z j in
          meets s home w came z h
          (ring.one_ring k home.cell h.cell home.is_cell h.is_cell (has_at p laws links k s home) (has_at p laws links k z h)
          (λ m im arc. closed m im))

      long : (w : WalkFrom s) → step p k w.newest ≡ Some s → 3 ≤ length (w.newest ∷ w.earlier)
      long w came =
          let r = ring.three_cells k home.cell home.is_cell (has_at p laws links k s home) closed in
          let y = spoke_in p laws links k r.0 r.2 r.4 in
          let z = spoke_in p laws links k r.1 r.3 r.5 in
          let a : s ≢ y.0 = apart_homes s y.0 home y.1 (λ e. r.6 (e ∙ y.2)) in
          let b : s ≢ z.0 = apart_homes s z.0 home z.1 (λ e. r.7 (e ∙ z.2)) in
          let c : y.0 ≢ z.0 = apart_homes y.0 z.0 y.1 z.1 (λ e. r.8 (sym y.2 ∙ e ∙ z.2)) in
          let met = meets_each w came in
          no_longer (s ∷ y.0 ∷ z.0 ∷ []) (w.newest ∷ w.earlier) (three_apart s y.0 z.0 a b c)
          (λ x j.
          among (λ v. In v (w.newest ∷ w.earlier)) s y.0 z.0 x (met s i) (met y.0 (spoke_of p laws links k y.0 y.1))
          (met z.0 (spoke_of p laws links k z.0 z.1)) j)

      -- its triangles form one cycle
      pub cycle_law : IsCycle s
      cycle_law = elim (outcome (step p k) (spokes_at p k) (steps p laws links k) (only p laws links k) s i) [
        | inr f ↦ (let h = home_of p laws links k f.start f.is_member in absurd (closed h.cell h.is_cell (start_free p laws links k f.start h f.begins)))
        | inl w ↦ record { round = w.0; closes = w.1; meets_all = meets_each w.0 w.1; three = long w.0 w.1 }
      ]

    -- where some cell has a free facet at the vertex
    module _ (free_cell : ℕ) (is_kept : In free_cell p.cells) (free : FreeAt p free_cell k) (c : ℕ) (i : In c p.cells) (has : Has p c k) where
      comes_not_back : (y : ℕ) (h : Home p laws links k y) → h.cell ≡ c → (w : WalkFrom y) → step p k w.newest ≡ Some y → ⊥
      comes_not_back y h is w came =
          let none : (m : ℕ) → In m p.cells → OnArc p k c m → ¬ FreeAt p m k =
          λ m im arc. no_free_on_cycle y h w came m im (subst (λ (v : ℕ). OnArc p k v m) (sym is) arc) in
          none free_cell is_kept (ring.one_ring k c free_cell i is_kept has (free.3.0, free.3.1, free.3.3) none) free

      from_start : (y : ℕ) (h : Home p laws links k y) → h.cell ≡ c
          → FromStart (step p k) (spokes_at p k) (steps p laws links k) (only p laws links k) y → IsPath c
      from_start y h is f =
          let g = home_of p laws links k f.start f.is_member in
          let back_again = the_other_way (step p k) (spokes_at p k) (steps p laws links k) (only p laws links k) f.reaches in
          let c_to_s : OnArc p k c g.cell = subst (λ (v : ℕ). OnArc p k v g.cell) is (joined_arc p laws links k back_again h g) in
          let s_to_c : OnArc p k g.cell c = subst (λ (v : ℕ). OnArc p k g.cell v) is (joined_arc p laws links k f.reaches g h) in
          let w = walk (step p k) (spokes_at p k) (steps p laws links k) f.start f.is_member in
          let met : (z : ℕ) (j : Home p laws links k z) → OnArc p k c j.cell → In z (w.newest ∷ w.earlier) = λ z j arc.
          meets_joined (step p k) (spokes_at p k) (steps p laws links k) f.start w (inl f.begins)
          (homes_joined p laws links k f.start z g j (arc_on p k s_to_c arc))
          (start_in (step p k) f.start w.newest w.earlier w.chain) in
          record {
            start = f.start;
            home = g;
            on_arc = c_to_s;
            begins = f.begins;
            one_start = λ z j arc fresh. elim (cases_eq z f.start) [
              | inl e ↦ e
              | inr differ ↦
                  (let r = come_from (step p k) f.start w.newest w.earlier w.chain z (met z j arc) differ in
                  absurd (fresh r.0 (w.inside r.0 (inr r.1)) r.2))
            ];
            path = w;
            ends = elim w.ends [ inl none ↦ none | inr came ↦ absurd (f.begins w.newest (w.inside w.newest (inl refl)) came) ];
            meets_arc = met;
            meets_only = λ z j met_there.
                let along =
                member_joined (step p k) (spokes_at p k) (steps p laws links k) (only p laws links k) f.start w.newest w.earlier w.chain z
                met_there in
                arc_on p k c_to_s (joined_arc p laws links k along g j);
          }

      -- the triangles on the arc of each cell there form one path
      pub path_law : IsPath c
      path_law =
          let y = spoke_in p laws links k c i has in
          elim (outcome (step p k) (spokes_at p k) (steps p laws links k) (only p laws links k) y.0 (spoke_of p laws links k y.0 y.1)) [
            | inl w ↦ absurd (comes_not_back y.0 y.1 y.2 w.0 w.1)
            | inr f ↦ from_start y.0 y.1 y.2 f
          ]
