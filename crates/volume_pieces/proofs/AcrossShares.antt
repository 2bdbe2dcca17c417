-- The share law of the pieces: bipolar edges of a cell that another cell has too lie in a facet; where it is the only one, the other cell is found across it.
use Rattle.std.proofs.Common.{◌≡◌, ℕ, ◌<◌, Bool, true, false, cond, List, [], ◌∷◌, length, Some, refl, ap, sym, ◌∙◌, arith, inl, inr}
use Rattle.std.specs.Prelude.{◌≢◌, nat_lt, filter, IsTrue}
use Rattle.std.specs.List.{list_all}
use Rattle.lists.specs.Orders.{numbers}
use Rattle.iso_model.specs.Cells.{edge_count, facet_count, edge_in_facet, facets_with}
use Rattle.iso_model.specs.Splits.{edge}
use Rattle.iso_model.specs.Neighbours.{HasEdge, IsNeighbour, AreShared}
use Rattle.iso_model.specs.Values.{Volume, cells, IsRegularVolume}
use Rattle.iso_model.specs.Bipolar.{is_bipolar, bipolar_edge}
use Rattle.iso_model.specs.Tables.{Table}
use Rattle.glue_laws.proofs.Pieces.{AllBipolar, AllIn, Has}
use Rattle.split_laws.proofs.SplitTheorems.{shares}
use Rattle.volume_pieces.proofs.PiecesOf.{across_of, pieces_of}
use Rattle.volume_pieces.proofs.AcrossStands.{volume_dimension, below_cells, meets_is_across}
use Rattle.lists.specs.Members.{In, Each, Ascends}
use Rattle.lists.proofs.Tests.{lt_of, and_left}
use Rattle.lists.proofs.Contained.{each-from_All}
use Rattle.lists.proofs.MemberLaws.{all_In, all_from, In-numbers, from_In-numbers, All-from_In, Contains_from, Each-In, Each-from_In}
use Rattle.lists.proofs.Ascending.{Ascends-range}

-- ---- the only member that passes

filter_none_case : (p : ℕ → Bool) (x : ℕ) (xs : List ℕ) → (p x ≡ true → ⊥) → filter p xs ≡ [] → (b : Bool) → p x ≡ b
    → cond b (x ∷ filter p xs) (filter p xs) ≡ []
filter_none_case p x xs fails later true is = absurd (fails is)
filter_none_case p x xs fails later false is = later

filter_none : (p : ℕ → Bool) (xs : List ℕ) → ((x : ℕ) → In x xs → p x ≡ true → ⊥) → filter p xs ≡ []
filter_none p [] fails = refl
filter_none p (x ∷ xs) fails = filter_none_case p x xs (fails x (inl refl)) (filter_none p xs (λ y i. fails y (inr i))) (p x) refl

filter_only_case : (p : ℕ → Bool) (f x : ℕ) (xs : List ℕ) → ((y : ℕ) → In y xs → x < y) → In f (x ∷ xs) → p f ≡ true
    → ((g : ℕ) → In g (x ∷ xs) → p g ≡ true → g ≡ f) → (In f xs → filter p xs ≡ f ∷ []) →
    (b : Bool) → p x ≡ b → cond b (x ∷ filter p xs) (filter p xs) ≡ f ∷ []
filter_only_case p f x xs above i passes only later true is =
    let same : x ≡ f = only x (inl refl) is in
    let rest : filter p xs ≡ [] = filter_none p xs (λ y j h. let e = only y (inr j) h in omega (arith, above y j, e, same)) in
    rw (same, rest) refl
filter_only_case p f x xs above (inl e) passes only later false is = let clash : true ≡ false = sym passes ∙ ap p e ∙ is in absurd (cc)
filter_only_case p f x xs above (inr i) passes only later false is = later i

filter_only : (p : ℕ → Bool) (f : ℕ) (xs : List ℕ) → Ascends xs → In f xs → p f ≡ true → ((g : ℕ) → In g xs → p g ≡ true → g ≡ f) → filter p xs ≡ f ∷ []
filter_only p f [] up i passes only = absurd i
filter_only p f (x ∷ xs) up i passes only =
    filter_only_case p f x xs up.0 i passes only (λ j. filter_only p f xs up.1 j passes (λ g k h. only g (inr k) h)) (p x) refl

-- a bipolar edge of a kept cell stands in the list at its place
abbrev pub PlacesHaveEdges : Volume → Table → Type 0
PlacesHaveEdges v t = (c e : ℕ) → In c (cells v) → (pieces_of v t).is_bipolar c e ≡ true → bipolar_edge v ((pieces_of v t).place c e) ≡ edge v.kind v.sizes c e

module _ (v : Volume) (t : Table) (regular : IsRegularVolume v) (places : PlacesHaveEdges v t) where
  abbrev facet_limit : ℕ
  facet_limit = facet_count v.kind (length v.sizes)

  below_edges : (c e : ℕ) → (pieces_of v t).is_bipolar c e ≡ true → e < edge_count v.kind (length v.sizes)
  below_edges c e bipolar =
      lt_of e (edge_count v.kind (length v.sizes))
      (and_left (nat_lt e (edge_count v.kind (length v.sizes))) (is_bipolar v (edge v.kind v.sizes c e)) bipolar)

  -- a cell with an edge at the place of a bipolar edge has this edge
  pub has_same_edge : (c d e : ℕ) → In c (cells v) → In d (cells v) → (pieces_of v t).is_bipolar c e ≡ true
      → Has (pieces_of v t) d ((pieces_of v t).place c e) → HasEdge v.kind v.sizes d (edge v.kind v.sizes c e)
  has_same_edge c d e is_cell is_other bipolar has =
      (has.0, below_edges d has.0 has.1, sym (places d has.0 is_other has.1) ∙ ap (bipolar_edge v) has.2 ∙ places c e is_cell bipolar)

  module _ (c d : ℕ) (es : List ℕ) (is_cell : In c (cells v)) (is_other : In d (cells v)) (differ : c ≢ d) (bipolar : AllBipolar (pieces_of v t) c es)
      (has : Each (λ e. Has (pieces_of v t) d ((pieces_of v t).place c e)) es) where
    shared : AreShared v.kind v.sizes c d es
    shared =
        shares v.kind v.sizes (volume_dimension v regular) regular.fits c d es (below_cells v regular c is_cell) (below_cells v regular d is_other) differ
        (All-from_In (λ e. (e < edge_count v.kind (length v.sizes)) × HasEdge v.kind v.sizes d (edge v.kind v.sizes c e)) es (λ e i.
        let b = Each-In (λ x. (pieces_of v t).is_bipolar c x ≡ true) es bipolar e i in
        (below_edges c e b, has_same_edge c d e is_cell is_other b (Each-In (λ x. Has (pieces_of v t) d ((pieces_of v t).place c x)) es has e i))))

    all_here : AllIn (pieces_of v t) shared.here.0 es
    all_here =
        Each-from_In (λ e. (pieces_of v t).in_facet shared.here.0 e ≡ true) es
        (λ e i. each-from_All (λ x. IsTrue (edge_in_facet v.kind (length v.sizes) shared.here.0 x)) es shared.here.2 e (Contains_from es e i))

    abbrev lies_in : ℕ → Bool
    lies_in g = list_all (edge_in_facet v.kind (length v.sizes) g) es

    -- the only facet that has them all
    listed_alone : ((g : ℕ) → g < facet_limit → AllIn (pieces_of v t) g es → g ≡ shared.here.0) → facets_with v.kind (length v.sizes) es ≡ shared.here.0 ∷ []
    listed_alone only =
        filter_only lies_in shared.here.0 (numbers facet_limit) (Ascends-range 0 facet_limit) (In-numbers facet_limit shared.here.0 shared.here.1)
        (all_from (edge_in_facet v.kind (length v.sizes) shared.here.0) es
        (λ e i. Each-In (λ x. (pieces_of v t).in_facet shared.here.0 x ≡ true) es all_here e i))
        (λ g i h.
        only g (from_In-numbers facet_limit g i)
        (Each-from_In (λ e. (pieces_of v t).in_facet g e ≡ true) es (λ e j. all_In (edge_in_facet v.kind (length v.sizes) g) es h e j)))

    from_neighbour : IsNeighbour v.kind v.sizes c shared.here.0 d → (g : ℕ) × (across_of v c shared.here.0 ≡ Some (d, g))
    from_neighbour n = (
      n.2.0,
      meets_is_across v regular c shared.here.0 is_cell shared.here.1 d n.2.0
          (record { is_cell = is_other; is_facet = n.2.1; differs = differ; same = n.2.2 }),
    )

  pub shared_edges : (c d : ℕ) (es : List ℕ) → In c (pieces_of v t).cells → In d (pieces_of v t).cells → c ≢ d → AllBipolar (pieces_of v t) c es
      → Each (λ e. Has (pieces_of v t) d ((pieces_of v t).place c e)) es →
      (f : ℕ) × (f < (pieces_of v t).facets) × AllIn (pieces_of v t) f es
      × (((g : ℕ) → g < (pieces_of v t).facets → AllIn (pieces_of v t) g es → g ≡ f) → (g : ℕ) × ((pieces_of v t).across c f ≡ Some (d, g)))
  shared_edges c d es is_cell is_other differ bipolar has =
      let law = shared c d es is_cell is_other differ bipolar has in (
        law.here.0,
        law.here.1,
        all_here c d es is_cell is_other differ bipolar has,
        λ only.
            from_neighbour c d es is_cell is_other differ bipolar has
            (law.across law.here.0 (listed_alone c d es is_cell is_other differ bipolar has only)),
      )
