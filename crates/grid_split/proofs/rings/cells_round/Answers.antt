use Rattle.std.proofs.Common.{ℕ, List, [], ◌<◌, ◌≡◌, ◌==◌, ◌%◌, Bool, true, false, slice_index, slice_index_or, refl, subst, ap, sym, ◌∙◌, rules}
use Rattle.std.proofs.lemmas.Bool.Decides.{nat_tests}
use Rattle.std.proofs.Common.{arith, inl, inr}
use Rattle.iso_model.specs.declared.Kind.{Kind}
use Rattle.iso_model.specs.declared.Kind.TheVariants.{Cube, Simplex, Pyramid}
use Rattle.split_checks.specs.declared.rounds.Place.{Place}
use Rattle.split_checks.specs.CellsRound.{IsWay, AreRound, number_of_way}
use Rattle.split_checks.proofs.RoundsFound.{places_of, cube_table, simplex_table, pyramid_table, centre_table, pyramid_places}
use Rattle.split_laws.proofs.RoundsHold.{rounds, eight_cases, way_at}
use Rattle.grid_split.proofs.rings.cells_round.Goals as goal

-- the list of a kind
round_of : (kind one : Kind) (way : List ℕ) → IsWay kind way → kind ≡ one → AreRound kind way (places_of one way)
round_of kind one way is same = subst (λ (k : Kind). AreRound kind way (places_of k way)) same (rounds kind way is)

pub way_number-number-requires : goal.way_number-number-requires
way_number-number-requires c = way_at c.args.kind c.args.way.now c.requires.way

pub returns-in-Cube-clause-round : goal.returns-in-Cube-clause-round
returns-in-Cube-clause-round c =
    let is : AreRound c.args.kind c.args.way.now (slice_index_or cube_table c.way_number-number.result []) =
    subst (λ (n : ℕ). AreRound c.args.kind c.args.way.now (slice_index_or cube_table n [])) (sym c.way_number-number.ensures.number)
    (round_of c.args.kind Cube c.args.way.now c.requires.way c.in-Cube.is) in
    let at = λ (n : ℕ) (e : c.way_number-number.result ≡ n). subst (λ (m : ℕ). AreRound c.args.kind c.args.way.now (slice_index_or cube_table m [])) e is in
    elim (eight_cases c.way_number-number.result c.way_number-number.ensures.few) [
      | inl e ↦ rw e (at 0 e)
      | inr (inl e) ↦ rw e (at 1 e)
      | inr (inr (inl e)) ↦ rw e (at 2 e)
      | inr (inr (inr (inl e))) ↦ rw e (at 3 e)
      | inr (inr (inr (inr (inl e)))) ↦ rw e (at 4 e)
      | inr (inr (inr (inr (inr (inl e))))) ↦ rw e (at 5 e)
      | inr (inr (inr (inr (inr (inr (inl e)))))) ↦ rw e (at 6 e)
      | inr (inr (inr (inr (inr (inr (inr e)))))) ↦ rw e (at 7 e)
    ]

pub returns-in-Simplex-clause-round : goal.returns-in-Simplex-clause-round
returns-in-Simplex-clause-round c =
    let is : AreRound c.args.kind c.args.way.now (slice_index_or simplex_table c.way_number-number.result []) =
    subst (λ (n : ℕ). AreRound c.args.kind c.args.way.now (slice_index_or simplex_table n [])) (sym c.way_number-number.ensures.number)
    (round_of c.args.kind Simplex c.args.way.now c.requires.way c.in-Simplex.is) in
    let at = λ (n : ℕ) (e : c.way_number-number.result ≡ n). subst (λ (m : ℕ). AreRound c.args.kind c.args.way.now (slice_index_or simplex_table m [])) e is in
    elim (eight_cases c.way_number-number.result c.way_number-number.ensures.few) [
      | inl e ↦ rw e (at 0 e)
      | inr (inl e) ↦ rw e (at 1 e)
      | inr (inr (inl e)) ↦ rw e (at 2 e)
      | inr (inr (inr (inl e))) ↦ rw e (at 3 e)
      | inr (inr (inr (inr (inl e)))) ↦ rw e (at 4 e)
      | inr (inr (inr (inr (inr (inl e))))) ↦ rw e (at 5 e)
      | inr (inr (inr (inr (inr (inr (inl e)))))) ↦ rw e (at 6 e)
      | inr (inr (inr (inr (inr (inr (inr e)))))) ↦ rw e (at 7 e)
    ]

pub returns-in-Pyramid-clause-round : goal.returns-in-Pyramid-clause-round
returns-in-Pyramid-clause-round c =
    let between : (slice_index c.args.way.now 0 % 2 == 0) ≡ true = grind (arith, nat_tests, c.if-way-eq0.true) in
    let is : AreRound c.args.kind c.args.way.now (slice_index_or pyramid_table c.way_number-number.result []) =
    subst (λ (n : ℕ). AreRound c.args.kind c.args.way.now (slice_index_or pyramid_table n [])) (sym c.way_number-number.ensures.number)
    (subst (λ (b : Bool). AreRound c.args.kind c.args.way.now (pyramid_places b (number_of_way c.args.way.now))) between
    (round_of c.args.kind Pyramid c.args.way.now c.requires.way c.in-Pyramid.is)) in
    let at = λ (n : ℕ) (e : c.way_number-number.result ≡ n). subst (λ (m : ℕ). AreRound c.args.kind c.args.way.now (slice_index_or pyramid_table m [])) e is in
    elim (eight_cases c.way_number-number.result c.way_number-number.ensures.few) [
      | inl e ↦ rw e (at 0 e)
      | inr (inl e) ↦ rw e (at 1 e)
      | inr (inr (inl e)) ↦ rw e (at 2 e)
      | inr (inr (inr (inl e))) ↦ rw e (at 3 e)
      | inr (inr (inr (inr (inl e)))) ↦ rw e (at 4 e)
      | inr (inr (inr (inr (inr (inl e))))) ↦ rw e (at 5 e)
      | inr (inr (inr (inr (inr (inr (inl e)))))) ↦ rw e (at 6 e)
      | inr (inr (inr (inr (inr (inr (inr e)))))) ↦ rw e (at 7 e)
    ]

pub returns-in-Pyramid-2-clause-round : goal.returns-in-Pyramid-2-clause-round
returns-in-Pyramid-2-clause-round c =
    let centre : (slice_index c.args.way.now 0 % 2 == 0) ≡ false = grind (arith, nat_tests, c.if-way-eq0.false) in
    let is : AreRound c.args.kind c.args.way.now (slice_index_or centre_table c.way_number-number.result []) =
    subst (λ (n : ℕ). AreRound c.args.kind c.args.way.now (slice_index_or centre_table n [])) (sym c.way_number-number.ensures.number)
    (subst (λ (b : Bool). AreRound c.args.kind c.args.way.now (pyramid_places b (number_of_way c.args.way.now))) centre
    (round_of c.args.kind Pyramid c.args.way.now c.requires.way c.in-Pyramid.is)) in
    let at = λ (n : ℕ) (e : c.way_number-number.result ≡ n). subst (λ (m : ℕ). AreRound c.args.kind c.args.way.now (slice_index_or centre_table m [])) e is in
    elim (eight_cases c.way_number-number.result c.way_number-number.ensures.few) [
      | inl e ↦ rw e (at 0 e)
      | inr (inl e) ↦ rw e (at 1 e)
      | inr (inr (inl e)) ↦ rw e (at 2 e)
      | inr (inr (inr (inl e))) ↦ rw e (at 3 e)
      | inr (inr (inr (inr (inl e)))) ↦ rw e (at 4 e)
      | inr (inr (inr (inr (inr (inl e))))) ↦ rw e (at 5 e)
      | inr (inr (inr (inr (inr (inr (inl e)))))) ↦ rw e (at 6 e)
      | inr (inr (inr (inr (inr (inr (inr e)))))) ↦ rw e (at 7 e)
    ]
