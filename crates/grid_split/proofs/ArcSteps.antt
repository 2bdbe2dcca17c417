-- Steps along the places of an arc, and which cubes of a grid are there.
use Rattle.std.proofs.Common.{◌≡◌, ℕ, zero, suc, ◌+◌, ◌-◌, ◌*◌, ◌<◌, ◌≤◌, Bool, true, false, not, ◌&&◌, List, [], ◌∷◌, ◌++◌, length}
use Rattle.std.proofs.Common.{refl, ap, sym, ◌∙◌, subst, arith, inl, inr, if◌then◌else◌}
use Rattle.std.specs.Prelude.{◌==◌, ◌⊎◌, ◌/◌, ◌%◌, ⊤, nat_le, filter, slice_index, slice_index_or}
use Rattle.std.specs.List.{list_all}
use Rattle.std.proofs.lemmas.Bool.{and_from, and_left, and_right}
use Rattle.std.proofs.lemmas.Bool.Decides.{nat_tests}
use Rattle.iso_model.specs.declared.Kind.{Kind}
use Rattle.std.proofs.lemmas.Nat.{div-mul-add, mod-mul-add, mul-add-lt}
use Rattle.std.proofs.Math.Nat.{mul_comm}
use Rattle.iso_model.specs.Splits.{cell_count, cells_per_cube, cube_at, cube_count, cube_of}
use Rattle.lists.specs.Members.{In}
use Rattle.split_laws.proofs.Coordinates.{cube_below, cube_in}
use Rattle.split_checks.specs.declared.rounds.Place.{Place}
use Rattle.split_checks.specs.CellsRound.{stands, before_gap, after_gap}
use Rattle.split_laws.specs.RoundEdges.{StandsAt, side_at, sides_at, AreAt}
use Rattle.split_laws.proofs.PlacesThere.{all_there, cube_there, stands_in}

module _ (kind : Kind) (sizes cube : List ℕ) where
  pub at_push : (places : List Place) (cells : List ℕ) (p : Place) (c : ℕ) → AreAt kind sizes cube places cells → StandsAt kind sizes cube p c
      → AreAt kind sizes cube (places ++ p ∷ []) (cells ++ c ∷ [])
  at_push [] [] p c all at = (at, tt)
  at_push [] (d ∷ cells) p c all at = absurd all
  at_push (q ∷ places) [] p c all at = absurd all
  at_push (q ∷ places) (d ∷ cells) p c all at = (all.0, at_push places cells p c all.1 at)

  pub at_join : (places more : List Place) (cells further : List ℕ) → AreAt kind sizes cube places cells → AreAt kind sizes cube more further
      → AreAt kind sizes cube (places ++ more) (cells ++ further)
  at_join [] more [] further all rest = rest
  at_join [] more (d ∷ cells) further all rest = absurd all
  at_join (q ∷ places) more [] further all rest = absurd all
  at_join (q ∷ places) more (d ∷ cells) further all rest = (all.0, at_join places more cells further all.1 rest)

-- ---- one place more

module _ (sides : List (Bool × Bool)) where
  abbrev there : Place → Bool
  there p = stands sides p.back

  pub all_push : (ps : List Place) (p : Place) → list_all (λ (q : Place). stands sides q.back) (ps ++ p ∷ [])
      ≡ (list_all (λ (q : Place). stands sides q.back) ps && stands sides p.back)
  all_push [] p = one (stands sides p.back)
    where
      one : (b : Bool) → (b && true) ≡ b
      one true = refl
      one false = refl
  all_push (q ∷ ps) p = ap (λ (b : Bool). stands sides q.back && b) (all_push ps p) ∙ joined (stands sides q.back)
    where
      joined : (a : Bool) → (a && (list_all (λ (x : Place). stands sides x.back) ps && stands sides p.back))
          ≡ ((a && list_all (λ (x : Place). stands sides x.back) ps) && stands sides p.back)
      joined true = refl
      joined false = refl

  before_case : (q p : Place) (xs ys : List Place) (b a t : Bool) → xs ≡ (if a && t then ys ++ p ∷ [] else ys)
      → (if b then q ∷ xs else []) ≡ (if (b && a) && t then (if b then q ∷ ys else []) ++ p ∷ [] else (if b then q ∷ ys else []))
  before_case q p xs ys true true true h = ap (λ (l : List Place). q ∷ l) h
  before_case q p xs ys true true false h = ap (λ (l : List Place). q ∷ l) h
  before_case q p xs ys true false t h = ap (λ (l : List Place). q ∷ l) h
  before_case q p xs ys false a t h = refl

  pub before_push : (ps : List Place) (p : Place) → before_gap sides (ps ++ p ∷ [])
      ≡ (if list_all (λ (q : Place). stands sides q.back) ps && stands sides p.back then before_gap sides ps ++ p ∷ [] else before_gap sides ps)
  before_push [] p = refl
  before_push (q ∷ ps) p =
      before_case q p (before_gap sides (ps ++ p ∷ [])) (before_gap sides ps) (stands sides q.back)
      (list_all (λ (x : Place). stands sides x.back) ps) (stands sides p.back) (before_push ps p)

  filter_case : (q p : Place) (xs ys : List Place) (b t : Bool) → xs ≡ (if t then ys ++ p ∷ [] else ys)
      → (if b then q ∷ xs else xs) ≡ (if t then (if b then q ∷ ys else ys) ++ p ∷ [] else (if b then q ∷ ys else ys))
  filter_case q p xs ys true true h = ap (λ (l : List Place). q ∷ l) h
  filter_case q p xs ys true false h = ap (λ (l : List Place). q ∷ l) h
  filter_case q p xs ys false t h = h

  filter_push : (ps : List Place) (p : Place) → filter (λ (q : Place). stands sides q.back) (ps ++ p ∷ [])
      ≡ (if stands sides p.back then filter (λ (q : Place). stands sides q.back) ps ++ p ∷ [] else filter (λ (q : Place). stands sides q.back) ps)
  filter_push [] p = refl
  filter_push (q ∷ ps) p =
      filter_case q p (filter (λ (x : Place). stands sides x.back) (ps ++ p ∷ [])) (filter (λ (x : Place). stands sides x.back) ps)
      (stands sides q.back) (stands sides p.back) (filter_push ps p)

  after_case : (p : Place) (xs ys fs gs : List Place) (b a t : Bool) → xs ≡ (if not a && t then ys ++ p ∷ [] else ys)
      → fs ≡ (if t then gs ++ p ∷ [] else gs)
      → (if b then xs else fs) ≡ (if not (b && a) && t then (if b then ys else gs) ++ p ∷ [] else (if b then ys else gs))
  after_case p xs ys fs gs true a t h k = h
  after_case p xs ys fs gs false a t h k = k

  after_first : (ps : List Place) (b : Bool) → (if b then ps else ps) ≡ ps
  after_first ps true = refl
  after_first ps false = refl

  pub after_push : (ps : List Place) (p : Place) → after_gap sides (ps ++ p ∷ [])
      ≡ (if not (list_all (λ (q : Place). stands sides q.back) ps) && stands sides p.back then after_gap sides ps ++ p ∷ [] else after_gap sides ps)
  after_push [] p = after_first [] (stands sides p.back)
  after_push (q ∷ ps) p =
      after_case p (after_gap sides (ps ++ p ∷ [])) (after_gap sides ps) (filter (λ (x : Place). stands sides x.back) (ps ++ p ∷ []))
      (filter (λ (x : Place). stands sides x.back) ps) (stands sides q.back) (list_all (λ (x : Place). stands sides x.back) ps)
      (stands sides p.back) (after_push ps p) (filter_push ps p)

-- ---- cubes that are there

module _ (sizes cube : List ℕ) where
  there_list : (back : List ℕ) → length back ≡ 3
      → ((i : ℕ) → i < 3 → stands_in (slice_index sizes i) (slice_index cube i) (slice_index back i) ≡ true) → stands (sides_at sizes cube) back ≡ true
  there_list [] long each = absurd (omega (arith, long))
  there_list (a ∷ []) long each = absurd (omega (arith, long))
  there_list (a ∷ b ∷ []) long each = absurd (omega (arith, long))
  there_list (a ∷ b ∷ c ∷ d ∷ back) long each = absurd (omega (arith, long))
  there_list (a ∷ b ∷ c ∷ []) long each =
      all_there (stands_in (slice_index sizes 0) (slice_index cube 0) a) (stands_in (slice_index sizes 1) (slice_index cube 1) b)
      (stands_in (slice_index sizes 2) (slice_index cube 2) c) (each 0 (omega arith)) (each 1 (omega arith)) (each 2 (omega arith))

  pub there_in : (kind : Kind) (p : Place) (c : ℕ) → length sizes ≡ 3 → length p.back ≡ 3 → ((i : ℕ) → i < 3 → slice_index p.back i ≤ 1)
      → StandsAt kind sizes cube p c → stands (sides_at sizes cube) p.back ≡ true
  there_in kind p c axes long small at =
      there_list p.back long (λ i hi.
      cube_there (slice_index sizes i) (slice_index cube i) (slice_index (cube_of kind sizes c) i) (slice_index p.back i) (at.cubes i hi) (small i hi)
      (cube_below sizes (c / cells_per_cube kind (length sizes)) (cube_in kind sizes c at.is_cell) i (omega (arith, hi, axes))))

-- ---- the cells met so far

pub record Progress (kind : Kind) (sizes cube : List ℕ) (ps : List Place) (before cells : List ℕ) (closed : Bool) : Type 0 where
  pub before_is : AreAt kind sizes cube (before_gap (sides_at sizes cube) ps) before
  pub cells_are : AreAt kind sizes cube (after_gap (sides_at sizes cube) ps) cells
  pub closed_is : closed ≡ list_all (λ (p : Place). stands (sides_at sizes cube) p.back) ps

module _ (kind : Kind) (sizes cube : List ℕ) (ps : List Place) (p : Place) (before cells : List ℕ) where
  abbrev sides : List (Bool × Bool)
  sides = sides_at sizes cube

  abbrev all : Bool
  all = list_all (λ (q : Place). stands (sides_at sizes cube) q.back) ps

  -- before the first gap
  pub step_before : (c : ℕ) → Progress kind sizes cube ps before cells true → stands (sides_at sizes cube) p.back ≡ true → StandsAt kind sizes cube p c
      → Progress kind sizes cube (ps ++ p ∷ []) (before ++ c ∷ []) cells true
  step_before c done there at =
      let whole : (all && stands sides p.back) ≡ true = and_from all (stands sides p.back) (sym done.closed_is) there in
      let none : (not all && stands sides p.back) ≡ false = and_left (not all) (stands sides p.back) (ap not (sym done.closed_is)) in
      record {
        before_is =
            subst (λ (xs : List Place). AreAt kind sizes cube xs (before ++ c ∷ []))
            (sym (before_push sides ps p ∙ ap (λ (t : Bool). if t then before_gap sides ps ++ p ∷ [] else before_gap sides ps) whole))
            (at_push kind sizes cube (before_gap sides ps) before p c done.before_is at);
        cells_are =
            subst (λ (xs : List Place). AreAt kind sizes cube xs cells)
            (sym (after_push sides ps p ∙ ap (λ (t : Bool). if t then after_gap sides ps ++ p ∷ [] else after_gap sides ps) none)) done.cells_are;
        closed_is = sym (all_push sides ps p ∙ whole);
      }

  -- behind it
  pub step_after : (c : ℕ) → Progress kind sizes cube ps before cells false → stands (sides_at sizes cube) p.back ≡ true → StandsAt kind sizes cube p c
      → Progress kind sizes cube (ps ++ p ∷ []) before (cells ++ c ∷ []) false
  step_after c done there at =
      let gone : (all && stands sides p.back) ≡ false = and_left all (stands sides p.back) (sym done.closed_is) in
      let more : (not all && stands sides p.back) ≡ true = and_from (not all) (stands sides p.back) (ap not (sym done.closed_is)) there in
      record {
        before_is =
            subst (λ (xs : List Place). AreAt kind sizes cube xs before)
            (sym (before_push sides ps p ∙ ap (λ (t : Bool). if t then before_gap sides ps ++ p ∷ [] else before_gap sides ps) gone)) done.before_is;
        cells_are =
            subst (λ (xs : List Place). AreAt kind sizes cube xs (cells ++ c ∷ []))
            (sym (after_push sides ps p ∙ ap (λ (t : Bool). if t then after_gap sides ps ++ p ∷ [] else after_gap sides ps) more))
            (at_push kind sizes cube (after_gap sides ps) cells p c done.cells_are at);
        closed_is = sym (all_push sides ps p ∙ gone);
      }

  -- at a gap
  pub step_gap : (closed : Bool) → Progress kind sizes cube ps before cells closed → stands (sides_at sizes cube) p.back ≡ false
      → Progress kind sizes cube (ps ++ p ∷ []) before cells false
  step_gap closed done out =
      let gone : (all && stands sides p.back) ≡ false = and_right all (stands sides p.back) out in
      let none : (not all && stands sides p.back) ≡ false = and_right (not all) (stands sides p.back) out in
      record {
        before_is =
            subst (λ (xs : List Place). AreAt kind sizes cube xs before)
            (sym (before_push sides ps p ∙ ap (λ (t : Bool). if t then before_gap sides ps ++ p ∷ [] else before_gap sides ps) gone)) done.before_is;
        cells_are =
            subst (λ (xs : List Place). AreAt kind sizes cube xs cells)
            (sym (after_push sides ps p ∙ ap (λ (t : Bool). if t then after_gap sides ps ++ p ∷ [] else after_gap sides ps) none)) done.cells_are;
        closed_is = sym (all_push sides ps p ∙ gone);
      }
