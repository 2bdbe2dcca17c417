-- Which cubes of a grid are there round an edge, and the cells that stand in them.
use Rattle.std.proofs.Common.{◌≡◌, ℕ, zero, suc, ◌+◌, ◌-◌, ◌*◌, ◌<◌, ◌≤◌, Bool, true, false, ◌&&◌, List, [], ◌∷◌, length}
use Rattle.std.proofs.Common.{refl, ap, sym, ◌∙◌, subst, arith, inl, inr, if◌then◌else◌}
use Rattle.std.specs.Prelude.{◌==◌, ◌⊎◌, ◌/◌, ◌%◌, ⊤, nat_le, slice_index, slice_index_or}
use Rattle.std.proofs.lemmas.Bool.{and_right}
use Rattle.std.proofs.lemmas.Bool.Decides.{nat_tests}
use Rattle.std.proofs.lemmas.Nat.{div-mul-add, mod-mul-add, mul-add-lt}
use Rattle.std.proofs.Math.Nat.{mul_comm}
use Rattle.iso_model.specs.declared.Kind.{Kind}
use Rattle.iso_model.specs.Points.{point}
use Rattle.iso_model.specs.Splits.{cell_count, cells_per_cube, cube_at, cube_count, cube_of}
use Rattle.lists.specs.Members.{In}
use Rattle.split_checks.specs.declared.rounds.Place.{Place}
use Rattle.split_checks.specs.CellsRound.{stands}
use Rattle.split_laws.specs.RoundEdges.{StandsAt, IsInside, IsMissing, IsMissingIn, side_at, sides_at, AreAt}
use Rattle.split_laws.proofs.Coordinates.{coordinate, length-point}

module _ (kind : Kind) (sizes cube : List ℕ) where
  pub at_length : (places : List Place) (cells : List ℕ) → AreAt kind sizes cube places cells → length cells ≡ length places
  at_length [] [] all = refl
  at_length [] (d ∷ cells) all = absurd all
  at_length (q ∷ places) [] all = absurd all
  at_length (q ∷ places) (d ∷ cells) all = ap suc (at_length places cells all.1)

  -- the place of a cell
  pub place_in : (places : List Place) (cells : List ℕ) → AreAt kind sizes cube places cells → (c : ℕ) → In c cells
      → (p : Place) × In p places × StandsAt kind sizes cube p c
  place_in [] [] all c i = absurd i
  place_in [] (d ∷ cells) all c i = absurd all
  place_in (q ∷ places) [] all c i = absurd i
  place_in (q ∷ places) (d ∷ cells) all c (inl e) = (q, inl refl, subst (StandsAt kind sizes cube q) (sym e) all.0)
  place_in (q ∷ places) (d ∷ cells) all c (inr i) = let r = place_in places cells all.1 c i in (r.0, inr r.1, r.2)

  -- the cell at a place
  pub cell_in : (places : List Place) (cells : List ℕ) → AreAt kind sizes cube places cells → (p : Place) → In p places
      → (c : ℕ) × In c cells × StandsAt kind sizes cube p c
  cell_in [] [] all p i = absurd i
  cell_in [] (d ∷ cells) all p i = absurd i
  cell_in (q ∷ places) [] all p i = absurd all
  cell_in (q ∷ places) (d ∷ cells) all p (inl e) = (d, inl refl, subst (λ (x : Place). StandsAt kind sizes cube x d) (sym e) all.0)
  cell_in (q ∷ places) (d ∷ cells) all p (inr i) = let r = cell_in places cells all.1 p i in (r.0, inr r.1, r.2)

  pub at_place : (places : List Place) (cells : List ℕ) → AreAt kind sizes cube places cells → (i : ℕ) (d : Place) (c : ℕ) → i < length places
      → StandsAt kind sizes cube (slice_index_or places i d) (slice_index_or cells i c)
  at_place [] [] all i d c h = absurd (omega (arith, h))
  at_place [] (x ∷ cells) all i d c h = absurd all
  at_place (q ∷ places) [] all i d c h = absurd all
  at_place (q ∷ places) (x ∷ cells) all zero d c h = all.0
  at_place (q ∷ places) (x ∷ cells) all (suc i) d c h = at_place places cells all.1 i d c (omega (arith, h))

-- ---- cubes that are there

-- whether a cube stands this far back, in one axis
abbrev pub stands_in : ℕ → ℕ → ℕ → Bool
stands_in size x b = if b == 0 then (side_at size x).0 else (side_at size x).1

pub cube_there : (size x y b : ℕ) → y + b ≡ x → b ≤ 1 → y + 1 < size → stands_in size x b ≡ true
cube_there size x y zero same small inside = grind (arith, nat_tests)
cube_there size x y (suc zero) same small inside = grind (arith, nat_tests)
cube_there size x y (suc (suc b)) same small inside = absurd (omega (arith, small))

missing_one : (size x b : ℕ) → b ≤ 1 → x < size → IsMissingIn size x b → stands_in size x b ≡ false
missing_one size x zero small inside (inl first) = absurd (omega (arith, first))
missing_one size x zero small inside (inr last) = grind (arith, nat_tests, last)
missing_one size x (suc zero) small inside (inl first) = grind (arith, nat_tests, first)
missing_one size x (suc zero) small inside (inr last) = absurd (omega (arith, last, inside))
missing_one size x (suc (suc b)) small inside out = absurd (omega (arith, small))

pub all_there : (a b c : Bool) → a ≡ true → b ≡ true → c ≡ true → (a && (b && (c && true))) ≡ true
all_there true true true p q r = refl
all_there true true false p q r = r
all_there true false c p q r = q
all_there false b c p q r = p

module _ (sizes cube : List ℕ) where
  pub out_false : (back : List ℕ) → length back ≡ 3 → (i : ℕ) → i < 3
      → stands_in (slice_index sizes i) (slice_index cube i) (slice_index back i) ≡ false → stands (sides_at sizes cube) back ≡ false
  out_false [] long i hi out = absurd (omega (arith, long))
  out_false (a ∷ []) long i hi out = absurd (omega (arith, long))
  out_false (a ∷ b ∷ []) long i hi out = absurd (omega (arith, long))
  out_false (a ∷ b ∷ c ∷ d ∷ back) long i hi out = absurd (omega (arith, long))
  out_false (a ∷ b ∷ c ∷ []) long zero hi out =
      ap (λ (x : Bool). x && (stands_in (slice_index sizes 1) (slice_index cube 1) b && (stands_in (slice_index sizes 2) (slice_index cube 2) c && true))) out
  out_false (a ∷ b ∷ c ∷ []) long (suc zero) hi out =
      and_right (stands_in (slice_index sizes 0) (slice_index cube 0) a)
      (stands_in (slice_index sizes 1) (slice_index cube 1) b && (stands_in (slice_index sizes 2) (slice_index cube 2) c && true))
      (ap (λ (x : Bool). x && (stands_in (slice_index sizes 2) (slice_index cube 2) c && true)) out)
  out_false (a ∷ b ∷ c ∷ []) long (suc (suc zero)) hi out =
      and_right (stands_in (slice_index sizes 0) (slice_index cube 0) a)
      (stands_in (slice_index sizes 1) (slice_index cube 1) b && (stands_in (slice_index sizes 2) (slice_index cube 2) c && true))
      (and_right (stands_in (slice_index sizes 1) (slice_index cube 1) b) (stands_in (slice_index sizes 2) (slice_index cube 2) c && true)
      (ap (λ (x : Bool). x && true) out))
  out_false (a ∷ b ∷ c ∷ []) long (suc (suc (suc i))) hi out = absurd (omega (arith, hi))

  pub missing_out : (p : Place) → length p.back ≡ 3 → ((i : ℕ) → i < 3 → slice_index p.back i ≤ 1) → IsInside sizes cube
      → IsMissing sizes cube p → stands (sides_at sizes cube) p.back ≡ false
  missing_out p long small inside out =
      out_false p.back long out.0 out.1
      (missing_one (slice_index sizes out.0) (slice_index cube out.0) (slice_index p.back out.0) (small out.0 out.1) (inside out.0 out.1) out.2)

-- the cell of this rank in the cube of this number stands at the place
pub stands_from : (kind : Kind) (sizes cube : List ℕ) (p : Place) (number : ℕ) → length sizes ≡ 3 → number < cube_count sizes
    → p.rank < cells_per_cube kind 3 → ((i : ℕ) → i < 3 → slice_index (cube_at sizes number) i + slice_index p.back i ≡ slice_index cube i)
    → StandsAt kind sizes cube p (number * cells_per_cube kind 3 + p.rank)
stands_from kind sizes cube p number axes below hr at =
    let per : cells_per_cube kind 3 ≡ cells_per_cube kind (length sizes) = ap (cells_per_cube kind) (sym axes) in
    let found = number * cells_per_cube kind 3 + p.rank in
    let quotient : found / cells_per_cube kind (length sizes) ≡ number =
    ap (λ (n : ℕ). found / n) (sym per) ∙ div-mul-add number (cells_per_cube kind 3) p.rank hr in
    record {
      is_cell =
          subst (λ (n : ℕ). found < cube_count sizes * n) per
          (subst (λ (n : ℕ). found < n) (mul_comm (cells_per_cube kind 3) (cube_count sizes))
          (mul-add-lt number (cells_per_cube kind 3) p.rank (cube_count sizes) below hr));
      rank = ap (λ (n : ℕ). found % n) (sym per) ∙ mod-mul-add number (cells_per_cube kind 3) p.rank hr;
      cubes = λ i hi. ap (λ (x : ℕ). slice_index (cube_at sizes x) i + slice_index p.back i) quotient ∙ at i hi;
    }

-- ---- cells at places

-- a cube stands at these places along the axes
cube_with : (sizes xs : List ℕ) → length xs ≡ length sizes → ((i : ℕ) → i < length sizes → slice_index xs i + 1 < slice_index sizes i)
    → (n : ℕ) × (n < cube_count sizes) × (cube_at sizes n ≡ xs)
cube_with [] [] long inside = (0, omega arith, refl)
cube_with [] (x ∷ xs) long inside = absurd (omega (arith, long))
cube_with (s ∷ sizes) [] long inside = absurd (omega (arith, long))
cube_with (s ∷ sizes) (x ∷ xs) long inside =
    let rest = cube_with sizes xs (omega (arith, long)) (λ i h. inside (suc i) (omega (arith, h))) in
    let small : x < s - 1 = omega (arith, inside 0 (omega arith)) in (
      rest.0 * (s - 1) + x,
      mul-add-lt rest.0 (s - 1) x (cube_count sizes) rest.1 small,
      ap (λ (c : ℕ). c ∷ cube_at sizes ((rest.0 * (s - 1) + x) / (s - 1))) (mod-mul-add rest.0 (s - 1) x small)
          ∙ ap (λ (n : ℕ). x ∷ cube_at sizes n) (div-mul-add rest.0 (s - 1) x small)
          ∙ ap (λ (cs : List ℕ). x ∷ cs) rest.2,
    )

-- where a cube stands this far back, it is one of the grid's
there_cube : (size x b : ℕ) → b ≤ 1 → x < size → stands_in size x b ≡ true → (b ≤ x) × (x - b + 1 < size)
there_cube size x zero small inside there = let h : x + 2 ≤ size = grind (arith, nat_tests, there) in (omega arith, omega (arith, h))
there_cube size x (suc zero) small inside there = let h : 1 ≤ x = grind (arith, nat_tests, there) in (omega (arith, h), omega (arith, h, inside))
there_cube size x (suc (suc b)) small inside there = absurd (omega (arith, small))

three_parts : (a b c : Bool) → (a && (b && (c && true))) ≡ true → (a ≡ true) × (b ≡ true) × (c ≡ true)
three_parts true true true h = (refl, refl, refl)
three_parts true true false h = absurd (cc)
three_parts true false c h = absurd (cc)
three_parts false b c h = absurd (cc)

module _ (sizes cube : List ℕ) where
  abbrev in_axis : ℕ → ℕ → Bool
  in_axis i b = stands_in (slice_index sizes i) (slice_index cube i) b

  there_at : (back : List ℕ) → length back ≡ 3 → stands (sides_at sizes cube) back ≡ true → (i : ℕ) → i < 3
      → stands_in (slice_index sizes i) (slice_index cube i) (slice_index back i) ≡ true
  there_at [] long there i hi = absurd (omega (arith, long))
  there_at (a ∷ []) long there i hi = absurd (omega (arith, long))
  there_at (a ∷ b ∷ []) long there i hi = absurd (omega (arith, long))
  there_at (a ∷ b ∷ c ∷ d ∷ back) long there i hi = absurd (omega (arith, long))
  there_at (a ∷ b ∷ c ∷ []) long there zero hi = let t = three_parts (in_axis 0 a) (in_axis 1 b) (in_axis 2 c) there in t.0
  there_at (a ∷ b ∷ c ∷ []) long there (suc zero) hi = let t = three_parts (in_axis 0 a) (in_axis 1 b) (in_axis 2 c) there in t.1
  there_at (a ∷ b ∷ c ∷ []) long there (suc (suc zero)) hi = let t = three_parts (in_axis 0 a) (in_axis 1 b) (in_axis 2 c) there in t.2
  there_at (a ∷ b ∷ c ∷ []) long there (suc (suc (suc i))) hi = absurd (omega (arith, hi))

module _ (kind : Kind) (sizes cube : List ℕ) (axes : length sizes ≡ 3) (inside : IsInside sizes cube) where
  -- a place of which a cell is there
  pub record IsThere (p : Place) : Type 0 where
    pub is_rank : p.rank < cells_per_cube kind 3
    pub long : length p.back ≡ 3
    pub small : (i : ℕ) → i < 3 → slice_index p.back i ≤ 1
    pub there : stands (sides_at sizes cube) p.back ≡ true

  cell_there : (p : Place) → IsThere p → (c : ℕ) × StandsAt kind sizes cube p c
  cell_there p is =
      let f : ℕ → ℕ = λ i. slice_index cube i - slice_index p.back i in
      let cubes = λ (i : ℕ) (hi : i < 3). there_cube (slice_index sizes i) (slice_index cube i) (slice_index p.back i) (is.small i hi) (inside i hi)
      (there_at sizes cube p.back is.long is.there i hi) in
      let n = cube_with sizes (point 3 f) (length-point 3 f ∙ sym axes) (λ i h.
      let hi : i < 3 = omega (arith, h, axes) in omega (arith, coordinate 3 f i hi, (cubes i hi).1)) in (
        n.0 * cells_per_cube kind 3 + p.rank,
        stands_from kind sizes cube p n.0 axes n.1 is.is_rank (λ i hi.
            let at : slice_index (cube_at sizes n.0) i ≡ slice_index cube i - slice_index p.back i =
            ap (λ (xs : List ℕ). slice_index xs i) n.2 ∙ coordinate 3 f i hi in
            omega (arith, at, (cubes i hi).0)),
      )

  -- the cells at places that are there
  pub cells_there : (ps : List Place) → ((p : Place) → In p ps → IsThere p) → (cells : List ℕ) × AreAt kind sizes cube ps cells
  cells_there [] each = ([], tt)
  cells_there (p ∷ ps) each =
      let first = cell_there p (each p (inl refl)) in
      let rest = cells_there ps (λ q i. each q (inr i)) in (first.0 ∷ rest.0, (first.1, rest.1))
