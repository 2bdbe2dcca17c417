-- Choices of members of a list, and the faces that lie in a facet.
use Rattle.std.specs.Prelude.{◌≡◌, ℕ, zero, suc, ◌-◌, ◌<◌, ◌≤◌, bit_and, Bool, true, false, ◌&&◌, List, [], ◌∷◌, ◌++◌, map, filter, length, All}
use Rattle.std.specs.Prelude.{slice_index_or, if◌then◌else◌}
use Rattle.std.specs.List.{AllAdjacentBelow}
use Rattle.std.proofs.Common.{refl, sym, ap, ◌∙◌, subst, arith, inl, inr}
use Rattle.std.proofs.lemmas.Bool.{and_parts, and_from}
use Rattle.std.proofs.lemmas.List.{map-append}
use Rattle.lists.specs.Orders.{choices}
use Rattle.face_tallies.specs.Tallies.{IsFace}
use Rattle.lists.specs.Bits.{is_set, set_number}
use Rattle.lists.specs.Members.{In, Climbs, Ascends}
use Rattle.lists.proofs.Contained.{Contains-at}
use Rattle.lists.proofs.MemberLaws.{In_from, In-map, from_In-map, In-append_left, In-append_right, from_In-append, map-map, In_of_has, has_of_In}
use Rattle.lists.proofs.Ascending.{Climbs-filter, ascends_of}
use Rattle.lists.proofs.Bits.{bit_of_set, same_sets, set_and, part_of_set, same_from_number}
use Rattle.lists.proofs.Tests.{same_tests, next_place}

-- ---- lists in order

pub steps_of_climb : {X : Type 0} (key : X → ℕ) (xs : List X) → Climbs key xs → AllAdjacentBelow (λ a b. key a < key b) xs (length xs)
steps_of_climb key [] c k d h = absurd (omega (arith, h))
steps_of_climb key (x ∷ xs) c zero d h = c.0 _ (In_from xs _ (Contains-at xs 0 d (omega (arith, h))))
steps_of_climb key (x ∷ xs) c (suc k) d h =
    subst (λ (n : ℕ). key (slice_index_or xs k d) < key (slice_index_or (x ∷ xs) n d)) (next_place k) (steps_of_climb key xs c.1 k d (omega (arith, h)))

below_all : {X : Type 0} (key : X → ℕ) (x y : X) (ys : List X) → key x < key y → Climbs key (y ∷ ys) → (z : X) → In z (y ∷ ys) → key x < key z
below_all key x y ys b c z (inl e) = subst (λ w. key x < key w) (sym e) b
below_all key x y ys b c z (inr m) = let above = c.0 z m in omega arith

pub climb_of_steps : {X : Type 0} (key : X → ℕ) (xs : List X) → AllAdjacentBelow (λ a b. key a < key b) xs (length xs) → Climbs key xs
climb_of_steps key [] a = tt
climb_of_steps key (x ∷ []) a = (λ y i. absurd i, tt)
climb_of_steps key (x ∷ y ∷ ys) a =
    let more =
    climb_of_steps key (y ∷ ys)
    (λ k d h.
    subst (λ (n : ℕ). key (slice_index_or (y ∷ ys) k d) < key (slice_index_or (x ∷ y ∷ ys) n d)) (sym (next_place k))
    (a (suc k) d (omega (arith, h)))) in
    (below_all key x y ys (a 0 x (omega arith)) more, more)

-- ---- choices

pub choices-map : {X Y : Type 0} (g : X → Y) (n : ℕ) (xs : List X) → choices n (map g xs) ≡ map (map g) (choices n xs)
choices-map g zero xs = refl
choices-map g (suc n) [] = refl
choices-map {X} {Y} g (suc n) (x ∷ xs) =
    ap (λ l. map (λ r. g x ∷ r) l ++ choices (suc n) (map g xs)) (choices-map g n xs)
    ∙ ap (λ l. map (λ r. g x ∷ r) (map (map g) (choices n xs)) ++ l) (choices-map g (suc n) xs)
    ∙ ap (λ l. l ++ map (map g) (choices (suc n) xs)) (map-map (map g) (λ r. g x ∷ r) (choices n xs) ∙ sym (map-map (λ r. x ∷ r) (map g) (choices n xs)))
    ∙ sym (map-append (map g) (map (λ r. x ∷ r) (choices n xs)) (choices (suc n) xs))

-- a part of a list is one of the choices of as many members
skip : {X : Type 0} (x : X) (n : ℕ) (xs c : List X) → In c (choices n xs) → In c (choices n (x ∷ xs))
skip x zero xs c i = i
skip x (suc n) xs c i = In-append_right (map (λ r. x ∷ r) (choices n xs)) (choices (suc n) xs) c i

pub part_is_choice : {X : Type 0} (p : X → Bool) (xs : List X) → In (filter p xs) (choices (length (filter p xs)) xs)
part_is_choice p [] = inl refl
part_is_choice {X} p (x ∷ xs) = by (p x) (part_is_choice p xs)
  where
    by : (b : Bool) → In (filter p xs) (choices (length (filter p xs)) xs)
        → In (if b then x ∷ filter p xs else filter p xs) (choices (length (if b then x ∷ filter p xs else filter p xs)) (x ∷ xs))
    by true i =
        In-append_left (map (λ r. x ∷ r) (choices (length (filter p xs)) xs)) (choices (suc (length (filter p xs))) xs) (x ∷ filter p xs)
        (In-map (λ r. x ∷ r) (choices (length (filter p xs)) xs) (filter p xs) i)
    by false i = skip x (length (filter p xs)) xs (filter p xs) i

-- a choice has as many members, all of the list, in its order
pub record IsChoice (n : ℕ) (xs c : List ℕ) : Type 0 where
  pub wide : length c ≡ n
  pub members : (y : ℕ) → In y c → In y xs
  pub ascends : Ascends c

pub choice_is : (n : ℕ) (xs c : List ℕ) → Ascends xs → In c (choices n xs) → IsChoice n xs c
choice_is zero xs c a (inl e) = record {
  wide = ap length e;
  members = λ y i. absurd (subst (λ (l : List ℕ). In y l) e i);
  ascends = subst (λ (l : List ℕ). Ascends l) (sym e) tt;
}
choice_is zero xs c a (inr i) = absurd i
choice_is (suc n) [] c a i = absurd i
choice_is (suc n) (x ∷ xs) c a i = elim (from_In-append (map (λ r. x ∷ r) (choices n xs)) (choices (suc n) xs) c i) as (λ _. IsChoice (suc n) (x ∷ xs) c) [
  | inl l ↦
      let r = from_In-map (λ r. x ∷ r) (choices n xs) c l in
      let k = choice_is n xs r.0 a.1 r.1 in
      let whole : IsChoice (suc n) (x ∷ xs) (x ∷ r.0) = record {
        wide = ap suc k.wide;
        members = λ y j. widened x y r.0 xs (k.members y) j;
        ascends = (λ y j. a.0 y (k.members y j), k.ascends);
      } in
      subst (λ (l : List ℕ). IsChoice (suc n) (x ∷ xs) l) (sym r.2) whole
  | inr l ↦
      let k = choice_is (suc n) xs c a.1 l in
      record { wide = k.wide; members = λ y j. inr (k.members y j); ascends = k.ascends }
]
  where
    widened : (x y : ℕ) (c xs : List ℕ) → (In y c → In y xs) → In y (x ∷ c) → In y (x ∷ xs)
    widened x y c xs f (inl e) = inl e
    widened x y c xs f (inr i) = inr (f i)

-- ---- faces in a facet

pub face_ascends : (d : ℕ) (face : List ℕ) → IsFace d face → Ascends face
face_ascends d face f = ascends_of face f.ascending

pub face_in_facet : (d : ℕ) (edges face : List ℕ) → Ascends edges → IsFace d face → bit_and (set_number face) (set_number edges) ≡ set_number face
    → In face (choices (d - 1) edges)
face_in_facet d edges face a f within =
    let part = filter (is_set (set_number face)) edges in
    let same : face ≡ part =
    same_from_number face part (face_ascends d face f) (Climbs-filter (λ x. x) (is_set (set_number face)) edges a)
    (sym within ∙ part_of_set edges a (set_number face)) in
    let wide : length part ≡ d - 1 = let w = f.wide in let l = ap length same in omega arith in
    subst (λ (l : List ℕ). In l (choices (d - 1) edges)) (sym same)
    (subst (λ (n : ℕ). In part (choices n edges)) wide (part_is_choice (is_set (set_number face)) edges))

pub choice_within : (n : ℕ) (edges c : List ℕ) → Ascends edges → In c (choices n edges) → bit_and (set_number c) (set_number edges) ≡ set_number c
choice_within n edges c a i =
    let k = choice_is n edges c a i in
    same_sets _ _ (λ e.
    set_and (set_number c) (set_number edges) e
    ∙ same_tests (is_set (set_number c) e && is_set (set_number edges) e) (is_set (set_number c) e)
    (λ h. (and_parts (is_set (set_number c) e) (is_set (set_number edges) e) h).0)
    (λ h. and_from (is_set (set_number c) e) (is_set (set_number edges) e) h
    (bit_of_set edges a e ∙ has_of_In edges e (k.members e (In_of_has c e (sym (bit_of_set c k.ascends e) ∙ h))))))

each_small : (n : ℕ) (xs : List ℕ) → ((y : ℕ) → In y xs → y < n) → All (λ y. y < n) xs
each_small n xs h k d less = h _ (In_from xs _ (Contains-at xs k d less))

pub choice_is_face : (d : ℕ) (edges c : List ℕ) → 1 ≤ d → Ascends edges → ((y : ℕ) → In y edges → y < 32) → In c (choices (d - 1) edges) → IsFace d c
choice_is_face d edges c some a small i =
    let k = choice_is (d - 1) edges c a i in
    record {
      wide = let w = k.wide in omega arith;
      ascending = λ n h. steps_of_climb (λ x. x) c k.ascends n 0 h;
      edges = each_small 32 c (λ y j. small y (k.members y j));
    }
