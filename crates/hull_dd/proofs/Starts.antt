-- The generators that are each tight at all but one of the first points are those of these points.
use Rattle.std.specs.Prelude.{◌≡◌, ◌⊎◌, ℕ, zero, suc, ◌+◌, ◌<◌, ℤ, List, [], ◌∷◌, ◌++◌, length, slice_index_or, slice_set, All, Any, Contains}
use Rattle.std.specs.Int.{bit_at}
use Rattle.std.proofs.Common.{refl, sym, ap, ◌∙◌, subst, arith, inl, inr, get_or-set_same, get_or-set_other, length-set}
use Rattle.std.proofs.lemmas.List.Elements.{All-nil, All-cons, All-contains, All-push, Contains-push, Contains-append_left}
use Rattle.iso_model.specs.Turns.{HalfSpace, slack, Holds, IsTight}
use Rattle.hull_dd.specs.declared.generators.Generator.{Generator}
use Rattle.hull_dd.specs.Generators.{point_at, OfSet, half_of, with_point, IsGenerator, IsCoveredBy, Generate}
use Rattle.hull_dd.specs.Starts.{IsSetOf, IsTightAt, IsOpposite}
use Rattle.hull_dd.proofs.GeneratorBits.{point_added, member_stays, member_split}
use Rattle.hull_dd.proofs.Signs.{zero_holds, above_holds, above_not_zero}
use Rattle.lists.proofs.Contained.{any_default}
use Rattle.small_turn.proofs.SpanLaws.{is_zero}
use Rattle.std.proofs.lemmas.Bool.{cases_eq}

-- the set has the chosen points and the further one, and no others
pub record IsWhole (choice : List ℕ) (apart set : ℕ) : Type 0 where
  pub split : (j : ℕ) → bit_at set j ≡ 1 → (j ≡ apart) ⊎ Contains choice j
  pub chosen : (j : ℕ) → Contains choice j → bit_at set j ≡ 1
  pub there : bit_at set apart ≡ 1

pub opposite_generator : (d : ℕ) (points : List (List ℤ)) (choice : List ℕ) (apart set : ℕ) (g : Generator d) → apart < length points
    → IsWhole choice apart set → IsOpposite d points choice apart g → IsGenerator d points set g
opposite_generator d points choice apart set g l whole o = record {
  wide = o.wide;
  small = o.small;
  holds = λ j k m. elim (whole.split j m) [
    | inl s ↦ subst (λ (i : ℕ). Holds (half_of g) (point_at points i)) (sym s) (above_holds (slack (half_of g) (point_at points apart)) o.above)
    | inr c ↦ zero_holds (slack (half_of g) (point_at points j)) (tight j c)
  ];
  within = λ j t. whole.chosen j ((o.set j).0 t);
  touches = λ j k m. (
    λ t. tight j ((o.set j).0 t),
    λ t. elim (whole.split j m) [
      | inl s ↦ absurd (above_not_zero (slack (half_of g) (point_at points apart)) o.above (subst (λ (i : ℕ). IsTight (half_of g) (point_at points i)) s t))
      | inr c ↦ (o.set j).1 c
    ],
  );
  apart = λ t. above_not_zero (slack (half_of g) (point_at points apart)) o.above (t apart l whole.there);
}
  where
    tight : (j : ℕ) → Contains choice j → IsTight (half_of g) (point_at points j)
    tight j c = All-contains (λ i. IsTight (half_of g) (point_at points i)) choice j o.tight c

-- a half-space that is not tight at the further point is covered
opposite_covers : (d : ℕ) (points : List (List ℤ)) (choice : List ℕ) (apart set : ℕ) (g : Generator d) → IsWhole choice apart set
    → IsOpposite d points choice apart g
    → (h : HalfSpace) → ¬ (IsTight h (point_at points apart)) → IsCoveredBy points set h g
opposite_covers d points choice apart set g whole o h n j k m t = elim (whole.split j m) [
  | inl s ↦ absurd (n (subst (λ (i : ℕ). IsTight h (point_at points i)) s t))
  | inr c ↦ (o.set j).1 c
]

-- ---- one of the points exchanged for the first one

pub whole_first : (choice : List ℕ) (set : ℕ) → IsSetOf choice set → IsWhole choice 0 (with_point set 0)
whole_first choice set h = record {
  split = λ j m. elim (member_split set 0 j m) [ inl s ↦ inl s | inr n ↦ inr ((h j).0 n) ];
  chosen = λ j c. member_stays set 0 j ((h j).1 c);
  there = point_added set 0;
}

pub whole_other : (choice : List ℕ) (set k : ℕ) → k < length choice → IsSetOf choice set
    → IsWhole (slice_set choice k 0) (slice_index_or choice k 0) (with_point set 0)
whole_other choice set k l h = record {
  split = λ j m. elim (member_split set 0 j m) [
    | inl s ↦ inr (
      k,
      omega (arith, length-set choice k 0),
      sym (any_default (slice_set choice k 0) k 0 j (omega (arith, length-set choice k 0))) ∙
          get_or-set_same choice k 0 0 l ∙ sym s,
    )
    | inr n ↦ kept j ((h j).0 n)
  ];
  chosen = λ j c. elim (cases_eq c.0 k) [
    | inl s ↦ subst (λ (i : ℕ). bit_at (with_point set 0) i ≡ 1)
        (sym (get_or-set_same choice k 0 j l) ∙ ap (λ (i : ℕ). slice_index_or (slice_set choice k 0) i j) (sym s) ∙ c.2) (point_added set 0)
    | inr n ↦ member_stays set 0 j ((h j).1 (c.0, omega (arith, length-set choice k 0, c.1), sym (get_or-set_other choice k c.0 0 j n) ∙ c.2))
  ];
  there = member_stays set 0 (slice_index_or choice k 0) ((h (slice_index_or choice k 0)).1 (k, l, any_default choice k (slice_index_or choice k 0) 0 l));
}
  where
    kept : (j : ℕ) → Contains choice j → (j ≡ slice_index_or choice k 0) ⊎ Contains (slice_set choice k 0) j
    kept j c = elim (cases_eq c.0 k) [
      | inl s ↦ inl (sym c.2 ∙ ap (λ (i : ℕ). slice_index_or choice i j) s ∙ any_default choice k j 0 l)
      | inr n ↦ inr (c.0, omega (arith, length-set choice k 0, c.1), get_or-set_other choice k c.0 0 j n ∙ c.2)
    ]

-- ---- all of them

-- there is a generator that is not tight at the first point, and one for each of the chosen points below n
pub record HasOpposites (d : ℕ) (points : List (List ℤ)) (choice : List ℕ) (n : ℕ) (gs : List (Generator d)) : Type 0 where
  pub first : Any (IsOpposite d points choice 0) gs
  pub others : (k : ℕ) → k < n → Any (IsOpposite d points (slice_set choice k 0) (slice_index_or choice k 0)) gs
  pub each : (set : ℕ) → IsSetOf choice set → All (IsGenerator d points (with_point set 0)) gs

all_or_some : (h : HalfSpace) (points : List (List ℤ)) (choice : List ℕ) (n : ℕ)
    → ((k : ℕ) → k < n → IsTight h (point_at points (slice_index_or choice k 0))) ⊎ ((k : ℕ) × (k < n) × ¬
    (IsTight h (point_at points (slice_index_or choice k 0))))
all_or_some h points choice zero = inl (λ k l. absurd (omega arith))
all_or_some h points choice (suc n) = next (all_or_some h points choice n) (is_zero (slack h (point_at points (slice_index_or choice n 0))))
  where
    next : (((k : ℕ) → k < n → IsTight h (point_at points (slice_index_or choice k 0))) ⊎
        ((k : ℕ) × (k < n) × ¬ (IsTight h (point_at points (slice_index_or choice k 0)))))
        → (IsTight h (point_at points (slice_index_or choice n 0))) ⊎ ¬ (IsTight h (point_at points (slice_index_or choice n 0)))
        → ((k : ℕ) → k < suc n → IsTight h (point_at points (slice_index_or choice k 0))) ⊎
        ((k : ℕ) × (k < suc n) × ¬ (IsTight h (point_at points (slice_index_or choice k 0))))
    next (inr s) t = inr (s.0, omega (arith, s.1), s.2)
    next (inl a) (inr t) = inr (n, omega arith, t)
    next (inl a) (inl t) = inl (λ k l. elim (cases_eq k n) [
      | inl e ↦ subst (λ (i : ℕ). IsTight h (point_at points (slice_index_or choice i 0))) (sym e) t
      | inr m ↦ a k (omega arith)
    ])

pub start_generates : (d : ℕ) (points : List (List ℤ)) (choice : List ℕ) (set : ℕ) (gs : List (Generator d)) → IsSetOf choice set
    → HasOpposites d points choice (length choice) gs → All (λ i. i < length points) choice → 0 < length points
    → Generate d points (with_point set 0) gs
start_generates d points choice set gs is_set o inside some = record {
  each = o.each set is_set;
  flat = λ h w t. o.first.4.flat h w (at_chosen h t) (t 0 some (point_added set 0));
  full = λ h w t j l. o.first.4.full h w (at_chosen h t) (t 0 some (point_added set 0)) (point_at points j);
  enough = λ h w holds loose. covered h loose (is_zero (slack h (point_at points 0)));
}
  where
    at_chosen : (h : HalfSpace) → OfSet points (with_point set 0) (IsTight h) → IsTightAt points choice h
    at_chosen h t k e l = t (slice_index_or choice k e) (inside k e l) (member_stays set 0 (slice_index_or choice k e)
        ((is_set (slice_index_or choice k e)).1 (k, l, any_default choice k (slice_index_or choice k e) e l)))

    by_others : (h : HalfSpace) → ¬ (OfSet points (with_point set 0) (IsTight h)) → IsTight h (point_at points 0)
        → ((k : ℕ) → k < length choice → IsTight h (point_at points (slice_index_or choice k 0))) ⊎
        ((k : ℕ) × (k < length choice) × ¬ (IsTight h (point_at points (slice_index_or choice k 0))))
        → Any (IsCoveredBy points (with_point set 0) h) gs
    by_others h loose z (inl all) = absurd (loose (λ j l m. elim (member_split set 0 j m) [
      | inl s ↦ subst (λ (i : ℕ). IsTight h (point_at points i)) (sym s) z
      | inr n ↦ (let c = (is_set j).0 n in subst (λ (i : ℕ). IsTight h (point_at points i)) (any_default choice c.0 0 j c.1 ∙ c.2) (all c.0 c.1))
    ]))
    by_others h loose z (inr s) =
        let a = o.others s.0 s.1 in (
          a.0,
          a.1,
          a.2,
          a.3,
          opposite_covers d points (slice_set choice s.0 0) (slice_index_or choice s.0 0) (with_point set 0) a.1
              (whole_other choice set s.0 s.1 is_set) a.4 h s.2,
        )

    covered : (h : HalfSpace) → ¬ (OfSet points (with_point set 0) (IsTight h)) → (IsTight h (point_at points 0)) ⊎ ¬ (IsTight h (point_at points 0))
        → Any (IsCoveredBy points (with_point set 0) h) gs
    covered h loose (inr n) =
        let a = o.first in
        (a.0, a.1, a.2, a.3, opposite_covers d points choice 0 (with_point set 0) a.1 (whole_first choice set is_set) a.4 h n)
    covered h loose (inl z) = by_others h loose z (all_or_some h points choice (length choice))

-- ---- one generator after the other

pub opposites_first : (d : ℕ) (points : List (List ℤ)) (choice : List ℕ) (gs : List (Generator d)) (g : Generator d) → 0 < length points
    → IsOpposite d points choice 0 g → gs ≡ g ∷ [] → HasOpposites d points choice 0 gs
opposites_first d points choice gs g l o e = subst (HasOpposites d points choice 0) (sym e) (record {
  first = (0, g, omega arith, refl, o);
  others = λ k b. absurd (omega arith);
  each = λ set h. All-cons (IsGenerator d points (with_point set 0)) g [] (opposite_generator d points choice 0 (with_point set 0) g l
      (whole_first choice set h) o) (All-nil (IsGenerator d points (with_point set 0)));
})

any_pushed : {X : Type 0} (P : X → Type 0) (xs : List X) (y : X) → Any P xs → Any P (xs ++ y ∷ [])
any_pushed P xs y a = let c = Contains-append_left xs (y ∷ []) a.1 (a.0, a.2, a.3) in (c.0, a.1, c.1, c.2, a.4)

pub opposites_more : (d : ℕ) (points : List (List ℤ)) (choice : List ℕ) (gs after : List (Generator d)) (k : ℕ) (g : Generator d) → k < length choice
    → All (λ i. i < length points) choice
    → IsOpposite d points (slice_set choice k 0) (slice_index_or choice k 0) g → HasOpposites d points choice k gs → after ≡ gs ++ g ∷ []
    → HasOpposites d points choice (k + 1) after
opposites_more d points choice gs after k g l inside o h e = subst (HasOpposites d points choice (k + 1)) (sym e) (record {
  first = any_pushed (IsOpposite d points choice 0) gs g h.first;
  others = λ j b. elim (cases_eq j k) [
    | inl s ↦ subst (λ (i : ℕ). Any (IsOpposite d points (slice_set choice i 0) (slice_index_or choice i 0)) (gs ++ g ∷ [])) (sym s)
        (let c = Contains-push gs g in (c.0, g, c.1, c.2, o))
    | inr n ↦ any_pushed (IsOpposite d points (slice_set choice j 0) (slice_index_or choice j 0)) gs g (h.others j (omega arith))
  ];
  each = λ set s. All-push (IsGenerator d points (with_point set 0)) gs g (h.each set s)
      (opposite_generator d points (slice_set choice k 0) (slice_index_or choice k 0) (with_point set 0) g (inside k 0 l) (whole_other choice set k l s) o);
})
