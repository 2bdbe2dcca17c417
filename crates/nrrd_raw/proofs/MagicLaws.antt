-- The first line, byte by byte.
use Rattle.std.proofs.Common.{◌≡◌, ◌⊎◌, inl, inr, ℕ, zero, suc, ◌+◌, ◌-◌, ◌<◌, ◌≤◌, Bool, true, false, nat_eq, List, [], ◌∷◌, ◌++◌, length, take}
use Rattle.std.proofs.Common.{drop, get_or, Option, Some, None, refl, sym, ap, ◌∙◌, subst, arith, length-append, append-nil}
use Rattle.std.specs.Prelude.{◌&&◌, IfSome}
use Rattle.std.specs.List.{AllPass, starts_with, list_any}
use Rattle.std.specs.Io.KnownBytes.{Consumes}
use Rattle.std.proofs.lemmas.Bool.{false≢true, cases_lt, or_cases}
use Rattle.std.proofs.lemmas.Bool.Decides.{nat_tests}
use Rattle.std.proofs.lemmas.List.{append_assoc, get_or_append_left, get_or-append_right, take-append-drop, take_all, drop_all}
use lib.Pointwise.{pointwise}
use Rattle.iso_formats.specs.HeaderLines.{is_line, line_bytes, is_filled, is_first_line, begins_right}
use Rattle.nrrd_raw.specs.HeaderFronts.{HasFront, FitsFirst, least_first, greatest_first, TakesFitting}

-- ---- what bytes that begin right are

pointwise_same : (xs ys : List ℕ) → pointwise nat_eq xs ys ≡ true → xs ≡ ys
pointwise_same [] [] e = refl
pointwise_same [] (y ∷ ys) e = absurd (false≢true e)
pointwise_same (x ∷ xs) [] e = absurd (false≢true e)
pointwise_same (x ∷ xs) (y ∷ ys) e =
    let p = and_true (nat_eq x y) (pointwise nat_eq xs ys) e in
    let h = equal x y p.0 in
    let t = pointwise_same xs ys p.1 in
    cons_same x y xs ys h t
  where
    and_true : (a b : Bool) → a && b ≡ true → (a ≡ true) × (b ≡ true)
    and_true true b e = (refl, e)
    and_true false b e = absurd (false≢true e)

    equal : (a b : ℕ) → nat_eq a b ≡ true → a ≡ b
    equal a b e = grind (arith, nat_tests)

    cons_same : (x y : ℕ) (xs ys : List ℕ) → x ≡ y → xs ≡ ys → x ∷ xs ≡ y ∷ ys
    cons_same x y xs ys p q = cc

starts_is : (bytes needle : List ℕ) → starts_with nat_eq bytes needle ≡ true → bytes ≡ needle ++ drop (length needle) bytes
starts_is bytes needle e =
    sym (take-append-drop (length needle) bytes) ∙ ap (λ zs. zs ++ drop (length needle) bytes) (sym (pointwise_same needle (take (length needle) bytes) e))

abbrev digit_line : ℕ → List ℕ
digit_line d = 78 ∷ 82 ∷ 82 ∷ 68 ∷ 48 ∷ 48 ∷ 48 ∷ d ∷ []

record Begun (bytes : List ℕ) : Type 0 where
  digit : ℕ
  low : 49 ≤ digit
  high : digit ≤ 53
  rest : List ℕ
  is : (bytes ≡ digit_line digit ++ 10 ∷ rest) ⊎ (bytes ≡ digit_line digit ++ 13 ∷ 10 ∷ rest)

begun_at : (bytes : List ℕ) (d : ℕ) → 49 ≤ d → d ≤ 53
    → list_any (λ r. starts_with nat_eq bytes (line_bytes (record { text = digit_line d; has_return = r }))) (true ∷ false ∷ []) ≡ true → Begun bytes
begun_at bytes d l h e = elim (or_cases (starts_with nat_eq bytes (digit_line d ++ 13 ∷ 10 ∷ [])) _ e) [
  | inl a ↦ record { digit = d; low = l; high = h; rest = drop 10 bytes; is = inr (starts_is bytes (digit_line d ++ 13 ∷ 10 ∷ []) a) }
  | inr a ↦ elim (or_cases (starts_with nat_eq bytes (digit_line d ++ 10 ∷ [])) _ a) [
    | inl b ↦ record { digit = d; low = l; high = h; rest = drop 9 bytes; is = inl (starts_is bytes (digit_line d ++ 10 ∷ []) b) }
    | inr b ↦ absurd (false≢true b)
  ]
]

begun : (bytes : List ℕ) → begins_right bytes ≡ true → Begun bytes
begun bytes e = elim (or_cases (list_any (λ r. starts_with nat_eq bytes (line_bytes (record { text = digit_line 49; has_return = r })))
    (true ∷ false ∷ [])) _ e) [
      | inl a ↦ begun_at bytes 49 (omega arith) (omega arith) a
      | inr a ↦ elim (or_cases (list_any (λ r. starts_with nat_eq bytes (line_bytes (record { text = digit_line 50; has_return = r }))) (true ∷ false ∷ [])) _ a) [
        | inl b ↦ begun_at bytes 50 (omega arith) (omega arith) b
        | inr b ↦ elim (or_cases (list_any (λ r. starts_with nat_eq bytes (line_bytes (record { text = digit_line 51; has_return = r })))
            (true ∷ false ∷ [])) _ b) [
              | inl c ↦ begun_at bytes 51 (omega arith) (omega arith) c
              | inr c ↦ elim (or_cases (list_any (λ r. starts_with nat_eq bytes (line_bytes (record { text = digit_line 52; has_return = r })))
                  (true ∷ false ∷ [])) _ c) [
                    | inl d ↦ begun_at bytes 52 (omega arith) (omega arith) d
                    | inr d ↦ elim (or_cases (list_any (λ r. starts_with nat_eq bytes (line_bytes (record { text = digit_line 53; has_return = r })))
                        (true ∷ false ∷ [])) _ d) [
                          | inl f ↦ begun_at bytes 53 (omega arith) (omega arith) f
                          | inr f ↦ absurd (false≢true f)
                        ]
                  ]
            ]
      ]
    ]

not_begun : (bytes : List ℕ) (b : Bool) → begins_right bytes ≡ b → (Begun bytes → ⊥) → b ≡ false
not_begun bytes true e h = absurd (h (begun bytes e))
not_begun bytes false e h = refl

digit_fits : (d : ℕ) (more : List ℕ) → 49 ≤ d → d ≤ 53 → (k : ℕ) → k < 8
    → (get_or least_first k 0 ≤ get_or (digit_line d ++ more) k 0) × (get_or (digit_line d ++ more) k 0 ≤ get_or greatest_first k 0)
digit_fits d more l h zero m = (omega arith, omega arith)
digit_fits d more l h (suc zero) m = (omega arith, omega arith)
digit_fits d more l h (suc (suc zero)) m = (omega arith, omega arith)
digit_fits d more l h (suc (suc (suc zero))) m = (omega arith, omega arith)
digit_fits d more l h (suc (suc (suc (suc zero)))) m = (omega arith, omega arith)
digit_fits d more l h (suc (suc (suc (suc (suc zero))))) m = (omega arith, omega arith)
digit_fits d more l h (suc (suc (suc (suc (suc (suc zero)))))) m = (omega arith, omega arith)
digit_fits d more l h (suc (suc (suc (suc (suc (suc (suc zero))))))) m = (omega arith, omega arith)
digit_fits d more l h (suc (suc (suc (suc (suc (suc (suc (suc k)))))))) m = absurd (omega arith)

begun_fits : (bytes : List ℕ) (b : Begun bytes) (k : ℕ) → k < 8 → (get_or least_first k 0 ≤ get_or bytes k 0) × (get_or bytes k 0 ≤ get_or greatest_first k 0)
begun_fits bytes b k m = elim b.is [
  | inl e ↦
      subst (λ (bs : List ℕ). (get_or least_first k 0 ≤ get_or bs k 0) × (get_or bs k 0 ≤ get_or greatest_first k 0)) (sym e)
      (digit_fits b.digit (10 ∷ b.rest) b.low b.high k m)
  | inr e ↦
      subst (λ (bs : List ℕ). (get_or least_first k 0 ≤ get_or bs k 0) × (get_or bs k 0 ≤ get_or greatest_first k 0)) (sym e)
      (digit_fits b.digit (13 ∷ 10 ∷ b.rest) b.low b.high k m)
]

-- ---- bytes that do not begin right

byte_at : (front ys : List ℕ) (n k : ℕ) → length front ≡ n → k ≡ n → get_or (front ++ ys) k 0 ≡ get_or ys 0 0
byte_at front ys n k e s =
    let z : k - length front ≡ 0 = omega (arith, e, s) in
    get_or-append_right front ys (length front) k 0 refl (omega (arith, e, s)) ∙ ap (λ i. get_or ys i 0) z

pub wrong-place : (old now : Option (List ℕ)) (front : List ℕ) (place : ℕ) → FitsFirst front place → place < 8 → Consumes old now front
    → IfSome now (λ ys. (get_or ys 0 0 < get_or least_first place 0) ⊎ (get_or greatest_first place 0 < get_or ys 0 0))
    → IfSome old (λ bytes. begins_right bytes ≡ false)
wrong-place None now front place f l c w = tt
wrong-place (Some bytes) None front place f l c w = absurd c
wrong-place (Some bytes) (Some ys) front place f l c w = not_begun bytes (begins_right bytes) refl (λ b.
    let at : get_or bytes place 0 ≡ get_or ys 0 0 = ap (λ (bs : List ℕ). get_or bs place 0) c ∙ byte_at front ys place place f.len refl in
    let fits = begun_fits bytes b place l in
    elim w [
      | inl low ↦ omega (arith, at, fits.0, low)
      | inr high ↦ omega (arith, at, fits.1, high)
    ])

end_is : (bytes : List ℕ) (b : Begun bytes) → (get_or bytes 8 0 ≡ 10) ⊎ ((get_or bytes 8 0 ≡ 13) × (get_or bytes 9 0 ≡ 10))
end_is bytes b = elim b.is [
  | inl e ↦ inl (ap (λ (bs : List ℕ). get_or bs 8 0) e)
  | inr e ↦ inr (ap (λ (bs : List ℕ). get_or bs 8 0) e, ap (λ (bs : List ℕ). get_or bs 9 0) e)
]

pub wrong-end : (old now : Option (List ℕ)) (front : List ℕ) → length front ≡ 8 → Consumes old now front
    → IfSome now (λ ys. (get_or ys 0 0 ≡ 10 → ⊥) × (get_or ys 0 0 ≡ 13 → ⊥)) → IfSome old (λ bytes. begins_right bytes ≡ false)
wrong-end None now front l c w = tt
wrong-end (Some bytes) None front l c w = absurd c
wrong-end (Some bytes) (Some ys) front l c w = not_begun bytes (begins_right bytes) refl (λ b.
    let at : get_or bytes 8 0 ≡ get_or ys 0 0 = ap (λ (bs : List ℕ). get_or bs 8 0) c ∙ byte_at front ys 8 8 l refl in
    elim (end_is bytes b) [
      | inl e ↦ w.0 (sym at ∙ e)
      | inr e ↦ w.1 (sym at ∙ e.0)
    ])

pub wrong-return : (old now : Option (List ℕ)) (front : List ℕ) → length front ≡ 8 → Consumes old now (front ++ 13 ∷ [])
    → IfSome now (λ ys. (get_or ys 0 0 < 10) ⊎ (10 < get_or ys 0 0)) → IfSome old (λ bytes. begins_right bytes ≡ false)
wrong-return None now front l c w = tt
wrong-return (Some bytes) None front l c w = absurd c
wrong-return (Some bytes) (Some ys) front l c w = not_begun bytes (begins_right bytes) refl (λ b.
    let len : length (front ++ 13 ∷ []) ≡ 9 = omega (arith, length-append front (13 ∷ []), l) in
    let at : get_or bytes 9 0 ≡ get_or ys 0 0 = ap (λ (bs : List ℕ). get_or bs 9 0) c ∙ byte_at (front ++ 13 ∷ []) ys 9 9 len refl in
    let before : get_or bytes 8 0 ≡ 13 = ap (λ (bs : List ℕ). get_or bs 8 0) (c ∙ append_assoc front (13 ∷ []) ys) ∙ byte_at front (13 ∷ ys) 8 8 l refl in
    elim (end_is bytes b) [
      | inl e ↦ absurd (omega (arith, before, e))
      | inr e ↦ elim w [
        | inl low ↦ omega (arith, at, e.1, low)
        | inr high ↦ omega (arith, at, e.1, high)
      ]
    ])

-- ---- bytes that begin right

one_line : (text : List ℕ) (r : Bool) → is_line (record { text = text; has_return = r }) ≡ true → is_filled text ≡ true → is_first_line text ≡ true
    → ((more : List ℕ) → begins_right (line_bytes (record { text = text; has_return = r }) ++ more) ≡ true)
    → HasFront (line_bytes (record { text = text; has_return = r })) (length (line_bytes (record { text = text; has_return = r })))
one_line text r a b c d =
    let bytes = line_bytes (record { text = text; has_return = r }) in
    record {
      lines = record { text = text; has_return = r } ∷ [];
      are_lines = single is_line (record { text = text; has_return = r }) a;
      filled = single is_filled text b;
      first = c;
      within = omega arith;
      spelled = take_all (length bytes) bytes (omega arith) ∙ sym (append-nil bytes);
      unbroken = ap (λ (zs : List ℕ). list_any (nat_eq 10) zs) (drop_all (length bytes) bytes (omega arith));
      begins = d;
    }
  where
    single : {X : Type 0} (p : X → Bool) (x : X) → p x ≡ true → AllPass p (x ∷ [])
    single p x e zero d l = e
    single p x e (suc k) d l = absurd (omega arith)

abbrev BothEnds : List ℕ → Type 0
BothEnds text = HasFront (text ++ 10 ∷ []) (length (text ++ 10 ∷ [])) × HasFront (text ++ 13 ∷ 10 ∷ []) (length (text ++ 13 ∷ 10 ∷ []))

both_49 : BothEnds (digit_line 49)
both_49 = (one_line (digit_line 49) false refl refl refl (λ more. refl), one_line (digit_line 49) true refl refl refl (λ more. refl))

both_50 : BothEnds (digit_line 50)
both_50 = (one_line (digit_line 50) false refl refl refl (λ more. refl), one_line (digit_line 50) true refl refl refl (λ more. refl))

both_51 : BothEnds (digit_line 51)
both_51 = (one_line (digit_line 51) false refl refl refl (λ more. refl), one_line (digit_line 51) true refl refl refl (λ more. refl))

both_52 : BothEnds (digit_line 52)
both_52 = (one_line (digit_line 52) false refl refl refl (λ more. refl), one_line (digit_line 52) true refl refl refl (λ more. refl))

both_53 : BothEnds (digit_line 53)
both_53 = (one_line (digit_line 53) false refl refl refl (λ more. refl), one_line (digit_line 53) true refl refl refl (λ more. refl))

digit_cases : (d : ℕ) → 49 ≤ d → d ≤ 53 → (d ≡ 49) ⊎ ((d ≡ 50) ⊎ ((d ≡ 51) ⊎ ((d ≡ 52) ⊎ (d ≡ 53))))
digit_cases d l h = elim (cases_lt d 50) [
  | inl a ↦ inl (omega arith)
  | inr a ↦ inr (elim (cases_lt d 51) [
    | inl b ↦ inl (omega arith)
    | inr b ↦ inr (elim (cases_lt d 52) [
      | inl c ↦ inl (omega arith)
      | inr c ↦ inr (elim (cases_lt d 53) [
        | inl e ↦ inl (omega arith)
        | inr e ↦ inr (omega arith)
      ])
    ])
  ])
]

both_ends : (d : ℕ) → 49 ≤ d → d ≤ 53 → BothEnds (digit_line d)
both_ends d l h = elim (digit_cases d l h) [
  | inl e ↦ subst (λ (i : ℕ). BothEnds (digit_line i)) (sym e) both_49
  | inr a ↦ elim a [
    | inl e ↦ subst (λ (i : ℕ). BothEnds (digit_line i)) (sym e) both_50
    | inr b ↦ elim b [
      | inl e ↦ subst (λ (i : ℕ). BothEnds (digit_line i)) (sym e) both_51
      | inr c ↦ elim c [
        | inl e ↦ subst (λ (i : ℕ). BothEnds (digit_line i)) (sym e) both_52
        | inr e ↦ subst (λ (i : ℕ). BothEnds (digit_line i)) (sym e) both_53
      ]
    ]
  ]
]

digit_of : (front : List ℕ) → FitsFirst front 8 → (d : ℕ) × (49 ≤ d) × (d ≤ 53) × (front ≡ digit_line d)
digit_of [] f = absurd (omega (arith, f.len))
digit_of (a ∷ []) f = absurd (omega (arith, f.len))
digit_of (a ∷ b ∷ []) f = absurd (omega (arith, f.len))
digit_of (a ∷ b ∷ c ∷ []) f = absurd (omega (arith, f.len))
digit_of (a ∷ b ∷ c ∷ d ∷ []) f = absurd (omega (arith, f.len))
digit_of (a ∷ b ∷ c ∷ d ∷ e ∷ []) f = absurd (omega (arith, f.len))
digit_of (a ∷ b ∷ c ∷ d ∷ e ∷ g ∷ []) f = absurd (omega (arith, f.len))
digit_of (a ∷ b ∷ c ∷ d ∷ e ∷ g ∷ h ∷ []) f = absurd (omega (arith, f.len))
digit_of (a ∷ b ∷ c ∷ d ∷ e ∷ g ∷ h ∷ i ∷ j ∷ rest) f = absurd (omega (arith, f.len))
digit_of (a ∷ b ∷ c ∷ d ∷ e ∷ g ∷ h ∷ i ∷ []) f =
    let p0 : a ≡ 78 = omega (arith, (f.fits 0 (omega arith)).0, (f.fits 0 (omega arith)).1) in
    let p1 : b ≡ 82 = omega (arith, (f.fits 1 (omega arith)).0, (f.fits 1 (omega arith)).1) in
    let p2 : c ≡ 82 = omega (arith, (f.fits 2 (omega arith)).0, (f.fits 2 (omega arith)).1) in
    let p3 : d ≡ 68 = omega (arith, (f.fits 3 (omega arith)).0, (f.fits 3 (omega arith)).1) in
    let p4 : e ≡ 48 = omega (arith, (f.fits 4 (omega arith)).0, (f.fits 4 (omega arith)).1) in
    let p5 : g ≡ 48 = omega (arith, (f.fits 5 (omega arith)).0, (f.fits 5 (omega arith)).1) in
    let p6 : h ≡ 48 = omega (arith, (f.fits 6 (omega arith)).0, (f.fits 6 (omega arith)).1) in
    (i, omega (arith, (f.fits 7 (omega arith)).0), omega (arith, (f.fits 7 (omega arith)).1), cc)

pub front-feed : (front : List ℕ) → FitsFirst front 8 → HasFront (front ++ 10 ∷ []) (length (front ++ 10 ∷ []))
front-feed front f =
    let d = digit_of front f in
    subst (λ (xs : List ℕ). HasFront (xs ++ 10 ∷ []) (length (xs ++ 10 ∷ []))) (sym d.3) (both_ends d.0 d.1 d.2).0

pub front-return : (front : List ℕ) → FitsFirst front 8 → HasFront (front ++ 13 ∷ 10 ∷ []) (length (front ++ 13 ∷ 10 ∷ []))
front-return front f =
    let d = digit_of front f in
    subst (λ (xs : List ℕ). HasFront (xs ++ 13 ∷ 10 ∷ []) (length (xs ++ 13 ∷ 10 ∷ []))) (sym d.3) (both_ends d.0 d.1 d.2).1

-- ---- one byte more

pub FitsFirst-more : {S : Type 0} (rest : S → Option (List ℕ)) (front after : List ℕ) (place : ℕ) (old new : S) → FitsFirst front place
    → TakesFitting rest old new (get_or least_first place 0) (get_or greatest_first place 0) front after
    → FitsFirst after (place + 1)
FitsFirst-more rest front after place old new f t = record {
  len = omega (arith, ap length t.pushed, length-append front (t.byte ∷ []), f.len);
  fits = λ k l. elim (cases_lt k place) [
    | inl below ↦
        (let at : get_or after k 0 ≡ get_or front k 0 = ap (λ (xs : List ℕ). get_or xs k 0) t.pushed
        ∙ get_or_append_left front (t.byte ∷ []) 0 k (omega (arith, f.len)) in
        (omega (arith, at, (f.fits k below).0), omega (arith, at, (f.fits k below).1)))
    | inr here ↦
        (let same : k ≡ place = omega arith in
        let at : get_or after k 0 ≡ t.byte = ap (λ (xs : List ℕ). get_or xs k 0) t.pushed ∙ byte_at front (t.byte ∷ []) place k f.len same in
        subst (λ (i : ℕ). (get_or least_first i 0 ≤ get_or after k 0) × (get_or after k 0 ≤ get_or greatest_first i 0)) (sym same)
        (subst (λ (b : ℕ). (get_or least_first place 0 ≤ b) × (b ≤ get_or greatest_first place 0)) (sym at) (t.above, t.below)))
  ];
}
