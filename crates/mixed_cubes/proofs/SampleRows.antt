-- The mixed cubes of a row, one cube at a time.
use Rattle.std.proofs.Common.{◌≡◌, ℕ, zero, suc, ◌+◌, Bool, true, false, not, List, [], ◌∷◌, ◌++◌, refl, sym, ap, ◌∙◌, arith, append_assoc, ℤ, int_le}
use Rattle.std.specs.Prelude.{map, filter, ◌&&◌, ◌||◌, if◌then◌else◌}
use Rattle.std.specs.List.{range_with_len, list_any}
use Rattle.std.proofs.lemmas.List.{map-append}
use Rattle.std.proofs.lemmas.List.Elements.{filter-append}
use Rattle.std.proofs.lemmas.List.Folds.{list_any-append}
use Rattle.mixed_cubes.specs.CubeFaces.{face_samples, is_mixed_from}

-- numbers that follow on one another
pub range_joined : (a m n : ℕ) → range_with_len a (m + n) ≡ range_with_len a m ++ range_with_len (a + m) n
range_joined a zero n =
    let none : 0 + n ≡ n = omega arith in
    let same : a ≡ a + 0 = omega arith in
    ap (range_with_len a) none ∙ ap (λ (k : ℕ). range_with_len k n) same
range_joined a (suc m) n =
    let whole : suc m + n ≡ suc (m + n) = omega arith in
    let next : (a + 1) + m ≡ a + suc m = omega arith in
    ap (range_with_len a) whole ∙ ap (λ (xs : List ℕ). a ∷ xs) (range_joined (a + 1) m n ∙ ap (λ (k : ℕ). range_with_len (a + 1) m ++ range_with_len k n) next)

-- a row so far, with one cube more
pub one_more : {X : Type 0} (f : ℕ → X) (P : ℕ → Bool) (old items new : List X) (x : X) (a n : ℕ) (b : Bool)
    → items ≡ old ++ map f (filter P (range_with_len a n)) → b ≡ P (a + n) → x ≡ f (a + n) → new ≡ items ++ (if b then x ∷ [] else []) →
    new ≡ old ++ map f (filter P (range_with_len a (n + 1)))
one_more {X} f P old items new x a n b before test at after =
    let last : map f (filter P ((a + n) ∷ [])) ≡ (if b then x ∷ [] else []) = rw (sym test) (chosen b) in
    let whole : map f (filter P (range_with_len a (n + 1))) ≡ map f (filter P (range_with_len a n)) ++ map f (filter P ((a + n) ∷ [])) =
    ap (λ (ns : List ℕ). map f (filter P ns)) (range_joined a n 1) ∙ ap (map f) (filter-append P (range_with_len a n) ((a + n) ∷ []))
    ∙ map-append f (filter P (range_with_len a n)) (filter P ((a + n) ∷ [])) in
    let grouped :
    (old ++ map f (filter P (range_with_len a n))) ++ (if b then x ∷ [] else [])
    ≡ old ++ (map f (filter P (range_with_len a n)) ++ (if b then x ∷ [] else [])) =
    rw append_assoc refl in
    after ∙ ap (λ (xs : List X). xs ++ (if b then x ∷ [] else [])) before
    ∙ grouped ∙ ap (λ (xs : List X). old ++ (map f (filter P (range_with_len a n)) ++ xs)) (sym last) ∙ ap (λ (xs : List X). old ++ xs) (sym whole)
  where
    chosen : (t : Bool) → map f (if t then (a + n) ∷ [] else []) ≡ (if t then x ∷ [] else [])
    chosen true = ap (λ (y : X). y ∷ []) (sym at)
    chosen false = refl

-- the signs of the two faces of a cube tell whether it is mixed
pub by_signs : (iso : ℤ) (samples : List ℤ) (steps : List ℕ) (first next : ℕ) (near_above near_below far_above far_below mixed : Bool) → next ≡ first + 1
    → near_above ≡ list_any (λ s. int_le iso s) (face_samples samples steps first)
    → near_below ≡ list_any (λ s. not (int_le iso s)) (face_samples samples steps first)
    → far_above ≡ list_any (λ s. int_le iso s) (face_samples samples steps next)
    → far_below ≡ list_any (λ s. not (int_le iso s)) (face_samples samples steps next)
    → mixed ≡ ((near_above || far_above) && (near_below || far_below)) → mixed ≡ is_mixed_from iso samples steps first
by_signs iso samples steps first next na nb fa fb mixed at an bn af bf is =
    let far : face_samples samples steps next ≡ face_samples samples steps (first + 1) = ap (face_samples samples steps) at in
    let above : list_any (λ s. int_le iso s) (face_samples samples steps first ++ face_samples samples steps (first + 1)) ≡ (na || fa) =
    list_any-append (λ s. int_le iso s) (face_samples samples steps first) (face_samples samples steps (first + 1))
    ∙ ap (λ (b : Bool). b || list_any (λ s. int_le iso s) (face_samples samples steps (first + 1))) (sym an)
    ∙ ap (λ (xs : List ℤ). na || list_any (λ s. int_le iso s) xs) (sym far) ∙ ap (λ (b : Bool). na || b) (sym af) in
    let below : list_any (λ s. not (int_le iso s)) (face_samples samples steps first ++ face_samples samples steps (first + 1)) ≡ (nb || fb) =
    list_any-append (λ s. not (int_le iso s)) (face_samples samples steps first) (face_samples samples steps (first + 1))
    ∙ ap (λ (b : Bool). b || list_any (λ s. not (int_le iso s)) (face_samples samples steps (first + 1))) (sym bn)
    ∙ ap (λ (xs : List ℤ). nb || list_any (λ s. not (int_le iso s)) xs) (sym far) ∙ ap (λ (b : Bool). nb || b) (sym bf) in
    is ∙ ap (λ (b : Bool). b && (nb || fb)) (sym above)
    ∙ ap (λ (b : Bool). list_any (λ s. int_le iso s) (face_samples samples steps first ++ face_samples samples steps (first + 1)) && b)
    (sym below)
