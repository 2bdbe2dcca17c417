-- What is added to a list of edges.
use Rattle.std.proofs.Common.{◌≡◌, ℕ, ◌+◌, ◌-◌, ◌*◌, ◌^◌, ◌<◌, Bool, true, false, List, [], ◌∷◌, ◌++◌, length, refl, sym, ◌∙◌, subst, arith, inl, inr}
use Rattle.std.specs.Prelude.{◌⊎◌, ◌↔◌, ◌||◌, slice_index, Contains, if◌then◌else◌}
use Rattle.std.specs.List.{list_any}
use Rattle.std.proofs.lemmas.Bool.{false≢true, cases_lt}
use Rattle.std.proofs.lemmas.Nat.Bits.{bit_at-zero, bit_at_ones}
use Rattle.grid_split.specs.declared.split.Edge.{Edge}
use Rattle.iso_model.specs.declared.Kind.{Kind}
use Rattle.iso_model.specs.Cells.{edge_ends}
use Rattle.iso_model.specs.Splits as Splits
use Rattle.iso_model.specs.Bipolar.{is_bipolar_in}
use Rattle.iso_model.specs.Values.{Volume, label_of}
use Rattle.edge_vertex.specs.EdgeValue.{edge_of, edges_of, Adds, IsBipolarAt, IsBipolarOf, IsBipolarFrom}
use Rattle.lists.specs.Bits.{is_set}
use Rattle.lists.proofs.Contained.{Contains-head, Contains-tail, Contains-split, none_contained}
use Rattle.iso_model.proofs.SignLaws.{same_signs}

-- ---- an edge that is put in

any_has : {D : ℕ} (E : Edge D → Bool) (x : Edge D) (ks : List (Edge D)) → ((y : Edge D) → E y ≡ true → x ≡ y) → list_any E ks ≡ true
    → Contains (edges_of ks) (edge_of x)
any_has E x [] same h = absurd (false≢true h)
any_has {D} E x (y ∷ ks) same h = go (E y) (λ e. same y e) (λ g. any_has E x ks same g) h
  where
    go : (b : Bool) → (b ≡ true → x ≡ y) → (list_any E ks ≡ true → Contains (edges_of ks) (edge_of x)) → (b || list_any E ks) ≡ true
        → Contains (edges_of (y ∷ ks)) (edge_of x)
    go true f later g = subst (λ (z : Edge D). Contains (edges_of (y ∷ ks)) (edge_of z)) (sym (f refl)) (Contains-head (edge_of y) (edges_of ks))
    go false f later g = Contains-tail (edge_of x) (edge_of y) (edges_of ks) (later g)

adds_last : {D : ℕ} (x : Edge D) (ks : List (Edge D)) → Adds (λ e. edge_of x ≡ e) (edges_of ks) (edges_of (ks ++ x ∷ []))
adds_last x [] e = (
  λ c. elim (Contains-split e (edge_of x) [] c) as (λ _. Contains [] e ⊎ (edge_of x ≡ e)) [ inl same ↦ inr same | inr c' ↦ inl c' ],
  λ c.
      elim c as (λ _. Contains (edge_of x ∷ []) e) [
        | inl c' ↦ absurd (none_contained e c')
        | inr same ↦ subst (λ (z : Splits.Edge). Contains (edge_of x ∷ []) z) same
            (Contains-head (edge_of x) [])
      ],
)
adds_last x (y ∷ ks) e = (
  λ c. elim (Contains-split e (edge_of y) (edges_of (ks ++ x ∷ [])) c) as (λ _. Contains (edges_of (y ∷ ks)) e ⊎ (edge_of x ≡ e)) [
    | inl same ↦ inl (subst (λ (z : Splits.Edge). Contains (edges_of (y ∷ ks)) z) same (Contains-head (edge_of y) (edges_of ks)))
    | inr m ↦ elim ((adds_last x ks e).0 m) as (λ _. Contains (edges_of (y ∷ ks)) e ⊎ (edge_of x ≡ e)) [
      | inl n ↦ inl (Contains-tail e (edge_of y) (edges_of ks) n)
      | inr same ↦ inr same
    ]
  ],
  λ c. elim c as (λ _. Contains (edges_of (y ∷ (ks ++ x ∷ []))) e) [
    | inl c' ↦ elim (Contains-split e (edge_of y) (edges_of ks) c') as (λ _. Contains (edges_of (y ∷ (ks ++ x ∷ []))) e) [
      | inl same ↦ subst (λ (z : Splits.Edge). Contains (edges_of (y ∷ (ks ++ x ∷ []))) z) same (Contains-head (edge_of y) (edges_of (ks ++ x ∷ [])))
      | inr m ↦ Contains-tail e (edge_of y) (edges_of (ks ++ x ∷ [])) ((adds_last x ks e).1 (inl m))
    ]
    | inr same ↦ Contains-tail e (edge_of y) (edges_of (ks ++ x ∷ [])) ((adds_last x ks e).1 (inr same))
  ],
)

pub insert_adds : {D : ℕ} (E : Edge D → Bool) (x : Edge D) (ks new : List (Edge D)) → ((y : Edge D) → E y ≡ true → x ≡ y)
    → new ≡ (if list_any E ks then ks else ks ++ x ∷ []) → Adds (λ e. edge_of x ≡ e) (edges_of ks) (edges_of new)
insert_adds {D} E x ks new same is = go (list_any E ks) (λ h. any_has E x ks same h) is
  where
    go : (b : Bool) → (b ≡ true → Contains (edges_of ks) (edge_of x)) → new ≡ (if b then ks else ks ++ x ∷ [])
        → Adds (λ e. edge_of x ≡ e) (edges_of ks) (edges_of new)
    go true f i = λ e. (
      λ c. inl (subst (λ (ys : List (Edge D)). Contains (edges_of ys) e) i c),
      λ c. elim c as (λ _. Contains (edges_of new) e) [
        | inl d ↦ subst (λ (ys : List (Edge D)). Contains (edges_of ys) e) (sym i) d
        | inr s ↦ subst (λ (ys : List (Edge D)). Contains (edges_of ys) e) (sym i) (subst (λ (z : Splits.Edge). Contains (edges_of ks) z) s (f refl))
      ],
    )
    go false f i = subst (λ (ys : List (Edge D)). Adds (λ e. edge_of x ≡ e) (edges_of ks) (edges_of ys)) (sym i) (adds_last x ks)

-- ---- what is added, step by step

pub adds_none : (P : Splits.Edge → Type 0) (old : List Splits.Edge) → ((e : Splits.Edge) → P e → ⊥) → Adds P old old
adds_none P old never e = (λ c. inl c, λ c. elim c as (λ _. Contains old e) [ inl d ↦ d | inr p ↦ absurd (never e p) ])

pub adds_same : (P Q : Splits.Edge → Type 0) (old new : List Splits.Edge) → ((e : Splits.Edge) → P e ↔ Q e) → Adds P old new → Adds Q old new
adds_same P Q old new same a e = (
  λ c. elim ((a e).0 c) as (λ _. Contains old e ⊎ Q e) [ inl d ↦ inl d | inr p ↦ inr ((same e).0 p) ],
  λ c. (a e).1 (elim c as (λ _. Contains old e ⊎ P e) [ inl d ↦ inl d | inr q ↦ inr ((same e).1 q) ]),
)

pub adds_more : (P Q R : Splits.Edge → Type 0) (old mid new : List Splits.Edge) → ((e : Splits.Edge) → R e ↔ (P e ⊎ Q e)) → Adds P old mid
    → Adds Q mid new → Adds R old new
adds_more P Q R old mid new same a b e = (
  λ c. elim ((b e).0 c) as (λ _. Contains old e ⊎ R e) [
    | inl m ↦ elim ((a e).0 m) as (λ _. Contains old e ⊎ R e) [ inl d ↦ inl d | inr p ↦ inr ((same e).1 (inl p)) ]
    | inr q ↦ inr ((same e).1 (inr q))
  ],
  λ c. elim c as (λ _. Contains new e) [
    | inl d ↦ (b e).1 (inl ((a e).1 (inl d)))
    | inr r ↦ elim ((same e).0 r) as (λ _. Contains new e) [ inl p ↦ (b e).1 (inl ((a e).1 (inr p))) | inr q ↦ (b e).1 (inr q) ]
  ],
)

-- one number more
pub one_below : (P : ℕ → Type 0) (n : ℕ) → ((k : ℕ) × (k < n + 1) × P k) ↔ (((k : ℕ) × (k < n) × P k) ⊎ P n)
one_below P n = (
  λ r. elim (cases_lt r.0 n) as (λ _. ((k : ℕ) × (k < n) × P k) ⊎ P n) [
    | inl less ↦ inl (r.0, less, r.2)
    | inr more ↦ inr (let h : r.0 < n + 1 = r.1 in subst P (omega (arith, more, h)) r.2)
  ],
  λ r. elim r as (λ _. (k : ℕ) × (k < n + 1) × P k) [
    | inl b ↦ (b.0, let h : b.0 < n = b.1 in omega (arith, h), b.2)
    | inr p ↦ (n, omega arith, p)
  ],
)

none_below : (P : ℕ → Type 0) → ((k : ℕ) × (k < 0) × P k) → ⊥
none_below P r = let h : r.0 < 0 = r.1 in omega arith

pub no_edges : (kind : Kind) (sizes : List ℕ) (cell label : ℕ) (old : List Splits.Edge) → Adds (IsBipolarOf kind sizes cell label 0) old old
no_edges kind sizes cell label old = adds_none (IsBipolarOf kind sizes cell label 0) old (λ e r. none_below (λ k. IsBipolarAt kind sizes cell label k e) r)

pub next_edge : (kind : Kind) (sizes : List ℕ) (cell label n : ℕ) (old mid new : List Splits.Edge)
    → Adds (IsBipolarOf kind sizes cell label n) old mid → Adds (IsBipolarAt kind sizes cell label n) mid new
    → Adds (IsBipolarOf kind sizes cell label (n + 1)) old new
next_edge kind sizes cell label n old mid new a b =
    adds_more (IsBipolarOf kind sizes cell label n) (IsBipolarAt kind sizes cell label n) (IsBipolarOf kind sizes cell label (n + 1)) old mid new
    (λ e. one_below (λ k. IsBipolarAt kind sizes cell label k e) n) a b

pub at_bipolar : (kind : Kind) (sizes : List ℕ) (cell label n : ℕ) (x : Splits.Edge) (old new : List Splits.Edge)
    → is_bipolar_in kind (length sizes) label n ≡ true → x ≡ Splits.edge kind sizes cell n → Adds (λ e. x ≡ e) old new
    → Adds (IsBipolarAt kind sizes cell label n) old new
at_bipolar kind sizes cell label n x old new so is a =
    adds_same (λ e. x ≡ e) (IsBipolarAt kind sizes cell label n) old new (λ e. (λ s. (so, sym is ∙ s), λ r. is ∙ r.1)) a

pub not_bipolar : (kind : Kind) (sizes : List ℕ) (cell label n : ℕ) (old : List Splits.Edge) → is_bipolar_in kind (length sizes) label n ≡ false
    → Adds (IsBipolarAt kind sizes cell label n) old old
not_bipolar kind sizes cell label n old not_so = adds_none (IsBipolarAt kind sizes cell label n) old (λ e r. false≢true (sym not_so ∙ r.0))

pub no_ranks : (v : Volume) (n first : ℕ) (old : List Splits.Edge) → Adds (IsBipolarFrom v n first 0) old old
no_ranks v n first old =
    adds_none (IsBipolarFrom v n first 0) old
    (λ e r. none_below (λ rank. IsBipolarOf v.kind v.sizes (first + rank) (label_of v (first + rank)) n e) r)

pub next_rank : (v : Volume) (n first rank cell label : ℕ) (old mid new : List Splits.Edge) → cell ≡ first + rank → label ≡ label_of v cell
    → Adds (IsBipolarFrom v n first rank) old mid → Adds (IsBipolarOf v.kind v.sizes cell label n) mid new
    → Adds (IsBipolarFrom v n first (rank + 1)) old new
next_rank v n first rank cell label old mid new at is a b =
    let labelled : Adds (IsBipolarOf v.kind v.sizes cell (label_of v cell) n) mid new =
    subst (λ (l : ℕ). Adds (IsBipolarOf v.kind v.sizes cell l n) mid new) is b in
    let placed : Adds (IsBipolarOf v.kind v.sizes (first + rank) (label_of v (first + rank)) n) mid new =
    subst (λ (c : ℕ). Adds (IsBipolarOf v.kind v.sizes c (label_of v c) n) mid new) at labelled in
    adds_more (IsBipolarFrom v n first rank) (IsBipolarOf v.kind v.sizes (first + rank) (label_of v (first + rank)) n)
    (IsBipolarFrom v n first (rank + 1)) old mid new
    (λ e. one_below (λ r. IsBipolarOf v.kind v.sizes (first + r) (label_of v (first + r)) n e) rank) a placed

-- an edge that is bipolar in a cell of one of the first k cubes of a list, of which each has this many cells
abbrev pub InCubes : Volume → ℕ → ℕ → List ℕ → ℕ → Splits.Edge → Type 0
InCubes v n per cubes k e = (i : ℕ) × (i < k) × IsBipolarFrom v n (slice_index cubes i * per) per e

pub no_cubes : (v : Volume) (n per : ℕ) (cubes : List ℕ) → Adds (InCubes v n per cubes 0) [] []
no_cubes v n per cubes = adds_none (InCubes v n per cubes 0) [] (λ e r. none_below (λ i. IsBipolarFrom v n (slice_index cubes i * per) per e) r)

pub next_cube : (v : Volume) (n per : ℕ) (cubes : List ℕ) (k : ℕ) (mid new : List Splits.Edge) → Adds (InCubes v n per cubes k) [] mid
    → Adds (IsBipolarFrom v n (slice_index cubes k * per) per) mid new → Adds (InCubes v n per cubes (k + 1)) [] new
next_cube v n per cubes k mid new a b =
    adds_more (InCubes v n per cubes k) (IsBipolarFrom v n (slice_index cubes k * per) per) (InCubes v n per cubes (k + 1)) [] mid new
    (λ e. one_below (λ i. IsBipolarFrom v n (slice_index cubes i * per) per e) k) a b

pub from_nothing : (P : Splits.Edge → Type 0) (new : List Splits.Edge) → Adds P [] new → (e : Splits.Edge) → Contains new e ↔ P e
from_nothing P new a e = (
  λ c. elim ((a e).0 c) as (λ _. P e) [ inl d ↦ absurd (none_contained e d) | inr p ↦ p ],
  λ p. (a e).1 (inr p),
)

-- ---- labels with one sign

-- where all corners are negative, and where all are positive, no edge is bipolar
pub none_negative : (kind : Kind) (sizes : List ℕ) (cell label n : ℕ) (e : Splits.Edge) → label ≡ 0 → IsBipolarOf kind sizes cell label n e → ⊥
none_negative kind sizes cell label n e zero_label r =
    let ends = edge_ends kind (length sizes) r.0 in
    false≢true (sym (same_signs (is_set label ends.0) (is_set label ends.1) (unset ends.0 ∙ sym (unset ends.1))) ∙ r.2.0)
  where
    unset : (k : ℕ) → is_set label k ≡ false
    unset k = rw (zero_label, bit_at-zero k) refl

pub none_positive : (kind : Kind) (sizes : List ℕ) (cell label n corners : ℕ) (e : Splits.Edge) → label + 1 ≡ 2 ^ corners
    → ((k : ℕ) → k < n → ((edge_ends kind (length sizes) k).0 < corners) × ((edge_ends kind (length sizes) k).1 < corners))
    → IsBipolarOf kind sizes cell label n e → ⊥
none_positive kind sizes cell label n corners e full inside r =
    let ends = edge_ends kind (length sizes) r.0 in
    let here = inside r.0 r.1 in
    false≢true (sym (same_signs (is_set label ends.0) (is_set label ends.1) (put ends.0 here.0 ∙ sym (put ends.1 here.1))) ∙ r.2.0)
  where
    is : label ≡ 2 ^ corners - 1
    is = omega (arith, full)

    put : (k : ℕ) → k < corners → is_set label k ≡ true
    put k h = rw (is, bit_at_ones corners k h) refl

pub all_positive : (kind : Kind) (sizes : List ℕ) (cell label n corners : ℕ) (old : List Splits.Edge) → label + 1 ≡ 2 ^ corners
    → ((k : ℕ) → k < n → ((edge_ends kind (length sizes) k).0 < corners) × ((edge_ends kind (length sizes) k).1 < corners))
    → Adds (IsBipolarOf kind sizes cell label n) old old
all_positive kind sizes cell label n corners old full inside =
    adds_none (IsBipolarOf kind sizes cell label n) old (λ e r. none_positive kind sizes cell label n corners e full inside r)

pub all_negative : (kind : Kind) (sizes : List ℕ) (cell label n : ℕ) (old : List Splits.Edge) → label ≡ 0 → Adds (IsBipolarOf kind sizes cell label n) old old
all_negative kind sizes cell label n old zero_label =
    adds_none (IsBipolarOf kind sizes cell label n) old (λ e r. none_negative kind sizes cell label n e zero_label r)
