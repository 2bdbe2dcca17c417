-- The members of groups: one more, and those of the last group.
use Rattle.std.proofs.Common.{Global, List, [], ap, append-nil, arith, subst, suc, sym, take, zero, ℕ, length, ◌++◌, ◌+◌, ◌<◌, ◌∙◌, ◌∷◌, ◌≡◌}
use Rattle.std.specs.Prelude.{slice_index_or, slice_set, Vec}
use Rattle.std.specs.List.Sorted.{IsPermutation}
use Rattle.std.proofs.lemmas.Grind.{flat_map-append}
use Rattle.std.proofs.lemmas.List.{append_assoc, length-append, take_more}
use Rattle.std.proofs.lemmas.List.Sorted.{IsPermutation-append_comm, IsPermutation-append_left, IsPermutation-append_right}
use Rattle.std.proofs.lemmas.List.Sorted.{IsPermutation-refl, IsPermutation-trans}
use Rattle.mesh_audit.specs.Groups.{members_of}

-- ---- moves

-- what stands in the middle moves to the end
pub to_end : {X : Type 0} (xs ms ys : List X) → IsPermutation ((xs ++ ms) ++ ys) ((xs ++ ys) ++ ms)
to_end {X} xs ms ys =
    subst (λ (l : List X). IsPermutation l ((xs ++ ys) ++ ms)) (sym (append_assoc xs ms ys))
    (subst (IsPermutation (xs ++ (ms ++ ys))) (sym (append_assoc xs ys ms))
    (IsPermutation-append_right xs (ms ++ ys) (ys ++ ms) (IsPermutation-append_comm ms ys)))

-- what was moved, and more
pub moved_more : {X : Type 0} (xs ys us zs : List X) → IsPermutation xs ys → IsPermutation (ys ++ us) zs → IsPermutation (xs ++ us) zs
moved_more xs ys us zs one two = IsPermutation-trans (xs ++ us) (ys ++ us) zs (IsPermutation-append_left us xs ys one) two

-- what stands in the last group is handed on, in another order
pub handed_on : {X : Type 0} (all joined now ms group sorted : List X) → IsPermutation all (joined ++ (ms ++ group)) → IsPermutation group sorted
    → IsPermutation (joined ++ sorted) now → IsPermutation all (now ++ ms)
handed_on {X} all joined now ms group sorted before one two =
    IsPermutation-trans all (joined ++ (ms ++ group)) (now ++ ms) before
    (IsPermutation-trans (joined ++ (ms ++ group)) (joined ++ (ms ++ sorted)) (now ++ ms)
    (IsPermutation-append_right joined (ms ++ group) (ms ++ sorted) (IsPermutation-append_right ms group sorted one))
    (subst (λ (l : List X). IsPermutation l (now ++ ms)) (append_assoc joined ms sorted)
    (IsPermutation-trans ((joined ++ ms) ++ sorted) ((joined ++ sorted) ++ ms) (now ++ ms) (to_end joined ms sorted)
    (IsPermutation-append_left ms (joined ++ sorted) now two))))

-- ---- groups

-- a member at the end of a group is one member more
pub member_more : {T : Type 0} (groups : List (Vec T Global)) (at : ℕ) (before now : Vec T Global) (x : T) → at < length groups
    → before ≡ slice_index_or groups at before → now.items ≡ before.items ++ x ∷ []
    → IsPermutation (members_of groups ++ x ∷ []) (members_of (slice_set groups at now))
member_more [] at before now x h here end = absurd (omega (arith, h))
member_more {T} (g ∷ gs) zero before now x h here end =
    let same : g.items ++ x ∷ [] ≡ now.items = ap (λ (v : Vec T Global). v.items ++ x ∷ []) (sym here) ∙ sym end in
    subst (λ (l : List T). IsPermutation ((g.items ++ members_of gs) ++ x ∷ []) (l ++ members_of gs)) same (to_end g.items (members_of gs) (x ∷ []))
member_more {T} (g ∷ gs) (suc at) before now x h here end =
    let rest = members_of (slice_set gs at now) in
    subst (λ (l : List T). IsPermutation l (g.items ++ rest)) (sym (append_assoc g.items (members_of gs) (x ∷ [])))
    (IsPermutation-append_right g.items (members_of gs ++ x ∷ []) rest (member_more gs at before now x (omega (arith, h)) here end))

-- the members of one group more
pub last_members : {T : Type 0} (old new : List (Vec T Global)) (last : Vec T Global) → old ≡ new ++ last ∷ [] → members_of old ≡ members_of new ++ last.items
last_members {T} old new last e =
    ap members_of e ∙ flat_map-append (λ (g : Vec T Global). g.items) new (last ∷ []) ∙ ap (λ (l : List T). members_of new ++ l) (append-nil last.items)

-- an empty group more
pub none_more : {T : Type 0} (old now : List (Vec T Global)) (empty : Vec T Global) (n : ℕ) → now ≡ old ++ empty ∷ [] → empty.items ≡ []
    → (length old ≡ n) × (members_of old ≡ []) → (length now ≡ n + 1) × (members_of now ≡ [])
none_more {T} old now empty n e none before = (
  ap length e ∙ length-append old (empty ∷ []) ∙ ap (λ (m : ℕ). m + 1) before.0,
  last_members now old empty e ∙ ap (λ (l : List T). l ++ empty.items) before.1 ∙ none,
)

-- ---- steps

-- one member more is put into its group
pub put_more : {T : Type 0} (xs : List T) (old new : List (Vec T Global)) (i : ℕ) (x : T) → i < length xs → x ≡ slice_index_or xs i x
    → IsPermutation (take i xs) (members_of old) → IsPermutation (members_of old ++ x ∷ []) (members_of new)
    → IsPermutation (take (i + 1) xs) (members_of new)
put_more {T} xs old new i x h e before one =
    subst (λ (l : List T). IsPermutation l (members_of new)) (ap (λ (y : T). take i xs ++ y ∷ []) e ∙ sym (take_more xs i x h))
    (moved_more (take i xs) (members_of old) (x ∷ []) (members_of new) before one)

-- the members of the last group are put behind a list, in another order
pub gathered : {T : Type 0} (all joined now sorted : List T) (old new : List (Vec T Global)) (group : Vec T Global) → old ≡ new ++ group ∷ []
    → IsPermutation group.items sorted → now ≡ joined ++ sorted → IsPermutation all (joined ++ members_of old) → IsPermutation all (now ++ members_of new)
gathered {T} all joined now sorted old new group e moved put before =
    handed_on all joined now (members_of new) group.items sorted
    (subst (λ (l : List T). IsPermutation all (joined ++ l)) (last_members old new group e) before) moved
    (subst (IsPermutation (joined ++ sorted)) (sym put) (IsPermutation-refl (joined ++ sorted)))

-- the same by way of small groups
pub gathered_small : {T : Type 0} (all joined now : List T) (old new small : List (Vec T Global)) (group : Vec T Global) → old ≡ new ++ group ∷ []
    → IsPermutation group.items (members_of small) → IsPermutation (joined ++ members_of small) now → IsPermutation all (joined ++ members_of old)
    → IsPermutation all (now ++ members_of new)
gathered_small {T} all joined now old new small group e moved put before =
    handed_on all joined now (members_of new) group.items (members_of small)
    (subst (λ (l : List T). IsPermutation all (joined ++ l)) (last_members old new group e) before) moved put

-- no group is left
pub all_gathered : {T : Type 0} (all joined : List T) (groups : List (Vec T Global)) → length groups ≡ 0 → IsPermutation all (joined ++ members_of groups)
    → IsPermutation all joined
all_gathered all joined [] e moved = subst (IsPermutation all) (append-nil joined) moved
all_gathered all joined (g ∷ gs) e moved = absurd (omega (arith, e))
