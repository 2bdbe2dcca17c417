-- One more member of a list: what loops over lists keep.
use Rattle.std.specs.Prelude.{◌≡◌, ℕ, pos, suc, ◌+◌, ◌*◌, ◌^◌, ◌<◌, ◌≤◌, Bool, true, false, List, [], ◌∷◌, ◌++◌, map, filter, length, if◌then◌else◌}
use Rattle.std.proofs.Common.{get_or, take, drop, refl, sym, ap, ◌∙◌, subst, arith}
use Rattle.std.proofs.lemmas.List.{take_more, take-append-drop, map-append, append-nil, length-take-le}
use Rattle.std.proofs.lemmas.List.Elements.{filter-append}
use Rattle.std.proofs.lemmas.Nat.{pow-add}
use Rattle.lists.specs.Orders.{numbers}
use Rattle.face_tallies.specs.declared.faces.FaceTally.{FaceTally}
use Rattle.seam_traces.specs.Traces.{number_of_bits, places}
use Rattle.seam_traces.specs.TallyLists.{is_within, placed, tallies_in, tally_across, tallies_across}
use Rattle.lists.specs.Bits.{is_set}
use Rattle.lists.proofs.MemberLaws.{range-push, length_map}

-- a tally for places past the end of a list
abbrev pub blank : FaceTally
blank = record { edges = 0; count = 0; sum = pos 0 }

filter-push : {X : Type 0} (p : X → Bool) (xs : List X) (x : X) → filter p (xs ++ x ∷ []) ≡ filter p xs ++ (if p x then x ∷ [] else [])
filter-push p [] x = refl
filter-push {X} p (y ∷ xs) x = elim (p y) as
    (λ b. (if b then y ∷ filter p (xs ++ x ∷ []) else filter p (xs ++ x ∷ [])) ≡ (if b then y ∷ filter p xs else filter p xs) ++ (if p x then x ∷ [] else [])) [
      | true ↦ ap (λ l. y ∷ l) (filter-push p xs x)
      | false ↦ filter-push p xs x
    ]

-- ---- members of a set

pub members_more : (set n : ℕ) (b : Bool) → b ≡ is_set set n
    → filter (is_set set) (numbers (n + 1)) ≡ filter (is_set set) (numbers n) ++ (if b then n ∷ [] else [])
members_more set n b e =
    ap (filter (is_set set)) (range-push 0 n) ∙ filter-push (is_set set) (numbers n) (0 + n)
    ∙ (let f : 0 + n ≡ n = omega arith in ap (λ k. filter (is_set set) (numbers n) ++ (if is_set set k then k ∷ [] else [])) f)
    ∙ ap (λ (t : Bool). filter (is_set set) (numbers n) ++ (if t then n ∷ [] else [])) (sym e)

-- ---- places

bits-push : (bs : List Bool) (b : Bool) → number_of_bits (bs ++ b ∷ []) ≡ number_of_bits bs + (if b then 2 ^ length bs else 0)
bits-push [] true = refl
bits-push [] false = refl
bits-push (c ∷ bs) true =
    let r = bits-push bs true in
    let p : 2 ^ suc (length bs) ≡ 2 * 2 ^ length bs =
    let q = pow-add 2 1 (length bs) in let e : 1 + length bs ≡ suc (length bs) = omega arith in ap (λ (n : ℕ). 2 ^ n) (sym e) ∙ q in
    omega (arith, r, p)
bits-push (c ∷ bs) false = let r = bits-push bs false in omega (arith, r)

pub places_more : (members : List ℕ) (i set d : ℕ) (b : Bool) → i < length members → b ≡ is_set set (get_or members i d)
    → places (take (i + 1) members) set ≡ places (take i members) set + (if b then 2 ^ i else 0)
places_more members i set d b inside e =
    ap (λ l. number_of_bits (map (is_set set) l)) (take_more members i d inside)
    ∙ ap number_of_bits (map-append (is_set set) (take i members) (get_or members i d ∷ []))
    ∙ bits-push (map (is_set set) (take i members)) (is_set set (get_or members i d))
    ∙ ap (λ n. places (take i members) set + (if is_set set (get_or members i d) then 2 ^ n else 0))
    (length_map (is_set set) (take i members) ∙ length-take-le i members (omega arith))
    ∙ ap (λ (t : Bool). places (take i members) set + (if t then 2 ^ i else 0)) (sym e)

-- ---- tallies

tallies_in-push : (edges : List ℕ) (ts : List FaceTally) (t : FaceTally)
    → tallies_in edges (ts ++ t ∷ []) ≡ tallies_in edges ts ++ (if is_within edges t.edges then placed edges t ∷ [] else [])
tallies_in-push edges ts t =
    let p = λ (u : FaceTally). is_within edges u.edges in
    ap (map (placed edges)) (filter-push p ts t) ∙ map-append (placed edges) (filter p ts) (if p t then t ∷ [] else [])
    ∙ ap (λ l. tallies_in edges ts ++ l) (mapped (p t))
  where
    mapped : (b : Bool) → map (placed edges) (if b then t ∷ [] else []) ≡ (if b then placed edges t ∷ [] else [])
    mapped true = refl
    mapped false = refl

pub tallies_more : (edges : List ℕ) (ts : List FaceTally) (i : ℕ) (d : FaceTally) (b : Bool) → i < length ts → b ≡ is_within edges (get_or ts i d).edges
    → tallies_in edges (take (i + 1) ts) ≡ tallies_in edges (take i ts) ++ (if b then placed edges (get_or ts i d) ∷ [] else [])
tallies_more edges ts i d b inside e =
    ap (tallies_in edges) (take_more ts i d inside) ∙ tallies_in-push edges (take i ts) (get_or ts i d)
    ∙ ap (λ (c : Bool). tallies_in edges (take i ts) ++ (if c then placed edges (get_or ts i d) ∷ [] else [])) (sym e)

tallies_in-append : (edges : List ℕ) (ts us : List FaceTally) → tallies_in edges (ts ++ us) ≡ tallies_in edges ts ++ tallies_in edges us
tallies_in-append edges ts us =
    let p = λ (u : FaceTally). is_within edges u.edges in
    ap (map (placed edges)) (filter-append p ts us) ∙ map-append (placed edges) (filter p ts) (filter p us)

-- ---- the walk along kept tallies

-- the place of a member behind a part
behind : {X : Type 0} (pre : List X) (y : X) (rest : List X) (z : X) → get_or ((pre ++ y ∷ []) ++ rest) (length pre) z ≡ y
behind [] y rest z = refl
behind (x ∷ pre) y rest z = behind pre y rest z

behind_length : {X : Type 0} (pre : List X) (y : X) (rest : List X) → length pre < length ((pre ++ y ∷ []) ++ rest)
behind_length [] y rest = omega arith
behind_length (x ∷ pre) y rest = let r = behind_length pre y rest in omega arith

-- the kept tallies have one more, where they are the tallies across a seam
next_kept : (same : Bool) (edges : List ℕ) (kept ts : List FaceTally) (i next : ℕ) (d z : FaceTally) → i < length ts
    → true ≡ is_within edges (get_or ts i d).edges
    → next ≤ length kept → take next kept ≡ tallies_across same (tallies_in edges (take i ts)) → kept ≡ tallies_across same (tallies_in edges ts)
    → (next < length kept) × (get_or kept next z ≡ tally_across same (placed edges (get_or ts i d)))
next_kept same edges kept ts i next d z inside within few so_far h =
    let y = tally_across same (placed edges (get_or ts i d)) in
    let pre = take next kept in
    let rest = tallies_across same (tallies_in edges (drop (i + 1) ts)) in
    let parts : tallies_in edges ts ≡ (tallies_in edges (take i ts) ++ placed edges (get_or ts i d) ∷ []) ++ tallies_in edges (drop (i + 1) ts) =
    ap (tallies_in edges) (sym (take-append-drop (i + 1) ts)) ∙ tallies_in-append edges (take (i + 1) ts) (drop (i + 1) ts)
    ∙ ap (λ l. l ++ tallies_in edges (drop (i + 1) ts)) (tallies_more edges ts i d true inside within) in
    let whole : kept ≡ (pre ++ y ∷ []) ++ rest =
    h ∙ ap (tallies_across same) parts
    ∙ map-append (tally_across same) (tallies_in edges (take i ts) ++ placed edges (get_or ts i d) ∷ []) (tallies_in edges (drop (i + 1) ts))
    ∙ ap (λ l. l ++ rest) (map-append (tally_across same) (tallies_in edges (take i ts)) (placed edges (get_or ts i d) ∷ []))
    ∙ ap (λ l. (l ++ y ∷ []) ++ rest) (sym so_far) in
    let wide : length pre ≡ next = length-take-le next kept few in
    let less : length pre < length kept = subst (λ (l : List FaceTally). length pre < length l) (sym whole) (behind_length pre y rest) in
    let at : get_or kept (length pre) z ≡ y = ap (λ l. get_or l (length pre) z) whole ∙ behind pre y rest z in
    (subst (λ n. n < length kept) wide less, subst (λ n. get_or kept n z ≡ y) wide at)

pub none_left : (same : Bool) (edges : List ℕ) (kept ts : List FaceTally) (i next : ℕ) (d : FaceTally) → i < length ts
    → true ≡ is_within edges (get_or ts i d).edges
    → next ≤ length kept → take next kept ≡ tallies_across same (tallies_in edges (take i ts)) → next ≡ length kept
    → kept ≡ tallies_across same (tallies_in edges ts) → ⊥
none_left same edges kept ts i next d inside within few so_far e h =
    let less = (next_kept same edges kept ts i next d d inside within few so_far h).0 in omega arith

pub other_kept : (same : Bool) (edges : List ℕ) (kept ts : List FaceTally) (i next : ℕ) (d z : FaceTally) → i < length ts
    → true ≡ is_within edges (get_or ts i d).edges
    → next ≤ length kept → take next kept ≡ tallies_across same (tallies_in edges (take i ts))
    → (get_or kept next z ≡ tally_across same (placed edges (get_or ts i d)) → ⊥)
    → kept ≡ tallies_across same (tallies_in edges ts) → ⊥
other_kept same edges kept ts i next d z inside within few so_far differs h = differs (next_kept same edges kept ts i next d z inside within few so_far h).1

pub kept_more : (same : Bool) (edges : List ℕ) (kept ts : List FaceTally) (i next : ℕ) (d z : FaceTally) → i < length ts
    → true ≡ is_within edges (get_or ts i d).edges
    → next < length kept → take next kept ≡ tallies_across same (tallies_in edges (take i ts))
    → get_or kept next z ≡ tally_across same (placed edges (get_or ts i d))
    → take (next + 1) kept ≡ tallies_across same (tallies_in edges (take (i + 1) ts))
kept_more same edges kept ts i next d z inside within less so_far e =
    take_more kept next z less
    ∙ ap (λ l. l ++ get_or kept next z ∷ []) so_far
    ∙ ap (λ y. tallies_across same (tallies_in edges (take i ts)) ++ y ∷ []) e
    ∙ sym (map-append (tally_across same) (tallies_in edges (take i ts)) (placed edges (get_or ts i d) ∷ []))
    ∙ sym (ap (tallies_across same) (tallies_more edges ts i d true inside within))

pub kept_same : (same : Bool) (edges : List ℕ) (kept ts : List FaceTally) (i next : ℕ) (d : FaceTally) → i < length ts
    → false ≡ is_within edges (get_or ts i d).edges
    → take next kept ≡ tallies_across same (tallies_in edges (take i ts)) → take next kept ≡ tallies_across same (tallies_in edges (take (i + 1) ts))
kept_same same edges kept ts i next d inside within so_far =
    so_far ∙ sym (ap (tallies_across same) (tallies_more edges ts i d false inside within ∙ append-nil (tallies_in edges (take i ts))))
