-- What begins with the bytes of a table, or of some entries, begins with the bytes of no other.
use Rattle.std.specs.Prelude.{◌≡◌, ℕ, suc, ◌/◌, ◌%◌, ◌^◌, ◌<◌, ◌≤◌, List, [], ◌∷◌, ◌++◌, flat_map, length, slice_index, take, drop, All}
use Rattle.std.proofs.Common.{refl, sym, ap, ◌∙◌, subst, arith, inr}
use Rattle.std.proofs.lemmas.List.{append_assoc, append-nil, take-append-drop, length-take-le, length-drop, length-append}
use Rattle.std.proofs.Math.Seq.{take-append_seam}
use Rattle.iso_model.specs.declared.Kind.{Kind}
use Rattle.iso_model.specs.declared.Kind.TheVariants.{Cube, Simplex, Pyramid}
use Rattle.iso_model.specs.Cells.{label_count}
use Rattle.iso_model.specs.Tables.{Table, IsTable, IsEntry, IsTuple}
use Rattle.iso_formats.specs.TableFile.{table_bytes, entry_bytes, kind_byte, IsWholeTable, short_fault, extra_fault, HasTableFault}
use Rattle.std.proofs.lemmas.List.Elements.{All-head, All-tail}

-- lists of one length at the front of one list
pub same_front : (xs ys us vs : List ℕ) → length xs ≡ length ys → xs ++ us ≡ ys ++ vs → (xs ≡ ys) × (us ≡ vs)
same_front [] [] us vs l e = (refl, e)
same_front [] (y ∷ ys) us vs l e = absurd (omega arith)
same_front (x ∷ xs) [] us vs l e = absurd (omega arith)
same_front (x ∷ xs) (y ∷ ys) us vs l e =
    let r = same_front xs ys us vs (omega arith) (ap (drop 1) e) in
    let h = ap (λ (l : List ℕ). slice_index l 0) e in
    (cc, r.1)

-- as many tuples
tuples_again : (kind : Kind) (d : ℕ) (ws vs : List (List ℕ)) (x y : List ℕ) → length ws ≡ length vs → All (IsTuple kind d) ws → All (IsTuple kind d) vs
    → flat_map (λ w. w) ws ++ x ≡ flat_map (λ w. w) vs ++ y → (ws ≡ vs) × (x ≡ y)
tuples_again kind d [] [] x y l a b e = (refl, e)
tuples_again kind d [] (v ∷ vs) x y l a b e = absurd (omega arith)
tuples_again kind d (w ∷ ws) [] x y l a b e = absurd (omega arith)
tuples_again kind d (w ∷ ws) (v ∷ vs) x y l a b e =
    let f =
    same_front w v _ _ ((All-head (IsTuple kind d) w ws a).0 ∙ sym (All-head (IsTuple kind d) v vs b).0)
    (sym (append_assoc w _ x) ∙ e ∙ append_assoc v _ y) in
    let r = tuples_again kind d ws vs x y (omega arith) (All-tail (IsTuple kind d) w ws a) (All-tail (IsTuple kind d) v vs b) f.1 in
    let h = f.0 in let t = r.0 in
    (cc, r.1)

pub same_count : (m n : ℕ) → m ≤ 2 ^ 28 → n ≤ 2 ^ 28 → m / 16777216 % 256 ≡ n / 16777216 % 256 → m / 65536 % 256 ≡ n / 65536 % 256
    → m / 256 % 256 ≡ n / 256 % 256 → m % 256 ≡ n % 256 → m ≡ n
same_count m n a b c d e f = omega arith

-- one entry
pub entry_again : (kind : Kind) (d : ℕ) (ws vs : List (List ℕ)) (x y : List ℕ) → IsEntry kind d ws → IsEntry kind d vs
    → entry_bytes ws ++ x ≡ entry_bytes vs ++ y → (ws ≡ vs) × (x ≡ y)
entry_again kind d ws vs x y a b e =
    tuples_again kind d ws vs x y
    (same_count (length ws) (length vs) a.0 b.0 (ap (λ (l : List ℕ). slice_index l 0) e) (ap (λ (l : List ℕ). slice_index l 1) e)
    (ap (λ (l : List ℕ). slice_index l 2) e) (ap (λ (l : List ℕ). slice_index l 3) e))
    a.1 b.1 (ap (drop 4) e)

-- entries before others: the longer list goes on from the shorter one
pub record GoesOn (es fs : List (List (List ℕ))) (x y : List ℕ) : Type 0 where
  pub further : List (List (List ℕ))
  pub is : fs ≡ es ++ further
  pub rest : x ≡ flat_map entry_bytes further ++ y

pub entries_go_on : (kind : Kind) (d : ℕ) (es fs : List (List (List ℕ))) (x y : List ℕ) → length es ≤ length fs → All (IsEntry kind d) es
    → All (IsEntry kind d) fs
    → flat_map entry_bytes es ++ x ≡ flat_map entry_bytes fs ++ y → GoesOn es fs x y
entries_go_on kind d [] fs x y l a b e = record { further = fs; is = refl; rest = e }
entries_go_on kind d (ws ∷ es) [] x y l a b e = absurd (omega arith)
entries_go_on kind d (ws ∷ es) (vs ∷ fs) x y l a b e =
    let f =
    entry_again kind d ws vs _ _ (All-head (IsEntry kind d) ws es a) (All-head (IsEntry kind d) vs fs b)
    (sym (append_assoc (entry_bytes ws) _ x) ∙ e ∙ append_assoc (entry_bytes vs) _ y) in
    let r = entries_go_on kind d es fs x y (omega arith) (All-tail (IsEntry kind d) ws es a) (All-tail (IsEntry kind d) vs fs b) f.1 in
    let h = f.0 in let t = r.is in
    record { further = r.further; is = cc; rest = r.rest }

pub same_kind : (k l : Kind) → kind_byte k ≡ kind_byte l → k ≡ l
same_kind Cube Cube e = refl
same_kind Cube Simplex e = absurd (omega arith)
same_kind Cube Pyramid e = absurd (omega arith)
same_kind Simplex Cube e = absurd (omega arith)
same_kind Simplex Simplex e = refl
same_kind Simplex Pyramid e = absurd (omega arith)
same_kind Pyramid Cube e = absurd (omega arith)
same_kind Pyramid Simplex e = absurd (omega arith)
same_kind Pyramid Pyramid e = refl

-- a table behind a head and its first entries, or the whole of them
pub record ReadsOn (kind : Kind) (d : ℕ) (es : List (List (List ℕ))) (u : Table) (x y : List ℕ) : Type 0 where
  pub same_kind_of : kind ≡ u.kind
  pub same_dimension : d ≡ u.dimension
  pub sound : All (IsEntry kind d) u.entries
  pub on : GoesOn es u.entries x y

pub table_reads_on : (kind : Kind) (d : ℕ) (es : List (List (List ℕ))) (u : Table) (x y : List ℕ) → IsTable u → All (IsEntry kind d) es
    → length es ≤ label_count kind d
    → table_bytes (record { kind = kind; dimension = d; entries = es }) ++ x ≡ table_bytes u ++ y → ReadsOn kind d es u x y
unfolding table_bytes
table_reads_on kind d es u x y is sound l e =
    let k = same_kind kind u.kind (ap (λ (b : List ℕ). slice_index b 8) e) in
    let n = ap (λ (b : List ℕ). slice_index b 9) e in
    let s = subst (λ (c : Kind). All (IsEntry c d) u.entries) (sym k) (subst (λ (c : ℕ). All (IsEntry u.kind c) u.entries) (sym n) is.sound) in
    let c = subst (λ (c : Kind). length es ≤ label_count c u.dimension) k (subst (λ (c : ℕ). length es ≤ label_count kind c) n l) in
    record {
      same_kind_of = k;
      same_dimension = n;
      sound = s;
      on = entries_go_on kind d es u.entries x y (subst (λ (m : ℕ). length es ≤ m) (sym is.whole) c) sound s (ap (drop 16) e);
    }

-- two heads and what follows them
pub record SameHeads (k : Kind) (d : ℕ) (k' : Kind) (d' : ℕ) (es fs : List (List (List ℕ))) (x y : List ℕ) : Type 0 where
  pub kinds : k ≡ k'
  pub dimensions : d ≡ d'
  pub rests : flat_map entry_bytes es ++ x ≡ flat_map entry_bytes fs ++ y

pub heads_same : (k : Kind) (d : ℕ) (k' : Kind) (d' : ℕ) (es fs : List (List (List ℕ))) (x y : List ℕ)
    → table_bytes (record { kind = k; dimension = d; entries = es }) ++ x ≡ table_bytes (record { kind = k'; dimension = d'; entries = fs }) ++ y
    → SameHeads k d k' d' es fs x y
unfolding table_bytes
heads_same k d k' d' es fs x y e =
    record { kinds = same_kind k k' (ap (λ (b : List ℕ). slice_index b 8) e); dimensions = ap (λ (b : List ℕ). slice_index b 9) e; rests = ap (drop 16) e }

-- a table that is cut off is none, and its fault stands at its end
pub not_whole-cut : (t : Table) (n : ℕ) → IsTable t → n < length (table_bytes t) → ¬ IsWholeTable (take n (table_bytes t))
not_whole-cut t n is h w =
    let r = table_reads_on t.kind t.dimension t.entries w.0 [] (drop n (table_bytes t)) w.1.0 is.sound
    (subst (λ (m : ℕ). length t.entries ≤ m) is.whole (omega arith))
    (append-nil (table_bytes t) ∙ sym (take-append-drop n (table_bytes t)) ∙ ap (λ (b : List ℕ). b ++ drop n (table_bytes t)) w.1.1) in
    absurd (omega (arith, ap length r.on.rest, length-append (flat_map entry_bytes r.on.further) (drop n (table_bytes t)), length-drop n (table_bytes t)))

pub fault-cut : (t : Table) (n : ℕ) → IsTable t → n < length (table_bytes t) → HasTableFault (take n (table_bytes t)) (short_fault n)
fault-cut t n is h =
    (sym (length-take-le n (table_bytes t) (omega arith)), inr ((t, drop n (table_bytes t), (is, take-append-drop n (table_bytes t))), not_whole-cut t n is h))

-- a table and a byte after it
pub fault-append : (t : Table) (b : ℕ) (bs : List ℕ) → IsTable t → HasTableFault (table_bytes t ++ b ∷ bs) (extra_fault (length (table_bytes t)))
fault-append t b bs is = (omega (arith, length-append (table_bytes t) (b ∷ bs)), (t, (is, take-append_seam (table_bytes t) (b ∷ bs))))
