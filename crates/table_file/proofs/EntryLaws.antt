-- The entry at the front of bytes, and bytes that begin with none.
use Rattle.std.specs.Prelude.{◌≡◌, ℕ, ◌+◌, ◌*◌, ◌/◌, ◌^◌, ◌<◌, ◌≤◌, List, [], ◌∷◌, ◌++◌, map, flat_map, length, slice_index, take, drop, All}
use Rattle.std.specs.Simd.{first_chunks}
use Rattle.std.proofs.Common.{get_or, refl, sym, ap, ◌∙◌, subst, arith}
use Rattle.std.proofs.lemmas.List.{append_assoc, take-append-drop, take-take, take_all, drop-drop, drop_more, get_or-take, get_or_append_left}
use Rattle.std.proofs.lemmas.List.{get_or_at, length-take, length-take-le, length-drop, length-append, length-map, get_or-map}
use Rattle.std.proofs.Math.Nat.{mul-div_cancel}
use Rattle.iso_model.specs.declared.Kind.{Kind}
use Rattle.iso_model.specs.Cells.{edge_count}
use Rattle.iso_model.specs.Tables.{IsEntry, IsTuple}
use Rattle.iso_formats.specs.TableFile.{big_endian, entry_bytes}
use Rattle.table_file.specs.HeldEntries.{BeginsWithCount, IsEntryAt, HasWrongEdge, IsCutOff}
use Rattle.table_file.proofs.Chunks.{length-first_chunks, flat_map-first_chunks, rows-first_chunks}
use Rattle.iso_formats.proofs.TableRows.{IsRow, length-rows, All-rows}
use Rattle.iso_formats.proofs.TableLaws.{same_count}

-- ---- what the front of the bytes holds

pub count_whole : (bytes : List ℕ) (count : ℕ) → BeginsWithCount bytes count → 4 ≤ length bytes
count_whole bytes count b = omega (arith, length-take 4 bytes, ap (λ (l : List ℕ). length l) b.1)

pub count_split : (bytes : List ℕ) (count : ℕ) → BeginsWithCount bytes count → bytes ≡ big_endian 4 count ++ drop 4 bytes
count_split bytes count b = sym (take-append-drop 4 bytes) ∙ ap (λ (l : List ℕ). l ++ drop 4 bytes) b.1

-- the list in three parts
pub parted : (k : ℕ) (xs : List ℕ) → k < length xs → xs ≡ take k xs ++ slice_index xs k ∷ drop (k + 1) xs
parted k xs h = sym (take-append-drop k xs) ∙ ap (λ (l : List ℕ). take k xs ++ l) (drop_more xs k 0 h)

-- the count at the front, and what stands behind it
pub record IsFront (kind : Kind) (d count : ℕ) (front behind : List ℕ) (edges : ℕ) (bytes : List ℕ) (place : ℕ) : Type 0 where
  pub inside : place ≤ length bytes
  pub front_is : front ≡ drop place bytes
  pub behind_is : behind ≡ drop (place + 4) bytes
  pub edges_is : edges ≡ edge_count kind d
  pub begins : BeginsWithCount front count

begins_at : (kind : Kind) (d count : ℕ) (front behind : List ℕ) (edges : ℕ) (bytes : List ℕ) (place : ℕ) → IsFront kind d count front behind edges bytes place
    → BeginsWithCount (drop place bytes) count
begins_at kind d count front behind edges bytes place f = subst (λ (l : List ℕ). BeginsWithCount l count) f.front_is f.begins

front_split : (kind : Kind) (d count : ℕ) (front behind : List ℕ) (edges : ℕ) (bytes : List ℕ) (place : ℕ) → IsFront kind d count front behind edges bytes place
    → drop place bytes ≡ big_endian 4 count ++ behind
front_split kind d count front behind edges bytes place f =
    count_split (drop place bytes) count (begins_at kind d count front behind edges bytes place f)
    ∙ ap (λ (l : List ℕ). big_endian 4 count ++ l) (drop-drop 4 place bytes ∙ sym f.behind_is)

pub wrong_edge_at : (kind : Kind) (d count : ℕ) (front behind : List ℕ) (edges : ℕ) (bytes : List ℕ) (place n w : ℕ)
    → IsFront kind d count front behind edges bytes place
    → n ≤ count * d → w < length (take n behind) → All (λ e. e < edges) (take w (take n behind)) → edges ≤ slice_index (take n behind) w
    → HasWrongEdge kind d (drop place bytes) w
wrong_edge_at kind d count front behind edges bytes place n w f few inside right wrong =
    let near : w < n = omega (arith, length-take n behind) in
    let there : w < length behind = omega (arith, length-take n behind) in
    let before = take-take w n behind (omega arith) in
    record {
      count = count;
      before = take w behind;
      byte = slice_index behind w;
      rest = drop (w + 1) behind;
      few = f.begins.0;
      in_tuple = omega (arith, length-take-le w behind (omega arith));
      right = subst (λ (m : ℕ). All (λ e. e < m) (take w behind)) f.edges_is (subst (λ (l : List ℕ). All (λ e. e < edges) l) before right);
      wrong = subst (λ (m : ℕ). m ≤ slice_index behind w) f.edges_is (subst (λ (e : ℕ). edges ≤ e) (get_or-take n behind w 0 near) wrong);
      split =
          front_split kind d count front behind edges bytes place f ∙ ap (λ (l : List ℕ). big_endian 4 count ++ l) (parted w behind there)
          ∙ sym (append_assoc (big_endian 4 count) (take w behind) (slice_index behind w ∷ drop (w + 1) behind));
      at = sym (length-take-le w behind (omega arith));
    }

pub cut_off_at : (kind : Kind) (d count : ℕ) (front behind : List ℕ) (edges : ℕ) (bytes : List ℕ) (place n : ℕ)
    → IsFront kind d count front behind edges bytes place
    → length behind < count * d → length behind ≤ n → All (λ e. e < edges) (take n behind) → IsCutOff kind d (drop place bytes)
cut_off_at kind d count front behind edges bytes place n f short all right = record {
  count = count;
  before = behind;
  few = f.begins.0;
  in_tuple = short;
  right = subst (λ (m : ℕ). All (λ e. e < m) behind) f.edges_is (subst (λ (l : List ℕ). All (λ e. e < edges) l) (take_all n behind all) right);
  split = front_split kind d count front behind edges bytes place f;
}

-- an entry whose tuples are the bytes behind the count
pub entry_at : (kind : Kind) (d count : ℕ) (front behind : List ℕ) (edges : ℕ) (bytes : List ℕ) (place n : ℕ) (tuples : List (List ℕ))
    → IsFront kind d count front behind edges bytes place
    → 0 < d → n ≡ count * d → count * d ≤ length behind → All (λ e. e < edges) (take n behind)
    → tuples ≡ first_chunks d (length (take n behind) / d) (take n behind) → IsEntryAt kind d bytes place tuples
entry_at kind d count front behind edges bytes place n tuples f some size room right is =
    let here = take n behind in
    let long : length here ≡ count * d = length-take-le n behind (omega arith) ∙ size in
    let many_chunks : length here / d ≡ count = ap (λ (m : ℕ). m / d) long ∙ mul-div_cancel count some in
    let chunks : tuples ≡ first_chunks d count here = is ∙ ap (λ (m : ℕ). first_chunks d m here) many_chunks in
    let many : length tuples ≡ count = ap (λ (l : List (List ℕ)). length l) chunks ∙ length-first_chunks d count here in
    let flat : flat_map (λ (w : List ℕ). w) tuples ≡ here =
    ap (λ (l : List (List ℕ)). flat_map (λ (w : List ℕ). w) l) chunks ∙ flat_map-first_chunks d count here ∙ take_all (count * d) here (omega arith) in
    let sound = subst (λ (m : ℕ). All (λ e. e < m) here) f.edges_is right in
    let rows = rows-first_chunks (edge_count kind d) d count here (omega arith) sound in
    let end : drop n behind ≡ drop (place + 4 + length tuples * d) bytes =
    ap (λ (l : List ℕ). drop n l) f.behind_is ∙ drop-drop n (place + 4) bytes
    ∙ ap (λ (m : ℕ). drop (place + 4 + m) bytes) (size ∙ ap (λ (m : ℕ). m * d) (sym many)) in
    let rest : behind ≡ flat_map (λ (w : List ℕ). w) tuples ++ drop (place + 4 + length tuples * d) bytes =
    sym (take-append-drop n behind) ∙ ap (λ (l : List ℕ). l ++ drop n behind) (sym flat) ∙ ap (λ (l : List ℕ). flat_map (λ (w : List ℕ). w) tuples ++ l) end in
    let whole = count_whole (drop place bytes) count (begins_at kind d count front behind edges bytes place f) in
    record {
      sound = (omega (arith, many, f.begins.0), subst (λ (l : List (List ℕ)). All (IsTuple kind d) l) (sym chunks) rows);
      inside =
          rw many
          (omega (arith, room, ap (λ (l : List ℕ). length l) f.behind_is, length-drop (place + 4) bytes, length-drop place bytes, whole, f.inside));
      split =
          front_split kind d count front behind edges bytes place f ∙ ap (λ (l : List ℕ). big_endian 4 count ++ l) rest
          ∙ ap (λ (m : ℕ). big_endian 4 m ++ (flat_map (λ (w : List ℕ). w) tuples ++ drop (place + 4 + length tuples * d) bytes)) (sym many);
    }

-- what was read of a list of lists
pub sound_at : {X : Type 0} (xs : List X) (f : X → List (List ℕ)) (P : List (List ℕ) → Type 0) (i : ℕ) (x : X) → i < length xs → x ≡ get_or xs i x
    → All P (map f xs) → P (f x)
sound_at xs f P i x h read s =
    subst P (get_or-map f xs i x [] h ∙ ap f (sym read)) (s i [] (omega (arith, h, length-map xs f)))

-- ---- no entry

pub same_counts : (m n : ℕ) (x y : List ℕ) → m ≤ 2 ^ 28 → n ≤ 2 ^ 28 → big_endian 4 m ++ x ≡ big_endian 4 n ++ y → m ≡ n
same_counts m n x y a b e =
    same_count m n a b (ap (λ (l : List ℕ). slice_index l 0) e) (ap (λ (l : List ℕ). slice_index l 1) e) (ap (λ (l : List ℕ). slice_index l 2) e)
    (ap (λ (l : List ℕ). slice_index l 3) e)

-- an entry begins with its count
pub entry_begins : (kind : Kind) (d : ℕ) (g : List (List ℕ)) (bytes y : List ℕ) → IsEntry kind d g → bytes ≡ entry_bytes g ++ y
    → BeginsWithCount bytes (length g)
entry_begins kind d g bytes y s e = (s.0, ap (λ (l : List ℕ). take 4 l) e)

-- a member of the bytes of tuples is an edge's number
edge_in_tuples : (most d : ℕ) (g : List (List ℕ)) (before rest y : List ℕ) (byte : ℕ) → All (IsRow d most) g → length before < length g * d
    → before ++ byte ∷ rest ≡ flat_map (λ (w : List ℕ). w) g ++ y → byte < most
edge_in_tuples most d g before rest y byte s room e =
    let inside : length before < length (flat_map (λ (w : List ℕ). w) g) = omega (arith, length-rows most d g s) in
    let is : byte ≡ slice_index (flat_map (λ (w : List ℕ). w) g) (length before) =
    sym (get_or_at before byte rest 0 (length before) refl) ∙ ap (λ (l : List ℕ). slice_index l (length before)) e
    ∙ get_or_append_left (flat_map (λ (w : List ℕ). w) g) y 0 (length before) inside in
    rw is (All-rows most d g s (length before) 0 inside)

pub no_entry_wrong : (kind : Kind) (d : ℕ) (bytes : List ℕ) (distance : ℕ) → HasWrongEdge kind d bytes distance → (g : List (List ℕ)) (y : List ℕ)
    → IsEntry kind d g
    → bytes ≡ entry_bytes g ++ y → ⊥
no_entry_wrong kind d bytes distance w g y s e =
    let whole = sym w.split ∙ e in
    let same : w.count ≡ length g = same_counts w.count (length g) (w.before ++ w.byte ∷ w.rest) (flat_map (λ (t : List ℕ). t) g ++ y) w.few s.0 whole in
    let below =
    edge_in_tuples (edge_count kind d) d g w.before w.rest y w.byte s.1 (subst (λ (n : ℕ). length w.before < n * d) same w.in_tuple)
    (ap (λ (l : List ℕ). drop 4 l) whole) in
    omega (arith, below, w.wrong)

pub no_entry_cut : (kind : Kind) (d : ℕ) (bytes : List ℕ) → IsCutOff kind d bytes → (g : List (List ℕ)) (y : List ℕ) → IsEntry kind d g
    → bytes ≡ entry_bytes g ++ y → ⊥
no_entry_cut kind d bytes w g y s e =
    let whole = sym w.split ∙ e in
    let same : w.count ≡ length g = same_counts w.count (length g) w.before (flat_map (λ (t : List ℕ). t) g ++ y) w.few s.0 whole in
    let room = subst (λ (n : ℕ). length w.before < n * d) same w.in_tuple in
    omega (arith, room, ap (λ (l : List ℕ). length (drop 4 l)) whole, length-append (flat_map (λ (t : List ℕ). t) g) y, length-rows (edge_count kind d) d g s.1)
