-- Reading a file of version 2 label by label: what was read, one more entry, and the table at the end.
use Rattle.std.specs.Prelude.{◌≡◌, ◌≢◌, ◌⊎◌, ℕ, zero, suc, ◌+◌, ◌*◌, ◌^◌, ◌<◌, ◌≤◌, true, List, [], ◌∷◌, ◌++◌, flat_map, length, take, drop, All, slice_index}
use Rattle.std.specs.Int.{w32, w64}
use Rattle.std.proofs.Common.{refl, sym, ap, ◌∙◌, subst, arith, inl, inr}
use Rattle.std.proofs.lemmas.Bool.{cases_lt}
use Rattle.std.proofs.lemmas.List.{append-nil, take-append-drop, drop_all, length-append, length_push}
use Rattle.std.proofs.lemmas.List.Elements.{All-nil, All-push}
use Rattle.iso_model.specs.declared.Kind.{Kind}
use Rattle.iso_model.specs.Cells.{HasDimension, edge_count, label_count}
use Rattle.iso_model.specs.Tables.{Table, IsTable, IsEntry, IsTuple}
use Rattle.iso_formats.specs.TableFile.{entry_bytes, big_endian, head_bytes}
use Rattle.iso_formats.specs.TableFile2.{body_bytes, record_bytes, index_bytes, index_end, filled_count, table_bytes2, SpellsTable2, number_at, HasHeadOf}
use Rattle.iso_formats.specs.TableFile2.{stated, label_at, offset_at, body_place, file_end, FileFault, record_label, fails, NoneFails, NoneFailsBefore}
use Rattle.iso_formats.specs.TableFile2.{HasBodyFault}
use Rattle.iso_formats.proofs.TableLaws.{same_kind}
use Rattle.iso_formats.proofs.TablePlaces.{StandsAt, stands_later, stands_earlier, stands_both, stands_inside, number_of_4, stands_4, stands_8}
use Rattle.iso_formats.proofs.TableIndexLaws.{index_bytes-push, bodies-push, filled_count-push, length-index_bytes}
use Rattle.iso_formats.proofs.TableFieldLaws.{behind_index, label_high, label_ascends}
use Rattle.iso_formats.proofs.TableWalkLaws.{flat_length, file_of_table, none_fails}

-- the entries of the first labels were read, so many of them from bodies, and the next body is to stand at the place
pub record HasReadOn (kind : Kind) (d : ℕ) (bytes : List ℕ) (es : List (List (List ℕ))) (k place : ℕ) : Type 0 where
  pub head : HasHeadOf 2 bytes kind d
  pub small : All (λ b. b < 256) bytes
  pub whole : 20 ≤ length bytes
  pub sound : All (IsEntry kind d) es
  pub count : filled_count es ≡ k
  pub most : k ≤ stated bytes
  pub inside : place ≤ length bytes
  pub index : StandsAt bytes 20 (index_bytes 0 (index_end (stated bytes)) es)
  pub bodies : StandsAt bytes (index_end (stated bytes)) (flat_map body_bytes es)
  pub ends : index_end (stated bytes) + length (flat_map body_bytes es) ≡ place
  pub at : body_place bytes d k ≡ place
  pub offset : k < stated bytes → offset_at bytes k ≡ place
  pub due : k < stated bytes → length es ≤ label_at bytes k
  pub before : NoneFailsBefore kind d bytes place

pub has_read_none : (kind : Kind) (d : ℕ) (bytes : List ℕ) → HasHeadOf 2 bytes kind d → All (λ b. b < 256) bytes → 20 ≤ length bytes
    → index_end (stated bytes) ≤ length bytes → (0 < stated bytes → offset_at bytes 0 ≡ index_end (stated bytes))
    → NoneFailsBefore kind d bytes (index_end (stated bytes)) → HasReadOn kind d bytes [] 0 (index_end (stated bytes))
has_read_none kind d bytes head small whole inside offset before =
    let same : index_end (stated bytes) ≡ index_end (stated bytes) + 0 = omega arith in
    record {
      head = head;
      small = small;
      whole = whole;
      sound = All-nil (IsEntry kind d);
      count = refl;
      most = omega arith;
      inside = inside;
      index = refl;
      bodies = ap (λ n. drop n bytes) same;
      ends = omega arith;
      at = refl;
      offset = offset;
      due = λ h. omega arith;
      before = before;
    }

good_label : (kind : Kind) (d : ℕ) (bytes : List ℕ) (k place : ℕ) → k < stated bytes → index_end (stated bytes) ≤ place → NoneFailsBefore kind d bytes place
    → ¬ (fails kind d bytes (record_label k) ≡ true)
good_label kind d bytes k place h low before = before (record_label k) h (omega (arith, h, low))

-- the next label has no record
pub has_read_empty : (kind : Kind) (d : ℕ) (bytes : List ℕ) (es : List (List (List ℕ))) (k place : ℕ) → HasReadOn kind d bytes es k place
    → (k < stated bytes → label_at bytes k ≢ length es) → HasReadOn kind d bytes (es ++ [] ∷ []) k place
has_read_empty kind d bytes es k place r other =
    let start = index_end (stated bytes) in
    let index : index_bytes 0 start (es ++ [] ∷ []) ≡ index_bytes 0 start es =
    index_bytes-push 0 start es [] ∙ append-nil (index_bytes 0 start es) in
    let bodies : flat_map body_bytes (es ++ [] ∷ []) ≡ flat_map body_bytes es = bodies-push es [] ∙ append-nil (flat_map body_bytes es) in
    record {
      head = r.head;
      small = r.small;
      whole = r.whole;
      sound = All-push (IsEntry kind d) es [] r.sound (omega arith, All-nil (IsTuple kind d));
      count = omega (arith, filled_count-push es [], r.count);
      most = r.most;
      inside = r.inside;
      index = subst (λ (l : List ℕ). StandsAt bytes 20 l) (sym index) r.index;
      bodies = subst (λ (l : List ℕ). StandsAt bytes start l) (sym bodies) r.bodies;
      ends = omega (arith, r.ends, ap (λ (l : List ℕ). length l) bodies);
      at = r.at;
      offset = r.offset;
      due = λ h. let low = r.due h in let differ = other h in omega (arith, low, differ, length_push es (let e : List (List ℕ) = [] in e));
      before = r.before;
    }

-- the record of the next label
record_stands : (kind : Kind) (d : ℕ) (bytes : List ℕ) (es : List (List (List ℕ))) (k place : ℕ) (w : List ℕ) (ws : List (List ℕ))
    → HasReadOn kind d bytes es k place → k < stated bytes → label_at bytes k ≡ length es
    → StandsAt bytes (20 + 12 * k) (record_bytes (0 + length es) (index_end (stated bytes) + length (flat_map body_bytes es)) (w ∷ ws))
record_stands kind d bytes es k place w ws r h label =
    let eight : 24 + 12 * k ≡ 20 + 12 * k + 4 = omega arith in
    let room : 32 + 12 * k ≤ length bytes = omega (arith, h, r.inside, r.at, behind_index bytes d k) in
    let label_is : label_at bytes k ≡ 0 + length es = omega (arith, label) in
    let place_is : offset_at bytes k ≡ index_end (stated bytes) + length (flat_map body_bytes es) = r.offset h ∙ sym r.ends in
    let a : StandsAt bytes (20 + 12 * k) (big_endian 4 (0 + length es)) =
    subst (λ n. StandsAt bytes (20 + 12 * k) (big_endian 4 n)) label_is (stands_4 bytes (20 + 12 * k) r.small (omega (arith, room))) in
    let b : StandsAt bytes (24 + 12 * k) (big_endian 8 (index_end (stated bytes) + length (flat_map body_bytes es))) =
    subst (λ n. StandsAt bytes (24 + 12 * k) (big_endian 8 n)) place_is (stands_8 bytes (24 + 12 * k) r.small (omega (arith, room))) in
    stands_both bytes (20 + 12 * k) (big_endian 4 (0 + length es)) (big_endian 8 (index_end (stated bytes) + length (flat_map body_bytes es))) a
    (subst (λ p. StandsAt bytes p (big_endian 8 (index_end (stated bytes) + length (flat_map body_bytes es)))) eight b)

-- the next label has a record, and its entry stands at the place
pub has_read_filled : (kind : Kind) (d : ℕ) (bytes : List ℕ) (es : List (List (List ℕ))) (k place : ℕ) (ws : List (List ℕ))
    → HasReadOn kind d bytes es k place → k < stated bytes → label_at bytes k ≡ length es → IsEntry kind d ws → 1 ≤ length ws
    → StandsAt bytes place (entry_bytes ws) → (k + 1 < stated bytes → offset_at bytes (k + 1) ≡ place + 4 + d * length ws)
    → NoneFailsBefore kind d bytes (place + 4 + d * length ws) → HasReadOn kind d bytes (es ++ ws ∷ []) (k + 1) (place + 4 + d * length ws)
has_read_filled kind d bytes es k place [] r h label s some body next before = absurd (omega (arith, some))
has_read_filled kind d bytes es k place (w ∷ ws) r h label s some body next before =
    let g : List (List ℕ) = w ∷ ws in
    let start = index_end (stated bytes) in
    let index = index_bytes-push 0 start es g in
    let bodies = bodies-push es g in
    let long = flat_length kind d g s in
    let far : 20 + 12 * k ≡ 20 + length (index_bytes 0 start es) = omega (arith, length-index_bytes 0 start es, r.count) in
    let count_is : number_at w32 bytes (body_place bytes d k) ≡ length g =
    ap (λ p. number_at w32 bytes p) r.at
    ∙ number_of_4 bytes place (length g) (omega (arith, s.0)) (stands_earlier bytes place (big_endian 4 (length g)) (flat_map (λ (w : List ℕ). w) g) body) in
    let one : k + 1 ≡ suc k = omega arith in
    let inside = stands_inside bytes place (entry_bytes g) r.inside body in
    let low : start ≤ place = omega (arith, r.ends) in
    record {
      head = r.head;
      small = r.small;
      whole = r.whole;
      sound = All-push (IsEntry kind d) es g r.sound s;
      count = omega (arith, filled_count-push es g, r.count);
      most = omega (arith, h);
      inside = omega (arith, inside, long);
      index =
          subst (λ (l : List ℕ). StandsAt bytes 20 l) (sym index)
          (stands_both bytes 20 (index_bytes 0 start es) (record_bytes (0 + length es) (start + length (flat_map body_bytes es)) g) r.index
          (subst (λ p. StandsAt bytes p (record_bytes (0 + length es) (start + length (flat_map body_bytes es)) g)) far
          (record_stands kind d bytes es k place w ws r h label)));
      bodies =
          subst (λ (l : List ℕ). StandsAt bytes start l) (sym bodies)
          (stands_both bytes start (flat_map body_bytes es) (entry_bytes g) r.bodies
          (subst (λ p. StandsAt bytes p (entry_bytes g)) (sym r.ends) body));
      ends =
          omega (
            arith,
            r.ends,
            ap (λ (l : List ℕ). length l) bodies,
            length-append (flat_map body_bytes es) (entry_bytes g),
            long,
          );
      at =
          ap (λ n. body_place bytes d n) one
          ∙ (let e : body_place bytes d k + 4 + d * number_at w32 bytes (body_place bytes d k) ≡ place + 4 + d * length g =
          omega (arith, r.at, ap (λ n. d * n) count_is) in e);
      offset = next;
      due = λ more.
          let later : suc k < stated bytes = omega (arith, more) in
          let climbs = label_ascends kind d bytes k (good_label kind d bytes (suc k) place later low r.before) in
          subst (λ n. length (es ++ g ∷ []) ≤ label_at bytes n) (sym one) (omega (arith, climbs, label, length_push es g));
      before = before;
    }

-- at the last label every record was read
pub all_records : (kind : Kind) (d : ℕ) (bytes : List ℕ) (es : List (List (List ℕ))) (k place : ℕ) → HasReadOn kind d bytes es k place
    → label_count kind d ≤ length es → k ≡ stated bytes
all_records kind d bytes es k place r all = elim (cases_lt k (stated bytes)) as (λ _. k ≡ stated bytes) [
  | inl more ↦
      let low : index_end (stated bytes) ≤ place = omega (arith, r.ends) in
      absurd (omega (arith, all, r.due more, label_high kind d bytes k (good_label kind d bytes k place more low r.before)))
  | inr done ↦ omega (arith, done, r.most)
]

pub has_read_all : (kind : Kind) (d : ℕ) (bytes : List ℕ) (es : List (List (List ℕ))) (k place : ℕ) → HasReadOn kind d bytes es k place
    → length es ≡ label_count kind d → length bytes ≤ place → SpellsTable2 bytes (record { kind = kind; dimension = d; entries = es })
unfolding table_bytes2
has_read_all kind d bytes es k place r labels end =
    let n = filled_count es in
    let all = all_records kind d bytes es k place r (omega (arith, labels)) in
    let count : stated bytes ≡ n = omega (arith, all, r.count) in
    let head = head_bytes 2 kind d in
    let index = index_bytes 0 (index_end n) es in
    let bodies = flat_map body_bytes es in
    let head_here : StandsAt bytes 0 head = sym (take-append-drop 16 bytes) ∙ ap (λ (l : List ℕ). l ++ drop 16 bytes) r.head.same in
    let count_here : StandsAt bytes 16 (big_endian 4 n) =
    subst (λ m. StandsAt bytes 16 (big_endian 4 m)) count (stands_4 bytes 16 r.small (omega (arith, r.whole))) in
    let index_here : StandsAt bytes 20 index = subst (λ m. StandsAt bytes 20 (index_bytes 0 (index_end m) es)) count r.index in
    let far : index_end (stated bytes) ≡ 20 + length index = omega (arith, length-index_bytes 0 (index_end n) es, count) in
    let bodies_here : StandsAt bytes (20 + length index) bodies = subst (λ p. StandsAt bytes p bodies) far r.bodies in
    let whole : StandsAt bytes 0 (head ++ (big_endian 4 n ++ (index ++ bodies))) =
    stands_both bytes 0 head (big_endian 4 n ++ (index ++ bodies)) head_here
    (stands_both bytes 16 (big_endian 4 n) (index ++ bodies) count_here (stands_both bytes 20 index bodies index_here bodies_here)) in
    let table = head ++ (big_endian 4 n ++ (index ++ bodies)) in
    let long : length bytes ≤ 0 + length table = omega (arith, end, r.ends, far, length-append index bodies) in (
      record { fits = r.head.fits; whole = labels; sound = r.sound },
      whole ∙ ap (λ (l : List ℕ). table ++ l) (drop_all (0 + length table) bytes long) ∙ append-nil table,
    )

-- ---- a file with a fault is no file of a table

-- the head of a table in version 2
pub head_of_table2 : (bytes : List ℕ) (t : Table) → SpellsTable2 bytes t → take 16 bytes ≡ head_bytes 2 t.kind t.dimension
unfolding table_bytes2
head_of_table2 bytes t s = ap (λ (l : List ℕ). take 16 l) s.1

pub record SameHeadOf (kind : Kind) (d : ℕ) (k : Kind) (n : ℕ) : Type 0 where
  pub kinds : kind ≡ k
  pub dimensions : d ≡ n

pub same_head : (v w : ℕ) (kind k : Kind) (d n : ℕ) → head_bytes v kind d ≡ head_bytes w k n → SameHeadOf kind d k n
same_head v w kind k d n e =
    record { kinds = same_kind kind k (ap (λ (l : List ℕ). slice_index l 8) e); dimensions = ap (λ (l : List ℕ). slice_index l 9) e }

pub no_body_fault : (kind : Kind) (d : ℕ) (bytes : List ℕ) (t : Table) (fault : FileFault) → HasHeadOf 2 bytes kind d → SpellsTable2 bytes t
    → HasBodyFault kind d bytes fault → ⊥
no_body_fault kind d bytes t fault head s has =
    let same = same_head 2 2 kind t.kind d t.dimension (sym head.same ∙ head_of_table2 bytes t s) in
    let none : NoneFails kind d bytes =
    subst (λ (k : Kind). NoneFails k d bytes) (sym same.kinds) (subst (λ n. NoneFails t.kind n bytes) (sym same.dimensions) (none_fails bytes t s)) in
    let ends : file_end bytes d ≡ length bytes = ap (λ n. file_end bytes n) same.dimensions ∙ (file_of_table bytes t s).ends in
    elim has as (λ _. ⊥) [
      | inl f ↦ none f.0 f.1.is_field f.1.failed
      | inr more ↦ omega (arith, ends, more.1)
    ]
