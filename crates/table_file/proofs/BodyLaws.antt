-- The bodies of a file of version 2: their counts and tuples, and what is wrong with them.
use Rattle.std.specs.Prelude.{◌≡◌, ◌≢◌, ℕ, suc, ◌+◌, ◌*◌, ◌^◌, ◌<◌, ◌≤◌, Bool, true, false, ◌==◌, nat_le, List, [], ◌∷◌, ◌++◌, flat_map, length}
use Rattle.std.specs.Prelude.{slice_index, take, drop, All, if◌then◌else◌}
use Rattle.std.specs.Int.{w32, w64}
use Rattle.std.proofs.Common.{refl, sym, ap, ◌∙◌, subst, arith, inl, inr}
use Rattle.std.proofs.lemmas.Bool.{and_parts}
use Rattle.std.proofs.lemmas.Bool.Decides.{nat_tests}
use Rattle.std.proofs.lemmas.List.{append-nil, length-append, length-drop, get_or-drop}
use Rattle.lists.proofs.Tests.{of_lt, equal_of, of_equal, same_tests}
use Rattle.std.proofs.lemmas.List.Elements.{All-nil, All-cons}
use Rattle.iso_model.specs.declared.Kind.{Kind}
use Rattle.iso_model.specs.Cells.{edge_count}
use Rattle.iso_formats.specs.TableFile.{big_endian, entry_bytes}
use Rattle.iso_formats.specs.TableFile2.{at_short, at_edge, stated, offset_at, body_place, count_at, number_at, record_offset, body_count, body_byte}
use Rattle.iso_formats.specs.TableFile2.{fails, is_filled_count, is_count_right, NoneFailsBefore, HasBodyFault, at_count}
use Rattle.iso_formats.proofs.TableRows.{length-rows, All-rows}
use Rattle.iso_formats.proofs.TablePlaces.{StandsAt, behind_front, stands_front, stands_earlier, stands_later, stands_inside, stands_member, number_of_4, stands_4}
use Rattle.iso_formats.proofs.TableFieldLaws.{body_judged, cut_fault, wrong_fault, field_good, offset_room, count_between, behind_index}
use Rattle.table_file.specs.declared.faults.TableFault.{TableFault}
use Rattle.table_file.specs.declared.faults.TableFault.TheVariants.{Magic, Kind as KindFault, EdgeNumber, Short, Extra, Index, Count, Memory}
use Rattle.table_file.specs.HeldEntries.{IsEntryAt, HasWrongEdge, IsCutOff, IsEntryFault}
use Rattle.table_file.specs.Bodies.{IsNextBody, HasRightCount, IsBodyRead}
use Rattle.table_file.specs.Reading.{HasBodyCause}
use Rattle.table_file.proofs.TupleRows.{small_counts}
use Rattle.std.proofs.lemmas.Bool.{le-ltb, leb-true}

-- ---- the count

-- no field before the body fails
before_body : (kind : Kind) (d : ℕ) (bytes : List ℕ) (n place : ℕ) → IsNextBody kind d bytes n place → NoneFailsBefore kind d bytes (body_place bytes d n)
before_body kind d bytes n place b = subst (λ p. NoneFailsBefore kind d bytes p) (sym b.at) b.before

pub count_cut : (kind : Kind) (d : ℕ) (bytes : List ℕ) (n place : ℕ) → IsNextBody kind d bytes n place → length bytes < place + 4
    → HasBodyFault kind d bytes (at_short (length bytes))
count_cut kind d bytes n place b short =
    cut_fault kind d bytes (body_count n) b.counted (before_body kind d bytes n place b) (omega (arith, short, b.at))

pub count_wrong : (kind : Kind) (d : ℕ) (bytes : List ℕ) (n place : ℕ) → IsNextBody kind d bytes n place → place + 4 ≤ length bytes
    → is_count_right bytes d n ≡ false → HasBodyFault kind d bytes (at_count place)
count_wrong kind d bytes n place b whole wrong =
    subst (λ p. HasBodyFault kind d bytes (at_count p)) b.at
    (wrong_fault kind d bytes (body_count n) b.counted (before_body kind d bytes n place b) (omega (arith, whole, b.at)) wrong)

if_yes : (b x y : Bool) → b ≡ true → (if b then x else y) ≡ x
if_yes true x y e = refl
if_yes false x y e = absurd (cc)

if_no : (b x y : Bool) → b ≡ false → (if b then x else y) ≡ y
if_no true x y e = absurd (cc)
if_no false x y e = refl

-- the test of the last count, and of one before it
pub last_count_test : (bytes : List ℕ) (d n count : ℕ) → n + 1 ≡ stated bytes → count ≡ count_at bytes d n
    → is_count_right bytes d n ≡ is_filled_count count
last_count_test bytes d n count last c =
    if_yes (n + 1 == stated bytes) _ _ (of_equal (n + 1) (stated bytes) last) ∙ ap (λ m. is_filled_count m) (sym c)

pub inner_count_test : (bytes : List ℕ) (d n count place next : ℕ) → n + 1 ≢ stated bytes → count ≡ count_at bytes d n → offset_at bytes n ≡ place
    → next ≡ number_at w64 bytes (24 + 12 * (n + 1)) → is_count_right bytes d n ≡ (next == place + 4 + d * count)
inner_count_test bytes d n count place next inner c o x =
    let differ : (n + 1 == stated bytes) ≡ false = grind (arith, nat_tests) in
    if_no (n + 1 == stated bytes) _ _ differ
    ∙ same_tests _ _
    (λ e. of_equal _ _ (omega (arith, equal_of _ _ e, o, x, ap (λ m. d * m) c)))
    (λ e. of_equal _ _ (omega (arith, equal_of _ _ e, o, x, ap (λ m. d * m) c)))

pub right_count : (kind : Kind) (d : ℕ) (bytes : List ℕ) (n place : ℕ) → IsNextBody kind d bytes n place → place + 4 ≤ length bytes
    → is_count_right bytes d n ≡ true → HasRightCount kind d bytes n place
right_count kind d bytes n place b whole right = by_test (n + 1 == stated bytes) refl
  where
    good : ¬ (fails kind d bytes (body_count n) ≡ true)
    good = field_good kind d bytes (body_count n) (omega (arith, whole, b.at)) right

    by_test : (t : Bool) → (n + 1 == stated bytes) ≡ t → HasRightCount kind d bytes n place
    by_test true e =
        let filled : is_filled_count (count_at bytes d n) ≡ true = sym (if_yes (n + 1 == stated bytes) _ _ e) ∙ right in
        let parts = and_parts (nat_le 1 (count_at bytes d n)) (nat_le (count_at bytes d n) (2 ^ 28)) filled in
        record {
          whole = whole;
          some = leb-true _ _ parts.0;
          few = leb-true _ _ parts.1;
          right = good;
          next = λ h. absurd (omega (arith, h, equal_of (n + 1) (stated bytes) e));
        }
    by_test false e =
        let differ : n + 1 ≢ stated bytes = λ same. let yes = of_equal (n + 1) (stated bytes) same in absurd (let no : true ≡ false = sym yes ∙ e in cc) in
        let same = equal_of _ _ (sym (if_no (n + 1 == stated bytes) _ _ e) ∙ right) in
        let one : n + 1 ≡ suc n = omega arith in
        let later : suc n < stated bytes = omega (arith, b.counted, differ) in
        let before : ¬ (fails kind d bytes (record_offset (suc n)) ≡ true) =
        b.before (record_offset (suc n)) later (omega (arith, later, behind_index bytes d n, b.at)) in
        let some = (small_counts kind d b.head.fits).some in
        let between =
        count_between d (offset_at bytes n) (offset_at bytes (suc n)) (count_at bytes d n) (omega (arith, some)) (offset_room kind d bytes n before)
        (subst (λ m. offset_at bytes m ≡ offset_at bytes n + 4 + d * count_at bytes d n) one (sym same)) in
        record {
          whole = whole;
          some = between.0;
          few = between.1;
          right = good;
          next = λ h. omega (arith, same, b.offset);
        }

-- ---- the tuples

-- right bytes at the front of the tuples, and no field before their end fails
pub before_run : (kind : Kind) (d : ℕ) (bytes : List ℕ) (n place : ℕ) (run : List ℕ) → IsNextBody kind d bytes n place → HasRightCount kind d bytes n place
    → StandsAt bytes (place + 4) run → All (λ e. e < edge_count kind d) run → length run ≤ d * count_at bytes d n
    → NoneFailsBefore kind d bytes (place + 4 + length run)
before_run kind d bytes n place run b c here right few =
    let inside = stands_inside bytes (place + 4) run c.whole here in
    let low : (j : ℕ) → j < length run → slice_index bytes (body_place bytes d n + 4 + j) < edge_count kind d = λ j h.
    subst (λ p. slice_index bytes (p + 4 + j) < edge_count kind d) (sym b.at)
    (subst (λ e. e < edge_count kind d) (sym (stands_member bytes (place + 4) run j here h)) (right j 0 h)) in
    subst (λ p. NoneFailsBefore kind d bytes (p + 4 + length run)) b.at
    (body_judged kind d bytes n (length run) few (before_body kind d bytes n place b) c.right
    (λ j h. field_good kind d bytes (body_byte n j) (omega (arith, inside, h, b.at)) (of_lt _ _ (low j h))))

pub body_read : (kind : Kind) (d : ℕ) (bytes : List ℕ) (n place : ℕ) (tuples : List (List ℕ)) → IsNextBody kind d bytes n place
    → HasRightCount kind d bytes n place → IsEntryAt kind d bytes place tuples → IsBodyRead kind d bytes n place tuples
body_read kind d bytes n place tuples b c e =
    let flat = flat_map (λ (w : List ℕ). w) tuples in
    let here : StandsAt bytes place (entry_bytes tuples) = stands_front bytes place (entry_bytes tuples) _ e.split in
    let count : count_at bytes d n ≡ length tuples =
    ap (λ p. number_at w32 bytes p) b.at
    ∙ number_of_4 bytes place (length tuples) (omega (arith, e.sound.0)) (stands_earlier bytes place (big_endian 4 (length tuples)) flat here) in
    let long : length flat ≡ d * length tuples = omega (arith, length-rows (edge_count kind d) d tuples e.sound.1) in
    let same : d * count_at bytes d n ≡ d * length tuples = ap (λ m. d * m) count in
    record {
      entry = e;
      some = omega (arith, c.some, count);
      next = λ h. omega (arith, c.next h, same);
      before =
          subst (λ m. NoneFailsBefore kind d bytes (place + 4 + m)) long
          (before_run kind d bytes n place flat b c (stands_later bytes place (big_endian 4 (length tuples)) flat here)
          (All-rows (edge_count kind d) d tuples e.sound.1) (omega (arith, long, same)));
    }

-- ---- what is wrong with the tuples

wrong_edge : (kind : Kind) (d : ℕ) (bytes : List ℕ) (n place distance : ℕ) → IsNextBody kind d bytes n place → HasRightCount kind d bytes n place
    → HasWrongEdge kind d (drop place bytes) distance → HasBodyFault kind d bytes (at_edge (place + 4 + distance))
wrong_edge kind d bytes n place distance b c w =
    let front = big_endian 4 w.count ++ w.before in
    let here : StandsAt bytes place front = stands_front bytes place front (w.byte ∷ w.rest) w.split in
    let run = stands_later bytes place (big_endian 4 w.count) w.before here in
    let count : count_at bytes d n ≡ w.count =
    ap (λ p. number_at w32 bytes p) b.at
    ∙ number_of_4 bytes place w.count (omega (arith, w.few)) (stands_earlier bytes place (big_endian 4 w.count) w.before here) in
    let same : d * count_at bytes d n ≡ d * w.count = ap (λ m. d * m) count in
    let long : length front ≡ 4 + length w.before = omega (arith, length-append (big_endian 4 w.count) w.before) in
    let behind = behind_front bytes place front (w.byte ∷ w.rest) w.split in
    let place_is : place + length front + 0 ≡ body_place bytes d n + 4 + distance = omega (arith, long, w.at, b.at) in
    let byte : slice_index bytes (body_place bytes d n + 4 + distance) ≡ w.byte =
    ap (λ p. slice_index bytes p) (sym place_is) ∙ sym (get_or-drop (place + length front) bytes 0 0) ∙ ap (λ (l : List ℕ). slice_index l 0) behind in
    let inside : place + length front < length bytes =
    omega (arith, ap (λ (l : List ℕ). length l) behind, length-drop (place + length front) bytes) in
    let before : NoneFailsBefore kind d bytes (body_place bytes d n + 4 + distance) =
    subst (λ p. NoneFailsBefore kind d bytes p) (let e : place + 4 + length w.before ≡ body_place bytes d n + 4 + distance = omega (arith, w.at, b.at) in e)
    (before_run kind d bytes n place w.before b c run w.right (omega (arith, w.in_tuple, same))) in
    subst (λ p. HasBodyFault kind d bytes (at_edge (p + 4 + distance))) b.at
    (wrong_fault kind d bytes (body_byte n distance) (b.counted, omega (arith, w.in_tuple, w.at, same)) before (omega (arith, inside, long, w.at, b.at))
    (le-ltb _ _ (subst (λ e. edge_count kind d ≤ e) (sym byte) w.wrong)))

cut_tuples : (kind : Kind) (d : ℕ) (bytes : List ℕ) (n place : ℕ) → IsNextBody kind d bytes n place → HasRightCount kind d bytes n place
    → IsCutOff kind d (drop place bytes) → HasBodyFault kind d bytes (at_short (length bytes))
cut_tuples kind d bytes n place b c w =
    let front = big_endian 4 w.count ++ w.before in
    let split : drop place bytes ≡ front ++ [] = w.split ∙ sym (append-nil front) in
    let here : StandsAt bytes place front = stands_front bytes place front [] split in
    let run = stands_later bytes place (big_endian 4 w.count) w.before here in
    let count : count_at bytes d n ≡ w.count =
    ap (λ p. number_at w32 bytes p) b.at
    ∙ number_of_4 bytes place w.count (omega (arith, w.few)) (stands_earlier bytes place (big_endian 4 w.count) w.before here) in
    let same : d * count_at bytes d n ≡ d * w.count = ap (λ m. d * m) count in
    let j = length w.before in
    let long : length bytes ≤ place + 4 + j =
    omega (arith, length-append (big_endian 4 w.count) w.before, ap (λ (l : List ℕ). length l) w.split, length-drop place bytes, b.inside) in
    let before : NoneFailsBefore kind d bytes (body_place bytes d n + 4 + j) =
    subst (λ p. NoneFailsBefore kind d bytes (p + 4 + j)) (sym b.at)
    (before_run kind d bytes n place w.before b c run w.right (omega (arith, w.in_tuple, same))) in
    cut_fault kind d bytes (body_byte n j) (b.counted, omega (arith, w.in_tuple, same)) before (omega (arith, long, b.at))

pub body_cause : (kind : Kind) (d : ℕ) (bytes : List ℕ) (n place : ℕ) (fault : TableFault) → All (λ e. e < 256) bytes → IsNextBody kind d bytes n place
    → HasRightCount kind d bytes n place → IsEntryFault kind d bytes place fault → HasBodyCause kind d bytes fault
body_cause kind d bytes n place (Magic p) small b c f = absurd f
body_cause kind d bytes n place (KindFault p) small b c f = absurd f
body_cause kind d bytes n place (EdgeNumber p) small b c f =
    subst (λ q. HasBodyFault kind d bytes (at_edge q)) (sym f.1) (wrong_edge kind d bytes n place f.0 b c f.2)
body_cause kind d bytes n place (Short p) small b c f =
    subst (λ q. HasBodyFault kind d bytes (at_short q)) (sym f.0)
    (elim f.1 as (λ _. HasBodyFault kind d bytes (at_short (length bytes))) [
      | inl none ↦
          let few : number_at w32 bytes place ≤ 2 ^ 28 = subst (λ q. number_at w32 bytes q ≤ 2 ^ 28) b.at c.few in
          absurd (none (number_at w32 bytes place) (few, ap (λ (l : List ℕ). take 4 l) (stands_4 bytes place small c.whole)))
      | inr cut ↦ cut_tuples kind d bytes n place b c cut
    ])
body_cause kind d bytes n place (Extra p) small b c f = absurd f
body_cause kind d bytes n place (Index p) small b c f = absurd f
body_cause kind d bytes n place (Count p) small b c f = absurd f
body_cause kind d bytes n place Memory small b c f = tt

-- ---- bytes

-- each member is a byte
pub all_small : (bytes : List ℕ) → ((i : ℕ) → slice_index bytes i < 256) → All (λ b. b < 256) bytes
all_small [] h = All-nil (λ b. b < 256)
all_small (b ∷ bytes) h = All-cons (λ b. b < 256) b bytes (h 0) (all_small bytes (λ i. let e : i + 1 ≡ suc i = omega arith in h (suc i)))
