-- The bytes of a table in version 2, record by record and body by body.
use Rattle.std.specs.Prelude.{◌≡◌, ℕ, ◌+◌, ◌*◌, ◌<◌, ◌≤◌, ◌==◌, Bool, false, List, [], ◌∷◌, ◌++◌, flat_map, length, take}
use Rattle.std.proofs.Common.{get_or, sym, ap, ◌∙◌, arith, subst}
use Rattle.std.proofs.lemmas.List.{append_assoc, take_more, length-append, length-take-le}
use Rattle.std.proofs.lemmas.Bool.Decides.{nat_tests}
use Rattle.iso_model.specs.declared.Kind.{Kind}
use Rattle.iso_model.specs.Cells.{HasDimension, label_count}
use Rattle.iso_model.specs.Tables.{Table, IsTable, IsEntry}
use Rattle.iso_formats.specs.TableFile.{head_bytes, big_endian}
use Rattle.iso_formats.specs.TableFile2.{body_bytes, record_bytes, index_bytes, index_end, filled_count, table_bytes2}
use Rattle.iso_formats.proofs.TableIndexLaws.{index_bytes-push, bodies-push}
use Rattle.iso_formats.proofs.TableWalkLaws.{flat_length}
use Rattle.table_file.proofs.TupleRows.{small_counts}

pub body_long : (kind : Kind) (d : ℕ) (ws : List (List ℕ)) → IsEntry kind d ws → 0 < length ws → 4 + length ws * d ≡ length (body_bytes ws)
body_long kind d [] s some = absurd (omega (arith, some))
body_long kind d (w ∷ ws) s some = omega (arith, flat_length kind d (w ∷ ws) s)

pub record_put : (label place : ℕ) (ws : List (List ℕ)) (before after : List ℕ) → 0 < length ws
    → after ≡ before ++ (big_endian 4 label ++ big_endian 8 place) → after ≡ before ++ record_bytes label place ws
record_put label place [] before after some a = absurd (omega (arith, some))
record_put label place (w ∷ ws) before after some a = a

pub next_body : (es : List (List (List ℕ))) (i : ℕ) (x : List (List ℕ)) → i < length es → x ≡ get_or es i []
    → length (flat_map body_bytes (take (i + 1) es)) ≡ length (flat_map body_bytes (take i es)) + length (body_bytes x)
next_body es i x h read =
    ap (λ (l : List (List (List ℕ))). length (flat_map body_bytes l)) (take_more es i [] h)
    ∙ ap (λ (l : List ℕ). length l) (bodies-push (take i es) (get_or es i []))
    ∙ length-append (flat_map body_bytes (take i es)) (body_bytes (get_or es i []))
    ∙ ap (λ (w : List (List ℕ)). length (flat_map body_bytes (take i es)) + length (body_bytes w)) (sym read)

pub one_more_record : (es : List (List (List ℕ))) (place i next : ℕ) (x : List (List ℕ)) (start old new : List ℕ) → i < length es → x ≡ get_or es i []
    → next ≡ place + length (flat_map body_bytes (take i es)) → old ≡ start ++ index_bytes 0 place (take i es) → new ≡ old ++ record_bytes i next x
    → new ≡ start ++ index_bytes 0 place (take (i + 1) es)
one_more_record es place i next x start old new h read at was put =
    let front = take i es in
    let more = get_or es i [] in
    let number : i ≡ 0 + length front = omega (arith, length-take-le i es (omega (arith, h))) in
    put ∙ ap (λ (l : List ℕ). l ++ record_bytes i next x) was
    ∙ append_assoc start (index_bytes 0 place front) (record_bytes i next x)
    ∙ ap (λ (w : List (List ℕ)). start ++ (index_bytes 0 place front ++ record_bytes i next w)) read
    ∙ ap (λ n. start ++ (index_bytes 0 place front ++ record_bytes i n more)) at
    ∙ ap (λ n. start ++ (index_bytes 0 place front ++ record_bytes n (place + length (flat_map body_bytes front)) more)) number
    ∙ ap (λ (l : List ℕ). start ++ l)
    (sym (index_bytes-push 0 place front more) ∙ ap (λ (l : List (List (List ℕ))). index_bytes 0 place l) (sym (take_more es i [] h)))

pub few_labels : (t : Table) (d labels : ℕ) → IsTable t → t.dimension ≡ d → labels ≡ label_count t.kind d → labels ≤ 65536
few_labels t d labels is same l =
    omega (arith, l, (small_counts t.kind d (subst (λ n. HasDimension t.kind n) same is.fits)).labels)

pub all_written : (t : Table) (d n place : ℕ) (none headed counted indexed done head count : List ℕ) → t.dimension ≡ d → n ≡ filled_count t.entries
    → place ≡ index_end n → none ≡ [] → headed ≡ none ++ head → head ≡ head_bytes 2 t.kind d → counted ≡ headed ++ count → count ≡ big_endian 4 n
    → indexed ≡ counted ++ index_bytes 0 place t.entries → done ≡ indexed ++ flat_map body_bytes t.entries → done ≡ table_bytes2 t
unfolding table_bytes2
all_written t d n place none headed counted indexed done head count same is at n0 h1 h2 c1 c2 i1 b1 =
    let bodies = flat_map body_bytes t.entries in
    let first = head_bytes 2 t.kind d in
    let headed_is : headed ≡ first = h1 ∙ ap (λ (l : List ℕ). l ++ head) n0 ∙ h2 in
    let counted_is : counted ≡ first ++ big_endian 4 n = c1 ∙ ap (λ (l : List ℕ). l ++ count) headed_is ∙ ap (λ (l : List ℕ). first ++ l) c2 in
    let indexed_is : indexed ≡ (first ++ big_endian 4 n) ++ index_bytes 0 (index_end n) t.entries =
    i1 ∙ ap (λ (l : List ℕ). l ++ index_bytes 0 place t.entries) counted_is
    ∙ ap (λ p. (first ++ big_endian 4 n) ++ index_bytes 0 p t.entries) at in
    b1 ∙ ap (λ (l : List ℕ). l ++ bodies) indexed_is
    ∙ append_assoc (first ++ big_endian 4 n) (index_bytes 0 (index_end n) t.entries) bodies
    ∙ append_assoc first (big_endian 4 n) (index_bytes 0 (index_end n) t.entries ++ bodies)
    ∙ ap (λ m. first ++ (big_endian 4 m ++ (index_bytes 0 (index_end m) t.entries ++ bodies))) is
    ∙ ap (λ m. head_bytes 2 t.kind m
    ++ (big_endian 4 (filled_count t.entries) ++ (index_bytes 0 (index_end (filled_count t.entries)) t.entries ++ bodies))) (sym same)
