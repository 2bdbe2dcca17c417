-- Version 2 of the table of a file is no longer than a table file may be.
use Rattle.std.specs.Prelude.{◌≡◌, ℕ, ◌+◌, ◌*◌, ◌≤◌, List, [], ◌∷◌, flat_map, length}
use Rattle.std.proofs.Common.{refl, subst, arith, inl, inr}
use Rattle.std.proofs.lemmas.List.{length-append}
use Rattle.iso_model.specs.Tables.{Table, IsTable}
use Rattle.iso_formats.specs.TableFile.{entry_bytes, table_bytes, table_limit}
use Rattle.iso_formats.specs.TableFile2.{IsFileTooLong, body_bytes, filled_count, index_bytes, index_end, limit_of, table_bytes2, table_limit2}
use Rattle.iso_formats.proofs.TableIndexLaws.{filled_few, length-index_bytes}
use Rattle.table_file.specs.Inverse.{KeepsLimit}
use Rattle.table_file.proofs.IndexedWritingLaws.{few_labels}

-- the bodies are no longer than the entries in version 1
bodies_shorter : (es : List (List (List ℕ))) → length (flat_map body_bytes es) ≤ length (flat_map entry_bytes es)
bodies_shorter [] = omega arith
bodies_shorter ([] ∷ es) = omega (arith, bodies_shorter es, length-append (entry_bytes []) (flat_map entry_bytes es))
bodies_shorter ((w ∷ ws) ∷ es) =
    omega (
      arith,
      bodies_shorter es,
      length-append (entry_bytes (w ∷ ws)) (flat_map body_bytes es),
      length-append (entry_bytes (w ∷ ws)) (flat_map entry_bytes es),
    )

length_first : (t : Table) → length (table_bytes t) ≡ 16 + length (flat_map entry_bytes t.entries)
unfolding table_bytes
length_first t = omega arith

length_second : (t : Table) → length (table_bytes2 t) ≡ 20 + (12 * filled_count t.entries + length (flat_map body_bytes t.entries))
unfolding table_bytes2
length_second t =
    let n : ℕ = filled_count t.entries in
    omega (
      arith,
      length-append (index_bytes 0 (index_end n) t.entries) (flat_map body_bytes t.entries),
      length-index_bytes 0 (index_end n) t.entries,
    )

limit_first : (t : Table) → limit_of (table_bytes t) ≡ table_limit
unfolding table_bytes
limit_first t = refl

limit_second : (t : Table) → limit_of (table_bytes2 t) ≡ table_limit2
unfolding table_bytes2
limit_second t = refl

-- from version 1 the file grows by less than 2^20 bytes
grows_little : (t : Table) → IsTable t → ¬ IsFileTooLong (table_bytes t) → ¬ IsFileTooLong (table_bytes2 t)
grows_little t is few long =
    let labels : length t.entries ≤ 65536 = few_labels t t.dimension (length t.entries) is refl is.whole in
    few (omega (
      arith,
      long,
      labels,
      limit_first t,
      limit_second t,
      length_first t,
      length_second t,
      filled_few t.entries,
      bodies_shorter t.entries,
    ))

pub keeps_limit : (bytes : List ℕ) (t : Table) → KeepsLimit bytes t
keeps_limit bytes t few (inl held) = grows_little t held.0 (subst (λ (bs : List ℕ). ¬ IsFileTooLong bs) held.1 few)
keeps_limit bytes t few (inr held) = subst (λ (bs : List ℕ). ¬ IsFileTooLong bs) held.1 few
