-- How far a table was read, and where no table goes on.
use Rattle.std.specs.Prelude.{◌≡◌, ℕ, ◌+◌, ◌*◌, ◌<◌, ◌≤◌, List, [], ◌∷◌, ◌++◌, flat_map, length, drop, All}
use Rattle.std.proofs.Common.{refl, sym, ap, ◌∙◌, subst, arith}
use Rattle.std.proofs.lemmas.List.{append_assoc, append-nil, take-append-drop, drop_all, length-drop, length-append}
use Rattle.std.proofs.lemmas.List.Concat.{flat_map-append}
use Rattle.std.proofs.lemmas.List.Elements.{All-nil, All-push, All-head, All-tail}
use Rattle.iso_model.specs.declared.Kind.{Kind}
use Rattle.iso_model.specs.Cells.{HasDimension, label_count}
use Rattle.iso_model.specs.Tables.{Table, IsTable, IsEntry}
use Rattle.iso_formats.specs.TableFile.{head_bytes, table_bytes, entry_bytes, SpellsTable, IsWholeTable}
use Rattle.iso_formats.proofs.TableLaws.{table_reads_on, ReadsOn}
use Rattle.iso_formats.specs.TableFile2.{HasHeadOf}
use Rattle.table_file.specs.HeldEntries.{IsEntryAt}

abbrev pub table_of : Kind → ℕ → List (List (List ℕ)) → Table
table_of kind d entries = record { kind = kind; dimension = d; entries = entries }

-- the head and the first entries stand before the place
pub record HasRead (kind : Kind) (d : ℕ) (bytes : List ℕ) (entries : List (List (List ℕ))) (place : ℕ) : Type 0 where
  pub fits : HasDimension kind d
  pub sound : All (IsEntry kind d) entries
  pub inside : place ≤ length bytes
  pub split : bytes ≡ table_bytes (table_of kind d entries) ++ drop place bytes

pub table_bytes-nil : (kind : Kind) (d : ℕ) → table_bytes (table_of kind d []) ≡ head_bytes 1 kind d
unfolding table_bytes
table_bytes-nil kind d = append-nil (head_bytes 1 kind d)

pub table_bytes-push : (kind : Kind) (d : ℕ) (es : List (List (List ℕ))) (ws : List (List ℕ))
    → table_bytes (table_of kind d (es ++ ws ∷ [])) ≡ table_bytes (table_of kind d es) ++ entry_bytes ws
unfolding table_bytes
table_bytes-push kind d es ws =
    ap (λ (l : List ℕ). head_bytes 1 kind d ++ l)
    (flat_map-append entry_bytes es (ws ∷ []) ∙ ap (λ (l : List ℕ). flat_map entry_bytes es ++ l) (append-nil (entry_bytes ws)))
    ∙ sym (append_assoc (head_bytes 1 kind d) (flat_map entry_bytes es) (entry_bytes ws))

pub read_none : (kind : Kind) (d : ℕ) (bytes : List ℕ) → HasHeadOf 1 bytes kind d → HasRead kind d bytes [] 16
read_none kind d bytes h = record {
  fits = h.fits;
  sound = All-nil (IsEntry kind d);
  inside = h.whole;
  split = sym (take-append-drop 16 bytes) ∙ ap (λ (l : List ℕ). l ++ drop 16 bytes) (h.same ∙ sym (table_bytes-nil kind d));
}

pub read_more : (kind : Kind) (d : ℕ) (bytes : List ℕ) (es : List (List (List ℕ))) (place : ℕ) (ws : List (List ℕ)) → HasRead kind d bytes es place
    → IsEntryAt kind d bytes place ws → HasRead kind d bytes (es ++ ws ∷ []) (place + 4 + length ws * d)
read_more kind d bytes es place ws r e = record {
  fits = r.fits;
  sound = All-push (IsEntry kind d) es ws r.sound e.sound;
  inside = e.inside;
  split =
      r.split ∙ ap (λ (l : List ℕ). table_bytes (table_of kind d es) ++ l) e.split
      ∙ sym (append_assoc (table_bytes (table_of kind d es)) (entry_bytes ws) (drop (place + 4 + length ws * d) bytes))
      ∙ ap (λ (l : List ℕ). l ++ drop (place + 4 + length ws * d) bytes) (sym (table_bytes-push kind d es ws));
}

pub read_all : (kind : Kind) (d : ℕ) (bytes : List ℕ) (es : List (List (List ℕ))) (place : ℕ) → HasRead kind d bytes es place → length es ≡ label_count kind d
    → length bytes ≤ place → SpellsTable bytes (table_of kind d es)
read_all kind d bytes es place r labels end = (
  record { fits = r.fits; whole = labels; sound = r.sound },
  r.split ∙ ap (λ (l : List ℕ). table_bytes (table_of kind d es) ++ l) (drop_all place bytes end) ∙ append-nil (table_bytes (table_of kind d es)),
)

-- ---- no table goes on

pub All-further : (P : List (List ℕ) → Type 0) (es gs fs : List (List (List ℕ))) → fs ≡ es ++ gs → All P fs → All P gs
All-further P [] gs fs e s = subst (λ (l : List (List (List ℕ))). All P l) e s
All-further P (g ∷ es) gs [] e s = absurd (cc)
All-further P (g ∷ es) gs (f ∷ fs) e s = All-further P es gs fs (ap (drop 1) e) (All-tail P f fs s)

-- a table that begins with what was read, and what its other entries are
pub record GoesOnAs (kind : Kind) (d : ℕ) (es : List (List (List ℕ))) (rest more : List ℕ) : Type 0 where
  pub further : List (List (List ℕ))
  pub sound : All (IsEntry kind d) further
  pub labels : length es + length further ≡ label_count kind d
  pub on : rest ++ more ≡ flat_map entry_bytes further

pub labels_same : (kind : Kind) (d : ℕ) (es : List (List (List ℕ))) (u : Table) (x y : List ℕ) → IsTable u → ReadsOn kind d es u x y
    → length u.entries ≡ label_count kind d
labels_same kind d es u x y is r =
    is.whole
    ∙ subst (λ (k : Kind). label_count k u.dimension ≡ label_count kind d) r.same_kind_of
    (subst (λ (n : ℕ). label_count kind n ≡ label_count kind d) r.same_dimension refl)

pub goes_on_as : (kind : Kind) (d : ℕ) (bytes : List ℕ) (es : List (List (List ℕ))) (place : ℕ) → HasRead kind d bytes es place → length es ≤ label_count kind d
    → (u : Table) (more : List ℕ) → SpellsTable (bytes ++ more) u → GoesOnAs kind d es (drop place bytes) more
goes_on_as kind d bytes es place r few u more s =
    let start = table_bytes (table_of kind d es) in
    let whole : start ++ (drop place bytes ++ more) ≡ table_bytes u ++ [] =
    sym (append_assoc start (drop place bytes) more) ∙ ap (λ (l : List ℕ). l ++ more) (sym r.split) ∙ s.1 ∙ sym (append-nil (table_bytes u)) in
    let on = table_reads_on kind d es u (drop place bytes ++ more) [] s.0 r.sound few whole in
    record {
      further = on.on.further;
      sound = All-further (IsEntry kind d) es on.on.further u.entries on.on.is on.sound;
      labels =
          omega (
            arith,
            labels_same kind d es u (drop place bytes ++ more) [] s.0 on,
            ap (λ (l : List (List (List ℕ))). length l) on.on.is,
            length-append es on.on.further,
          );
      on = on.on.rest ∙ append-nil (flat_map entry_bytes on.on.further);
    }

-- where more entries are to come, the next one begins the rest
pub next_entry : (kind : Kind) (d : ℕ) (es : List (List (List ℕ))) (rest more : List ℕ) (gs : List (List (List ℕ))) → All (IsEntry kind d) gs
    → rest ++ more ≡ flat_map entry_bytes gs
    → 0 < length gs → ((g : List (List ℕ)) (y : List ℕ) → IsEntry kind d g → rest ++ more ≡ entry_bytes g ++ y → ⊥) → ⊥
next_entry kind d es rest more [] s e some never = omega (arith, some)
next_entry kind d es rest more (g ∷ gs) s e some never = never g (flat_map entry_bytes gs) (All-head (IsEntry kind d) g gs s) e

pub not_whole-entry : (kind : Kind) (d : ℕ) (bytes : List ℕ) (es : List (List (List ℕ))) (place : ℕ) → HasRead kind d bytes es place
    → length es < label_count kind d
    → ((g : List (List ℕ)) (y : List ℕ) → IsEntry kind d g → drop place bytes ≡ entry_bytes g ++ y → ⊥) → IsWholeTable bytes → ⊥
not_whole-entry kind d bytes es place r few never w =
    let none = append-nil (drop place bytes) in
    let on = goes_on_as kind d bytes es place r (omega arith) w.0 [] (w.1.0, append-nil bytes ∙ w.1.1) in
    next_entry kind d es (drop place bytes) [] on.further on.sound on.on (omega (arith, on.labels)) (λ g y s e. never g y s (sym none ∙ e))

pub not_whole-extra : (kind : Kind) (d : ℕ) (bytes : List ℕ) (es : List (List (List ℕ))) (place : ℕ) → HasRead kind d bytes es place
    → length es ≡ label_count kind d
    → place < length bytes → IsWholeTable bytes → ⊥
not_whole-extra kind d bytes es place r all more w =
    let on = goes_on_as kind d bytes es place r (omega arith) w.0 [] (w.1.0, append-nil bytes ∙ w.1.1) in
    none_left (drop place bytes) on.further (omega (arith, on.labels)) (omega (arith, length-drop place bytes)) (sym (append-nil (drop place bytes)) ∙ on.on)
  where
    none_left : (rest : List ℕ) (gs : List (List (List ℕ))) → length gs ≡ 0 → 0 < length rest → rest ≡ flat_map entry_bytes gs → ⊥
    none_left rest [] n h e = omega (arith, ap (λ (l : List ℕ). length l) e)
    none_left rest (g ∷ gs) n h e = omega (arith, n)
