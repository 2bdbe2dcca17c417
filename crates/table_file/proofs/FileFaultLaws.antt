-- Bytes have one fault at most, of whichever version, and the file of a table has none.
use Rattle.std.specs.Prelude.{◌≡◌, ◌⊎◌, ◌+◌, ◌<◌, ◌≤◌, ℕ, List, length, take}
use Rattle.std.proofs.Common.{refl, sym, ap, ◌∙◌, subst, arith, inl, inr}
use Rattle.std.proofs.lemmas.Bool.{cases_lt}
use Rattle.std.proofs.lemmas.List.{take-take, take_all}
use Rattle.std.proofs.lemmas.Option.{same_Some}
use Rattle.iso_model.specs.declared.Kind.{Kind}
use Rattle.iso_formats.specs.TableFile.{head_bytes}
use Rattle.iso_formats.specs.TableFile2.{FileFault, at_magic, at_kind, at_short, as_file_fault}
use Rattle.iso_formats.specs.TableFile2.{BeginsSomeHead, StopsInSomeHead, HasHeadFault, HasHeadOf, HasBodyFault, HasFileFault, FaultsExclude}
use Rattle.iso_formats.proofs.TableFile2Laws.{one_fault}
use Rattle.iso_formats.proofs.TableReadLaws.{no_body_fault, same_head}
use Rattle.table_file.proofs.FaultLaws.{same_fault, whole_no_fault}
use Rattle.table_file.proofs.FileCauses.{eighth, first_whole, head_of_table, whole_head, whole_long}

-- ---- heads

-- a front of what begins a head begins one
begins_before : (bytes : List ℕ) (p q : ℕ) → p ≤ q → BeginsSomeHead bytes q → BeginsSomeHead bytes p
begins_before bytes p q h b = record {
  version = b.version;
  kind = b.kind;
  dimension = b.dimension;
  one_or_two = b.one_or_two;
  fits = b.fits;
  same =
      sym (take-take p q bytes h) ∙ ap (λ (l : List ℕ). take p l) b.same ∙ take-take p q (head_bytes b.version b.kind b.dimension) h;
}

some_head : (v : ℕ) (bytes : List ℕ) (kind : Kind) (d : ℕ) → (v ≡ 1) ⊎ (v ≡ 2) → HasHeadOf v bytes kind d → BeginsSomeHead bytes 16
some_head v bytes kind d is h = record {
  version = v;
  kind = kind;
  dimension = d;
  one_or_two = is;
  fits = h.fits;
  same = h.same ∙ sym (take_all 16 (head_bytes v kind d) (omega arith));
}

-- a place at which no head goes on is before what begins one
stops_before : (bytes : List ℕ) (p q : ℕ) → StopsInSomeHead bytes p → BeginsSomeHead bytes q → p < q → ⊥
stops_before bytes p q s b h = s.stopped (begins_before bytes (p + 1) q (omega (arith, h)) b)

stops_once : (bytes : List ℕ) (p q : ℕ) → StopsInSomeHead bytes p → StopsInSomeHead bytes q → p ≡ q
stops_once bytes p q s t = elim (cases_lt p q) [
  | inl less ↦ absurd (stops_before bytes p q s t.begun less)
  | inr most ↦ elim (cases_lt q p) [ inl less ↦ absurd (stops_before bytes q p t s.begun less) | inr least ↦ omega (arith, most, least) ]
]

stops_or_ends : (bytes : List ℕ) (p q : ℕ) → StopsInSomeHead bytes p → q ≡ length bytes → BeginsSomeHead bytes q → ⊥
stops_or_ends bytes p q s ends b = stops_before bytes p q s b (let inside = s.inside in omega (arith, inside, ends))

-- behind a whole head there is no fault of a head
no_head_fault : (bytes : List ℕ) (fault : FileFault) → 16 ≤ length bytes → BeginsSomeHead bytes 16 → HasHeadFault bytes fault → ⊥
no_head_fault bytes (at_magic p) long b f = stops_before bytes p 16 f.0 b (let low = f.0.inside_head in omega (arith, low))
no_head_fault bytes (at_kind p) long b f = stops_before bytes p 16 f.0 b (let low = f.0.inside_head in omega (arith, low))
no_head_fault bytes (at_short p) long b f = omega (arith, long, f.0, f.1)
no_head_fault bytes _ long b f = absurd f

same_head_fault : (bytes : List ℕ) (f g : FileFault) → HasHeadFault bytes f → HasHeadFault bytes g → f ≡ g
same_head_fault bytes (at_magic p) (at_magic q) a b = ap at_magic (stops_once bytes p q a.0 b.0)
same_head_fault bytes (at_magic p) (at_kind q) a b = absurd (omega (arith, a.1, b.1, stops_once bytes p q a.0 b.0))
same_head_fault bytes (at_magic p) (at_short q) a b = absurd (stops_or_ends bytes p q a.0 b.0 b.2)
same_head_fault bytes (at_magic p) _ a b = absurd b
same_head_fault bytes (at_kind p) (at_magic q) a b = absurd (omega (arith, a.1, b.1, stops_once bytes p q a.0 b.0))
same_head_fault bytes (at_kind p) (at_kind q) a b = ap at_kind (stops_once bytes p q a.0 b.0)
same_head_fault bytes (at_kind p) (at_short q) a b = absurd (stops_or_ends bytes p q a.0 b.0 b.2)
same_head_fault bytes (at_kind p) _ a b = absurd b
same_head_fault bytes (at_short p) (at_magic q) a b = absurd (stops_or_ends bytes q p b.0 a.0 a.2)
same_head_fault bytes (at_short p) (at_kind q) a b = absurd (stops_or_ends bytes q p b.0 a.0 a.2)
same_head_fault bytes (at_short p) (at_short q) a b = ap at_short (a.0 ∙ sym b.0)
same_head_fault bytes (at_short p) _ a b = absurd b
same_head_fault bytes _ g a b = absurd a

not_both_heads : (bytes : List ℕ) (kind k : Kind) (d n : ℕ) → HasHeadOf 1 bytes kind d → HasHeadOf 2 bytes k n → ⊥
not_both_heads bytes kind k d n h g = omega (arith, eighth 1 bytes kind d h.same, eighth 2 bytes k n g.same)

-- ---- files

pub same_file_fault : (bytes : List ℕ) (f g : FileFault) → HasFileFault bytes f → HasFileFault bytes g → f ≡ g
same_file_fault bytes f g (inl a) (inl b) = same_head_fault bytes f g a b
same_file_fault bytes f g (inl a) (inr (inl b)) = absurd (no_head_fault bytes f b.3.whole (some_head 1 bytes b.0 b.1 (inl refl) b.3) a)
same_file_fault bytes f g (inl a) (inr (inr b)) = absurd (no_head_fault bytes f b.2.whole (some_head 2 bytes b.0 b.1 (inr refl) b.2) a)
same_file_fault bytes f g (inr (inl a)) (inl b) = absurd (no_head_fault bytes g a.3.whole (some_head 1 bytes a.0 a.1 (inl refl) a.3) b)
same_file_fault bytes f g (inr (inl a)) (inr (inl b)) = a.5 ∙ ap as_file_fault (same_fault bytes a.2 b.2 a.4 b.4) ∙ sym b.5
same_file_fault bytes f g (inr (inl a)) (inr (inr b)) = absurd (not_both_heads bytes a.0 b.0 a.1 b.1 a.3 b.2)
same_file_fault bytes f g (inr (inr a)) (inl b) = absurd (no_head_fault bytes g a.2.whole (some_head 2 bytes a.0 a.1 (inr refl) a.2) b)
same_file_fault bytes f g (inr (inr a)) (inr (inl b)) = absurd (not_both_heads bytes b.0 a.0 b.1 a.1 b.3 a.2)
same_file_fault bytes f g (inr (inr a)) (inr (inr b)) =
    let same = same_head 2 2 a.0 b.0 a.1 b.1 (sym a.2.same ∙ b.2.same) in
    let moved : HasBodyFault a.0 a.1 bytes g =
    subst (λ (k : Kind). HasBodyFault k a.1 bytes g) (sym same.kinds) (subst (λ n. HasBodyFault b.0 n bytes g) (sym same.dimensions) b.3) in
    same_Some f g (sym (one_fault a.0 a.1 bytes f a.3) ∙ one_fault a.0 a.1 bytes g moved)

pub faults_exclude : (bytes : List ℕ) → FaultsExclude bytes
faults_exclude bytes fault (inl a) w = no_head_fault bytes fault (whole_long bytes w) (whole_head bytes w 16 (omega arith)) a
faults_exclude bytes fault (inr (inl a)) w = whole_no_fault bytes a.2 (first_whole a.0 a.1 bytes a.3 w) a.4
faults_exclude bytes fault (inr (inr a)) w = elim w.1 as (λ _. ⊥) [
  | inl s ↦ omega (arith, eighth 2 bytes a.0 a.1 a.2.same, eighth 1 bytes w.0.kind w.0.dimension (head_of_table bytes w.0 s))
  | inr s ↦ no_body_fault a.0 a.1 bytes w.0 fault a.2 s a.3
]
