-- Samples that are read in pieces.
use Rattle.std.proofs.Common.{◌≡◌, ℕ, ◌+◌, ◌*◌, ◌<◌, ◌≤◌, ◌++◌, [], ◌∷◌, ℤ, true, false, List, length, Option, Some, None, sym, ap, subst}
use Rattle.std.proofs.Common.{append-nil, ◌∙◌, arith, length-append}
use Rattle.std.proofs.Math.Nat.{mul-le-mul_right}
use Rattle.std.specs.Io.KnownBytes.{Consumes, Keeps, IsAtEnd}
use Rattle.std.proofs.KnownBytes.{Consumes-trans}
use Rattle.iso_formats.specs.GridFile.{Header, samples_of}
use Rattle.nrrd_raw.specs.FaultCauses.{ReadsSamples, ReadsMore, IsCutOff, IsTrailing}
use Rattle.nrrd_raw.specs.declared.faults.GridFault.{GridFault}
use Rattle.nrrd_raw.specs.declared.faults.GridFault.TheVariants.{DataShort, Trailing, Shelf, Memory}
use Rattle.nrrd_raw.specs.GridFaultWords.{is_piece_fault, is_end_fault}
use Rattle.iso_model.specs.Values.{product}
use Rattle.iso_formats.specs.GridFile.{sample_limit, SpellsSamples}
use Rattle.iso_formats.specs.GridFaults.{HasSampleFault, too_many, cut_off, overlong, data_too_short, sizes_too_large}
use Rattle.std.specs.Prelude.{IfSome, IsTrue}
use Rattle.nrrd_raw.specs.FaultCauses.{cause_of}
use Rattle.nrrd_raw.proofs.SampleLaws.{samples_of-append}

-- a piece more was read
pub ReadsSamples-more : {S : Type 0} (rest : S → Option (List ℕ)) (h : Header) (a : Option (List ℕ)) (b c : S) (n m k : ℕ) (before after : List ℤ) → k ≡ n + m
    → ReadsSamples h a (rest b) n before → ReadsMore h m rest b c before after → ReadsSamples h a (rest c) k after
ReadsSamples-more rest h a b c n m k before after e p q = record {
  came = p.came ++ q.came;
  whole = rw e (omega (arith, length-append p.came q.came, p.whole, q.whole));
  taken = Consumes-trans a (rest b) (rest c) p.came q.came p.taken q.taken;
  spelled =
      q.spelled ∙ ap (λ items. items ++ samples_of h m q.came) p.spelled ∙ sym (samples_of-append h n m p.came q.came p.whole)
      ∙ ap (λ i. samples_of h i (p.came ++ q.came)) (sym e);
}

-- behind the samples that were read before, fewer bytes came than the others have
pub IsCutOff-then : (h : Header) (a b c : Option (List ℕ)) (n more count : ℕ) (items : List ℤ) (fault : GridFault) → ReadsSamples h a b n items
    → n + more ≤ count → IsTrue (is_piece_fault fault) → IsCutOff h b c n more fault → IsCutOff h a c 0 count fault
IsCutOff-then h a b c n more count items (DataShort short) p l t q =
    let most : (n + more) * h.width ≤ count * h.width = mul-le-mul_right h.width l in (
      p.came ++ q.0,
      omega (arith, length-append p.came q.0, p.whole, q.1, most),
      omega (arith, length-append p.came q.0, p.whole, q.2),
      Consumes-trans a b c p.came q.0 p.taken q.3,
      q.4,
    )
IsCutOff-then h a b c n more count items fault p l t q = tt

-- ---- where the rest is told

-- bytes of which all were taken
all_taken : (bytes ys came : List ℕ) → bytes ≡ came ++ ys → ys ≡ [] → bytes ≡ came
all_taken bytes ys came e n = e ∙ ap (λ zs. came ++ zs) n ∙ append-nil came

pub HasSampleFault-too_large : (h : Header) (old : Option (List ℕ)) (count : ℕ) → sample_limit < product h.sizes → count ≡ product h.sizes
    → IfSome old (λ bytes. HasSampleFault h bytes (sizes_too_large count))
HasSampleFault-too_large h None count l e = tt
HasSampleFault-too_large h (Some bytes) count l e = subst (λ (n : ℕ). HasSampleFault h bytes (sizes_too_large n)) (sym e) (too_many l)

pub HasSampleFault-cut : (h : Header) (old new : Option (List ℕ)) (count : ℕ) (fault : GridFault) → product h.sizes ≤ sample_limit
    → count ≡ product h.sizes → IsTrue (is_piece_fault fault)
    → IsCutOff h old new 0 count fault → IfSome old (λ bytes. IfSome (cause_of fault) (HasSampleFault h bytes))
HasSampleFault-cut h None new count fault few e t d = tt
HasSampleFault-cut h (Some bytes) None count (DataShort short) few e t d = absurd d.3
HasSampleFault-cut h (Some bytes) (Some ys) count (DataShort short) few e t d =
    let len : length bytes ≡ short = omega (arith, ap length (all_taken bytes ys d.0 d.3 d.4), d.2) in
    let less : length bytes < product h.sizes * h.width = rw (← e) (omega (arith, len, d.1, d.2)) in
    subst (λ (n : ℕ). HasSampleFault h bytes (data_too_short n)) len (cut_off few less)
HasSampleFault-cut h (Some bytes) new count (Shelf n) few e t d = tt
HasSampleFault-cut h (Some bytes) new count Memory few e t d = tt
HasSampleFault-cut h (Some bytes) new count fault few e t d = absurd (no_piece_fault t)
  where
    no_piece_fault : false ≡ true → ⊥
    no_piece_fault e = cc

-- a byte follows the samples
pub HasSampleFault-trailing : (h : Header) (old mid new : Option (List ℕ)) (count : ℕ) (items : List ℤ) (fault : GridFault) → product h.sizes ≤ sample_limit
    → count ≡ product h.sizes → ReadsSamples h old mid count items → IsTrue (is_end_fault fault) → IsTrailing mid new fault
    → IfSome old (λ bytes. IfSome (cause_of fault) (HasSampleFault h bytes))
HasSampleFault-trailing h None mid new count items fault few e p t d = tt
HasSampleFault-trailing h (Some bytes) None new count items Trailing few e p t d = absurd p.taken
HasSampleFault-trailing h (Some bytes) (Some xs) None count items Trailing few e p t d = absurd d.1
HasSampleFault-trailing h (Some bytes) (Some xs) (Some ys) count items Trailing few e p t d =
    let more : 1 ≤ length xs = omega (arith, ap length d.1, length-append (d.0 ∷ []) ys) in
    overlong few (rw (← e) (omega (arith, ap length p.taken, length-append p.came xs, p.whole, more)))
HasSampleFault-trailing h (Some bytes) mid new count items (Shelf n) few e p t d = tt
HasSampleFault-trailing h (Some bytes) mid new count items fault few e p t d = absurd (no_end_fault t)
  where
    no_end_fault : false ≡ true → ⊥
    no_end_fault e = cc
