-- Kinds, dimensions and sizes that were given, and the ends of a range: a text says one, and they go together.
use Rattle.std.proofs.Common.{◌≡◌, ℕ, ◌≤◌, Bool, true, false, cond, List, Option, Some, None, refl, sym, ◌∙◌, ap, subst, arith}
use Rattle.std.specs.Prelude.{ℤ, pos, codes, ◌==◌, ⊤}
use Rattle.std.proofs.lemmas.Bool.{true≢false}
use Rattle.lists.specs.Orders.{same_list}
use Rattle.iso_model.specs.declared.Kind.{Kind}
use Rattle.iso_model.specs.declared.Kind.TheVariants.{Cube, Simplex, Pyramid}
use Rattle.iso_model.specs.Cells.{HasDimension}
use Rattle.iso_commands.specs.Commands.{IsRange, kind_name, size_limit}
use Rattle.iso_words.specs.Given.{IsKind, IsDimension, IsSize, IsIsovalue, HasGiven, InOrder, widest, Fit}

pub kind_name-one : (k l : Kind) → kind_name k ≡ kind_name l → k ≡ l
kind_name-one Cube Cube e = refl
kind_name-one Cube Simplex e = absurd (true≢false (ap (λ (t : List ℕ). same_list t (codes "cube")) e))
kind_name-one Cube Pyramid e = absurd (true≢false (ap (λ (t : List ℕ). same_list t (codes "cube")) e))
kind_name-one Simplex Cube e = absurd (true≢false (ap (λ (t : List ℕ). same_list t (codes "simplex")) e))
kind_name-one Simplex Simplex e = refl
kind_name-one Simplex Pyramid e = absurd (true≢false (ap (λ (t : List ℕ). same_list t (codes "simplex")) e))
kind_name-one Pyramid Cube e = absurd (true≢false (ap (λ (t : List ℕ). same_list t (codes "pyramid")) e))
kind_name-one Pyramid Simplex e = absurd (true≢false (ap (λ (t : List ℕ). same_list t (codes "pyramid")) e))
kind_name-one Pyramid Pyramid e = refl

pub IsKind-one : (text : List ℕ) (k l : Kind) → IsKind text k → IsKind text l → k ≡ l
IsKind-one text k l e f = kind_name-one k l (sym e ∙ f)

pub pos-one : (m n : ℕ) → pos m ≡ pos n → m ≡ n
pos-one m n e = cc

pub IsDimension-one : (text : List ℕ) (m n : ℕ) → IsDimension text m → IsDimension text n → m ≡ n
IsDimension-one text m n e f = pos-one m n (sym e.0.1 ∙ f.0.1)

pub IsSize-one : (text : List ℕ) (m n : ℕ) → IsSize text m → IsSize text n → m ≡ n
IsSize-one text m n e f = pos-one m n (sym e.0.1 ∙ f.0.1)

pub IsIsovalue-one : (text : List ℕ) (m n : ℤ) → IsIsovalue text m → IsIsovalue text n → m ≡ n
IsIsovalue-one text m n e f = sym e.0.1 ∙ f.0.1

-- ---- sizes

pub size_limit-most : (d : ℕ) → size_limit d ≤ 256
size_limit-most d = go (d == 2) (d == 3)
  where
    go : (two three : Bool) → cond two 256 (cond three 64 16) ≤ 256
    go true three = omega arith
    go false true = omega arith
    go false false = omega arith

-- ---- what goes together at the end goes together before

-- what was given stays given
abbrev pub Keeps : {V : Type 0} → Option V → Option V → Type 0
Keeps None new = ⊤
Keeps (Some v) new = new ≡ Some v

kept_some : {V : Type 0} (v w : V) → Keeps (Some v) (Some w) → v ≡ w
kept_some v w e = cc

kept_none : {V : Type 0} (v : V) → Keeps (Some v) None → ⊥
kept_none v e = cc

has_given : (kind : Option Kind) (dim last : Option ℕ) (k : Kind) → Keeps kind (Some k) → Keeps dim last → HasGiven (Some k) last → HasGiven kind dim
has_given None dim last k ks ds h = tt
has_given (Some l) None last k ks ds h = tt
has_given (Some l) (Some n) None k ks ds h = absurd (kept_none n ds)
has_given (Some l) (Some n) (Some d) k ks ds h =
    subst (λ (l : Kind). HasDimension l n) (sym (kept_some l k ks)) (subst (λ (n : ℕ). HasDimension k n) (sym (kept_some n d ds)) h)

-- no dimension of a kind has greater grids than the widest
widest_own : (k : Kind) (last : Option ℕ) → HasGiven (Some k) last → size_limit (widest (Some k) last) ≤ size_limit (widest (Some k) None)
widest_own k None h = omega arith
widest_own Cube (Some d) h = size_limit-most d
widest_own Simplex (Some d) h = size_limit-most d
widest_own Pyramid (Some d) h = let three : d ≡ 3 = h in rw three (omega arith)

widest-most : (kind : Option Kind) (dim last : Option ℕ) (k : Kind) → Keeps kind (Some k) → Keeps dim last → HasGiven (Some k) last
    → size_limit (widest (Some k) last) ≤ size_limit (widest kind dim)
widest-most kind (Some n) None k ks ds h = absurd (kept_none n ds)
widest-most kind (Some n) (Some d) k ks ds h = subst (λ (m : ℕ). size_limit d ≤ size_limit m) (sym (kept_some n d ds)) (omega arith)
widest-most None None last k ks ds h = size_limit-most (widest (Some k) last)
widest-most (Some l) None last k ks ds h =
    subst (λ (m : Kind). size_limit (widest (Some k) last) ≤ size_limit (widest (Some m) None)) (sym (kept_some l k ks)) (widest_own k last h)

pub Fit-before : (kind : Option Kind) (dim size : Option ℕ) (k : Kind) (last most : Option ℕ) → Keeps kind (Some k) → Keeps dim last
    → Keeps size most → Fit (Some k) last most → Fit kind dim size
Fit-before kind dim None k last most ks ds ns fits = (has_given kind dim last k ks ds fits.0, tt)
Fit-before kind dim (Some n) k last most ks ds ns fits =
    let small : n ≤ size_limit (widest (Some k) last) = (subst (λ (o : Option ℕ). Fit (Some k) last o) ns fits).1 in
    (has_given kind dim last k ks ds fits.0, omega (arith, small, widest-most kind dim last k ks ds fits.0))

-- ---- ranges

pub InOrder-first : (from : ℤ) (to : Option ℤ) (last : ℤ) → Keeps to (Some last) → IsRange from last → InOrder (Some from) to
InOrder-first from None last e range = tt
InOrder-first from (Some to) last e range = subst (λ (n : ℤ). IsRange from n) (sym (kept_some to last e)) range

pub InOrder-last : (from : Option ℤ) (to first : ℤ) → Keeps from (Some first) → IsRange first to → InOrder from (Some to)
InOrder-last None to first e range = tt
InOrder-last (Some from) to first e range = subst (λ (n : ℤ). IsRange n to) (sym (kept_some from first e)) range
