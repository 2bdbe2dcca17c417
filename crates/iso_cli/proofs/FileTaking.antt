-- Bytes taken off the front of known bytes.
use Rattle.std.proofs.Common.{◌≡◌, ℕ, ◌+◌, ◌-◌, ◌≤◌, ◌<◌, ◌^◌, length, List, ◌++◌, take, Option, Some, None, Ok, append_assoc, arith, subst, sym, ap, ◌∙◌, drop, take-append-drop, inl, inr}
use Rattle.std.specs.Prelude.{Bool, true, false, nat_eq, codes, if◌then◌else◌}
use Rattle.std.specs.List.{starts_with}
use lib.Pointwise.{pointwise}
use Rattle.std.proofs.lemmas.List.{take_all, take-append-le, length-append, length-take}
use Rattle.std.proofs.Math.Seq.{take-append-add}
use Rattle.std.proofs.lemmas.Option.{none-some, same_Some}
use Rattle.iso_base.specs.declared.outside.Failed.{Failed}
use Rattle.iso_base.specs.Files.{Files, bytes_of, BeginsFile}
use Rattle.std.specs.Io.KnownBytes.{Consumes}
use Rattle.std.proofs.KnownBytes.{Consumes-trans}
use Rattle.iso_formats.specs.TableFile.{table_limit}
use Rattle.iso_formats.specs.TableFile2.{IsFileTooLong, IsTableFile, limit_of, table_limit2}
use Rattle.iso_model.specs.Tables.{IsTable, Table}
use Rattle.nrrd_raw.specs.Undecided.{TakesSuch}
use Rattle.iso_base.specs.Shelves.{TakesAtMost}
use Rattle.iso_cli.specs.Rests.{IsTableFront}
use Rattle.iso_cli.specs.Shelves.{AreFrontOf}

-- a front that is shorter than asked is all
short-front : (n : ℕ) (rest : List ℕ) → length (take (n + 1) rest) ≤ n → length rest ≤ n
short-front n rest few = let e = length-take (n + 1) rest in omega (arith, e, few)

-- a file that was begun and read to the end, with fewer bytes than were asked for, was read whole
pub front-whole : (files : Option Files) (name bytes : List ℕ) (rest : Option (List ℕ)) (n : ℕ) (front : List ℕ) → bytes_of files name ≡ Some bytes
    → BeginsFile {E = Failed} files rest name (Ok tt) → AreFrontOf (n + 1) rest front → length front ≤ n → front ≡ bytes
front-whole None name bytes rest n front there begun is few = absurd (none-some _ there)
front-whole (Some files) name bytes None n front there begun is few = absurd (none-some _ (begun.0 ∙ there))
front-whole (Some files) name bytes (Some rest) n front there begun is few =
    let same : rest ≡ bytes = same_Some rest bytes (begun.0 ∙ there) in
    let short : length rest ≤ n = short-front n rest (subst (λ (xs : List ℕ). length xs ≤ n) is few) in
    is ∙ take_all (n + 1) rest (omega (arith, short)) ∙ same

-- a file that was begun and gave more bytes than are allowed has too many
pub front-long : (files : Option Files) (name bytes : List ℕ) (rest : Option (List ℕ)) (n : ℕ) (front : List ℕ) → bytes_of files name ≡ Some bytes
    → BeginsFile {E = Failed} files rest name (Ok tt) → AreFrontOf (n + 1) rest front → n < length front → n < length bytes
front-long None name bytes rest n front there begun is many = absurd (none-some _ there)
front-long (Some files) name bytes None n front there begun is many = absurd (none-some _ (begun.0 ∙ there))
front-long (Some files) name bytes (Some rest) n front there begun is many =
    let same : rest ≡ bytes = same_Some rest bytes (begun.0 ∙ there) in
    let far : n < length (take (n + 1) rest) = subst (λ (xs : List ℕ). n < length xs) is many in
    subst (λ (xs : List ℕ). n < length xs) same (let e = length-take (n + 1) rest in omega (arith, e, far))

-- ---- table files

-- a table file may have at least 2^30 bytes, and at most 2^20 more
pub limit_least : (bytes : List ℕ) → 2 ^ 30 ≤ limit_of bytes
limit_least bytes = go (starts_with nat_eq bytes (codes "HULLTAB2"))
  where
    go : (b : Bool) → 2 ^ 30 ≤ (if b then table_limit2 else table_limit)
    go true = omega arith
    go false = omega arith

-- the first bytes tell the limit
pub limit_front : (front more : List ℕ) → 8 ≤ length front → limit_of (front ++ more) ≡ limit_of front
limit_front front more h =
    ap (λ (bs : List ℕ). if pointwise nat_eq (codes "HULLTAB2") bs then table_limit2 else table_limit) (take-append-le 8 front more h)

-- few bytes are not too many
pub open_below : (bytes : List ℕ) → length bytes < 2 ^ 30 + 1 → IsFileTooLong bytes → ⊥
open_below bytes few long = omega (arith, few, long, limit_least bytes)

-- a front of a known text is what was taken, and then a front of what was left
pub AreFrontOf_more : (a b : Option (List ℕ)) (xs ys : List ℕ) (n : ℕ) → Consumes a b xs → AreFrontOf n b ys → AreFrontOf (length xs + n) a (xs ++ ys)
AreFrontOf_more None b xs ys n p q = tt
AreFrontOf_more (Some a) None xs ys n p q = absurd p
AreFrontOf_more (Some a) (Some b) xs ys n p q =
    ap (λ (bs : List ℕ). xs ++ bs) q ∙ sym (take-append-add xs b n) ∙ ap (λ (bs : List ℕ). take (length xs + n) bs) (sym p)

-- all of a text is a longer front too
pub AreFrontOf_longer : (a : Option (List ℕ)) (xs : List ℕ) (m n : ℕ) → AreFrontOf m a xs → length xs < m → m ≤ n → AreFrontOf n a xs
AreFrontOf_longer None xs m n p short h = tt
AreFrontOf_longer (Some a) xs m n p short h =
    let all : length a < m = let e = length-take m a in omega (arith, e, ap (λ (bs : List ℕ). length bs) p, short) in
    p ∙ take_all m a (omega (arith, all)) ∙ sym (take_all n a (omega (arith, all, h)))

-- some bytes were taken, and then more, of which this holds behind them
pub TakesSuch_more : (P Q : List ℕ → Type 0) (a b c : Option (List ℕ)) (xs : List ℕ) → ((ys : List ℕ) → P ys → Q (xs ++ ys)) → Consumes a b xs
    → TakesSuch P b c → TakesSuch Q a c
TakesSuch_more P Q a b c xs go first then' = (xs ++ then'.0, go then'.0 then'.1, Consumes-trans a b c xs then'.0 first then'.2)

-- few bytes are within the limit and one byte
pub front_below : (a b : Option (List ℕ)) → TakesAtMost (2 ^ 30 + 1) a b → TakesSuch IsTableFront a b
front_below a b taken = (taken.0, omega (arith, taken.1, limit_least taken.0), taken.2)

-- and so are those that the limit allows behind them
pub front_more : (a b c : Option (List ℕ)) (xs : List ℕ) (most : ℕ) → length xs ≡ 2 ^ 30 + 1 → most ≡ limit_of xs → Consumes a b xs
    → TakesAtMost (most - 2 ^ 30) b c → TakesSuch IsTableFront a c
front_more a b c xs most count is first taken = (
  xs ++ taken.0,
  omega (arith, count, is, taken.1, limit_front xs taken.0 (omega (arith, count)), length-append xs taken.0, limit_least xs),
  Consumes-trans a b c xs taken.0 first taken.2,
)

-- a file of which more was read than its limit has that limit, and is too long
pub long_file : (bytes front : List ℕ) → front ≡ take (limit_of front + 1) bytes → limit_of front < length front
    → (limit_of bytes ≡ limit_of front) × IsFileTooLong bytes
long_file bytes front is long =
    let n : ℕ = limit_of front + 1 in
    let all : front ++ drop n bytes ≡ bytes = ap (λ (bs : List ℕ). bs ++ drop n bytes) is ∙ take-append-drop n bytes in
    let seen : 8 ≤ length front = omega (arith, long, limit_least front) in
    let same : limit_of bytes ≡ limit_of front =
    ap (λ (bs : List ℕ). limit_of bs) (sym all) ∙ limit_front front (drop n bytes) seen in
    (same, omega (arith, same, long, ap (λ (bs : List ℕ). length bs) all, length-append front (drop n bytes)))

-- the file of a table holds one
pub file_whole : (bytes : List ℕ) (t : Table) → IsTableFile bytes t → IsTable t
file_whole bytes t (inl held) = held.0
file_whole bytes t (inr held) = held.0

-- behind one byte more than 2^30, so few more that together they are not too many
pub open_more : (xs ys : List ℕ) (most : ℕ) → length xs ≡ 2 ^ 30 + 1 → most ≡ limit_of xs → length ys < most - 2 ^ 30 → IsFileTooLong (xs ++ ys) → ⊥
open_more xs ys most count is short long =
    omega (arith, count, is, short, long, limit_front xs ys (omega (arith, count)), length-append xs ys, limit_least xs)

-- so many bytes, and then as many more as the limit allows, and one, are the front of the file up to one byte past its limit
pub front_all : (a b : Option (List ℕ)) (xs ys all : List ℕ) (most : ℕ) → length xs ≡ 2 ^ 30 + 1 → most ≡ limit_of xs → Consumes a b xs
    → AreFrontOf (most - 2 ^ 30) b ys → all ≡ xs ++ ys → AreFrontOf (limit_of all + 1) a all
front_all a b xs ys all most count is first then' joined =
    let n : length xs + (most - 2 ^ 30) ≡ limit_of (xs ++ ys) + 1 =
    omega (arith, count, is, limit_least xs, limit_front xs ys (omega (arith, count))) in
    subst (λ (bs : List ℕ). AreFrontOf (limit_of bs + 1) a bs) (sym joined)
    (subst (λ (m : ℕ). AreFrontOf m a (xs ++ ys)) n (AreFrontOf_more a b xs ys (most - 2 ^ 30) first then'))
