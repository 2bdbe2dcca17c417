-- Taking bytes in several calls.
use Rattle.std.proofs.Common.{◌≡◌, ◌⊎◌, inl, inr, ℕ, ◌+◌, ◌*◌, ◌^◌, ◌≤◌, List, [], ◌++◌, length, take, Option, sym, ap, ◌∙◌}
use Rattle.std.proofs.Common.{arith, length-append}
use Rattle.std.specs.Io.KnownBytes.{Consumes, Keeps}
use Rattle.std.proofs.KnownBytes.{Consumes-kept, Consumes-nil, Consumes-trans}
use Rattle.std.proofs.lemmas.List.{length-take-le, take-append-le}
use lib.Seq.{take-append-add}
use borrow.Rule.Slice.PartMut.{put_mid, post_of}
use Rattle.iso_base.specs.Shelves.{TakesAtMost}

-- bytes that were consumed were taken
pub TakesAtMost-consumed : (most : ℕ) (old new : Option (List ℕ)) (bs : List ℕ) → Consumes old new bs → length bs ≤ most → TakesAtMost most old new
TakesAtMost-consumed most old new bs c l = (bs, l, c)

pub TakesAtMost-none : (most : ℕ) (old new : Option (List ℕ)) → Keeps old new → TakesAtMost most old new
TakesAtMost-none most old new k = ([], omega arith, Consumes-kept old old new [] (Consumes-nil old) k)

-- one call after another
pub TakesAtMost-then : (m n most : ℕ) (a b c : Option (List ℕ)) → TakesAtMost m a b → TakesAtMost n b c → m + n ≤ most → TakesAtMost most a c
TakesAtMost-then m n most a b c p q l =
    (p.0 ++ q.0, omega (arith, length-append p.0 q.0, p.1, q.1), Consumes-trans a b c p.0 q.0 p.2 q.2)

-- a part of what may be taken
pub TakesAtMost-more : (m most : ℕ) (a b : Option (List ℕ)) → TakesAtMost m a b → m ≤ most → TakesAtMost most a b
TakesAtMost-more m most a b p l = (p.0, omega (arith, p.1), p.2)

-- a buffer that is filled from a place on
pub take-filled : (a k n : ℕ) (xs ys : List ℕ) → a ≤ length xs → n ≤ length ys → take (a + n) (put_mid a k xs ys) ≡ take a xs ++ take n ys
take-filled a k n xs ys l h =
    let len : length (take a xs) ≡ a = length-take-le a xs l in
    ap (λ m. take (m + n) (take a xs ++ (ys ++ post_of a k xs))) (sym len)
    ∙ take-append-add (take a xs) (ys ++ post_of a k xs) n
    ∙ ap (λ zs. take a xs ++ zs) (take-append-le n ys (post_of a k xs) h)

-- a front is as short as the buffer that is filled behind it
pub front-within : (a k : ℕ) (xs ys front : List ℕ) → a ≤ length xs → length front ≡ a → length front ≤ length (put_mid a k xs ys)
front-within a k xs ys front l e =
    let whole : length (put_mid a k xs ys) ≡ length (take a xs) + length (ys ++ post_of a k xs) = length-append (take a xs) (ys ++ post_of a k xs) in
    omega (arith, whole, e, length-take-le a xs l)

-- a header, and then the samples' bytes with one byte more
pub TakesAtMost-grid : (n w : ℕ) (a b c : Option (List ℕ)) → TakesAtMost 65536 a b → TakesAtMost (n * w + 1) b c → n ≤ 2 ^ 27 → (w ≡ 1) ⊎ ((w ≡ 2) ⊎ (w ≡ 4))
    → TakesAtMost (2 ^ 29 + 65537) a c
TakesAtMost-grid n w a b c p q l (inl e) = TakesAtMost-then 65536 (n * w + 1) _ a b c p q (rw e (omega arith))
TakesAtMost-grid n w a b c p q l (inr (inl e)) = TakesAtMost-then 65536 (n * w + 1) _ a b c p q (rw e (omega arith))
TakesAtMost-grid n w a b c p q l (inr (inr e)) = TakesAtMost-then 65536 (n * w + 1) _ a b c p q (rw e (omega arith))
