-- Words without regard to letter case.
use Rattle.std.proofs.Common.{◌≡◌, ℕ, Bool, List, [], ◌∷◌, refl, subst}
use Rattle.std.specs.Bool.{Decides, one_answer}
use Rattle.std.specs.Str.{str_to_ascii_lowercase}
use Rattle.std.proofs.lemmas.Str.Ascii.{lowercase-lowercase}
use Rattle.std.proofs.lemmas.Slice.Eq.{bytes_eq-Decides}
use Rattle.lists.specs.Orders.{same_list}

pub same_word : (r : Bool) (a b : List ℕ) → Decides r (str_to_ascii_lowercase a ≡ str_to_ascii_lowercase b) → str_to_ascii_lowercase b ≡ b
    → r ≡ same_list (str_to_ascii_lowercase a) b
same_word r a b d e =
    one_answer {P = str_to_ascii_lowercase a ≡ b} r (same_list (str_to_ascii_lowercase a) b)
    (subst (λ (w : List ℕ). Decides r (str_to_ascii_lowercase a ≡ w)) e d) (bytes_eq-Decides (str_to_ascii_lowercase a) b)

pub lower-lower : (xs : List ℕ) → str_to_ascii_lowercase (str_to_ascii_lowercase xs) ≡ str_to_ascii_lowercase xs
lower-lower [] = refl
lower-lower (x ∷ xs) = let h = lowercase-lowercase x in let t = lower-lower xs in ap2 h t
  where
    ap2 : {a b : ℕ} {cs bs : List ℕ} → a ≡ b → cs ≡ bs → (a ∷ cs) ≡ (b ∷ bs)
    ap2 p q = cc
