-- Worked words: right lists, numbers, and first wrong words.
use Rattle.std.specs.Prelude.{◌≡◌, ℕ, ℤ, pos, negsuc, false, List, [], ◌∷◌, ◌++◌, length, codes, IsFalse, drop, slice_index, ◌≤◌, ◌≤ℤ◌}
use Rattle.std.specs.Str.Parse.{signed_digits_value}
use Rattle.std.proofs.Common.{refl, ap, inl, inr, arith, subst, sym, ◌∙◌}
use Rattle.std.proofs.lemmas.Bool.{false≢true, true≢false}
use Rattle.std.proofs.lemmas.Slice.Eq.{bytes_eq-Decides}
use Rattle.lists.specs.Orders.{same_list}
use Rattle.std.proofs.lemmas.List.Sums.{AllPass-from_list_all}
use Rattle.iso_model.specs.declared.Kind.TheVariants.{Cube, Simplex, Pyramid}
use Rattle.iso_commands.specs.Commands.{is_number, has_key_of, IsNumber, Say, IsWrongWord, Command, generate_command, check_command, extract_command}
use Rattle.iso_commands.specs.Commands.{demo_command, convert_command, audit_command, spectrum_command, each_command, size_limit, iso_limit}

leading_zero : IsFalse (is_number (codes "05"))
leading_zero = refl

minus_zero : IsFalse (is_number (codes "-0"))
minus_zero = refl

no_digits : IsFalse (is_number (codes "-"))
no_digits = refl

plus : IsFalse (is_number (codes "+5"))
plus = refl

zero_is : IsNumber (codes "0") (pos 0)
zero_is = (refl, refl)

minus_three : IsNumber (codes "-3") (negsuc 2)
minus_three = (refl, refl)

abbrev extract_words : List (List ℕ)
extract_words = codes "extract" ∷ codes "table=a=b" ∷ codes "iso=-5" ∷ codes "grid=c" ∷ []

-- keys in any order; a key ends at the first =
right_extract : Say extract_words (extract_command (codes "a=b") (codes "c") (negsuc 4))
right_extract = record {
  are_for = record { named = (_, refl); keyed = AllPass-from_list_all (has_key_of (codes "table" ∷ codes "grid" ∷ codes "iso" ∷ [])) (drop 1 extract_words) refl };
  table_is = (refl, λ e. cc);
  grid_is = (refl, λ e. cc);
  iso_is = (_, refl, (refl, refl));
  iso_from = omega arith;
  iso_to = omega arith;
}

abbrev generate_words : List (List ℕ)
generate_words = codes "generate" ∷ codes "dim=3" ∷ codes "kind=pyramid" ∷ []

right_generate : Say generate_words (generate_command Pyramid 3)
right_generate = record { are_for = record { named = (_, refl); keyed = AllPass-from_list_all (has_key_of (codes "kind" ∷ codes "dim" ∷ [])) (drop 1 generate_words) refl }; kind_is = refl; dim_is = (_, refl, (refl, refl)); fits = refl }

abbrev demo_words : List (List ℕ)
demo_words = codes "demo" ∷ codes "kind=cube" ∷ codes "dim=3" ∷ codes "size=32" ∷ codes "seed=7" ∷ []

right_demo : Say demo_words (demo_command Cube 3 32 7)
right_demo = record {
  are_for = record { named = (_, refl); keyed = AllPass-from_list_all (has_key_of (codes "kind" ∷ codes "dim" ∷ codes "size" ∷ codes "seed" ∷ [])) (drop 1 demo_words) refl };
  kind_is = refl;
  dim_is = (_, refl, (refl, refl));
  fits = (omega arith, omega arith);
  size_is = (_, refl, (refl, refl));
  size_from = omega arith;
  size_to = omega arith;
  seed_is = (_, refl, (refl, refl));
  seed_to = omega arith;
}

-- ---- first wrong words

head_same : (x y : List ℕ) (xs ys : List (List ℕ)) → x ∷ xs ≡ y ∷ ys → x ≡ y
head_same x y xs ys e = cc

-- words that begin with one name are not for the command of another
another : {own name : List ℕ} {more further : List (List ℕ)} → same_list own name ≡ false → own ∷ more ≡ name ∷ further → ⊥
another {own = own} {name = name} {more = more} {further = further} apart e =
    true≢false (sym ((bytes_eq-Decides own name).1 (head_same own name more further e)) ∙ apart)

-- an isovalue with a leading zero
abbrev padded_words : List (List ℕ)
padded_words = codes "extract" ∷ codes "table=a" ∷ codes "grid=b" ∷ codes "iso=05" ∷ []

padded_never : (more : List (List ℕ)) (c : Command) → Say (padded_words ++ more) c → ⊥
padded_never more (generate_command kind d) s = another refl s.are_for.named.1
padded_never more (check_command table) s = another refl s.are_for.named.1
padded_never more (convert_command table) s = another refl s.are_for.named.1
padded_never more (audit_command mesh) s = another refl s.are_for.named.1
padded_never more (spectrum_command kind grid from to) s = another refl s.are_for.named.1
padded_never more (demo_command kind d size seed) s = another refl s.are_for.named.1
padded_never more (extract_command table grid iso) s =
    let e = head_same _ _ _ _ s.iso_is.1 in
    false≢true (sym (subst (λ (t : List ℕ). is_number t ≡ false) e refl) ∙ s.iso_is.2.0)

padded_right : Say (codes "extract" ∷ codes "table=a" ∷ codes "grid=b" ∷ codes "iso=5" ∷ []) (extract_command (codes "a") (codes "b") (pos 5))
padded_right = record {
  are_for = record { named = (_, refl); keyed = AllPass-from_list_all (has_key_of (codes "table" ∷ codes "grid" ∷ codes "iso" ∷ [])) (codes "table=a" ∷ codes "grid=b" ∷ codes "iso=5" ∷ []) refl };
  table_is = (refl, λ e. cc);
  grid_is = (refl, λ e. cc);
  iso_is = (_, refl, (refl, refl));
  iso_from = omega arith;
  iso_to = omega arith;
}

padded_word : IsWrongWord each_command padded_words 4
padded_word = record {
  counted = omega arith;
  before = (codes "iso=5" ∷ [], (extract_command (codes "a") (codes "b") (pos 5), refl, padded_right));
  wrong = inl (omega arith, λ b. padded_never b.0 b.1.0 b.1.2);
}

-- no pyramid has the size 65, though no dimension was given yet
abbrev large_words : List (List ℕ)
large_words = codes "demo" ∷ codes "kind=pyramid" ∷ codes "size=65" ∷ []

same_number : (a b : ℕ) → pos a ≡ pos b → a ≡ b
same_number a b e = cc

large_never : (more : List (List ℕ)) (c : Command) → Say (large_words ++ more) c → ⊥
large_never more (generate_command kind d) s = another refl s.are_for.named.1
large_never more (check_command table) s = another refl s.are_for.named.1
large_never more (convert_command table) s = another refl s.are_for.named.1
large_never more (audit_command mesh) s = another refl s.are_for.named.1
large_never more (spectrum_command kind grid from to) s = another refl s.are_for.named.1
large_never more (extract_command table grid iso) s = another refl s.are_for.named.1
large_never more (demo_command Cube d size seed) s = absurd (omega (arith, ap (λ (l : List ℕ). slice_index l 0) (head_same _ _ _ _ s.kind_is)))
large_never more (demo_command Simplex d size seed) s = absurd (omega (arith, ap (λ (l : List ℕ). slice_index l 0) (head_same _ _ _ _ s.kind_is)))
large_never more (demo_command Pyramid d size seed) s =
    let v = same_number 65 size (ap (signed_digits_value 10) (head_same _ _ _ _ s.size_is.1) ∙ s.size_is.2.1) in
    let l = subst (λ (n : ℕ). size ≤ size_limit n) s.fits s.size_to in
    absurd (omega (arith, v, l))

small_right : Say (codes "demo" ∷ codes "kind=pyramid" ∷ codes "dim=3" ∷ codes "size=1" ∷ codes "seed=0" ∷ []) (demo_command Pyramid 3 1 0)
small_right = record {
  are_for = record { named = (_, refl); keyed = AllPass-from_list_all (has_key_of (codes "kind" ∷ codes "dim" ∷ codes "size" ∷ codes "seed" ∷ [])) (codes "kind=pyramid" ∷ codes "dim=3" ∷ codes "size=1" ∷ codes "seed=0" ∷ []) refl };
  kind_is = refl;
  dim_is = (_, refl, (refl, refl));
  fits = refl;
  size_is = (_, refl, (refl, refl));
  size_from = omega arith;
  size_to = omega arith;
  seed_is = (_, refl, (refl, refl));
  seed_to = omega arith;
}

large_word : IsWrongWord each_command large_words 3
large_word = record {
  counted = omega arith;
  before = (codes "dim=3" ∷ codes "size=1" ∷ codes "seed=0" ∷ [], (demo_command Pyramid 3 1 0, refl, small_right));
  wrong = inl (omega arith, λ b. large_never b.0 b.1.0 b.1.2);
}

-- no words, and a list that ends too early
nothing_never : (c : Command) → Say [] c → ⊥
nothing_never (generate_command kind d) s = let e = s.are_for.named.1 in cc
nothing_never (check_command table) s = let e = s.are_for.named.1 in cc
nothing_never (convert_command table) s = let e = s.are_for.named.1 in cc
nothing_never (audit_command mesh) s = let e = s.are_for.named.1 in cc
nothing_never (spectrum_command kind grid from to) s = let e = s.are_for.named.1 in cc
nothing_never (demo_command kind d size seed) s = let e = s.are_for.named.1 in cc
nothing_never (extract_command table grid iso) s = let e = s.are_for.named.1 in cc

no_words : IsWrongWord each_command [] 1
no_words = record {
  counted = omega arith;
  before = (extract_words, (extract_command (codes "a=b") (codes "c") (negsuc 4), refl, right_extract));
  wrong = inr (refl, λ r. nothing_never r.0 r.2);
}

-- a list that ends too early
abbrev early_words : List (List ℕ)
early_words = codes "extract" ∷ codes "table=a" ∷ codes "grid=b" ∷ []

early_never : (c : Command) → Say early_words c → ⊥
early_never (generate_command kind d) s = another refl s.are_for.named.1
early_never (check_command table) s = another refl s.are_for.named.1
early_never (convert_command table) s = another refl s.are_for.named.1
early_never (audit_command mesh) s = another refl s.are_for.named.1
early_never (spectrum_command kind grid from to) s = another refl s.are_for.named.1
early_never (demo_command kind d size seed) s = another refl s.are_for.named.1
early_never (extract_command table grid iso) s = absurd (omega (arith, ap length s.iso_is.1))

early_end : IsWrongWord each_command early_words 4
early_end = record {
  counted = omega arith;
  before = (codes "iso=5" ∷ [], (extract_command (codes "a") (codes "b") (pos 5), refl, padded_right));
  wrong = inr (refl, λ r. early_never r.0 r.2);
}

-- an isovalue that is too great
abbrev great_words : List (List ℕ)
great_words = codes "extract" ∷ codes "table=a" ∷ codes "grid=b" ∷ codes "iso=1099511627777" ∷ []

great_never : (more : List (List ℕ)) (c : Command) → Say (great_words ++ more) c → ⊥
great_never more (generate_command kind d) s = another refl s.are_for.named.1
great_never more (check_command table) s = another refl s.are_for.named.1
great_never more (convert_command table) s = another refl s.are_for.named.1
great_never more (audit_command mesh) s = another refl s.are_for.named.1
great_never more (spectrum_command kind grid from to) s = another refl s.are_for.named.1
great_never more (demo_command kind d size seed) s = another refl s.are_for.named.1
great_never more (extract_command table grid iso) s =
    let v = ap (signed_digits_value 10) (head_same _ _ _ _ s.iso_is.1) ∙ s.iso_is.2.1 in
    let l = subst (λ (n : ℤ). n ≤ℤ pos iso_limit) (sym v) s.iso_to in
    absurd (omega (arith, l))

great_word : IsWrongWord each_command great_words 4
great_word = record {
  counted = omega arith;
  before = (codes "iso=5" ∷ [], (extract_command (codes "a") (codes "b") (pos 5), refl, padded_right));
  wrong = inl (omega arith, λ b. great_never b.0 b.1.0 b.1.2);
}

-- no pyramid has two dimensions
abbrev flat_words : List (List ℕ)
flat_words = codes "generate" ∷ codes "dim=2" ∷ codes "kind=pyramid" ∷ []

flat_never : (more : List (List ℕ)) (c : Command) → Say (flat_words ++ more) c → ⊥
flat_never more (check_command table) s = another refl s.are_for.named.1
flat_never more (convert_command table) s = another refl s.are_for.named.1
flat_never more (audit_command mesh) s = another refl s.are_for.named.1
flat_never more (spectrum_command kind grid from to) s = another refl s.are_for.named.1
flat_never more (extract_command table grid iso) s = another refl s.are_for.named.1
flat_never more (demo_command kind d size seed) s = another refl s.are_for.named.1
flat_never more (generate_command Cube d) s = absurd (omega (arith, ap (λ (l : List ℕ). slice_index l 0) (head_same _ _ _ _ s.kind_is)))
flat_never more (generate_command Simplex d) s = absurd (omega (arith, ap (λ (l : List ℕ). slice_index l 0) (head_same _ _ _ _ s.kind_is)))
flat_never more (generate_command Pyramid d) s =
    let v = same_number 2 d (ap (signed_digits_value 10) (head_same _ _ _ _ s.dim_is.1) ∙ s.dim_is.2.1) in
    absurd (omega (arith, v, s.fits))

square_right : Say (codes "generate" ∷ codes "dim=2" ∷ codes "kind=cube" ∷ []) (generate_command Cube 2)
square_right = record {
  are_for = record { named = (_, refl); keyed = AllPass-from_list_all (has_key_of (codes "kind" ∷ codes "dim" ∷ [])) (codes "dim=2" ∷ codes "kind=cube" ∷ []) refl };
  kind_is = refl;
  dim_is = (_, refl, (refl, refl));
  fits = (omega arith, omega arith);
}

flat_word : IsWrongWord each_command flat_words 3
flat_word = record {
  counted = omega arith;
  before = (codes "kind=cube" ∷ [], (generate_command Cube 2, refl, square_right));
  wrong = inl (omega arith, λ b. flat_never b.0 b.1.0 b.1.2);
}

-- the last isovalue is below the first, though the first one was given behind it
abbrev falling_words : List (List ℕ)
falling_words = codes "spectrum" ∷ codes "to=4" ∷ codes "from=5" ∷ []

falling_never : (more : List (List ℕ)) (c : Command) → Say (falling_words ++ more) c → ⊥
falling_never more (generate_command kind d) s = another refl s.are_for.named.1
falling_never more (check_command table) s = another refl s.are_for.named.1
falling_never more (convert_command table) s = another refl s.are_for.named.1
falling_never more (audit_command mesh) s = another refl s.are_for.named.1
falling_never more (extract_command table grid iso) s = another refl s.are_for.named.1
falling_never more (demo_command kind d size seed) s = another refl s.are_for.named.1
falling_never more (spectrum_command kind grid from to) s =
    let first : pos 5 ≡ from = ap (signed_digits_value 10) (head_same _ _ _ _ s.from_is.1) ∙ s.from_is.2.1 in
    let last : pos 4 ≡ to = ap (signed_digits_value 10) (head_same _ _ _ _ s.to_is.1) ∙ s.to_is.2.1 in
    let l : pos 5 ≤ℤ pos 4 = subst (λ (n : ℤ). n ≤ℤ pos 4) (sym first) (subst (λ (n : ℤ). from ≤ℤ n) (sym last) s.range.0) in
    absurd (omega (arith, l))

alone_right : Say (codes "spectrum" ∷ codes "to=4" ∷ codes "from=4" ∷ codes "grid=a" ∷ codes "kind=cube" ∷ []) (spectrum_command Cube (codes "a") (pos 4) (pos 4))
alone_right = record {
  are_for = record { named = (_, refl); keyed = AllPass-from_list_all (has_key_of (codes "kind" ∷ codes "grid" ∷ codes "from" ∷ codes "to" ∷ [])) (codes "to=4" ∷ codes "from=4" ∷ codes "grid=a" ∷ codes "kind=cube" ∷ []) refl };
  kind_is = refl;
  grid_is = (refl, λ e. cc);
  from_is = (_, refl, (refl, refl));
  from_low = omega arith;
  from_high = omega arith;
  to_is = (_, refl, (refl, refl));
  to_low = omega arith;
  to_high = omega arith;
  range = (omega arith, omega arith);
}

falling_word : IsWrongWord each_command falling_words 3
falling_word = record {
  counted = omega arith;
  before = (codes "from=4" ∷ codes "grid=a" ∷ codes "kind=cube" ∷ [], (spectrum_command Cube (codes "a") (pos 4) (pos 4), refl, alone_right));
  wrong = inl (omega arith, λ b. falling_never b.0 b.1.0 b.1.2);
}
