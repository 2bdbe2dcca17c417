-- Version 2 of the square's table, and the faults of some changes of it, by computing.
use Rattle.std.specs.Prelude.{◌≡◌, ℕ, ◌+◌, ◌≤◌, List, [], ◌∷◌, ◌++◌, length, take, drop, slice_index, Option, Some, None}
use Rattle.std.proofs.Common.{refl, ap, arith, inl, inr}
use Rattle.iso_formats.specs.TableFile.{head_bytes}
use Rattle.iso_model.specs.declared.Kind.TheVariants.{Cube}
use Rattle.iso_model.proofs.TableTests.{square}
use Rattle.iso_formats.proofs.TableFile2Laws.{fault_holds, body_fault}
use Rattle.iso_formats.specs.TableFile2.{HasFileFault, at_magic, table_bytes2, FileFault, HasHeadOf, at_index, at_count, at_edge, at_short, at_extra}

-- the bytes of the square's table
abbrev pub square_bytes2 : List ℕ
square_bytes2 =
    0x48 ∷ 0x55 ∷ 0x4c ∷ 0x4c ∷ 0x54 ∷ 0x41 ∷ 0x42 ∷ 0x32 ∷ 0 ∷ 2 ∷ 4 ∷ 4 ∷ 0 ∷ 0 ∷ 0 ∷ 16 ∷ 0 ∷ 0 ∷ 0 ∷ 14
    ∷ 0 ∷ 0 ∷ 0 ∷ 1 ∷ 0 ∷ 0 ∷ 0 ∷ 0 ∷ 0 ∷ 0 ∷ 0 ∷ 188 ∷ 0 ∷ 0 ∷ 0 ∷ 2 ∷ 0 ∷ 0 ∷ 0 ∷ 0 ∷ 0 ∷ 0 ∷ 0 ∷ 194
    ∷ 0 ∷ 0 ∷ 0 ∷ 3 ∷ 0 ∷ 0 ∷ 0 ∷ 0 ∷ 0 ∷ 0 ∷ 0 ∷ 200 ∷ 0 ∷ 0 ∷ 0 ∷ 4 ∷ 0 ∷ 0 ∷ 0 ∷ 0 ∷ 0 ∷ 0 ∷ 0 ∷ 206
    ∷ 0 ∷ 0 ∷ 0 ∷ 5 ∷ 0 ∷ 0 ∷ 0 ∷ 0 ∷ 0 ∷ 0 ∷ 0 ∷ 212 ∷ 0 ∷ 0 ∷ 0 ∷ 6 ∷ 0 ∷ 0 ∷ 0 ∷ 0 ∷ 0 ∷ 0 ∷ 0 ∷ 218
    ∷ 0 ∷ 0 ∷ 0 ∷ 7 ∷ 0 ∷ 0 ∷ 0 ∷ 0 ∷ 0 ∷ 0 ∷ 0 ∷ 226 ∷ 0 ∷ 0 ∷ 0 ∷ 8 ∷ 0 ∷ 0 ∷ 0 ∷ 0 ∷ 0 ∷ 0 ∷ 0 ∷ 232
    ∷ 0 ∷ 0 ∷ 0 ∷ 9 ∷ 0 ∷ 0 ∷ 0 ∷ 0 ∷ 0 ∷ 0 ∷ 0 ∷ 238 ∷ 0 ∷ 0 ∷ 0 ∷ 10 ∷ 0 ∷ 0 ∷ 0 ∷ 0 ∷ 0 ∷ 0 ∷ 0 ∷ 246
    ∷ 0 ∷ 0 ∷ 0 ∷ 11 ∷ 0 ∷ 0 ∷ 0 ∷ 0 ∷ 0 ∷ 0 ∷ 0 ∷ 252 ∷ 0 ∷ 0 ∷ 0 ∷ 12 ∷ 0 ∷ 0 ∷ 0 ∷ 0 ∷ 0 ∷ 0 ∷ 1 ∷ 2
    ∷ 0 ∷ 0 ∷ 0 ∷ 13 ∷ 0 ∷ 0 ∷ 0 ∷ 0 ∷ 0 ∷ 0 ∷ 1 ∷ 8 ∷ 0 ∷ 0 ∷ 0 ∷ 14 ∷ 0 ∷ 0 ∷ 0 ∷ 0 ∷ 0 ∷ 0 ∷ 1 ∷ 14
    ∷ 0 ∷ 0 ∷ 0 ∷ 1 ∷ 0 ∷ 1 ∷ 0 ∷ 0 ∷ 0 ∷ 1 ∷ 2 ∷ 0 ∷ 0 ∷ 0 ∷ 0 ∷ 1 ∷ 2 ∷ 1 ∷ 0 ∷ 0 ∷ 0 ∷ 1 ∷ 1 ∷ 3 ∷ 0 ∷ 0 ∷ 0 ∷ 1
    ∷ 0 ∷ 3 ∷ 0 ∷ 0 ∷ 0 ∷ 2 ∷ 1 ∷ 0 ∷ 2 ∷ 3 ∷ 0 ∷ 0 ∷ 0 ∷ 1 ∷ 2 ∷ 3 ∷ 0 ∷ 0 ∷ 0 ∷ 1 ∷ 3 ∷ 2 ∷ 0 ∷ 0 ∷ 0 ∷ 2 ∷ 0 ∷ 2
    ∷ 3 ∷ 1 ∷ 0 ∷ 0 ∷ 0 ∷ 1 ∷ 3 ∷ 0 ∷ 0 ∷ 0 ∷ 0 ∷ 1 ∷ 3 ∷ 1 ∷ 0 ∷ 0 ∷ 0 ∷ 1 ∷ 1 ∷ 2 ∷ 0 ∷ 0 ∷ 0 ∷ 1 ∷ 0 ∷ 2 ∷ 0 ∷ 0
    ∷ 0 ∷ 1 ∷ 1 ∷ 0 ∷ []

square_spelled : table_bytes2 square ≡ square_bytes2
unfolding table_bytes2
square_spelled = refl

its_length : length square_bytes2 ≡ 276
its_length = refl

-- bytes with another byte at a place
abbrev pub with_byte : ℕ → ℕ → List ℕ
with_byte place byte = take place square_bytes2 ++ byte ∷ drop (place + 1) square_bytes2

abbrev pub fault : List ℕ → Option FileFault
fault bytes = body_fault Cube 2 bytes

faultless : fault square_bytes2 ≡ None
faultless = refl

-- more records than labels
seventeen : fault (with_byte 19 17) ≡ Some (at_index 16)
seventeen = refl

-- one record more moves the end of the index
fifteen : fault (with_byte 19 15) ≡ Some (at_index 24)
fifteen = refl

-- a count that the offsets do not give
another_count : fault (with_byte 191 2) ≡ Some (at_count 188)
another_count = refl

no_edge : fault (with_byte 192 9) ≡ Some (at_edge 192)
no_edge = refl

cut_off : fault (take 275 square_bytes2) ≡ Some (at_short 275)
cut_off = refl

one_more : fault (square_bytes2 ++ 0 ∷ []) ≡ Some (at_extra 276)
one_more = refl

-- ---- places that are easily mistaken

-- a label that repeats the one before, one that is no label, and an offset that leaves no room
same_label : fault (with_byte 35 1) ≡ Some (at_index 32)
same_label = refl

great_label : fault (with_byte 179 16) ≡ Some (at_index 176)
great_label = refl

odd_offset : fault (with_byte 43 0xc3) ≡ Some (at_index 36)
odd_offset = refl

-- a field that the end cuts off is short, though its first bytes are wrong already
cut_label : fault (take 16 square_bytes2 ++ 0 ∷ 0 ∷ 0 ∷ 14 ∷ 255 ∷ 255 ∷ 255 ∷ []) ≡ Some (at_short 23)
cut_label = refl

-- the count of the last body: 0, and a great one whose tuples are not there
last_zero : fault (with_byte 273 0) ≡ Some (at_count 270)
last_zero = refl

last_great : fault (with_byte 271 255) ≡ Some (at_short 276)
last_great = refl

last_too_great : fault (with_byte 270 255) ≡ Some (at_count 270)
last_too_great = refl

-- no record at all
empty_table : fault (take 19 square_bytes2 ++ 0 ∷ []) ≡ None
empty_table = refl

empty_and_more : fault (take 19 square_bytes2 ++ 0 ∷ 7 ∷ []) ≡ Some (at_extra 20)
empty_and_more = refl

-- ---- the head

-- a wrong first byte
no_magic : HasFileFault (with_byte 0 0x68) (at_magic 0)
no_magic = inl (
  record {
    inside_head = omega arith;
    inside = omega arith;
    begun = record { version = 2; kind = Cube; dimension = 2; one_or_two = inr refl; fits = (omega arith, omega arith); same = refl };
    stopped = λ b. let e : 104 ≡ 72 = ap (λ (l : List ℕ). slice_index l 0) b.same in omega (arith, e);
  },
  omega arith,
)

-- there is no version 3
third_version : HasFileFault (with_byte 7 0x33) (at_magic 7)
third_version = inl (
  record {
    inside_head = omega arith;
    inside = omega arith;
    begun = record { version = 2; kind = Cube; dimension = 2; one_or_two = inr refl; fits = (omega arith, omega arith); same = refl };
    stopped = λ b.
        let e : 51 ≡ 48 + b.version = ap (λ (l : List ℕ). slice_index l 7) b.same in
        elim b.one_or_two as (λ _. ⊥) [ inl v ↦ omega (arith, e, v) | inr v ↦ omega (arith, e, v) ];
  },
  omega arith,
)

square_head : (bytes : List ℕ) → 16 ≤ length bytes → take 16 bytes ≡ head_bytes 2 Cube 2 → HasHeadOf 2 bytes Cube 2
square_head bytes whole same = record { fits = (omega arith, omega arith); whole = whole; same = same }

-- the head alone is short of the number of records, and a part of it is short too
head_alone : HasFileFault (take 16 square_bytes2) (at_short 16)
head_alone = inr (inr (Cube, 2, square_head _ (omega arith) refl, fault_holds Cube 2 (take 16 square_bytes2) (at_short 16) refl))

half_a_head : HasFileFault (take 11 square_bytes2) (at_short 11)
half_a_head = inl (
  refl,
  omega arith,
  record { version = 2; kind = Cube; dimension = 2; one_or_two = inr refl; fits = (omega arith, omega arith); same = refl },
)

-- a fault behind the head
count_behind : HasFileFault (with_byte 191 2) (at_count 188)
count_behind = inr (inr (Cube, 2, square_head _ (omega arith) refl, fault_holds Cube 2 (with_byte 191 2) (at_count 188) refl))
