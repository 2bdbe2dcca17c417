-- The triangles at one vertex, each with how it reads, and what is found among them.
use Rattle.std.specs.Prelude.{ℕ, ◌≡◌, ◌≢◌, ◌+◌, ◌*◌, ◌^◌, ◌<◌, ◌⊎◌, Bool, true, false, List, [], ◌∷◌, map, length, slice_index}
use Rattle.std.specs.Prelude.{All, Contains, Option, Some, None, MatchOption, option_map, filter, is_some}
use Rattle.std.specs.List.Sorted.{IsNonDecreasing, IsNonDecreasingBy, IsPermutation}
use Rattle.lists.specs.Orders.{has, numbers}
use Rattle.iso_model.specs.Walks.{Trail, IsWalk, reading, triangles_at, walk, next_after}
use Rattle.mesh_laws.specs.declared.rounds.Corner.{Corner}
use Rattle.mesh_laws.specs.declared.rounds.Begin.{Begin}

-- ---- what is given

-- the numbers of triangles
abbrev pub numbers_of : List Corner → List ℕ
numbers_of corners = map (λ (c : Corner). c.triangle) corners

-- what they read as p
abbrev pub ps_of : List Corner → List ℕ
ps_of corners = map (λ (c : Corner). c.p) corners

-- what they read as q
abbrev pub qs_of : List Corner → List ℕ
qs_of corners = map (λ (c : Corner). c.q) corners

-- these are the triangles at k, in the order of their numbers, each with how it reads, turned to k
pub record AreCornersAt (simplices : List (List ℕ)) (k : ℕ) (corners : List Corner) : Type 0 where
  pub numbered : numbers_of corners ≡ triangles_at simplices k
  pub read : All (λ (c : Corner). reading simplices k c.triangle ≡ Some (c.p, c.q)) corners

-- the triangle of a number with how it reads, where it reads so
abbrev pub corner_of : ℕ → Option (ℕ × ℕ) → List Corner
corner_of number None = []
corner_of number (Some r) = record { triangle = number; p = r.0; q = r.1 } ∷ []

-- the same of the triangles of which the numbers are below n
pub record AreCornersBelow (n : ℕ) (simplices : List (List ℕ)) (k : ℕ) (corners : List Corner) : Type 0 where
  pub numbered : numbers_of corners ≡ filter (λ t. is_some (reading simplices k t)) (numbers n)
  pub read : All (λ (c : Corner). reading simplices k c.triangle ≡ Some (c.p, c.q)) corners

-- a trail is the walk round a vertex of which these are the triangles
abbrev pub IsWalkRound : List Corner → Trail → Type 0
IsWalkRound corners trail = (simplices : List (List ℕ)) (k : ℕ) → AreCornersAt simplices k corners → trail ≡ walk simplices k

-- these are the triangles that such a walk meets, and it closes or does not
abbrev pub IsMeeting : List Corner → List ℕ → Bool → Type 0
IsMeeting corners order closed =
    (simplices : List (List ℕ)) (k : ℕ) → AreCornersAt simplices k corners → (order ≡ (walk simplices k).order) × (closed ≡ (walk simplices k).closed)

-- ---- what is found among them

-- the place is that of the first member that is p
abbrev pub IsFirstPlace : List ℕ → ℕ → ℕ → Type 0
IsFirstPlace ps p place = (place < length ps) × (slice_index ps place ≡ p) × ((i : ℕ) → i < place → slice_index ps i ≢ p)

-- no member is p
abbrev pub LacksPlace : List ℕ → ℕ → Type 0
LacksPlace ps p = (i : ℕ) → i < length ps → slice_index ps i ≢ p

-- the place of the first member that is p, where there is one
abbrev pub IsFirstWith : List ℕ → ℕ → Option ℕ → Type 0
IsFirstWith ps p place = MatchOption place (LacksPlace ps p) (IsFirstPlace ps p)

-- the order of begins: by their p, and by their places where they have the same p
abbrev pub rank_of : Begin → ℕ
rank_of b = b.p * 2 ^ 32 + b.place

-- each begin is a place with the p there
abbrev pub ArePlaced : List ℕ → List Begin → Type 0
ArePlaced ps begins = All (λ (b : Begin). (b.place < length ps) × (slice_index ps b.place ≡ b.p)) begins

-- each place below n stands among the begins
abbrev pub AreListed : List ℕ → ℕ → List Begin → Type 0
AreListed ps n begins = (i : ℕ) → i < n → Contains begins (record { p = slice_index ps i; place = i })

-- the begins of triangles that read so as p, in order
pub record AreBegins (ps : List ℕ) (begins : List Begin) : Type 0 where
  pub few : length ps < 2 ^ 32
  pub sorted : IsNonDecreasingBy rank_of begins
  pub placed : ArePlaced ps begins
  pub listed : AreListed ps (length ps) begins

-- the ends of triangles that read so as q, in order
abbrev pub AreEnds : List ℕ → List ℕ → Type 0
AreEnds qs ends = IsNonDecreasing ends × IsPermutation qs ends

-- the first place of which the p is no q, or place 0 where there is none
abbrev pub IsStart : List ℕ → List ℕ → ℕ → Type 0
IsStart ps qs place =
    (place < length ps)
    × (((has qs (slice_index ps place) ≡ false) × ((i : ℕ) → i < place → has qs (slice_index ps i) ≡ true))
    ⊎ ((place ≡ 0) × ((i : ℕ) → i < length ps → has qs (slice_index ps i) ≡ true)))

-- ---- the walk

-- the number of the triangle at a place, where there is one
abbrev pub number_at : List Corner → Option ℕ → Option ℕ
number_at corners place = option_map (slice_index (numbers_of corners)) place

-- a walk from the triangle at a place meets these, and the last of them leads to the one at another place
pub record IsWalked (simplices : List (List ℕ)) (k : ℕ) (corners : List Corner) (first : ℕ) (order : List ℕ) (next : Option ℕ) : Type 0 where
  pub walked : IsWalk simplices k (slice_index (numbers_of corners) first) order
  pub leads : next_after simplices k order ≡ number_at corners next

-- so it is at each vertex of which these are the triangles
abbrev pub WalksFrom : List Corner → ℕ → List ℕ → Option ℕ → Type 0
WalksFrom corners first order next = (simplices : List (List ℕ)) (k : ℕ) → AreCornersAt simplices k corners → IsWalked simplices k corners first order next
