-- Planes: rows of words, one behind the other.
use Rattle.std.specs.Prelude.{ℕ, ◌+◌, ◌*◌, ◌≤◌, ◌<◌, ◌≡◌, ◌≢◌, List, length, replicate, slice_range}
use Rattle.std.specs.Borrow.{Lends, MutBor, Fml, Array, u64}
use Rattle.std.specs.Vec.{with_items_from}
use Rattle.grid_rows.specs.declared.planes.BitPlane.{BitPlane}
use Rattle.grid_rows.specs.declared.planes.EdgePlane.{EdgePlane}
use Rattle.grid_rows.specs.declared.planes.EdgeWord.{EdgeWord}
use Rattle.grid_rows.specs.contracts.planes.BitPlane.{the_row as bit_plane}
use Rattle.grid_rows.specs.contracts.planes.EdgePlane.{the_row as edge_plane}
use Rattle.grid_rows.specs.contracts.planes.EdgeWord.{the_row as edge_word}

-- ---- planes of bits

-- the row of this number
abbrev pub bit_row : BitPlane → ℕ → List ℕ
bit_row plane number = slice_range plane.bits.items (number * plane.words) (number * plane.words + plane.words)

-- there is a row of this number
abbrev pub HasRowOfBits : BitPlane → ℕ → Type 0
HasRowOfBits plane number = number * plane.words + plane.words ≤ length plane.bits.items

-- there are so many rows of so many words, and no bit is set
abbrev pub IsClear : ℕ → ℕ → BitPlane → Type 0
IsClear rows words plane = (plane.words ≡ words) × (plane.bits.items ≡ replicate (rows * words) 0)

-- the plane with other words in the row of this number
abbrev pub with_bits : BitPlane → ℕ → List ℕ → BitPlane
with_bits plane number words = record plane { bits = with_items_from plane.bits (number * plane.words) words }

-- what is written to the words that were lent is written to the row of this number
abbrev pub LendsBits : MutBor BitPlane → ℕ → MutBor (List ℕ) → Fml
LendsBits plane number words = Lends bit_plane (Array u64 0) plane words (with_bits plane.now number)

-- a plane that is written to in one row has the words there, has as many words as before, and in each other row what it had
abbrev pub KeepsBits : BitPlane → ℕ → List ℕ → Type 0
KeepsBits plane number words = HasRowOfBits plane number → length words ≡ plane.words
    → (bit_row (with_bits plane number words) number ≡ words)
    × (length (with_bits plane number words).bits.items ≡ length plane.bits.items)
    × ((other : ℕ) → HasRowOfBits plane other → other ≢ number → bit_row (with_bits plane number words) other ≡ bit_row plane other)

-- each row of a new plane is there, and is empty
abbrev pub BeginsBits : ℕ → ℕ → BitPlane → Type 0
BeginsBits rows words plane = IsClear rows words plane
    → (number : ℕ) → number < rows → HasRowOfBits plane number × (bit_row plane number ≡ replicate words 0)

-- ---- planes of edges

-- the row of this number
abbrev pub edge_row : EdgePlane → ℕ → List EdgeWord
edge_row plane number = slice_range plane.edges.items (number * plane.words) (number * plane.words + plane.words)

-- there is a row of this number
abbrev pub HasRowOfEdges : EdgePlane → ℕ → Type 0
HasRowOfEdges plane number = number * plane.words + plane.words ≤ length plane.edges.items

-- a word with no edge
abbrev pub no_edge : EdgeWord
no_edge = record { first = 0; second = 0; before = 0 }

-- there are so many rows of so many words, and no edge
abbrev pub HasNoEdge : ℕ → ℕ → EdgePlane → Type 0
HasNoEdge rows words plane = (plane.words ≡ words) × (plane.edges.items ≡ replicate (rows * words) no_edge)

-- the plane with other words in the row of this number
abbrev pub with_edges : EdgePlane → ℕ → List EdgeWord → EdgePlane
with_edges plane number words = record plane { edges = with_items_from plane.edges (number * plane.words) words }

-- what is written to the words that were lent is written to the row of this number
abbrev pub LendsEdges : MutBor EdgePlane → ℕ → MutBor (List EdgeWord) → Fml
LendsEdges plane number words = Lends edge_plane (Array edge_word 0) plane words (with_edges plane.now number)

-- a plane that is written to in one row has the words there, has as many words as before, and in each other row what it had
abbrev pub KeepsEdges : EdgePlane → ℕ → List EdgeWord → Type 0
KeepsEdges plane number words = HasRowOfEdges plane number → length words ≡ plane.words
    → (edge_row (with_edges plane number words) number ≡ words)
    × (length (with_edges plane number words).edges.items ≡ length plane.edges.items)
    × ((other : ℕ) → HasRowOfEdges plane other → other ≢ number → edge_row (with_edges plane number words) other ≡ edge_row plane other)

-- each row of a new plane is there, and is empty
abbrev pub BeginsEdges : ℕ → ℕ → EdgePlane → Type 0
BeginsEdges rows words plane = HasNoEdge rows words plane
    → (number : ℕ) → number < rows → HasRowOfEdges plane number × (edge_row plane number ≡ replicate words no_edge)
