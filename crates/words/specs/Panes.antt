-- Sixty-four neighbouring cells of a row by the words of their four samples: which of them are active, and their numbers. Assumes nothing.
use Rattle.std.specs.Prelude.{◌≡◌, Bool, true, false, ◌&&◌, ◌||◌, ℕ, suc, ◌+◌}
use Rattle.std.specs.Int.Bits.{bit_and, bit_or, bit_xor}
use Rattle.scope.specs.Terrain.{Sheet}
use Rattle.scope.specs.Cells.{number_of}
use Rattle.words.specs.Bits.{packed, bit_at, moved_in}
use Rattle.words.specs.declared.Pane.{Pane}

-- one of two samples is above and one is not
abbrev pub apart : Bool → Bool → Bool
apart true true = false
apart true false = true
apart false true = true
apart false false = false

-- cell (c, r) is active: its four samples do not agree
abbrev pub active : Sheet → ℕ → ℕ → Bool
active A r c = (apart (A (suc c) r) (A (suc c) (suc r)) || apart (A c r) (A c (suc r))) || apart (A (suc c) r) (A c r)

-- by the four samples, lower left, lower right, upper right and upper left: the lower right one is apart from both its neighbours
abbrev pub lower_apart : Bool → Bool → Bool → Bool → Bool
lower_apart ll lr ur ul = apart ll lr && apart lr ur

-- the upper left one is
abbrev pub upper_apart : Bool → Bool → Bool → Bool → Bool
upper_apart ll lr ur ul = apart ur ul && apart ul ll

-- each of them is
abbrev pub saddle : Bool → Bool → Bool → Bool → Bool
saddle ll lr ur ul = lower_apart ll lr ur ul && upper_apart ll lr ur ul

-- the lower right one is, and the other two pairs agree
abbrev pub opening : Bool → Bool → Bool → Bool → Bool
opening ll lr ur ul = apart (lower_apart ll lr ur ul) (lower_apart ll lr ur ul && (apart ur ul || apart ul ll))

-- the upper left one is, and the other two pairs agree
abbrev pub closing : Bool → Bool → Bool → Bool → Bool
closing ll lr ur ul = apart (upper_apart ll lr ur ul) (upper_apart ll lr ur ul && (apart ll lr || apart lr ur))

-- a pane shows the cells of row r from cell c on
pub record Shows (A : Sheet) (r c : ℕ) (pane : Pane) : Type 0 where
  pub shows-lower-left : pane.lower_left ≡ packed (λ j. A (c + j) (suc r)) 64
  pub shows-lower-right : pane.lower_right ≡ packed (λ j. A (suc (c + j)) (suc r)) 64
  pub shows-upper-right : pane.upper_right ≡ packed (λ j. A (suc (c + j)) r) 64
  pub shows-upper-left : pane.upper_left ≡ packed (λ j. A (c + j) r) 64

-- the pane whose right samples are these words, with the samples on the left of its first cell
unfoldable pub pane_of : ℕ → ℕ → Bool → Bool → Pane
pane_of upper lower upper_before lower_before = record {
  lower_left = moved_in lower lower_before;
  lower_right = lower;
  upper_right = upper;
  upper_left = moved_in upper upper_before;
}

-- the active cells of a pane, by their bits
unfoldable pub changes_in : Pane → ℕ
changes_in p =
    bit_or (bit_or (bit_xor p.upper_right p.lower_right) (bit_xor p.upper_left p.lower_left))
    (bit_xor p.upper_right p.upper_left)

-- the number of cell j of a pane
unfoldable pub number_in : Pane → ℕ → ℕ
number_in p j = number_of (bit_at p.lower_left j) (bit_at p.lower_right j) (bit_at p.upper_right j) (bit_at p.upper_left j)

-- the cells of a pane that draw two segments, that leave one open line more, and that leave one fewer, by their bits
module _ (p : Pane) where
  unfoldable pub lower_in : ℕ
  lower_in = bit_and (bit_xor p.lower_left p.lower_right) (bit_xor p.lower_right p.upper_right)

  unfoldable pub upper_in : ℕ
  upper_in = bit_and (bit_xor p.upper_right p.upper_left) (bit_xor p.upper_left p.lower_left)

  unfoldable pub saddles_in : ℕ
  saddles_in = bit_and lower_in upper_in

  unfoldable pub opening_in : ℕ
  opening_in = bit_xor lower_in (bit_and lower_in (bit_or (bit_xor p.upper_right p.upper_left) (bit_xor p.upper_left p.lower_left)))

  unfoldable pub closing_in : ℕ
  closing_in = bit_xor upper_in (bit_and upper_in (bit_or (bit_xor p.lower_left p.lower_right) (bit_xor p.lower_right p.upper_right)))
