-- Document 02, request 1, as definitions: what a call that draws row r of cells needs and gives out, by document 01's drawing; and the calls one after the other,
-- where each finds its state as the last call left it, and its work tables no shorter and with the words that call left. Assumes nothing.
use Rattle.std.specs.Prelude.{◌≡◌, cond, List, [], ◌∷◌, ◌++◌, ℕ, zero, suc, ◌+◌, ◌-◌, ◌*◌, max, ltb, Float, length, take, drop, Ok}
use Rattle.error.specs.declared.Refusal.TheVariants.{OpenShort, LinksShort, PointsShort, DirectoryShort}
use Rattle.scope.specs.Terrain.{Sheet}
use Rattle.scope.specs.Stitching.{Line}
use Rattle.scope.specs.Drawing.{along, open_after, rings_after}
use Rattle.scope.specs.Room.{open_words, link_words, directory_words}
use Rattle.scope.specs.declared.Level.{Level}
use Rattle.isoringbuilder.specs.Verdict.{Verdict, refused, passes}
use Rattle.rows.specs.Called.{begun_state, row_called}
use Rattle.rows.specs.declared.Rows.{Rows}

-- the segments of lines, one fewer than the points of each
unfoldable pub segments_in : List Line → ℕ
segments_in [] = 0
segments_in (l ∷ ls) = (length l - 1) + segments_in ls

-- the points of rings
unfoldable pub points_in : List Line → ℕ
points_in [] = 0
points_in (l ∷ ls) = length l + points_in ls

-- the call that draws row r of cells
module _ (A : Sheet) (dx r : ℕ) where
  -- the most open lines after a cell of it
  unfoldable pub call_peak : ℕ
  call_peak = along (λ h c r. max h (length (open_after A dx r (suc c)))) 0 dx 0 r (suc dx)

  -- the most segments in no closed ring after a cell of it
  unfoldable pub call_held : ℕ
  call_held = along (λ h c r. max h (segments_in (open_after A dx r (suc c)))) 0 dx 0 r (suc dx)

  -- the rings that it closes
  unfoldable pub call_rings : List Line
  call_rings = drop (length (rings_after A dx r 0)) (rings_after A dx r (suc dx))

  -- numbers 5 to 8, by the words lent
  unfoldable pub call_verdict : ℕ → ℕ → ℕ → ℕ → Verdict
  call_verdict lines links points directory =
      cond (ltb lines (open_words dx call_peak)) (refused OpenShort)
      (cond (ltb links (link_words call_held)) (refused LinksShort)
      (cond (ltb points (2 * points_in call_rings)) (refused PointsShort)
      (cond (ltb directory (directory_words (length call_rings))) (refused DirectoryShort) passes)))

-- the first n calls together: their rings, one call's behind another's, and the most that they come to
unfoldable pub all_rings : Sheet → ℕ → ℕ → List Line
all_rings A dx zero = []
all_rings A dx (suc n) = all_rings A dx n ++ call_rings A dx n

unfoldable pub peak_to : Sheet → ℕ → ℕ → ℕ
peak_to A dx zero = 0
peak_to A dx (suc n) = max (peak_to A dx n) (call_peak A dx n)

unfoldable pub held_to : Sheet → ℕ → ℕ → ℕ
held_to A dx zero = 0
held_to A dx (suc n) = max (held_to A dx n) (call_held A dx n)

-- row k of a grid's values
unfoldable pub values_of_row : List Float → ℕ → ℕ → List Float
values_of_row values dx k = take dx (drop (k * dx) values)

-- r rows of a grid taken, each call lent tables that begin with the words that the one before it left
pub data Taken (values : List Float) (level : Level) (dx dy : ℕ) : ℕ → Rows → List ℕ → List ℕ → Type 0 where
  none : (lines links : List ℕ) → Taken values level dx dy 0 (begun_state level dx dy) lines links
  one_more : (r : ℕ) (s : Rows) (lines links more more' points directory : List ℕ) (n : ℕ)
      → Taken values level dx dy r s lines links
      → (row_called s (values_of_row values dx r) (lines ++ more) (links ++ more') points directory).answer ≡ Ok n
      → Taken values level dx dy (suc r)
      (row_called s (values_of_row values dx r) (lines ++ more) (links ++ more') points directory).state
      (row_called s (values_of_row values dx r) (lines ++ more) (links ++ more') points directory).lines
      (row_called s (values_of_row values dx r) (lines ++ more) (links ++ more') points directory).links
