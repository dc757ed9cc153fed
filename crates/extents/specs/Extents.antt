-- The extent of points: their smallest and largest X and Y; which extents are apart; and an extent as two words of a table. Assumes nothing.
use Rattle.std.specs.Prelude.{Bool, cond, ◌||◌, List, [], ◌∷◌, ℕ, ◌+◌, ◌/◌, ◌%◌, ◌≤◌, min, max, ltb, get_or}
use Rattle.scope.specs.Cells.{Point}
use Rattle.scope.specs.Stitching.{Line}
use Rattle.extents.specs.declared.Extent.{Extent}

-- no point can lie in both: one ends before the other begins, by X or by Y. Extents that touch are not apart
unfoldable pub apart : Extent → Extent → Bool
apart e f = ltb e.right f.left || ltb f.right e.left || ltb e.bottom f.top || ltb f.bottom e.top

-- the extent holds the point
pub record Holds (e : Extent) (p : Point) : Type 0 where
  pub from-left : e.left ≤ p.x
  pub to-right : p.x ≤ e.right
  pub from-top : e.top ≤ p.y
  pub to-bottom : p.y ≤ e.bottom

-- the extent e lies within f
pub record Inside (e f : Extent) : Type 0 where
  pub left-inside : f.left ≤ e.left
  pub right-inside : e.right ≤ f.right
  pub top-inside : f.top ≤ e.top
  pub bottom-inside : e.bottom ≤ f.bottom

-- the extent of no point
unfoldable pub no_extent : Extent
no_extent = record { left = 65535; right = 0; top = 65535; bottom = 0 }

-- with one point more
unfoldable pub grown : Extent → Point → Extent
grown e p = record { left = min e.left p.x; right = max e.right p.x; top = min e.top p.y; bottom = max e.bottom p.y }

unfoldable pub grown_by : Extent → Line → Extent
grown_by e [] = e
grown_by e (p ∷ l) = grown_by (grown e p) l

-- the extent of one point, and of a line's points
unfoldable pub dot : Point → Extent
dot p = record { left = p.x; right = p.x; top = p.y; bottom = p.y }

unfoldable pub extent_of : Line → Extent
extent_of [] = no_extent
extent_of (p ∷ l) = grown_by (dot p) l

-- what lies right of a point in its row, the point included: a pair of points whose extent is apart from it neither holds the point nor flips its sign
unfoldable pub ray_from : Point → Extent
ray_from p = record { left = p.x; right = 65535; top = p.y; bottom = p.y }

-- the extent that nothing is apart from
unfoldable pub everything : Extent
everything = record { left = 0; right = 65535; top = 0; bottom = 65535 }

-- where a ring has to reach into for its answer to be other than -1. A ring in one row may lie in the row of any ring's first vertex, so for it nothing
-- is apart
unfoldable pub reach : Extent → Extent
reach e = cond (ltb e.top e.bottom) e everything

-- the extent in the two words at a place: left + 65536·right, then top + 65536·bottom
unfoldable pub extent_at : List ℕ → ℕ → Extent
extent_at table at =
    record {
      left = get_or table at 0 % 65536;
      right = get_or table at 0 / 65536;
      top = get_or table (at + 1) 0 % 65536;
      bottom = get_or table (at + 1) 0 / 65536;
    }
