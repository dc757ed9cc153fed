-- The limits of document 01, each named once. Room, the refusals and the code's constants cite them. Assumes nothing.
use Rattle.std.specs.Prelude.{ℕ}

-- a grid has 1 to 4,096 columns and rows
unfoldable pub side_limit : ℕ
side_limit = 4096

-- a doubled coordinate is at most 8,192
unfoldable pub coordinate_limit : ℕ
coordinate_limit = 8192

-- a ring has at most 67,108,864 points
unfoldable pub point_limit : ℕ
point_limit = 67108864

-- a directory record is six words: first point, point count, class, owner, and the area, which takes two
unfoldable pub record_stride : ℕ
record_stride = 6

-- the owner of a dropped hole, of a line and of a bare ring
unfoldable pub no_owner : ℕ
no_owner = 4294967295
