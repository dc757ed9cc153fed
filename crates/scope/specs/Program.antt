-- What the program reads, the text of a terrain and its threshold, and what it writes, the text of the terrain's contour, both as bytes. Assumes nothing.
use Rattle.std.specs.Prelude.{◌≡◌, List, [], ◌∷◌, ◌++◌, map, ℕ, zero, suc, ◌*◌, ◌≤◌, length, take, drop}
use Rattle.scope.specs.Terrain.{Sheet, above_at, at_least, terrain}
use Rattle.scope.specs.Drawing.{rings_of, ring_count}
use Rattle.scope.specs.Smoothing.{whole}
use Rattle.scope.specs.Tables.{packed_points, contour_records}
use Rattle.scope.specs.GeoJson.{decimal, geo_json_text}

-- numbers are 0 to 65,535, and sides 1 to 32
unfoldable pub number_limit : ℕ
number_limit = 65535

unfoldable pub program_side : ℕ
program_side = 32

-- dx columns, dy rows, the threshold, and the values row after row
pub record Input : Type 0 where
  pub dx : ℕ
  pub dy : ℕ
  pub threshold : ℕ
  pub values : List ℕ

-- every number of a list is at most the limit
abbrev pub NoneOver : ℕ → List ℕ → Type 0
NoneOver limit [] = Unit {0}
NoneOver limit (n ∷ ns) = (n ≤ limit) × NoneOver limit ns

pub record Fitting (i : Input) : Type 0 where
  pub some-columns : 1 ≤ i.dx
  pub columns : i.dx ≤ program_side
  pub some-rows : 1 ≤ i.dy
  pub rows : i.dy ≤ program_side
  pub threshold-fits : i.threshold ≤ number_limit
  pub all-values : length i.values ≡ i.dx * i.dy
  pub values-fit : NoneOver number_limit i.values

-- numbers, plain decimal without leading zeros, one space between
unfoldable pub spaced : List ℕ → List ℕ
spaced [] = []
spaced (n ∷ []) = decimal n
spaced (n ∷ m ∷ ns) = decimal n ++ (32 ∷ spaced (m ∷ ns))

-- each line ended by a newline
unfoldable pub line_text : List ℕ → List ℕ
line_text ns = spaced ns ++ (10 ∷ [])

-- dy lines of dx numbers
unfoldable pub rows_text : ℕ → ℕ → List ℕ → List ℕ
rows_text dx zero values = []
rows_text dx (suc dy) values = line_text (take dx values) ++ rows_text dx dy (drop dx values)

-- a line dx dy t, then the rows, and nothing after
unfoldable pub input_text : Input → List ℕ
input_text i = line_text (i.dx ∷ i.dy ∷ i.threshold ∷ []) ++ rows_text i.dx i.dy i.values

-- a text is accepted as an input that it is the text of
pub record Accepts (text : List ℕ) (i : Input) : Type 0 where
  pub fits : Fitting i
  pub is-text : text ≡ input_text i

-- the terrain of an input at its threshold
unfoldable pub input_sheet : Input → Sheet
input_sheet i = terrain (above_at (at_least (whole i.threshold))) (map whole i.values) i.dx i.dy

-- the GeoJSON of a contour, by its points and its records
unfoldable pub contour_text : Sheet → ℕ → ℕ → List ℕ
contour_text A dx dy = geo_json_text (packed_points (rings_of A dx dy)) (contour_records (rings_of A dx dy)) (ring_count A dx dy)

-- what the program writes for an input, and a newline behind it
unfoldable pub program_text : Input → List ℕ
program_text i = contour_text (input_sheet i) i.dx i.dy
