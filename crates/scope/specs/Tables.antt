-- The tables at exit: work tables zeroed, points packed in record order, and directory records. Assumes nothing.
use Rattle.std.specs.Prelude.{ℕ, zero, suc, ◌+◌, List, [], ◌∷◌, ◌++◌, length, drop, replicate, Bool, Float}
use Rattle.scope.specs.Stitching.{Line}
use Rattle.scope.specs.Area.{area, area_words}
use Rattle.scope.specs.Contour.{Fate, line, class_word, owner_word, contour_fates}
use Rattle.scope.specs.Smoothing.{Vertex, Placing, line_vertices}
use Rattle.scope.specs.Band.{Numbered, numbered_from, band_order, order_rings, band_fates}

-- the needed words are zero, and those past the need as they were
unfoldable pub zeroed : ℕ → List ℕ → List ℕ
zeroed need table = replicate need 0 ++ drop need table

-- words written from the first on, and those not written as they were
unfoldable pub written : {Word : Type 0} → List Word → List Word → List Word
written words table = words ++ drop (length words) table

-- a ring's points as words X, Y, X, Y, and so on
unfoldable pub ring_words : Line → List ℕ
ring_words [] = []
ring_words (p ∷ l) = p.x ∷ p.y ∷ ring_words l

-- the points of all rings, packed
unfoldable pub packed_points : List Line → List ℕ
packed_points [] = []
packed_points (ring ∷ rings) = ring_words ring ++ packed_points rings

-- a line's vertices as words x, y, x, y, and so on
unfoldable pub vertex_words : List Vertex → List Float
vertex_words [] = []
vertex_words (v ∷ l) = v.x ∷ v.y ∷ vertex_words l

-- the vertices of all lines, packed, where a line has these vertices
unfoldable pub packed_vertices : (Line → List Vertex) → List Line → List Float
packed_vertices vertices [] = []
packed_vertices vertices (ring ∷ rings) = vertex_words (vertices ring) ++ packed_vertices vertices rings

-- the points of lines: the rings' vertices in their order, smoothed or not, then placed
unfoldable pub line_points : Bool → List Float → Float → ℕ → ℕ → Placing → List Line → List Float
line_points smooth values t dx dy q rings = packed_vertices (line_vertices smooth values t dx dy q) rings

-- a record without its area: first point, point count, class, owner; k is the record's own number
unfoldable pub short_of : ℕ → ℕ → Line → Fate → List ℕ
short_of k first ring fate = first ∷ length ring ∷ class_word fate ∷ owner_word k fate ∷ []

-- a record: these, and the ring's area
unfoldable pub record_of : ℕ → ℕ → Line → Fate → List ℕ
record_of k first ring fate = short_of k first ring fate ++ area_words (area ring)

-- the records of bare rings, numbered from k, whose points begin at the point of number first, where a record has these words
unfoldable pub bare_by : (ℕ → ℕ → Line → Fate → List ℕ) → ℕ → ℕ → List Line → List ℕ
bare_by words k first [] = []
bare_by words k first (ring ∷ rings) = words k first ring line ++ bare_by words (suc k) (first + length ring) rings

abbrev pub bare_records : ℕ → ℕ → List Line → List ℕ
bare_records k first rings = bare_by record_of k first rings

-- the number of the first point of the ring of number i, where all rings are packed
unfoldable pub first_point : List Line → ℕ → ℕ
first_point rings zero = 0
first_point [] (suc i) = 0
first_point (ring ∷ rings) (suc i) = length ring + first_point rings i

-- the records of rings in an order, numbered from k, each with its fate, where a record has these words; all are the rings as they are packed
unfoldable pub ordered_by : (ℕ → ℕ → Line → Fate → List ℕ) → List Line → ℕ → List Numbered → List Fate → List ℕ
ordered_by words all k [] fates = []
ordered_by words all k (n ∷ ns) [] = []
ordered_by words all k (n ∷ ns) (fate ∷ fates) = words k (first_point all n.number) n.ring fate ++ ordered_by words all (suc k) ns fates

abbrev pub ordered_records : List Line → ℕ → List Numbered → List Fate → List ℕ
ordered_records all k order fates = ordered_by record_of all k order fates

-- a contour's records stand by ring number
unfoldable pub contour_records : List Line → List ℕ
contour_records rings = ordered_records rings 0 (numbered_from 0 rings) (contour_fates rings)

-- a band's points stand lower set first, then upper, each by ring number, and its records in its sorted order
unfoldable pub band_points : List Line → List Line → List ℕ
band_points lower upper = packed_points (lower ++ upper)

unfoldable pub band_records : List Line → List Line → List ℕ
band_records lower upper = ordered_records (lower ++ upper) 0 (band_order lower upper) (band_fates (order_rings (band_order lower upper)))
