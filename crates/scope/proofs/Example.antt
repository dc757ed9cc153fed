-- Document 02's example of GeoJSON, computed: the text of the one ring around a single sample. And a square, which way it runs, and in which order it is
-- written as an exterior and as a hole, run either way. Assumes nothing.
use Prim.Native.Nat.{ℕ}
use mathlib.Core.Path.{◌≡◌, refl}
use mathlib.Core.Bool.{false}
use mathlib.Core.List.{List, [], ◌∷◌, reverse}
use Rattle.scope.specs.Limits.{coordinate_limit, point_limit, record_stride, no_owner}
use Rattle.scope.specs.Cells.{same_point}
use Rattle.scope.specs.Stitching.{Line}
use Rattle.scope.specs.Area.{points, twist, twists, last_of, area, positive, negative, twos_complement, low_word, high_word, any_above}
use Rattle.scope.specs.Room.{directory_words}
use Rattle.scope.specs.GeoJson.{first_at, count_at, class_at, owner_at, area_low_at, area_high_at, words_in, ring_words_at, ring_at, directory_short, range_outside, count_out, coordinate_over, unclosed, area_off, class_out, is_polygon, is_hole, owned_by_another, owned_by_none, record_refused, any_below, ring_set_refused, decimal_by, decimal, coordinate_text, joined, bracketed, point_text, ring_text, backwards, written_order, written_at, numbers_of, polygon_numbers, is_hole_of, hole_numbers, polygon_text, opening, geo_json_text}
use Rattle.scope.specs.Winding.{side_area, signed_area, Counterclockwise, Clockwise}

pub ring : List ℕ
ring = 2 ∷ 1 ∷ 1 ∷ 0 ∷ 0 ∷ 1 ∷ 1 ∷ 2 ∷ 2 ∷ 1 ∷ []

pub directory : List ℕ
directory = 0 ∷ 5 ∷ 0 ∷ 0 ∷ 4 ∷ 0 ∷ []

pub stated : List ℕ
stated =
    123 ∷ 34 ∷ 116 ∷ 121 ∷ 112 ∷ 101 ∷ 34 ∷ 58 ∷ 34 ∷ 77 ∷ 117 ∷ 108 ∷ 116 ∷ 105 ∷ 80 ∷ 111 ∷ 108 ∷ 121 ∷ 103 ∷ 111
    ∷ 110 ∷ 34 ∷ 44 ∷ 34 ∷ 99 ∷ 111 ∷ 111 ∷ 114 ∷ 100 ∷ 105 ∷ 110 ∷ 97 ∷ 116 ∷ 101 ∷ 115 ∷ 34 ∷ 58 ∷ 91 ∷ 91 ∷ 91
    ∷ 91 ∷ 49 ∷ 44 ∷ 48 ∷ 46 ∷ 53 ∷ 93 ∷ 44 ∷ 91 ∷ 48 ∷ 46 ∷ 53 ∷ 44 ∷ 49 ∷ 93 ∷ 44 ∷ 91 ∷ 48 ∷ 44 ∷ 48
    ∷ 46 ∷ 53 ∷ 93 ∷ 44 ∷ 91 ∷ 48 ∷ 46 ∷ 53 ∷ 44 ∷ 48 ∷ 93 ∷ 44 ∷ 91 ∷ 49 ∷ 44 ∷ 48 ∷ 46 ∷ 53 ∷ 93 ∷ 93
    ∷ 93 ∷ 93 ∷ 125
    ∷ []

pub the-example : (ring_set_refused ring directory 1 ≡ false) × (geo_json_text ring directory 1 ≡ stated)
unfolding ring directory stated coordinate_limit point_limit record_stride no_owner same_point points twist twists last_of area positive negative twos_complement low_word high_word any_above directory_words first_at count_at class_at owner_at area_low_at area_high_at words_in ring_words_at ring_at directory_short range_outside count_out coordinate_over unclosed area_off class_out is_polygon is_hole owned_by_another owned_by_none record_refused any_below ring_set_refused decimal_by decimal coordinate_text joined bracketed point_text ring_text backwards written_order written_at numbers_of polygon_numbers is_hole_of hole_numbers polygon_text opening geo_json_text
the-example = (refl, refl)

-- with y upward: to the right, up, to the left, down
pub square : Line
square = record { x = 0; y = 0 } ∷ record { x = 2; y = 0 } ∷ record { x = 2; y = 2 } ∷ record { x = 0; y = 2 } ∷ record { x = 0; y = 0 } ∷ []

pub the-square : Counterclockwise square × Clockwise (reverse square)
unfolding square Counterclockwise Clockwise signed_area side_area positive negative
the-square = (refl, refl)

-- a ring as one of this class
abbrev written : ℕ → Line → Line
written class ring = written_order (backwards class (area ring)) ring

pub the-orders : (written 0 square ≡ square) × ((written 0 (reverse square) ≡ square) × ((written 1 square ≡ reverse square) × (written 1 (reverse square) ≡ reverse square)))
unfolding square written_order backwards area twist twists last_of positive negative
the-orders = (refl, (refl, (refl, refl)))
