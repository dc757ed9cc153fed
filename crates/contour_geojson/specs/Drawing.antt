-- What the steps of the program ask, and what they leave in the room of the text. The last is document 01's: the text of the input's contour, or number 12.
-- Assumes nothing.
use Rattle.std.specs.Prelude.{Option, Some, None, ◌≡◌, false, List, ℕ, ◌*◌, ◌≤◌, Float, length}
use Rattle.scope.specs.Tables.{written}
use Rattle.scope.specs.GeoJson.{ring_set_refused, geo_json_text}
use Rattle.scope.specs.Program.{program_side, Input, Accepts, program_text}

-- the bytes of the room for a text
abbrev pub text_room : ℕ
text_room = 65536

-- a terrain that the program reads: sides 1 to 32, and a value for each sample
pub record Small (values : List Float) (dx dy : ℕ) : Type 0 where
  pub some-columns : 1 ≤ dx
  pub columns : dx ≤ program_side
  pub some-rows : 1 ≤ dy
  pub rows : dy ≤ program_side
  pub all-values : length values ≡ dx * dy

-- the room of the program's tables, which every such terrain fits: the laws of `Rooms` say so
pub record Roomy (lines links points directory text : List ℕ) : Type 0 where
  pub lines-room : 102 ≤ length lines
  pub links-room : 4224 ≤ length links
  pub points-room : 5280 ≤ length points
  pub directory-room : 3168 ≤ length directory
  pub text-room : text_room ≤ length text

-- a ring set that the writer takes, and room for its text
pub record Writable (ps directory : List ℕ) (rings : ℕ) (text : List ℕ) : Type 0 where
  pub passes-nine : ring_set_refused ps directory rings ≡ false
  pub room : length (geo_json_text ps directory rings) ≤ length text

-- a text stands at the beginning of its room, and its length is answered
pub record Stands (whole text : List ℕ) (answer : ℕ) (text' : List ℕ) : Type 0 where
  pub answer-is : answer ≡ length whole
  pub text-is : text' ≡ written whole text

-- the text of the input that a text is accepted as
pub record TextDrawn (input text : List ℕ) (length : ℕ) (text' : List ℕ) : Type 0 where
  pub read : Input
  pub accepted : Accepts input read
  pub stands : Stands (program_text read) text length text'

-- faulty exactly where the input is accepted as nothing; the room is as it was
unfoldable pub InputDrawn : List ℕ → List ℕ → Option ℕ → List ℕ → Type 0
InputDrawn input text (Some length) text' = TextDrawn input text length text'
InputDrawn input text None text' = ((i : Input) → Accepts input i → ⊥) × (text' ≡ text)
