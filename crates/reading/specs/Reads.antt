-- What reading a text answers and leaves in the table of values. Assumes nothing.
use Rattle.std.specs.Prelude.{Option, Some, None, ◌≡◌, List, map, ℕ, ◌≤◌, length, drop, Float}
use Rattle.scope.specs.Smoothing.{whole}
use Rattle.scope.specs.Tables.{written}
use Rattle.scope.specs.Program.{Input, Accepts}
use Rattle.reading.specs.Parser.{Got, found, none, rest, number, numbers, ends_from, headed, parsed}
use Rattle.reading.specs.declared.Terrain.{Terrain}
use Rattle.reading.specs.declared.Number.{Number}
use Rattle.reading.specs.declared.Head.{Head}

-- the terrain of an input that the text is accepted as
pub record TerrainRead (text : List ℕ) (values : List Float) (dx dy : ℕ) (threshold : Float) (values' : List Float) : Type 0 where
  pub input : Input
  pub accepted : Accepts text input
  pub dx-is : dx ≡ input.dx
  pub dy-is : dy ≡ input.dy
  pub threshold-is : threshold ≡ whole input.threshold
  pub values-are : values' ≡ written (map whole input.values) values

-- faulty exactly where the text is accepted as no input; the values are as they were
unfoldable pub InputRead : List ℕ → List Float → Option Terrain → List Float → Type 0
InputRead text values (Some t) values' = TerrainRead text values t.dx t.dy t.threshold values'
InputRead text values None values' = ((i : Input) → Accepts text i → ⊥) × (values' ≡ values)

-- the steps of reading, by the parser: what it finds, with what is left of the text from the next place on

unfoldable pub GotNumber : List ℕ → Got ℕ → Option Number → Type 0
GotNumber text got (Some n) = (got ≡ found n.value (drop n.next text)) × (n.next ≤ length text)
GotNumber text got None = got ≡ none

unfoldable pub RestRead : List ℕ → ℕ → ℕ → ℕ → Option Number → Type 0
RestRead text from begun end r = GotNumber text (rest end begun (drop from text)) r

unfoldable pub NumberRead : List ℕ → ℕ → ℕ → Option Number → Type 0
NumberRead text from end r = GotNumber text (number end (drop from text)) r

unfoldable pub HeadRead : List ℕ → Option Head → Type 0
HeadRead text (Some h) = (parsed text ≡ headed h.dx h.dy h.threshold (drop h.next text)) × (h.next ≤ length text)
HeadRead text None = parsed text ≡ none

pub record RowsRead (text : List ℕ) (from dx count : ℕ) (values : List Float) (next : ℕ) (values' : List Float) : Type 0 where
  pub read : List ℕ
  pub read-are : numbers (ends_from dx 0 count) (drop from text) ≡ found read (drop next text)
  pub next-within : next ≤ length text
  pub values-are : values' ≡ written (map whole read) values

unfoldable pub ValuesRead : List ℕ → ℕ → ℕ → ℕ → List Float → Option ℕ → List Float → Type 0
ValuesRead text from dx count values (Some next) values' = RowsRead text from dx count values next values'
ValuesRead text from dx count values None values' = numbers (ends_from dx 0 count) (drop from text) ≡ none
