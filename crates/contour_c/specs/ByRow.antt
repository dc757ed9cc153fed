-- What the entries for a terrain that comes row by row return to C, and what they leave in the words of the state, in the tables and in their output, by the
-- outcome of the call. Assumes nothing.
use Rattle.std.specs.Prelude.{◌≡◌, List, ℕ, Result, Ok, Err}
use Rattle.rows.specs.Called.{Outcome}
use Rattle.rows.specs.declared.Rows.{Rows}
use Rattle.rowstate.specs.Words.{state_out}
use Rattle.contour_c.specs.Rings.{built_status, built_rings}
use Rattle.error.specs.declared.Refusal.{Refusal}

-- the words of the state: those that the call's state leaves, or as they were
unfoldable pub state_words : List ℕ → Rows → Result ℕ Refusal → List ℕ
state_words words s (Ok n) = state_out s words
state_words words s (Err why) = words

-- a row or an end whose call has this outcome: the status and the output are its answer's, and the tables are its tables
pub record RowEntry (outcome : Outcome) (words : List ℕ) (rings : ℕ) (status : ℕ) (words' lines' links' points' directory' : List ℕ) (rings' : ℕ) : Type 0 where
  pub status-is : status ≡ built_status outcome.answer
  pub words_are : words' ≡ state_words words outcome.state outcome.answer
  pub lines_are : lines' ≡ outcome.lines
  pub links-are : links' ≡ outcome.links
  pub points-are : points' ≡ outcome.points
  pub directory-is : directory' ≡ outcome.directory
  pub rings-are : rings' ≡ built_rings rings outcome.answer
