-- What the contracts of the GeoJSON length and writer come to for a caller who has built rings: a text room of just the length is filled to the last byte, and the
-- tables of a contour or a band always have a length. That there is one result, and numbers 9 and 10 exactly, are laws of `geojson`. Assumes nothing.
use mathlib.Core.Path.{◌≡◌, ◌∙◌}
use mathlib.Core.Bool.{false}
use mathlib.Core.List.{List}
use Prim.Native.Nat.{ℕ}
use native.Mathlib.Omega.{arith}
use lib.Ieee.{Float}
use lib.ListN.{length}
use Rattle.scope.specs.declared.Rule.{Rule}
use Rattle.scope.specs.declared.Level.{Level}
use Rattle.scope.specs.Tables.{written}
use Rattle.scope.specs.GeoJson.{ring_set_refused, geo_json_text}
use Rattle.bands.specs.Bands.{BandBuilt}
use Rattle.contourbuilder.specs.Contours.{ContoursBuilt}
use Rattle.geojson.proofs.Laws.{Length, Writing, length-exact, writing-exact}
use Rattle.contour.proofs.Results.{nothing-past}
use Rattle.contour.proofs.Checked.{contours-checked, isobands-checked}
use Rattle.std.specs.Prelude.{Result, Ok}
use Rattle.error.specs.declared.Refusal.{Refusal}

-- lent just the room, a set that passes has its text written, and that is the whole room
pub exact-text-room : {ps directory : List ℕ} {rings : ℕ} {text : List ℕ} {answer : Result ℕ Refusal} {text' : List ℕ} → ring_set_refused ps directory rings ≡ false
    → length text ≡ length (geo_json_text ps directory rings) → Writing ps directory rings text answer text'
    → (answer ≡ Ok (length (geo_json_text ps directory rings))) × (text' ≡ geo_json_text ps directory rings)
unfolding written
exact-text-room {ps} {directory} {rings} {text} passes just w =
    let exactly = writing-exact w in
    let is = exactly.written-exactly.0 (passes, omega arith) in
    (is, exactly.text-stands-first is ∙ nothing-past (geo_json_text ps directory rings) text (length (geo_json_text ps directory rings)) just)

-- for the tables of a build the answer is the text's length, and no refusal
module _ {lines links points directory : List ℕ} {answer : Result ℕ Refusal} {lines' links' points' directory' : List ℕ} {n : ℕ} (is : answer ≡ Ok n)
    {told : Result ℕ Refusal} (length-told : Length points' directory' n told) where
  pub contours-have-a-length : (values : List Float) (level : Level) (dx dy : ℕ) → ContoursBuilt values level dx dy lines links points directory answer lines' links' points' directory'
      → told ≡ Ok (length (geo_json_text points' directory' n))
  contours-have-a-length values level dx dy b =
      (length-exact length-told).given-exactly.0 (contours-checked values level dx dy lines links points directory b n is).passes-nine

  pub isobands-have-a-length : (values thresholds : List Float) (rule : Rule) (k dx dy : ℕ) → BandBuilt values thresholds rule k dx dy lines links points directory answer lines' links' points' directory'
      → told ≡ Ok (length (geo_json_text points' directory' n))
  isobands-have-a-length values thresholds rule k dx dy b =
      (length-exact length-told).given-exactly.0 (isobands-checked values thresholds rule k dx dy lines links points directory b n is).passes-nine
