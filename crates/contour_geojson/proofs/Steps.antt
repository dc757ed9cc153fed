-- The steps of the program: a set that the writer takes is written, what was read is a terrain whose text is the input's, and any two results that meet the last
-- contract coincide. Assumes nothing.
use Rattle.std.specs.Prelude.{Option, Some, None}
use mathlib.Core.Path.{◌≡◌, refl, sym, ◌∙◌, ap, ap₂, subst}
use mathlib.Core.List.{List, map}
use Prim.Native.Nat.{ℕ, ◌*◌, ◌≤◌}
use native.Mathlib.Nat.{mul-le-mul}
use native.Mathlib.Omega.{arith}
use lib.Ieee.{Float}
use lib.ListN.{length, take, drop, length-map, length-append}
use lib.Seq.{take_at}
use Rattle.error.specs.declared.Refusal.{Refusal}
use Rattle.scope.specs.Terrain.{above_at, at_least, terrain}
use Rattle.scope.specs.Smoothing.{whole}
use Rattle.scope.specs.Tables.{written}
use Rattle.scope.specs.GeoJson.{geo_json_text}
use Rattle.scope.specs.Program.{program_side, Input, input_sheet, contour_text, program_text}
use Rattle.geojson.specs.Written.{written_answer, text_after}
use Rattle.geojson.proofs.Laws.{WritingExact, writing-exact}
use Rattle.reading.specs.Reads.{TerrainRead, InputRead}
use Rattle.reading.specs.declared.Terrain.{Terrain}
use Rattle.reading.proofs.Inputs.{one-reading}
use Rattle.contour_geojson.specs.Drawing.{Small, Writable, Stands, InputDrawn}
use Rattle.std.specs.Prelude.{Result, Ok, Err}

-- ---- a set that the writer takes

module _ {ps directory : List ℕ} {rings : ℕ} {text : List ℕ} (w : Writable ps directory rings text) {answer : Result ℕ Refusal} {text' : List ℕ}
    (answers : answer ≡ written_answer ps directory rings text) (text-is : text' ≡ text_after ps directory rings text) where
  exactly : WritingExact ps directory rings text answer text'
  exactly = writing-exact (record { answers = answers; text-is = text-is })

  is-written : answer ≡ Ok (length (geo_json_text ps directory rings))
  is-written = exactly.written-exactly.0 (w.passes-nine, w.room)

  pub never-refused : {why : Refusal} {X : Type 0} → answer ≡ Err why → X
  never-refused e = absurd (let z : ◌≡◌ {A = ℕ} 0 1 = cc is-written in omega arith)

  pub set-stands : {n : ℕ} → answer ≡ Ok n → Stands (geo_json_text ps directory rings) text n text'
  set-stands e = record { answer-is = (cc is-written); text-is = exactly.text-stands-first e }

-- ---- what was read

same_text : (i : Input) {grid : List Float} {threshold : Float} {dx dy : ℕ} → grid ≡ map whole i.values → threshold ≡ whole i.threshold → dx ≡ i.dx → dy ≡ i.dy
    → contour_text (terrain (above_at (at_least threshold)) grid dx dy) dx dy ≡ program_text i
unfolding program_text input_sheet
same_text i g t x y = rw (g, t, x, y)

module _ (input : List ℕ) (values values' : List Float) where
  pub nothing_read : InputRead input values None values' → (text : List ℕ) → InputDrawn input text None text
  unfolding InputRead InputDrawn
  nothing_read p text = (p.0, refl)

  module _ (t : Terrain) (p : InputRead input values (Some t) values') where
    read : TerrainRead input values t.dx t.dy t.threshold values'
    unfolding InputRead
    read = p

    -- there are 1,024 samples at most
    pub samples-few : t.dx * t.dy ≤ 1024
    unfolding program_side
    samples-few =
        let columns : t.dx ≤ program_side = rw read.dx-is read.accepted.fits.columns in
        let rows : t.dy ≤ program_side = rw read.dy-is read.accepted.fits.rows in
        omega (arith, mul-le-mul columns rows)

    values-many : length (map whole read.input.values) ≡ t.dx * t.dy
    values-many = length-map read.input.values whole ∙ read.accepted.fits.all-values ∙ ap₂ ◌*◌ (sym read.dx-is) (sym read.dy-is)

    pub values-there : t.dx * t.dy ≤ length values'
    unfolding written
    values-there =
        omega (arith, values-many, ap length read.values-are, length-append (map whole read.input.values) (drop (length (map whole read.input.values)) values))

    grid-is : take (t.dx * t.dy) values' ≡ map whole read.input.values
    unfolding written
    grid-is = ap (take (t.dx * t.dy)) read.values-are ∙ take_at (map whole read.input.values) (drop (length (map whole read.input.values)) values) (t.dx * t.dy) values-many

    pub grid-is-small : Small (take (t.dx * t.dy) values') t.dx t.dy
    grid-is-small = record {
      some-columns = rw read.dx-is read.accepted.fits.some-columns;
      columns = rw read.dx-is read.accepted.fits.columns;
      some-rows = rw read.dy-is read.accepted.fits.some-rows;
      rows = rw read.dy-is read.accepted.fits.rows;
      all-values = ap length grid-is ∙ values-many;
    }

    pub input-drawn : {text : List ℕ} {m : ℕ} {text' : List ℕ} → Stands (contour_text (terrain (above_at (at_least t.threshold)) (take (t.dx * t.dy) values') t.dx t.dy) t.dx t.dy) text m text'
        → InputDrawn input text (Some m) text'
    unfolding InputDrawn
    input-drawn {text} {m} {text'} s = record {
      read = read.input;
      accepted = read.accepted;
      stands = subst (λ (whole : List ℕ). Stands whole text m text') (same_text read.input grid-is read.threshold-is read.dx-is read.dy-is) s;
    }

-- ---- one result

pub one-drawing : (input text : List ℕ) (r r' : Option ℕ) (text₁ text₂ : List ℕ) → InputDrawn input text r text₁ → InputDrawn input text r' text₂ → (r ≡ r') × (text₁ ≡ text₂)
unfolding InputDrawn
one-drawing input text (Some n) (Some n') text₁ text₂ p q =
    let same = one-reading input p.read q.read p.accepted q.accepted in
    (cc (p.stands.answer-is, q.stands.answer-is), cc (p.stands.text-is, q.stands.text-is))
one-drawing input text (Some n) None text₁ text₂ p q = absurd (q.0 p.read p.accepted)
one-drawing input text None (Some n) text₁ text₂ p q = absurd (p.0 q.read q.accepted)
one-drawing input text None None text₁ text₂ p q = (refl, p.1 ∙ sym q.1)
