-- What is known after a band's passes, and the second report that follows from it: the counts of both sets, and both work tables zeroed. Assumes nothing.
use mathlib.Core.Path.{◌≡◌, refl, sym, ◌∙◌, ap, subst}
use mathlib.Core.Bool.{Bool, true, false, cond}
use mathlib.Core.List.{List}
use Prim.Native.Nat.{ℕ, max, ◌+◌, ◌^◌, ◌≤◌, ◌<◌}
use native.Mathlib.Omega.{arith}
use lib.Dec.{ltb}
use lib.Ieee.{Float}
use lib.ListN.{length, drop}
use borrow.Author.Tests.{ltb-false}
use Rattle.error.specs.declared.Refusal.{Refusal}
use Rattle.error.specs.declared.Refusal.TheVariants.{OpenShort, LinksShort}
use Rattle.scope.specs.declared.Level.{Level}
use Rattle.scope.specs.Terrain.{Sheet, above_at, terrain}
use Rattle.scope.specs.Drawing.{segment_count, peak}
use Rattle.scope.specs.Room.{open_words, link_words, point_count, band_open_words, band_link_words}
use Rattle.machine.specs.Machine.{Tables}
use Rattle.packing.specs.Cleared.{cleared}
use Rattle.packing.proofs.Laws.{cleared-is-zeroed}
use Rattle.grid.specs.Grid.{Sized}
use Rattle.isoringbuilder.specs.Verdict.{Verdict, refused, passes, after_grid}
use Rattle.isoringbuilder.specs.Answers.{work_after}
use Rattle.isoringbuilder.specs.Pass.{stitched_tables, pass_table}
use Rattle.isoringbuilder.specs.declared.SecondReport.{SecondReport}
use Rattle.bands.specs.Bands.{band_verdict, band_reported, ReportedOver}
use Rattle.bands.specs.Passing.{after_upper, band_drawing, band_passed, BandPassed}
use Rattle.bands.specs.declared.BandDrawing.{BandDrawing}
use Rattle.bands.proofs.Stitched.{StitchedOver, few-segments, few-rings}
use Rattle.bands.proofs.Passes.{open-needs, link-needs, first-pass, second-pass}
use Rattle.std.specs.Prelude.{Result, Ok, Err}

-- two tests that both pass
pub both-fit : (low high : Refusal) (m need n need' : ℕ) → cond (ltb m need) (refused low) (cond (ltb n need') (refused high) passes) ≡ passes → (need ≤ m) × (need' ≤ n)
both-fit low high m need n need' e = by (ltb m need) (ltb n need') refl refl e
  where
    by : (a b : Bool) → ltb m need ≡ a → ltb n need' ≡ b → cond a (refused low) (cond b (refused high) passes) ≡ passes → (need ≤ m) × (need' ≤ n)
    by true b ea eb k = absurd (let z : ◌≡◌ {A = ℕ} 0 1 = cc in omega arith)
    by false true ea eb k = absurd (let z : ◌≡◌ {A = ℕ} 0 1 = cc in omega arith)
    by false false ea eb k = (ltb-false m need ea, ltb-false n need' eb)

-- a report of a refused fit
pub fit_refused : (fit : Result (Unit {0}) Refusal) (why : Refusal) → fit ≡ Err why → (L U : Sheet) (dx dy : ℕ) (lines links : List ℕ) → ReportedOver fit L U dx dy lines links (Err why) lines links
unfolding band_verdict after_grid band_reported work_after
fit_refused fit why e L U dx dy lines links = subst (λ (f : Result (Unit {0}) Refusal). ReportedOver f L U dx dy lines links (Err why) lines links) (sym e) (record { answers = refl; lines_are = refl; links-are = refl })

module _ (values : List Float) (lower upper : Level) (dx dy : ℕ) (lines links : List ℕ) where
  abbrev L : Sheet
  L = terrain (above_at lower) values dx dy

  abbrev U : Sheet
  U = terrain (above_at upper) values dx dy

  abbrev verdict : Verdict
  verdict = band_verdict (Ok tt) L U dx dy (length lines) (length links)

  abbrev last : Tables
  last = after_upper L U dx dy lines links

  pub record BandDone (drawing : BandDrawing) (lines' links' : List ℕ) : Type 0 where
    pub is-passes : band_verdict (Ok tt) (terrain (above_at lower) values dx dy) (terrain (above_at upper) values dx dy) dx dy (length lines) (length links) ≡ passes
    pub is-drawing : drawing ≡ band_drawing (terrain (above_at lower) values dx dy) (terrain (above_at upper) values dx dy) dx dy
        (after_upper (terrain (above_at lower) values dx dy) (terrain (above_at upper) values dx dy) dx dy lines links)
    pub lines_are : lines' ≡ (after_upper (terrain (above_at lower) values dx dy) (terrain (above_at upper) values dx dy) dx dy lines links).lines
    pub links-are : links' ≡ (after_upper (terrain (above_at lower) values dx dy) (terrain (above_at upper) values dx dy) dx dy lines links).links
    pub lines_fit : band_open_words dx (peak (terrain (above_at lower) values dx dy) dx dy) (peak (terrain (above_at upper) values dx dy) dx dy) ≤ length lines
    pub links-fit : band_link_words (segment_count (terrain (above_at lower) values dx dy) dx dy) (segment_count (terrain (above_at upper) values dx dy) dx dy) ≤ length links

  pub band-done : (answer : Result BandDrawing Refusal) (drawing : BandDrawing) → answer ≡ Ok drawing → (lines' links' marks' : List ℕ) → BandPassed values lower upper dx dy lines links answer lines' links' marks'
      → BandDone drawing lines' links'
  unfolding band_passed pass_table
  band-done answer drawing is lines' links' marks' k = by verdict refl (sym is ∙ k.answers) k.lines_are k.links-are
    where
      by : (v : Verdict) → verdict ≡ v → Ok drawing ≡ band_passed v L U dx dy last → lines' ≡ pass_table v lines last.lines → links' ≡ pass_table v links last.links → BandDone drawing lines' links'
      by (refused why) e a b c = absurd (let z : ◌≡◌ {A = ℕ} 0 1 = cc in omega arith)
      by passes e a b c =
          let room : (band_open_words dx (peak L dx dy) (peak U dx dy) ≤ length lines) × (band_link_words (segment_count L dx dy) (segment_count U dx dy) ≤ length links) =
          both-fit OpenShort LinksShort (length lines) (band_open_words dx (peak L dx dy) (peak U dx dy)) (length links) (band_link_words (segment_count L dx dy) (segment_count U dx dy)) (unfold band_verdict after_grid in e) in
          record { is-passes = e; is-drawing = cc; lines_are = b; links-are = c; lines_fit = room.0; links-fit = room.1 }

  pub band-refused : (answer : Result BandDrawing Refusal) (why : Refusal) → answer ≡ Err why → (lines' links' marks' : List ℕ) → BandPassed values lower upper dx dy lines links answer lines' links' marks'
      → (verdict ≡ refused why) × (lines' ≡ lines) × (links' ≡ links)
  unfolding band_passed pass_table
  band-refused answer why is lines' links' marks' k = by verdict refl (sym is ∙ k.answers) k.lines_are k.links-are
    where
      by : (v : Verdict) → verdict ≡ v → Err why ≡ band_passed v L U dx dy last → lines' ≡ pass_table v lines last.lines → links' ≡ pass_table v links last.links
          → (verdict ≡ refused why) × (lines' ≡ lines) × (links' ≡ links)
      by (refused other) e a b c = let same : other ≡ why = cc in (e ∙ ap refused same, b, c)
      by passes e a b c = absurd (let z : ◌≡◌ {A = ℕ} 0 1 = cc in omega arith)

  pub report-refused : (answer : Result BandDrawing Refusal) (why : Refusal) → answer ≡ Err why → (lines' links' marks' : List ℕ) → BandPassed values lower upper dx dy lines links answer lines' links' marks'
      → ReportedOver (Ok tt) L U dx dy lines links (Err why) lines' links'
  unfolding band_reported work_after
  report-refused answer why is lines' links' marks' k =
      let facts = band-refused answer why is lines' links' marks' k in
      record {
        answers = ap (λ (v : Verdict). band_reported v L U dx dy) (sym facts.0);
        lines_are = facts.1 ∙ ap (λ (v : Verdict). work_after v (band_open_words dx (peak L dx dy) (peak U dx dy)) lines) (sym facts.0);
        links-are = facts.2 ∙ ap (λ (v : Verdict). work_after v (band_link_words (segment_count L dx dy) (segment_count U dx dy)) links) (sym facts.0);
      }

  module _ (sized : Sized (length values) dx dy) {drawing : BandDrawing} {lines' links' : List ℕ} (done : BandDone drawing lines' links') where
    pub one : StitchedOver L dx dy lines links (stitched_tables L dx dy lines links)
    one = first-pass values lower upper dx dy lines links done.lines_fit done.links-fit sized

    pub two : StitchedOver U dx dy (stitched_tables L dx dy lines links).lines (stitched_tables L dx dy lines links).links last
    two = second-pass values lower upper dx dy lines links done.lines_fit done.links-fit sized

    pub lines_long : length lines' ≡ length lines
    lines_long = ap length done.lines_are ∙ two.lines_long ∙ one.lines_long

    pub links-long : length links' ≡ length links
    links-long = ap length done.links-are ∙ two.links-long ∙ one.links-long

    pub lines-past : drop (band_open_words dx (peak L dx dy) (peak U dx dy)) lines' ≡ drop (band_open_words dx (peak L dx dy) (peak U dx dy)) lines
    lines-past =
        let need = open-needs dx (peak L dx dy) (peak U dx dy) in
        ap (drop (band_open_words dx (peak L dx dy) (peak U dx dy))) done.lines_are ∙ two.lines-past _ need.1 ∙ one.lines-past _ need.0

    pub links-past : drop (band_link_words (segment_count L dx dy) (segment_count U dx dy)) links' ≡ drop (band_link_words (segment_count L dx dy) (segment_count U dx dy)) links
    links-past =
        let need = link-needs (segment_count L dx dy) (segment_count U dx dy) in
        ap (drop (band_link_words (segment_count L dx dy) (segment_count U dx dy))) done.links-are ∙ two.links-past _ need.1 ∙ one.links-past _ need.0

    -- both sets' counts fit their words together
    pub counts-fit : (drawing.lower_rings + drawing.upper_rings < 2 ^ 31) × (drawing.lower_segments + drawing.upper_segments < 2 ^ 31)
    unfolding band_drawing
    counts-fit =
        let few = few-segments values lower dx dy sized in
        let few' = few-segments values upper dx dy sized in
        subst (λ (d : BandDrawing). (d.lower_rings + d.upper_rings < 2 ^ 31) × (d.lower_segments + d.upper_segments < 2 ^ 31)) (sym done.is-drawing)
        (omega (arith, few, few', few-rings values lower dx dy sized, few-rings values upper dx dy sized), omega (arith, few, few'))

    pub open-words-are : open_words dx drawing.peak ≡ band_open_words dx (peak L dx dy) (peak U dx dy)
    unfolding band_drawing band_open_words
    open-words-are = ap (λ (d : BandDrawing). open_words dx d.peak) done.is-drawing

    pub link-words-are : link_words (max drawing.lower_segments drawing.upper_segments) ≡ band_link_words (segment_count L dx dy) (segment_count U dx dy)
    unfolding band_drawing band_link_words
    link-words-are = ap (λ (d : BandDrawing). link_words (max d.lower_segments d.upper_segments)) done.is-drawing

    pub report-done : (segments rings points : ℕ) → segments ≡ max drawing.lower_segments drawing.upper_segments → rings ≡ drawing.lower_rings + drawing.upper_rings
        → points ≡ drawing.lower_segments + drawing.upper_segments + rings → (lines₁ links₁ : List ℕ) → lines₁ ≡ cleared lines' (open_words dx drawing.peak) → links₁ ≡ cleared links' (link_words segments)
        → ReportedOver (Ok _) L U dx dy lines links (Ok (record { segments = segments; rings = rings; peak = drawing.peak; points = points })) lines₁ links₁
    unfolding band_reported work_after point_count band_drawing
    report-done segments rings points es er ep lines₁ links₁ el ek = record {
      answers = room ∙ ap (λ (v : Verdict). band_reported v L U dx dy) (sym done.is-passes);
      lines_are =
          el ∙ ap (cleared lines') open-words-are
          ∙ cleared-is-zeroed (band_open_words dx (peak L dx dy) (peak U dx dy)) lines lines' (omega (arith, done.lines_fit, lines_long)) lines-past
          ∙ ap (λ (v : Verdict). work_after v (band_open_words dx (peak L dx dy) (peak U dx dy)) lines) (sym done.is-passes);
      links-are =
          ek ∙ ap (cleared links') (ap link_words es ∙ link-words-are)
          ∙ cleared-is-zeroed (band_link_words (segment_count L dx dy) (segment_count U dx dy)) links links' (omega (arith, done.links-fit, links-long)) links-past
          ∙ ap (λ (v : Verdict). work_after v (band_link_words (segment_count L dx dy) (segment_count U dx dy)) links) (sym done.is-passes);
    }
      where
        of : BandDrawing → Result SecondReport Refusal
        of d = Ok (record { segments = max d.lower_segments d.upper_segments; rings = d.lower_rings + d.upper_rings; peak = d.peak; points = d.lower_segments + d.lower_rings + (d.upper_segments + d.upper_rings) })

        here : Ok (record { segments = segments; rings = rings; peak = drawing.peak; points = points }) ≡ of drawing
        here =
            let sum : points ≡ drawing.lower_segments + drawing.lower_rings + (drawing.upper_segments + drawing.upper_rings) = omega arith in
            rw (es, er, sum)

        room : Ok (record { segments = segments; rings = rings; peak = drawing.peak; points = points }) ≡ of (band_drawing L U dx dy last)
        room = here ∙ ap of done.is-drawing
