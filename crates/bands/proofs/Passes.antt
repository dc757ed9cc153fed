-- A band's two passes: each way out of them is what the verdict says, and passes that were done leave the upper set's rings in the links. Assumes nothing.
use mathlib.Core.Path.{◌≡◌, sym, ◌∙◌, ap, ap₂}
use mathlib.Core.List.{List}
use Prim.Native.Nat.{ℕ, suc, max, ◌≤◌, ◌<◌}
use native.Mathlib.Omega.{arith}
use lib.Ieee.{Float}
use lib.ListN.{length}
use borrow.Author.Tests.{lt-ltb, le-ltb}
use Rattle.error.specs.declared.Refusal.{Refusal}
use Rattle.error.specs.declared.Refusal.TheVariants.{OpenShort, LinksShort}
use Rattle.scope.specs.declared.Level.{Level}
use Rattle.scope.specs.Terrain.{Sheet, above_at, terrain}
use Rattle.scope.specs.Drawing.{segment_count, peak}
use Rattle.scope.specs.Room.{open_words, link_words, band_open_words, band_link_words}
use Rattle.machine.specs.Machine.{Tables, run_after, run_over}
use Rattle.lines.specs.Values.{tables_of}
use Rattle.lines.specs.declared.Progress.{Progress}
use Rattle.grid.specs.Grid.{Sized}
use Rattle.scan.specs.Rows.{Marked}
use Rattle.scan.specs.Scanned.{scanned}
use Rattle.scan.specs.declared.Counts.{Counts}
use Rattle.isoringbuilder.specs.Verdict.{Verdict, refused, passes, after_grid}
use Rattle.isoringbuilder.specs.Pass.{stitched_tables, pass_table}
use Rattle.bands.specs.Bands.{band_verdict}
use Rattle.bands.specs.Passing.{after_upper, band_drawing, band_passed, BandPassed}
use Rattle.bands.specs.declared.BandDrawing.{BandDrawing}
use Rattle.bands.proofs.Stitched.{StitchedOver, stitched-over}
use Rattle.std.specs.Prelude.{Ok, Err}

-- each set needs no more than the band
pub open-needs : (dx h h' : ℕ) → (open_words dx h ≤ band_open_words dx h h') × (open_words dx h' ≤ band_open_words dx h h')
unfolding band_open_words open_words
open-needs dx h h' = (omega arith, omega arith)

pub link-needs : (s s' : ℕ) → (link_words s ≤ band_link_words s s') × (link_words s' ≤ band_link_words s s')
unfolding band_link_words link_words
link-needs s s' = (omega arith, omega arith)

-- what the band needs, once both scans' counts are known
module _ (values : List Float) (lower upper : Level) (dx dy : ℕ) {a b : Counts} (below : a ≡ scanned (terrain (above_at lower) values dx dy) dx dy) (above : b ≡ scanned (terrain (above_at upper) values dx dy) dx dy) where
  pub open-need : {words most : ℕ} → words ≡ open_words dx most → most ≡ max a.peak b.peak
      → words ≡ band_open_words dx (peak (terrain (above_at lower) values dx dy) dx dy) (peak (terrain (above_at upper) values dx dy) dx dy)
  unfolding band_open_words scanned
  open-need e f = e ∙ ap (open_words dx) (f ∙ ap₂ (λ (m n : Counts). max m.peak n.peak) below above)

  pub link-need : {words most : ℕ} → words ≡ link_words most → most ≡ max a.segments b.segments
      → words ≡ band_link_words (segment_count (terrain (above_at lower) values dx dy) dx dy) (segment_count (terrain (above_at upper) values dx dy) dx dy)
  unfolding band_link_words scanned
  link-need e f = e ∙ ap link_words (f ∙ ap₂ (λ (m n : Counts). max m.segments n.segments) below above)

-- each of the two passes has room
module _ (values : List Float) (lower upper : Level) (dx dy : ℕ) (lines links : List ℕ)
    (h : band_open_words dx (peak (terrain (above_at lower) values dx dy) dx dy) (peak (terrain (above_at upper) values dx dy) dx dy) ≤ length lines)
    (k : band_link_words (segment_count (terrain (above_at lower) values dx dy) dx dy) (segment_count (terrain (above_at upper) values dx dy) dx dy) ≤ length links)
    (sized : Sized (length values) dx dy) where
  abbrev lowest : Sheet
  lowest = terrain (above_at lower) values dx dy

  abbrev highest : Sheet
  highest = terrain (above_at upper) values dx dy

  pub first-pass : StitchedOver lowest dx dy lines links (stitched_tables lowest dx dy lines links)
  first-pass =
      stitched-over values lower dx dy sized lines links
      (omega (arith, (open-needs dx (peak lowest dx dy) (peak highest dx dy)).0)) (omega (arith, (link-needs (segment_count lowest dx dy) (segment_count highest dx dy)).0))

  pub second-pass : StitchedOver highest dx dy (stitched_tables lowest dx dy lines links).lines (stitched_tables lowest dx dy lines links).links (after_upper lowest highest dx dy lines links)
  unfolding after_upper
  second-pass =
      stitched-over values upper dx dy sized (stitched_tables lowest dx dy lines links).lines (stitched_tables lowest dx dy lines links).links
      (omega (arith, (open-needs dx (peak lowest dx dy) (peak highest dx dy)).1, first-pass.lines_long)) (omega (arith, (link-needs (segment_count lowest dx dy) (segment_count highest dx dy)).1, first-pass.links-long))

module _ (values : List Float) (lower upper : Level) (dx dy : ℕ) (lines links marks : List ℕ) (marked : Marked (terrain (above_at lower) values dx dy) (suc dy) marks) where
  abbrev L : Sheet
  L = terrain (above_at lower) values dx dy

  abbrev U : Sheet
  U = terrain (above_at upper) values dx dy

  abbrev verdict : Verdict
  verdict = band_verdict (Ok tt) L U dx dy (length lines) (length links)

  abbrev last : Tables
  last = after_upper L U dx dy lines links

  by-refusal : (why : Refusal) → verdict ≡ refused why → BandPassed values lower upper dx dy lines links (Err why) lines links marks
  unfolding band_passed pass_table
  by-refusal why e = record {
    answers = ap (λ (v : Verdict). band_passed v L U dx dy last) (sym e);
    lines_are = ap (λ (v : Verdict). pass_table v lines last.lines) (sym e);
    links-are = ap (λ (v : Verdict). pass_table v links last.links) (sym e);
    lower-marked = marked;
  }

  pub lines-short : length lines < band_open_words dx (peak L dx dy) (peak U dx dy) → BandPassed values lower upper dx dy lines links (Err OpenShort) lines links marks
  lines-short h = by-refusal OpenShort (unfold band_verdict after_grid in rw (lt-ltb (length lines) (band_open_words dx (peak L dx dy) (peak U dx dy)) h))

  module _ (h : band_open_words dx (peak L dx dy) (peak U dx dy) ≤ length lines) where
    pub links-short : length links < band_link_words (segment_count L dx dy) (segment_count U dx dy) → BandPassed values lower upper dx dy lines links (Err LinksShort) lines links marks
    links-short k =
        by-refusal LinksShort
        (unfold band_verdict after_grid in rw (le-ltb (length lines) (band_open_words dx (peak L dx dy) (peak U dx dy)) h, lt-ltb (length links) (band_link_words (segment_count L dx dy) (segment_count U dx dy)) k))

    module _ (k : band_link_words (segment_count L dx dy) (segment_count U dx dy) ≤ length links) (sized : Sized (length values) dx dy) where
      is-passes : verdict ≡ passes
      unfolding band_verdict after_grid
      is-passes = rw (le-ltb (length lines) (band_open_words dx (peak L dx dy) (peak U dx dy)) h, le-ltb (length links) (band_link_words (segment_count L dx dy) (segment_count U dx dy)) k)

      pub done : (p q : Progress) (lines₁ links₁ lines₂ links₂ : List ℕ)
          → tables_of lines₁ links₁ p ≡ (run_after L dx (run_over lines links) dy (suc dx)).tables
          → tables_of lines₂ links₂ q ≡ (run_after U dx (run_over lines₁ links₁) dy (suc dx)).tables
          → BandPassed values lower upper dx dy lines links
          (Ok (record {
            lower_segments = segment_count L dx dy;
            lower_rings = p.rings;
            upper_segments = segment_count U dx dy;
            upper_rings = q.rings;
            peak = max (peak L dx dy) (peak U dx dy);
            head = q.head;
          })) lines₂ links₂ marks
      unfolding band_passed band_drawing pass_table
      done p q lines₁ links₁ lines₂ links₂ e f = record {
        answers = ap Ok drawing-is ∙ ap (λ (v : Verdict). band_passed v L U dx dy last) (sym is-passes);
        lines_are = ap (λ (t : Tables). t.lines) after ∙ ap (λ (v : Verdict). pass_table v lines last.lines) (sym is-passes);
        links-are = ap (λ (t : Tables). t.links) after ∙ ap (λ (v : Verdict). pass_table v links last.links) (sym is-passes);
        lower-marked = marked;
      }
        where
          before : tables_of lines₁ links₁ p ≡ stitched_tables L dx dy lines links
          before = unfold stitched_tables in e

          after : tables_of lines₂ links₂ q ≡ last
          after =
              unfold after_upper stitched_tables in
              (f ∙ ap₂ (λ (a b : List ℕ). (run_after U dx (run_over a b) dy (suc dx)).tables) (ap (λ (t : Tables). t.lines) e) (ap (λ (t : Tables). t.links) e))

          drawn : ℕ → ℕ → ℕ → BandDrawing
          drawn r s head = record {
            lower_segments = segment_count L dx dy;
            lower_rings = r;
            upper_segments = segment_count U dx dy;
            upper_rings = s;
            peak = max (peak L dx dy) (peak U dx dy);
            head = head;
          }

          drawing-is : drawn p.rings q.rings q.head ≡ band_drawing L U dx dy last
          drawing-is =
              ap₂ (λ (r s : ℕ). drawn r s q.head) (ap (λ (t : Tables). t.progress.rings) before ∙ (first-pass values lower upper dx dy lines links h k sized).rings-are) (ap (λ (t : Tables). t.progress.rings) after ∙ (second-pass values lower upper dx dy lines links h k sized).rings-are)
              ∙ ap (drawn _ _) (ap (λ (t : Tables). t.progress.head) after)
