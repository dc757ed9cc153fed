-- Packing a band: each way out of it is what the verdict on the outputs says. Assumes nothing.
use mathlib.Core.Path.{◌≡◌, sym, ◌∙◌, ap, ap₂}
use mathlib.Core.List.{List, ◌++◌, append-nil}
use Prim.Native.Nat.{ℕ, suc, ◌+◌, ◌-◌, ◌*◌, ◌≤◌, ◌<◌}
use native.Mathlib.Omega.{arith}
use lib.ListN.{length, take, drop, length-drop, drop_of_length-le}
use lib.Seq.{sets, take_all}
use borrow.Rule.Slice.PartMut.{mid_of, put_mid}
use borrow.Author.Tests.{lt-ltb, le-ltb}
use Rattle.error.specs.declared.Refusal.{Refusal}
use Rattle.error.specs.declared.Refusal.TheVariants.{PointsShort, DirectoryShort}
use Rattle.scope.specs.Terrain.{Sheet}
use Rattle.scope.specs.Room.{point_words, band_point_words, band_directory_words}
use Rattle.machine.specs.Machine.{Tables, run_after, run_over}
use Rattle.machine.specs.Walk.{walk_points, walk_records}
use Rattle.lines.specs.Values.{tables_of}
use Rattle.lines.specs.declared.Progress.{Progress}
use Rattle.isoringbuilder.specs.Verdict.{Verdict, refused, passes}
use Rattle.isoringbuilder.specs.Pass.{stitched_tables, pass_table, packed}
use Rattle.bands.specs.Bands.{band_room}
use Rattle.bands.specs.Passing.{stored_from, BandPacked}
use Rattle.bands.specs.declared.BandDrawing.{BandDrawing}
use Rattle.std.specs.Prelude.{Ok, Err}

-- words stored in the part of a table from a place on
pub stored-part : (place : ℕ) (table words part : List ℕ) → part ≡ sets (mid_of place (length table - place) table) 0 words → put_mid place (length table - place) table part ≡ stored_from place words table
unfolding stored_from
stored-part place table words part e =
    let long : length (drop place table) ≤ length table - place = omega (arith, length-drop place table) in
    ap (λ (l : List ℕ). take place table ++ l)
    (ap₂ (λ (a b : List ℕ). a ++ b) (e ∙ ap (λ (l : List ℕ). sets l 0 words) (take_all (length table - place) (drop place table) long)) (drop_of_length-le (drop place table) long)
    ∙ append-nil (sets (drop place table) 0 words))

module _ (L : Sheet) (dx dy : ℕ) (d : BandDrawing) (lines links points directory : List ℕ) where
  abbrev room : Verdict
  room = band_room d.lower_segments d.lower_rings d.upper_segments d.upper_rings (length points) (length directory)

  abbrev again : Tables
  again = stitched_tables L dx dy lines links

  abbrev packed-points : List ℕ
  packed-points =
      sets (stored_from (point_words d.lower_segments d.lower_rings) (walk_points dx links d.head d.head d.upper_segments) points) 0
      (walk_points dx again.links again.progress.head again.progress.head d.lower_segments)

  abbrev packed-records : List ℕ
  packed-records =
      sets (stored_from (4 * d.lower_rings) (walk_records links 0 0 d.head d.upper_segments) directory) 0
      (walk_records again.links 0 0 again.progress.head d.lower_segments)

  by-refusal : (why : Refusal) → room ≡ refused why → BandPacked L dx dy d lines links points directory (Err why) lines links points directory
  unfolding packed pass_table
  by-refusal why e = record {
    answers = ap (λ (v : Verdict). packed v (d.lower_rings + d.upper_rings)) (sym e);
    lines_are = ap (λ (v : Verdict). pass_table v lines again.lines) (sym e);
    links-are = ap (λ (v : Verdict). pass_table v links again.links) (sym e);
    points-are = ap (λ (v : Verdict). pass_table v points packed-points) (sym e);
    directory-is = ap (λ (v : Verdict). pass_table v directory packed-records) (sym e);
  }

  abbrev point-need : ℕ
  point-need = band_point_words d.lower_segments d.lower_rings d.upper_segments d.upper_rings

  abbrev record-need : ℕ
  record-need = band_directory_words d.lower_rings d.upper_rings

  pub points-short : length points < point-need → BandPacked L dx dy d lines links points directory (Err PointsShort) lines links points directory
  points-short h = by-refusal PointsShort (unfold band_room in rw (lt-ltb (length points) point-need h))

  pub directory-short : point-need ≤ length points → length directory < record-need → BandPacked L dx dy d lines links points directory (Err DirectoryShort) lines links points directory
  directory-short h k = by-refusal DirectoryShort (unfold band_room in rw (le-ltb (length points) point-need h, lt-ltb (length directory) record-need k))

  -- the numbers by which the code goes on, and the stores it makes
  pub packs-done : point-need ≤ length points → record-need ≤ length directory → (rings words records : ℕ) → rings ≡ d.lower_rings + d.upper_rings
      → words ≡ point_words d.lower_segments d.lower_rings → records ≡ 4 * d.lower_rings
      → (p : Progress) (lines' links' : List ℕ) → tables_of lines' links' p ≡ (run_after L dx (run_over lines links) dy (suc dx)).tables
      → (points₁ directory₁ points' directory' : List ℕ) → points₁ ≡ stored_from words (walk_points dx links d.head d.head d.upper_segments) points
      → directory₁ ≡ stored_from records (walk_records links 0 0 d.head d.upper_segments) directory
      → points' ≡ sets points₁ 0 (walk_points dx links' p.head p.head d.lower_segments)
      → directory' ≡ sets directory₁ 0 (walk_records links' 0 0 p.head d.lower_segments)
      → BandPacked L dx dy d lines links points directory (Ok rings) lines' links' points' directory'
  unfolding packed pass_table stitched_tables
  packs-done h k rings words records er ew ed p lines' links' e points₁ directory₁ points' directory' pe de pe' de' = record {
    answers = ap Ok er ∙ ap (λ (v : Verdict). packed v (d.lower_rings + d.upper_rings)) (sym is-passes);
    lines_are = ap (λ (t : Tables). t.lines) e ∙ ap (λ (v : Verdict). pass_table v lines again.lines) (sym is-passes);
    links-are = ap (λ (t : Tables). t.links) e ∙ ap (λ (v : Verdict). pass_table v links again.links) (sym is-passes);
    points-are =
        pe' ∙ ap₂ (λ (l : List ℕ) (t : Tables). sets l 0 (walk_points dx t.links t.progress.head t.progress.head d.lower_segments)) pe e
        ∙ ap (λ (n : ℕ). sets (stored_from n (walk_points dx links d.head d.head d.upper_segments) points) 0 (walk_points dx again.links again.progress.head again.progress.head d.lower_segments)) ew
        ∙ ap (λ (v : Verdict). pass_table v points packed-points) (sym is-passes);
    directory-is =
        de' ∙ ap₂ (λ (l : List ℕ) (t : Tables). sets l 0 (walk_records t.links 0 0 t.progress.head d.lower_segments)) de e
        ∙ ap (λ (n : ℕ). sets (stored_from n (walk_records links 0 0 d.head d.upper_segments) directory) 0 (walk_records again.links 0 0 again.progress.head d.lower_segments)) ed
        ∙ ap (λ (v : Verdict). pass_table v directory packed-records) (sym is-passes);
  }
    where
      is-passes : room ≡ passes
      is-passes = unfold band_room in rw (le-ltb (length points) point-need h, le-ltb (length directory) record-need k)
