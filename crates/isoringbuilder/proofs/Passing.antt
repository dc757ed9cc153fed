-- The stitching pass: each way out of it is what the verdict says, and a pass that was done leaves document 01's rings in the links.
-- Assumes nothing.
use mathlib.Core.Path.{◌≡◌, sym, ◌∙◌, ap, ap₂}
use mathlib.Core.List.{List}
use Prim.Native.Nat.{ℕ, suc, ◌≤◌, ◌<◌}
use lib.Ieee.{Float}
use lib.ListN.{length}
use borrow.Author.Tests.{lt-ltb, le-ltb}
use Rattle.error.specs.declared.Refusal.{Refusal}
use Rattle.error.specs.declared.Refusal.TheVariants.{OpenShort, LinksShort}
use Rattle.scope.specs.declared.Level.{Level}
use Rattle.scope.specs.Terrain.{Sheet, above_at, terrain}
use Rattle.scope.specs.Drawing.{segment_count, peak}
use Rattle.scope.specs.Room.{open_words, link_words}
use Rattle.machine.specs.Machine.{Tables, run_after, run_over}
use Rattle.machine.proofs.Built.{rings-found}
use Rattle.lines.specs.Values.{tables_of}
use Rattle.lines.specs.declared.Progress.{Progress}
use Rattle.grid.specs.Grid.{grid_fit, Sized}
use Rattle.grid.proofs.Laws.{a-grid-that-fits-is-sized}
use Rattle.isoringbuilder.specs.Verdict.{Verdict, refused, passes, after_grid, work_verdict}
use Rattle.isoringbuilder.specs.Pass.{stitched_tables, passed, pass_table, Passed}
use Rattle.isoringbuilder.proofs.Limits.{outside, segments-fit, peak-fits}
use Rattle.std.specs.Prelude.{Ok, Err}

module _ (values : List Float) (level : Level) (dx dy : ℕ) (lines links : List ℕ) where
  abbrev A : Sheet
  A = terrain (above_at level) values dx dy

  abbrev verdict : Verdict
  verdict = work_verdict (terrain (above_at level) values dx dy) (length values) dx dy (length lines) (length links)

  abbrev stitched : Tables
  stitched = stitched_tables (terrain (above_at level) values dx dy) dx dy lines links

  -- a verdict that is known gives the contract
  by-refusal : (why : Refusal) → verdict ≡ refused why → Passed values level dx dy lines links (Err why) lines links
  unfolding passed pass_table
  by-refusal why e = record {
    answers = ap (λ (v : Verdict). passed v A dx dy stitched) (sym e);
    lines_are = ap (λ (v : Verdict). pass_table v lines stitched.lines) (sym e);
    links-are = ap (λ (v : Verdict). pass_table v links stitched.links) (sym e);
  }

  pub grid-refused : (why : Refusal) → grid_fit (length values) dx dy ≡ Err why → Passed values level dx dy lines links (Err why) lines links
  grid-refused why e = by-refusal why (unfold work_verdict after_grid in rw e)

  module _ (fits : grid_fit (length values) dx dy ≡ Ok tt) where
    sized : Sized (length values) dx dy
    sized = a-grid-that-fits-is-sized (length values) dx dy fits

    pub lines-short : length lines < open_words dx (peak A dx dy) → Passed values level dx dy lines links (Err OpenShort) lines links
    lines-short h = by-refusal OpenShort (unfold work_verdict after_grid in rw (fits, lt-ltb (length lines) (open_words dx (peak A dx dy)) h))

    pub links-short : open_words dx (peak A dx dy) ≤ length lines → length links < link_words (segment_count A dx dy) → Passed values level dx dy lines links (Err LinksShort) lines links
    links-short h k =
        by-refusal LinksShort
        (unfold work_verdict after_grid in rw (fits, le-ltb (length lines) (open_words dx (peak A dx dy)) h, lt-ltb (length links) (link_words (segment_count A dx dy)) k))

    pub done : open_words dx (peak A dx dy) ≤ length lines → link_words (segment_count A dx dy) ≤ length links → (p : Progress) (lines' links' : List ℕ)
        → tables_of lines' links' p ≡ (run_after A dx (run_over lines links) dy (suc dx)).tables
        → Passed values level dx dy lines links (Ok (record { segments = segment_count A dx dy; peak = peak A dx dy; rings = p.rings; head = p.head })) lines' links'
    unfolding passed pass_table stitched_tables
    done h k p lines' links' e = record {
      answers =
          ap₂ (λ (r s : ℕ). Ok (record { segments = segment_count A dx dy; peak = peak A dx dy; rings = r; head = s }))
          (ap (λ (t : Tables). t.progress.rings) e ∙ rings-found A (outside values level dx dy sized) lines links h k (segments-fit values level dx dy sized) (peak-fits values level dx dy sized))
          (ap (λ (t : Tables). t.progress.head) e)
          ∙ ap (λ (v : Verdict). passed v A dx dy stitched) (sym is-passes);
      lines_are = ap (λ (t : Tables). t.lines) e ∙ ap (λ (v : Verdict). pass_table v lines stitched.lines) (sym is-passes);
      links-are = ap (λ (t : Tables). t.links) e ∙ ap (λ (v : Verdict). pass_table v links stitched.links) (sym is-passes);
    }
      where
        is-passes : verdict ≡ passes
        is-passes = unfold work_verdict after_grid in rw (fits, le-ltb (length lines) (open_words dx (peak A dx dy)) h, le-ltb (length links) (link_words (segment_count A dx dy)) k)
