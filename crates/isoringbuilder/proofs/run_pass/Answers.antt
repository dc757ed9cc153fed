-- `isoringbuilder::run_pass` meets its contract: a grid that does not fit is refused, and of one that does the scan's counts say what both tables need, and
-- its marks which tiles the stitching pass looks at. Assumes nothing.
use mathlib.Core.Path.{sym, ◌∙◌, ap}
use native.Mathlib.Omega.{arith}
use Rattle.scope.specs.Room.{open_words, link_words}
use Rattle.scan.specs.Scanned.{scanned}
use Rattle.scan.specs.declared.Counts.{Counts}
use Rattle.grid.proofs.Laws.{a-grid-that-fits-is-sized}
use Rattle.isoringbuilder.proofs.Passing.{grid-refused, lines-short, links-short, done}
use Rattle.error.proofs.Passing.{passed-on}
use Rattle.isoringbuilder.proofs.run_pass.Goals as goal

pub returns-in_err-grid_fit : goal.returns-in_err-grid_fit
returns-in_err-grid_fit c =
    rw (passed-on _ c.from_residual.ensures.1) (grid-refused _ _ _ _ _ _ _ (sym c.grid_fit.ensures ∙ c.in_err-grid_fit.was))

pub invariant_of-grid : goal.invariant_of-grid
invariant_of-grid c = record { sized = a-grid-that-fits-is-sized _ _ _ (sym c.grid_fit.ensures ∙ c.in_ok-grid_fit.was) }

pub open_words-requires : goal.open_words-requires
open_words-requires c = (a-grid-that-fits-is-sized _ _ _ (sym c.grid_fit.ensures ∙ c.in_ok-grid_fit.was)).columns

pub returns-then-lines-open_words : goal.returns-then-lines-open_words
unfolding scanned
returns-then-lines-open_words c =
    let open-need = c.open_words.ensures ∙ ap (λ (k : Counts). open_words c.args.dx k.peak) c.scan-counts.ensures.value in
    lines-short _ _ _ _ _ _ (sym c.grid_fit.ensures ∙ c.in_ok-grid_fit.was) (omega (arith, open-need))

pub returns-then-links-link_words : goal.returns-then-links-link_words
unfolding scanned
returns-then-links-link_words c =
    let open-need = c.open_words.ensures ∙ ap (λ (k : Counts). open_words c.args.dx k.peak) c.scan-counts.ensures.value in
    let link-need = c.link_words.ensures ∙ ap (λ (k : Counts). link_words k.segments) c.scan-counts.ensures.value in
    links-short _ _ _ _ _ _ (sym c.grid_fit.ensures ∙ c.in_ok-grid_fit.was) (omega (arith, open-need)) (omega (arith, link-need))

pub returns : goal.returns
unfolding scanned
returns c =
    let open-need = c.open_words.ensures ∙ ap (λ (k : Counts). open_words c.args.dx k.peak) c.scan-counts.ensures.value in
    let link-need = c.link_words.ensures ∙ ap (λ (k : Counts). link_words k.segments) c.scan-counts.ensures.value in
    rw c.scan-counts.ensures.value
    (done c.args.values.now c.args.level c.args.dx c.args.dy c.args.lines.now c.args.links.now (sym c.grid_fit.ensures ∙ c.in_ok-grid_fit.was)
    (omega (arith, open-need, c.if-lines-open_words.false)) (omega (arith, link-need, c.if-links-link_words.false)) _ _ _ c.stitch-progress.ensures)
