-- `contourbuilder::band_over` meets its contract: refused passes have changed nothing, and after passes that were done the outputs are what packing leaves, with
-- the owners found, and both work tables are cleared. Assumes nothing.
use native.Mathlib.Omega.{arith}
use Rattle.bands.proofs.Reports.{band-done, counts-fit}
use Rattle.contourbuilder.proofs.Banded.{isobands-refused, band-ownable, isobands-done}
use Rattle.error.proofs.Passing.{passed-on}
use Rattle.contourbuilder.proofs.band_over.Goals as goal

pub band_pack-answer-requires : goal.band_pack-answer-requires
band_pack-answer-requires c =
    let facts = band-done _ _ _ _ _ _ _ _ _ c.in_ok-drawing.was _ _ _ c.band_pass.ensures in
    (c.band_pass.ensures.lower-marked, omega (arith, (counts-fit _ _ _ _ _ _ _ c.args.grid.sized facts).0))

pub own_rings-requires : goal.own_rings-requires
own_rings-requires c =
    let facts = band-done _ _ _ _ _ _ _ _ _ c.in_ok-drawing.was _ _ _ c.band_pass.ensures in
    band-ownable _ _ _ _ _ _ _ c.args.grid.sized facts _ _ _ _ _ _ _ c.band_pack-answer.ensures _ c.band_point_words-filled.ensures _ _ c.link_words-words.ensures c.max-segments.ensures

pub open_words-requires : goal.open_words-requires
open_words-requires c = c.args.grid.sized.columns

pub returns-in_err-drawing : goal.returns-in_err-drawing
returns-in_err-drawing c =
    rw (passed-on _ c.from_residual.ensures.1) (isobands-refused _ _ _ _ _ _ _ _ _ c.in_err-drawing.was _ _ _ c.band_pass.ensures _ _)

pub returns : goal.returns
returns c =
    let facts = band-done _ _ _ _ _ _ _ _ _ c.in_ok-drawing.was _ _ _ c.band_pass.ensures in
    isobands-done _ _ _ _ _ _ _ c.args.grid.sized facts _ _ _ _ _ _ _ c.band_pack-answer.ensures _ c.band_point_words-filled.ensures _ _ c.link_words-words.ensures c.max-segments.ensures _ _
    c.own_rings.ensures _ _ (rw (← c.open_words.ensures) c.clear.ensures) c.clear-2.ensures
