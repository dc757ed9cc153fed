-- `bands::band_pass` meets its contract: the scans' counts say what both tables need, and their marks which tiles each stitching pass looks at.
-- Assumes nothing.
use mathlib.Core.Path.{◌≡◌}
use Prim.Native.Nat.{max}
use native.Mathlib.Omega.{arith}
use Rattle.scan.specs.Scanned.{scanned}
use Rattle.bands.proofs.Passes.{open-need, link-need, lines-short, links-short, done}
use Rattle.bands.proofs.band_pass.Goals as goal

pub open_words-requires : goal.open_words-requires
open_words-requires c = c.args.grid.sized.columns

pub returns-then-lines-open_words : goal.returns-then-lines-open_words
returns-then-lines-open_words c =
    let need = open-need _ _ _ _ _ c.scan-below.ensures.value c.scan-above.ensures.value c.open_words.ensures (omega arith) in
    lines-short _ _ _ _ _ _ _ _ c.scan-below.ensures.marked (omega (arith, need))

pub returns-then-links-link_words : goal.returns-then-links-link_words
returns-then-links-link_words c =
    let need = open-need _ _ _ _ _ c.scan-below.ensures.value c.scan-above.ensures.value c.open_words.ensures (omega arith) in
    let most = link-need _ _ _ _ _ c.scan-below.ensures.value c.scan-above.ensures.value c.link_words.ensures (omega arith) in
    links-short _ _ _ _ _ _ _ _ c.scan-below.ensures.marked (omega (arith, need, c.if-lines-open_words.false)) (omega (arith, most))

pub returns : goal.returns
unfolding scanned
returns c =
    let need = open-need _ _ _ _ _ c.scan-below.ensures.value c.scan-above.ensures.value c.open_words.ensures (omega arith) in
    let most = link-need _ _ _ _ _ c.scan-below.ensures.value c.scan-above.ensures.value c.link_words.ensures (omega arith) in
    let most-open : c.max-peak.result ≡ max c.scan-below.result.peak c.scan-above.result.peak = omega arith in
    rw (most-open, c.scan-below.ensures.value, c.scan-above.ensures.value)
    (done c.args.grid.values.now c.args.levels.lower c.args.levels.upper c.args.grid.dx c.args.grid.dy c.args.lines.now c.args.links.now _
    c.scan-below.ensures.marked (omega (arith, need, c.if-lines-open_words.false)) (omega (arith, most, c.if-links-link_words.false))
    c.args.grid.sized _ _ _ _ _ _ c.stitch-first.ensures c.stitch-second.ensures)
