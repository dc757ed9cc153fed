-- `bands::band_pack` meets its contract: each test is one of the verdict's, and past both the stores are those of the two walks, the upper set's behind the
-- lower set's. Assumes nothing.
use mathlib.Core.Path.{refl}
use native.Mathlib.Omega.{arith}
use Rattle.scope.specs.Limits.{side_limit, record_stride}
use Rattle.scope.specs.Room.{directory_words, band_point_words, band_directory_words}
use Rattle.bands.proofs.Packs.{points-short, directory-short, packs-done}
use borrow.Author.Rules.{rules}
use Rattle.bands.proofs.band_pack.Goals as goal

pub returns-then-points-band_point_words : goal.returns-then-points-band_point_words
returns-then-points-band_point_words c = points-short _ _ _ _ _ _ _ _ (omega arith)

pub returns-then-directory-rings : goal.returns-then-directory-rings
unfolding band_directory_words directory_words record_stride
returns-then-directory-rings c = directory-short _ _ _ _ _ _ _ _ (omega arith) (omega arith)

pub overflow_cast-dx : goal.overflow_cast-dx
unfolding side_limit
overflow_cast-dx c =
    omega (arith, c.args.grid.sized.columns)

pub write_behind-requires : goal.write_behind-requires
unfolding band_point_words
write_behind-requires c = search rules

pub returns : goal.returns
unfolding band_directory_words directory_words record_stride
returns c =
    let upper = c.write_behind.ensures in
    let lower = c.write_rings.ensures in
    packs-done _ _ _ _ _ _ _ _ (omega (arith, c.if-points-band_point_words.false)) (omega (arith, c.if-directory-rings.false)) _ _ _ refl c.point_words-words.ensures refl _ _ _ c.stitch-again.ensures _ _ _ _ upper.points_after upper.directory_after lower.points_after lower.directory_after
