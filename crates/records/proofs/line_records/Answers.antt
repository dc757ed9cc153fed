-- `records::line_records` meets its contract: `contour_lines` is lent a front of the directory, where it leaves the rings' words, the rest stays, and the rings' records are
-- copied out of these words. Assumes nothing.
use mathlib.Core.Path.{refl}
use Rattle.records.proofs.Lending.{lent_fits, lent_length, over-words, over-records, rings-fit}
use Rattle.records.proofs.line_records.Goals as goal

pub slice_bounds-contour_lines-end : goal.slice_bounds-contour_lines-end
slice_bounds-contour_lines-end c = lent_fits _ _ c.lent_words-lent.ensures

pub slice_bounds-contour_lines-end-2 : goal.slice_bounds-contour_lines-end-2
slice_bounds-contour_lines-end-2 c = lent_length _ _ c.lent_words-lent.ensures

pub returns : goal.returns
returns c =
    let called = c.contour_lines-built in
    let over = over-words _ _ called.new.directory c.lent_words-lent.ensures called.auto.directory called.ensures (rings-fit _ _ _ _ _ _ called.ensures.answers) in
    over-records _ over refl c.rings_in.ensures c.records_from_words.ensures.1
