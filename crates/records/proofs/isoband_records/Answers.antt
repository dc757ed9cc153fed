-- `records::isoband_records` meets its contract: `isobands` is lent a front of the directory, where it leaves the rings' words, the rest stays, and the rings' records are
-- copied out of these words. Assumes nothing.
use mathlib.Core.Path.{refl}
use Rattle.records.proofs.Lending.{lent_fits, lent_length, over-words, over-records, band-rings-fit}
use Rattle.records.proofs.isoband_records.Goals as goal

pub slice_bounds-isobands-end : goal.slice_bounds-isobands-end
slice_bounds-isobands-end c = lent_fits _ _ c.lent_words-lent.ensures

pub slice_bounds-isobands-end-2 : goal.slice_bounds-isobands-end-2
slice_bounds-isobands-end-2 c = lent_length _ _ c.lent_words-lent.ensures

pub returns : goal.returns
returns c =
    let called = c.isobands-built in
    let over = over-words _ _ called.new.directory c.lent_words-lent.ensures called.auto.directory called.ensures (band-rings-fit _ _ _ _ _ _ _ called.ensures.answers) in
    over-records _ over refl c.rings_in.ensures c.records_from_words.ensures.1
