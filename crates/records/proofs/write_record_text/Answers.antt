-- `records::write_record_text` meets its contract: the words that `write_geojson` is lent are those that were copied. Assumes nothing.
use mathlib.Core.Path.{sym}
use lib.Seq.{length-take-le}
use Rattle.records.proofs.Lending.{read-words, read-words-fit}
use Rattle.records.proofs.write_record_text.Goals as goal

pub slice_bounds-write_geojson-end : goal.slice_bounds-write_geojson-end
slice_bounds-write_geojson-end c =
    let copied = c.words_from_records-copied.ensures in
    rw c.read_words.ensures (read-words-fit c.args.rings c.args.records.now c.args.directory.now copied.0 copied.1)

pub slice_bounds-write_geojson-end-2 : goal.slice_bounds-write_geojson-end-2
slice_bounds-write_geojson-end-2 c =
    let copied = c.words_from_records-copied.ensures in
    sym (length-take-le _ _ (rw c.read_words.ensures (read-words-fit c.args.rings c.args.records.now c.args.directory.now copied.0 copied.1)))

pub returns : goal.returns
returns c =
    let copied = c.words_from_records-copied.ensures in
    let same = read-words c.args.rings c.args.records.now c.args.directory.now copied.0 copied.1 in
    (rw (c.write_geojson.ensures.value, c.read_words.ensures, same), rw (c.write_geojson.ensures.text_after, c.read_words.ensures, same), copied.1)
