-- `records::record_text_length` meets its contract: the words that `geojson_length` is lent are those that were copied. Assumes nothing.
use mathlib.Core.Path.{sym}
use lib.Seq.{length-take-le}
use Rattle.records.proofs.Lending.{read-words, read-words-fit}
use Rattle.records.proofs.record_text_length.Goals as goal

pub slice_bounds-geojson_length-end : goal.slice_bounds-geojson_length-end
slice_bounds-geojson_length-end c =
    let copied = c.words_from_records-copied.ensures in
    rw c.read_words.ensures (read-words-fit c.args.rings c.args.records.now c.args.directory.now copied.0 copied.1)

pub slice_bounds-geojson_length-end-2 : goal.slice_bounds-geojson_length-end-2
slice_bounds-geojson_length-end-2 c =
    let copied = c.words_from_records-copied.ensures in
    sym (length-take-le _ _ (rw c.read_words.ensures (read-words-fit c.args.rings c.args.records.now c.args.directory.now copied.0 copied.1)))

pub returns : goal.returns
returns c =
    let copied = c.words_from_records-copied.ensures in
    let same = read-words c.args.rings c.args.records.now c.args.directory.now copied.0 copied.1 in
    (rw (c.geojson_length.ensures, c.read_words.ensures, same), copied.1)
