-- `records::record_set_faulty` meets its contract: the words that `ring_set_faulty` is lent are those that were copied. Assumes nothing.
use mathlib.Core.Path.{sym}
use lib.Seq.{length-take-le}
use Rattle.records.proofs.Lending.{read-words, read-words-fit}
use Rattle.records.proofs.record_set_faulty.Goals as goal

pub slice_bounds-ring_set_faulty-end : goal.slice_bounds-ring_set_faulty-end
slice_bounds-ring_set_faulty-end c =
    let copied = c.words_from_records-copied.ensures in
    rw c.read_words.ensures (read-words-fit c.args.rings c.args.records.now c.args.directory.now copied.0 copied.1)

pub slice_bounds-ring_set_faulty-end-2 : goal.slice_bounds-ring_set_faulty-end-2
slice_bounds-ring_set_faulty-end-2 c =
    let copied = c.words_from_records-copied.ensures in
    sym (length-take-le _ _ (rw c.read_words.ensures (read-words-fit c.args.rings c.args.records.now c.args.directory.now copied.0 copied.1)))

pub returns : goal.returns
returns c =
    let copied = c.words_from_records-copied.ensures in
    let same = read-words c.args.rings c.args.records.now c.args.directory.now copied.0 copied.1 in
    (rw (c.ring_set_faulty.ensures, c.read_words.ensures, same), copied.1)
