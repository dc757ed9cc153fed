-- `rows::blank` meets its contract: the samples of the outside are words that are 0. Assumes nothing.
use Rattle.rows.specs.Called.{blank}
use Rattle.rows.proofs.Samples.{no-words}
use Rattle.rows.proofs.blank.Goals as goal

pub returns : goal.returns
unfolding blank
returns c = rw no-words
