-- `geotext::text_length` meets its contract. The loop's invariant: the sum is the shares of the records so far. Assumes nothing.
use mathlib.Core.Path.{◌≡◌}
use Rattle.scope.specs.Pairs.{sum_from}
use Rattle.geotext.proofs.Shares.{share_at}
use Rattle.geotext.proofs.text_length.Given as goal

abbrev pub invariant-loop-k : goal.invariant-loop-k
invariant-loop-k l = l.sum ≡ sum_from (share_at l.set.points.now l.set.directory.now) 0 l.k
