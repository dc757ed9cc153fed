-- `bands::has_pair` meets its contract: more than one threshold is left from place k on exactly where k + 1 is a place. Assumes nothing.
use mathlib.Core.Path.{sym}
use Prim.Native.Nat.{suc}
use native.Mathlib.Omega.{arith}
use borrow.Author.Tests.{le-ltb}
use Rattle.bands.proofs.Fit.{pair_left}
use Rattle.bands.proofs.has_pair.Goals as goal

pub returns-then-thresholds-k : goal.returns-then-thresholds-k
returns-then-thresholds-k c = sym (le-ltb (suc c.args.k) c.args.thresholds (omega arith))

pub returns : goal.returns
returns c = pair_left c.args.thresholds c.args.k (omega arith)
