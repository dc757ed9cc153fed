-- `owners::Search::rank_at` meets its contract: ranks that permute are below their number, and a rank is a word. Assumes nothing.
use mathlib.Core.Path.{refl}
use native.Mathlib.Omega.{arith}
use Rattle.scope.specs.Limits.{no_owner}
use Rattle.extents.specs.Records.{rank_of}
use Rattle.extents.proofs.Permutes.{taken-below}
use Rattle.owners.proofs.Search.rank_at.Goals as goal

pub returns : goal.returns
unfolding rank_of no_owner
returns c =
    let search = c.args.self.now in
    record {
      is-rank = refl;
      below = taken-below (rank_of search.table.now search.n) search.n search.filed.ranks-permute c.args.number c.requires;
      fits = omega arith;
    }
