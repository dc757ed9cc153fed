-- `owners::Search::first_taker` meets its contract. The loop's invariant is `Choosing`: of the numbers so far, looked at or passed over, the best is the first polygon
-- that takes the ring. Assumes nothing.
use mathlib.Core.Path.{◌≡◌, refl, ◌∙◌}
use Prim.Native.Nat.{ℕ}
use Rattle.std.specs.Prelude.{Option, Some, None}
use Rattle.std.specs.Option.{unwrap_or}
use Rattle.scope.specs.Limits.{no_owner}
use Rattle.owners.specs.Searched.{best_word}
use Rattle.owners.proofs.Searches.{found-below, choosing-begin, choosing-next, choosing-end}
use Rattle.owners.proofs.Search.first_taker.Goals as goal

word-of-best : (best : Option ℕ) → unwrap_or best no_owner ≡ best_word best
word-of-best None = refl
word-of-best (Some r) = refl

pub loop-i-init : goal.loop-i-init
unfolding no_owner
loop-i-init c =
    rw c.into_iter-i-iterator.ensures.into_iter_gives (choosing-begin c.requires c.rank_at-at.ensures c.near-i-items.ensures)

pub better-best-requires : goal.better-best-requires
better-best-requires c =
    let inv = c.loop-i.invariant in
    (found-below inv.for-ring c.in-Some.ensures.steps.3.1, inv.for-ring.ranked.below)

pub loop-i-preserved : goal.loop-i-preserved
loop-i-preserved c =
    let found = c.in-Some.ensures.steps in
    choosing-next c.loop-i.invariant (found.0, found.1, found.2) found.3.0 found.3.2 c.better-best.ensures.1 c.better-best.ensures.0

pub returns : goal.returns
unfolding no_owner
returns c = c.unwrap_or.ensures ∙ word-of-best c.loop-i.best ∙ choosing-end c.loop-i.invariant c.in-None.ensures.steps.3
