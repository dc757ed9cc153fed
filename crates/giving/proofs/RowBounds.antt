-- The room that document 01's drawing takes after some cells, on a grid within the limit: its rings are rings, and their points and their number fit words.
-- Assumes nothing.
use Prim.Native.Nat.{ℕ, suc, ◌+◌, ◌*◌, ◌^◌, ◌≤◌, ◌<◌}
use native.Mathlib.Omega.{arith}
use lib.ListN.{length}
use Rattle.scope.specs.Terrain.{Sheet}
use Rattle.scope.specs.Limits.{side_limit}
use Rattle.scope.specs.Drawing.{segments_after, drawing_after, open_after, rings_after}
use Rattle.laws.proofs.Sizes.{held_in, rings-at-most, points-at-most}
use Rattle.laws.proofs.Edges.{Outside}
use Rattle.laws.proofs.Laws.{rings-are-rings}
use Rattle.scan.proofs.Steps.{segments-are-few}
use Rattle.giving.proofs.RowHolds.{Setting, Modest, RowFits}

-- the limit makes everything fit
pub limits-are-modest : (S : Setting) → S.dx ≤ side_limit → S.dy ≤ side_limit → S.h < 2 ^ 32 → S.room + 2 < 2 ^ 32 → Modest S
unfolding side_limit
limits-are-modest S hx hy lines links = record { lines-small = lines; links-small = links; columns-small = omega arith; rows-small = omega arith }

pub drawing-fits : (S : Setting) (A : Sheet) → Outside A S.dx S.dy → S.dx ≤ side_limit → S.dy ≤ side_limit → (r c : ℕ) → r ≤ S.dy → c ≤ suc S.dx
    → length (open_after A S.dx r c) ≤ S.h → held_in (open_after A S.dx r c) ≤ S.room → RowFits S (drawing_after A S.dx r c)
unfolding open_after
drawing-fits S A out hx hy r c hr hc lines links = record {
  lines_fit = lines;
  links-fit = links;
  rings-fit = unfold drawing_after side_limit in omega (arith, few, rings-at-most (segments_after A S.dx r c));
  points-fit = unfold drawing_after side_limit in omega (arith, few, points-at-most (segments_after A S.dx r c));
  rings-within = unfold rings_after in rings-are-rings A out r c hr hc;
}
  where
    few : length (segments_after A S.dx r c) ≤ 2 * (side_limit * suc side_limit) + 2 * suc side_limit
    few = segments-are-few A out side_limit r c hx (omega arith) hc
