-- What one walk over a ring's words finds: whether a coordinate is above the limit, and two sums whose difference is the area. Assumes nothing.
use Rattle.std.specs.Prelude.{◌≡◌, List, ℕ, ◌*◌, ◌^◌, ◌≤◌, pos, ◌-ℤ◌, length}
use Rattle.scope.specs.Limits.{coordinate_limit}
use Rattle.scope.specs.Area.{points, area, any_above}
use Rattle.area.specs.declared.RingSums.{RingSums}

-- a word adds less than 2 ^ 31 to each sum
pub record SummedUp (ws : List ℕ) (found : RingSums) : Type 0 where
  pub over-is : found.over ≡ any_above coordinate_limit ws
  pub area-is : area (points ws) ≡ pos found.gained -ℤ pos found.lost
  pub gained-small : found.gained ≤ 2 ^ 31 * length ws
  pub lost-small : found.lost ≤ 2 ^ 31 * length ws
