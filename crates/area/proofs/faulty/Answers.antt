-- `area::faulty` meets its contract: the tests are those of the definition, and a word above the limit is what `any` looks for. Assumes nothing.
use native.Mathlib.Omega.{arith}
use Rattle.std.proofs.lemmas.Grind.{common_steps}
use Rattle.scope.specs.Area.{faulty_words}
use Rattle.scope.specs.Limits.{coordinate_limit, point_limit}
use Rattle.area.proofs.Words.{any_above_is}
use Rattle.area.proofs.faulty.Goals as goal

pub returns-else-words-gt-POINT_LIMIT : goal.returns-else-words-gt-POINT_LIMIT
unfolding faulty_words point_limit coordinate_limit
returns-else-words-gt-POINT_LIMIT c = grind (arith, common_steps, any_above_is 8192 c.args.words.now)
