-- What one record adds to the length of a ring set's text. Assumes nothing.
use Rattle.std.specs.Prelude.{ℕ, ◌+◌, cond, List, eqb, length}
use Rattle.scope.specs.Limits.{no_owner}
use Rattle.scope.specs.Area.{points}
use Rattle.scope.specs.GeoJson.{words_in, ring_text}
use Rattle.ringset.specs.declared.Record.{Record}

-- the bytes of a record's ring
unfoldable pub ring_bytes : List ℕ → Record → ℕ
ring_bytes ps r = length (ring_text (points (words_in ps r.first r.count)))

-- a polygon adds its ring, two brackets and a comma; a hole that is not dropped adds its ring and a comma
unfoldable pub record_share : List ℕ → Record → ℕ
record_share ps r = cond (eqb r.class 0) (ring_bytes ps r + 3) (cond (eqb r.owner no_owner) 0 (ring_bytes ps r + 1))
