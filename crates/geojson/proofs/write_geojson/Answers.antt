-- `geojson::write_geojson` meets its contract: the set is refused, or the text is short, or it is written. Assumes nothing.
use mathlib.Core.Path.{◌≡◌}
use mathlib.Core.Bool.{false}
use native.Mathlib.Omega.{arith}
use lib.ListN.{length}
use Rattle.scope.specs.GeoJson.{ring_set_refused, geo_json_text}
use Rattle.error.proofs.Passing.{passed-on}
use Rattle.geojson.proofs.Cases.{set-refused, text-short, text-written}
use Rattle.geojson.proofs.write_geojson.Goals as goal
use Rattle.geojson.proofs.write_geojson.Goals.{After-text_length-length}

-- the set that was checked is the caller's
checked : (c : After-text_length-length) → ring_set_refused c.args.points.now c.args.directory.now c.args.rings ≡ false
checked c = let same = c.in_ok-set.ensures in rw (same.0, same.1, same.2) at c.in_ok-set.set.checked

-- and its text is as long as was found
long : (c : After-text_length-length) → c.text_length-length.result ≡ length (geo_json_text c.args.points.now c.args.directory.now c.args.rings)
long c = let same = c.in_ok-set.ensures in rw (same.0, same.1, same.2) at c.text_length-length.ensures

pub returns-in_err-set : goal.returns-in_err-set
returns-in_err-set c =
    let why = c.in_err-set.ensures in
    let said = set-refused _ _ _ c.args.text.now why.1 in
    record { value = rw (passed-on _ c.from_residual.ensures.1, why.0) said.0; text_after = said.1 }

pub returns-then-text-length : goal.returns-then-text-length
returns-then-text-length c =
    let d = (goal.at.returns-then-text-length c).After-text_length-length in
    let said = text-short _ _ _ c.args.text.now (checked d) (omega (arith, long d)) in
    record { value = said.0; text_after = said.1 }

pub write_within-requires : goal.write_within-requires
write_within-requires c = record { end_value = c.text_length-length.ensures; end_in_bounds = omega arith }

pub returns : goal.returns
returns c =
    let d = (goal.at.returns c).After-text_length-length in
    let same = c.in_ok-set.ensures in
    let said = text-written _ _ _ c.args.text.now (checked d) (omega (arith, long d)) (long d) (rw (same.0, same.1, same.2) at c.write_within.ensures) in
    record { value = said.0; text_after = said.1 }
