-- `geojson::geojson_length` meets its contract: the set is refused, or its text has a length. Assumes nothing.
use Rattle.error.proofs.Passing.{passed-on}
use Rattle.geojson.proofs.Cases.{no_length, a-length}
use Rattle.geojson.proofs.geojson_length.Goals as goal

pub returns-in_err-set : goal.returns-in_err-set
returns-in_err-set c =
    let why = c.in_err-set.ensures in
    rw (passed-on _ c.from_residual.ensures.1, why.0) (no_length _ _ _ why.1)

pub returns : goal.returns
returns c =
    let same = c.in_ok-set.ensures in
    a-length _ _ _ (rw (same.0, same.1, same.2) at c.in_ok-set.set.checked) (rw (same.0, same.1, same.2) at c.text_length.ensures)
