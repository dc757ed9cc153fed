-- `ringset::record_faulty` meets its contract: a record is refused for its ring or for its owner. Assumes nothing.
use Rattle.ringset.proofs.OneRecord.{shape-decides, owner-decides}
use Rattle.ringset.proofs.record_faulty.Goals as goal

pub returns-then-shape_faulty : goal.returns-then-shape_faulty
returns-then-shape_faulty c =
    shape-decides _ _ _ _ c.record_at-record.ensures c.shape_faulty.ensures c.if-shape_faulty.true

pub returns : goal.returns
returns c =
    owner-decides _ _ _ _ c.record_at-record.ensures c.shape_faulty.ensures c.if-shape_faulty.false c.record_at-owner.ensures.2 c.owner_faulty.ensures
