-- `explaining::decision_at` meets its contract: both records' rings are there, and the outer one is closed. Assumes nothing.
use Rattle.explaining.proofs.Rings.{ring-lies, ring-closes, ring-is}
use Rattle.explaining.proofs.decision_at.Goals as goal

pub decide-requires : goal.decide-requires
decide-requires c =
    let checked = c.args.set.checked in
    rw (c.span_at-outer_span.ensures.0, c.span_at-outer_span.ensures.1, c.span_at-span.ensures.0, c.span_at-span.ensures.1)
    (ring-closes (record { passes = checked; there = c.requires.0 }), ring-lies (record { passes = checked; there = c.requires.1 }))

pub returns : goal.returns
returns c =
    let checked = c.args.set.checked in
    rw (
      c.decide.ensures,
      c.span_at-outer_span.ensures.0,
      c.span_at-outer_span.ensures.1,
      c.span_at-span.ensures.0,
      c.span_at-span.ensures.1,
      ring-is (record { passes = checked; there = c.requires.0 }),
      ring-is (record { passes = checked; there = c.requires.1 }),
    )
