-- `explaining::polygon_at` meets its contract: the record's ring is there, and its area decides. Assumes nothing.
use mathlib.Core.Path.{◌≡◌}
use borrow.Author.Rules.{rules}
use mir.Syntax.{w64}
use mir.Val.{to_z, of_z}
use Rattle.noting.proofs.Signs.{above_zero}
use Rattle.explaining.specs.Fates.{is_polygon_by}
use Rattle.explaining.proofs.Rings.{ring-within, ring-is}
use Rattle.explaining.proofs.polygon_at.Goals as goal

pub area_at-area-requires : goal.area_at-area-requires
area_at-area-requires c =
    rw (c.span_at-span.ensures.0, c.span_at-span.ensures.1) (ring-within (record { passes = c.args.set.checked; there = c.requires }))

pub returns : goal.returns
unfolding is_polygon_by
returns c =
    let same : to_z w64 (of_z w64 c.area_at-area.result) ≡ c.area_at-area.result = search rules in
    rw (
      same,
      above_zero c.area_at-area.result,
      c.area_at-area.ensures,
      c.span_at-span.ensures.0,
      c.span_at-span.ensures.1,
      ring-is (record { passes = c.args.set.checked; there = c.requires }),
    )
