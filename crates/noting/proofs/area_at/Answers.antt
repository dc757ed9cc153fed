-- `noting::area_at` meets its contract: the part of the words is the ring's (`ring-points`), and they are not refused, so the answer is the ring's area.
-- Assumes nothing.
use mathlib.Core.Path.{◌≡◌, ap, ◌∙◌}
use mathlib.Core.Bool.{false}
use mathlib.Core.List.{List}
use Prim.Native.Nat.{ℕ, ◌+◌, ◌-◌, ◌*◌}
use native.Mathlib.Omega.{arith}
use lib.ListN.{take, drop}
use borrow.Author.Rules.{rules}
use mir.Syntax.{w64}
use mir.Val.{to_z, of_z}
use Rattle.scope.specs.Area.{points, area, area_refused}
use Rattle.extents.specs.Points.{ring_in}
use Rattle.noting.specs.Step.{RingWithin}
use Rattle.noting.proofs.Answers.{area-answered, no-refusal}
use Rattle.noting.proofs.Rings.{ring-points, ring-accepted}
use Rattle.noting.proofs.area_at.Goals as goal

-- the words that are lent
abbrev lent : List ℕ → ℕ → ℕ → List ℕ
lent ws first count = take (2 * (first + count) - 2 * first) (drop (2 * first) ws)

half : (first count : ℕ) → 2 * (first + count) - 2 * first ≡ 2 * count
half first count = omega arith

accepted : (ws : List ℕ) (first count : ℕ) → RingWithin ws first count → area_refused (lent ws first count) ≡ false
accepted ws first count there = rw (half first count) (ring-accepted there)

its-points : (ws : List ℕ) (first count : ℕ) → RingWithin ws first count → points (lent ws first count) ≡ ring_in ws first count
its-points ws first count there = rw (half first count) (ring-points ws first count there.points-there)

pub returns-in_default : goal.returns-in_default
returns-in_default c =
    absurd (no-refusal _ _ (accepted _ _ _ c.requires) c.area.ensures _ c.in_default.is)

pub returns : goal.returns
returns c =
    let found = area-answered _ _ (accepted _ _ _ c.requires) c.area.ensures _ c.in-Ok.is in
    let same : to_z w64 (of_z w64 c.in-Ok.area) ≡ c.in-Ok.area = search rules in
    same ∙ found ∙ ap area (its-points _ _ _ c.requires)
