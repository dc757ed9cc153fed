-- `area::contains` meets its contract. The outer loop's invariant is `Passed`, the inner loop's is `Walked`: what is left to pass answers as the whole does.
-- Assumes nothing.
use mathlib.Core.Path.{◌≡◌, refl, sym, ap, ◌∙◌}
use mathlib.Core.Bool.{Bool, true, false, xor, ◌||◌}
use mathlib.Core.List.{List}
use Prim.Native.Nat.{ℕ, ◌/◌, ◌<◌, ◌≤◌}
use lib.Dec.{eqb}
use lib.ListN.{length}
use Rattle.scope.specs.Area.{area_refused, faulty_words}
use Rattle.scope.specs.Cells.{Point}
use Rattle.scope.specs.Containment.{contains_refused, signed}
use Rattle.std.specs.Prelude.{Ok}
use Rattle.area.specs.Points.{meant}
use Rattle.area.specs.Answers.{contains_answer, place_of}
use Rattle.area.proofs.Walks.{Passed, Walked, passed-begin, passed-next, decided, none-decided, walked-begin, walked-held, walked_next, walked_end}
use Rattle.area.proofs.Words.{sound, ring-sound, point_at}
use Rattle.area.proofs.contains.Goals as goal

-- what `contains` refuses of the outer ring is what `area` refuses
refused-first : (outer : List ℕ) → eqb (length outer) 0 || faulty_words outer ≡ area_refused outer
unfolding area_refused
refused-first outer = refl

-- past the tests nothing is refused
not-refused : (outer tested : List ℕ) (r f : Bool) → r ≡ area_refused outer → r ≡ false → f ≡ faulty_words tested → f ≡ false →
    contains_refused outer tested ≡ false
unfolding contains_refused
not-refused outer tested r f er r₀ ef f₀ = simp (refused-first, ← er, r₀, ← ef, f₀)

-- past the pairs the vertex decides, by the sign
sign-decides : (outer tested : List ℕ) (v k : ℕ) (p last : Point) (within inside : Bool) →
    contains_refused outer tested ≡ false → Passed outer tested v → v < length tested / 2 → p ≡ point_at tested v →
    Walked outer p last within k → length outer / 2 ≤ k → within ≡ inside →
    contains_answer outer tested ≡ Ok (place_of (signed inside))
unfolding contains_answer
sign-decides outer tested v k p last within inside none passed turn is walked end e =
    let place = decided passed turn inside (rw is at (walked_end walked end ∙ ap signed e)) in
    simp (none, place)

pub returns-then-no_ring : goal.returns-then-no_ring
unfolding contains_answer contains_refused
returns-then-no_ring c = simp (refused-first, ← c.no_ring.ensures, c.if-no_ring.true)

pub returns-then-faulty : goal.returns-then-faulty
unfolding contains_answer contains_refused
returns-then-faulty c = simp (refused-first, ← c.no_ring.ensures, c.if-no_ring.false, ← c.faulty.ensures, c.if-faulty.true)

pub vertices-init : goal.vertices-init
vertices-init c =
    let outer-ring = ring-sound _ (sym c.no_ring.ensures ∙ c.if-no_ring.false) in
    passed-begin _ _
    (record {
      outer-sound = outer-ring.0;
      tested-sound = sound _ (sym c.faulty.ensures ∙ c.if-faulty.false);
      some = outer-ring.1;
    })

pub loop-k-init : goal.loop-k-init
unfolding point_at
loop-k-init c =
    let passed = c.vertices.invariant in
    walked-begin _ _ passed.rings.outer-sound passed.rings.some (ap meant c.point_at-last.ensures)

pub vertices-preserved : goal.vertices-preserved
unfolding point_at
vertices-preserved c =
    let is = ap meant c.point_at-p.ensures in
    passed-next c.vertices.invariant c.vertices-test.true
    (rw is at (walked-held c.loop-k.invariant c.loop-k-test.true (ap meant c.point_at-next.ensures) c.on_pair.ensures c.if-on_pair.true))

pub loop-k-preserved : goal.loop-k-preserved
unfolding xor point_at
loop-k-preserved c =
    walked_next c.loop-k.invariant c.loop-k-test.true (ap meant c.point_at-next.ensures) c.on_pair.ensures c.if-on_pair.false c.flips-within.ensures

pub returns-then-within : goal.returns-then-within
unfolding place_of signed point_at
returns-then-within c =
    let none = not-refused _ _ _ _ c.no_ring.ensures c.if-no_ring.false c.faulty.ensures c.if-faulty.false in
    sym (sign-decides _ _ _ _ _ _ _ true none c.vertices.invariant c.vertices-test.true (ap meant c.point_at-p.ensures) c.loop-k.invariant c.loop-k-test.false c.if-within.true)

pub returns-in-vertices : goal.returns-in-vertices
unfolding place_of signed point_at
returns-in-vertices c =
    let none = not-refused _ _ _ _ c.no_ring.ensures c.if-no_ring.false c.faulty.ensures c.if-faulty.false in
    sym (sign-decides _ _ _ _ _ _ _ false none c.vertices.invariant c.vertices-test.true (ap meant c.point_at-p.ensures) c.loop-k.invariant c.loop-k-test.false c.if-within.false)

pub returns : goal.returns
unfolding contains_answer place_of
returns c = simp (not-refused _ _ _ _ c.no_ring.ensures c.if-no_ring.false c.faulty.ensures c.if-faulty.false, none-decided c.vertices.invariant c.vertices-test.false)
