-- What a map viewer is promised of the text of a checked set: it is the text of a list of polygons, each with its exterior first, and in every one of them the
-- rings that have an area run as RFC 7946 wants them, exteriors counterclockwise and holes clockwise, with y upward. This holds of every set that number 9 lets
-- pass, whichever way its rings are stored, and it is said by the written points alone. Other crates cite `shown`. Assumes nothing.
use mathlib.Core.Path.{◌≡◌, refl, sym, ap}
use mathlib.Core.Bool.{Bool, true, false, cond}
use mathlib.Core.List.{List, [], ◌∷◌, ◌++◌, map, map-append}
use Prim.Native.Nat.{ℕ, zero, suc, ◌<◌}
use native.Mathlib.Omega.{arith}
use Rattle.scope.specs.Stitching.{Line}
use Rattle.scope.specs.GeoJson.{is_polygon, is_hole, ring_set_refused, joined, bracketed, ring_text, written_at, numbers_of, polygon_numbers, is_hole_of, hole_numbers, polygon_text, opening, geo_json_text}
use Rattle.scope.specs.Winding.{Wide, Clockwise, RightHand}
use Rattle.laws.proofs.Conservation.{Each}
use Rattle.laws.proofs.Ends.{and_left}
use Rattle.ringset.proofs.Laws.{Sound, sound}
use Rattle.winding.proofs.Laws.{exterior-runs, hole-runs}
use Rattle.readable.proofs.Laws.{each_append}
use Rattle.readable.proofs.Pieces.{map-map}

-- a polygon by its rings, the exterior first
unfoldable pub rings_text : List Line → List ℕ
rings_text rings = bracketed (joined (map ring_text rings))

-- a MultiPolygon by its polygons
unfoldable pub multi_polygon_text : List (List Line) → List ℕ
multi_polygon_text polygons = opening ++ (bracketed (joined (map rings_text polygons)) ++ (125 ∷ []))

-- the text of a set by its polygons, each of which keeps the right-hand rule
pub record Shown (ps directory : List ℕ) (rings : ℕ) : Type 0 where
  pub polygons : List (List Line)
  pub text-is : geo_json_text ps directory rings ≡ multi_polygon_text polygons
  pub right-hand : Each RightHand polygons

-- ---- what holds of each number that passes a test

each-made : {X : Type 0} (P : X → Type 0) (f : ℕ → X) (test : ℕ → Bool) (n : ℕ) → ((k : ℕ) → k < n → test k ≡ true → P (f k)) → Each P (map f (numbers_of test n))
unfolding numbers_of
each-made P f test zero all = tt
each-made P f test (suc n) all =
    rw map-append (each_append P (map f (numbers_of test n)) (map f (cond (test n) (n ∷ []) [])) (each-made P f test n (λ k h. all k (omega arith))) (last (test n) refl))
  where
    last : (b : Bool) → test n ≡ b → Each P (map f (cond b (n ∷ []) []))
    last true e = (all n (omega arith) e, tt)
    last false e = tt

-- ---- the polygons of a set, as they are written

module _ (ps directory : List ℕ) (rings : ℕ) where
  -- a polygon, followed by its holes
  unfoldable written_rings : ℕ → List Line
  written_rings k = map (written_at ps directory) (k ∷ hole_numbers directory rings k)

  unfoldable written_polygons : List (List Line)
  written_polygons = map written_rings (polygon_numbers directory rings)

  polygon-is : (k : ℕ) → rings_text (written_rings k) ≡ polygon_text ps directory rings k
  unfolding rings_text written_rings polygon_text
  polygon-is k =
      ap (λ (ts : List (List ℕ)). bracketed (joined ts))
      (map-map ring_text (written_at ps directory) (λ r. ring_text (written_at ps directory r)) (λ r. refl) (k ∷ hole_numbers directory rings k))

  text-shown : geo_json_text ps directory rings ≡ multi_polygon_text written_polygons
  unfolding geo_json_text multi_polygon_text written_polygons
  text-shown =
      ap (λ (ts : List (List ℕ)). opening ++ (bracketed (joined ts) ++ (125 ∷ [])))
      (sym (map-map rings_text written_rings (polygon_text ps directory rings) polygon-is (polygon_numbers directory rings)))

  module _ (set : Sound ps directory rings) where
    hole-right : (owner k : ℕ) → k < rings → is_hole_of directory owner k ≡ true → Wide (written_at ps directory k) → Clockwise (written_at ps directory k)
    unfolding is_hole_of
    hole-right owner k h e = hole-runs set k h (and_left (is_hole directory k) _ e)

    polygon-right : (k : ℕ) → k < rings → is_polygon directory k ≡ true → RightHand (written_rings k)
    unfolding written_rings RightHand hole_numbers
    polygon-right k h e =
        (exterior-runs set k h e, each-made (λ hole. Wide hole → Clockwise hole) (written_at ps directory) (is_hole_of directory k) rings (hole-right k))

    all_right : Each RightHand written_polygons
    unfolding written_polygons polygon_numbers
    all_right = each-made RightHand written_rings (is_polygon directory) rings polygon-right

-- a set that passes number 9 is shown by the right-hand rule
pub shown : (ps directory : List ℕ) (rings : ℕ) → ring_set_refused ps directory rings ≡ false → Shown ps directory rings
shown ps directory rings passes = record {
  polygons = written_polygons ps directory rings;
  text-is = text-shown ps directory rings;
  right-hand = all_right ps directory rings (sound ps directory rings passes);
}
