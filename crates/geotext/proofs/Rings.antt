-- The text of a point and of a ring piece by piece, and the walk over the words of a ring that writes the text: its invariant says what is left.
-- Assumes nothing.
use mathlib.Core.Path.{◌≡◌, refl, sym, ap, ap₂, ◌∙◌}
use mathlib.Core.Bool.{Bool, true, false, cond}
use mathlib.Core.List.{List, [], ◌∷◌, ◌++◌, append_assoc, append-nil, reverse, reverse-cons}
use Prim.Native.Nat.{ℕ, zero, suc, ◌+◌, ◌-◌, ◌*◌, ◌/◌, ◌≤◌, ◌<◌}
use native.Mathlib.Decide.{dec_lt}
use native.Mathlib.Omega.{arith}
use lib.ListN.{length, get_or, set, drop, length-reverse, drop_of_length-le, get_or-append}
use lib.Seq.{sets, drop-cons, get_or-append_seam}
use Rattle.scope.specs.Cells.{Point}
use Rattle.scope.specs.Stitching.{Line}
use Rattle.scope.specs.Area.{points}
use Rattle.scope.specs.GeoJson.{coordinate_text, joined, bracketed, point_text, ring_text, written_order}
use Rattle.geotext.specs.Pieces.{point_texts, next_of}
use Rattle.geotext.proofs.Runs.{Left, left-begin, left-room, left-next}

-- ---- the pieces

pub point-spelled : (x y : ℕ) →
    point_text (record { x = x; y = y }) ≡ 91 ∷ (coordinate_text x ++ (44 ∷ (coordinate_text y ++ (93 ∷ []))))
unfolding point_text bracketed joined
point-spelled x y = ap (λ (t : List ℕ). 91 ∷ t) (append_assoc (coordinate_text x) (44 ∷ coordinate_text y) (93 ∷ []))

pub ring-spelled : (l : Line) → ring_text l ≡ 91 ∷ (point_texts l ++ (93 ∷ []))
unfolding ring_text bracketed point_texts
ring-spelled l = refl

-- the text behind a point, before these
unfoldable behind_point : Line → List ℕ
behind_point [] = []
behind_point (p ∷ l) = 44 ∷ point_texts (p ∷ l)

one-point : (p : Point) (l : Line) → point_texts (p ∷ l) ≡ point_text p ++ behind_point l
unfolding point_texts behind_point joined
one-point p [] = sym (append-nil (point_text p))
one-point p (q ∷ l) = refl

-- ---- the points of words

-- the point of number k
abbrev pub point_in : List ℕ → ℕ → Point
point_in ps k = record { x = get_or ps (2 * k) 0; y = get_or ps (2 * k + 1) 0 }

nowhere : Point
nowhere = record { x = 0; y = 0 }

points-many : (ws : List ℕ) → length (points ws) ≡ length ws / 2
unfolding points
points-many [] = refl
points-many (x ∷ []) = omega arith
points-many (x ∷ y ∷ ws) = omega (arith, points-many ws)

point-of : (ws : List ℕ) (k : ℕ) → 2 * k + 1 < length ws → get_or (points ws) k nowhere ≡ point_in ws k
unfolding points
point-of [] k h = absurd (omega arith)
point-of (x ∷ []) k h = absurd (omega arith)
point-of (x ∷ y ∷ ws) zero h = refl
point-of (x ∷ y ∷ ws) (suc k) h =
    let word : ℕ → ℕ = λ i. get_or (x ∷ y ∷ ws) i 0 in
    let first : suc (suc (2 * k)) ≡ 2 * suc k = omega arith in
    let second : suc (suc (2 * k + 1)) ≡ 2 * suc k + 1 = omega arith in
    point-of ws k (omega arith) ∙ ap₂ (λ (i j : ℕ). record { x = word i; y = word j }) first second

-- ---- a list backwards

get_d_reverse : {A : Type 0} (l : List A) (k : ℕ) (d : A) → k < length l → get_or (reverse l) k d ≡ get_or l (length l - 1 - k) d
get_d_reverse [] k d h = absurd (omega arith)
get_d_reverse (a ∷ l) k d h = rw (reverse-cons a l) (by (dec_lt k (length l)) (get_d_reverse l k d))
  where
    by : Dec (k < length l) → (k < length l → get_or (reverse l) k d ≡ get_or l (length l - 1 - k) d) → get_or (reverse l ++ (a ∷ [])) k d ≡ get_or (a ∷ l) (suc (length l) - 1 - k) d
    by (yes less) so =
        let next : suc (length l) - 1 - k ≡ suc (length l - 1 - k) = omega arith in
        rw next (get_or-append (reverse l) (a ∷ []) d k (omega (arith, length-reverse l)) ∙ so less)
    by (no not-less) so =
        let last : k ≡ length (reverse l) = omega (arith, not-less, length-reverse l) in
        let none : suc (length l) - 1 - length (reverse l) ≡ 0 = omega (arith, length-reverse l) in
        rw (last, none) (get_or-append_seam (reverse l) a [] d)

-- ---- the walk that writes

module _ (ws : List ℕ) (back : Bool) where
  -- how many points the words have
  abbrev count : ℕ
  count = length ws / 2

  -- the ring as it is written
  abbrev ring : Line
  ring = written_order back (points ws)

  ring-many : length ring ≡ count
  unfolding written_order
  ring-many = by back
    where
      by : (b : Bool) → length (cond b (reverse (points ws)) (points ws)) ≡ count
      by true = length-reverse (points ws) ∙ points-many ws
      by false = points-many ws

  written-point : (left : ℕ) → 0 < left → left ≤ count → get_or ring (count - left) nowhere ≡ point_in ws (next_of count left back)
  unfolding written_order next_of
  written-point left more within = by back
    where
      by : (b : Bool) → get_or (cond b (reverse (points ws)) (points ws)) (count - left) nowhere ≡ point_in ws (cond b (left - 1) (count - left))
      by true =
          let place : length (points ws) - 1 - (count - left) ≡ left - 1 = omega (arith, points-many ws) in
          get_d_reverse (points ws) (count - left) nowhere (omega (arith, points-many ws)) ∙ rw place (point-of ws (left - 1) (omega arith))
      by false = point-of ws (count - left) (omega arith)

  ring-next : (left n : ℕ) → 0 < left → left ≤ count → n ≡ next_of count left back → drop (count - left) ring ≡ point_in ws n ∷ drop (count - (left - 1)) ring
  ring-next left n more within is =
      let next : suc (count - left) ≡ count - (left - 1) = omega arith in
      drop-cons ring (count - left) nowhere (omega (arith, ring-many)) ∙ rw (next, is, written-point left more within)

  none_left : (left : ℕ) → left ≤ 0 → drop (count - left) ring ≡ []
  none_left left h = drop_of_length-le ring {i = count - left} (omega (arith, ring-many))

  -- so many points are left
  pub record PointsLeft (start : List ℕ) (at : ℕ) (text : List ℕ) (place left : ℕ) : Type 0 where
    pub within : left ≤ count
    pub unwritten : Left start at (point_texts ring) text place (point_texts (drop (count - left) ring))

-- the next point is one of the ring's
pub next-within : (count left : ℕ) (back : Bool) → 0 < left → left ≤ count → next_of count left back < count
unfolding next_of
next-within count left true more within = omega arith
next-within count left false more within = omega arith

module _ {ws : List ℕ} {back : Bool} {start : List ℕ} {at : ℕ} where
  pub points-begin : at + length (point_texts (ring ws back)) ≤ length start → PointsLeft ws back start at start at (length ws / 2)
  points-begin room = let none : length ws / 2 - length ws / 2 ≡ 0 = omega arith in record { within = omega arith; unwritten = rw none (left-begin refl room) }

  pub points-end : {text : List ℕ} {place left : ℕ} → PointsLeft ws back start at text place left → left ≤ 0 →
      Left start at (point_texts (ring ws back)) text place []
  unfolding point_texts joined
  points-end {text} {place} {left} s h = rw (none_left ws back left h) at s.unwritten

  module _ {text : List ℕ} {place left : ℕ} (s : PointsLeft ws back start at text place left) (more : 0 < left) {n : ℕ} (is : n ≡ next_of (length ws / 2) left back) where
    abbrev next : Point
    next = point_in ws n

    -- the points behind the next
    abbrev others : Line
    others = drop (length ws / 2 - (left - 1)) (ring ws back)

    points-at : Left start at (point_texts (ring ws back)) text place (point_text next ++ behind_point others)
    points-at = rw (ring-next ws back left n more s.within is, one-point) at s.unwritten

    -- there is room for a point
    pub point-room : place + length (point_text next) ≤ length text
    point-room = left-room (point_text next) (behind_point others) points-at

    module _ {text' : List ℕ} {place' : ℕ} (ends : place' ≡ place + length (point_text next)) (stored : text' ≡ sets text place (point_text next)) where
      points-behind : Left start at (point_texts (ring ws back)) text' place' (behind_point others)
      points-behind = left-next (point_text next) (behind_point others) points-at ends stored

      -- another follows
      pub points-comma : 0 < left - 1 → Left start at (point_texts (ring ws back)) text' place' (44 ∷ point_texts others)
      unfolding behind_point
      points-comma again =
          let follows = ring-next ws back (left - 1) _ again (omega (arith, s.within)) refl in
          rw follows (rw follows at points-behind)

      pub points-next : 0 < left - 1 → PointsLeft ws back start at (set text' place' 44) (place' + 1) (left - 1)
      points-next again = record { within = omega (arith, s.within); unwritten = left-next (44 ∷ []) (point_texts others) (points-comma again) refl refl }

      -- it was the last
      pub points-last : left - 1 ≤ 0 → PointsLeft ws back start at text' place' (left - 1)
      unfolding behind_point point_texts joined
      points-last last =
          let none = none_left ws back (left - 1) last in
          record { within = omega (arith, s.within); unwritten = rw none (rw none at points-behind) }
