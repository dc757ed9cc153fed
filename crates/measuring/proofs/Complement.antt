-- The machine's difference modulo 2^64 is the difference in two's complement, and the area of a ring within the points is the one that is named.
-- Assumes nothing.
use Rattle.std.proofs.Common.{◌≡◌, ℕ, suc, ◌+◌, ◌-◌, ◌*◌, ◌%◌, ◌^◌, ◌<◌, ◌≤◌, Bool, true, false, cond, ltb, List, length, take, drop, ℤ, pos, negsuc, ◌+ℤ◌, sym, refl, ap, ◌∙◌, arith, length-drop, length-take-le, le-ltb, lt-ltb}
use Rattle.scope.specs.Area.{points, area, twos_complement}
use Rattle.scope.specs.GeoJson.{words_in}
use Rattle.area.proofs.Differences.{diff, add-diff, natural, negated, Split, more, less, split}
use Rattle.measuring.specs.Ringed.{area_in}

-- the number that b added to wraps round to a
pub wrapped-difference : (a b r : ℕ) → r < 2 ^ 64 → (r + b) % 2 ^ 64 ≡ a % 2 ^ 64 → r ≡ twos_complement (diff a b)
unfolding twos_complement
wrapped-difference a b r hr e = from (split a b)
  where
    from : Split a b → r ≡ twos_complement (diff a b)
    from (more n f) = rw (natural a b n f) (omega arith)
    from (less n f) = rw (negated a b (suc n) f) (omega arith)

-- and the way back
unwrapped : (a b : ℕ) → (twos_complement (diff a b) < 2 ^ 64) × ((twos_complement (diff a b) + b) % 2 ^ 64 ≡ a % 2 ^ 64)
unfolding twos_complement
unwrapped a b = from (split a b)
  where
    from : Split a b → (twos_complement (diff a b) < 2 ^ 64) × ((twos_complement (diff a b) + b) % 2 ^ 64 ≡ a % 2 ^ 64)
    from (more n f) = rw (natural a b n f) (omega arith, omega arith)
    from (less n f) = rw (negated a b (suc n) f) (omega arith, omega arith)

-- every whole number is a difference
pub record Apart (z : ℤ) : Type 0 where
  pub gained : ℕ
  pub lost : ℕ
  pub are : z ≡ diff gained lost

apart : (z : ℤ) → Apart z
apart (pos n) = record { gained = n; lost = 0; are = sym (natural n 0 n (omega arith)) }
apart (negsuc n) = record { gained = 0; lost = suc n; are = sym (negated 0 (suc n) (suc n) (omega arith)) }

gain-wraps : (n v u g s : ℕ) → (n + v) % 2 ^ 64 ≡ u % 2 ^ 64 → s ≡ (n + g) % 2 ^ 64 → (s + v) % 2 ^ 64 ≡ (u + g) % 2 ^ 64
gain-wraps n v u g s e f = omega arith

loss-wraps : (r l s v : ℕ) → (r + l) % 2 ^ 64 ≡ s → (r + (v + l)) % 2 ^ 64 ≡ (s + v) % 2 ^ 64
loss-wraps r l s v e = omega arith

-- a difference more, in two wrapping steps
pub wrapped_sum : (z : ℤ) (gained lost sum r : ℕ) → sum ≡ (twos_complement z + gained) % 2 ^ 64 → r < 2 ^ 64 → (r + lost) % 2 ^ 64 ≡ sum → r ≡ twos_complement (z +ℤ diff gained lost)
wrapped_sum z gained lost sum r e hr f =
    let parts = apart z in
    let back = unwrapped parts.gained parts.lost in
    let grown = e ∙ ap (λ (w : ℤ). (twos_complement w + gained) % 2 ^ 64) parts.are in
    wrapped-difference (parts.gained + gained) (parts.lost + lost) r hr
    (loss-wraps r lost sum parts.lost f ∙ gain-wraps (twos_complement (diff parts.gained parts.lost)) parts.lost parts.gained gained sum back.1 grown)
    ∙ ap twos_complement (sym (ap (λ (w : ℤ). w +ℤ diff gained lost) parts.are ∙ add-diff parts.gained parts.lost gained lost))

module _ (ps : List ℕ) (first : ℕ) where
  -- a ring of no points
  pub no-points : (count : ℕ) → count ≡ 0 → 0 ≡ twos_complement (area_in ps first count)
  unfolding twos_complement area_in words_in points area
  no-points count none = rw none (from (ltb (length ps) (2 * (first + 0))))
    where
      from : (b : Bool) → 0 ≡ twos_complement (cond b (pos 0) (area (points (take 0 (drop (2 * first) ps)))))
      from true = refl
      from false = refl

  -- one that the points do not reach
  pub past_points : (count : ℕ) → length ps < 2 * (first + count) → 0 ≡ twos_complement (area_in ps first count)
  unfolding twos_complement area_in
  past_points count h = rw (lt-ltb (length ps) (2 * (first + count)) h)

-- the part of the points that is a ring's words
pub part_length : (ps : List ℕ) (first count : ℕ) → 2 * first + 2 * count ≤ length ps → length (take (2 * first + 2 * count - 2 * first) (drop (2 * first) ps)) ≡ 2 * count
part_length ps first count h =
    let some : 2 * first + 2 * count - 2 * first ≡ 2 * count = omega arith in
    rw some (length-take-le (2 * count) (drop (2 * first) ps) (omega (arith, length-drop (2 * first) ps)))

-- a ring that lies within the points
pub area-within : (ps : List ℕ) (first count : ℕ) → 2 * (first + count) ≤ length ps → area_in ps first count ≡ area (points (words_in ps first count))
unfolding area_in
area-within ps first count h = rw (le-ltb (length ps) (2 * (first + count)) h)
