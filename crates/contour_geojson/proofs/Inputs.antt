-- How long a text is that the program accepts: 6,156 bytes at most, since a number has five digits at most, and a side two. So a byte more than that is enough to
-- see that a text is too long. Assumes nothing.
use mathlib.Core.Path.{ap}
use mathlib.Core.Bool.{Bool, true, false}
use mathlib.Core.List.{List, [], ◌∷◌}
use Prim.Native.Nat.{ℕ, zero, suc, ◌+◌, ◌*◌, ◌/◌, ◌%◌, ◌^◌, ◌≤◌, ◌<◌}
use native.Mathlib.Nat.{mul-le-mul, pow-suc}
use native.Mathlib.Omega.{arith}
use lib.Dec.{ltb}
use lib.ListN.{length, take, drop, length-append}
use borrow.Author.Tests.{lt-ltb}
use Rattle.scope.specs.GeoJson.{decimal_by, decimal}
use Rattle.scope.specs.Program.{number_limit, program_side, Input, NoneOver, spaced, line_text, rows_text, input_text, Accepts}

-- ---- a number

digits-few : (k d n : ℕ) → n < 10 ^ suc k → length (decimal_by d (ltb n 10) n) ≤ suc k
unfolding decimal_by
digits-few k zero n h = by (ltb n 10)
  where
    by : (b : Bool) → length (decimal_by 0 b n) ≤ suc k
    by true = omega arith
    by false = omega arith
digits-few zero (suc d) n h = rw (lt-ltb n 10 h) (omega arith)
digits-few (suc k) (suc d) n h = by (ltb n 10) (digits-few k d (n / 10) (omega (arith, pow-suc 10 (suc k))))
  where
    by : (b : Bool) → length (decimal_by d (ltb (n / 10) 10) (n / 10)) ≤ suc k → length (decimal_by (suc d) b n) ≤ suc (suc k)
    by true fewer = omega arith
    by false fewer = omega (arith, length-append (decimal_by d (ltb (n / 10) 10) (n / 10)) ((48 + n % 10) ∷ []))

decimal-few : (k n : ℕ) → n < 10 ^ suc k → length (decimal n) ≤ suc k
unfolding decimal
decimal-few k n h = digits-few k n n h

-- ---- lines and rows

abbrev Within : List ℕ → Type 0
Within ns = NoneOver number_limit ns

number-few : (n : ℕ) → n ≤ number_limit → length (decimal n) ≤ 5
unfolding number_limit
number-few n h = decimal-few 4 n (omega arith)

spaced-few : (n : ℕ) (ns : List ℕ) → Within (n ∷ ns) → length (spaced (n ∷ ns)) + 1 ≤ 6 * length (n ∷ ns)
unfolding spaced
spaced-few n [] w = omega (arith, number-few n w.0)
spaced-few n (m ∷ ns) w = omega (arith, number-few n w.0, spaced-few m ns w.1, length-append (decimal n) (32 ∷ spaced (m ∷ ns)))

line-few : (ns : List ℕ) (dx : ℕ) → 1 ≤ dx → length ns ≤ dx → Within ns → length (line_text ns) ≤ 6 * dx
unfolding line_text
line-few [] dx some few w = unfold spaced in omega arith
line-few (n ∷ ns) dx some few w = omega (arith, spaced-few n ns w, length-append (spaced (n ∷ ns)) (10 ∷ []))

within-take : (k : ℕ) (ns : List ℕ) → Within ns → Within (take k ns)
within-take zero ns w = tt
within-take (suc k) [] w = tt
within-take (suc k) (n ∷ ns) w = (w.0, within-take k ns w.1)

within-drop : (k : ℕ) (ns : List ℕ) → Within ns → Within (drop k ns)
within-drop zero ns w = w
within-drop (suc k) [] w = tt
within-drop (suc k) (n ∷ ns) w = within-drop k ns w.1

take-few : (k : ℕ) (ns : List ℕ) → length (take k ns) ≤ k
take-few zero ns = omega arith
take-few (suc k) [] = omega arith
take-few (suc k) (n ∷ ns) = omega (arith, take-few k ns)

rows_few : (dx dy : ℕ) (ns : List ℕ) → 1 ≤ dx → Within ns → length (rows_text dx dy ns) ≤ 6 * (dx * dy)
unfolding rows_text
rows_few dx zero ns some w = omega arith
rows_few dx (suc dy) ns some w =
    omega (
      arith,
      line-few (take dx ns) dx some (take-few dx ns) (within-take dx ns w),
      rows_few dx dy (drop dx ns) some (within-drop dx ns w),
      length-append (line_text (take dx ns)) (rows_text dx dy (drop dx ns)),
    )

-- ---- the whole text

side-few : (n : ℕ) → n ≤ program_side → length (decimal n) ≤ 2
unfolding program_side
side-few n h = decimal-few 1 n (omega arith)

pub accepted-texts-are-short : (text : List ℕ) (i : Input) → Accepts text i → length text ≤ 6156
unfolding input_text line_text spaced program_side
accepted-texts-are-short text i a =
    let fits = a.fits in
    let columns : i.dx ≤ 32 = fits.columns in
    let rows : i.dy ≤ 32 = fits.rows in
    omega (
      arith,
      ap length a.is-text,
      length-append (line_text (i.dx ∷ i.dy ∷ i.threshold ∷ [])) (rows_text i.dx i.dy i.values),
      length-append (spaced (i.dx ∷ i.dy ∷ i.threshold ∷ [])) (10 ∷ []),
      length-append (decimal i.dx) (32 ∷ spaced (i.dy ∷ i.threshold ∷ [])),
      length-append (decimal i.dy) (32 ∷ spaced (i.threshold ∷ [])),
      side-few i.dx fits.columns,
      side-few i.dy fits.rows,
      number-few i.threshold fits.threshold-fits,
      rows_few i.dx i.dy i.values fits.some-columns fits.values-fit,
      mul-le-mul columns rows,
    )
