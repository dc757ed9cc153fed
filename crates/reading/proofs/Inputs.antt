-- A whole text: what the parser finds is accepted, a text that is accepted as an input is parsed to it, and so a text has one reading. Assumes nothing.
use mathlib.Core.Path.{◌≡◌, refl, sym, ap, ◌∙◌}
use mathlib.Core.Bool.{Bool, true, false, cond}
use mathlib.Core.List.{List, [], ◌∷◌, ◌++◌, append-nil, append_assoc}
use Prim.Native.Nat.{ℕ, ◌*◌, ◌≤◌}
use native.Mathlib.Nat.{mul-le-mul}
use native.Mathlib.Omega.{arith}
use lib.ListN.{length, length-append}
use borrow.Author.Tests.{ltb-true, leb-true, lt-ltb, le-leb}
use Rattle.scope.specs.GeoJson.{decimal}
use Rattle.scope.specs.Program.{Input, number_limit, program_side, Fitting, spaced, line_text, input_text, Accepts}
use Rattle.reading.specs.Parser.{found, none, and_then, is_digit, number, numbers, ends_from, side_fits, sides_fit, ended, headed, parsed}
use Rattle.reading.proofs.Decimals.{nothing-found, both, Numbered, number-sound, number-complete, decimal-length}
use Rattle.reading.proofs.Lines.{steps, ended_text, Ended, numbers-sound, numbers-complete, ended-length, plain_rows, ends-length, rows_are}

side-fits : (side : ℕ) → side_fits side ≡ true → (1 ≤ side) × (side ≤ program_side)
unfolding side_fits
side-fits side e = let tests = both _ _ e in (ltb-true _ _ tests.0, leb-true _ _ tests.1)

-- the sides of a terrain that is read
pub record SidesFit (dx dy : ℕ) : Type 0 where
  pub some-columns : 1 ≤ dx
  pub columns : dx ≤ program_side
  pub some-rows : 1 ≤ dy
  pub rows : dy ≤ program_side

pub sides-fit : (dx dy : ℕ) → sides_fit dx dy ≡ true → SidesFit dx dy
unfolding sides_fit
sides-fit dx dy e =
    let tests = both _ _ e in
    let width = side-fits dx tests.0 in
    let height = side-fits dy tests.1 in
    record { some-columns = width.0; columns = width.1; some-rows = height.0; rows = height.1 }

-- the first line, and the rows as numbers with their ends
text-is : (i : Input) → Fitting i →
    input_text i ≡ decimal i.dx ++ (32 ∷ (decimal i.dy ++ (32 ∷ (decimal i.threshold ++ (10 ∷ ended_text (ends_from i.dx 0 (i.dx * i.dy)) i.values)))))
unfolding input_text line_text spaced
text-is i fits = simp (append_assoc, rows_are i.dx i.dy i.values fits.some-columns fits.all-values)

-- ---- what is found is accepted

abbrev pub input_of : ℕ → ℕ → ℕ → List ℕ → Input
input_of dx dy t values = record { dx = dx; dy = dy; threshold = t; values = values }

put-together : {dx dy t : ℕ} {bytes bytes₁ bytes₂ bytes₃ values : List ℕ} → Numbered 32 bytes dx bytes₁ → Numbered 32 bytes₁ dy bytes₂ →
    Numbered 10 bytes₂ t bytes₃ → SidesFit dx dy → Ended (ends_from dx 0 (dx * dy)) bytes₃ values [] → Accepts bytes (input_of dx dy t values)
put-together {dx} {dy} {t} {bytes} {bytes₁} {bytes₂} {bytes₃} {values} one two three sides rows =
    let fits : Fitting (input_of dx dy t values) = record {
      some-columns = sides.some-columns;
      columns = sides.columns;
      some-rows = sides.some-rows;
      rows = sides.rows;
      threshold-fits = three.within;
      all-values = rows.count ∙ ends-length dx (dx * dy) 0;
      values-fit = rows.within;
    } in
    record {
      fits = fits;
      is-text = one.is-text ∙ (rw (two.is-text, three.is-text, rows.is-text, append-nil) (sym (text-is (input_of dx dy t values) fits)));
    }

-- what is found after the first line
record Tail (dx dy t : ℕ) (bytes : List ℕ) (i : Input) : Type 0 where
  sides : SidesFit dx dy
  values : List ℕ
  values-are : numbers (ends_from dx 0 (dx * dy)) bytes ≡ found values []
  input-is : i ≡ input_of dx dy t values

ending : (dx dy t : ℕ) (values bytes : List ℕ) (i : Input) (left : List ℕ) → ended dx dy t values bytes ≡ found i left →
    (bytes ≡ []) × (i ≡ input_of dx dy t values)
unfolding ended
ending dx dy t values [] i left e = (refl, cc)
ending dx dy t values (b ∷ bytes) i left e = absurd (nothing-found e)

tail : (dx dy t : ℕ) (bytes : List ℕ) (i : Input) (left : List ℕ) → headed dx dy t bytes ≡ found i left → Tail dx dy t bytes i
unfolding headed
tail dx dy t bytes i left e = by (sides_fit dx dy) refl e
  where
    by : (b : Bool) → sides_fit dx dy ≡ b → cond b (and_then (numbers (ends_from dx 0 (dx * dy)) bytes) (ended dx dy t)) none ≡ found i left → Tail dx dy t bytes i
    by true fit f =
        let rows = steps (numbers (ends_from dx 0 (dx * dy)) bytes) (ended dx dy t) i left f in
        let end = ending dx dy t rows.value rows.between i left rows.second in
        record { sides = sides-fit dx dy fit; values = rows.value; values-are = rows.first ∙ ap (found rows.value) end.0; input-is = end.1 }
    by false fit f = absurd (nothing-found f)

pub parsed-sound : (bytes : List ℕ) (i : Input) (left : List ℕ) → parsed bytes ≡ found i left → Accepts bytes i
unfolding parsed
parsed-sound bytes i left e =
    let one = steps (number 32 bytes) _ i left e in
    let two = steps (number 32 one.between) _ i left one.second in
    let three = steps (number 10 two.between) (headed one.value two.value) i left two.second in
    let rows = tail one.value two.value three.value three.between i left three.second in
    rw rows.input-is
    (put-together
    (number-sound 32 bytes _ _ one.first)
    (number-sound 32 one.between _ _ two.first)
    (number-sound 10 two.between _ _ three.first)
    rows.sides
    (numbers-sound _ three.between _ [] rows.values-are))

-- ---- what is accepted is found

fitting-sides : (i : Input) → Fitting i → sides_fit i.dx i.dy ≡ true
unfolding sides_fit side_fits
fitting-sides i fits = rw (lt-ltb 0 i.dx fits.some-columns, le-leb _ _ fits.columns, lt-ltb 0 i.dy fits.some-rows, le-leb _ _ fits.rows)

side-within : (n : ℕ) → n ≤ program_side → n ≤ number_limit
unfolding program_side number_limit
side-within n h = omega arith

rows-found : (i : Input) → Fitting i → numbers (ends_from i.dx 0 (i.dx * i.dy)) (ended_text (ends_from i.dx 0 (i.dx * i.dy)) i.values) ≡ found i.values []
rows-found i fits =
    rw append-nil at
    (numbers-complete (ends_from i.dx 0 (i.dx * i.dy)) i.values [] (plain_rows i.dx (i.dx * i.dy) 0)
    (fits.all-values ∙ sym (ends-length i.dx (i.dx * i.dy) 0)) fits.values-fit)

pub parsed-complete : (i : Input) → Fitting i → parsed (input_text i) ≡ found i []
unfolding parsed headed ended is_digit
parsed-complete i fits =
    rw (
      text-is i fits,
      number-complete 32 refl i.dx _ (side-within i.dx fits.columns),
      number-complete 32 refl i.dy _ (side-within i.dy fits.rows),
      number-complete 10 refl i.threshold _ fits.threshold-fits,
      fitting-sides i fits,
      rows-found i fits,
    )

-- ---- what follows of a text

module _ (text : List ℕ) where
  found_of : (i : Input) → Accepts text i → parsed text ≡ found i []
  found_of i accepted = ap parsed accepted.is-text ∙ parsed-complete i accepted.fits

  -- where the parser finds nothing, there is no input
  pub nothing-accepted : parsed text ≡ none → (i : Input) → Accepts text i → ⊥
  nothing-accepted e i accepted = nothing-found (sym e ∙ found_of i accepted)

  -- one reading
  pub one-reading : (i j : Input) → Accepts text i → Accepts text j → i ≡ j
  one-reading i j first second =
      let f = found_of i first in
      let g = found_of j second in
      cc

  -- two digits a side, five a number, and an end each
  pub accepted-length : (i : Input) → Accepts text i → length text ≤ 6156
  unfolding program_side number_limit
  accepted-length i accepted =
      let fits = accepted.fits in
      let ends = ends_from i.dx 0 (i.dx * i.dy) in
      let columns = decimal-length 1 i.dx (omega arith) in
      let rows = decimal-length 1 i.dy (omega arith) in
      let threshold = decimal-length 4 i.threshold (omega arith) in
      let values = ended-length ends i.values fits.values-fit in
      let few = mul-le-mul fits.columns fits.rows in
      rw (accepted.is-text, text-is i fits) (simp length-append (omega (arith, ends-length i.dx (i.dx * i.dy) 0)))
