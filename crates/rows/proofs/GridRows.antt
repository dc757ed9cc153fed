-- The words of a row as the calls make them: those of a row of values are the grid's own row, and those of the outside are no samples at all. Assumes nothing.
use mathlib.Core.Path.{◌≡◌, refl, sym, ◌∙◌, ap}
use mathlib.Core.Bool.{Bool, false, ◌&&◌}
use mathlib.Core.List.{List}
use Prim.Native.Nat.{ℕ, zero, suc, ◌+◌, ◌*◌, ◌≤◌, ◌<◌}
use native.Mathlib.Nat.{zero-mul, zero-add}
use native.Mathlib.Decide.{dec_lt}
use native.Mathlib.Omega.{arith}
use lib.Dec.{ltb}
use lib.Ieee.{Float, nan}
use lib.ListN.{get_or, drop}
use lib.Seq.{get_or-take, get_or-drop}
use borrow.Author.Tests.{lt-ltb, le-ltb}
use Rattle.scope.specs.Limits.{side_limit}
use Rattle.scope.specs.Terrain.{Sheet, above_at, sheet, terrain}
use Rattle.laws.proofs.Edges.{Outside}
use Rattle.words.proofs.Packing.{packed_alike}
use Rattle.words.proofs.Laws.{none-packed}
use Rattle.scan.specs.Rows.{word_from, Kept}
use Rattle.scan.proofs.Samples.{terrain-outside}
use Rattle.scope.specs.declared.Level.{Level}
use Rattle.rows.specs.Called.{words_from, row_words, no_words}
use Rattle.rows.specs.Turns.{values_of_row}
use Rattle.rows.proofs.Samples.{words_count, word-there}

word-past : (B : Sheet) (t w n i : ℕ) → n ≤ i → get_or (words_from B t w n) i 0 ≡ 0
unfolding words_from
word-past B t w zero i h = refl
word-past B t w (suc n) zero h = absurd (omega arith)
word-past B t w (suc n) (suc i) h = word-past B t (suc w) n i (omega arith)

-- sixty-five words of a row that agrees with row s of a sheet
kept_by : (A B : Sheet) (dx s t : ℕ) → dx ≤ side_limit → ((x : ℕ) → dx < x → A x s ≡ false) → ((x : ℕ) → B (suc x) t ≡ A (suc x) s) → Kept A s (words_from B t 0 65)
unfolding word_from side_limit
kept_by A B dx s t narrow outside same = record { row-size = words_count B t 0 65; kept = λ w. by w (dec_lt w 65) }
  where
    by : (w : ℕ) → Dec (w < 65) → get_or (words_from B t 0 65) w 0 ≡ word_from A s (64 * w)
    by w (yes h) =
        word-there B t 0 65 w h ∙ ap (λ (i : ℕ). word_from B t (64 * i)) (zero-add w)
        ∙ packed_alike (λ j. B (suc (64 * w + j)) t) (λ j. A (suc (64 * w + j)) s) 64 (λ j l. same (64 * w + j))
    by w (no h) =
        word-past B t 0 65 w (omega arith)
        ∙ sym (none-packed (λ j. A (suc (64 * w + j)) s) 64 (λ j. outside (suc (64 * w + j)) (omega arith)))

-- the outside above the grid, and below it
pub none_above : (A : Sheet) {dx dy : ℕ} → Outside A dx dy → dx ≤ side_limit → Kept A 0 no_words
unfolding no_words
none_above A {dx} out narrow = kept_by A (λ x y. false) dx 0 0 narrow (λ x h. out.no-column-after x 0 h) (λ x. sym (out.no-row-before (suc x)))

pub none_below : (A : Sheet) {dx dy : ℕ} → Outside A dx dy → dx ≤ side_limit → Kept A (suc dy) no_words
unfolding no_words
none_below A {dx} {dy} out narrow = kept_by A (λ x y. false) dx (suc dy) 0 narrow (λ x h. out.no-column-after x (suc dy) h) (λ x. sym (out.no-row-after (suc x) (suc dy) (omega arith)))

-- row r of a grid's values
pub row_kept : (level : Level) (values : List Float) (dx dy r : ℕ) → dx ≤ side_limit → r < dy
    → Kept (terrain (above_at level) values dx dy) (suc r) (row_words level (values_of_row values dx r) dx)
unfolding row_words
row_kept level values dx dy r narrow hr =
    kept_by (terrain rule values dx dy) (terrain rule (values_of_row values dx r) dx 1) dx (suc r) 1 narrow
    (λ x h. (terrain-outside rule values dx dy).no-column-after x (suc r) h) same
  where
    rule : Float → Bool
    rule = above_at level

    same : (x : ℕ) → terrain rule (values_of_row values dx r) dx 1 (suc x) 1 ≡ terrain rule values dx dy (suc x) (suc r)
    same x = unfold terrain sheet in by (dec_lt x dx)
      where
        by : Dec (x < dx) → ltb x dx && ltb 0 1 && rule (get_or (values_of_row values dx r) (0 * dx + x) nan) ≡ ltb x dx && ltb r dy && rule (get_or values (r * dx + x) nan)
        by (yes h) =
            rw (lt-ltb x dx h, lt-ltb r dy hr)
            (ap rule (ap (λ (i : ℕ). get_or (values_of_row values dx r) i nan) (omega (arith, zero-mul dx)) ∙ there))
          where
            there : get_or (values_of_row values dx r) x nan ≡ get_or values (r * dx + x) nan
            there = unfold values_of_row in get_or-take dx (drop (r * dx) values) x nan h ∙ get_or-drop (r * dx) values x nan
        by (no h) = rw (le-ltb x dx (omega arith)) refl
