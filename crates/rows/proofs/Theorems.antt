-- Document 02's first request, for every grid and every way in which the rooms vary from call to call: each call is decided exactly as it says, is taken whole or
-- refused whole, and all calls together give the rings of the whole grid. Assumes nothing.
use mathlib.Core.Path.{◌≡◌, refl, sym, ◌∙◌, ap, subst}
use mathlib.Core.Bool.{false}
use mathlib.Core.List.{List, [], ◌++◌}
use Prim.Native.Nat.{ℕ, zero, suc, ◌+◌, ◌*◌, ◌/◌, ◌≤◌, ◌<◌}
use native.Mathlib.Nat.{suc-mul, mul_comm, mul-le-mul_right}
use native.Mathlib.Decide.{dec_lt}
use native.Mathlib.Omega.{arith}
use lib.Ieee.{Float}
use lib.ListN.{length, drop, length-take, length-drop}
use borrow.Author.Tests.{lt-ltb, le-ltb, eq-eqb, ne_eqb}
use Rattle.error.specs.declared.Refusal.{Refusal}
use Rattle.error.specs.declared.Refusal.TheVariants.{BadRow, BadTurn}
use Rattle.scope.specs.Limits.{side_limit}
use Rattle.scope.specs.Terrain.{Sheet, above_at, terrain}
use Rattle.scope.specs.Room.{open_words, link_words}
use Rattle.scope.specs.Stitching.{Drawing}
use Rattle.scope.specs.Drawing.{drawing_after, open_after, peak}
use Rattle.scope.specs.Tables.{zeroed, written, packed_points, bare_records}
use Rattle.laws.proofs.Edges.{Outside}
use Rattle.laws.proofs.Peak.{peak-is-reached}
use Rattle.laws.proofs.Laws.{the-peak-is-low, open-lines-are-no-more, no-line-is-left}
use Rattle.grid.specs.Grid.{bad_side}
use Rattle.scan.proofs.Samples.{terrain-outside}
use Rattle.packing.specs.Cleared.{cleared}
use Rattle.packing.proofs.Laws.{cleared-is-zeroed}
use Rattle.scope.specs.declared.Level.{Level}
use Rattle.isoringbuilder.specs.Verdict.{Verdict, refused, passes}
use Rattle.giving.proofs.Most.{most-is-no-less}
use Rattle.rows.specs.Called.{Outcome, no_words, row_words, blank, begun_state, refused_by, advanced, row_called, zeroed_by, end_called}
use Rattle.rows.specs.Turns.{call_peak, call_rings, call_verdict, peak_to, held_to, values_of_row, Taken, none, one_more}
use Rattle.rows.specs.declared.Rows.{Rows}
use Rattle.rows.proofs.GridRows.{none_above, none_below, row_kept}
use Rattle.rows.proofs.Standing.{Standing, standing-begins, standing-longer}
use Rattle.rows.proofs.Together.{row-over}
use Rattle.rows.proofs.Call.{drop-further, peak-most, most-below}
use Rattle.rows.proofs.Turn.{Gives, Decided, verdict, advance-decided}
use Rattle.std.specs.Prelude.{Result, Ok, Err}

-- an answer is not both
unlike : (why : Refusal) (n : ℕ) → Err why ≡ Ok n → ⊥
unlike why n e = omega (arith, ap which e)
  where
    which : Result ℕ Refusal → ℕ
    which (Err why) = 0
    which (Ok n) = 1

-- an end that is taken: the last rings are given out, no line is open, and the words that the calls have used are 0
pub record Ends (A : Sheet) (dx dy : ℕ) (lines links points directory : List ℕ) (o : Outcome) : Type 0 where
  pub answers : o.answer ≡ Ok (length (call_rings A dx dy))
  pub is-over : o.state.drawn ≡ suc dy
  pub none_open : o.state.count ≡ 0
  pub points-are : o.points ≡ written (packed_points (call_rings A dx dy)) points
  pub directory-is : o.directory ≡ written (bare_records 0 0 (call_rings A dx dy)) directory
  pub lines_are : o.lines ≡ zeroed (open_words dx (peak_to A dx (suc dy))) lines
  pub links-are : o.links ≡ zeroed (link_words (held_to A dx (suc dy))) links

abbrev pub Ended : Sheet → ℕ → ℕ → Rows → List ℕ → List ℕ → List ℕ → List ℕ → Verdict → Outcome → Type 0
Ended A dx dy s lines links points directory (refused why) o = o ≡ refused_by s lines links points directory why
Ended A dx dy s lines links points directory passes o = Ends A dx dy lines links points directory o

-- ---- the most lines and segments of all calls

module _ (A : Sheet) (dx : ℕ) where
  call-within : (n r : ℕ) → r < n → call_peak A dx r ≤ peak_to A dx n
  call-within zero r h = absurd (omega arith)
  call-within (suc n) r h = by (dec_lt r n) (λ less. call-within n r less)
    where
      by : Dec (r < n) → (r < n → call_peak A dx r ≤ peak_to A dx n) → call_peak A dx r ≤ peak_to A dx (suc n)
      by (yes less) before = unfold peak_to in omega (arith, before less)
      by (no more) before = unfold peak_to in omega (arith, ap (call_peak A dx) same)
        where
          same : r ≡ n
          same = omega arith

  peak-within : (n b : ℕ) → ((r : ℕ) → r < n → call_peak A dx r ≤ b) → peak_to A dx n ≤ b
  unfolding peak_to
  peak-within zero b low = omega arith
  peak-within (suc n) b low = omega (arith, peak-within n b (λ r h. low r (omega arith)), low n (omega arith))

module _ (A : Sheet) {dx dy : ℕ} (out : Outside A dx dy) where
  pub call-peak-is-low : (r : ℕ) → r ≤ dy → call_peak A dx r ≤ peak A dx dy
  call-peak-is-low r hr =
      omega (arith, peak-most A dx r, most-below A dx r length (suc (peak A dx dy)) (omega arith) (suc dx) (λ c hc. omega (arith, open-lines-are-no-more A out r (suc c) hr (omega arith))))

  -- of all calls the most open lines are document 01's H
  pub the-peak-of-all-calls : peak_to A dx (suc dy) ≡ peak A dx dy
  the-peak-of-all-calls =
      let reached = peak-is-reached A dx dy in
      omega (
        arith,
        peak-within A dx (suc dy) (peak A dx dy) (λ r h. call-peak-is-low r (omega arith)),
        reached.4,
        peak-most A dx reached.0,
        most-is-no-less length A dx reached.0 (suc dx) reached.1 (omega (arith, reached.3)),
        call-within A dx (suc dy) reached.0 (omega (arith, reached.2)),
      )

  -- number 5 is never drawn by a table of dx + 2 words and four for each of (dx + 2) / 2 lines
  pub that-many-words-are-enough : (r n : ℕ) → r ≤ dy → dx + 2 + 4 * ((dx + 2) / 2) ≤ n → open_words dx (call_peak A dx r) ≤ n
  unfolding open_words
  that-many-words-are-enough r n hr long = omega (arith, call-peak-is-low r hr, the-peak-is-low A out)

module _ (values : List Float) (level : Level) (dx dy : ℕ) (some-columns : 1 ≤ dx) (columns : dx ≤ side_limit) (some-rows : 1 ≤ dy) (rows : dy ≤ side_limit) (filled : length values ≡ dx * dy) where
  abbrev A : Sheet
  A = terrain (above_at level) values dx dy

  out : Outside A dx dy
  out = terrain-outside (above_at level) values dx dy

  sides-fit : bad_side dx dy ≡ false
  unfolding bad_side
  sides-fit = rw (ne_eqb dx 0 (λ e. omega arith), le-ltb side_limit dx columns, ne_eqb dy 0 (λ e. omega arith), le-ltb side_limit dy rows) refl

  row-long : (r : ℕ) → r < dy → length (values_of_row values dx r) ≡ dx
  unfolding values_of_row
  row-long r hr =
      omega (arith, length-take dx (drop (r * dx) values), length-drop (r * dx) values, filled, mul-le-mul_right dx hr, suc-mul r dx, mul_comm dx dy)

  -- ---- the calls over a state that stands
  module _ (r : ℕ) (s : Rows) (lines links : List ℕ) (now : Standing A level dx dy r s lines links) where
    dx-is : s.dx ≡ dx
    dx-is = ap (λ (x : Rows). x.dx) now.is

    dy-is : s.dy ≡ dy
    dy-is = ap (λ (x : Rows). x.dy) now.is

    drawn-is : s.drawn ≡ r
    drawn-is = ap (λ (x : Rows). x.drawn) now.is

    level-is : s.level ≡ level
    level-is = ap (λ (x : Rows). x.level) now.is

    row-advances : r < dy → (points directory : List ℕ) → row_called s (values_of_row values dx r) lines links points directory ≡ advanced s (row_words level (values_of_row values dx r) dx) lines links points directory
    unfolding row_called
    row-advances hr points directory =
        rw (dx-is, dy-is, drawn-is, level-is, eq-eqb (length (values_of_row values dx r)) dx (row-long r hr), sides-fit, lt-ltb r dy hr) refl

    -- a row of the grid
    pub row-decided : r < dy → (points directory : List ℕ)
        → Decided A level dx dy r s lines links points directory (verdict A level dx dy r s lines links points directory) (row_called s (values_of_row values dx r) lines links points directory)
    row-decided hr points directory =
        subst (Decided A level dx dy r s lines links points directory (verdict A level dx dy r s lines links points directory)) (sym (row-advances hr points directory))
        (advance-decided A out columns rows level r (omega arith) s lines links now (row_words level (values_of_row values dx r) dx) (row_kept level values dx dy r columns hr) points directory)

    -- number 13, ahead of everything else
    pub wrong-row-refused : (row : List Float) (points directory : List ℕ) → (length row ≡ dx → ⊥) → row_called s row lines links points directory ≡ refused_by s lines links points directory BadRow
    unfolding row_called
    wrong-row-refused row points directory ne = rw (dx-is, ne_eqb (length row) dx ne) refl

    -- number 14 for a row after the last
    pub row-after-the-last-refused : (row : List Float) (points directory : List ℕ) → length row ≡ dx → dy ≤ r → row_called s row lines links points directory ≡ refused_by s lines links points directory BadTurn
    unfolding row_called
    row-after-the-last-refused row points directory long late = rw (dx-is, dy-is, drawn-is, eq-eqb (length row) dx long, sides-fit, le-ltb r dy late) refl

    -- and for an end before the last row, or a second one
    pub end-out-of-turn-refused : (points directory : List ℕ) → (r ≡ dy → ⊥) → end_called s lines links points directory ≡ refused_by s lines links points directory BadTurn
    unfolding end_called
    end-out-of-turn-refused points directory ne = rw (dx-is, dy-is, drawn-is, sides-fit, ne_eqb r dy ne) refl

    end-advances : r ≡ dy → (points directory : List ℕ)
        → end_called s lines links points directory ≡ zeroed_by (advanced s no_words lines links points directory) (advanced s no_words lines links points directory).answer
    unfolding end_called
    end-advances last points directory = rw (dx-is, dy-is, drawn-is, sides-fit, eq-eqb r dy last) refl

  -- ---- the calls one after the other
  pub taken-stands : (r : ℕ) (s : Rows) (lines links : List ℕ) → Taken values level dx dy r s lines links → r ≤ dy → Standing A level dx dy r s lines links
  taken-stands _ _ _ _ (none lines links) hr =
      subst (λ (s : Rows). Standing A level dx dy 0 s lines links) (sym begun) (standing-begins A level dx dy (none_above A out columns) lines links)
    where
      begun : begun_state level dx dy ≡ record { level = level; dx = dx; dy = dy; drawn = 0; count = 0; peak = 0; spare = 0; fresh = 0; held = 0; above = no_words }
      begun = unfold begun_state blank in rw sides-fit refl
  taken-stands _ _ _ _ (one_more r s lines links more more' points directory n before answered) hr =
      next (verdict A level dx dy r s (lines ++ more) (links ++ more') points directory)
      (row-decided r s (lines ++ more) (links ++ more') (standing-longer A out level r s lines links more more' (taken-stands r s lines links before (omega arith))) (omega arith) points directory)
    where
      next : (v : Verdict) → Decided A level dx dy r s (lines ++ more) (links ++ more') points directory v (row_called s (values_of_row values dx r) (lines ++ more) (links ++ more') points directory)
          → Standing A level dx dy (suc r) (row_called s (values_of_row values dx r) (lines ++ more) (links ++ more') points directory).state
          (row_called s (values_of_row values dx r) (lines ++ more) (links ++ more') points directory).lines
          (row_called s (values_of_row values dx r) (lines ++ more) (links ++ more') points directory).links
      next (refused why) same = absurd (unlike why n (sym (ap (λ (o : Outcome). o.answer) same ∙ unfold refused_by in refl) ∙ answered))
      next passes gives = gives.stands-next

  -- an end that is refused, and one that is taken
  zeroed-refused : (s : Rows) (lines links points directory : List ℕ) (why : Refusal)
      → zeroed_by (refused_by s lines links points directory why) (refused_by s lines links points directory why).answer ≡ refused_by s lines links points directory why
  unfolding zeroed_by refused_by
  zeroed-refused s lines links points directory why = refl

  -- the outcome with the words that the calls have used at 0
  abbrev all_zero : Outcome → Outcome
  all_zero o = record {
    state = o.state;
    answer = o.answer;
    lines = cleared o.lines (open_words o.state.dx o.state.peak);
    links = cleared o.links (link_words o.state.fresh);
    points = o.points;
    directory = o.directory;
  }

  zeroed-rings : (o : Outcome) (n : ℕ) → zeroed_by o (Ok n) ≡ all_zero o
  unfolding zeroed_by
  zeroed-rings o n = refl

  zeroed-taken : (o : Outcome) (n : ℕ) → o.answer ≡ Ok n → zeroed_by o o.answer ≡ all_zero o
  zeroed-taken o n e = ap (zeroed_by o) e ∙ zeroed-rings o n

  ended_by : (lines links points directory : List ℕ) (o : Outcome) → Gives A level dx dy dy lines links points directory o → Ends A dx dy lines links points directory (zeroed_by o o.answer)
  ended_by lines links points directory o gives =
      subst (Ends A dx dy lines links points directory) (sym (zeroed-taken o (length (call_rings A dx dy)) gives.answers))
      (record {
        answers = gives.answers;
        is-over = ap (λ (x : Rows). x.drawn) next.is;
        none_open = ap (λ (x : Rows). x.count) next.is ∙ next.holds.carried.held.count-is ∙ ap length none_left;
        points-are = gives.points-are;
        directory-is = gives.directory-is;
        lines_are =
            ap (λ (x : Rows). cleared o.lines (open_words x.dx x.peak)) next.is
            ∙ cleared-is-zeroed (open_words dx (peak_to A dx (suc dy))) lines o.lines (next.used-inside (omega arith)) (drop-further (open_words dx (call_peak A dx dy)) (open_words dx (peak_to A dx (suc dy))) o.lines lines raised gives.lines_stay);
        links-are =
            ap (λ (x : Rows). cleared o.links (link_words x.fresh)) next.is
            ∙ ap (λ (n : ℕ). cleared o.links (link_words n)) next.fresh-is
            ∙ cleared-is-zeroed (link_words (held_to A dx (suc dy))) links o.links (unfold link_words in omega (arith, next.links-inside, next.fresh-is)) gives.links-stay;
      })
    where
      next : Standing A level dx dy (suc dy) o.state o.lines o.links
      next = gives.stands-next

      none_left : (drawing_after A dx (suc dy) 0).lines ≡ []
      none_left = ap (λ (d : Drawing). d.lines) (row-over A dx dy) ∙ unfold open_after in no-line-is-left A out

      raised : open_words dx (call_peak A dx dy) ≤ open_words dx (peak_to A dx (suc dy))
      raised = unfold open_words in omega (arith, call-within A dx (suc dy) dy (omega arith))

  -- a call is handed tables that begin with the words that the call before it left
  module _ (r : ℕ) (s : Rows) (lines links : List ℕ) (before : Taken values level dx dy r s lines links) (more more' points directory : List ℕ) where
    -- a row: numbers 5 to 8 exactly, with everything as it was, or the rings that it closes
    pub every-row : r < dy
        → Decided A level dx dy r s (lines ++ more) (links ++ more') points directory (call_verdict A dx r (length (lines ++ more)) (length (links ++ more')) (length points) (length directory))
        (row_called s (values_of_row values dx r) (lines ++ more) (links ++ more') points directory)
    every-row hr =
        row-decided r s (lines ++ more) (links ++ more') (standing-longer A out level r s lines links more more' (taken-stands r s lines links before (omega arith))) hr points directory

    -- the end: the same, and afterwards no line is open and the words that the calls have used are 0
    pub the_end : r ≡ dy
        → Ended A dx dy s (lines ++ more) (links ++ more') points directory (call_verdict A dx dy (length (lines ++ more)) (length (links ++ more')) (length points) (length directory))
        (end_called s (lines ++ more) (links ++ more') points directory)
    the_end last = by-zeroed
      where
        standing : Standing A level dx dy r s (lines ++ more) (links ++ more')
        standing = standing-longer A out level r s lines links more more' (taken-stands r s lines links before (omega arith))

        at_last : Standing A level dx dy dy s (lines ++ more) (links ++ more')
        at_last = subst (λ (n : ℕ). Standing A level dx dy n s (lines ++ more) (links ++ more')) last standing

        o : Outcome
        o = advanced s no_words (lines ++ more) (links ++ more') points directory

        settled-by : (v : Verdict) → Decided A level dx dy dy s (lines ++ more) (links ++ more') points directory v o → Ended A dx dy s (lines ++ more) (links ++ more') points directory v (zeroed_by o o.answer)
        settled-by (refused why) same = ap (λ (x : Outcome). zeroed_by x x.answer) same ∙ zeroed-refused s (lines ++ more) (links ++ more') points directory why
        settled-by passes gives = ended_by (lines ++ more) (links ++ more') points directory o gives

        by-zeroed : Ended A dx dy s (lines ++ more) (links ++ more') points directory (call_verdict A dx dy (length (lines ++ more)) (length (links ++ more')) (length points) (length directory)) (end_called s (lines ++ more) (links ++ more') points directory)
        by-zeroed =
            subst (Ended A dx dy s (lines ++ more) (links ++ more') points directory (call_verdict A dx dy (length (lines ++ more)) (length (links ++ more')) (length points) (length directory)))
            (sym (end-advances r s (lines ++ more) (links ++ more') standing last points directory))
            (settled-by (call_verdict A dx dy (length (lines ++ more)) (length (links ++ more')) (length points) (length directory))
            (advance-decided A out columns rows level dy (omega arith) s (lines ++ more) (links ++ more') at_last no_words (none_below A out columns) points directory))
