-- One call where the state and the work tables stand: the trial counts what the call comes to, so it is refused exactly as document 02 says, with everything as it
-- was; and where it is taken, it gives out the rings that close in its row, and state and tables stand one row further. Assumes nothing.
use mathlib.Core.Path.{◌≡◌, refl, sym, ◌∙◌, ap, ap₂, subst}
use mathlib.Core.Bool.{Bool, true, false, cond, false≢true}
use mathlib.Core.List.{List, [], ◌∷◌}
use Prim.Native.Nat.{ℕ, zero, suc, ◌+◌, ◌-◌, ◌*◌, ◌/◌, ◌^◌, ◌≤◌, ◌<◌, max}
use native.Mathlib.Numerals.{add-one}
use native.Mathlib.Decide.{dec_lt}
use native.Mathlib.Omega.{arith}
use lib.Dec.{eqb, ltb}
use lib.ListN.{length, get_or, drop, length-drop}
use lib.Seq.{get_or-drop, drop-drop}
use borrow.Author.Tests.{lt-ltb, le-ltb, eq-eqb, ne_eqb}
use Rattle.scope.specs.Limits.{side_limit, record_stride}
use Rattle.scope.specs.Terrain.{Sheet}
use Rattle.scope.specs.Room.{open_words, link_words, directory_words}
use Rattle.scope.specs.Cells.{cell_number}
use Rattle.scope.specs.Stitching.{Line, Drawing}
use Rattle.scope.specs.Drawing.{segments_after, drawing_after, open_after, rings_after}
use Rattle.scope.specs.Tables.{written, packed_points, bare_records}
use Rattle.laws.proofs.Total.{total, total-append}
use Rattle.laws.proofs.Edges.{Outside}
use Rattle.laws.proofs.Sizes.{size, held_in, held-or-closed, lines-at-most}
use Rattle.laws.proofs.Borders.{first-cell-keeps-lines}
use Rattle.laws.proofs.LineWords.{Spread, spread-after}
use Rattle.laws.proofs.Stored.{stored-length, stored-drop}
use Rattle.scan.specs.Rows as scan
use Rattle.scan.proofs.Steps.{segments-are-few}
use Rattle.machine.proofs.Leaving.{all}
use Rattle.machine.proofs.Slotted.{Slotted, slotted, slotted-same}
use Rattle.packing.specs.Cleared.{cleared}
use Rattle.packing.proofs.Laws.{clearing-keeps-the-length, the-rest-stays}
use Rattle.sweep.specs.Sweep.{sample_in, between, row_cells}
use Rattle.sweep.proofs.Rows.{upper-kept, lower-kept}
use Rattle.scope.specs.declared.Level.{Level}
use Rattle.trying.specs.Notes.{frontier_noted}
use Rattle.trying.specs.Trying.{Tried, row_tried}
use Rattle.trying.specs.declared.Trial.{Trial}
use Rattle.trying.proofs.Kept.{highest}
use Rattle.trying.proofs.Notes.{Right}
use Rattle.trying.proofs.Rows.{CountedAfter, NotedAfter}
use Rattle.trying.proofs.Laws.{RowCounted, beginning, row-begins, row_is, row-tried-counts, first-row-tried-counts}
use Rattle.trying.proofs.Low.{Low, Same, same_row}
use Rattle.trying.proofs.Renoted.{note_by, frontier-noted, all_noted, found-again, frontier-low}
use Rattle.giving.specs.Giving.{Given}
use Rattle.giving.proofs.Most.{most_of, most-of-none, most-of-more, most-is-no-less, most-alike}
use Rattle.giving.proofs.Outputs.{points-written, records-written}
use Rattle.giving.proofs.RowHolds.{RowHolds}
use Rattle.giving.proofs.RowFiled.{none, columns-between-rows}
use Rattle.giving.proofs.RowCalls.{setting_of, resumed, resumed-holds, given-are, call-holds, call-follows}
use Rattle.rows.specs.Called.{trial_before, tried, lines_tried, filed, played, state_after, taken, lines_restored}
use Rattle.rows.specs.Turns.{segments_in, points_in, call_peak, call_held, call_rings, peak_to, held_to}
use Rattle.rows.specs.declared.Rows.{Rows}
use Rattle.rows.proofs.Together.{row-over, rings-since}
use Rattle.rows.proofs.Standing.{state_of, frontier_of, Standing}

-- ---- the measures of document 02 by the names that the laws have for them

segments-are : (ls : List Line) → segments_in ls ≡ held_in ls
unfolding segments_in held_in size total
segments-are [] = refl
segments-are (l ∷ ls) = omega (arith, segments-are ls)

points-are : (ls : List Line) → points_in ls ≡ total length ls
unfolding points_in total
points-are [] = refl
points-are (l ∷ ls) = omega (arith, points-are ls)

module _ (A : Sheet) (dx r : ℕ) where
  pub peak-most : call_peak A dx r ≡ most_of length A dx r (suc dx)
  unfolding call_peak most_of
  peak-most = refl

  held-segments : call_held A dx r ≡ most_of segments_in A dx r (suc dx)
  unfolding call_held most_of
  held-segments = refl

  pub held-most : call_held A dx r ≡ most_of held_in A dx r (suc dx)
  held-most = held-segments ∙ most-alike segments_in held_in A dx r segments-are (suc dx)

  highest-most : (w : List Line → ℕ) (n : ℕ) → highest (λ c. w (open_after A dx r (suc c))) n ≡ most_of w A dx r (suc n)
  unfolding highest
  highest-most w zero = omega (arith, most-of-more w A dx r 0, most-of-none w A dx r)
  highest-most w (suc n) = ap (λ (m : ℕ). max m (w (open_after A dx r (suc (suc n))))) (highest-most w n) ∙ sym (most-of-more w A dx r (suc n))

  pub most-below : (w : List Line → ℕ) (b : ℕ) → 0 < b → (n : ℕ) → ((c : ℕ) → c < n → w (open_after A dx r (suc c)) < b) → most_of w A dx r n < b
  most-below w b some zero small = omega (arith, most-of-none w A dx r)
  most-below w b some (suc n) small = omega (arith, most-of-more w A dx r n, most-below w b some n (λ c h. small c (omega arith)), small n (omega arith))

-- a table of n words has no room for k records where it holds fewer whole ones
pub room-for-records : (n k : ℕ) → ltb (n / record_stride) k ≡ ltb n (directory_words k)
unfolding directory_words record_stride
room-for-records n k = by (dec_lt (n / 6) k)
  where
    by : Dec (n / 6 < k) → ltb (n / 6) k ≡ ltb n (6 * k)
    by (yes h) = lt-ltb (n / 6) k h ∙ sym (lt-ltb n (6 * k) (omega arith))
    by (no h) = le-ltb (n / 6) k (omega arith) ∙ sym (le-ltb n (6 * k) (omega arith))

-- equal behind a place, and so behind a later one
pub drop-further : (n m : ℕ) (xs ys : List ℕ) → n ≤ m → drop n xs ≡ drop n ys → drop m xs ≡ drop m ys
drop-further n m xs ys h e =
    let place : n + (m - n) ≡ m = omega arith in
    ap (λ (k : ℕ). drop k xs) (sym place) ∙ sym (drop-drop (m - n) n xs) ∙ ap (drop (m - n)) e ∙ drop-drop (m - n) n ys ∙ ap (λ (k : ℕ). drop k ys) place

-- the words for the most lines so far
used-so-far : (A : Sheet) (dx r n : ℕ) → (0 < r → open_words dx (peak_to A dx r) ≤ n) → dx + 2 ≤ n → open_words dx (peak_to A dx r) ≤ n
used-so-far A dx zero n used long = unfold open_words peak_to in omega arith
used-so-far A dx (suc r) n used long = used (omega arith)

-- ---- the trial

module _ (A : Sheet) {dx dy : ℕ} (out : Outside A dx dy) (columns : dx ≤ side_limit) (rows : dy ≤ side_limit) (level : Level) where
  narrow : dx + 2 ≤ 2 ^ 17
  unfolding side_limit
  narrow = omega arith

  module _ (r : ℕ) (hr : r ≤ dy) (upper lower : List ℕ) (above : scan.Kept A r upper) (below : scan.Kept A (suc r) lower) where
    upper_is : (x : ℕ) → x < row_cells dx → sample_in upper x ≡ A (suc x) r
    unfolding between
    upper_is x h = upper-kept A {lower = lower} out above below (suc x)

    lower-is : (x : ℕ) → x < row_cells dx → sample_in lower x ≡ A (suc x) (suc r)
    unfolding between
    lower-is x h = lower-kept A {upper = upper} out above below (suc x)

  -- a trial that begins with the counts of the row's start
  begun : (r : ℕ) (t : Trial) → t ≡ beginning (length (open_after A dx r 0)) (held_in (open_after A dx r 0)) → CountedAfter A dx r 0 t
  begun r t e = subst (CountedAfter A dx r 0) (sym e) (row-begins A dx r)

  row_small : (r : ℕ) → r ≤ dy → r ≤ side_limit
  row_small r hr = omega arith

  -- over the words that it is played over
  counted : (r : ℕ) → r ≤ dy → (upper lower lines : List ℕ) → scan.Kept A r upper → scan.Kept A (suc r) lower → (t : Trial)
      → t ≡ beginning (length (open_after A dx r 0)) (held_in (open_after A dx r 0)) → (0 < r → NotedAfter A dx r 0 lines)
      → RowCounted A dx r (row_tried upper lower dx (record { words = cond (eqb r 0) (0 ∷ []) lines; trial = t })).trial
  counted zero hr upper lower lines above below t e known =
      first-row-tried-counts A out upper lower (upper_is 0 hr upper lower above below) (lower-is 0 hr upper lower above below) columns (record { words = 0 ∷ []; trial = t }) (begun 0 t e)
  counted (suc r) hr upper lower lines above below t e known =
      subst (λ (b : Bool). RowCounted A dx (suc r) (row_tried upper lower dx (record { words = cond b (0 ∷ []) lines; trial = t })).trial) (sym (ne_eqb (suc r) 0 (λ z. omega arith)))
      (row-tried-counts A out (suc r) upper lower (upper_is (suc r) hr upper lower above below) (lower-is (suc r) hr upper lower above below) columns (row_small (suc r) hr)
      (record { words = lines; trial = t }) (begun (suc r) t e) (known (omega arith)))

  -- what it leaves of the open table
  trial-keeps : (r : ℕ) → r ≤ dy → (upper lower lines : List ℕ) → scan.Kept A r upper → scan.Kept A (suc r) lower → (t : Trial) → Low dx lines
      → Same dx lines (row_tried upper lower dx (record { words = lines; trial = t })).words
  trial-keeps r hr upper lower lines above below t low =
      subst (λ (x : Tried). Same dx lines x.words) (sym (row_is A out r upper lower (upper_is r hr upper lower above below) (lower-is r hr upper lower above below) (record { words = lines; trial = t })))
      (same_row dx narrow (λ c. cell_number A c r) (record { words = lines; trial = t }) low (suc dx) (omega arith))

  -- ---- a call over a state and tables that stand
  module _ (r : ℕ) (hr : r ≤ dy) (s : Rows) (lines links : List ℕ) (now : Standing A level dx dy r s lines links) (lower : List ℕ) (below : scan.Kept A (suc r) lower) (points directory : List ℕ) where
    abbrev ls : List Line
    ls = (drawing_after A dx r 0).lines

    abbrev g : Given
    g = now.g

    -- the state as it is
    abbrev t : Rows
    t = state_of level dx dy r (peak_to A dx r) g now.above

    abbrev trial : Trial
    trial = (tried t lower lines).trial

    pub lines-counted : g.play.count ≡ length ls
    lines-counted = now.holds.carried.held.count-is

    spread : Spread dx ls
    spread = spread-after A out r 0 (omega arith)

    -- the machine over tables of the caller's, where these have room for the lines so far
    abbrev here : List ℕ → Given
    here table = resumed g table links points directory

    machine-here : (table : List ℕ) (h room : ℕ) → ((w : ℕ) → dx + 2 ≤ w → get_or table w 0 ≡ get_or lines w 0) → dx + 2 + 4 * h ≤ length table → 2 * room ≤ length links → g.play.fresh ≤ room
        → RowHolds (setting_of dx dy h room (drawing_after A dx r 0).rings (here table)) none (drawing_after A dx r 0) (here table)
    machine-here table h room same long wide fits =
        resumed-holds _ _ (drawing_after A dx r 0) g now.holds h room table links points directory (λ j low high. same j low ∙ now.slots_same j low high) now.links-same long wide fits

    slots-here : 0 < r → Slotted dx lines links ls
    slots-here some =
        let held = machine-here lines (length ls) g.play.fresh (λ w h. refl) (now.lines-inside some) now.links-inside (omega arith) in
        slotted dx lines links held.carried.chains ls (columns-between-rows A out r) held.carried.held.lines-held held.sized

    low-here : 0 < r → Low dx lines
    low-here some = subst (Low dx) (sym (now.noted some)) (frontier-low dx narrow ls spread.apt lines)

    all_here : 0 < r → (i : ℕ) → i < length ls → Right dx lines (get_or ls i [])
    all_here some i hi =
        subst (λ (words : List ℕ). Right dx words (get_or ls i [])) (sym (now.noted some))
        (all_noted dx ls spread (cleared lines (dx + 2)) (omega (arith, now.lines-inside some, clearing-keeps-the-length lines (dx + 2))) i hi)

    noted_here : 0 < r → NotedAfter A dx r 0 lines
    noted_here some = record { long = omega (arith, now.lines-inside some); noted = unfold drawing_after in all_here some }

    -- ---- what the trial has counted
    trial-begins : trial_before t ≡ beginning (length (open_after A dx r 0)) (held_in (open_after A dx r 0))
    unfolding trial_before open_after
    trial-begins = ap₂ beginning lines-counted now.holds.held-is

    trial-counted : RowCounted A dx r trial
    unfolding tried
    trial-counted = counted r hr now.above lower lines now.sampled below (trial_before t) trial-begins noted_here

    pub peak-is : trial.peak ≡ call_peak A dx r
    peak-is = trial-counted.peak-is ∙ highest-most A dx r length dx ∙ sym (peak-most A dx r)

    pub most-is : trial.most ≡ call_held A dx r
    most-is = trial-counted.most-is ∙ highest-most A dx r held_in dx ∙ sym (held-most A dx r)

    pub rings-is : trial.rings ≡ length (call_rings A dx r)
    unfolding call_rings
    rings-is = omega (arith, trial-counted.rings-are, length-drop (length (rings_after A dx r 0)) (rings_after A dx r (suc dx)))

    pub points-is : trial.points ≡ points_in (call_rings A dx r)
    unfolding call_rings
    points-is =
        omega (
          arith,
          trial-counted.points-are,
          points-are (drop (length (rings_after A dx r 0)) (rings_after A dx r (suc dx))),
          ap (total length) (rings-since A dx r (suc dx)),
          total-append length (rings_after A dx r 0) (drop (length (rings_after A dx r 0)) (rings_after A dx r (suc dx))),
        )

    -- ---- the frontier behind the trial
    by-drop : (n : ℕ) (xs ys : List ℕ) → drop n xs ≡ drop n ys → (w : ℕ) → n ≤ w → get_or xs w 0 ≡ get_or ys w 0
    by-drop n xs ys e w h =
        let place : n + (w - n) ≡ w = omega arith in
        ap (λ (k : ℕ). get_or xs k 0) (sym place) ∙ sym (get_or-drop n xs (w - n) 0) ∙ ap (λ (l : List ℕ). get_or l (w - n) 0) e ∙ get_or-drop n ys (w - n) 0 ∙ ap (λ (k : ℕ). get_or ys k 0) place

    some-rows : eqb r 0 ≡ false → 0 < r
    some-rows e = by (dec_lt 0 r)
      where
        by : Dec (0 < r) → 0 < r
        by (yes h) = h
        by (no h) = absurd (false≢true (sym e ∙ eq-eqb r 0 (omega arith)))

    keeps : eqb r 0 ≡ false → Same dx lines (tried t lower lines).words
    unfolding tried
    keeps e =
        subst (λ (b : Bool). Same dx lines (row_tried now.above lower dx (record { words = cond b (0 ∷ []) lines; trial = trial_before t })).words) (sym e)
        (trial-keeps r hr now.above lower lines now.sampled below (trial_before t) (low-here (some-rows e)))

    found : eqb r 0 ≡ false → frontier_noted dx links (tried t lower lines).words g.play.count ≡ lines
    found e =
        let k = keeps e in
        ap (frontier_noted dx links (tried t lower lines).words) lines-counted
        ∙ frontier-noted dx links ls spread.apt (tried t lower lines).words
        (slotted-same dx lines (tried t lower lines).words (by-drop (dx + 2) (tried t lower lines).words lines k.past) links ls (slots-here (some-rows e)))
        ∙ found-again dx ls lines (tried t lower lines).words k.long k.past
        ∙ sym (now.noted (some-rows e))

    pub restored : lines_restored dx r g.play.count links (lines_tried t lower lines) ≡ lines
    unfolding lines_restored lines_tried
    restored = by (eqb r 0) refl
      where
        by : (b : Bool) → eqb r 0 ≡ b
            → cond (eqb r 0) (cond (eqb r 0) lines (tried t lower lines).words) (frontier_noted dx links (cond (eqb r 0) lines (tried t lower lines).words) g.play.count) ≡ lines
        by true e = rw e refl
        by false e = rw e (found e)

    -- the open table as the trial leaves it
    abbrev table : List ℕ
    table = lines_tried t lower lines

    table-long : length table ≡ length lines
    unfolding lines_tried
    table-long = by (eqb r 0) refl
      where
        by : (b : Bool) → eqb r 0 ≡ b → length (cond (eqb r 0) lines (tried t lower lines).words) ≡ length lines
        by true e = rw e refl
        by false e = rw e (keeps e).long

    table-drop : drop (dx + 2) table ≡ drop (dx + 2) lines
    unfolding lines_tried
    table-drop = by (eqb r 0) refl
      where
        by : (b : Bool) → eqb r 0 ≡ b → drop (dx + 2) (cond (eqb r 0) lines (tried t lower lines).words) ≡ drop (dx + 2) lines
        by true e = rw e refl
        by false e = rw e (keeps e).past

    table-past : (w : ℕ) → dx + 2 ≤ w → get_or table w 0 ≡ get_or lines w 0
    table-past = by-drop (dx + 2) table lines table-drop

    -- ---- the call is taken
    few-segments : (c : ℕ) → c ≤ suc dx → length (segments_after A dx r c) < 2 ^ 30
    unfolding side_limit
    few-segments c hc = omega (arith, segments-are-few A out side_limit r c columns (row_small r hr) hc)

    held_small : (c : ℕ) → c ≤ suc dx → held_in (open_after A dx r c) < 2 ^ 30
    unfolding open_after drawing_after
    held_small c hc = omega (arith, few-segments c hc, held-or-closed (segments_after A dx r c))

    lines-small : (c : ℕ) → c ≤ suc dx → length (open_after A dx r c) < 2 ^ 30
    unfolding open_after drawing_after
    lines-small c hc = omega (arith, few-segments c hc, lines-at-most (segments_after A dx r c))

    module _ (open-fits : open_words dx (call_peak A dx r) ≤ length lines) (links-fit : link_words (call_held A dx r) ≤ length links)
        (points-fit : 2 * points_in (call_rings A dx r) ≤ length points) (directory-fits : directory_words (length (call_rings A dx r)) ≤ length directory) where
      abbrev h : ℕ
      h = call_peak A dx r

      abbrev room : ℕ
      room = max g.play.fresh (call_held A dx r)

      h-small : h < 2 ^ 30
      h-small = rw (peak-most A dx r) (most-below A dx r length (2 ^ 30) (omega arith) (suc dx) (λ c hc. lines-small (suc c) (omega arith)))

      held-most-small : call_held A dx r < 2 ^ 30
      held-most-small = rw (held-most A dx r) (most-below A dx r held_in (2 ^ 30) (omega arith) (suc dx) (λ c hc. held_small (suc c) (omega arith)))

      begun-here : RowHolds (setting_of dx dy h room (drawing_after A dx r 0).rings (here table)) none (drawing_after A dx r 0) (here table)
      begun-here = machine-here table h room table-past (unfold open_words in omega (arith, open-fits, table-long)) (unfold link_words in omega (arith, links-fit, now.links-inside)) (omega arith)

      -- what the row machine leaves
      abbrev g' : Given
      g' = played t lower table links points directory

      lines_fit : (c : ℕ) → c ≤ suc dx → length (open_after A dx r c) ≤ h
      lines_fit zero hc = omega (arith, first-cell-keeps-lines A out r, peak-most A dx r, most-is-no-less length A dx r (suc dx) 0 (omega arith))
      lines_fit (suc c) hc = omega (arith, peak-most A dx r, most-is-no-less length A dx r (suc dx) c (omega arith))

      holds' : RowHolds (setting_of dx dy h room (drawing_after A dx r 0).rings (here table)) all (drawing_after A dx (suc r) 0) g'
      unfolding played filed
      holds' =
          call-holds (setting_of dx dy h room (drawing_after A dx r 0).rings (here table)) columns rows (omega (arith, h-small)) (omega (arith, held-most-small, now.fresh-small)) A out r hr none (here table) begun-here
          lines_fit
          (λ c hc. omega (arith, held-most A dx r, most-is-no-less held_in A dx r (suc dx) c (omega arith)))
          now.sampled below

      follows : g'.play.fresh ≡ max g.play.fresh (call_held A dx r)
      unfolding played filed
      follows =
          call-follows (setting_of dx dy h room (drawing_after A dx r 0).rings (here table)) columns rows (omega (arith, h-small)) (omega (arith, held-most-small, now.fresh-small)) A out r hr none (here table) begun-here
          lines_fit
          (λ c hc. omega (arith, held-most A dx r, most-is-no-less held_in A dx r (suc dx) c (omega arith)))
          now.sampled below
          ∙ ap (max g.play.fresh) (sym (held-most A dx r))

      abbrev ls' : List Line
      ls' = (drawing_after A dx (suc r) 0).lines

      spread' : Spread dx ls'
      spread' = spread-after A out (suc r) 0 (omega arith)

      -- the frontier noted anew
      abbrev lines' : List ℕ
      lines' = frontier_noted dx g'.links g'.lines g'.play.count

      lines_are : lines' ≡ frontier_of dx ls' g'.lines
      lines_are =
          ap (frontier_noted dx g'.links g'.lines) holds'.carried.held.count-is
          ∙ frontier-noted dx g'.links ls' spread'.apt g'.lines
          (slotted dx g'.lines g'.links holds'.carried.chains ls' (columns-between-rows A out (suc r)) holds'.carried.held.lines-held holds'.sized)

      lines_long : length lines' ≡ length g'.lines
      lines_long = ap length lines_are ∙ stored-length dx (note_by dx ls') ls' (cleared g'.lines (dx + 2)) (length ls') ∙ clearing-keeps-the-length g'.lines (dx + 2)

      lines-drop : drop (dx + 2) lines' ≡ drop (dx + 2) g'.lines
      lines-drop = ap (drop (dx + 2)) lines_are ∙ stored-drop dx (note_by dx ls') ls' spread'.apt (cleared g'.lines (dx + 2)) (length ls') (omega arith) ∙ the-rest-stays g'.lines (dx + 2)

      -- words past the need stay
      lines-kept : drop (dx + 2 + 4 * h) g'.lines ≡ drop (dx + 2 + 4 * h) table
      lines-kept = holds'.carried.lines-past

      same-long : length g'.lines ≡ length lines
      same-long =
          unfold open_words in
          omega (
            arith,
            open-fits,
            table-long,
            holds'.carried.lines_long,
            ap length lines-kept,
            length-drop (dx + 2 + 4 * h) g'.lines,
            length-drop (dx + 2 + 4 * h) table,
          )

      pub lines-past : drop (open_words dx (call_peak A dx r)) lines' ≡ drop (open_words dx (call_peak A dx r)) lines
      unfolding open_words
      lines-past =
          let place : dx + 2 + 4 * h ≡ 4 * h + dx + 2 = omega arith in
          ap (λ (n : ℕ). drop n lines') (sym place)
          ∙ drop-further (dx + 2) (dx + 2 + 4 * h) lines' g'.lines (omega arith) lines-drop
          ∙ lines-kept
          ∙ drop-further (dx + 2) (dx + 2 + 4 * h) table lines (omega arith) table-drop
          ∙ ap (λ (n : ℕ). drop n lines) place

      pub links-past : drop (link_words (held_to A dx (suc r))) g'.links ≡ drop (link_words (held_to A dx (suc r))) links
      unfolding link_words held_to
      links-past =
          subst (λ (n : ℕ). drop (2 * max n (call_held A dx r)) g'.links ≡ drop (2 * max n (call_held A dx r)) links) now.fresh-is holds'.carried.links-past

      open-after : length ls' ≤ h
      open-after = omega (arith, ap (λ (d : Drawing). length d.lines) (row-over A dx r), peak-most A dx r, last)
        where
          last : length (drawing_after A dx r (suc dx)).lines ≤ most_of length A dx r (suc dx)
          last = unfold open_after in most-is-no-less length A dx r (suc dx) dx (omega arith)

      used-after : open_words dx (peak_to A dx (suc r)) ≤ length lines'
      unfolding open_words peak_to
      used-after = omega (arith, lines_long, same-long, open-fits, used-so-far A dx r (length lines) now.used-inside (omega (arith, open-fits)))

      pub stands : Standing A level dx dy (suc r) (taken t lower table links points directory trial.peak (length (call_rings A dx r))).state lines' g'.links
      unfolding taken state_after
      stands = record {
        above = lower;
        g = g';
        h = h;
        room = room;
        kept = _;
        earlier = (drawing_after A dx r 0).rings;
        points = points;
        directory = directory;
        is = ap₂ (λ (n p : ℕ). state_of level dx dy n p g' lower) (add-one r) (unfold peak_to in ap (max (peak_to A dx r)) peak-is);
        sampled = below;
        holds = holds';
        slots_same = λ j low high. by-drop (dx + 2) lines' g'.lines lines-drop j low;
        links-same = λ j hj. refl;
        lines-inside = λ z. omega (arith, lines_long, holds'.carried.lines_long, open-after);
        used-inside = λ z. used-after;
        links-inside = omega (arith, holds'.stock.fits, holds'.carried.links-long);
        noted = λ z. lines_are ∙ sym (found-again dx ls' g'.lines lines' lines_long lines-drop);
        fresh-is = follows ∙ ap (λ (n : ℕ). max n (call_held A dx r)) now.fresh-is ∙ unfold held_to in refl;
        fresh-small = omega (arith, follows, held-most-small, now.fresh-small);
      }

      given-rings : holds'.given ≡ call_rings A dx r
      unfolding call_rings rings_after
      given-rings = given-are holds' ∙ ap (λ (d : Drawing). drop (length (drawing_after A dx r 0).rings) d.rings) (row-over A dx r)

      given-fit : 2 * total length holds'.given ≤ length points
      given-fit = omega (arith, points-fit, points-are (call_rings A dx r), ap (total length) given-rings)

      pub points-out : g'.points ≡ written (packed_points (call_rings A dx r)) points
      points-out =
          points-written holds'.out given-fit
          ∙ ap (λ (rings : List Line). written (packed_points rings) points) given-rings

      pub directory-out : g'.directory ≡ written (bare_records 0 0 (call_rings A dx r)) directory
      directory-out =
          records-written holds'.out given-fit (unfold directory_words record_stride in omega (arith, directory-fits, ap length given-rings))
          ∙ ap (λ (rings : List Line). written (bare_records 0 0 rings) directory) given-rings
