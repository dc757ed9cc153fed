-- The frontier before a row: every tip lies on a column, so filing each slot under the columns of its line's tips files every tip, whatever the frontier held.
-- Assumes nothing.
use mathlib.Core.Path.{◌≡◌, refl, sym, ◌∙◌, ap, subst}
use mathlib.Core.List.{List, []}
use Prim.Native.Nat.{ℕ, zero, suc, ◌+◌, ◌*◌, ◌≤◌, ◌<◌}
use native.Mathlib.Decide.{ℕ_discrete}
use native.Mathlib.Omega.{arith}
use lib.ListN.{length, get_or, set, drop, length-set}
use lib.Seq.{get_or-set_same, get_or-set_other}
use Rattle.scope.specs.Terrain.{Sheet}
use Rattle.scope.specs.Cells.{Point, point_of}
use Rattle.scope.specs.Stitching.{Line, Drawing}
use Rattle.scope.specs.Drawing.{drawing_after}
use Rattle.laws.proofs.Edges.{Outside}
use Rattle.laws.proofs.Frontier.{OnFrontier, lower, upper, between}
use Rattle.laws.proofs.Tips.{Tip, edge_word, WordsApart, tips-on-frontier, words-apart-after}
use Rattle.machine.specs.Machine.{column_word, first_link, end_point, link_count, link_point}
use Rattle.machine.proofs.Views.{Slot, slot_at, slot-of-filed, past-filed}
use Rattle.machine.proofs.Held.{HeldLine}
use Rattle.machine.proofs.Removal.{column-in-frontier}
use Rattle.machine.proofs.Leaving.{all, Columns, first-column, end-column, which-column}
use Rattle.giving.specs.Giving.{Given, slots_filed}
use Rattle.giving.proofs.Sizes.{count-of-filed}
use Rattle.giving.proofs.RowHolds.{Setting, RowHolds}

-- no tip counts
abbrev pub none : Point → Type 0
none p = ⊥

-- ---- what filing leaves: the slots, and the words past the frontier
module _ (dx : ℕ) (links : List ℕ) where
  -- all that no store to the frontier changes
  pub filing-keeps : {X : Type 0} (part : List ℕ → X) → ((lines : List ℕ) (w v : ℕ) → w < dx + 2 → part (set lines w v) ≡ part lines) → (lines : List ℕ) (n : ℕ) → part (slots_filed dx links lines n) ≡ part lines
  unfolding slots_filed
  filing-keeps part keeps lines zero = refl
  filing-keeps part keeps lines (suc n) =
      keeps (set before first_word n) end-word n (omega (arith, column-in-frontier dx (end_point dx before n)))
      ∙ keeps before first_word n (omega (arith, column-in-frontier dx (link_point links (first_link dx before n))))
      ∙ filing-keeps part keeps lines n
    where
      before : List ℕ
      before = slots_filed dx links lines n

      first_word : ℕ
      first_word = column_word dx (link_point links (first_link dx before n))

      end-word : ℕ
      end-word = column_word dx (end_point dx before n)

  length-filed : (lines : List ℕ) (n : ℕ) → length (slots_filed dx links lines n) ≡ length lines
  length-filed = filing-keeps length (λ lines w v h. length-set lines w v)

  slots-filed : (lines : List ℕ) (n j : ℕ) → slot_at dx (slots_filed dx links lines n) j ≡ slot_at dx lines j
  slots-filed lines n j = filing-keeps (λ table. slot_at dx table j) (λ table w v h. slot-of-filed dx table w v j h) lines n

  counts-filed : (lines : List ℕ) (n j : ℕ) → link_count dx (slots_filed dx links lines n) j ≡ link_count dx lines j
  counts-filed lines n j = filing-keeps (λ table. link_count dx table j) (λ table w v h. count-of-filed dx table w v j h) lines n

  past-slots-filed : (h : ℕ) (lines : List ℕ) (n : ℕ) → drop (dx + 2 + 4 * h) (slots_filed dx links lines n) ≡ drop (dx + 2 + 4 * h) lines
  past-slots-filed h lines n = filing-keeps (drop (dx + 2 + 4 * h)) (λ table w v hw. past-filed dx h table w v hw) lines n

-- ---- every tip is filed
module _ (dx : ℕ) (lines links : List ℕ) (chains : List (List ℕ)) (ls : List Line) (room : dx + 2 ≤ length lines)
    (held : (i : ℕ) → i < length ls → HeldLine dx links (slot_at dx lines i) (get_or chains i []) (get_or ls i [])) (columns : Columns ls) (apart : WordsApart dx ls) where
  -- the columns of a line's tips
  w : ℕ → ℕ
  w i = column_word dx (link_point links (first_link dx lines i))

  w' : ℕ → ℕ
  w' i = column_word dx (end_point dx lines i)

  abbrev table : ℕ → List ℕ
  table n = slots_filed dx links lines n

  -- one slot more
  table_more : (n : ℕ) → table (suc n) ≡ set (set (table n) (w n) n) (w' n) n
  unfolding slots_filed w w'
  table_more n =
      ap (λ (slot : Slot). set (set (table n) (column_word dx (link_point links slot.first)) n) (column_word dx slot.end) n) (slots-filed dx links lines n n)

  long : (n : ℕ) → dx + 2 ≤ length (table n)
  long n = omega (arith, length-filed dx links lines n)

  start_of : (i : ℕ) (hi : i < length ls) → (p : Point) × Tip p (get_or ls i []) × (edge_word dx p ≡ w i)
  unfolding w
  start_of i hi = first-column dx lines links (get_or chains i []) i (get_or ls i []) (held i hi) (columns i hi)

  end_of : (i : ℕ) (hi : i < length ls) → (p : Point) × Tip p (get_or ls i []) × (edge_word dx p ≡ w' i)
  unfolding w'
  end_of i hi = end-column dx lines links (get_or chains i []) i (get_or ls i []) (held i hi) (columns i hi)

  -- a line's words are its own
  own : (i j : ℕ) → i < length ls → j < length ls → (i ≡ j → ⊥) → (p : Point) → Tip p (get_or ls i []) → (edge_word dx p ≡ w j → ⊥) × (edge_word dx p ≡ w' j → ⊥)
  own i j hi hj ne p tip = (
    λ e. ne (apart i j hi hj p (start_of j hj).0 tip (start_of j hj).1 (e ∙ sym (start_of j hj).2)),
    λ e. ne (apart i j hi hj p (end_of j hj).0 tip (end_of j hj).1 (e ∙ sym (end_of j hj).2)),
  )

  in-frontier : (i : ℕ) → (w i < dx + 2) × (w' i < dx + 2)
  unfolding w w'
  in-frontier i = (
    omega (arith, column-in-frontier dx (link_point links (first_link dx lines i))),
    omega (arith, column-in-frontier dx (end_point dx lines i)),
  )

  -- the new slot's own words
  new-filed : (n : ℕ) (hn : n < length ls) (p : Point) → Tip p (get_or ls n []) → get_or (set (set (table n) (w n) n) (w' n) n) (edge_word dx p) 0 ≡ n
  new-filed n hn p tip = by (ℕ_discrete (edge_word dx p) (w' n)) (ℕ_discrete (edge_word dx p) (w n))
    where
      by : Dec (edge_word dx p ≡ w' n) → Dec (edge_word dx p ≡ w n) → get_or (set (set (table n) (w n) n) (w' n) n) (edge_word dx p) 0 ≡ n
      by (yes e) q =
          ap (λ (k : ℕ). get_or (set (set (table n) (w n) n) (w' n) n) k 0) e
          ∙ get_or-set_same (set (table n) (w n) n) (w' n) n 0 (omega (arith, long n, length-set (table n) (w n) n, (in-frontier n).1))
      by (no ne) (yes e) =
          get_or-set_other (set (table n) (w n) n) (w' n) (edge_word dx p) n 0 ne
          ∙ ap (λ (k : ℕ). get_or (set (table n) (w n) n) k 0) e
          ∙ get_or-set_same (table n) (w n) n 0 (omega (arith, long n, (in-frontier n).0))
      by (no ne) (no ne') = absurd (ne (unfold w w' in which-column dx lines links (get_or chains n []) n (get_or ls n []) (held n hn) (columns n hn) p tip (unfold w in ne')))

  pub tips-filed : (n : ℕ) → n ≤ length ls → (i : ℕ) → i < n → (p : Point) → Tip p (get_or ls i []) → get_or (slots_filed dx links lines n) (edge_word dx p) 0 ≡ i
  tips-filed zero hn i hi p tip = absurd (omega arith)
  tips-filed (suc n) hn i hi p tip = ap (λ (l : List ℕ). get_or l (edge_word dx p) 0) (table_more n) ∙ by (ℕ_discrete i n) (λ less. tips-filed n (omega arith) i less p tip)
    where
      by : Dec (i ≡ n) → (i < n → get_or (table n) (edge_word dx p) 0 ≡ i) → get_or (set (set (table n) (w n) n) (w' n) n) (edge_word dx p) 0 ≡ i
      by (yes e) earlier = new-filed n (omega arith) p (subst (λ (k : ℕ). Tip p (get_or ls k [])) e tip) ∙ sym e
      by (no ne) earlier =
          get_or-set_other (set (table n) (w n) n) (w' n) (edge_word dx p) n 0 (own i n (omega arith) (omega arith) ne p tip).1
          ∙ get_or-set_other (table n) (w n) (edge_word dx p) n 0 (own i n (omega arith) (omega arith) ne p tip).0
          ∙ earlier (omega arith)

-- ---- the row machine, with its frontier filed
abbrev pub filed_in : ℕ → Given → Given
filed_in dx g = record { lines = slots_filed dx g.links g.lines g.play.count; links = g.links; points = g.points; directory = g.directory; play = g.play }

pub filed-holds : (S : Setting) (live : Point → Type 0) (d : Drawing) (g : Given) → RowHolds S live d g → Columns d.lines → WordsApart S.dx d.lines → RowHolds S all d (filed_in S.dx g)
filed-holds S live d g now columns apart = record {
  carried = record {
    chains = now.carried.chains;
    loops = now.carried.loops;
    held = record {
      count-is = now.carried.held.count-is;
      chains-are = now.carried.held.chains-are;
      lines-held = λ i hi.
          subst (λ (slot : Slot). HeldLine dx g.links slot (get_or now.carried.chains i []) (get_or d.lines i [])) (sym (slots-filed dx g.links g.lines g.play.count i))
          (now.carried.held.lines-held i hi);
      once = now.carried.held.once;
      unused = now.carried.held.unused;
      rings-are = now.carried.held.rings-are;
      rings-held = now.carried.held.rings-held;
    };
    filed = λ i hi p tip live.
        tips-filed dx g.lines g.links now.carried.chains d.lines (omega (arith, now.carried.lines_long)) now.carried.held.lines-held columns apart g.play.count
        (omega (arith, now.carried.held.count-is)) i (omega (arith, now.carried.held.count-is)) p tip;
    lines_long = omega (arith, now.carried.lines_long, length-filed dx g.links g.lines g.play.count);
    links-long = now.carried.links-long;
    lines-past = past-slots-filed dx g.links S.h g.lines g.play.count ∙ now.carried.lines-past;
    links-past = now.carried.links-past;
  };
  sized = λ i hi. counts-filed dx g.links g.lines g.play.count i ∙ now.sized i hi;
  stock = now.stock;
  held-is = now.held-is;
  given = now.given;
  rings-are = now.rings-are;
  out = now.out;
}
  where
    dx : ℕ
    dx = S.dx

-- ---- before a row of document 01's drawing
module _ (A : Sheet) {dx dy : ℕ} (out : Outside A dx dy) (r : ℕ) where
  pub columns-between-rows : Columns (drawing_after A dx r 0).lines
  columns-between-rows i hi p tip odd = by (tips-on-frontier A out r 0 (omega arith) i hi p tip)
    where
      by : OnFrontier dx r 0 p → ⊥
      by (lower k hk hd e) = omega arith
      by (upper k hk hd h e) = unfold point_of in omega (arith, ap (λ (q : Point). q.x) e, odd)
      by (between h e) = omega arith

pub row-filed : (S : Setting) (A : Sheet) → Outside A S.dx S.dy → (live : Point → Type 0) (r : ℕ) (g : Given) → RowHolds S live (drawing_after A S.dx r 0) g → RowHolds S all (drawing_after A S.dx r 0) (filed_in S.dx g)
row-filed S A out live r g now = filed-holds S live (drawing_after A S.dx r 0) g now (columns-between-rows A out r) (words-apart-after A out r 0 (omega arith))
