-- The row machine from call to call: before the first row it holds nothing; a call finds it in tables that begin with what the call before left, with nothing said
-- of the frontier and with outputs of its own; and a call that draws a row leaves it holding one row more. Assumes nothing.
use mathlib.Core.Path.{◌≡◌, refl, sym, ◌∙◌, ap, subst}
use mathlib.Core.List.{List, [], append-nil}
use Prim.Native.Nat.{ℕ, zero, suc, max, ◌+◌, ◌*◌, ◌^◌, ◌≤◌, ◌<◌}
use native.Mathlib.Nat.{not-suc-le-zero}
use native.Mathlib.Decide.{dec_lt}
use native.Mathlib.Omega.{arith}
use lib.ListN.{length, get_or, drop}
use lib.Seq.{drop_at}
use Rattle.scope.specs.Terrain.{Sheet}
use Rattle.scope.specs.Limits.{side_limit}
use Rattle.scope.specs.Cells.{Point}
use Rattle.scope.specs.Stitching.{Line, Drawing, nothing, stitch_all}
use Rattle.scope.specs.Drawing.{along, down, up_to, segments_after, drawing_after, open_after, rings_after}
use Rattle.scope.specs.Tables.{written, packed_points, bare_records}
use Rattle.laws.proofs.Total.{total}
use Rattle.laws.proofs.Sizes.{held_in}
use Rattle.laws.proofs.Edges.{Outside}
use Rattle.scan.specs.Rows as scan
use Rattle.machine.specs.Machine.{slot_word, first_link, last_link, end_point, link_count, link_point, link_next}
use Rattle.machine.proofs.Views.{Slot, slot_at}
use Rattle.machine.proofs.Chains.{uses}
use Rattle.machine.proofs.Held.{HeldLine, Still, line-still, rings-still, chain-uses}
use Rattle.machine.proofs.Ready.{used}
use Rattle.machine.proofs.Leaving.{all}
use Rattle.giving.specs.Giving.{Given, row_given}
use Rattle.giving.proofs.Most.{most_of}
use Rattle.giving.proofs.Stock.{stock-kept}
use Rattle.giving.proofs.Outputs.{Outputs, none_out, points-written, records-written}
use Rattle.giving.proofs.RowHolds.{Setting, Modest, RowHolds, RowFits}
use Rattle.giving.proofs.RowFiled.{none, filed_in, row-filed}
use Rattle.giving.proofs.RowBounds.{limits-are-modest, drawing-fits}
use Rattle.giving.proofs.Row.{row-holds, row-follows}

-- a call over these tables, in a grid of dx by dy, for h lines and so many links, after these rings
abbrev pub setting_of : ℕ → ℕ → ℕ → ℕ → List Line → Given → Setting
setting_of dx dy h room earlier g = record {
  dx = dx;
  dy = dy;
  h = h;
  room = room;
  kept = record { past-lines = drop (dx + 2 + 4 * h) g.lines; past-links = drop (2 * room) g.links };
  earlier = earlier;
  points = g.points;
  directory = g.directory;
}

-- the rings that close in row r of cells
abbrev pub row_rings : Sheet → ℕ → ℕ → List Line
row_rings A dx r = drop (length (rings_after A dx r 0)) (rings_after A dx r (suc dx))

-- the rings of a call are those behind the earlier ones
pub given-are : {S : Setting} {live : Point → Type 0} {d : Drawing} {g : Given} (now : RowHolds S live d g) → now.given ≡ drop (length S.earlier) d.rings
given-are {S} {live} {d} {g} now = sym (ap (drop (length S.earlier)) now.rings-are ∙ drop_at S.earlier now.given (length S.earlier) refl)

-- ---- before the first row
pub nothing-holds : (A : Sheet) (dx dy h room : ℕ) (lines links points directory : List ℕ) → dx + 2 + 4 * h ≤ length lines → 2 * room ≤ length links
    → let g : Given = record { lines = lines; links = links; points = points; directory = directory; play = record { count = 0; spare = 0; fresh = 0; held = 0; rings = 0; points = 0 } } in
    RowHolds (setting_of dx dy h room [] g) all (drawing_after A dx 0 0) g
unfolding drawing_after segments_after up_to along down stitch_all nothing
nothing-holds A dx dy h room lines links points directory lines_long links-long = record {
  carried = record {
    chains = [];
    loops = [];
    held = record {
      count-is = refl;
      chains-are = refl;
      lines-held = λ i hi. absurd (not-suc-le-zero hi);
      once = λ k. unfold total in omega arith;
      unused = λ k hk. unfold total in refl;
      rings-are = refl;
      rings-held = tt;
    };
    filed = λ i hi p tip live. absurd (not-suc-le-zero hi);
    lines_long = lines_long;
    links-long = links-long;
    lines-past = refl;
    links-past = refl;
  };
  sized = λ i hi. absurd (not-suc-le-zero hi);
  stock = record {
    free = [];
    linked = tt;
    once = λ k. unfold total uses in omega arith;
    unused = λ k hk. unfold total uses in refl;
    fresh-is = refl;
    fits = omega arith;
  };
  held-is = unfold held_in total in refl;
  given = [];
  rings-are = refl;
  out = none_out points directory;
}

-- ---- the next call
abbrev pub resumed : Given → List ℕ → List ℕ → List ℕ → List ℕ → Given
resumed g lines links points directory = record {
  lines = lines;
  links = links;
  points = points;
  directory = directory;
  play = record { count = g.play.count; spare = g.play.spare; fresh = g.play.fresh; held = g.play.held; rings = 0; points = 0 };
}

module _ (S : Setting) (live : Point → Type 0) (d : Drawing) (g : Given) (now : RowHolds S live d g) (h room : ℕ) (lines links points directory : List ℕ)
    (slots_same : (j : ℕ) → S.dx + 2 ≤ j → j < S.dx + 2 + 4 * length d.lines → get_or lines j 0 ≡ get_or g.lines j 0)
    (links-same : (j : ℕ) → j < 2 * g.play.fresh → get_or links j 0 ≡ get_or g.links j 0)
    (lines_long : S.dx + 2 + 4 * h ≤ length lines) (links-long : 2 * room ≤ length links) (wide : g.play.fresh ≤ room) where
  open S use {dx}

  slot_same : (i : ℕ) → i < length d.lines → slot_at dx lines i ≡ slot_at dx g.lines i
  unfolding first_link last_link end_point slot_word
  slot_same i hi = λ k. record {
    first = slots_same (dx + 2 + 4 * i + 0) (omega arith) (omega arith) k;
    last = slots_same (dx + 2 + 4 * i + 1) (omega arith) (omega arith) k;
    end = slots_same (dx + 2 + 4 * i + 2) (omega arith) (omega arith) k;
  }

  count_same : (i : ℕ) → i < length d.lines → link_count dx lines i ≡ link_count dx g.lines i
  unfolding link_count slot_word
  count_same i hi = slots_same (dx + 2 + 4 * i + 3) (omega arith) (omega arith)

  still : (k : ℕ) → k < g.play.fresh → Still g.links links k
  still k hk = record {
    point = unfold link_point in links-same (2 * k) (omega arith);
    next = unfold link_next in links-same (2 * k + 1) (omega arith);
  }

  below : (k : ℕ) → 1 ≤ used now.carried.chains now.carried.loops k → k < g.play.fresh
  below k u = by (dec_lt k g.play.fresh)
    where
      by : Dec (k < g.play.fresh) → k < g.play.fresh
      by (yes q) = q
      by (no q) = absurd (omega (arith, now.stock.unused k (omega arith)))

  pub resumed-holds : RowHolds (setting_of dx S.dy h room d.rings (resumed g lines links points directory)) none d (resumed g lines links points directory)
  resumed-holds = record {
    carried = record {
      chains = now.carried.chains;
      loops = now.carried.loops;
      held = record {
        count-is = now.carried.held.count-is;
        chains-are = now.carried.held.chains-are;
        lines-held = λ i hi.
            subst (λ (slot : Slot). HeldLine dx links slot (get_or now.carried.chains i []) (get_or d.lines i [])) (sym (slot_same i hi))
            (line-still dx g.links links (slot_at dx g.lines i) (get_or now.carried.chains i []) (get_or d.lines i [])
            (λ k u. still k (below k (omega (arith, chain-uses now.carried.chains i k (omega (arith, now.carried.held.chains-are)))))) (now.carried.held.lines-held i hi));
        once = now.carried.held.once;
        unused = λ k out. omega (arith, now.stock.unused k (omega arith));
        rings-are = now.carried.held.rings-are;
        rings-held = rings-still dx g.links links 0 now.carried.loops [] 0 (λ k u. still k (below k (omega arith))) now.carried.held.rings-held;
      };
      filed = λ i hi p tip counts. absurd counts;
      lines_long = lines_long;
      links-long = links-long;
      lines-past = refl;
      links-past = refl;
    };
    sized = λ i hi. count_same i hi ∙ now.sized i hi;
    stock = stock-kept now.stock room links wide (λ k hk. (still k hk).next);
    held-is = now.held-is;
    given = [];
    rings-are = sym (append-nil d.rings);
    out = none_out points directory;
  }

-- ---- a call that draws row r of cells: its frontier is filed, and then its cells are drawn
module _ (S : Setting) (columns : S.dx ≤ side_limit) (rows : S.dy ≤ side_limit) (lines-small : S.h < 2 ^ 32) (links-small : S.room + 2 < 2 ^ 32)
    (A : Sheet) (out : Outside A S.dx S.dy) (r : ℕ) (hr : r ≤ S.dy) (live : Point → Type 0) (g : Given) (start : RowHolds S live (drawing_after A S.dx r 0) g)
    (lines_fit : (c : ℕ) → c ≤ suc S.dx → length (open_after A S.dx r c) ≤ S.h) (links-fit : (c : ℕ) → c ≤ S.dx → held_in (open_after A S.dx r (suc c)) ≤ S.room)
    {upper lower : List ℕ} (above : scan.Kept A r upper) (below : scan.Kept A (suc r) lower) where
  open S use {dx}

  modest : Modest S
  modest = limits-are-modest S columns rows lines-small links-small

  fits : (c : ℕ) → c ≤ suc dx → RowFits S (drawing_after A dx r c)
  fits zero hc =
      drawing-fits S A out columns rows r 0 hr hc (lines_fit 0 hc)
      (unfold open_after in omega (arith, start.held-is, start.stock.fresh-is, start.stock.fits))
  fits (suc c) hc = drawing-fits S A out columns rows r (suc c) hr hc (lines_fit (suc c) hc) (links-fit c (omega arith))

  filed : RowHolds S all (drawing_after A dx r 0) (filed_in dx g)
  filed = row-filed S A out live r g start

  pub call-holds : RowHolds S all (drawing_after A dx (suc r) 0) (row_given upper lower dx r (filed_in dx g))
  call-holds = row-holds S modest A out r (filed_in dx g) filed fits above below

  pub call-follows : (row_given upper lower dx r (filed_in dx g)).play.fresh ≡ max g.play.fresh (most_of held_in A dx r (suc dx))
  call-follows = row-follows S modest A out r (filed_in dx g) filed fits above below

  -- ---- what it gives out, where the call began behind all earlier rings
  module _ (began : S.earlier ≡ rings_after A dx r 0) where
    abbrev after : Given
    after = row_given upper lower dx r (filed_in dx g)

    rings-given : call-holds.given ≡ row_rings A dx r
    rings-given = given-are call-holds ∙ ap (λ (l : List Line). drop (length l) (drawing_after A dx (suc r) 0).rings) began ∙ unfold rings_after drawing_after segments_after up_to down along in refl

    outputs : Outputs S.points S.directory (row_rings A dx r) after.points after.directory after.play.rings after.play.points
    outputs =
        subst (λ (l : List Line). Outputs S.points S.directory l after.points after.directory after.play.rings after.play.points) rings-given call-holds.out

    pub call-counts : ((row_given upper lower dx r (filed_in dx g)).play.rings ≡ length (row_rings A dx r))
        × ((row_given upper lower dx r (filed_in dx g)).play.points ≡ total length (row_rings A dx r))
    call-counts = (outputs.rings-are, outputs.points-are)

    pub call-points : 2 * total length (row_rings A dx r) ≤ length S.points
        → (row_given upper lower dx r (filed_in dx g)).points ≡ written (packed_points (row_rings A dx r)) S.points
    call-points = points-written outputs

    pub call-records : 2 * total length (row_rings A dx r) ≤ length S.points → 6 * length (row_rings A dx r) ≤ length S.directory
        → (row_given upper lower dx r (filed_in dx g)).directory ≡ written (bare_records 0 0 (row_rings A dx r)) S.directory
    call-records = records-written outputs
