-- A row of cells where the state and the work tables stand, by the verdict on what is lent: refused with everything as it was, or taken. Assumes nothing.
use mathlib.Core.Path.{◌≡◌, refl, sym, ◌∙◌, ap, subst}
use mathlib.Core.Bool.{Bool, true, false, cond}
use mathlib.Core.List.{List}
use Prim.Native.Nat.{ℕ, suc, ◌+◌, ◌*◌, ◌/◌, ◌≤◌}
use native.Mathlib.Omega.{arith}
use lib.Dec.{ltb}
use lib.ListN.{length, drop}
use borrow.Author.Tests.{ltb-false, le-ltb}
use Rattle.error.specs.declared.Refusal.{Refusal}
use Rattle.error.specs.declared.Refusal.TheVariants.{OpenShort, LinksShort, PointsShort, DirectoryShort}
use Rattle.scope.specs.Limits.{side_limit, record_stride}
use Rattle.scope.specs.Terrain.{Sheet}
use Rattle.scope.specs.Room.{open_words, link_words, directory_words}
use Rattle.scope.specs.Drawing.{drawing_after, open_after}
use Rattle.scope.specs.Tables.{written, packed_points, bare_records}
use Rattle.laws.proofs.Edges.{Outside}
use Rattle.laws.proofs.Borders.{first-cell-keeps-lines}
use Rattle.scan.specs.Rows as scan
use Rattle.scope.specs.declared.Level.{Level}
use Rattle.isoringbuilder.specs.Verdict.{Verdict, refused, passes}
use Rattle.trying.specs.declared.Trial.{Trial}
use Rattle.giving.proofs.Most.{most-is-no-less}
use Rattle.rows.specs.Called.{Outcome, tried, lines_tried, answer_by, taken, refused_by, settled, advanced}
use Rattle.rows.specs.Turns.{points_in, call_peak, call_held, call_rings, call_verdict, peak_to, held_to}
use Rattle.rows.specs.declared.Rows.{Rows}
use Rattle.rows.proofs.Standing.{state_of, Standing}
use Rattle.rows.proofs.Call.{room-for-records, peak-most, peak-is, most-is, rings-is, points-is, restored, lines-past, links-past, stands, points-out, directory-out}
use Rattle.std.specs.Prelude.{Result, Ok, Err}

-- a call that is taken: the rings that close in row r are given out, state and tables stand one row further, and words past the need stay
pub record Gives (A : Sheet) (level : Level) (dx dy r : ℕ) (lines links points directory : List ℕ) (o : Outcome) : Type 0 where
  pub answers : o.answer ≡ Ok (length (call_rings A dx r))
  pub stands-next : Standing A level dx dy (suc r) o.state o.lines o.links
  pub points-are : o.points ≡ written (packed_points (call_rings A dx r)) points
  pub directory-is : o.directory ≡ written (bare_records 0 0 (call_rings A dx r)) directory
  pub lines_stay : drop (open_words dx (call_peak A dx r)) o.lines ≡ drop (open_words dx (call_peak A dx r)) lines
  pub links-stay : drop (link_words (held_to A dx (suc r))) o.links ≡ drop (link_words (held_to A dx (suc r))) links

module _ (A : Sheet) (level : Level) (dx dy r : ℕ) (s : Rows) (lines links points directory : List ℕ) where
  -- what a verdict says of the outcome
  abbrev pub Decided : Verdict → Outcome → Type 0
  Decided (refused why) o = o ≡ refused_by s lines links points directory why
  Decided passes o = Gives A level dx dy r lines links points directory o

  abbrev pub verdict : Verdict
  verdict = call_verdict A dx r (length lines) (length links) (length points) (length directory)

module _ (A : Sheet) {dx dy : ℕ} (out : Outside A dx dy) (columns : dx ≤ side_limit) (rows : dy ≤ side_limit) (level : Level) (r : ℕ) (hr : r ≤ dy) (s : Rows) (lines links : List ℕ)
    (now : Standing A level dx dy r s lines links) (lower : List ℕ) (below : scan.Kept A (suc r) lower) (points directory : List ℕ) where
  abbrev t : Rows
  t = state_of level dx dy r (peak_to A dx r) now.g now.above

  abbrev trial : Trial
  trial = (tried t lower lines).trial

  abbrev o : Outcome
  o = advanced t lower lines links points directory

  abbrev answer : Result ℕ Refusal
  answer = answer_by dx (length lines) (length links) (length points) (length directory / record_stride) trial

  -- the answer by the four tests
  abbrev chosen : Bool → Bool → Bool → Bool → Result ℕ Refusal
  chosen a b c d =
      cond a (Err OpenShort)
      (cond b (Err LinksShort)
      (cond c (Err PointsShort)
      (cond d (Err DirectoryShort)
      (Ok (length (call_rings A dx r))))))

  answer-chosen : answer
      ≡ chosen (ltb (length lines) (open_words dx (call_peak A dx r))) (ltb (length links) (link_words (call_held A dx r))) (ltb (length points) (2 * points_in (call_rings A dx r)))
      (ltb (length directory) (directory_words (length (call_rings A dx r))))
  unfolding answer_by
  answer-chosen =
      rw (
        peak-is A out columns rows level r hr s lines links now lower below points directory,
        most-is A out columns rows level r hr s lines links now lower below points directory,
        points-is A out columns rows level r hr s lines links now lower below points directory,
        rings-is A out columns rows level r hr s lines links now lower below points directory,
        room-for-records (length directory) (length (call_rings A dx r)),
      )
      refl

  settled-refused : (why : Refusal) → settled t lower lines links points directory (Err why) ≡ refused_by t lines links points directory why
  unfolding settled
  settled-refused why = ap (λ (l : List ℕ). refused_by t l links points directory why) (restored A out columns rows level r hr s lines links now lower below points directory)

  settled-taken : (n : ℕ) → settled t lower lines links points directory (Ok n) ≡ taken t lower (lines_tried t lower lines) links points directory trial.peak n
  unfolding settled
  settled-taken n = refl

  -- where the lines so far fit, the answer settles the call
  lines_fit : open_words dx (call_peak A dx r) ≤ length lines → ltb (length lines) (open_words dx now.g.play.count) ≡ false
  unfolding open_words
  lines_fit fits =
      le-ltb (length lines) (4 * now.g.play.count + dx + 2)
      (omega (arith, now.holds.carried.held.count-is, peak-most A dx r, before))
    where
      before : length (drawing_after A dx r 0).lines ≤ call_peak A dx r
      before = unfold open_after in omega (arith, first-cell-keeps-lines A out r, peak-most A dx r, most-is-no-less length A dx r (suc dx) 0 (omega arith))

  settles : (why : Result ℕ Refusal) → answer ≡ why → ltb (length lines) (open_words dx now.g.play.count) ≡ false → o ≡ settled t lower lines links points directory why
  unfolding advanced
  settles why e early = rw (early, e) refl

  decided : Decided A level dx dy r t lines links points directory (verdict A level dx dy r t lines links points directory) o
  unfolding call_verdict
  decided =
      by (ltb (length lines) (open_words dx (call_peak A dx r))) (ltb (length links) (link_words (call_held A dx r))) (ltb (length points) (2 * points_in (call_rings A dx r)))
      (ltb (length directory) (directory_words (length (call_rings A dx r)))) refl refl refl refl answer-chosen
    where
      by : (a b c d : Bool) → ltb (length lines) (open_words dx (call_peak A dx r)) ≡ a → ltb (length links) (link_words (call_held A dx r)) ≡ b → ltb (length points) (2 * points_in (call_rings A dx r)) ≡ c
          → ltb (length directory) (directory_words (length (call_rings A dx r))) ≡ d → answer ≡ chosen a b c d
          → Decided A level dx dy r t lines links points directory (cond a (refused OpenShort) (cond b (refused LinksShort) (cond c (refused PointsShort) (cond d (refused DirectoryShort) passes)))) o
      by true b c d ea eb ec ed e = early (ltb (length lines) (open_words dx now.g.play.count)) refl
        where
          early : (x : Bool) → ltb (length lines) (open_words dx now.g.play.count) ≡ x → o ≡ refused_by t lines links points directory OpenShort
          early true k = unfold advanced in rw k refl
          early false k = settles (Err OpenShort) e k ∙ settled-refused OpenShort
      by false true c d ea eb ec ed e =
          settles (Err LinksShort) e (lines_fit (ltb-false (length lines) (open_words dx (call_peak A dx r)) ea)) ∙ settled-refused LinksShort
      by false false true d ea eb ec ed e =
          settles (Err PointsShort) e (lines_fit (ltb-false (length lines) (open_words dx (call_peak A dx r)) ea)) ∙ settled-refused PointsShort
      by false false false true ea eb ec ed e =
          settles (Err DirectoryShort) e (lines_fit (ltb-false (length lines) (open_words dx (call_peak A dx r)) ea)) ∙ settled-refused DirectoryShort
      by false false false false ea eb ec ed e =
          subst (Gives A level dx dy r lines links points directory)
          (sym (settles (Ok (length (call_rings A dx r))) e (lines_fit (ltb-false (length lines) (open_words dx (call_peak A dx r)) ea)) ∙ settled-taken (length (call_rings A dx r))))
          (unfold taken in record {
            answers = refl;
            stands-next = stands A out columns rows level r hr s lines links now lower below points directory open-fits links-fit points-fit directory-fits;
            points-are = points-out A out columns rows level r hr s lines links now lower below points directory open-fits links-fit points-fit directory-fits;
            directory-is = directory-out A out columns rows level r hr s lines links now lower below points directory open-fits links-fit points-fit directory-fits;
            lines_stay = lines-past A out columns rows level r hr s lines links now lower below points directory open-fits links-fit points-fit directory-fits;
            links-stay = links-past A out columns rows level r hr s lines links now lower below points directory open-fits links-fit points-fit directory-fits;
          })
        where
          open-fits : open_words dx (call_peak A dx r) ≤ length lines
          open-fits = ltb-false (length lines) (open_words dx (call_peak A dx r)) ea

          links-fit : link_words (call_held A dx r) ≤ length links
          links-fit = ltb-false (length links) (link_words (call_held A dx r)) eb

          points-fit : 2 * points_in (call_rings A dx r) ≤ length points
          points-fit = ltb-false (length points) (2 * points_in (call_rings A dx r)) ec

          directory-fits : directory_words (length (call_rings A dx r)) ≤ length directory
          directory-fits = ltb-false (length directory) (directory_words (length (call_rings A dx r))) ed

  -- whatever the state is called
  pub advance-decided : Decided A level dx dy r s lines links points directory (verdict A level dx dy r s lines links points directory) (advanced s lower lines links points directory)
  advance-decided =
      subst (λ (x : Rows). Decided A level dx dy r x lines links points directory (verdict A level dx dy r x lines links points directory) (advanced x lower lines links points directory)) (sym now.is) decided
