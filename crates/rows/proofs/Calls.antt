-- What a row of cells comes to, by what its steps leave: the trial, the drawing, and the call as a whole. Each law puts the steps' equations together, over any
-- tables. Assumes nothing.
use mathlib.Core.Path.{◌≡◌, refl, sym, ◌∙◌, ap}
use mathlib.Core.Bool.{Bool, true, false, not, cond, ◌||◌}
use mathlib.Core.List.{List, [], ◌∷◌}
use Prim.Native.Nat.{ℕ, ◌+◌, ◌/◌, ◌<◌, ◌≤◌, max}
use native.Mathlib.Omega.{arith}
use lib.Dec.{eqb, ltb}
use lib.Ieee.{Float}
use lib.ListN.{length, replicate}
use borrow.Author.Tests.{lt-ltb, le-ltb, eq-eqb, ne_eqb}
use Rattle.error.specs.declared.Refusal.{Refusal}
use Rattle.error.specs.declared.Refusal.TheVariants.{OpenShort, BadRow, BadTurn}
use Rattle.scope.specs.Limits.{record_stride}
use Rattle.scope.specs.Room.{open_words, link_words}
use Rattle.grid.specs.Grid.{bad_side}
use Rattle.packing.specs.Cleared.{cleared}
use Rattle.trying.specs.declared.Trial.{Trial}
use Rattle.trying.specs.Notes.{frontier_noted}
use Rattle.trying.specs.Trying.{Tried, row_tried}
use Rattle.trying.specs.Values.{tried_of}
use Rattle.giving.specs.declared.Play.{Play}
use Rattle.giving.specs.Giving.{Given, row_given, slots_filed}
use Rattle.giving.specs.Values.{given_of}
use Rattle.rows.specs.Called.{Outcome, row_words, trial_before, tried, lines_tried, answer_by, filed, played, state_after, taken, refused_by, lines_restored, settled, advanced, row_called, zeroed_by, end_called}
use Rattle.rows.specs.declared.Rows.{Rows}
use Rattle.rows.proofs.Samples.{no-words}
use Rattle.std.specs.Prelude.{Result, Ok, Err, is_ok}

-- ---- the trial

module _ (s : Rows) (lower lines words : List ℕ) (t : Trial) where
  -- the first row is tried over a word of its own, and the table is as it was
  pub first-row-tried : s.drawn ≡ 0 → tried_of words t ≡ row_tried s.above lower s.dx (tried_of (0 ∷ []) (trial_before s))
      → (t ≡ (tried s lower lines).trial) × (lines ≡ lines_tried s lower lines)
  unfolding tried lines_tried
  first-row-tried first is = (rw (eq-eqb s.drawn 0 first) (ap (λ (k : Tried). k.trial) is), rw (eq-eqb s.drawn 0 first))

  -- a later row is tried over the table
  pub later-row-tried : (s.drawn ≡ 0 → ⊥) → tried_of words t ≡ row_tried s.above lower s.dx (tried_of lines (trial_before s))
      → (t ≡ (tried s lower lines).trial) × (words ≡ lines_tried s lower lines)
  unfolding tried lines_tried
  later-row-tried later is =
      (rw (ne_eqb s.drawn 0 later) (ap (λ (k : Tried). k.trial) is), rw (ne_eqb s.drawn 0 later) (ap (λ (k : Tried). k.words) is))

-- ---- the drawing

-- what is left of a row that is drawn: the most open lines, the rings, and the tables and counts behind its cells
abbrev left : Rows → List ℕ → ℕ → ℕ → Given → Outcome
left s lower most rings g = record {
  state = record {
    level = s.level;
    dx = s.dx;
    dy = s.dy;
    drawn = s.drawn + 1;
    count = g.play.count;
    peak = most;
    spare = g.play.spare;
    fresh = g.play.fresh;
    held = g.play.held;
    above = lower;
  };
  answer = Ok rings;
  lines = frontier_noted s.dx g.links g.lines g.play.count;
  links = g.links;
  points = g.points;
  directory = g.directory;
}

module _ (s : Rows) (lower lines links points directory : List ℕ) (peak rings : ℕ) where
  pub row-drawn : (lines₁ lines₂ links₂ points₂ directory₂ lines₃ : List ℕ) (play : Play) (most : ℕ)
      → lines₁ ≡ slots_filed s.dx links lines s.count
      → given_of lines₂ links₂ points₂ directory₂ play
      ≡ row_given s.above lower s.dx s.drawn
      (given_of lines₁ links points directory (record { count = s.count; spare = s.spare; fresh = s.fresh; held = s.held; rings = 0; points = 0 }))
      → lines₃ ≡ frontier_noted s.dx links₂ lines₂ play.count
      → most ≡ max s.peak peak
      → ◌≡◌ {A = Outcome}
      (record {
        state = record {
          level = s.level;
          dx = s.dx;
          dy = s.dy;
          drawn = s.drawn + 1;
          count = play.count;
          peak = most;
          spare = play.spare;
          fresh = play.fresh;
          held = play.held;
          above = lower;
        };
        answer = Ok rings;
        lines = lines₃;
        links = links₂;
        points = points₂;
        directory = directory₂;
      })
      (taken s lower lines links points directory peak rings)
  unfolding taken state_after played filed
  row-drawn lines₁ lines₂ links₂ points₂ directory₂ lines₃ play most is-filed is-given is-noted is-most =
      rw (is-noted, is-most)
      (ap (left s lower (max s.peak peak) rings)
      (is-given ∙ ap (λ (ls : List ℕ). row_given s.above lower s.dx s.drawn (given_of ls links points directory (record { count = s.count; spare = s.spare; fresh = s.fresh; held = s.held; rings = 0; points = 0 }))) is-filed))

-- ---- the call

module _ (s : Rows) (lower lines links points directory : List ℕ) where
  -- the open table is short of the lines that are open
  pub short-at-once : length lines < open_words s.dx s.count → refused_by s lines links points directory OpenShort ≡ advanced s lower lines links points directory
  unfolding advanced
  short-at-once short = rw (lt-ltb (length lines) (open_words s.dx s.count) short)

  -- the two ways on, by the answer that the trial leads to
  settled-refused : (why : Refusal) (words lines' : List ℕ) → words ≡ lines_tried s lower lines
      → lines' ≡ lines_restored s.dx s.drawn s.count links words
      → ◌≡◌ {A = Outcome} (record { state = s; answer = Err why; lines = lines'; links = links; points = points; directory = directory })
      (settled s lower lines links points directory (Err why))
  unfolding settled refused_by
  settled-refused why words lines' are-tried are-restored = rw (are-restored, are-tried)

  settled-taken : (rings : ℕ) (words : List ℕ) (t : Trial) → words ≡ lines_tried s lower lines → t ≡ (tried s lower lines).trial
      → taken s lower words links points directory t.peak rings ≡ settled s lower lines links points directory (Ok rings)
  unfolding settled
  settled-taken rings words t are-tried is-trial = rw (are-tried, is-trial)

  -- where the open table has room for the lines that are open, the answer settles the call
  module _ (enough : open_words s.dx s.count ≤ length lines) (t : Trial) (is-trial : t ≡ (tried s lower lines).trial) (words : List ℕ)
      (are-tried : words ≡ lines_tried s lower lines) (answer : Result ℕ Refusal)
      (answers : answer ≡ answer_by s.dx (length lines) (length links) (length points) (length directory / record_stride) t) where
    settles : settled s lower lines links points directory answer ≡ advanced s lower lines links points directory
    unfolding advanced
    settles =
        sym (rw (le-ltb (length lines) (open_words s.dx s.count) enough)
        (ap (λ (k : Trial). settled s lower lines links points directory (answer_by s.dx (length lines) (length links) (length points) (length directory / record_stride) k)) (sym is-trial)
        ∙ ap (settled s lower lines links points directory) (sym answers)))

    -- refused: the frontier is noted anew
    pub refused-after : (why : Refusal) → answer ≡ Err why → (lines' : List ℕ)
        → lines' ≡ lines_restored s.dx s.drawn s.count links words
        → ◌≡◌ {A = Outcome} (record { state = s; answer = answer; lines = lines'; links = links; points = points; directory = directory })
        (advanced s lower lines links points directory)
    refused-after why is lines' are-restored =
        ap (λ (b : Result ℕ Refusal). record { state = s; answer = b; lines = lines'; links = links; points = points; directory = directory }) is
        ∙ settled-refused why words lines' are-tried are-restored
        ∙ ap (settled s lower lines links points directory) (sym is)
        ∙ settles

    -- taken: the row is drawn
    pub taken-after : (rings : ℕ) → answer ≡ Ok rings
        → taken s lower words links points directory t.peak rings ≡ advanced s lower lines links points directory
    taken-after rings is = settled-taken rings words t are-tried is-trial ∙ ap (settled s lower lines links points directory) (sym is) ∙ settles

  -- no call changes the number of columns
  pub columns-stay : (advanced s lower lines links points directory).state.dx ≡ s.dx
  unfolding advanced settled refused_by taken state_after
  columns-stay =
      by (ltb (length lines) (open_words s.dx s.count))
      (answer_by s.dx (length lines) (length links) (length points) (length directory / record_stride) (tried s lower lines).trial)
    where
      by : (short : Bool) (answer : Result ℕ Refusal)
          → (cond short (refused_by s lines links points directory OpenShort) (settled s lower lines links points directory answer)).state.dx ≡ s.dx
      by true answer = refl
      by false (Err why) = refl
      by false (Ok n) = refl

-- ---- a row of values

module _ (s : Rows) (values : List Float) (lines links points directory : List ℕ) where
  pub length-refused : (length values ≡ s.dx → ⊥) → refused_by s lines links points directory BadRow ≡ row_called s values lines links points directory
  unfolding row_called
  length-refused wrong = rw (ne_eqb (length values) s.dx wrong)

  module _ (right : length values ≡ s.dx) where
    pub row-turn-refused : bad_side s.dx s.dy || not (ltb s.drawn s.dy) ≡ true
        → refused_by s lines links points directory BadTurn ≡ row_called s values lines links points directory
    unfolding row_called
    row-turn-refused bad = rw (eq-eqb (length values) s.dx right, bad)

    pub row-advances : bad_side s.dx s.dy || not (ltb s.drawn s.dy) ≡ false → (lower : List ℕ) → lower ≡ row_words s.level values s.dx
        → advanced s lower lines links points directory ≡ row_called s values lines links points directory
    unfolding row_called
    row-advances good lower are = rw (eq-eqb (length values) s.dx right, good, are)

-- ---- the end

-- the tables are zeroed where the row of cells was taken, and else they are spared
module _ (o : Outcome) where
  spared : (answer : Result ℕ Refusal) → is_ok answer ≡ false → o ≡ zeroed_by o answer
  unfolding zeroed_by
  spared (Err why) is = refl
  spared (Ok n) is = absurd (let z : ◌≡◌ {A = ℕ} 0 1 = cc in omega arith)

  zeroed : (answer : Result ℕ Refusal) → is_ok answer ≡ true
      → ◌≡◌ {A = Outcome} (record {
        state = o.state;
        answer = o.answer;
        lines = cleared o.lines (open_words o.state.dx o.state.peak);
        links = cleared o.links (link_words o.state.fresh);
        points = o.points;
        directory = o.directory;
      })
      (zeroed_by o answer)
  unfolding zeroed_by
  zeroed (Ok n) is = refl
  zeroed (Err why) is = absurd (let z : ◌≡◌ {A = ℕ} 0 1 = cc in omega arith)

module _ (s : Rows) (lines links points directory : List ℕ) where
  pub end-turn-refused : bad_side s.dx s.dy || not (eqb s.drawn s.dy) ≡ true
      → refused_by s lines links points directory BadTurn ≡ end_called s lines links points directory
  unfolding end_called
  end-turn-refused bad = rw bad

  module _ (good : bad_side s.dx s.dy || not (eqb s.drawn s.dy) ≡ false) (o : Outcome) (advances : o ≡ advanced s (replicate 65 0) lines links points directory) where
    ends : zeroed_by o o.answer ≡ end_called s lines links points directory
    unfolding end_called
    ends =
        rw good
        (ap (λ (k : Outcome). zeroed_by k k.answer) (advances ∙ ap (λ (lower : List ℕ). advanced s lower lines links points directory) no-words))

    pub end_refused : is_ok o.answer ≡ false → o ≡ end_called s lines links points directory
    end_refused is = spared o o.answer is ∙ ends

    pub end-zeroes : is_ok o.answer ≡ true → (lines' links' : List ℕ)
        → lines' ≡ cleared o.lines (open_words o.state.dx o.state.peak) → links' ≡ cleared o.links (link_words o.state.fresh)
        → ◌≡◌ {A = Outcome} (record { state = o.state; answer = o.answer; lines = lines'; links = links'; points = o.points; directory = o.directory })
        (end_called s lines links points directory)
    end-zeroes is lines' links' lines_are links-are = rw (lines_are, links-are) (zeroed o o.answer is ∙ ends)
