-- What each call answers and leaves, on every input, as a function of the state and the tables that it is handed: a trial over the frontier's words, a verdict,
-- and then the row machine or the frontier as it was. Assumes nothing.
use Rattle.std.specs.Prelude.{ℕ, zero, suc, ◌+◌, ◌*◌, ◌/◌, max, false, cond, not, ◌||◌, List, [], ◌∷◌, eqb, ltb, Float, length, Result, Ok, Err}
use Rattle.error.specs.declared.Refusal.{Refusal}
use Rattle.error.specs.declared.Refusal.TheVariants.{BadSide, OpenShort, LinksShort, PointsShort, DirectoryShort, BadRow, BadTurn}
use Rattle.scope.specs.Terrain.{Sheet, above_at, terrain}
use Rattle.scope.specs.Limits.{record_stride}
use Rattle.scope.specs.Room.{open_words, link_words}
use Rattle.grid.specs.Grid.{bad_side}
use Rattle.scan.specs.Rows.{word_from}
use Rattle.packing.specs.Cleared.{cleared}
use Rattle.scope.specs.declared.Level.{Level}
use Rattle.trying.specs.declared.Trial.{Trial}
use Rattle.trying.specs.Notes.{frontier_noted}
use Rattle.trying.specs.Trying.{Tried, row_tried}
use Rattle.giving.specs.Giving.{Given, row_given, slots_filed}
use Rattle.rows.specs.declared.Rows.{Rows}

-- the state, the answer and every table at exit
pub record Outcome : Type 0 where
  pub state : Rows
  pub answer : Result ℕ Refusal
  pub lines : List ℕ
  pub links : List ℕ
  pub points : List ℕ
  pub directory : List ℕ

-- n words of row s of a sheet, from word w on, and all that a row has
unfoldable pub words_from : Sheet → ℕ → ℕ → ℕ → List ℕ
words_from A s w zero = []
words_from A s w (suc n) = word_from A s (64 * w) ∷ words_from A s (suc w) n

-- the samples of a row of values as words, and those of the outside
unfoldable pub row_words : Level → List Float → ℕ → List ℕ
row_words level values dx = words_from (terrain (above_at level) values dx 1) 1 0 65

unfoldable pub no_words : List ℕ
no_words = words_from (λ x y. false) 0 0 65

-- ---- begin

unfoldable pub blank : Level → ℕ → ℕ → Rows
blank level dx dy = record {
  level = level;
  dx = dx;
  dy = dy;
  drawn = 0;
  count = 0;
  peak = 0;
  spare = 0;
  fresh = 0;
  held = 0;
  above = no_words;
}

unfoldable pub begun_state : Level → ℕ → ℕ → Rows
begun_state level dx dy = cond (bad_side dx dy) (blank level 0 0) (blank level dx dy)

unfoldable pub begun_answer : ℕ → ℕ → Result ℕ Refusal
begun_answer dx dy = cond (bad_side dx dy) (Err BadSide) (Ok 0)

-- ---- a row of cells

-- what a trial begins with
unfoldable pub trial_before : Rows → Trial
trial_before s = record { lines = s.count; peak = s.count; held = s.held; most = s.held; rings = 0; points = 0 }

-- the trial, over the words of the frontier
module _ (s : Rows) (lower lines : List ℕ) where
  -- the first row is tried over a word of its own
  unfoldable pub tried : Tried
  tried = row_tried s.above lower s.dx (record { words = cond (eqb s.drawn 0) (0 ∷ []) lines; trial = trial_before s })

  unfoldable pub lines_tried : List ℕ
  lines_tried = cond (eqb s.drawn 0) lines tried.words

-- numbers 5 to 8 by what the trial has counted, the words that are lent and the records that there is room for
unfoldable pub answer_by : ℕ → ℕ → ℕ → ℕ → ℕ → Trial → Result ℕ Refusal
answer_by dx lines links points records t =
    cond (ltb lines (open_words dx t.peak)) (Err OpenShort)
    (cond (ltb links (link_words t.most)) (Err LinksShort)
    (cond (ltb points (2 * t.points)) (Err PointsShort)
    (cond (ltb records t.rings) (Err DirectoryShort)
    (Ok t.rings))))

-- the drawing, over the tables as the trial leaves them
module _ (s : Rows) (lower lines links points directory : List ℕ) where
  unfoldable pub filed : Given
  filed = record {
    lines = slots_filed s.dx links lines s.count;
    links = links;
    points = points;
    directory = directory;
    play = record { count = s.count; spare = s.spare; fresh = s.fresh; held = s.held; rings = 0; points = 0 };
  }

  unfoldable pub played : Given
  played = row_given s.above lower s.dx s.drawn filed

  -- by the most open lines of the trial
  unfoldable pub state_after : ℕ → Rows
  state_after peak = record {
    level = s.level;
    dx = s.dx;
    dy = s.dy;
    drawn = s.drawn + 1;
    count = played.play.count;
    peak = max s.peak peak;
    spare = played.play.spare;
    fresh = played.play.fresh;
    held = played.play.held;
    above = lower;
  }

  -- by that and the rings of the trial: the frontier is noted anew
  unfoldable pub taken : ℕ → ℕ → Outcome
  taken peak rings = record {
    state = state_after peak;
    answer = Ok rings;
    lines = frontier_noted s.dx played.links played.lines played.play.count;
    links = played.links;
    points = played.points;
    directory = played.directory;
  }

-- all as it was
unfoldable pub refused_by : Rows → List ℕ → List ℕ → List ℕ → List ℕ → Refusal → Outcome
refused_by s lines links points directory why = record { state = s; answer = Err why; lines = lines; links = links; points = points; directory = directory }

-- the open table behind a trial that is refused: the frontier is noted anew, but for the first row, which is not tried over it
unfoldable pub lines_restored : ℕ → ℕ → ℕ → List ℕ → List ℕ → List ℕ
lines_restored dx drawn count links lines = cond (eqb drawn 0) lines (frontier_noted dx links lines count)

module _ (s : Rows) (lower lines links points directory : List ℕ) where
  -- by the answer that the trial leads to
  unfoldable pub settled : Result ℕ Refusal → Outcome
  settled (Err why) = refused_by s (lines_restored s.dx s.drawn s.count links (lines_tried s lower lines)) links points directory why
  settled (Ok n) = taken s lower (lines_tried s lower lines) links points directory (tried s lower lines).trial.peak n

  unfoldable pub advanced : Outcome
  advanced =
      cond (ltb (length lines) (open_words s.dx s.count))
      (refused_by s lines links points directory OpenShort)
      (settled (answer_by s.dx (length lines) (length links) (length points) (length directory / record_stride) (tried s lower lines).trial))

-- ---- the calls

-- a row of values: numbers 13 and 14, then a row of cells
unfoldable pub row_called : Rows → List Float → List ℕ → List ℕ → List ℕ → List ℕ → Outcome
row_called s values lines links points directory =
    cond (not (eqb (length values) s.dx)) (refused_by s lines links points directory BadRow)
    (cond (bad_side s.dx s.dy || not (ltb s.drawn s.dy)) (refused_by s lines links points directory BadTurn)
    (advanced s (row_words s.level values s.dx) lines links points directory))

-- the words that the calls have used are 0 again where the end is taken
unfoldable pub zeroed_by : Outcome → Result ℕ Refusal → Outcome
zeroed_by o (Err why) = o
zeroed_by o (Ok n) = record {
  state = o.state;
  answer = o.answer;
  lines = cleared o.lines (open_words o.state.dx o.state.peak);
  links = cleared o.links (link_words o.state.fresh);
  points = o.points;
  directory = o.directory;
}

-- the end: number 14, then the last row of cells
unfoldable pub end_called : Rows → List ℕ → List ℕ → List ℕ → List ℕ → Outcome
end_called s lines links points directory =
    cond (bad_side s.dx s.dy || not (eqb s.drawn s.dy)) (refused_by s lines links points directory BadTurn)
    (zeroed_by (advanced s no_words lines links points directory) (advanced s no_words lines links points directory).answer)
