-- How the state and the work tables stand between two calls: the row machine holds the drawing of the rows so far in the slots and the links, the frontier's words note
-- its lines, and the state has the counts and the samples of the last row. It holds before the first row over any tables, and in longer tables. Assumes nothing.
use mathlib.Core.Path.{◌≡◌, refl, sym, ◌∙◌, ap}
use mathlib.Core.List.{List, [], ◌++◌}
use Prim.Native.Nat.{ℕ, zero, suc, ◌+◌, ◌*◌, ◌^◌, ◌≤◌, ◌<◌}
use native.Mathlib.Omega.{arith}
use lib.ListN.{length, get_or, replicate, length-append, length-replicate, get_or-append}
use Rattle.scope.specs.Terrain.{Sheet}
use Rattle.scope.specs.Room.{open_words}
use Rattle.scope.specs.Stitching.{Line, nothing, stitch_all}
use Rattle.scope.specs.Drawing.{along, down, up_to, segments_after, drawing_after}
use Rattle.laws.proofs.Edges.{Outside}
use Rattle.laws.proofs.LineWords.{spread-after}
use Rattle.laws.proofs.Stored.{stored}
use Rattle.scan.specs.Rows as scan
use Rattle.machine.proofs.Steps.{Kept}
use Rattle.machine.proofs.Leaving.{all}
use Rattle.packing.specs.Cleared.{cleared}
use Rattle.scope.specs.declared.Level.{Level}
use Rattle.trying.proofs.Renoted.{note_by, found-longer}
use Rattle.giving.specs.Giving.{Given}
use Rattle.giving.proofs.RowHolds.{RowHolds}
use Rattle.giving.proofs.RowCalls.{nothing-holds}
use Rattle.rows.specs.Called.{no_words}
use Rattle.rows.specs.Turns.{peak_to, held_to}
use Rattle.rows.specs.declared.Rows.{Rows}

-- the state with the counts of the row machine
abbrev pub state_of : Level → ℕ → ℕ → ℕ → ℕ → Given → List ℕ → Rows
state_of level dx dy r peak g above = record {
  level = level;
  dx = dx;
  dy = dy;
  drawn = r;
  count = g.play.count;
  peak = peak;
  spare = g.play.spare;
  fresh = g.play.fresh;
  held = g.play.held;
  above = above;
}

-- the frontier's words as lines give them, over these slots
abbrev pub frontier_of : ℕ → List Line → List ℕ → List ℕ
frontier_of dx ls lines = stored dx (note_by dx ls) ls (cleared lines (dx + 2)) (length ls)

pub record Standing (A : Sheet) (level : Level) (dx dy r : ℕ) (s : Rows) (lines links : List ℕ) : Type 0 where
  pub above : List ℕ
  pub g : Given
  pub h : ℕ
  pub room : ℕ
  pub kept : Kept
  pub earlier : List Line
  pub points : List ℕ
  pub directory : List ℕ
  pub is : s ≡ state_of level dx dy r (peak_to A dx r) g above
  pub sampled : scan.Kept A r above
  pub holds : RowHolds (record { dx = dx; dy = dy; h = h; room = room; kept = kept; earlier = earlier; points = points; directory = directory }) all (drawing_after A dx r 0) g
  pub slots_same : (j : ℕ) → dx + 2 ≤ j → j < dx + 2 + 4 * length (drawing_after A dx r 0).lines → get_or lines j 0 ≡ get_or g.lines j 0
  pub links-same : (j : ℕ) → j < 2 * g.play.fresh → get_or links j 0 ≡ get_or g.links j 0
  pub lines-inside : 0 < r → dx + 2 + 4 * length (drawing_after A dx r 0).lines ≤ length lines
  pub used-inside : 0 < r → open_words dx (peak_to A dx r) ≤ length lines
  pub links-inside : 2 * g.play.fresh ≤ length links
  pub noted : 0 < r → lines ≡ frontier_of dx (drawing_after A dx r 0).lines lines
  pub fresh-is : g.play.fresh ≡ held_to A dx r
  pub fresh-small : g.play.fresh < 2 ^ 30

-- before the first row no line is open
pub none_open : (A : Sheet) (dx : ℕ) → (drawing_after A dx 0 0).lines ≡ []
unfolding drawing_after segments_after up_to along down stitch_all nothing
none_open A dx = refl

-- a line that is open has a row above it
pub some-row : (A : Sheet) (dx r i : ℕ) → i < length (drawing_after A dx r 0).lines → 0 < r
some-row A dx zero i h = absurd (omega (arith, ap length (none_open A dx)))
some-row A dx (suc r) i h = omega arith

pub standing-begins : (A : Sheet) (level : Level) (dx dy : ℕ) → scan.Kept A 0 no_words → (lines links : List ℕ)
    → Standing A level dx dy 0 (record { level = level; dx = dx; dy = dy; drawn = 0; count = 0; peak = 0; spare = 0; fresh = 0; held = 0; above = no_words }) lines links
standing-begins A level dx dy sampled lines links = record {
  above = no_words;
  g = record { lines = replicate (dx + 2) 0; links = []; points = []; directory = []; play = record { count = 0; spare = 0; fresh = 0; held = 0; rings = 0; points = 0 } };
  h = 0;
  room = 0;
  kept = _;
  earlier = [];
  points = [];
  directory = [];
  is = unfold peak_to in refl;
  sampled = sampled;
  holds = nothing-holds A dx dy 0 0 (replicate (dx + 2) 0) [] [] [] (omega (arith, length-replicate {A = ℕ} (dx + 2) 0)) (omega arith);
  slots_same = λ j low high. absurd (omega (arith, ap length (none_open A dx)));
  links-same = λ j hj. absurd (omega arith);
  lines-inside = λ z. absurd (omega arith);
  used-inside = λ z. absurd (omega arith);
  links-inside = omega arith;
  noted = λ z. absurd (omega arith);
  fresh-is = unfold held_to in refl;
  fresh-small = omega arith;
}

-- in tables that begin with these
pub standing-longer : (A : Sheet) {dx dy : ℕ} → Outside A dx dy → (level : Level) (r : ℕ) (s : Rows) (lines links more more' : List ℕ)
    → Standing A level dx dy r s lines links → Standing A level dx dy r s (lines ++ more) (links ++ more')
standing-longer A {dx} {dy} out level r s lines links more more' now = record {
  above = now.above;
  g = now.g;
  h = now.h;
  room = now.room;
  kept = now.kept;
  earlier = now.earlier;
  points = now.points;
  directory = now.directory;
  is = now.is;
  sampled = now.sampled;
  holds = now.holds;
  slots_same = λ j low high.
      get_or-append lines more 0 j (omega (arith, now.lines-inside (some-row A dx r 0 (omega arith)))) ∙ now.slots_same j low high;
  links-same = λ j hj. get_or-append links more' 0 j (omega (arith, now.links-inside)) ∙ now.links-same j hj;
  lines-inside = λ z. omega (arith, now.lines-inside z, length-append lines more);
  used-inside = λ z. omega (arith, now.used-inside z, length-append lines more);
  links-inside = omega (arith, now.links-inside, length-append links more');
  noted = λ z.
      ap (λ (l : List ℕ). l ++ more) (now.noted z)
      ∙ sym (found-longer dx (drawing_after A dx r 0).lines (spread-after A out r 0 (omega arith)).apt lines more (omega (arith, now.lines-inside z)));
  fresh-is = now.fresh-is;
  fresh-small = now.fresh-small;
}
