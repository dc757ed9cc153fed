-- The next call reads of the words the state that the last call left: begin, row and end lead to states without samples past their columns, and keep the level.
-- Assumes nothing.
use mathlib.Core.Path.{◌≡◌, refl, sym, subst}
use mathlib.Core.Bool.{Bool, true, false, cond, not, ◌||◌}
use mathlib.Core.List.{List}
use Prim.Native.Nat.{ℕ, zero, suc, ◌+◌, ◌*◌, ◌/◌, ◌≤◌, ◌<◌}
use native.Mathlib.Omega.{arith}
use lib.Dec.{T, eqb, ltb}
use lib.Ieee.{Float, binary64, fits}
use lib.ListN.{length, get_or}
use Rattle.error.specs.declared.Refusal.TheVariants.{OpenShort, BadRow, BadTurn}
use Rattle.scope.specs.Limits.{record_stride}
use Rattle.scope.specs.Room.{open_words}
use Rattle.scope.specs.Terrain.{Sheet, above_at, terrain}
use Rattle.words.proofs.Laws.{none-packed}
use Rattle.scope.specs.declared.Level.{Level}
use Rattle.grid.specs.Grid.{bad_side}
use Rattle.scan.specs.Rows.{word_from}
use Rattle.scan.proofs.Samples.{terrain-outside}
use Rattle.rows.specs.Called.{Outcome, words_from, row_words, no_words, blank, begun_state, tried, answer_by, refused_by, state_after, taken, settled, advanced, row_called, zeroed_by, end_called}
use Rattle.rows.specs.declared.Rows.{Rows}
use Rattle.rowstate.specs.Words.{state_in, state_out}
use Rattle.rowstate.proofs.ReadBack.{read_back}
use Rattle.std.specs.Prelude.{Result, Ok, Err}
use Rattle.error.specs.declared.Refusal.{Refusal}

-- 65 words of samples, and none past the columns
pub record Bounded (dx : ℕ) (above : List ℕ) : Type 0 where
  pub size : length above ≡ 65
  pub none : (w : ℕ) → dx ≤ 64 * w → get_or above w 0 ≡ 0

-- a state at this level that a call may lead to
abbrev pub Stored : Level → Rows → Type 0
Stored level s = Bounded s.dx s.above × (s.level ≡ level)

-- ---- samples

module _ (A : Sheet) (s : ℕ) {dx : ℕ} (outside : (c : ℕ) → dx < c → A c s ≡ false) where
  none-there : (w n i : ℕ) → dx ≤ 64 * (w + i) → get_or (words_from A s w n) i 0 ≡ 0
  unfolding words_from word_from
  none-there w zero i l = refl
  none-there w (suc n) zero l = none-packed (λ j. A (suc (64 * w + j)) s) 64 (λ j. outside (suc (64 * w + j)) (omega arith))
  none-there w (suc n) (suc i) l = none-there (suc w) n i (omega arith)

  words-bounded : Bounded dx (words_from A s 0 65)
  unfolding words_from
  words-bounded = record { size = refl; none = λ w l. none-there 0 65 w (omega arith) }

row-bounded : (level : Level) (values : List Float) (dx : ℕ) → Bounded dx (row_words level values dx)
unfolding row_words
row-bounded level values dx = words-bounded (terrain (above_at level) values dx 1) 1 (λ c l. (terrain-outside (above_at level) values dx 1).no-column-after c 1 l)

none-bounded : (dx : ℕ) → Bounded dx no_words
unfolding no_words
none-bounded dx = words-bounded (λ x y. false) 0 (λ c l. refl)

-- ---- calls

either : {X : Type 0} (P : X → Type 0) (b : Bool) (x y : X) → P x → P y → P (cond b x y)
either P true x y p q = p
either P false x y p q = q

pub begun-is-stored : (level : Level) (dx dy : ℕ) → Stored level (begun_state level dx dy)
unfolding begun_state blank
begun-is-stored level dx dy =
    either (Stored level) (bad_side dx dy) (blank level 0 0) (blank level dx dy) (none-bounded 0, refl) (none-bounded dx, refl)

-- an outcome whose state is stored
abbrev pub Leads : Level → Outcome → Type 0
Leads level o = Stored level o.state

module _ {level : Level} (s : Rows) (stored : Stored level s) (lines links points directory : List ℕ) where
  settled-leads : (lower : List ℕ) → Bounded s.dx lower → (answer : Result ℕ Refusal) → Leads level (settled s lower lines links points directory answer)
  unfolding settled refused_by taken state_after
  settled-leads lower bounded (Err why) = stored
  settled-leads lower bounded (Ok n) = (bounded, stored.1)

  advanced-leads : (lower : List ℕ) → Bounded s.dx lower → Leads level (advanced s lower lines links points directory)
  unfolding advanced refused_by
  advanced-leads lower bounded =
      let answer = answer_by s.dx (length lines) (length links) (length points) (length directory / record_stride) (tried s lower lines).trial in
      either (Leads level) (ltb (length lines) (open_words s.dx s.count)) (refused_by s lines links points directory OpenShort) (settled s lower lines links points directory answer)
      stored
      (settled-leads lower bounded answer)

  pub row-leads : (values : List Float) → Leads level (row_called s values lines links points directory)
  unfolding row_called refused_by
  row-leads values =
      let lower = row_words s.level values s.dx in
      let turned = refused_by s lines links points directory BadTurn in
      let drawn = advanced s lower lines links points directory in
      let late = bad_side s.dx s.dy || not (ltb s.drawn s.dy) in
      either (Leads level) (not (eqb (length values) s.dx)) (refused_by s lines links points directory BadRow) (cond late turned drawn)
      stored
      (either (Leads level) late turned drawn stored (advanced-leads lower (row-bounded s.level values s.dx)))

  zeroed-leads : (o : Outcome) (answer : Result ℕ Refusal) → Leads level o → Leads level (zeroed_by o answer)
  unfolding zeroed_by
  zeroed-leads o (Err why) leads = leads
  zeroed-leads o (Ok n) leads = leads

  pub end-leads : Leads level (end_called s lines links points directory)
  unfolding end_called refused_by
  end-leads =
      let drawn = advanced s no_words lines links points directory in
      either (Leads level) (bad_side s.dx s.dy || not (eqb s.drawn s.dy)) (refused_by s lines links points directory BadTurn) (zeroed_by drawn drawn.answer)
      stored
      (zeroed-leads drawn drawn.answer (advanced-leads no_words (none-bounded s.dx)))

-- and what the next call reads is that state, at a threshold that an `f64` holds
pub stored-is-read : (level : Level) (s : Rows) (words : List ℕ) → Stored level s → T (fits binary64 level.threshold) → length words ≡ 141 → state_in (state_out s words) ≡ s
stored-is-read level s words stored held room =
    read_back s words room stored.0.size stored.0.none (subst (λ (l : Level). T (fits binary64 l.threshold)) (sym stored.1) held)
