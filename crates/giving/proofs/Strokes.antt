-- A stroke by what its two sides have: each way through the tests is the definition's case, and a rule done with the link that is taken leaves what the
-- definition has. Assumes nothing.
use mathlib.Core.Path.{◌≡◌, sym, ap, ◌∙◌}
use mathlib.Core.Bool.{Bool, true, false}
use mathlib.Core.List.{List}
use Prim.Native.Nat.{ℕ}
use borrow.Author.Tests.{eq-eqb, ne_eqb}
use Rattle.scope.specs.declared.Side.{Side}
use Rattle.scope.specs.Cells.{◌⟶◌, point_of, point_index}
use Rattle.machine.specs.Machine.{Tables, Entry, side_word, started, appended, prepended, joined}
use Rattle.lines.specs.declared.Progress.{Progress}
use Rattle.lines.specs.Values.{tables_of}
use Rattle.drawing.specs.declared.Points.{Points}
use Rattle.drawing.specs.Values.{points_of, point_at, is_met, line_at}
use Rattle.drawing.proofs.Strokes.{the-point-of-a-side}
use Rattle.giving.specs.declared.Play.{Play}
use Rattle.giving.specs.Giving.{Given, link_taken, stock_after, with_taken, ring_given, stroke_given}
use Rattle.giving.specs.Values.{given_of}

-- the counts of a stock, with as many open lines as a rule has left
abbrev counted : Play → ℕ → Play
counted p count = record { count = count; spare = p.spare; fresh = p.fresh; held = p.held; rings = p.rings; points = p.points }

-- the tables that a rule leaves, with what the rule does not touch
abbrev onto : Given → Play → Tables → Given
onto g p t = record { lines = t.lines; links = t.links; points = g.points; directory = g.directory; play = counted p t.progress.count }

-- what the code has at hand before a rule: the link that is taken, the stock without it, and the open lines
pub record Stocked (g : Given) (k : ℕ) (stock : Play) (before : Progress) : Type 0 where
  pub link : k ≡ link_taken g.play
  pub rest : stock ≡ stock_after g.links g.play
  pub lines-open : before ≡ record { count = g.play.count; rings = 0; head = 0; tail = 0 }

-- a rule, and then its count
with-rule : (g : Given) (rule : Tables → ℕ → Tables) {k : ℕ} {stock final : Play} {before after : Progress} {lines' links' : List ℕ} →
    Stocked g k stock before →
    tables_of lines' links' after ≡ rule (tables_of g.lines g.links before) k →
    final ≡ counted stock after.count →
    given_of lines' links' g.points g.directory final ≡ with_taken g rule
unfolding with_taken
with-rule g rule {k} {stock} s done is-final = rw is-final (ap (onto g stock) done ∙ rw (s.link, s.rest, s.lines-open))

-- a stroke from side x to side y of cell (c, r)
module _ (dx c r : ℕ) (entry : Entry) (g : Given) (x y : Side) {from to : Bool} (at_from : from ≡ is_met x) (at-to : to ≡ is_met y) where
  pub by-closing : {f h : ℕ} {after : Given} →
      from ≡ true →
      to ≡ true →
      f ≡ line_at entry x →
      h ≡ line_at entry y →
      f ≡ h →
      after ≡ ring_given dx g f →
      after ≡ stroke_given dx c r entry g (x ⟶ y)
  unfolding stroke_given
  by-closing a b is_f is-h same done =
      rw (done, is_f, sym at_from ∙ a, sym at-to ∙ b, eq-eqb (line_at entry x) (line_at entry y) (sym is_f ∙ same ∙ is-h))

  module _ {k : ℕ} {stock : Play} {before : Progress} (stocked : Stocked g k stock before) {at : Points} (points : at ≡ points_of dx c r) {s : ℕ}
      (is-s : s ≡ point_at at x) where
    start-point : s ≡ point_index dx (point_of c r x)
    start-point = is-s ∙ ap (λ (p : Points). point_at p x) points ∙ the-point-of-a-side dx c r x

    end-point : {e : ℕ} → e ≡ point_at at y → e ≡ point_index dx (point_of c r y)
    end-point is-e = is-e ∙ ap (λ (p : Points). point_at p y) points ∙ the-point-of-a-side dx c r y

    pub by-joining : {f h : ℕ} {lines' links' : List ℕ} {after : Progress} {final : Play} →
        from ≡ true →
        to ≡ true →
        f ≡ line_at entry x →
        h ≡ line_at entry y →
        (f ≡ h → ⊥) →
        tables_of lines' links' after ≡ joined dx (tables_of g.lines g.links before) k s f h →
        final ≡ counted stock after.count →
        given_of lines' links' g.points g.directory final ≡ stroke_given dx c r entry g (x ⟶ y)
    unfolding stroke_given
    by-joining {f} {h} a b is_f is-h apart done is-final =
        with-rule g (λ t k. joined dx t k s f h) stocked done is-final
        ∙ rw (sym at_from ∙ a, sym at-to ∙ b, ne_eqb (line_at entry x) (line_at entry y) (λ e. apart (is_f ∙ e ∙ sym is-h)), start-point, is_f, is-h)

    pub by-appending : {f e we : ℕ} {lines' links' : List ℕ} {after : Progress} {final : Play} →
        from ≡ true →
        to ≡ false →
        f ≡ line_at entry x →
        e ≡ point_at at y →
        we ≡ side_word dx c y →
        tables_of lines' links' after ≡ appended dx (tables_of g.lines g.links before) k s f e we →
        final ≡ counted stock after.count →
        given_of lines' links' g.points g.directory final ≡ stroke_given dx c r entry g (x ⟶ y)
    unfolding stroke_given
    by-appending {f} {e} {we} a b is_f is-e is-we done is-final =
        with-rule g (λ t k. appended dx t k s f e we) stocked done is-final
        ∙ rw (sym at_from ∙ a, sym at-to ∙ b, start-point, end-point is-e, is_f, is-we)

    pub by-prepending : {h ws : ℕ} {lines' links' : List ℕ} {after : Progress} {final : Play} →
        from ≡ false →
        to ≡ true →
        h ≡ line_at entry y →
        ws ≡ side_word dx c x →
        tables_of lines' links' after ≡ prepended dx (tables_of g.lines g.links before) k s h ws →
        final ≡ counted stock after.count →
        given_of lines' links' g.points g.directory final ≡ stroke_given dx c r entry g (x ⟶ y)
    unfolding stroke_given
    by-prepending {h} {ws} a b is-h is-ws done is-final =
        with-rule g (λ t k. prepended dx t k s h ws) stocked done is-final
        ∙ rw (sym at_from ∙ a, sym at-to ∙ b, start-point, is-h, is-ws)

    pub by-starting : {e ws we : ℕ} {lines' links' : List ℕ} {after : Progress} {final : Play} →
        from ≡ false →
        to ≡ false →
        e ≡ point_at at y →
        ws ≡ side_word dx c x →
        we ≡ side_word dx c y →
        tables_of lines' links' after ≡ started dx (tables_of g.lines g.links before) k s e ws we →
        final ≡ counted stock after.count →
        given_of lines' links' g.points g.directory final ≡ stroke_given dx c r entry g (x ⟶ y)
    unfolding stroke_given
    by-starting {e} {ws} {we} a b is-e is-ws is-we done is-final =
        with-rule g (λ t k. started dx t k s e ws we) stocked done is-final
        ∙ rw (sym at_from ∙ a, sym at-to ∙ b, start-point, end-point is-e, is-ws, is-we)
