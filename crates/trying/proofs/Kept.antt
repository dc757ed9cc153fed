-- What a cell does to the two largest numbers of a trial: its strokes leave them, and at its end each is raised to what stands then. Assumes nothing.
use mathlib.Core.Path.{◌≡◌, refl, sym, ◌∙◌, ap}
use mathlib.Core.Bool.{Bool, true, false, cond}
use mathlib.Core.List.{List, [], ◌∷◌}
use Prim.Native.Nat.{ℕ, zero, suc, ◌≤◌, max}
use native.Mathlib.Nat.{max-eq_left, le-max_right}
use native.Mathlib.Omega.{arith}
use lib.Dec.{eqb}
use lib.ListN.{get_or}
use Rattle.scope.specs.declared.Side.TheVariants.{Left, Right, Top, Bottom}
use Rattle.scope.specs.Cells.{Stroke, ◌⟶◌}
use Rattle.machine.specs.Machine.{side_word}
use Rattle.trying.specs.declared.Trial.{Trial}
use Rattle.trying.specs.Notes.{place_in}
use Rattle.trying.specs.Trying.{Tried, close_tried, join_tried, meet_tried, stroke_tried, strokes_tried, strokes_reached}

-- the two largest numbers are the same
pub record Kept (t u : Trial) : Type 0 where
  pub peak-kept : u.peak ≡ t.peak
  pub most-kept : u.most ≡ t.most

after_both : {t u v : Trial} → Kept t u → Kept u v → Kept t v
after_both k l = record { peak-kept = l.peak-kept ∙ k.peak-kept; most-kept = l.most-kept ∙ k.most-kept }

meet-kept : (t : Tried) (s e : ℕ) → Kept t.trial (meet_tried t s e).trial
meet-kept t s e = by (eqb (place_in (get_or t.words s 0)) e)
  where
    by : (b : Bool) → Kept t.trial (cond b (close_tried t s e) (join_tried t s e)).trial
    by true = record { peak-kept = refl; most-kept = refl }
    by false = record { peak-kept = refl; most-kept = refl }

stroke-kept : (dx c : ℕ) (t : Tried) (σ : Stroke) → Kept t.trial (stroke_tried dx c t σ).trial
unfolding stroke_tried
stroke-kept dx c t (Left ⟶ Left) = meet-kept t (side_word dx c Left) (side_word dx c Left)
stroke-kept dx c t (Left ⟶ Top) = meet-kept t (side_word dx c Left) (side_word dx c Top)
stroke-kept dx c t (Left ⟶ Right) = record { peak-kept = refl; most-kept = refl }
stroke-kept dx c t (Left ⟶ Bottom) = record { peak-kept = refl; most-kept = refl }
stroke-kept dx c t (Top ⟶ Left) = meet-kept t (side_word dx c Top) (side_word dx c Left)
stroke-kept dx c t (Top ⟶ Top) = meet-kept t (side_word dx c Top) (side_word dx c Top)
stroke-kept dx c t (Top ⟶ Right) = record { peak-kept = refl; most-kept = refl }
stroke-kept dx c t (Top ⟶ Bottom) = record { peak-kept = refl; most-kept = refl }
stroke-kept dx c t (Right ⟶ Left) = record { peak-kept = refl; most-kept = refl }
stroke-kept dx c t (Right ⟶ Top) = record { peak-kept = refl; most-kept = refl }
stroke-kept dx c t (Right ⟶ Right) = record { peak-kept = refl; most-kept = refl }
stroke-kept dx c t (Right ⟶ Bottom) = record { peak-kept = refl; most-kept = refl }
stroke-kept dx c t (Bottom ⟶ Left) = record { peak-kept = refl; most-kept = refl }
stroke-kept dx c t (Bottom ⟶ Top) = record { peak-kept = refl; most-kept = refl }
stroke-kept dx c t (Bottom ⟶ Right) = record { peak-kept = refl; most-kept = refl }
stroke-kept dx c t (Bottom ⟶ Bottom) = record { peak-kept = refl; most-kept = refl }

strokes-kept : (dx c : ℕ) (t : Tried) (strokes : List Stroke) → Kept t.trial (strokes_tried dx c t strokes).trial
unfolding strokes_tried
strokes-kept dx c t [] = record { peak-kept = refl; most-kept = refl }
strokes-kept dx c t (σ ∷ []) = stroke-kept dx c t σ
strokes-kept dx c t ((Left ⟶ e) ∷ τ ∷ rest) = after_both (stroke-kept dx c t (Left ⟶ e)) (stroke-kept dx c (stroke_tried dx c t (Left ⟶ e)) τ)
strokes-kept dx c t ((Right ⟶ e) ∷ τ ∷ rest) = record { peak-kept = refl; most-kept = refl }
strokes-kept dx c t ((Top ⟶ e) ∷ τ ∷ rest) = record { peak-kept = refl; most-kept = refl }
strokes-kept dx c t ((Bottom ⟶ e) ∷ τ ∷ rest) = record { peak-kept = refl; most-kept = refl }

-- from before a cell, by the counts that its strokes leave, to after it
pub record Reaches (t u v : Trial) : Type 0 where
  pub lines_stay : v.lines ≡ u.lines
  pub held-stay : v.held ≡ u.held
  pub rings-stay : v.rings ≡ u.rings
  pub points-stay : v.points ≡ u.points
  pub peak-raised : v.peak ≡ max t.peak u.lines
  pub most-raised : v.most ≡ max t.most u.held

pub reaches : (dx c : ℕ) (t : Tried) (strokes : List Stroke) → t.trial.lines ≤ t.trial.peak → t.trial.held ≤ t.trial.most
    → Reaches t.trial (strokes_tried dx c t strokes).trial (strokes_reached dx c t strokes).trial
unfolding strokes_reached
reaches dx c t [] hl hh =
    unfold strokes_tried in
    record {
      lines_stay = refl;
      held-stay = refl;
      rings-stay = refl;
      points-stay = refl;
      peak-raised = sym (max-eq_left hl);
      most-raised = sym (max-eq_left hh);
    }
reaches dx c t (σ ∷ σs) hl hh = record {
  lines_stay = refl;
  held-stay = refl;
  rings-stay = refl;
  points-stay = refl;
  peak-raised = ap (λ (n : ℕ). max n (strokes_tried dx c t (σ ∷ σs)).trial.lines) (strokes-kept dx c t (σ ∷ σs)).peak-kept;
  most-raised = ap (λ (n : ℕ). max n (strokes_tried dx c t (σ ∷ σs)).trial.held) (strokes-kept dx c t (σ ∷ σs)).most-kept;
}

pub words-reached : (dx c : ℕ) (t : Tried) (strokes : List Stroke) → (strokes_reached dx c t strokes).words ≡ (strokes_tried dx c t strokes).words
unfolding strokes_reached
words-reached dx c t [] = unfold strokes_tried in refl
words-reached dx c t (σ ∷ σs) = refl

-- ---- the largest of a row

-- the largest of the values at 0 to n
unfoldable pub highest : (ℕ → ℕ) → ℕ → ℕ
highest f zero = f 0
highest f (suc n) = max (highest f n) (f (suc n))

pub none-higher : (f : ℕ → ℕ) (n : ℕ) → f n ≤ highest f n
unfolding highest
none-higher f zero = omega arith
none-higher f (suc n) = le-max_right (highest f n) (f (suc n))

-- where the value at 1 is no less, the value at 0 may be left out
pub from_one : (f : ℕ → ℕ) → f 0 ≤ f 1 → (n : ℕ) → highest f (suc n) ≡ highest (λ k. f (suc k)) n
unfolding highest
from_one f h zero = omega (arith, h)
from_one f h (suc n) = ap (λ (m : ℕ). max m (f (suc (suc n)))) (from_one f h n)
