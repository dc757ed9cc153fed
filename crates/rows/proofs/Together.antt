-- The rings of all calls together: rings are only ever added behind those that are there, so what the calls give out one after the other is what the whole grid gives.
-- Assumes nothing.
use mathlib.Core.Path.{◌≡◌, refl, sym, ◌∙◌, ap}
use mathlib.Core.Bool.{Bool, true, false, cond}
use mathlib.Core.List.{List, [], ◌∷◌, ◌++◌, append_assoc, append-nil}
use Prim.Native.Nat.{ℕ, zero, suc}
use lib.Dec.{eqb, ltb}
use lib.ListN.{length, drop}
use Rattle.scope.specs.Terrain.{Sheet}
use Rattle.scope.specs.Cells.{Segment, cell_segments}
use Rattle.scope.specs.Stitching as rules
use Rattle.scope.specs.Stitching.{Line, Drawing, find, starts_at, ends_at, nothing, stitch_at, stitch, stitch_all}
use Rattle.scope.specs.Drawing.{along, down, up_to, with_cell, segments_after, drawing_after, rings_after, rings_of}
use Rattle.laws.proofs.Cellwise.{stitch-append}
use Rattle.rows.specs.Turns.{call_rings, all_rings}

drop-front : (xs ys : List Line) → drop (length xs) (xs ++ ys) ≡ ys
drop-front [] ys = refl
drop-front (x ∷ xs) ys = drop-front xs ys

-- a drawing's rings stand in front of those of the drawing after it
abbrev Behind : Drawing → Drawing → Type 0
Behind d d' = (more : List Line) × (d'.rings ≡ d.rings ++ more)

stitched-behind : (d : Drawing) (σ : Segment) → Behind d (stitch d σ)
unfolding stitch stitch_at rules.close rules.join rules.append rules.prepend rules.start
stitched-behind d σ =
    by (ltb (find (ends_at σ.from) d.lines) (length d.lines)) (ltb (find (starts_at σ.to) d.lines) (length d.lines))
    (eqb (find (ends_at σ.from) d.lines) (find (starts_at σ.to) d.lines))
  where
    f : ℕ
    f = find (ends_at σ.from) d.lines

    g : ℕ
    g = find (starts_at σ.to) d.lines

    by : (a b c : Bool) → Behind d (cond a (cond b (cond c (rules.close d f σ.to) (rules.join d f g)) (rules.append d f σ.to)) (cond b (rules.prepend d g σ.from) (rules.start d σ.from σ.to)))
    by true true true = (_, refl)
    by true true false = ([], sym (append-nil d.rings))
    by true false c = ([], sym (append-nil d.rings))
    by false true c = ([], sym (append-nil d.rings))
    by false false c = ([], sym (append-nil d.rings))

all-behind : (d : Drawing) (σs : List Segment) → Behind d (stitch_all d σs)
unfolding stitch_all
all-behind d [] = ([], sym (append-nil d.rings))
all-behind d (σ ∷ σs) =
    let one = stitched-behind d σ in
    let rest = all-behind (stitch d σ) σs in
    (one.0 ++ rest.0, rest.1 ∙ ap (λ (l : List Line). l ++ rest.0) one.1 ∙ append_assoc d.rings one.0 rest.0)

module _ (A : Sheet) (dx : ℕ) where
  -- the segments of c cells of a row stand behind those of the rows before
  row-behind : (r c : ℕ) → (more : List Segment) × (segments_after A dx r c ≡ segments_after A dx r 0 ++ more)
  unfolding segments_after up_to along with_cell
  row-behind r zero = ([], sym (append-nil (segments_after A dx r 0)))
  row-behind r (suc c) =
      let so_far = row-behind r c in
      (so_far.0 ++ cell_segments A c r, ap (λ (l : List Segment). l ++ cell_segments A c r) so_far.1 ∙ append_assoc (segments_after A dx r 0) so_far.0 (cell_segments A c r))

  rings-behind : (r c : ℕ) → Behind (drawing_after A dx r 0) (drawing_after A dx r c)
  unfolding drawing_after
  rings-behind r c =
      let more = row-behind r c in
      let after = all-behind (stitch_all nothing (segments_after A dx r 0)) more.0 in
      (after.0, ap (λ (σs : List Segment). (stitch_all nothing σs).rings) more.1 ∙ ap (λ (d : Drawing). d.rings) (stitch-append nothing (segments_after A dx r 0) more.0) ∙ after.1)

  -- after c cells of row r: the rings so far and those that came since the row began
  pub rings-since : (r c : ℕ) → rings_after A dx r c ≡ rings_after A dx r 0 ++ drop (length (rings_after A dx r 0)) (rings_after A dx r c)
  unfolding rings_after
  rings-since r c =
      let after = rings-behind r c in
      after.1 ∙ ap (λ (l : List Line). (drawing_after A dx r 0).rings ++ l) (sym (drop-front (drawing_after A dx r 0).rings after.0) ∙ ap (drop (length (drawing_after A dx r 0).rings)) (sym after.1))

  pub row-over : (r : ℕ) → drawing_after A dx (suc r) 0 ≡ drawing_after A dx r (suc dx)
  unfolding drawing_after segments_after up_to along down
  row-over r = refl

  none_yet : rings_after A dx 0 0 ≡ []
  unfolding rings_after drawing_after segments_after up_to along down stitch_all nothing
  none_yet = refl

  rings-over : (r : ℕ) → rings_after A dx (suc r) 0 ≡ rings_after A dx r (suc dx)
  unfolding rings_after
  rings-over r = ap (λ (d : Drawing). d.rings) (row-over r)

  call-behind : (r : ℕ) → rings_after A dx r (suc dx) ≡ rings_after A dx r 0 ++ call_rings A dx r
  unfolding call_rings
  call-behind r = rings-since r (suc dx)

  -- the rings of the first n calls
  pub calls-together : (n : ℕ) → all_rings A dx n ≡ rings_after A dx n 0
  unfolding all_rings
  calls-together zero = sym none_yet
  calls-together (suc n) = ap (λ (l : List Line). l ++ call_rings A dx n) (calls-together n) ∙ sym (call-behind n) ∙ sym (rings-over n)

  -- of all calls
  pub all-calls-together : (dy : ℕ) → all_rings A dx (suc dy) ≡ rings_of A dx dy
  unfolding rings_of
  all-calls-together dy = calls-together (suc dy) ∙ rings-over dy
