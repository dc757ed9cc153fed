-- A machine that draws by the five rules, as one cell asks for it: a state with a frontier, what it means that it carries a drawing of n segments, what room that
-- takes, and the five rules, each of which carries the drawing after it where that drawing has room. Cells are drawn over any such machine. Assumes nothing.
use mathlib.Core.Path.{◌≡◌, refl}
use mathlib.Core.Bool.{true, cond}
use mathlib.Core.List.{List, [], ◌∷◌, ◌++◌}
use Prim.Native.Nat.{ℕ, suc, ◌+◌, ◌<◌}
use lib.Dec.{eqb}
use lib.ListN.{length, get_or, length-set, length-append}
use Rattle.scope.specs.declared.Side.TheVariants.{Left, Right, Top, Bottom}
use Rattle.scope.specs.Cells.{Point, Stroke, ◌⟶◌, point_of, point_index, indexed_point}
use Rattle.scope.specs.Stitching as rules
use Rattle.scope.specs.Stitching.{Drawing, starts_at, ends_at}
use Rattle.laws.proofs.Tips.{Tip, edge_word, WordsApart}
use Rattle.machine.specs.Machine.{Entry}
use Rattle.machine.proofs.Filing.{Filed}
use Rattle.machine.proofs.Leaving.{all, Columns}

-- ---- how many lines and rings a rule leaves

pub lines-appended : (d : Drawing) (f : ℕ) (p : Point) → length (rules.append d f p).lines ≡ length d.lines
unfolding rules.append
lines-appended d f p = length-set d.lines f (get_or d.lines f [] ++ (p ∷ []))

pub lines-prepended : (d : Drawing) (g : ℕ) (p : Point) → length (rules.prepend d g p).lines ≡ length d.lines
unfolding rules.prepend
lines-prepended d g p = length-set d.lines g (p ∷ get_or d.lines g [])

pub lines-started : (d : Drawing) (p q : Point) → length (rules.start d p q).lines ≡ length d.lines + 1
unfolding rules.start
lines-started d p q = length-append d.lines ((p ∷ q ∷ []) ∷ [])

pub rings-appended : (d : Drawing) (f : ℕ) (p : Point) → (rules.append d f p).rings ≡ d.rings
unfolding rules.append
rings-appended d f p = refl

pub rings-started : (d : Drawing) (p q : Point) → (rules.start d p q).rings ≡ d.rings
unfolding rules.start
rings-started d p q = refl

pub rings-closed : (d : Drawing) (f : ℕ) (p : Point) → length (rules.close d f p).rings ≡ length d.rings + 1
unfolding rules.close
rings-closed d f p = length-append d.rings ((get_or d.lines f [] ++ (p ∷ [])) ∷ [])

-- ---- the machine

pub record Carrier (dx : ℕ) : Type 1 where
  pub State : Type 0
  -- the table in which tips are filed
  pub frontier : State → List ℕ
  -- holds the drawing of n segments, the tips that count filed
  pub Carries : ℕ → (Point → Type 0) → Drawing → State → Type 0
  -- there is room for the drawing of n segments
  pub Fits : ℕ → Drawing → Type 0
  pub filed : (n : ℕ) (live : Point → Type 0) (d : Drawing) (t : State) → Carries n live d t → Filed dx live (frontier t) d.lines
  -- from the point of index s to that of e: line f grows by e, whose frontier word is w; line g gets s in front; a new line; g goes behind f; line f closes
  pub appended : State → (s f e w : ℕ) → State
  pub prepended : State → (s g w : ℕ) → State
  pub started : State → (s e v w : ℕ) → State
  pub joined : State → (s f g : ℕ) → State
  pub closed : State → (s f : ℕ) → State
  pub append-carried : (n : ℕ) (live live' : Point → Type 0) (d : Drawing) (t : State) → Carries n live d t → (s e f : ℕ) → f < length d.lines
      → ends_at (indexed_point dx s) (get_or d.lines f []) ≡ true
      → Fits (suc n) (rules.append d f (indexed_point dx e))
      → ((i : ℕ) → i < length d.lines → (p : Point) → Tip p (get_or (rules.append d f (indexed_point dx e)).lines i []) → live' p → edge_word dx p ≡ edge_word dx (indexed_point dx e) → i ≡ f)
      → ((i : ℕ) → i < length d.lines → (p : Point) → Tip p (get_or (rules.append d f (indexed_point dx e)).lines i []) → live' p → (p ≡ indexed_point dx e → ⊥) → live p)
      → Carries (suc n) live' (rules.append d f (indexed_point dx e)) (appended t s f e (edge_word dx (indexed_point dx e)))
  pub prepend-carried : (n : ℕ) (live live' : Point → Type 0) (d : Drawing) (t : State) → Carries n live d t → (s e g : ℕ) → g < length d.lines
      → starts_at (indexed_point dx e) (get_or d.lines g []) ≡ true
      → Fits (suc n) (rules.prepend d g (indexed_point dx s))
      → ((i : ℕ) → i < length d.lines → (p : Point) → Tip p (get_or (rules.prepend d g (indexed_point dx s)).lines i []) → live' p → edge_word dx p ≡ edge_word dx (indexed_point dx s) → i ≡ g)
      → ((i : ℕ) → i < length d.lines → (p : Point) → Tip p (get_or (rules.prepend d g (indexed_point dx s)).lines i []) → live' p → (p ≡ indexed_point dx s → ⊥) → live p)
      → Carries (suc n) live' (rules.prepend d g (indexed_point dx s)) (prepended t s g (edge_word dx (indexed_point dx s)))
  pub start-carried : (n : ℕ) (live live' : Point → Type 0) (d : Drawing) (t : State) → Carries n live d t → (s e : ℕ)
      → Fits (suc n) (rules.start d (indexed_point dx s) (indexed_point dx e))
      → ((i : ℕ) → i < length d.lines → (p : Point) → Tip p (get_or d.lines i []) → (edge_word dx p ≡ edge_word dx (indexed_point dx s) → ⊥) × (edge_word dx p ≡ edge_word dx (indexed_point dx e) → ⊥))
      → ((i : ℕ) → i < length d.lines → (p : Point) → Tip p (get_or d.lines i []) → live' p → live p)
      → Carries (suc n) live' (rules.start d (indexed_point dx s) (indexed_point dx e)) (started t s e (edge_word dx (indexed_point dx s)) (edge_word dx (indexed_point dx e)))
  -- where a line goes, the drawing before has room too, and what is left open lies on columns
  pub join-carried : (n : ℕ) (d : Drawing) (t : State) → Carries n all d t → Fits n d → WordsApart dx d.lines
      → (s e f g : ℕ) → f < length d.lines → g < length d.lines → (f ≡ g → ⊥)
      → ends_at (indexed_point dx s) (get_or d.lines f []) ≡ true → starts_at (indexed_point dx e) (get_or d.lines g []) ≡ true
      → Fits (suc n) (rules.join d f g) → Columns (rules.join d f g).lines
      → Carries (suc n) all (rules.join d f g) (joined t s f g)
  pub close-carried : (n : ℕ) (d : Drawing) (t : State) → Carries n all d t → Fits n d → WordsApart dx d.lines
      → (s e f : ℕ) → f < length d.lines
      → ends_at (indexed_point dx s) (get_or d.lines f []) ≡ true → starts_at (indexed_point dx e) (get_or d.lines f []) ≡ true
      → Fits (suc n) (rules.close d f (indexed_point dx e)) → Columns (rules.close d f (indexed_point dx e)).lines
      → Carries (suc n) all (rules.close d f (indexed_point dx e)) (closed t s f)
  -- what has room after an append or a start had it before
  pub fits-append : (n : ℕ) (d : Drawing) (f : ℕ) (p : Point) → f < length d.lines → Fits (suc n) (rules.append d f p) → Fits n d
  pub fits-start : (n : ℕ) (d : Drawing) (p q : Point) → Fits (suc n) (rules.start d p q) → Fits n d

-- ---- the strokes of a cell in column c, as the table machine goes by their sides: Left and Top have a line, Right and Bottom have none yet
module _ {dx : ℕ} (C : Carrier dx) (c : ℕ) (entry : Entry) where
  unfoldable pub stroke_drawn : C.State → Stroke → ℕ → ℕ → C.State
  stroke_drawn t (Left ⟶ Top) s e = cond (eqb entry.left entry.top) (C.closed t s entry.left) (C.joined t s entry.left entry.top)
  stroke_drawn t (Top ⟶ Left) s e = cond (eqb entry.top entry.left) (C.closed t s entry.top) (C.joined t s entry.top entry.left)
  stroke_drawn t (Left ⟶ Right) s e = C.appended t s entry.left e (dx + 1)
  stroke_drawn t (Left ⟶ Bottom) s e = C.appended t s entry.left e c
  stroke_drawn t (Top ⟶ Right) s e = C.appended t s entry.top e (dx + 1)
  stroke_drawn t (Top ⟶ Bottom) s e = C.appended t s entry.top e c
  stroke_drawn t (Right ⟶ Left) s e = C.prepended t s entry.left (dx + 1)
  stroke_drawn t (Bottom ⟶ Left) s e = C.prepended t s entry.left c
  stroke_drawn t (Right ⟶ Top) s e = C.prepended t s entry.top (dx + 1)
  stroke_drawn t (Bottom ⟶ Top) s e = C.prepended t s entry.top c
  stroke_drawn t (Right ⟶ Bottom) s e = C.started t s e (dx + 1) c
  stroke_drawn t (Bottom ⟶ Right) s e = C.started t s e c (dx + 1)
  stroke_drawn t (Left ⟶ Left) s e = t
  stroke_drawn t (Right ⟶ Right) s e = t
  stroke_drawn t (Top ⟶ Top) s e = t
  stroke_drawn t (Bottom ⟶ Bottom) s e = t

  -- one after the other, in row r; the points by their index
  unfoldable pub strokes_drawn : ℕ → C.State → List Stroke → C.State
  strokes_drawn r t [] = t
  strokes_drawn r t ((s ⟶ e) ∷ strokes) = strokes_drawn r (stroke_drawn t (s ⟶ e) (point_index dx (point_of c r s)) (point_index dx (point_of c r e))) strokes
