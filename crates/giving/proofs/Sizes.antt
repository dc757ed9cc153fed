-- What a slot says of its line's number of links, its fourth word, after each store: a store to the frontier leaves it, a store to a slot gives that slot its
-- own and leaves the others, and where a line goes the last one brings its number along. Assumes nothing.
use mathlib.Core.Path.{◌≡◌, sym, ◌∙◌, ap}
use mathlib.Core.Bool.{cond}
use mathlib.Core.List.{List, [], ◌∷◌, ◌++◌}
use Prim.Native.Nat.{ℕ, suc, ◌+◌, ◌-◌, ◌*◌, ◌≤◌, ◌<◌}
use native.Mathlib.Decide.{ℕ_discrete}
use native.Mathlib.Omega.{arith}
use lib.Dec.{eqb}
use lib.ListN.{length, get_or, set, length-set, length-append, get_or-append}
use lib.Seq.{get_or-set_same, get_or-set_other, get_or-append_seam}
use borrow.Author.Tests.{eq-eqb, ne_eqb}
use Rattle.scope.specs.Stitching.{Line, without}
use Rattle.laws.proofs.Sizes.{size}
use Rattle.machine.specs.Machine.{slot_word, column_word, first_link, last_link, end_point, link_count, link_point, with_slot, moved, released}
use Rattle.machine.proofs.Removal.{drop_at, drop-same, drop-other, length-drop-at, column-in-frontier}

module _ (dx : ℕ) (lines : List ℕ) where
  pub count-of-filed : (w v j : ℕ) → w < dx + 2 → link_count dx (set lines w v) j ≡ link_count dx lines j
  unfolding link_count slot_word
  count-of-filed w v j h = get_or-set_other lines w (dx + 2 + 4 * j + 3) v 0 (λ e. omega arith)

  module _ (i a b e z : ℕ) where
    pub count-of-other : (j : ℕ) → (j ≡ i → ⊥) → link_count dx (with_slot dx lines i a b e z) j ≡ link_count dx lines j
    unfolding link_count with_slot slot_word
    count-of-other j ne =
        get_or-set_other (set (set (set lines (dx + 2 + 4 * i + 0) a) (dx + 2 + 4 * i + 1) b) (dx + 2 + 4 * i + 2) e) (dx + 2 + 4 * i + 3) (dx + 2 + 4 * j + 3) z 0 (λ q. ne (omega arith))
        ∙ get_or-set_other (set (set lines (dx + 2 + 4 * i + 0) a) (dx + 2 + 4 * i + 1) b) (dx + 2 + 4 * i + 2) (dx + 2 + 4 * j + 3) e 0 (λ q. omega arith)
        ∙ get_or-set_other (set lines (dx + 2 + 4 * i + 0) a) (dx + 2 + 4 * i + 1) (dx + 2 + 4 * j + 3) b 0 (λ q. omega arith)
        ∙ get_or-set_other lines (dx + 2 + 4 * i + 0) (dx + 2 + 4 * j + 3) a 0 (λ q. omega arith)

    pub count-of-same : dx + 2 + 4 * (i + 1) ≤ length lines → link_count dx (with_slot dx lines i a b e z) i ≡ z
    unfolding link_count with_slot slot_word
    count-of-same h = get_or-set_same (set (set (set lines (dx + 2 + 4 * i + 0) a) (dx + 2 + 4 * i + 1) b) (dx + 2 + 4 * i + 2) e) (dx + 2 + 4 * i + 3) z 0 (simp length-set (omega arith))

-- each of the lines has its number of links, which is its size, in its slot
abbrev pub Sized : ℕ → List ℕ → List Line → Type 0
Sized dx table ls = (i : ℕ) → i < length ls → link_count dx table i ≡ size (get_or ls i [])

-- slot f stored anew, and a frontier word behind it
pub sized-anew : (dx : ℕ) (table : List ℕ) (ls : List Line) (f : ℕ) (line' : Line) (a b e z w v : ℕ) → w < dx + 2 → f < length ls → dx + 2 + 4 * (f + 1) ≤ length table
    → z ≡ size line' → Sized dx table ls → Sized dx (set (with_slot dx table f a b e z) w v) (set ls f line')
sized-anew dx table ls f line' a b e z w v hw hf room is-size sized i hi = by (ℕ_discrete i f)
  where
    below : i < length ls
    below = omega (arith, length-set ls f line')

    by : Dec (i ≡ f) → link_count dx (set (with_slot dx table f a b e z) w v) i ≡ size (get_or (set ls f line') i [])
    by (yes q) =
        count-of-filed dx (with_slot dx table f a b e z) w v i hw
        ∙ ap (link_count dx (with_slot dx table f a b e z)) q
        ∙ count-of-same dx table f a b e z room
        ∙ is-size
        ∙ sym (ap size (ap (λ (n : ℕ). get_or (set ls f line') n []) q ∙ get_or-set_same ls f line' [] hf))
    by (no q) =
        count-of-filed dx (with_slot dx table f a b e z) w v i hw
        ∙ count-of-other dx table f a b e z i q
        ∙ sized i below
        ∙ sym (ap size (get_or-set_other ls f i line' [] q))

-- a new slot, and two frontier words behind it
pub sized_new : (dx : ℕ) (table : List ℕ) (ls : List Line) (n : ℕ) (line' : Line) (a b e z w v w' v' : ℕ) → w < dx + 2 → w' < dx + 2 → n ≡ length ls → dx + 2 + 4 * (n + 1) ≤ length table
    → z ≡ size line' → Sized dx table ls → Sized dx (set (set (with_slot dx table n a b e z) w v) w' v') (ls ++ (line' ∷ []))
sized_new dx table ls n line' a b e z w v w' v' hw hw' last room is-size sized i hi = by (ℕ_discrete i n)
  where
    slots : link_count dx (set (set (with_slot dx table n a b e z) w v) w' v') i ≡ link_count dx (with_slot dx table n a b e z) i
    slots = count-of-filed dx (set (with_slot dx table n a b e z) w v) w' v' i hw' ∙ count-of-filed dx (with_slot dx table n a b e z) w v i hw

    by : Dec (i ≡ n) → link_count dx (set (set (with_slot dx table n a b e z) w v) w' v') i ≡ size (get_or (ls ++ (line' ∷ [])) i [])
    by (yes q) =
        slots
        ∙ ap (link_count dx (with_slot dx table n a b e z)) q
        ∙ count-of-same dx table n a b e z room
        ∙ is-size
        ∙ sym (ap size (ap (λ (k : ℕ). get_or (ls ++ (line' ∷ [])) k []) (q ∙ last) ∙ get_or-append_seam ls line' [] []))
    by (no q) =
        slots
        ∙ count-of-other dx table n a b e z i q
        ∙ sized i (below q)
        ∙ sym (ap size (get_or-append ls (line' ∷ []) [] i (below q)))
      where
        below : (i ≡ n → ⊥) → i < length ls
        below ne = omega (arith, length-append ls (line' ∷ []), last)

-- line g goes
module _ (dx : ℕ) (table links : List ℕ) (m g : ℕ) where
  stored : List ℕ
  stored = with_slot dx table g (first_link dx table m) (last_link dx table m) (end_point dx table m) (link_count dx table m)

  filed : (j : ℕ) → link_count dx (moved dx table links m g) j ≡ link_count dx stored j
  unfolding moved stored
  filed j =
      count-of-filed dx (set stored (column_word dx (link_point links (first_link dx table m))) g) (column_word dx (end_point dx table m)) g j (omega (arith, column-in-frontier dx (end_point dx table m)))
      ∙ count-of-filed dx stored (column_word dx (link_point links (first_link dx table m))) g j (omega (arith, column-in-frontier dx (link_point links (first_link dx table m))))

  count-moved : dx + 2 + 4 * (g + 1) ≤ length table → link_count dx (moved dx table links m g) g ≡ link_count dx table m
  unfolding stored
  count-moved h = filed g ∙ count-of-same dx table g (first_link dx table m) (last_link dx table m) (end_point dx table m) (link_count dx table m) h

  count_kept : (j : ℕ) → (j ≡ g → ⊥) → link_count dx (moved dx table links m g) j ≡ link_count dx table j
  unfolding stored
  count_kept j ne = filed j ∙ count-of-other dx table g (first_link dx table m) (last_link dx table m) (end_point dx table m) (link_count dx table m) j ne

-- the lines that are left have their numbers in their new slots
pub sized-left : (dx : ℕ) (table links : List ℕ) (ls : List Line) (count g : ℕ) → count ≡ length ls → g < length ls → dx + 2 + 4 * length ls ≤ length table
    → ((i : ℕ) → i < length ls → (i ≡ g → ⊥) → link_count dx table i ≡ size (get_or ls i []))
    → Sized dx (released dx table links (count - 1) g) (without ls g)
unfolding without drop_at released
sized-left dx table links ls count g counted hg room sized j hj = by (ℕ_discrete g m) (ℕ_discrete j g)
  where
    m : ℕ
    m = count - 1

    long : length ls ≡ suc m
    long = omega (arith, counted)

    below : j < m
    below = omega (arith, length-drop-at [] ls g m long hg)

    others : (j ≡ g → ⊥) → link_count dx table j ≡ size (get_or (drop_at [] ls g) j [])
    others ne = sized j (omega (arith, long, below)) ne ∙ sym (ap size (drop-other [] ls g m long hg j below ne))

    by : Dec (g ≡ m) → Dec (j ≡ g) → link_count dx (cond (eqb g m) table (moved dx table links m g)) j ≡ size (get_or (drop_at [] ls g) j [])
    by (yes e) q = rw (eq-eqb g m e) (others (λ k. omega (arith, below)))
    by (no ne) (yes q) =
        rw (ne_eqb g m ne, q)
        (count-moved dx table links m g (omega (arith, long))
        ∙ sized m (omega (arith, long)) (λ k. ne (sym k))
        ∙ sym (ap size (drop-same [] ls g m long hg (omega (arith, long)))))
    by (no ne) (no q) = rw (ne_eqb g m ne) (count_kept dx table links m g j q ∙ others q)
