-- A line goes, whatever the links then hold for it: the lines that are left are held in their new slots, and every tip of theirs is filed there. The last line's
-- tips lie on columns, so its new slot is filed under their words. Assumes nothing.
use mathlib.Core.Path.{◌≡◌, sym, ◌∙◌, ap, subst}
use mathlib.Core.Bool.{true}
use mathlib.Core.List.{List, []}
use Prim.Native.Nat.{ℕ, suc, ◌+◌, ◌-◌, ◌*◌, ◌%◌, ◌≤◌, ◌<◌}
use native.Mathlib.Omega.{arith}
use lib.ListN.{length, get_or}
use Rattle.scope.specs.Cells.{Point, indexed_point}
use Rattle.scope.specs.Stitching.{Line, Drawing, without}
use Rattle.laws.proofs.Total.{total}
use Rattle.laws.proofs.Strokes.{Role, begin, finish}
use Rattle.laws.proofs.Tips.{Tip, tip_by, edge_word, WordsApart}
use Rattle.machine.specs.Machine.{column_word, first_link, last_link, end_point, link_point, with_next, released, Tables}
use Rattle.machine.proofs.Views.{slot_at, point-of-with_next, next-of-other}
use Rattle.machine.proofs.Chains.{uses, uses-last}
use Rattle.machine.proofs.Held.{HeldLine, Held, Still, line-still, rings-still, one-chain}
use Rattle.machine.proofs.Removal.{drop_at, one_fewer, chains-left, total_left, place-left, count_left, held-left}
use Rattle.machine.proofs.Ready.{used}
use Rattle.machine.proofs.Filing.{start-tip, end-tip, starts_is, ends_is, tip-index, word-in-frontier, column-of-even, Filed, filed-left}

-- every tip counts
abbrev pub all : Point → Type 0
all p = Unit {0}

-- no line of the drawing has a tip of odd x
abbrev pub Columns : List Line → Type 0
Columns ls = (i : ℕ) → i < length ls → (p : Point) → Tip p (get_or ls i []) → p.x % 2 ≡ 1 → ⊥

-- the word of a held line's tip lies in the frontier
pub tip-framed : (dx : ℕ) (links : List ℕ) (table : List ℕ) (i : ℕ) (chain : List ℕ) (line : Line) → HeldLine dx links (slot_at dx table i) chain line → (p : Point) → Tip p line → edge_word dx p < dx + 2
tip-framed dx links table i chain line held p tip =
    let index = tip-index dx links (slot_at dx table i) chain line held p tip in
    rw index.1 (word-in-frontier dx index.0)

-- the tips of a held line of even tips, by the columns of its first link and its end
module _ (dx : ℕ) (table links chain : List ℕ) (m : ℕ) (line : Line) (held : HeldLine dx links (slot_at dx table m) chain line) (even : (p : Point) → Tip p line → p.x % 2 ≡ 1 → ⊥) where
  pub first-column : (p : Point) × Tip p line × (edge_word dx p ≡ column_word dx (link_point links (first_link dx table m)))
  first-column =
      let tip = start-tip dx links (slot_at dx table m) chain line held in
      (indexed_point dx (link_point links (first_link dx table m)), tip, column-of-even dx (link_point links (first_link dx table m)) (even (indexed_point dx (link_point links (first_link dx table m))) tip))

  pub end-column : (p : Point) × Tip p line × (edge_word dx p ≡ column_word dx (end_point dx table m))
  end-column =
      let tip = end-tip dx links (slot_at dx table m) chain line held in
      (indexed_point dx (end_point dx table m), tip, column-of-even dx (end_point dx table m) (even (indexed_point dx (end_point dx table m)) tip))

  pub which-column : (p : Point) → Tip p line → (edge_word dx p ≡ column_word dx (link_point links (first_link dx table m)) → ⊥) → edge_word dx p ≡ column_word dx (end_point dx table m)
  unfolding first-column end-column
  which-column p tip ne = by tip.role tip.there
    where
      by : (role : Role) → tip_by role p line ≡ true → edge_word dx p ≡ column_word dx (end_point dx table m)
      by begin h = absurd (ne (ap (edge_word dx) (starts_is dx links (slot_at dx table m) chain line held p h) ∙ first-column.2))
      by finish h = ap (edge_word dx) (ends_is dx links (slot_at dx table m) chain line held p h) ∙ end-column.2

-- ---- line g of a list goes, and the others are held over the links as they then are
module _ (dx : ℕ) (table links : List ℕ) (chains : List (List ℕ)) (ls : List Line) (count g : ℕ) (counted : count ≡ length ls) (chained : length chains ≡ length ls) (inside : g < length ls)
    (room : dx + 2 + 4 * length ls ≤ length table)
    (others : (i : ℕ) → i < length ls → (i ≡ g → ⊥) → HeldLine dx links (slot_at dx table i) (get_or chains i []) (get_or ls i []))
    (columns : Columns (without ls g)) where
  -- a line that stays has its tips on columns
  pub even-left : (i : ℕ) → i < length ls → (i ≡ g → ⊥) → (p : Point) → Tip p (get_or ls i []) → p.x % 2 ≡ 1 → ⊥
  even-left i hi away p tip =
      let place = place-left chains ls g chained inside i hi away in
      columns place.0 place.1 p (subst (Tip p) (sym place.2) tip)

  pub left-filed : ((i : ℕ) → i < length ls → (i ≡ g → ⊥) → (p : Point) → Tip p (get_or ls i []) → get_or table (edge_word dx p) 0 ≡ i)
      → ((i j : ℕ) → i < length ls → j < length ls → (i ≡ g → ⊥) → (j ≡ g → ⊥) → (p q : Point) → Tip p (get_or ls i []) → Tip q (get_or ls j []) → edge_word dx p ≡ edge_word dx q → i ≡ j)
      → Filed dx all (released dx table links (count - 1) g) (without ls g)
  unfolding without drop_at
  left-filed filed apart j hj p tip live =
      subst (λ (k : ℕ). get_or (released dx table links k g) (edge_word dx p) 0 ≡ j) (omega (arith, one_fewer chains ls g chained inside))
      (filed-left dx table links ls m g long (omega arith) (omega arith)
      (λ i hi away q was. filed i (omega arith) away q was)
      (λ i hi away q was. tip-framed dx links table i (get_or chains i []) (get_or ls i []) (others i (omega arith) away) q was)
      (λ i k hi hk ni nk q r was was' w. apart i k (omega arith) (omega arith) ni nk q r was was' w)
      (λ away. which-column dx table links (get_or chains m []) m (get_or ls m []) (others m (omega arith) away) (even-left m (omega arith) away))
      (λ away. first-column dx table links (get_or chains m []) m (get_or ls m []) (others m (omega arith) away) (even-left m (omega arith) away))
      (λ away. end-column dx table links (get_or chains m []) m (get_or ls m []) (others m (omega arith) away) (even-left m (omega arith) away))
      j (omega (arith, one_fewer chains ls g chained inside)) p tip)
    where
      m : ℕ
      m = length ls - 1

      long : length ls ≡ suc m
      long = omega arith

-- ---- line f of a drawing goes, and nothing is stored to the links of the others
module _ {dx bound : ℕ} {t : Tables} {d : Drawing} {chains loops : List (List ℕ)} (held : Held dx bound t d chains loops) (room : dx + 2 + 4 * length d.lines ≤ length t.lines)
    (f : ℕ) (hf : f < length d.lines) where
  -- the uses that are left
  pub leave-uses : (k : ℕ) → used (drop_at [] chains f) loops k + uses k (get_or chains f []) ≡ used chains loops k
  leave-uses k = omega (arith, total_left chains d.lines f held.chains-are hf (uses k))

  -- a store to what the line's last link holds leaves the other lines' links
  pub end-still : (v : ℕ) (i k : ℕ) → i < length d.lines → (i ≡ f → ⊥) → 1 ≤ uses k (get_or chains i []) → Still t.links (with_next t.links (last_link dx t.lines f) v) k
  end-still v i k hi ne u = record {
    point = point-of-with_next t.links (last_link dx t.lines f) v k;
    next = next-of-other t.links (last_link dx t.lines f) v k away;
  }
    where
      last-used : 1 ≤ uses (last_link dx t.lines f) (get_or chains f [])
      last-used = uses-last _ _ (get_or chains f []) (last_link dx t.lines f) (held.lines-held f hf).linked

      away : k ≡ last_link dx t.lines f → ⊥
      away e = omega (arith, held.once k, one-chain chains f i k (omega (arith, held.chains-are)) (omega (arith, held.chains-are)) ne, last-used, ap (λ (n : ℕ). uses n (get_or chains f [])) e)

  module _ (links' : List ℕ) (still : (i k : ℕ) → i < length d.lines → (i ≡ f → ⊥) → 1 ≤ uses k (get_or chains i []) → Still t.links links' k) where
    others-held : (i : ℕ) → i < length d.lines → (i ≡ f → ⊥) → HeldLine dx links' (slot_at dx t.lines i) (get_or chains i []) (get_or d.lines i [])
    others-held i hi ne = line-still dx t.links links' (slot_at dx t.lines i) (get_or chains i []) (get_or d.lines i []) (λ k u. still i k hi ne u) (held.lines-held i hi)

    pub leave-held : ((k : ℕ) → 1 ≤ total (uses k) loops → Still t.links links' k)
        → Held dx bound
        (record { lines = released dx t.lines links' (t.progress.count - 1) f; links = links'; progress = record { count = t.progress.count - 1; rings = t.progress.rings; head = t.progress.head; tail = t.progress.tail } })
        (record { lines = without d.lines f; rings = d.rings }) (drop_at [] chains f) loops
    leave-held rings = record {
      count-is = count_left chains d.lines f held.chains-are hf dx t.lines links' t.progress.count held.count-is room others-held;
      chains-are = chains-left chains d.lines f held.chains-are hf;
      lines-held = held-left chains d.lines f held.chains-are hf dx t.lines links' t.progress.count held.count-is room others-held;
      once = λ k. omega (arith, held.once k, leave-uses k);
      unused = λ k out. omega (arith, held.unused k out, leave-uses k);
      rings-are = held.rings-are;
      rings-held = rings-still dx t.links links' t.progress.head loops d.rings t.progress.tail rings held.rings-held;
    }

    pub leave-filed : Filed dx all t.lines d.lines → WordsApart dx d.lines → Columns (without d.lines f) → Filed dx all (released dx t.lines links' (t.progress.count - 1) f) (without d.lines f)
    leave-filed filed apart columns =
        left-filed dx t.lines links' chains d.lines t.progress.count f held.count-is held.chains-are hf room others-held columns
        (λ i hi away p tip. filed i hi p tip tt)
        (λ i j hi hj ni nj. apart i j hi hj)
