-- One stitch that takes a line away, filed: two lines join, or one closes. The last line's tips lie on columns, so its new slot is filed under their words.
-- Assumes nothing.
use mathlib.Core.Path.{◌≡◌, refl, sym, ◌∙◌, ap, subst}
use mathlib.Core.Bool.{Bool, true, false, cond}
use mathlib.Core.List.{List, [], ◌∷◌, ◌++◌}
use Prim.Native.Nat.{ℕ, ◌+◌, ◌-◌, ◌*◌, ◌%◌, ◌^◌, ◌≤◌, ◌<◌}
use native.Mathlib.Decide.{ℕ_discrete}
use native.Mathlib.Omega.{arith}
use lib.Dec.{eqb}
use lib.ListN.{length, get_or, set, drop, length-set}
use lib.Seq.{get_or-set_same, get_or-set_other}
use borrow.Author.Tests.{eq-eqb, ne_eqb}
use Rattle.scope.specs.Cells.{Point, indexed_point}
use Rattle.scope.specs.Stitching as rules
use Rattle.scope.specs.Stitching.{Line, Drawing, starts_at, ends_at, without}
use Rattle.laws.proofs.Total.{total}
use Rattle.laws.proofs.Ends.{start-of-joined, end-of-joined}
use Rattle.laws.proofs.Strokes.{Role, begin, finish}
use Rattle.laws.proofs.Tips.{Tip, tip_by, edge_word, WordsApart}
use Rattle.machine.specs.Machine.{mark, word_of, column_word, first_link, last_link, end_point, link_count, link_point, with_slot, with_next, with_link, released, Tables, joined_links, joined_lines, joined, closed_links, closed}
use Rattle.machine.proofs.Views.{slot_at, length-with_slot, frontier-of-with_slot, length-with_next, length-with_link, past-filed, past-with_slot, past-with_next, past-with_link}
use Rattle.machine.proofs.Chains.{uses}
use Rattle.machine.proofs.Held.{HeldLine, Still}
use Rattle.machine.proofs.Removal.{drop_at, length-released, column-in-frontier, past-released}
use Rattle.machine.proofs.Ready.{last-below}
use Rattle.machine.proofs.Join.{joined-others, join-uses, join-still, join-held}
use Rattle.machine.proofs.Close.{tail-below, closed-others, close-held}
use Rattle.machine.proofs.Filing.{starts_is, ends_is, ends-at-end, column-of-even, Filed, Framed}
use Rattle.machine.proofs.Leaving.{all, Columns, even-left, left-filed, leave-held, leave-filed}
use Rattle.machine.proofs.Steps.{Kept, Carried, Handed, Grown, ready, frontier-fits, framed-by}

module _ (dx h room : ℕ) (kept : Kept) (bound bound' : ℕ) (d : Drawing) (t : Tables) (now : Carried dx h room kept bound all d t)
    (n : ℕ) (handed : Handed room bound bound' now.chains now.loops n) (s e : ℕ) (fits : length d.lines ≤ h) (apart : WordsApart dx d.lines) where
  lines-framed : Framed dx d.lines
  lines-framed = framed-by dx bound t d now.chains now.loops now.held

  slots-fit : dx + 2 + 4 * length d.lines ≤ length t.lines
  slots-fit = omega (arith, now.lines_long)

  -- ---- close
  module _ (f : ℕ) (hf : f < length d.lines) (ends-here : ends_at (indexed_point dx s) (get_or d.lines f []) ≡ true) (starts-here : starts_at (indexed_point dx e) (get_or d.lines f []) ≡ true)
      (numbers : bound ≤ mark) (columns : Columns (rules.close d f (indexed_point dx e)).lines) where
    held-f : HeldLine dx t.links (slot_at dx t.lines f) (get_or now.chains f []) (get_or d.lines f [])
    held-f = now.held.lines-held f hf

    at-end : indexed_point dx s ≡ indexed_point dx (end_point dx t.lines f)
    at-end = ends_is dx t.links (slot_at dx t.lines f) (get_or now.chains f []) (get_or d.lines f []) held-f (indexed_point dx s) ends-here

    at-start : indexed_point dx (link_point t.links (first_link dx t.lines f)) ≡ indexed_point dx e
    at-start = sym (starts_is dx t.links (slot_at dx t.lines f) (get_or now.chains f []) (get_or d.lines f []) held-f (indexed_point dx e) starts-here)

    others : (i : ℕ) → i < length d.lines → (i ≡ f → ⊥) → HeldLine dx (closed_links dx t n s f) (slot_at dx t.lines i) (get_or now.chains i []) (get_or d.lines i [])
    others = closed-others (ready now handed) f hf s e at-end at-start

    pub close-carried : length now.loops + 1 < 2 ^ 32 → Carried dx h room kept bound' all (rules.close d f (indexed_point dx e)) (closed dx t n s f)
    close-carried rings-fit = record {
      chains = _;
      loops = _;
      held = close-held (ready now handed) f hf s e at-end at-start fits rings-fit numbers bound' handed.wider handed.below;
      filed =
          unfold closed rules.close in
          left-filed dx t.lines (closed_links dx t n s f) now.chains d.lines t.progress.count f now.held.count-is now.held.chains-are hf slots-fit others (unfold rules.close in columns)
          (λ i hi away p tip. now.filed i hi p tip tt)
          (λ i j hi hj ni nj. apart i j hi hj);
      lines_long = unfold closed in rw (length-released dx t.lines (closed_links dx t n s f) (t.progress.count - 1) f) now.lines_long;
      links-long = unfold closed in subst (λ (k : ℕ). 2 * room ≤ k) (sym long-links) now.links-long;
      lines-past = unfold closed in past-released dx h t.lines (closed_links dx t n s f) (t.progress.count - 1) f (omega arith) ∙ now.lines-past;
      links-past = unfold closed in past-links now.loops refl ∙ now.links-past;
    }
      where
        base : List ℕ
        base = with_next (with_link t.links n s mark) (last_link dx t.lines f) n

        links-by : Bool → List ℕ
        links-by b = cond b base (with_next base t.progress.tail (word_of (mark + first_link dx t.lines f)))

        past-base : drop (2 * room) base ≡ drop (2 * room) t.links
        past-base =
            past-with_next room (with_link t.links n s mark) (last_link dx t.lines f) n
            (omega (arith, last-below (ready now handed) f hf, handed.within))
            ∙ past-with_link room t.links n s mark handed.inside

        past-links : (l : List (List ℕ)) → now.loops ≡ l → drop (2 * room) (closed_links dx t n s f) ≡ drop (2 * room) t.links
        past-links [] none =
            unfold closed_links in
            subst (λ (b : Bool). drop (2 * room) (links-by b) ≡ drop (2 * room) t.links) (sym (eq-eqb t.progress.rings 0 (now.held.rings-are ∙ ap length none))) past-base
        past-links (q ∷ qs) some =
            unfold closed_links in
            subst (λ (b : Bool). drop (2 * room) (links-by b) ≡ drop (2 * room) t.links) (sym (ne_eqb t.progress.rings 0 (λ z. omega (arith, now.held.rings-are, ap length some))))
            (past-with_next room base t.progress.tail (word_of (mark + first_link dx t.lines f))
            (omega (arith, tail-below (ready now handed) q qs some, handed.within))
            ∙ past-base)

        long-links : length (closed_links dx t n s f) ≡ length t.links
        long-links = unfold closed_links in by (eqb t.progress.rings 0)
          where
            by : (b : Bool) → length (links-by b) ≡ length t.links
            by true = simp (length-with_next, length-with_link)
            by false = simp (length-with_next, length-with_link)

  -- ---- join
  module _ (f g : ℕ) (hf : f < length d.lines) (hg : g < length d.lines) (ne : f ≡ g → ⊥)
      (ends-here : ends_at (indexed_point dx s) (get_or d.lines f []) ≡ true) (starts-here : starts_at (indexed_point dx e) (get_or d.lines g []) ≡ true)
      (columns : Columns (rules.join d f g).lines) where
    abbrev both : List Line
    both = set d.lines f (get_or d.lines f [] ++ get_or d.lines g [])

    abbrev table : List ℕ
    table = joined_lines dx t n s f g

    abbrev links : List ℕ
    links = joined_links dx t n s f g

    ends-at : indexed_point dx s ≡ indexed_point dx (end_point dx t.lines f)
    ends-at = ends_is dx t.links (slot_at dx t.lines f) (get_or now.chains f []) (get_or d.lines f []) (now.held.lines-held f hf) (indexed_point dx s) ends-here

    -- where a tip of the lines with f and g together was a tip before
    data Was (i : ℕ) (p : Point) : Type 0 where
      here : i < length d.lines → Tip p (get_or d.lines i []) → Was i p
      in_g : i ≡ f → ends_at p (get_or d.lines g []) ≡ true → Was i p

    was : (i : ℕ) → i < length d.lines → (p : Point) → Tip p (get_or both i []) → Was i p
    was i hi p tip = by (ℕ_discrete i f)
      where
        at_f : (role : Role) → tip_by role p (get_or d.lines f [] ++ get_or d.lines g []) ≡ true → i ≡ f → Was i p
        at_f begin k q = here hi (subst (λ (j : ℕ). Tip p (get_or d.lines j [])) (sym q) (record { role = begin; there = sym (start-of-joined p (indexed_point dx s) (get_or d.lines f []) (get_or d.lines g []) ends-here) ∙ k }))
        at_f finish k q = in_g q (sym (end-of-joined p (indexed_point dx e) (get_or d.lines f []) (get_or d.lines g []) starts-here) ∙ k)

        there : i ≡ f → Tip p (get_or d.lines f [] ++ get_or d.lines g [])
        there q = subst (Tip p) (ap (λ (j : ℕ). get_or both j []) q ∙ get_or-set_same d.lines f (get_or d.lines f [] ++ get_or d.lines g []) [] hf) tip

        by : Dec (i ≡ f) → Was i p
        by (yes q) = at_f (there q).role (there q).there q
        by (no q) = here hi (subst (Tip p) (get_or-set_other d.lines f i (get_or d.lines f [] ++ get_or d.lines g []) [] q) tip)

    framed-both : (i : ℕ) → i < length d.lines → (p : Point) → Tip p (get_or both i []) → edge_word dx p < dx + 2
    framed-both i hi p tip = by (was i hi p tip)
      where
        by : Was i p → edge_word dx p < dx + 2
        by (here k before) = lines-framed i k p before
        by (in_g q before) = lines-framed g hg p (record { role = finish; there = before })

    apart-both : (i j : ℕ) → i < length d.lines → j < length d.lines → (i ≡ g → ⊥) → (j ≡ g → ⊥) → (p q : Point) → Tip p (get_or both i []) → Tip q (get_or both j []) → edge_word dx p ≡ edge_word dx q → i ≡ j
    apart-both i j hi hj ni nj p q tip tip' w = by (was i hi p tip) (was j hj q tip')
      where
        by : Was i p → Was j q → i ≡ j
        by (here k a) (here l b) = apart i j hi hj p q a b w
        by (here k a) (in_g l b) = absurd (ni (apart i g hi hg p q a (record { role = finish; there = b }) w))
        by (in_g k a) (here l b) = absurd (nj (sym (apart g j hg hj p q (record { role = finish; there = a }) b w)))
        by (in_g k a) (in_g l b) = k ∙ sym l

    Z : Point
    Z = indexed_point dx (end_point dx t.lines g)

    end-is-Z : (p : Point) → ends_at p (get_or d.lines g []) ≡ true → p ≡ Z
    unfolding Z
    end-is-Z p k = ends_is dx t.links (slot_at dx t.lines g) (get_or now.chains g []) (get_or d.lines g []) (now.held.lines-held g hg) p k

    ends-at-Z : ends_at Z (get_or d.lines g []) ≡ true
    unfolding Z
    ends-at-Z = ends-at-end dx t.links (slot_at dx t.lines g) (get_or now.chains g []) (get_or d.lines g []) (now.held.lines-held g hg)

    Z-is-tip : Tip Z (get_or both f [])
    Z-is-tip =
        subst (Tip Z) (sym (get_or-set_same d.lines f (get_or d.lines f [] ++ get_or d.lines g []) [] hf))
        (record { role = finish; there = end-of-joined Z (indexed_point dx e) (get_or d.lines f []) (get_or d.lines g []) starts-here ∙ ends-at-Z })

    long-table : length table ≡ length t.lines
    long-table = unfold joined_lines in simp (length-set, length-with_slot)

    chains-both : List (List ℕ)
    chains-both = set now.chains f (get_or now.chains f [] ++ (n ∷ get_or now.chains g []))

    both_long : length both ≡ length d.lines
    both_long = length-set d.lines f (get_or d.lines f [] ++ get_or d.lines g [])

    chained : length chains-both ≡ length both
    unfolding chains-both
    chained = length-set now.chains f (get_or now.chains f [] ++ (n ∷ get_or now.chains g [])) ∙ now.held.chains-are ∙ sym both_long

    inside : g < length both
    inside = omega (arith, both_long)

    counted : t.progress.count ≡ length both
    counted = now.held.count-is ∙ sym both_long

    both-fit : dx + 2 + 4 * length both ≤ length table
    both-fit = omega (arith, both_long, long-table, slots-fit)

    others-both : (i : ℕ) → i < length both → (i ≡ g → ⊥) → HeldLine dx links (slot_at dx table i) (get_or chains-both i []) (get_or both i [])
    unfolding chains-both
    others-both i hi away = joined-others (ready now handed) f g hf hg ne s fits ends-at i (omega (arith, both_long)) away

    columns-both : Columns (without both g)
    unfolding rules.join
    columns-both = columns

    even-both : (i : ℕ) → i < length both → (i ≡ g → ⊥) → (q : Point) → Tip q (get_or both i []) → q.x % 2 ≡ 1 → ⊥
    even-both = even-left dx table links chains-both both t.progress.count g counted chained inside both-fit others-both columns-both

    Z-column : edge_word dx Z ≡ column_word dx (end_point dx t.lines g)
    unfolding Z
    Z-column = column-of-even dx (end_point dx t.lines g) (even-both f (omega (arith, both_long)) ne Z Z-is-tip)

    filed-both : (i : ℕ) → i < length both → (i ≡ g → ⊥) → (p : Point) → Tip p (get_or both i []) → get_or table (edge_word dx p) 0 ≡ i
    filed-both i hi away p tip = unfold joined_lines in by (ℕ_discrete (edge_word dx p) (column_word dx (end_point dx t.lines g)))
      where
        below : i < length d.lines
        below = omega (arith, both_long)

        stored : List ℕ
        stored = with_slot dx t.lines f (first_link dx t.lines f) (last_link dx t.lines g) (end_point dx t.lines g) (word_of (link_count dx t.lines f + link_count dx t.lines g + 1))

        w : ℕ
        w = column_word dx (end_point dx t.lines g)

        before : (edge_word dx p ≡ w → ⊥) → Was i p → get_or t.lines (edge_word dx p) 0 ≡ i
        before no-w (here k a) = now.filed i k p a tt
        before no-w (in_g k a) = absurd (no-w (ap (edge_word dx) (end-is-Z p a) ∙ Z-column))

        by : Dec (edge_word dx p ≡ w) → get_or (set stored w f) (edge_word dx p) 0 ≡ i
        by (yes q) =
            ap (λ (j : ℕ). get_or (set stored w f) j 0) q
            ∙ get_or-set_same stored w f 0 (omega (
              arith,
              length-with_slot dx t.lines f (first_link dx t.lines f) (last_link dx t.lines g) (end_point dx t.lines g) (word_of (link_count dx t.lines f + link_count dx t.lines g + 1)),
              frontier-fits now,
              framed-both i below p tip,
              q,
            ))
            ∙ sym (apart-both i f below hf away ne p Z tip Z-is-tip (q ∙ sym Z-column))
        by (no q) =
            get_or-set_other stored w (edge_word dx p) f 0 q
            ∙ frontier-of-with_slot dx t.lines f (first_link dx t.lines f) (last_link dx t.lines g) (end_point dx t.lines g) (word_of (link_count dx t.lines f + link_count dx t.lines g + 1)) (edge_word dx p) (framed-both i below p tip)
            ∙ before q (was i below p tip)

    joined-filed : Filed dx all (joined dx t n s f g).lines (rules.join d f g).lines
    unfolding joined rules.join
    joined-filed =
        left-filed dx table links chains-both both t.progress.count g counted chained inside both-fit others-both columns-both filed-both
        (λ i j hi hj ni nj. apart-both i j (omega (arith, both_long)) (omega (arith, both_long)) ni nj)

    pub join-carried : Carried dx h room kept bound' all (rules.join d f g) (joined dx t n s f g)
    join-carried = record {
      chains = _;
      loops = now.loops;
      held = join-held (ready now handed) f g hf hg ne s fits ends-at bound' handed.wider handed.below;
      filed = joined-filed;
      lines_long = unfold joined in rw (length-released dx table links (t.progress.count - 1) g, long-table) now.lines_long;
      links-long = unfold joined joined_links in simp (length-with_next, length-with_link) now.links-long;
      lines-past =
          unfold joined joined_lines in
          past-released dx h table links (t.progress.count - 1) g (omega arith)
          ∙ past-filed dx h (with_slot dx t.lines f (first_link dx t.lines f) (last_link dx t.lines g) (end_point dx t.lines g) (word_of (link_count dx t.lines f + link_count dx t.lines g + 1))) (column_word dx (end_point dx t.lines g)) f (omega (arith, column-in-frontier dx (end_point dx t.lines g)))
          ∙ past-with_slot dx h t.lines f (first_link dx t.lines f) (last_link dx t.lines g) (end_point dx t.lines g) (word_of (link_count dx t.lines f + link_count dx t.lines g + 1)) (omega arith)
          ∙ now.lines-past;
      links-past =
          unfold joined joined_links in
          past-with_next room (with_link t.links n s (first_link dx t.lines g)) (last_link dx t.lines f) n
          (omega (arith, last-below (ready now handed) f hf, handed.within))
          ∙ past-with_link room t.links n s (first_link dx t.lines g) handed.inside
          ∙ now.links-past;
    }

    pub join-grown : Grown now join-carried n
    unfolding join-carried
    join-grown = record {
      loops-same = refl;
      uses-grown = join-uses (ready now handed) f g hf hg ne s fits ends-at;
      still = join-still (ready now handed) f g hf hg ne s fits ends-at;
    }

-- ---- line f goes, and no ring is held for it: nothing is stored to the links of the other lines and of the rings
module _ (dx h room : ℕ) (kept : Kept) (bound : ℕ) (d : Drawing) (t : Tables) (now : Carried dx h room kept bound all d t) (fits : length d.lines ≤ h) (apart : WordsApart dx d.lines)
    (f : ℕ) (hf : f < length d.lines) (links' : List ℕ) (long : length links' ≡ length t.links) (past : drop (2 * room) links' ≡ drop (2 * room) t.links)
    (still : (i k : ℕ) → i < length d.lines → (i ≡ f → ⊥) → 1 ≤ uses k (get_or now.chains i []) → Still t.links links' k)
    (rings-still : (k : ℕ) → 1 ≤ total (uses k) now.loops → Still t.links links' k)
    (columns : Columns (without d.lines f)) where
  abbrev pub table-left : Tables
  table-left = record {
    lines = released dx t.lines links' (t.progress.count - 1) f;
    links = links';
    progress = record { count = t.progress.count - 1; rings = t.progress.rings; head = t.progress.head; tail = t.progress.tail };
  }

  pub leave-carried : Carried dx h room kept bound all (record { lines = without d.lines f; rings = d.rings }) table-left
  leave-carried = record {
    chains = drop_at [] now.chains f;
    loops = now.loops;
    held = leave-held now.held slots-fit f hf links' still rings-still;
    filed = leave-filed now.held slots-fit f hf links' still now.filed apart columns;
    lines_long = rw (length-released dx t.lines links' (t.progress.count - 1) f) now.lines_long;
    links-long = omega (arith, now.links-long);
    lines-past = past-released dx h t.lines links' (t.progress.count - 1) f (omega arith) ∙ now.lines-past;
    links-past = past ∙ now.links-past;
  }
    where
      slots-fit : dx + 2 + 4 * length d.lines ≤ length t.lines
      slots-fit = omega (arith, now.lines_long)

  pub left-chains : leave-carried.chains ≡ drop_at [] now.chains f
  unfolding leave-carried
  left-chains = refl

  pub left-loops : leave-carried.loops ≡ now.loops
  unfolding leave-carried
  left-loops = refl
