-- The rules of the row machine that take a link: after an append, a prepend, a start and a join it holds the drawing after the rule, where that drawing has
-- room. Assumes nothing.
use mathlib.Core.Path.{◌≡◌, refl, sym, ◌∙◌}
use mathlib.Core.Bool.{true}
use mathlib.Core.List.{List, [], ◌∷◌, ◌++◌}
use Prim.Native.Nat.{ℕ, ◌+◌, ◌*◌, ◌^◌, ◌≤◌, ◌<◌}
use native.Mathlib.Nat.{mod-eq_of_lt}
use native.Mathlib.Omega.{arith}
use lib.ListN.{length, get_or, set, length-set, length-append}
use Rattle.scope.specs.Cells.{Point, indexed_point}
use Rattle.scope.specs.Stitching as rules
use Rattle.scope.specs.Stitching.{Line, Drawing, starts_at, ends_at}
use Rattle.laws.proofs.Total.{total-two}
use Rattle.laws.proofs.Sizes.{size, held_in}
use Rattle.laws.proofs.Tips.{Tip, edge_word, WordsApart}
use Rattle.machine.specs.Machine as machine
use Rattle.machine.specs.Machine.{word_of, first_link, last_link, end_point, link_count, column_word, joined_lines, joined_links}
use Rattle.machine.proofs.Views.{length-with_slot}
use Rattle.machine.proofs.Removal.{column-in-frontier}
use Rattle.machine.proofs.Filing.{word-in-frontier}
use Rattle.machine.proofs.Leaving.{all, Columns}
use Rattle.machine.proofs.Steps as steps
use Rattle.machine.proofs.Leaves as leaves
use Rattle.machine.proofs.Carrier.{lines-appended, lines-prepended, lines-started}
use Rattle.giving.specs.Giving.{Given, tables_in, link_taken, with_taken}
use Rattle.giving.proofs.Sizes.{Sized, sized-anew, sized_new, sized-left}
use Rattle.giving.proofs.OpenSegments.{held-appended, held-prepended, held-started, held-joined}
use Rattle.giving.proofs.RowHolds.{Setting, Modest, open_in, RowHolds, RowFits, two-points, size-within, handed, taken-holds}

module _ (S : Setting) (modest : Modest S) (live live' : Point → Type 0) (d : Drawing) (g : Given) (now : RowHolds S live d g) (s e : ℕ) where
  open S use {dx, h, room, kept}

  -- the link that the rule is done with
  abbrev link : ℕ
  link = link_taken g.play

  abbrev end : Point
  end = indexed_point dx e

  abbrev begin : Point
  begin = indexed_point dx s

  module _ (f : ℕ) (hf : f < length d.lines) where
    abbrev line : Line
    line = get_or d.lines f []

    abbrev links : ℕ
    links = link_count dx g.lines f

    some : 1 ≤ length line
    some = omega (arith, two-points now f hf)

    -- ---- append
    pub append-holds : ends_at begin line ≡ true → RowFits S (rules.append d f end)
        → ((i : ℕ) → i < length d.lines → (p : Point) → Tip p (get_or (rules.append d f end).lines i []) → live' p → edge_word dx p ≡ edge_word dx end → i ≡ f)
        → ((i : ℕ) → i < length d.lines → (p : Point) → Tip p (get_or (rules.append d f end).lines i []) → live' p → (p ≡ end → ⊥) → live p)
        → RowHolds S live' (rules.append d f end) (with_taken g (λ t k. machine.appended dx t k s f e (edge_word dx end)))
    append-holds there fits alone keeps =
        unfold rules.append machine.appended with_taken in
        taken-holds now modest more live' (rules.append d f end) (λ t k. machine.appended dx t k s f e (edge_word dx end))
        (steps.append-carried dx h room kept room room live live' (open_in d) (tables_in g) now.carried link (handed now modest more) s e f hf within there alone keeps)
        (steps.append-grown dx h room kept room room live live' (open_in d) (tables_in g) now.carried link (handed now modest more) s e f hf within there alone keeps)
        (sized-anew dx g.lines d.lines f (line ++ (end ∷ [])) (first_link dx g.lines f) link e (word_of (links + 1)) (edge_word dx end) f (word-in-frontier dx e) hf slot-fits one_more now.sized)
        (held-appended d f hf some end) refl
      where
        within : f < h
        within = omega (arith, fits.lines_fit, lines-appended d f end)

        more : held_in d.lines + 1 ≤ room
        more = omega (arith, fits.links-fit, held-appended d f hf some end)

        slot-fits : dx + 2 + 4 * (f + 1) ≤ length g.lines
        slot-fits = omega (arith, now.carried.lines_long, within)

        one_more : word_of (links + 1) ≡ size (line ++ (end ∷ []))
        one_more =
            unfold word_of size in
            mod-eq_of_lt (omega (arith, size-within now f hf, more, modest.links-small))
            ∙ omega (arith, now.sized f hf, length-append line (end ∷ []), two-points now f hf)

    -- ---- prepend
    pub prepend-holds : starts_at end line ≡ true → RowFits S (rules.prepend d f begin)
        → ((i : ℕ) → i < length d.lines → (p : Point) → Tip p (get_or (rules.prepend d f begin).lines i []) → live' p → edge_word dx p ≡ edge_word dx begin → i ≡ f)
        → ((i : ℕ) → i < length d.lines → (p : Point) → Tip p (get_or (rules.prepend d f begin).lines i []) → live' p → (p ≡ begin → ⊥) → live p)
        → RowHolds S live' (rules.prepend d f begin) (with_taken g (λ t k. machine.prepended dx t k s f (edge_word dx begin)))
    prepend-holds there fits alone keeps =
        unfold rules.prepend machine.prepended with_taken in
        taken-holds now modest more live' (rules.prepend d f begin) (λ t k. machine.prepended dx t k s f (edge_word dx begin))
        (steps.prepend-carried dx h room kept room room live live' (open_in d) (tables_in g) now.carried link (handed now modest more) s e f hf within there alone keeps)
        (steps.prepend-grown dx h room kept room room live live' (open_in d) (tables_in g) now.carried link (handed now modest more) s e f hf within there alone keeps)
        (sized-anew dx g.lines d.lines f (begin ∷ line) link (last_link dx g.lines f) (end_point dx g.lines f) (word_of (links + 1)) (edge_word dx begin) f (word-in-frontier dx s) hf slot-fits one_more now.sized)
        (held-prepended d f hf some begin) refl
      where
        within : f < h
        within = omega (arith, fits.lines_fit, lines-prepended d f begin)

        more : held_in d.lines + 1 ≤ room
        more = omega (arith, fits.links-fit, held-prepended d f hf some begin)

        slot-fits : dx + 2 + 4 * (f + 1) ≤ length g.lines
        slot-fits = omega (arith, now.carried.lines_long, within)

        one_more : word_of (links + 1) ≡ size (begin ∷ line)
        one_more =
            unfold word_of size in
            mod-eq_of_lt (omega (arith, size-within now f hf, more, modest.links-small))
            ∙ omega (arith, now.sized f hf, two-points now f hf)

  -- ---- start
  pub start-holds : RowFits S (rules.start d begin end)
      → ((i : ℕ) → i < length d.lines → (p : Point) → Tip p (get_or d.lines i []) → (edge_word dx p ≡ edge_word dx begin → ⊥) × (edge_word dx p ≡ edge_word dx end → ⊥))
      → ((i : ℕ) → i < length d.lines → (p : Point) → Tip p (get_or d.lines i []) → live' p → live p)
      → RowHolds S live' (rules.start d begin end) (with_taken g (λ t k. machine.started dx t k s e (edge_word dx begin) (edge_word dx end)))
  start-holds fits alone keeps =
      unfold rules.start machine.started with_taken in
      taken-holds now modest more live' (rules.start d begin end) (λ t k. machine.started dx t k s e (edge_word dx begin) (edge_word dx end))
      (steps.start-carried dx h room kept room room live live' (open_in d) (tables_in g) now.carried link (handed now modest more) s e within few alone keeps)
      (steps.start-grown dx h room kept room room live live' (open_in d) (tables_in g) now.carried link (handed now modest more) s e within few alone keeps)
      (sized_new dx g.lines d.lines g.play.count (begin ∷ end ∷ []) link link e 1 (edge_word dx begin) g.play.count (edge_word dx end) g.play.count
      (word-in-frontier dx s) (word-in-frontier dx e) now.carried.held.count-is slot-fits (unfold size in refl) now.sized)
      (held-started d begin end) refl
    where
      within : length d.lines < h
      within = omega (arith, fits.lines_fit, lines-started d begin end)

      few : length d.lines + 1 < 2 ^ 32
      few = omega (arith, within, modest.lines-small)

      more : held_in d.lines + 1 ≤ room
      more = omega (arith, fits.links-fit, held-started d begin end)

      slot-fits : dx + 2 + 4 * (g.play.count + 1) ≤ length g.lines
      slot-fits = omega (arith, now.carried.lines_long, within, now.carried.held.count-is)

-- ---- join
module _ (S : Setting) (modest : Modest S) (d : Drawing) (g : Given) (now : RowHolds S all d g) (s e : ℕ) where
  open S use {dx, h, room, kept}

  pub join-holds : RowFits S d → WordsApart dx d.lines → (a b : ℕ) → a < length d.lines → b < length d.lines → (a ≡ b → ⊥)
      → ends_at (indexed_point dx s) (get_or d.lines a []) ≡ true → starts_at (indexed_point dx e) (get_or d.lines b []) ≡ true
      → RowFits S (rules.join d a b) → Columns (rules.join d a b).lines
      → RowHolds S all (rules.join d a b) (with_taken g (λ t k. machine.joined dx t k s a b))
  join-holds before apart a b ha hb ne there there' fits columns =
      unfold rules.join machine.joined with_taken in
      taken-holds now modest more all (rules.join d a b) (λ t k. machine.joined dx t k s a b)
      (leaves.join-carried dx h room kept room room (open_in d) (tables_in g) now.carried (link_taken g.play) (handed now modest more) s e before.lines_fit apart a b ha hb ne there there' columns)
      (leaves.join-grown dx h room kept room room (open_in d) (tables_in g) now.carried (link_taken g.play) (handed now modest more) s e before.lines_fit apart a b ha hb ne there there' columns)
      (sized-left dx table (joined_links dx (tables_in g) (link_taken g.play) s a b) both g.play.count b counted inside slots-fit (λ i hi away. sized-both i hi))
      (held-joined d a ha some b hb ne some') refl
    where
      both : List Line
      both = set d.lines a (get_or d.lines a [] ++ get_or d.lines b [])

      table : List ℕ
      table = joined_lines dx (tables_in g) (link_taken g.play) s a b

      some : 1 ≤ length (get_or d.lines a [])
      some = omega (arith, two-points now a ha)

      some' : 1 ≤ length (get_or d.lines b [])
      some' = omega (arith, two-points now b hb)

      more : held_in d.lines + 1 ≤ room
      more = omega (arith, fits.links-fit, held-joined d a ha some b hb ne some')

      long : length both ≡ length d.lines
      long = length-set d.lines a (get_or d.lines a [] ++ get_or d.lines b [])

      counted : g.play.count ≡ length both
      counted = now.carried.held.count-is ∙ sym long

      inside : b < length both
      inside = omega (arith, long)

      long-table : length table ≡ length g.lines
      long-table = unfold joined_lines in simp (length-set, length-with_slot)

      slots-fit : dx + 2 + 4 * length both ≤ length table
      slots-fit = omega (arith, long, long-table, now.carried.lines_long, before.lines_fit)

      slot-fits : dx + 2 + 4 * (a + 1) ≤ length g.lines
      slot-fits = omega (arith, now.carried.lines_long, before.lines_fit)

      sum : link_count dx g.lines a + link_count dx g.lines b ≤ held_in d.lines
      sum = unfold held_in in omega (arith, now.sized a ha, now.sized b hb, total-two size d.lines a b [] ha hb (λ q. ne (sym q)))

      one_more : word_of (link_count dx g.lines a + link_count dx g.lines b + 1) ≡ size (get_or d.lines a [] ++ get_or d.lines b [])
      one_more =
          unfold word_of size in
          mod-eq_of_lt (omega (arith, sum, more, modest.links-small))
          ∙ omega (arith, now.sized a ha, now.sized b hb, length-append (get_or d.lines a []) (get_or d.lines b []), some, some')

      sized-both : Sized dx table both
      sized-both =
          unfold joined_lines in
          sized-anew dx g.lines d.lines a (get_or d.lines a [] ++ get_or d.lines b []) (first_link dx g.lines a) (last_link dx g.lines b) (end_point dx g.lines b)
          (word_of (link_count dx g.lines a + link_count dx g.lines b + 1)) (column_word dx (end_point dx g.lines b)) a (omega (arith, column-in-frontier dx (end_point dx g.lines b)))
          ha slot-fits one_more now.sized
