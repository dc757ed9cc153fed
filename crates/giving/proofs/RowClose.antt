-- A line of the row machine closes: its ring stands behind the others in the outputs, its links are free, its slot is released, and the machine holds the drawing
-- after the close. No link is taken. Assumes nothing.
use mathlib.Core.Path.{◌≡◌, refl, sym, ◌∙◌, ap, subst}
use mathlib.Core.Bool.{true}
use mathlib.Core.List.{List, [], ◌∷◌, ◌++◌, append_assoc}
use Prim.Native.Nat.{ℕ, ◌+◌, ◌-◌, ◌*◌, ◌^◌, ◌≤◌, ◌<◌}
use native.Mathlib.Decide.{dec_lt}
use native.Mathlib.Omega.{arith}
use lib.ListN.{length, get_or, drop, length-append}
use Rattle.scope.specs.Cells.{indexed_point}
use Rattle.scope.specs.Stitching as rules
use Rattle.scope.specs.Stitching.{Line, Drawing, starts_at}
use Rattle.laws.proofs.Total.{total, total-append}
use Rattle.laws.proofs.Sizes.{size}
use Rattle.laws.proofs.Conservation.{Each}
use Rattle.laws.proofs.Rings.{RingLaw}
use Rattle.laws.proofs.Tips.{WordsApart}
use Rattle.machine.specs.Machine.{first_link, last_link, end_point, link_count, link_next, with_next}
use Rattle.machine.proofs.Views.{slot_at, length-with_next, next-of-same, next-of-other, past-with_next}
use Rattle.machine.proofs.Chains.{uses, uses-last}
use Rattle.machine.proofs.Held.{HeldLine, Still, rings-counted, chain-uses}
use Rattle.machine.proofs.Ready.{used}
use Rattle.machine.proofs.Filing.{starts_is}
use Rattle.machine.proofs.Leaving.{all, Columns, leave-uses, end-still}
use Rattle.machine.proofs.Steps.{Carried}
use Rattle.machine.proofs.Leaves.{leave-carried, left-chains, left-loops}
use Rattle.giving.specs.Giving.{Given, tables_in, ring_out, ring_given}
use Rattle.giving.proofs.Sizes.{sized-left}
use Rattle.giving.proofs.OpenSegments.{held-closed}
use Rattle.giving.proofs.Stock.{Stock, given_back}
use Rattle.giving.proofs.Outputs.{narrow_words, ring-out, held-length, one_out}
use Rattle.giving.proofs.RowHolds.{Setting, Modest, open_in, RowHolds, RowFits, line-held, size-within}

each_last : {X : Type 0} (P : X → Type 0) (xs : List X) (x : X) → Each P (xs ++ (x ∷ [])) → P x
each_last P [] x ps = ps.0
each_last P (y ∷ xs) x ps = each_last P xs x ps.1

total-none : {X : Type 0} (w : X → ℕ) (xs : List X) → length xs ≡ 0 → total w xs ≡ 0
unfolding total
total-none w [] none = refl
total-none w (x ∷ xs) none = absurd (omega arith)

module _ (S : Setting) (modest : Modest S) (d : Drawing) (g : Given) (now : RowHolds S all d g) (before : RowFits S d) (apart : WordsApart S.dx d.lines)
    (e f : ℕ) (hf : f < length d.lines) (starts-here : starts_at (indexed_point S.dx e) (get_or d.lines f []) ≡ true)
    (fits : RowFits S (rules.close d f (indexed_point S.dx e))) (columns : Columns (rules.close d f (indexed_point S.dx e)).lines) where
  open S use {dx, h, room, kept}

  abbrev first : ℕ
  first = first_link dx g.lines f

  abbrev last : ℕ
  last = last_link dx g.lines f

  abbrev count : ℕ
  count = link_count dx g.lines f

  abbrev chain : List ℕ
  chain = get_or now.carried.chains f []

  abbrev ring : Line
  ring = get_or d.lines f [] ++ (indexed_point dx e ∷ [])

  abbrev links' : List ℕ
  links' = with_next g.links last g.play.spare

  held-f : HeldLine dx g.links (slot_at dx g.lines f) chain (get_or d.lines f [])
  held-f = line-held now f hf

  points-are : length (get_or d.lines f []) ≡ length chain + 1
  points-are = held-length dx g.links (slot_at dx g.lines f) chain (get_or d.lines f []) held-f

  size_is : count ≡ length chain
  size_is = unfold size in omega (arith, now.sized f hf, points-are)

  ring_long : length ring ≡ count + 2
  ring_long = omega (arith, length-append (get_or d.lines f []) (indexed_point dx e ∷ []), points-are, size_is)

  slots-fit : dx + 2 + 4 * length d.lines ≤ length g.lines
  slots-fit = omega (arith, now.carried.lines_long, before.lines_fit)

  in_use : 1 ≤ used now.carried.chains now.carried.loops last
  in_use =
      omega (
        arith,
        uses-last (link_next g.links) first chain last held-f.linked,
        chain-uses now.carried.chains f last (omega (arith, now.carried.held.chains-are)),
      )

  last-inside : last < room
  last-inside = by (dec_lt last room)
    where
      by : Dec (last < room) → last < room
      by (yes q) = q
      by (no q) = absurd (omega (arith, in_use, now.carried.held.unused last (omega arith)))

  no-loops : (k : ℕ) → total (uses k) now.carried.loops ≡ 0
  no-loops k = total-none (uses k) now.carried.loops (rings-counted dx g.links 0 now.carried.loops [] 0 now.carried.held.rings-held)

  past : drop (2 * room) links' ≡ drop (2 * room) g.links
  past = past-with_next room g.links last g.play.spare last-inside

  still : (i k : ℕ) → i < length d.lines → (i ≡ f → ⊥) → 1 ≤ uses k (get_or now.carried.chains i []) → Still g.links links' k
  still = end-still now.carried.held slots-fit f hf g.play.spare

  rings-still : (k : ℕ) → 1 ≤ total (uses k) now.carried.loops → Still g.links links' k
  rings-still k u = absurd (omega (arith, no-loops k))

  after : Carried dx h room kept room all (open_in (rules.close d f (indexed_point dx e))) (tables_in (ring_given dx g f))
  unfolding rules.close ring_given
  after = leave-carried dx h room kept room (open_in d) (tables_in g) now.carried before.lines_fit apart f hf links' (length-with_next g.links last g.play.spare) past still rings-still columns

  uses-left : (k : ℕ) → used after.chains after.loops k + uses k chain ≡ used now.carried.chains now.carried.loops k
  unfolding rules.close ring_given after
  uses-left k =
      rw (
        left-chains dx h room kept room (open_in d) (tables_in g) now.carried before.lines_fit apart f hf links' (length-with_next g.links last g.play.spare) past still rings-still columns,
        left-loops dx h room kept room (open_in d) (tables_in g) now.carried before.lines_fit apart f hf links' (length-with_next g.links last g.play.spare) past still rings-still columns,
      )
      (leave-uses now.carried.held slots-fit f hf k)

  stock-after : Stock room (used after.chains after.loops) links' first g.play.fresh (g.play.held - count)
  stock-after =
      subst (λ (n : ℕ). Stock room (used after.chains after.loops) links' first g.play.fresh (g.play.held - n)) (sym size_is)
      (given_back now.stock (used after.chains after.loops) links' first chain last held-f.linked (omega (arith, size_is, size-within now f hf, now.held-is)) uses-left
      (λ k ne. next-of-other g.links last g.play.spare k ne)
      (next-of-same g.links last g.play.spare (omega (arith, last-inside, now.carried.links-long))))

  all-rings : S.earlier ++ (now.given ++ (ring ∷ [])) ≡ d.rings ++ (ring ∷ [])
  all-rings = sym (append_assoc S.earlier now.given (ring ∷ [])) ∙ ap (λ (l : List Line). l ++ (ring ∷ [])) (sym now.rings-are)

  ring-words : ring_out dx g.links first count (end_point dx g.lines f) ≡ narrow_words ring
  ring-words =
      ap (λ (n : ℕ). ring_out dx g.links first n (end_point dx g.lines f)) size_is
      ∙ ring-out dx g.links (slot_at dx g.lines f) chain (get_or d.lines f []) (indexed_point dx e) held-f
      (starts_is dx g.links (slot_at dx g.lines f) chain (get_or d.lines f []) held-f (indexed_point dx e) starts-here)

  pub close-holds : RowHolds S all (rules.close d f (indexed_point dx e)) (ring_given dx g f)
  close-holds = record {
    carried = after;
    sized = unfold rules.close ring_given in sized-left dx g.lines links' d.lines g.play.count f now.carried.held.count-is hf slots-fit (λ i hi away. now.sized i hi);
    stock = unfold ring_given in stock-after;
    held-is = unfold ring_given in omega (arith, now.held-is, now.sized f hf, held-closed d f (indexed_point dx e) hf);
    given = now.given ++ (ring ∷ []);
    rings-are = unfold rules.close in sym all-rings;
    out =
        unfold ring_given in
        one_out now.out dx S.dy modest.columns-small modest.rows-small ring (ring_out dx g.links first count (end_point dx g.lines f)) count ring-words
        (each_last (RingLaw dx S.dy) d.rings ring (unfold rules.close in fits.rings-within)).inside
        ring_long
        (omega (arith, points-fit, total-append length S.earlier (now.given ++ (ring ∷ [])), total-append length now.given (ring ∷ []), one))
        (omega (arith, rings-fit, length-append S.earlier (now.given ++ (ring ∷ [])), length-append now.given (ring ∷ [])));
  }
    where
      one : total length (ring ∷ []) ≡ length ring
      one = unfold total in omega arith

      points-fit : total length (S.earlier ++ (now.given ++ (ring ∷ []))) < 2 ^ 32
      points-fit = subst (λ (l : List Line). total length l < 2 ^ 32) (sym all-rings) (unfold rules.close in fits.points-fit)

      rings-fit : length (S.earlier ++ (now.given ++ (ring ∷ []))) < 2 ^ 32
      rings-fit = subst (λ (l : List Line). length l < 2 ^ 32) (sym all-rings) (unfold rules.close in fits.rings-fit)
