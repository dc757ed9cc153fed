-- One stitch of the table machine, with any link that is not in use: the tables hold the drawing after the rule, every tip that counts is filed, and of the
-- links that were not in use the new one alone has changed. Assumes nothing.
use mathlib.Core.Path.{◌≡◌, refl, sym, ◌∙◌, subst}
use mathlib.Core.Bool.{true}
use mathlib.Core.List.{List, [], ◌∷◌, ◌++◌}
use Prim.Native.Nat.{ℕ, suc, ◌+◌, ◌*◌, ◌^◌, ◌≤◌, ◌<◌}
use native.Mathlib.Omega.{arith}
use lib.Dec.{eqb}
use lib.ListN.{length, get_or, set, drop, length-set}
use Rattle.scope.specs.Cells.{Point, indexed_point, when}
use Rattle.scope.specs.Stitching as rules
use Rattle.scope.specs.Stitching.{Line, Drawing, starts_at, ends_at}
use Rattle.laws.proofs.Ends.{same-eq, start-of-joined, end-of-appended, end-of-prepended}
use Rattle.laws.proofs.Strokes.{Role, begin, finish}
use Rattle.laws.proofs.Tips.{Tip, tip_by, edge_word}
use Rattle.machine.specs.Machine.{word_of, first_link, last_link, end_point, link_count, with_link, with_slot, Tables, started, appended, prepended}
use Rattle.machine.proofs.Views.{slot_at, length-with_slot, length-with_next, length-with_link, past-filed, past-with_slot, past-with_next, past-with_link}
use Rattle.machine.proofs.Held.{Held, Still}
use Rattle.machine.proofs.Ready.{used, Ready, last-below}
use Rattle.machine.proofs.Append.{append-uses, append-still, append-held, prepend-uses, prepend-still, prepend-held}
use Rattle.machine.proofs.Start.{start-uses, start-still, start-held}
use Rattle.machine.proofs.Filing.{ends_is, word-in-frontier, Filed, Framed, filed-anew, filed-new}
use Rattle.machine.proofs.Leaving.{tip-framed}

-- the words of the two tables past what a build needs
pub record Kept : Type 0 where
  pub past-lines : List ℕ
  pub past-links : List ℕ

-- the tables hold a drawing in links below bound; slots for h lines and room for that many links
pub record Carried (dx h room : ℕ) (kept : Kept) (bound : ℕ) (live : Point → Type 0) (d : Drawing) (t : Tables) : Type 0 where
  pub chains : List (List ℕ)
  pub loops : List (List ℕ)
  pub held : Held dx bound t d chains loops
  pub filed : Filed dx live t.lines d.lines
  pub lines_long : dx + 2 + 4 * h ≤ length t.lines
  pub links-long : 2 * room ≤ length t.links
  pub lines-past : drop (dx + 2 + 4 * h) t.lines ≡ kept.past-lines
  pub links-past : drop (2 * room) t.links ≡ kept.past-links

-- link k may be taken: it is not in use, there is room for it, and with it all links in use are below the new bound
pub record Handed (room bound bound' : ℕ) (chains loops : List (List ℕ)) (k : ℕ) : Type 0 where
  pub fresh : used chains loops k ≡ 0
  pub inside : k < room
  pub within : bound ≤ room
  pub wider : bound ≤ bound'
  pub below : k < bound'

module _ {dx h room : ℕ} {kept : Kept} {bound : ℕ} {live : Point → Type 0} {d : Drawing} {t : Tables} (now : Carried dx h room kept bound live d t) where
  pub ready : {bound' k : ℕ} → Handed room bound bound' now.chains now.loops k → Ready dx bound k h t d now.chains now.loops
  ready handed = record {
    held = now.held;
    fresh = handed.fresh;
    room = now.lines_long;
    links-room = omega (arith, now.links-long, handed.inside);
    bound-room = omega (arith, now.links-long, handed.within);
  }

  pub frontier-fits : dx + 2 ≤ length t.lines
  frontier-fits = omega (arith, now.lines_long)

  -- the first link that was never in use
  pub next-handed : bound < room → Handed room bound (suc bound) now.chains now.loops bound
  next-handed small = record { fresh = now.held.unused bound (omega arith); inside = small; within = omega arith; wider = omega arith; below = omega arith }

-- what link k has changed, among the links: it is in use, and links that are not are as they were
pub record Grown {dx h room : ℕ} {kept : Kept} {bound bound' : ℕ} {live live' : Point → Type 0} {d d' : Drawing} {t t' : Tables}
    (now : Carried dx h room kept bound live d t) (after : Carried dx h room kept bound' live' d' t') (k : ℕ) : Type 0 where
  pub loops-same : after.loops ≡ now.loops
  pub uses-grown : (x : ℕ) → used after.chains after.loops x ≡ used now.chains now.loops x + when 1 (eqb x k)
  pub still : (x : ℕ) → (x ≡ k → ⊥) → used now.chains now.loops x ≡ 0 → Still t.links t'.links x

-- words of held tips
pub framed-by : (dx n : ℕ) (t : Tables) (d : Drawing) (chains loops : List (List ℕ)) → Held dx n t d chains loops → Framed dx d.lines
framed-by dx n t d chains loops held i hi p tip = tip-framed dx t.links t.lines i (get_or chains i []) (get_or d.lines i []) (held.lines-held i hi) p tip

-- a tip of a line that grew is the new point or was a tip before
appended-tips : (s e : Point) (l : Line) → ends_at s l ≡ true → (p : Point) → (p ≡ e → ⊥) → Tip p (l ++ (e ∷ [])) → Tip p l
appended-tips s e l at p ne tip = by tip.role tip.there
  where
    by : (role : Role) → tip_by role p (l ++ (e ∷ [])) ≡ true → Tip p l
    by begin h = record { role = begin; there = sym (start-of-joined p s l (e ∷ []) at) ∙ h }
    by finish h = absurd (ne (same-eq p e (sym (end-of-appended p e l) ∙ h)))

prepended-tips : (s e : Point) (l : Line) → starts_at e l ≡ true → (p : Point) → (p ≡ s → ⊥) → Tip p (s ∷ l) → Tip p l
prepended-tips s e l at p ne tip = by tip.role tip.there
  where
    by : (role : Role) → tip_by role p (s ∷ l) ≡ true → Tip p l
    by begin h = absurd (ne (same-eq p s (unfold starts_at in h)))
    by finish h = record { role = finish; there = sym (end-of-prepended p s e l at) ∙ h }

module _ (dx h room : ℕ) (kept : Kept) (bound bound' : ℕ) (live live' : Point → Type 0) (d : Drawing) (t : Tables) (now : Carried dx h room kept bound live d t)
    (k : ℕ) (handed : Handed room bound bound' now.chains now.loops k) (s e : ℕ) where
  module _ (f : ℕ) (hf : f < length d.lines) (fits : f < h) where
    -- ---- append
    pub append-carried : ends_at (indexed_point dx s) (get_or d.lines f []) ≡ true
        → ((i : ℕ) → i < length d.lines → (p : Point) → Tip p (get_or (rules.append d f (indexed_point dx e)).lines i []) → live' p → edge_word dx p ≡ edge_word dx (indexed_point dx e) → i ≡ f)
        → ((i : ℕ) → i < length d.lines → (p : Point) → Tip p (get_or (rules.append d f (indexed_point dx e)).lines i []) → live' p → (p ≡ indexed_point dx e → ⊥) → live p)
        → Carried dx h room kept bound' live' (rules.append d f (indexed_point dx e)) (appended dx t k s f e (edge_word dx (indexed_point dx e)))
    append-carried there alone keeps = record {
      chains = _;
      loops = now.loops;
      held = after;
      filed =
          unfold rules.append appended in
          filed-anew dx live live' t.lines d.lines f (get_or d.lines f [] ++ (indexed_point dx e ∷ [])) (indexed_point dx e) (first_link dx t.lines f) k e (word_of (link_count dx t.lines f + 1))
          hf (frontier-fits now) now.filed (framed-by dx bound' (appended dx t k s f e (edge_word dx (indexed_point dx e))) (rules.append d f (indexed_point dx e)) _ now.loops after)
          (appended-tips (indexed_point dx s) (indexed_point dx e) (get_or d.lines f []) there) alone keeps;
      lines_long = unfold appended in simp (length-set, length-with_slot) now.lines_long;
      links-long = unfold appended in simp (length-with_next, length-with_link) now.links-long;
      lines-past =
          unfold appended in
          past-filed dx h (with_slot dx t.lines f (first_link dx t.lines f) k e (word_of (link_count dx t.lines f + 1))) (edge_word dx (indexed_point dx e)) f (word-in-frontier dx e)
          ∙ past-with_slot dx h t.lines f (first_link dx t.lines f) k e (word_of (link_count dx t.lines f + 1)) fits
          ∙ now.lines-past;
      links-past =
          unfold appended in
          past-with_next room (with_link t.links k s 0) (last_link dx t.lines f) k
          (omega (arith, last-below (ready now handed) f hf, handed.within))
          ∙ past-with_link room t.links k s 0 handed.inside
          ∙ now.links-past;
    }
      where
        at-end : indexed_point dx s ≡ indexed_point dx (end_point dx t.lines f)
        at-end = ends_is dx t.links (slot_at dx t.lines f) (get_or now.chains f []) (get_or d.lines f []) (now.held.lines-held f hf) (indexed_point dx s) there

        after : Held dx bound' (appended dx t k s f e (edge_word dx (indexed_point dx e))) (rules.append d f (indexed_point dx e)) (set now.chains f (get_or now.chains f [] ++ (k ∷ []))) now.loops
        after = append-held (ready now handed) f hf s e (edge_word dx (indexed_point dx e)) (word-in-frontier dx e) fits at-end bound' handed.wider handed.below

    pub append-grown : (there : ends_at (indexed_point dx s) (get_or d.lines f []) ≡ true)
        (alone : (i : ℕ) → i < length d.lines → (p : Point) → Tip p (get_or (rules.append d f (indexed_point dx e)).lines i []) → live' p → edge_word dx p ≡ edge_word dx (indexed_point dx e) → i ≡ f)
        (keeps : (i : ℕ) → i < length d.lines → (p : Point) → Tip p (get_or (rules.append d f (indexed_point dx e)).lines i []) → live' p → (p ≡ indexed_point dx e → ⊥) → live p)
        → Grown now (append-carried there alone keeps) k
    unfolding append-carried
    append-grown there alone keeps = record {
      loops-same = refl;
      uses-grown = append-uses (ready now handed) f hf;
      still = append-still (ready now handed) f hf s e (edge_word dx (indexed_point dx e));
    }

    -- ---- prepend
    pub prepend-carried : starts_at (indexed_point dx e) (get_or d.lines f []) ≡ true
        → ((i : ℕ) → i < length d.lines → (p : Point) → Tip p (get_or (rules.prepend d f (indexed_point dx s)).lines i []) → live' p → edge_word dx p ≡ edge_word dx (indexed_point dx s) → i ≡ f)
        → ((i : ℕ) → i < length d.lines → (p : Point) → Tip p (get_or (rules.prepend d f (indexed_point dx s)).lines i []) → live' p → (p ≡ indexed_point dx s → ⊥) → live p)
        → Carried dx h room kept bound' live' (rules.prepend d f (indexed_point dx s)) (prepended dx t k s f (edge_word dx (indexed_point dx s)))
    prepend-carried there alone keeps = record {
      chains = _;
      loops = now.loops;
      held = after;
      filed =
          unfold rules.prepend prepended in
          filed-anew dx live live' t.lines d.lines f (indexed_point dx s ∷ get_or d.lines f []) (indexed_point dx s) k (last_link dx t.lines f) (end_point dx t.lines f) (word_of (link_count dx t.lines f + 1))
          hf (frontier-fits now) now.filed (framed-by dx bound' (prepended dx t k s f (edge_word dx (indexed_point dx s))) (rules.prepend d f (indexed_point dx s)) _ now.loops after)
          (prepended-tips (indexed_point dx s) (indexed_point dx e) (get_or d.lines f []) there) alone keeps;
      lines_long = unfold prepended in simp (length-set, length-with_slot) now.lines_long;
      links-long = unfold prepended in simp length-with_link now.links-long;
      lines-past =
          unfold prepended in
          past-filed dx h (with_slot dx t.lines f k (last_link dx t.lines f) (end_point dx t.lines f) (word_of (link_count dx t.lines f + 1))) (edge_word dx (indexed_point dx s)) f (word-in-frontier dx s)
          ∙ past-with_slot dx h t.lines f k (last_link dx t.lines f) (end_point dx t.lines f) (word_of (link_count dx t.lines f + 1)) fits
          ∙ now.lines-past;
      links-past = unfold prepended in past-with_link room t.links k s (first_link dx t.lines f) handed.inside ∙ now.links-past;
    }
      where
        after : Held dx bound' (prepended dx t k s f (edge_word dx (indexed_point dx s))) (rules.prepend d f (indexed_point dx s)) (set now.chains f (k ∷ get_or now.chains f [])) now.loops
        after = prepend-held (ready now handed) f hf s (edge_word dx (indexed_point dx s)) (word-in-frontier dx s) fits bound' handed.wider handed.below

    pub prepend-grown : (there : starts_at (indexed_point dx e) (get_or d.lines f []) ≡ true)
        (alone : (i : ℕ) → i < length d.lines → (p : Point) → Tip p (get_or (rules.prepend d f (indexed_point dx s)).lines i []) → live' p → edge_word dx p ≡ edge_word dx (indexed_point dx s) → i ≡ f)
        (keeps : (i : ℕ) → i < length d.lines → (p : Point) → Tip p (get_or (rules.prepend d f (indexed_point dx s)).lines i []) → live' p → (p ≡ indexed_point dx s → ⊥) → live p)
        → Grown now (prepend-carried there alone keeps) k
    unfolding prepend-carried
    prepend-grown there alone keeps = record {
      loops-same = refl;
      uses-grown = prepend-uses (ready now handed) f hf;
      still = λ x ne none. prepend-still (ready now handed) f hf s (edge_word dx (indexed_point dx s)) x ne;
    }

  -- ---- start
  start-tips : (a b p : Point) → Tip p (a ∷ b ∷ []) → (p ≡ a → ⊥) → p ≡ b
  start-tips a b p tip ne = by tip.role tip.there
    where
      by : (role : Role) → tip_by role p (a ∷ b ∷ []) ≡ true → p ≡ b
      by begin h = absurd (ne (same-eq p a (unfold starts_at in h)))
      by finish h = same-eq p b (unfold ends_at in h)

  pub start-carried : length d.lines < h → length d.lines + 1 < 2 ^ 32
      → ((i : ℕ) → i < length d.lines → (p : Point) → Tip p (get_or d.lines i []) → (edge_word dx p ≡ edge_word dx (indexed_point dx s) → ⊥) × (edge_word dx p ≡ edge_word dx (indexed_point dx e) → ⊥))
      → ((i : ℕ) → i < length d.lines → (p : Point) → Tip p (get_or d.lines i []) → live' p → live p)
      → Carried dx h room kept bound' live' (rules.start d (indexed_point dx s) (indexed_point dx e)) (started dx t k s e (edge_word dx (indexed_point dx s)) (edge_word dx (indexed_point dx e)))
  start-carried fits fits' alone keeps = record {
    chains = _;
    loops = now.loops;
    held = after;
    filed =
        unfold rules.start started in
        subst (λ (m : ℕ). Filed dx live' (set (set (with_slot dx t.lines m k k e 1) (edge_word dx (indexed_point dx s)) m) (edge_word dx (indexed_point dx e)) m) (d.lines ++ ((indexed_point dx s ∷ indexed_point dx e ∷ []) ∷ []))) (sym now.held.count-is)
        (filed-new dx live live' t.lines d.lines (indexed_point dx s ∷ indexed_point dx e ∷ []) (indexed_point dx s) (indexed_point dx e) k k e 1 (frontier-fits now) now.filed
        (unfold rules.start in framed-by dx bound' (started dx t k s e (edge_word dx (indexed_point dx s)) (edge_word dx (indexed_point dx e))) (rules.start d (indexed_point dx s) (indexed_point dx e)) _ now.loops after)
        (start-tips (indexed_point dx s) (indexed_point dx e)) alone keeps (word-in-frontier dx s, word-in-frontier dx e));
    lines_long = unfold started in simp (length-set, length-with_slot) now.lines_long;
    links-long = unfold started in simp length-with_link now.links-long;
    lines-past =
        unfold started in
        past-filed dx h (set (with_slot dx t.lines t.progress.count k k e 1) (edge_word dx (indexed_point dx s)) t.progress.count) (edge_word dx (indexed_point dx e)) t.progress.count (word-in-frontier dx e)
        ∙ past-filed dx h (with_slot dx t.lines t.progress.count k k e 1) (edge_word dx (indexed_point dx s)) t.progress.count (word-in-frontier dx s)
        ∙ past-with_slot dx h t.lines t.progress.count k k e 1 (omega (arith, now.held.count-is))
        ∙ now.lines-past;
    links-past = unfold started in past-with_link room t.links k s 0 handed.inside ∙ now.links-past;
  }
    where
      after : Held dx bound' (started dx t k s e (edge_word dx (indexed_point dx s)) (edge_word dx (indexed_point dx e))) (rules.start d (indexed_point dx s) (indexed_point dx e)) (now.chains ++ ((k ∷ []) ∷ [])) now.loops
      after = start-held (ready now handed) s e (edge_word dx (indexed_point dx s)) (edge_word dx (indexed_point dx e)) (word-in-frontier dx s) (word-in-frontier dx e) fits fits' bound' handed.wider handed.below

  pub start-grown : (fits : length d.lines < h) (fits' : length d.lines + 1 < 2 ^ 32)
      (alone : (i : ℕ) → i < length d.lines → (p : Point) → Tip p (get_or d.lines i []) → (edge_word dx p ≡ edge_word dx (indexed_point dx s) → ⊥) × (edge_word dx p ≡ edge_word dx (indexed_point dx e) → ⊥))
      (keeps : (i : ℕ) → i < length d.lines → (p : Point) → Tip p (get_or d.lines i []) → live' p → live p)
      → Grown now (start-carried fits fits' alone keeps) k
  unfolding start-carried
  start-grown fits fits' alone keeps = record {
    loops-same = refl;
    uses-grown = start-uses (ready now handed);
    still = λ x ne none. start-still (ready now handed) s e (edge_word dx (indexed_point dx s)) (edge_word dx (indexed_point dx e)) x ne;
  }
