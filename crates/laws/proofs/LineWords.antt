-- The frontier words of a line's two tips. After any number of cells all of these are apart, of one line and of two, and each is a word of the frontier.
-- Assumes nothing.
use mathlib.Core.Path.{◌≡◌, refl, sym, ◌∙◌, ap, subst}
use mathlib.Core.Bool.{true, false≢true}
use mathlib.Core.List.{List, [], ◌∷◌, ◌++◌}
use Prim.Native.Nat.{ℕ, suc, ◌+◌, ◌≤◌, ◌<◌}
use native.Mathlib.Omega.{arith}
use lib.ListN.{length, get_or}
use Rattle.scope.specs.Terrain.{Sheet}
use Rattle.scope.specs.Cells.{Point}
use Rattle.scope.specs.Stitching.{Line, starts_at, ends_at, nothing, stitch_all}
use Rattle.scope.specs.Drawing.{segments_after, drawing_after}
use Rattle.laws.proofs.Ends.{same-eq, same_refl, end-of-prepended, start-of-joined, end-of-joined, end-of-appended}
use Rattle.laws.proofs.Edges.{Outside}
use Rattle.laws.proofs.Strokes.{Role, begin, finish}
use Rattle.laws.proofs.Cellwise.{Sound}
use Rattle.laws.proofs.Grid.{after}
use Rattle.laws.proofs.Tips.{Tip, tip_by, edge_word, tip-reached, word-determines, tips-on-frontier, words-apart-after, frontier-word-low}
use Rattle.laws.proofs.Sizes.{lines-are-long, some-point, first-point}

-- the word of a line's tip in a role
unfoldable pub word_by : ℕ → Role → Line → ℕ
word_by dx begin [] = 0
word_by dx finish [] = 0
word_by dx begin (p ∷ l) = edge_word dx p
word_by dx finish (p ∷ []) = edge_word dx p
word_by dx finish (p ∷ q ∷ l) = word_by dx finish (q ∷ l)

pub word_at : (dx : ℕ) (role : Role) (p : Point) (l : Line) → tip_by role p l ≡ true → word_by dx role l ≡ edge_word dx p
unfolding word_by starts_at ends_at
word_at dx begin p [] h = absurd (false≢true h)
word_at dx begin p (q ∷ l) h = ap (edge_word dx) (sym (same-eq p q h))
word_at dx finish p [] h = absurd (false≢true h)
word_at dx finish p (q ∷ []) h = ap (edge_word dx) (sym (same-eq p q h))
word_at dx finish p (q ∷ q' ∷ l) h = word_at dx finish p (q' ∷ l) h

-- a line with a point has a tip in both roles
pub tip-of : (role : Role) (l : Line) → 1 ≤ length l → (p : Point) × (tip_by role p l ≡ true)
unfolding starts_at ends_at
tip-of role [] h = absurd (omega arith)
tip-of begin (q ∷ l) h = (q, same_refl q)
tip-of finish (q ∷ []) h = (q, same_refl q)
tip-of finish (q ∷ q' ∷ l) h = tip-of finish (q' ∷ l) (omega arith)

-- lines with the same tip have the same word
pub same_word : (dx : ℕ) (role : Role) (l m : Line) → 1 ≤ length l → ((p : Point) → tip_by role p m ≡ tip_by role p l) → word_by dx role m ≡ word_by dx role l
same_word dx role l m h same =
    let tip = tip-of role l h in
    word_at dx role tip.0 m (same tip.0 ∙ tip.1) ∙ sym (word_at dx role tip.0 l tip.1)

-- the words of lines that are lengthened or joined
module _ (dx : ℕ) (s e : Point) (f g : Line) where
  pub begin-of-joined : ends_at s f ≡ true → word_by dx begin (f ++ g) ≡ word_by dx begin f
  begin-of-joined hs = same_word dx begin f (f ++ g) (some-point s f hs) (λ p. start-of-joined p s f g hs)

  pub finish-of-joined : starts_at e g ≡ true → word_by dx finish (f ++ g) ≡ word_by dx finish g
  finish-of-joined he = same_word dx finish g (f ++ g) (first-point e g he) (λ p. end-of-joined p e f g he)

  pub finish-of-prepended : starts_at e g ≡ true → word_by dx finish (s ∷ g) ≡ word_by dx finish g
  finish-of-prepended he = same_word dx finish g (s ∷ g) (first-point e g he) (λ p. end-of-prepended p s e g he)

  pub finish-of-appended : word_by dx finish (f ++ (e ∷ [])) ≡ edge_word dx e
  finish-of-appended = word_at dx finish e (f ++ (e ∷ [])) (end-of-appended e e f ∙ same_refl e)

  pub begin-of-prepended : word_by dx begin (s ∷ g) ≡ edge_word dx s
  unfolding word_by
  begin-of-prepended = refl

-- no word of one line is a word of the other
abbrev pub Clear : ℕ → Line → Line → Type 0
Clear dx l m = (role role' : Role) → word_by dx role l ≡ word_by dx role' m → ⊥

-- a line's two words are two words of the frontier
pub record Apt (dx : ℕ) (l : Line) : Type 0 where
  pub proper : word_by dx begin l ≡ word_by dx finish l → ⊥
  pub low : (role : Role) → word_by dx role l < dx + 2

-- and no two lines have a word in common
pub record Spread (dx : ℕ) (ls : List Line) : Type 0 where
  pub apart : (i j : ℕ) → i < length ls → j < length ls → (i ≡ j → ⊥) → Clear dx (get_or ls i []) (get_or ls j [])
  pub apt : (i : ℕ) → i < length ls → Apt dx (get_or ls i [])

module _ (A : Sheet) {dx dy : ℕ} (out : Outside A dx dy) (r c : ℕ) (hc : c ≤ suc dx) where
  abbrev lines : List Line
  lines = (drawing_after A dx r c).lines

  abbrev line : ℕ → Line
  line i = get_or lines i []

  sound : Sound (segments_after A dx r c)
  sound = (after A out r c hc).sound

  some : (i : ℕ) → i < length lines → 1 ≤ length (line i)
  unfolding drawing_after
  some i hi = omega (arith, lines-are-long (segments_after A dx r c) i hi)

  the-tip : (i : ℕ) → i < length lines → (role : Role) → (p : Point) × (tip_by role p (line i) ≡ true)
  the-tip i hi role = tip-of role (line i) (some i hi)

  as-tip : (i : ℕ) (hi : i < length lines) (role : Role) → Tip (the-tip i hi role).0 (line i)
  as-tip i hi role = record { role = role; there = (the-tip i hi role).1 }

  tip-word : (i : ℕ) (hi : i < length lines) (role : Role) → word_by dx role (line i) ≡ edge_word dx (the-tip i hi role).0
  tip-word i hi role = word_at dx role (the-tip i hi role).0 (line i) (the-tip i hi role).1

  -- no point is the start and the end of a line
  not-both : (i : ℕ) → i < length lines → (p : Point) → starts_at p (line i) ≡ true → ends_at p (line i) ≡ true → ⊥
  unfolding drawing_after
  not-both i hi p s e =
      omega (
        arith,
        (tip-reached (stitch_all nothing (segments_after A dx r c)) (segments_after A dx r c) sound.balanced sound.once i hi p (record { role = begin; there = s })).1,
        (tip-reached (stitch_all nothing (segments_after A dx r c)) (segments_after A dx r c) sound.balanced sound.once i hi p (record { role = finish; there = e })).0,
      )

  pub spread-after : Spread dx (drawing_after A dx r c).lines
  spread-after = record {
    apart = λ i j hi hj ne role role' w.
        ne (words-apart-after A out r c hc i j hi hj (the-tip i hi role).0 (the-tip j hj role').0 (as-tip i hi role) (as-tip j hj role') (sym (tip-word i hi role) ∙ w ∙ tip-word j hj role'));
    apt = λ i hi. record {
      proper = λ w.
          not-both i hi (the-tip i hi finish).0
          (subst (λ (p : Point). starts_at p (line i) ≡ true)
          (word-determines dx r c (the-tip i hi begin).0 (the-tip i hi finish).0
          (tips-on-frontier A out r c hc i hi (the-tip i hi begin).0 (as-tip i hi begin)) (tips-on-frontier A out r c hc i hi (the-tip i hi finish).0 (as-tip i hi finish))
          (sym (tip-word i hi begin) ∙ w ∙ tip-word i hi finish))
          (the-tip i hi begin).1)
          (the-tip i hi finish).1;
      low = λ role. omega (arith, tip-word i hi role, frontier-word-low dx r c (the-tip i hi role).0 (tips-on-frontier A out r c hc i hi (the-tip i hi role).0 (as-tip i hi role)));
    };
  }
