-- Notes of all open lines: every line is noted, and stays so where a line is lengthened, joined with another, closed or begun, provided that the words of the line
-- that is noted anew are no other line's. Assumes nothing.
use mathlib.Core.Path.{◌≡◌, sym, ◌∙◌, ap, subst}
use mathlib.Core.Bool.{true}
use mathlib.Core.List.{List, [], ◌∷◌, ◌++◌}
use Prim.Native.Nat.{ℕ, ◌+◌, ◌-◌, ◌≤◌, ◌<◌}
use native.Mathlib.Decide.{ℕ_discrete, dec_lt}
use native.Mathlib.Omega.{arith}
use lib.ListN.{length, get_or, set, length-set, length-take, length-append, get_or-append}
use lib.Seq.{get_or-set_same, get_or-set_other, get_or-take, get_or-append_seam}
use Rattle.scope.specs.Cells.{Point}
use Rattle.scope.specs.Stitching.{Line, starts_at, ends_at, without}
use Rattle.laws.proofs.Strokes.{Role, begin, finish}
use Rattle.laws.proofs.LineWords.{word_by, begin-of-joined, finish-of-joined, Clear, Apt, Spread}
use Rattle.trying.proofs.Notes.{Right, with_line, length-with-line, right_new, right-stays}

-- every line that is left was there before, at another place than the one that went
pub left_over : (ls : List Line) (i j : ℕ) → i < length ls → j < length (without ls i) → (k : ℕ) × (k < length ls) × (k ≡ i → ⊥) × (get_or (without ls i) j [] ≡ get_or ls k [])
left_over ls i j hi hj = by (ℕ_discrete j i)
  where
    fewer : j < length ls - 1
    fewer = unfold without in omega (arith, length-take (length ls - 1) (set ls i (get_or ls (length ls - 1) [])), length-set ls i (get_or ls (length ls - 1) []))

    taken : get_or (without ls i) j [] ≡ get_or (set ls i (get_or ls (length ls - 1) [])) j []
    taken = unfold without in get_or-take (length ls - 1) (set ls i (get_or ls (length ls - 1) [])) j [] fewer

    by : Dec (j ≡ i) → (k : ℕ) × (k < length ls) × (k ≡ i → ⊥) × (get_or (without ls i) j [] ≡ get_or ls k [])
    by (yes e) =
        (length ls - 1, omega (arith, fewer), (λ q. omega (arith, fewer, q, e)), taken ∙ ap (λ (n : ℕ). get_or (set ls i (get_or ls (length ls - 1) [])) n []) e ∙ get_or-set_same ls i (get_or ls (length ls - 1) []) [] hi)
    by (no ne) = (j, omega (arith, fewer), ne, taken ∙ get_or-set_other ls i j (get_or ls (length ls - 1) []) [] ne)

module _ (dx : ℕ) where
  -- the words note every line
  abbrev pub Noted : List ℕ → List Line → Type 0
  Noted words ls = (i : ℕ) → i < length ls → Right dx words (get_or ls i [])

  -- a line with its place taken
  swapped : (words : List ℕ) (ls : List Line) (i f : ℕ) (m : Line) → f < length ls → (i ≡ f → Right dx words m) → ((i ≡ f → ⊥) → Right dx words (get_or ls i [])) → Right dx words (get_or (set ls f m) i [])
  swapped words ls i f m hf here there = by (ℕ_discrete i f)
    where
      by : Dec (i ≡ f) → Right dx words (get_or (set ls f m) i [])
      by (yes e) = subst (Right dx words) (sym (get_or-set_same ls f m [] hf) ∙ ap (λ (n : ℕ). get_or (set ls f m) n []) (sym e)) (here e)
      by (no ne) = subst (Right dx words) (sym (get_or-set_other ls f i m [] ne)) (there ne)

  module _ (words : List ℕ) (ls : List Line) (long : dx + 2 ≤ length words) where
    -- a line in another's place
    module _ (f : ℕ) (m : Line) (hf : f < length ls) (spread : Spread dx (set ls f m)) where
      inside : (i : ℕ) → i < length ls → i < length (set ls f m)
      inside i hi = omega (arith, length-set ls f m)

      pub apt-there : Apt dx m
      apt-there = subst (Apt dx) (get_or-set_same ls f m [] hf) (spread.apt f (inside f hf))

      pub clear-there : (i : ℕ) → i < length ls → (i ≡ f → ⊥) → Clear dx (get_or ls i []) m
      clear-there i hi ne =
          subst (λ (l : Line). Clear dx l m) (get_or-set_other ls f i m [] ne)
          (subst (Clear dx (get_or (set ls f m) i [])) (get_or-set_same ls f m [] hf) (spread.apart i f (inside i hi) (inside f hf) ne))

      pub noted-set : Noted words ls → Noted (with_line dx words m) (set ls f m)
      noted-set now i hi =
          swapped (with_line dx words m) ls i f m hf
          (λ e. right_new dx words m long apt-there)
          (λ ne. right-stays dx words (get_or ls i []) m (now i (omega (arith, length-set ls f m))) (clear-there i (omega (arith, length-set ls f m)) ne))

    -- a line more
    pub noted-start : (m : Line) → Spread dx (ls ++ (m ∷ [])) → Noted words ls → Noted (with_line dx words m) (ls ++ (m ∷ []))
    noted-start m spread now i hi = by (dec_lt i (length ls))
      where
        more : length (ls ++ (m ∷ [])) ≡ length ls + 1
        more = length-append ls (m ∷ [])

        seam : get_or (ls ++ (m ∷ [])) (length ls) [] ≡ m
        seam = get_or-append_seam ls m [] []

        by : Dec (i < length ls) → Right dx (with_line dx words m) (get_or (ls ++ (m ∷ [])) i [])
        by (yes k) =
            subst (Right dx (with_line dx words m)) (sym (get_or-append ls (m ∷ []) [] i k))
            (right-stays dx words (get_or ls i []) m (now i k)
            (subst (λ (l : Line). Clear dx l m) (get_or-append ls (m ∷ []) [] i k)
            (subst (Clear dx (get_or (ls ++ (m ∷ [])) i [])) seam (spread.apart i (length ls) hi (omega (arith, more)) (λ q. omega arith)))))
        by (no k) =
            subst (Right dx (with_line dx words m)) (sym seam ∙ ap (λ (n : ℕ). get_or (ls ++ (m ∷ [])) n []) last)
            (right_new dx words m long (subst (Apt dx) seam (spread.apt (length ls) (omega (arith, more)))))
          where
            last : length ls ≡ i
            last = omega (arith, more)

    -- a line fewer
    pub noted-without : (f : ℕ) → f < length ls → Noted words ls → Noted words (without ls f)
    noted-without f hf now i hi =
        let from = left_over ls f i hf hi in
        subst (Right dx words) (sym from.3) (now from.0 from.1)

    -- f followed by g
    pub noted-join : (s e : Point) (f g : ℕ) → f < length ls → g < length ls → (f ≡ g → ⊥) → ends_at s (get_or ls f []) ≡ true → starts_at e (get_or ls g []) ≡ true → Spread dx ls → Noted words ls
        → Noted (with_line dx words (get_or ls f [] ++ get_or ls g [])) (without (set ls f (get_or ls f [] ++ get_or ls g [])) g)
    noted-join s e f g hf hg ne hs he spread now i hi =
        subst (Right dx (with_line dx words m)) (sym from.3)
        (swapped (with_line dx words m) ls from.0 f m hf
        (λ q. right_new dx words m long apt)
        (λ q. right-stays dx words (get_or ls from.0 []) m (now from.0 there) (clear q)))
      where
        m : Line
        m = get_or ls f [] ++ get_or ls g []

        from : (k : ℕ) × (k < length (set ls f m)) × (k ≡ g → ⊥) × (get_or (without (set ls f m) g) i [] ≡ get_or (set ls f m) k [])
        from = left_over (set ls f m) g i (omega (arith, length-set ls f m)) hi

        there : from.0 < length ls
        there = omega (arith, from.1, length-set ls f m)

        start_is : word_by dx begin m ≡ word_by dx begin (get_or ls f [])
        start_is = begin-of-joined dx s e (get_or ls f []) (get_or ls g []) hs

        end_is : word_by dx finish m ≡ word_by dx finish (get_or ls g [])
        end_is = finish-of-joined dx s e (get_or ls f []) (get_or ls g []) he

        low : (role : Role) → word_by dx role m < dx + 2
        low begin = omega (arith, start_is, (spread.apt f hf).low begin)
        low finish = omega (arith, end_is, (spread.apt g hg).low finish)

        apt : Apt dx m
        apt = record { proper = λ q. spread.apart f g hf hg ne begin finish (sym start_is ∙ q ∙ end_is); low = low }

        clear : (from.0 ≡ f → ⊥) → Clear dx (get_or ls from.0 []) m
        clear q role begin w = spread.apart from.0 f there hf q role begin (w ∙ start_is)
        clear q role finish w = spread.apart from.0 g there hg from.2 role finish (w ∙ end_is)

  -- two lines in the places of two, noted one after the other: only at the end are the words apart
  module _ (words : List ℕ) (ls : List Line) (long : dx + 2 ≤ length words) (f g : ℕ) (m n : Line) (hf : f < length ls) (hg : g < length ls) (ne : f ≡ g → ⊥) (spread : Spread dx (set (set ls g n) f m)) where
    abbrev ls₁ : List Line
    ls₁ = set ls g n

    long₁ : length ls₁ ≡ length ls
    long₁ = length-set ls g n

    hf₁ : f < length ls₁
    hf₁ = omega (arith, long₁)

    spread₁ : Spread dx (set ls₁ f m)
    spread₁ = spread

    at_g : get_or ls₁ g [] ≡ n
    at_g = get_or-set_same ls g n [] hg

    at_other : (i : ℕ) → (i ≡ g → ⊥) → get_or ls₁ i [] ≡ get_or ls i []
    at_other i q = get_or-set_other ls g i n [] q

    g-not-f : g ≡ f → ⊥
    g-not-f q = ne (sym q)

    n-apt : Apt dx n
    n-apt =
        subst (Apt dx) (get_or-set_other ls₁ f g m [] g-not-f ∙ at_g) (spread₁.apt g (omega (arith, long₁, length-set ls₁ f m)))

    clear-n : (i : ℕ) → i < length ls → (i ≡ f → ⊥) → (i ≡ g → ⊥) → Clear dx (get_or ls i []) n
    clear-n i hi q q' =
        subst (λ (l : Line). Clear dx l n) (get_or-set_other ls₁ f i m [] q ∙ at_other i q')
        (subst (Clear dx (get_or (set ls₁ f m) i [])) (get_or-set_other ls₁ f g m [] g-not-f ∙ at_g)
        (spread₁.apart i g (omega (arith, long₁, length-set ls₁ f m)) (omega (arith, long₁, length-set ls₁ f m)) q'))

    all-but-f : Noted words ls → (i : ℕ) → i < length ls → (i ≡ f → ⊥) → Right dx (with_line dx words n) (get_or ls₁ i [])
    all-but-f now i hi q =
        swapped (with_line dx words n) ls i g n hg
        (λ e. right_new dx words n long n-apt)
        (λ q'. right-stays dx words (get_or ls i []) n (now i hi) (clear-n i hi q q'))

    pub noted-two : Noted words ls → Noted (with_line dx (with_line dx words n) m) (set (set ls g n) f m)
    noted-two now i hi =
        swapped (with_line dx (with_line dx words n) m) ls₁ i f m hf₁
        (λ e. right_new dx (with_line dx words n) m (omega (arith, length-with-line dx words n)) (apt-there words ls₁ long f m hf₁ spread₁))
        (λ q. right-stays dx (with_line dx words n) (get_or ls₁ i []) m (all-but-f now i low q) (clear-there words ls₁ long f m hf₁ spread₁ i (omega (arith, long₁, low)) q))
      where
        low : i < length ls
        low = omega (arith, length-set (set ls g n) f m, length-set ls g n)
