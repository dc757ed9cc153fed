-- What follows of records and of the words that they stand for, by induction on the records or on six words at a time: lengths, and what comes back
-- of words and of records. Assumes nothing.
use mathlib.Core.Path.{◌≡◌, refl, ap}
use mathlib.Core.Bool.{Bool, true, false, cond}
use mathlib.Core.List.{List, [], ◌∷◌, ◌++◌}
use Prim.Native.Nat.{ℕ, zero, suc, ◌+◌, ◌*◌, ◌^◌, ◌≤◌, ◌<◌}
use native.Mathlib.Nat.{zero-add, add-zero}
use native.Mathlib.Omega.{arith}
use lib.Dec.{eqb}
use lib.ListN.{length, get_or, take}
use lib.Seq.{length-take-le, get_or-take}
use borrow.Author.Tests.{eqb-true, eqb-false, ne_eqb}
use mir.Syntax.{w64}
use mir.Val.{SFits}
use Rattle.scope.specs.Limits.{record_stride, no_owner}
use Rattle.scope.specs.Room.{directory_words}
use Rattle.scope.specs.Area.{area, low_word, high_word, area_words}
use Rattle.scope.specs.Contour.{class_word, owner_word}
use Rattle.scope.specs.GeoJson.{class_at, owner_at, area_low_at, area_high_at, ring_at, ring_set_refused}
use Rattle.ringset.proofs.Laws.{SoundRecord, sound}
use Rattle.ringrecord.specs.declared.Fate.{Fate}
use Rattle.ringrecord.specs.declared.Fate.TheVariants as fate-is
use Rattle.ringrecord.specs.declared.RingRecord.{RingRecord}
use Rattle.ringrecord.specs.Records.{fate_of, words_of, directory_from, directory_of, fate_from, record_from, records_from}
use Rattle.laws.proofs.Complement.{low_fits, high_fits, area-comes-back, area-words-come-back}

-- ---- lengths

-- six words a record
pub as-many-words : (k : ℕ) (rs : List RingRecord) → length (directory_from k rs) ≡ directory_words (length rs)
unfolding directory_from words_of area_words directory_words record_stride
as-many-words k [] = refl
as-many-words k (r ∷ rs) = omega (arith, as-many-words (suc k) rs)

-- a record for each six words
pub as-many-records : (n : ℕ) (ws : List ℕ) → length ws ≡ directory_words n → length (records_from ws) ≡ n
unfolding records_from directory_words record_stride
as-many-records n [] h = omega arith
as-many-records n (a ∷ []) h = omega arith
as-many-records n (a ∷ b ∷ []) h = omega arith
as-many-records n (a ∷ b ∷ c ∷ []) h = omega arith
as-many-records n (a ∷ b ∷ c ∷ d ∷ []) h = omega arith
as-many-records n (a ∷ b ∷ c ∷ d ∷ l ∷ []) h = omega arith
as-many-records zero (a ∷ b ∷ c ∷ d ∷ l ∷ u ∷ ws) h = omega arith
as-many-records (suc n) (a ∷ b ∷ c ∷ d ∷ l ∷ u ∷ ws) h = ap suc (as-many-records n ws (omega arith))

-- ---- records one after the other

-- the words of whole records in front are these records in front
pub records-append : (m : ℕ) (xs ys : List ℕ) → length xs ≡ directory_words m → records_from (xs ++ ys) ≡ records_from xs ++ records_from ys
unfolding records_from directory_words record_stride
records-append m [] ys h = refl
records-append m (a ∷ []) ys h = absurd (omega arith)
records-append m (a ∷ b ∷ []) ys h = absurd (omega arith)
records-append m (a ∷ b ∷ c ∷ []) ys h = absurd (omega arith)
records-append m (a ∷ b ∷ c ∷ d ∷ []) ys h = absurd (omega arith)
records-append m (a ∷ b ∷ c ∷ d ∷ l ∷ []) ys h = absurd (omega arith)
records-append zero (a ∷ b ∷ c ∷ d ∷ l ∷ u ∷ xs) ys h = absurd (omega arith)
records-append (suc m) (a ∷ b ∷ c ∷ d ∷ l ∷ u ∷ xs) ys h = rw (records-append m xs ys (omega arith))

-- ---- words that come back

-- class and owner words that the record of number k holds as they are
pub data FateKept (k class owner : ℕ) : Type 0 where
  a-polygon : class ≡ 0 → owner ≡ k → FateKept k class owner
  a-hole : class ≡ 1 → FateKept k class owner
  a-line : class ≡ 2 → owner ≡ no_owner → FateKept k class owner

-- and the area's two words, which are words of 32 bits
pub record Kept (k class owner low high : ℕ) : Type 0 where
  pub fate-kept : FateKept k class owner
  pub low-kept : low < 2 ^ 32
  pub high-kept : high < 2 ^ 32

-- the words of record i, in a record of number k
abbrev pub KeptAt : ℕ → List ℕ → ℕ → Type 0
KeptAt k ws i = Kept k (class_at ws i) (owner_at ws i) (area_low_at ws i) (area_high_at ws i)

fate-words-come-back : {k class owner : ℕ} → FateKept k class owner →
    (class_word (fate_of (fate_from class owner)) ≡ class) × (owner_word k (fate_of (fate_from class owner)) ≡ owner)
unfolding fate_from fate_of class_word owner_word
fate-words-come-back (a-polygon e f) = rw (e, f) (refl, refl)
fate-words-come-back {k} {class} {owner} (a-hole e) = rw e (by (eqb owner no_owner) refl)
  where
    by : (b : Bool) → eqb owner no_owner ≡ b →
        (class_word (fate_of (cond b fate-is.Dropped (fate-is.Hole owner))) ≡ 1) × (owner_word k (fate_of (cond b fate-is.Dropped (fate-is.Hole owner))) ≡ owner)
    by true f = rw (eqb-true owner no_owner f) (refl, refl)
    by false f = (refl, refl)
fate-words-come-back (a-line e f) = rw (e, f) (refl, refl)

pub words-come-back : {k class owner low high : ℕ} (first count : ℕ) → Kept k class owner low high →
    words_of k (record_from first count class owner low high) ≡ first ∷ count ∷ class ∷ owner ∷ low ∷ high ∷ []
unfolding words_of record_from
words-come-back {low = low} {high} first count w =
    let fate = fate-words-come-back w.fate-kept in
    rw (fate.0, fate.1, area-words-come-back low high w.low-kept w.high-kept)

-- where these words are kept, all words come back from the records that they stand for, numbered from k
pub all-words-come-back : (k n : ℕ) (ws : List ℕ) → length ws ≡ directory_words n → ((i : ℕ) → i < n → KeptAt (k + i) ws i) → directory_from k (records_from ws) ≡ ws
unfolding directory_from records_from directory_words record_stride class_at owner_at area_low_at area_high_at
all-words-come-back k n [] h kept = refl
all-words-come-back k n (a ∷ []) h kept = absurd (omega arith)
all-words-come-back k n (a ∷ b ∷ []) h kept = absurd (omega arith)
all-words-come-back k n (a ∷ b ∷ c ∷ []) h kept = absurd (omega arith)
all-words-come-back k n (a ∷ b ∷ c ∷ d ∷ []) h kept = absurd (omega arith)
all-words-come-back k n (a ∷ b ∷ c ∷ d ∷ l ∷ []) h kept = absurd (omega arith)
all-words-come-back k zero (a ∷ b ∷ c ∷ d ∷ l ∷ u ∷ ws) h kept = absurd (omega arith)
all-words-come-back k (suc n) (a ∷ b ∷ c ∷ d ∷ l ∷ u ∷ ws) h kept =
    let e : words_of k (record_from a b c d l u) ≡ a ∷ b ∷ c ∷ d ∷ l ∷ u ∷ [] = words-come-back a b (rw add-zero at (kept 0 (omega arith))) in
    rw (e, all-words-come-back (suc k) n ws (omega arith) rest)
  where
    later : (q i : ℕ) → get_or (a ∷ b ∷ c ∷ d ∷ l ∷ u ∷ ws) (6 * suc i + q) 0 ≡ get_or ws (6 * i + q) 0
    later q i = let e : 6 * suc i + q ≡ suc (suc (suc (suc (suc (suc (6 * i + q)))))) = omega arith in rw e

    rest : (i : ℕ) → i < n → KeptAt (suc k + i) ws i
    rest i m =
        let e : k + suc i ≡ suc k + i = omega arith in
        rw (e, later 2 i, later 3 i, later 4 i, later 5 i) at (kept (suc i) (omega arith))

-- ---- records that come back

fate-comes-back : (k : ℕ) (fate : Fate) → (fate ≡ fate-is.Hole no_owner → ⊥) → fate_from (class_word (fate_of fate)) (owner_word k (fate_of fate)) ≡ fate
unfolding fate_from fate_of class_word owner_word no_owner
fate-comes-back k fate-is.Polygon h = refl
fate-comes-back k (fate-is.Hole owner) h = rw (ne_eqb owner no_owner (λ e. h (ap fate-is.Hole e)))
fate-comes-back k fate-is.Dropped h = refl
fate-comes-back k fate-is.Line h = refl

-- a record comes back from its words, but for a hole of the owner that stands for none, where its area fits 64 bits, as any `i64` does
pub record-comes-back : (k : ℕ) (r : RingRecord) → (r.fate ≡ fate-is.Hole no_owner → ⊥) → SFits w64 r.area →
    record_from r.first r.count (class_word (fate_of r.fate)) (owner_word k (fate_of r.fate)) (low_word r.area) (high_word r.area) ≡ r
unfolding record_from
record-comes-back k r h f = rw (fate-comes-back k r.fate h, area-comes-back r.area f)

-- ---- a checked set

-- class, owner and area of a sound record come back
sound-kept : (ps directory : List ℕ) (rings k : ℕ) → SoundRecord ps directory rings k → KeptAt k directory k
sound-kept ps directory rings k s = record {
  fate-kept = by (eqb (class_at directory k) 0) refl;
  low-kept = rw s.area-low (low_fits (area (ring_at ps directory k)));
  high-kept = rw s.area-high (high_fits (area (ring_at ps directory k)));
}
  where
    by : (b : Bool) → eqb (class_at directory k) 0 ≡ b → FateKept k (class_at directory k) (owner_at directory k)
    by true e = let p = eqb-true (class_at directory k) 0 e in a-polygon p (s.polygon p)
    by false e =
        let not-0 = eqb-false (class_at directory k) 0 e in
        let low = s.classed in
        a-hole (omega arith)

-- so are those of a set that number 9 does not refuse
pub checked-words-are-kept : (ps directory : List ℕ) (n : ℕ) → ring_set_refused ps directory n ≡ false → (i : ℕ) → i < n → KeptAt i directory i
checked-words-are-kept ps directory n e i h = sound-kept ps directory n i ((sound ps directory n e).at i h)

-- the first words come back from the records that they stand for
pub first-words-come-back : (directory : List ℕ) (n : ℕ) → directory_words n ≤ length directory → ((i : ℕ) → i < n → KeptAt i directory i) →
    directory_of (records_from (take (directory_words n) directory)) ≡ take (directory_words n) directory
unfolding directory_of directory_words record_stride class_at owner_at area_low_at area_high_at
first-words-come-back directory n long kept = all-words-come-back 0 n (take (directory_words n) directory) (length-take-le (directory_words n) directory long) front_kept
  where
    word : (i q : ℕ) → i < n → q < 6 → get_or (take (directory_words n) directory) (6 * i + q) 0 ≡ get_or directory (6 * i + q) 0
    word i q h l = get_or-take (directory_words n) directory (6 * i + q) 0 (omega arith)

    front_kept : (i : ℕ) → i < n → KeptAt (0 + i) (take (directory_words n) directory) i
    front_kept i h =
        rw (zero-add, word i 2 h (omega arith), word i 3 h (omega arith), word i 4 h (omega arith), word i 5 h (omega arith)) (kept i h)
