-- Packing: each way out of it is what the verdict on the output tables says, whatever words a link's point and a record have. Assumes nothing.
use mathlib.Core.Path.{◌≡◌, refl, sym, ◌∙◌, ap, subst}
use mathlib.Core.Bool.{Bool, true, false, cond}
use mathlib.Core.List.{List}
use Prim.Native.Nat.{ℕ, ◌*◌, ◌/◌, ◌≤◌, ◌<◌}
use native.Mathlib.Decide.{dec_lt}
use native.Mathlib.Omega.{arith}
use lib.Dec.{ltb}
use lib.ListN.{length}
use lib.Seq.{sets, length-sets}
use borrow.Author.Tests.{lt-ltb, le-ltb, ltb-false}
use Rattle.error.specs.declared.Refusal.{Refusal}
use Rattle.error.specs.declared.Refusal.TheVariants.{PointsShort, DirectoryShort}
use Rattle.scope.specs.Limits.{record_stride}
use Rattle.scope.specs.Room.{point_words, directory_words}
use Rattle.scope.specs.Tables.{written}
use Rattle.spreading.specs.Spread.{spread_from}
use Rattle.machine.specs.Walk as walk
use Rattle.machine.specs.Walk.{walk_words, walk_records}
use Rattle.isoringbuilder.specs.Verdict.{Verdict, refused, passes, room_verdict}
use Rattle.isoringbuilder.specs.Pass.{pass_table, packed, spread_out, Packed, PackedWhole}
use Rattle.isoringbuilder.specs.declared.Drawing.{Drawing}
use Rattle.std.specs.Prelude.{Result, Ok, Err}

-- what packing answers and leaves, over the links, where a link's point has these words, and all records these
pub record PackedAs {Word : Type 0} (words : List ℕ → ℕ → List Word) (records : List ℕ → Drawing → List ℕ) (d : Drawing) (links : List ℕ) (points : List Word) (directory : List ℕ) (answer : Result ℕ Refusal) (points' : List Word) (directory' : List ℕ) : Type 0 where
  pub answers : answer ≡ packed (room_verdict d.segments d.rings (length points) (length directory)) d.rings
  pub points-are : points' ≡ pass_table (room_verdict d.segments d.rings (length points) (length directory)) points (sets points 0 (walk_words (words links) links d.head d.head d.segments))
  pub directory-is : directory' ≡ pass_table (room_verdict d.segments d.rings (length points) (length directory)) directory (sets directory 0 (records links d))

-- the records without areas
abbrev pub short_records : List ℕ → Drawing → List ℕ
short_records links d = walk_records links 0 0 d.head d.segments

-- a refusal comes of a refused verdict, and rings of one that passes
module _ {Word : Type 0} (old new : List Word) (rings : ℕ) where
  pub refusal-spares : (v : Verdict) (why : Refusal) → packed v rings ≡ Err why → old ≡ pass_table v old new
  unfolding packed pass_table
  refusal-spares (refused other) why e = refl
  refusal-spares passes why e = absurd (let z : ◌≡◌ {A = ℕ} 0 1 = cc in omega arith)

  pub rings-are-stored : (v : Verdict) (n : ℕ) → packed v rings ≡ Ok n → new ≡ pass_table v old new
  unfolding packed pass_table
  rings-are-stored (refused why) n e = absurd (let z : ◌≡◌ {A = ℕ} 0 1 = cc in omega arith)
  rings-are-stored passes n e = refl

-- words that are no whole record hold no ring
whole-records : (s r points words : ℕ) → room_verdict s r points (directory_words (words / record_stride)) ≡ room_verdict s r points words
unfolding room_verdict directory_words record_stride
whole-records s r points words = ap (λ (short : Bool). cond (ltb points (point_words s r)) (refused PointsShort) (cond short (refused DirectoryShort) passes)) (by (dec_lt words (6 * r)))
  where
    by : Dec (words < 6 * r) → ltb (6 * (words / 6)) (6 * r) ≡ ltb words (6 * r)
    by (yes h) = lt-ltb (6 * (words / 6)) (6 * r) (omega arith) ∙ sym (lt-ltb words (6 * r) h)
    by (no h) = le-ltb (6 * (words / 6)) (6 * r) (omega arith) ∙ sym (le-ltb words (6 * r) (omega arith))

module _ {Word : Type 0} (words : List ℕ → ℕ → List Word) (records : List ℕ → Drawing → List ℕ) (d : Drawing) (links : List ℕ) (points : List Word) (directory : List ℕ) (answer : Result ℕ Refusal)
    (answers : answer ≡ packed (room_verdict d.segments d.rings (length points) (directory_words (length directory / record_stride))) d.rings) where
  abbrev verdict : Verdict
  verdict = room_verdict d.segments d.rings (length points) (length directory)

  abbrev stored-points : List Word
  stored-points = sets points 0 (walk_words (words links) links d.head d.head d.segments)

  abbrev stored-records : List ℕ
  stored-records = sets directory 0 (records links d)

  by-words : answer ≡ packed verdict d.rings
  by-words = answers ∙ ap (λ (v : Verdict). packed v d.rings) (whole-records d.segments d.rings (length points) (length directory))

  pub spared : (why : Refusal) → answer ≡ Err why → PackedAs words records d links points directory answer points directory
  spared why is = record {
    answers = by-words;
    points-are = refusal-spares points stored-points d.rings verdict why (sym by-words ∙ is);
    directory-is = refusal-spares directory stored-records d.rings verdict why (sym by-words ∙ is);
  }

  pub stored : (n : ℕ) → answer ≡ Ok n → PackedAs words records d links points directory answer stored-points stored-records
  stored n is = record {
    answers = by-words;
    points-are = rings-are-stored points stored-points d.rings verdict n (sym by-words ∙ is);
    directory-is = rings-are-stored directory stored-records d.rings verdict n (sym by-words ∙ is);
  }

-- a ring's points have words of 16 bits
module _ {d : Drawing} {dx : ℕ} {links points directory : List ℕ} {answer : Result ℕ Refusal} {points' directory' : List ℕ} where
  pub as-packed : PackedAs (walk.point_words dx) short_records d links points directory answer points' directory' → Packed d dx links points directory answer points' directory'
  as-packed k = record { answers = k.answers; points-are = k.points-are; directory-is = k.directory-is }

  pub of-packed : Packed d dx links points directory answer points' directory' → PackedAs (walk.point_words dx) short_records d links points directory answer points' directory'
  of-packed k = record { answers = k.answers; points-are = k.points-are; directory-is = k.directory-is }

-- records that were packed, to be spread out
module _ {d : Drawing} {dx : ℕ} {links points directory : List ℕ} {answer : Result ℕ Refusal} {points' short : List ℕ} (k : Packed d dx links points directory answer points' short) where
  pub spared-whole : (why : Refusal) → answer ≡ Err why → PackedWhole d dx links points directory answer points' short
  unfolding spread_out
  spared-whole why is = record { short = short; packed = k; spread = sym (ap (λ (a : Result ℕ Refusal). spread_out a points' short) is) }

  pub stored-whole : (n : ℕ) → answer ≡ Ok n → {directory' : List ℕ} → directory' ≡ written (spread_from points' short 0 n) short
      → PackedWhole d dx links points directory (Ok n) points' directory'
  unfolding spread_out
  stored-whole n is e = record { short = short; packed = subst (λ (a : Result ℕ Refusal). Packed d dx links points directory a points' short) is k; spread = e }

  -- there is room for whole records
  pub room-to-spread : (n : ℕ) → answer ≡ Ok n → directory_words n ≤ length short
  unfolding packed room_verdict pass_table
  room-to-spread n is =
      by (ltb (length points) (point_words d.segments d.rings)) (ltb (length directory) (directory_words d.rings)) refl refl (sym is ∙ k.answers) k.directory-is
    where
      by : (a b : Bool) → ltb (length points) (point_words d.segments d.rings) ≡ a → ltb (length directory) (directory_words d.rings) ≡ b
          → Ok n ≡ packed (cond a (refused PointsShort) (cond b (refused DirectoryShort) passes)) d.rings
          → short ≡ pass_table (cond a (refused PointsShort) (cond b (refused DirectoryShort) passes)) directory (sets directory 0 (walk_records links 0 0 d.head d.segments))
          → directory_words n ≤ length short
      by true b ea eb e f = absurd (let z : ◌≡◌ {A = ℕ} 0 1 = cc in omega arith)
      by false true ea eb e f = absurd (let z : ◌≡◌ {A = ℕ} 0 1 = cc in omega arith)
      by false false ea eb e f =
          let same : n ≡ d.rings = cc in
          rw same (omega (arith, ltb-false (length directory) (directory_words d.rings) eb, ap length f, length-sets directory 0 (walk_records links 0 0 d.head d.segments)))
