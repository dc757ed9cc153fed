-- The walk along the links. The loop's invariant has two parts, of the points and of the records: storing what the links not yet walked give leaves what
-- storing the whole walk leaves, and a turn stores what one link gives. The part of the points is for any words of a link, two each. Assumes nothing.
use mathlib.Core.Path.{◌≡◌, refl, sym, ap, ◌∙◌}
use mathlib.Core.List.{List, ◌++◌}
use Prim.Native.Nat.{ℕ, suc, ◌+◌, ◌-◌, ◌*◌, ◌≤◌, ◌<◌}
use native.Mathlib.Numerals.{add-one}
use native.Mathlib.Omega.{arith}
use lib.IntN.{ℤ, pos, ◌+ℤ◌}
use lib.ListN.{length}
use lib.Seq.{sets}
use borrow.Author.Tests.{lt-ltb, le-ltb}
use Rattle.machine.specs.Machine.{mark, link_next}
use Rattle.machine.specs.Walk.{walk_words, link_twist, walk_by, record_words, walk_records}
use Rattle.machine.proofs.Walking.{by-no-area}
use Rattle.packing.proofs.Laws.{stores-follow}

-- ---- a run of stores, part of which is made

module _ {Word : Type 0} where
  -- storing the rest from word at on leaves what storing the whole from word 0 on in the table at the start leaves
  pub record Stored (start whole : List Word) (at : ℕ) (table rest : List Word) : Type 0 where
    pub leaves : sets start 0 whole ≡ sets table at rest

  stored_next : {start whole : List Word} {at : ℕ} {table rest : List Word} → Stored start whole at table rest →
      (words after : List Word) (table' : List Word) (size : ℕ) → length words ≡ size → rest ≡ words ++ after → table' ≡ sets table at words →
      Stored start whole (at + size) table' after
  stored_next {start} {whole} {at} {table} s words after table' size n e f =
      record { leaves = s.leaves ∙ ap (sets table at) e ∙ stores-follow table at words after ∙ rw (f, n) }

-- ---- the points

-- words gives the words of a link's point
module _ {Word : Type 0} (words : ℕ → List Word) (links : List ℕ) where
  module _ (first k : ℕ) where
    points-along : {left : ℕ} (rest : ℕ) → left ≡ suc rest → link_next links k < mark →
        walk_words words links first k left ≡ words k ++ walk_words words links first (link_next links k) rest
    unfolding walk_words
    points-along rest more h = rw (more, lt-ltb _ _ h)

    points-around : {left : ℕ} (rest : ℕ) → left ≡ suc rest → mark ≤ link_next links k →
        walk_words words links first k left ≡ words k ++ (words first ++ walk_words words links (link_next links k - mark) (link_next links k - mark) rest)
    unfolding walk_words
    points-around rest more h = rw (more, le-ltb _ _ h)

  -- the ring began at link first; left links are to be walked, from link k on, and their points go to word at and on
  pub record PointsLeft (start : List Word) (head count : ℕ) (points : List Word) (first k at left : ℕ) : Type 0 where
    pub room : at + 4 * left ≤ 4 * count
    pub so_far : Stored start (walk_words words links head head count) at points (walk_words words links first k left)

  pub points-begin : (start : List Word) (head count : ℕ) → PointsLeft start head count start head head 0 count
  points-begin start head count = record { room = omega arith; so_far = record { leaves = refl } }

module _ {Word : Type 0} {words : ℕ → List Word} {links : List ℕ} {start : List Word} {head count : ℕ} {points : List Word} {first k at left : ℕ}
    (s : PointsLeft words links start head count points first k at left) where
  pub points-end : left ≤ 0 → points ≡ sets start 0 (walk_words words links head head count)
  unfolding walk_words
  points-end h = let none : left ≡ 0 = omega arith in sym (rw none at s.so_far.leaves)

  module _ (two : (k : ℕ) → length (words k) ≡ 2) where
    -- a link that is not the last of its ring
    pub points-next : {points' : List Word} {next : ℕ} (rest : ℕ) → left ≡ suc rest → points' ≡ sets points at (words k) → next ≡ link_next links k → next < mark →
        PointsLeft words links start head count points' first next (at + 2) rest
    points-next {points'} {next} rest more e f h =
        record {
          room = omega arith;
          so_far = rw f (stored_next s.so_far (words k) _ points' 2 (two k) (points-along words links first k rest more (rw f at h)) e);
        }

    -- the last link of its ring
    pub points-closed : {points' points'' : List Word} {next : ℕ} (rest : ℕ) → left ≡ suc rest → points' ≡ sets points at (words k) → next ≡ link_next links k → mark ≤ next →
        points'' ≡ sets points' (at + 2) (words first) →
        PointsLeft words links start head count points'' (next - mark) (next - mark) (at + 4) rest
    points-closed {points'} {points''} {next} rest more e f h g =
        let last = stored_next s.so_far (words k) _ points' 2 (two k) (points-around words links first k rest more (rw f at h)) e in
        let both : at + 4 ≡ at + 2 + 2 = omega arith in
        record { room = omega arith; so_far = rw (both, f) (stored_next last (words first) _ points'' 2 (two first) refl g) }

-- ---- the directory

-- words gives a record, of as many words as each says
module _ (words : ℕ → ℕ → ℤ → List ℕ) (each : ℕ) (dx : ℕ) (links : List ℕ) where
  module _ (h first size : ℕ) (a : ℤ) (k : ℕ) where
    records-along : {left : ℕ} (rest : ℕ) → left ≡ suc rest → link_next links k < mark →
        walk_by words dx links h first size a k left ≡ walk_by words dx links h first (suc size) (a +ℤ link_twist dx links k (link_next links k)) (link_next links k) rest
    unfolding walk_by
    records-along rest more low = rw (more, lt-ltb _ _ low)

    records-around : {left : ℕ} (rest : ℕ) → left ≡ suc rest → mark ≤ link_next links k →
        walk_by words dx links h first size a k left
        ≡ words first (size + 2) (a +ℤ link_twist dx links k h) ++ walk_by words dx links (link_next links k - mark) (first + size + 2) 0 (pos 0) (link_next links k - mark) rest
    unfolding walk_by
    records-around rest more high = rw (more, le-ltb _ _ high)

  -- the ring began at link h, its first point has number first, and it has had size links and the area a; left links are to be walked, from link k on, and
  -- their records go to word at and on
  pub record RecordsLeft (start : List ℕ) (head count : ℕ) (directory : List ℕ) (h first size : ℕ) (a : ℤ) (k at left : ℕ) : Type 0 where
    pub room : at + 6 * left ≤ 6 * count
    pub few : first + size + 2 * left ≤ 2 * count
    pub so_far : Stored start (walk_by words dx links head 0 0 (pos 0) head count) at directory (walk_by words dx links h first size a k left)

  pub records-begin : (start : List ℕ) (head count : ℕ) → RecordsLeft start head count start head 0 0 (pos 0) head 0 count
  records-begin start head count = record { room = omega arith; few = omega arith; so_far = record { leaves = refl } }

module _ {words : ℕ → ℕ → ℤ → List ℕ} {each : ℕ} {dx : ℕ} {links start : List ℕ} {head count : ℕ} {directory : List ℕ} {h first size : ℕ} {a : ℤ} {k at left : ℕ}
    (s : RecordsLeft words each dx links start head count directory h first size a k at left) where
  pub records-end : left ≤ 0 → directory ≡ sets start 0 (walk_by words dx links head 0 0 (pos 0) head count)
  unfolding walk_by
  records-end done = let none : left ≡ 0 = omega arith in sym (rw none at s.so_far.leaves)

  -- a link that is not the last of its ring
  pub records-next : {next : ℕ} (rest : ℕ) → left ≡ suc rest → next ≡ link_next links k → next < mark →
      RecordsLeft words each dx links start head count directory h first (size + 1) (a +ℤ link_twist dx links k next) next at rest
  records-next {next} rest more f low =
      record {
        room = omega arith;
        few = omega arith;
        so_far = record { leaves = s.so_far.leaves ∙ rw (records-along words each dx links h first size a k rest more (rw f at low), f, add-one) };
      }

  -- the last link of its ring
  pub records-closed : {directory' : List ℕ} {next : ℕ} (rest : ℕ) → each ≤ 6 → ((f count : ℕ) (z : ℤ) → length (words f count z) ≡ each) → left ≡ suc rest → next ≡ link_next links k → mark ≤ next →
      directory' ≡ sets directory at (words first (size + 2) (a +ℤ link_twist dx links k h)) →
      RecordsLeft words each dx links start head count directory' (next - mark) (first + (size + 2)) 0 (pos 0) (next - mark) (at + each) rest
  records-closed {directory'} {next} rest most has more f high g =
      let sum : first + (size + 2) ≡ first + size + 2 = omega arith in
      let w = words first (size + 2) (a +ℤ link_twist dx links k h) in
      record {
        room = omega arith;
        few = omega arith;
        so_far = rw (f, sum) (stored_next s.so_far w _ directory' each (has first (size + 2) (a +ℤ link_twist dx links k h)) (records-around words each dx links h first size a k rest more (rw f at high)) g);
      }

-- records without areas
abbrev pub short_words : ℕ → ℕ → ℤ → List ℕ
short_words first count a = record_words first count

pub short-end : (links start : List ℕ) {directory : List ℕ} (head count : ℕ) → directory ≡ sets start 0 (walk_by short_words 0 links head 0 0 (pos 0) head count) → directory ≡ sets start 0 (walk_records links 0 0 head count)
unfolding walk_records
short-end links start head count e = e ∙ ap (sets start 0) (by-no-area record_words links 0 0 head 0 0 0 (pos 0) (pos 0) head count)
