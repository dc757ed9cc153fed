-- Directories whose first records are those of an order of the rings: first point, count and number of each. Noting leaves the order by number, sorting by the
-- third words the order sorted so, and what stores third words alone the order that it found. Of such a directory the rings are those of the order, they are
-- there, and its numbers permute. Assumes nothing.
use mathlib.Core.Path.{◌≡◌, refl, sym, ◌∙◌, ap, ap₂, subst}
use mathlib.Core.List.{List, [], ◌∷◌, ◌++◌, map}
use Prim.Native.Nat.{ℕ, zero, suc, ◌+◌, ◌-◌, ◌*◌, ◌/◌, ◌%◌, ◌≤◌, ◌<◌}
use native.Mathlib.Omega.{arith}
use lib.ListN.{length, get_or, take, drop, length-append, length-drop, length-map, get_or-map}
use lib.Seq.{get_or-append-add, get_or-drop}
use Rattle.scope.specs.Stitching.{Line}
use Rattle.scope.specs.Pairs.{sum_from}
use Rattle.scope.specs.Band.{Numbered, numbered_from, sort_key, order_rings}
use Rattle.extents.specs.Points.{ring_in, RingThere}
use Rattle.extents.specs.Records.{record_first, record_count, record_class, record_number, record_ring, record_rings, RingsThere, Permutes, rank_of, Filed}
use Rattle.extents.specs.Extents.{extent_of}
use Rattle.extents.specs.declared.Ladder.{Ladder}
use Rattle.sorting.specs.Entries.{Entry, entries, entry_words, sorted_entries}
use Rattle.sorting.proofs.Words.{words-length, entries-of-words}
use Rattle.sorting.proofs.TwoPasses.{sort_by, sorted-map-by}
use Rattle.noting.specs.Noted.{start_of, counted_ring, Countable, Noted, Measurable, HighNoted}
use Rattle.noting.proofs.Walk.{end-within}
use Rattle.owners.specs.Owned.{Classed}
use Rattle.regions.specs.Regions.{counted_rings, sorted_first}
use Rattle.regions.proofs.Listing.{listed, listed-is, sum-by-places}
use Rattle.regions.proofs.Orders.{nobody, OrderOf, among-at, numbered-at, order-by-number, order-sorted}
use Rattle.regions.proofs.Entries.{Holds, words-hold, words-taken}

-- the first n records are by an order what they were by number; behind them nothing has changed
pub record Arranged (points start : List ℕ) (n : ℕ) (order : List Numbered) (directory : List ℕ) : Type 0 where
  pub order-of : OrderOf points start n order
  pub as_long : length directory ≡ length start
  pub records-there : 4 * n ≤ length start
  pub firsts : (r : ℕ) → r < n → record_first directory r ≡ start_of start (get_or order r nobody).number
  pub counts : (r : ℕ) → r < n → record_count directory r ≡ record_count start (get_or order r nobody).number
  pub numbers : (r : ℕ) → r < n → record_number directory r ≡ (get_or order r nobody).number
  pub rest-stays : (i : ℕ) → 4 * n ≤ i → get_or directory i 0 ≡ get_or start i 0

module _ (points directory : List ℕ) where
  rings-listed : (k n : ℕ) → record_rings points directory k n ≡ listed (record_ring points directory) k n
  unfolding record_rings listed
  rings-listed k zero = refl
  rings-listed k (suc n) = ap (λ (ls : List Line). record_ring points directory k ∷ ls) (rings-listed (suc k) n)

  rings-are : (n : ℕ) (rings : List Line) → length rings ≡ n → ((r : ℕ) → r < n → record_ring points directory r ≡ get_or rings r [])
      → record_rings points directory 0 n ≡ rings
  rings-are n rings long same = rings-listed 0 n ∙ listed-is (record_ring points directory) n rings [] long same

module _ (order : List Numbered) where
  pub rings-as-many : length (order_rings order) ≡ length order
  unfolding order_rings
  rings-as-many = length-map order (λ m. m.ring)

  pub ring-in-order : (r : ℕ) → get_or (order_rings order) r [] ≡ (get_or order r nobody).ring
  unfolding order_rings
  ring-in-order r = get_or-map (λ m. m.ring) order r nobody

module _ {points start : List ℕ} {n : ℕ} {order : List Numbered} {directory : List ℕ} (a : Arranged points start n order directory) where
  pub record-ring : (r : ℕ) → r < n → record_ring points directory r ≡ (get_or order r nobody).ring
  unfolding record_ring counted_ring
  record-ring r h = ap₂ (ring_in points) (a.firsts r h) (a.counts r h) ∙ sym (among-at points start n order a.order-of r h).ring-counted

  pub record-rings : record_rings points directory 0 n ≡ order_rings order
  record-rings =
      rings-are points directory n (order_rings order) (rings-as-many order ∙ a.order-of.as_many) (λ r h. record-ring r h ∙ sym (ring-in-order order r))

  pub rings-there : ((r : ℕ) → r < n → RingThere points (start_of start r) (record_count start r)) → RingsThere points directory n
  rings-there there = record {
    records-there = omega (arith, a.as_long, a.records-there);
    ring-there = λ r h. rw (a.firsts r h, a.counts r h) (there (get_or order r nobody).number (among-at points start n order a.order-of r h).number-within);
  }

  pub numbers-permute : Permutes (record_number directory) n
  unfolding Permutes
  numbers-permute w =
      ap (sum_from (λ k. w (record_number directory k)) 0) (sym a.order-of.as_many)
      ∙ sum-by-places (λ m. w m.number) (λ k. w (record_number directory k)) order nobody (λ r h. ap w (a.numbers r (omega (arith, a.order-of.as_many))))
      ∙ a.order-of.sums_kept w

-- noting leaves the order by number
module _ {points start directory : List ℕ} {n : ℕ} {note : Line → ℕ} (there : 4 * n ≤ length start) (noted : Noted points start directory n note) where
  pub noted-arranged : Arranged points start n (numbered_from 0 (counted_rings points start 0 n)) directory
  unfolding record_first record_count record_number
  noted-arranged = record {
    order-of = order-by-number points start n;
    as_long = noted.as_long;
    records-there = there;
    firsts = λ r h. noted.first-is r h ∙ ap (λ (m : Numbered). start_of start m.number) (sym (numbered-at points start n r h));
    counts = λ r h. noted.count-is r h ∙ ap (λ (m : Numbered). get_or start (4 * m.number + 1) 0) (sym (numbered-at points start n r h));
    numbers = λ r h. noted.number_is r h ∙ ap (λ (m : Numbered). m.number) (sym (numbered-at points start n r h));
    rest-stays = noted.rest-stays;
  }

  pub noted-notes : (r : ℕ) → r < n → record_class directory r ≡ note (get_or (numbered_from 0 (counted_rings points start 0 n)) r nobody).ring
  unfolding record_class
  noted-notes r h = noted.note-is r h ∙ ap (λ (m : Numbered). note m.ring) (sym (numbered-at points start n r h))

-- sorting by a key that the third words hold leaves the order sorted by it
module _ {points start : List ℕ} {n : ℕ} {order : List Numbered} {directory : List ℕ} (key : Numbered → ℕ)
    (a : Arranged points start n order directory) (keyed : (r : ℕ) → r < n → record_class directory r ≡ key (get_or order r nobody)) where
  many-sorted : length (sort_by key order) ≡ n
  many-sorted = (order-sorted points start key n order a.order-of).as_many

  -- an element as the words of its record
  entry_of : Numbered → Entry
  entry_of m = record { first = start_of start m.number; count = record_count start m.number; key = key m; number = m.number }

  order-held : (r : ℕ) → r < length (map entry_of order) → Holds directory r (get_or (map entry_of order) r (entry_of nobody))
  unfolding entry_of
  order-held r h =
      let within : r < n = subst (λ (k : ℕ). r < k) (length-map order entry_of ∙ a.order-of.as_many) h in
      rw (get_or-map entry_of order r nobody) (record {
        first_word = a.firsts r within;
        count_word = a.counts r within;
        class-word = keyed r within;
        number_word = a.numbers r within;
      })

  order-taken : take (4 * n) directory ≡ entry_words (map entry_of order)
  order-taken =
      let long : length (map entry_of order) ≡ n = length-map order entry_of ∙ a.order-of.as_many in
      ap (λ (k : ℕ). take (4 * k) directory) (sym long)
      ∙ words-taken (map entry_of order) (entry_of nobody) directory (omega (arith, a.as_long, a.records-there)) order-held

  order-words : entry_words (sorted_entries (entries (take (4 * n) directory))) ≡ entry_words (map entry_of (sort_by key order))
  unfolding entry_of
  order-words =
      ap (λ (ws : List ℕ). entry_words (sorted_entries (entries ws))) order-taken
      ∙ ap (λ (es : List Entry). entry_words (sorted_entries es)) (entries-of-words (map entry_of order))
      ∙ ap entry_words (sorted-map-by key entry_of (λ m. refl) order)

  sorted-words : List ℕ
  sorted-words = entry_words (map entry_of (sort_by key order)) ++ drop (4 * n) directory

  sorted-long : length (entry_words (map entry_of (sort_by key order))) ≡ 4 * n
  sorted-long = words-length (map entry_of (sort_by key order)) ∙ ap (λ (k : ℕ). 4 * k) (length-map (sort_by key order) entry_of ∙ many-sorted)

  sorted-held : (r : ℕ) → r < n → Holds sorted-words r (entry_of (get_or (sort_by key order) r nobody))
  unfolding sorted-words
  sorted-held r h =
      rw (get_or-map entry_of (sort_by key order) r nobody) at
      (words-hold (map entry_of (sort_by key order)) (entry_of nobody) (drop (4 * n) directory) r (subst (λ (k : ℕ). r < k) (sym (length-map (sort_by key order) entry_of ∙ many-sorted)) h))

  words-arranged : Arranged points start n (sort_by key order) sorted-words
  unfolding sorted-words entry_of
  words-arranged = record {
    order-of = order-sorted points start key n order a.order-of;
    as_long = length-append (entry_words (map entry_of (sort_by key order))) (drop (4 * n) directory)
        ∙ omega (arith, sorted-long, length-drop (4 * n) directory, a.as_long, a.records-there);
    records-there = a.records-there;
    firsts = λ r h. (sorted-held r h).first_word;
    counts = λ r h. (sorted-held r h).count_word;
    numbers = λ r h. (sorted-held r h).number_word;
    rest-stays = λ i h. past i h;
  }
    where
      past : (i : ℕ) → 4 * n ≤ i → get_or (entry_words (map entry_of (sort_by key order)) ++ drop (4 * n) directory) i 0 ≡ get_or start i 0
      past i h =
          let at : i ≡ length (entry_words (map entry_of (sort_by key order))) + (i - 4 * n) = omega (arith, sorted-long) in
          ap (λ (k : ℕ). get_or (entry_words (map entry_of (sort_by key order)) ++ drop (4 * n) directory) k 0) at
          ∙ get_or-append-add (entry_words (map entry_of (sort_by key order))) (drop (4 * n) directory) (i - 4 * n) 0
          ∙ get_or-drop (4 * n) directory (i - 4 * n) 0
          ∙ ap (λ (k : ℕ). get_or directory k 0) (omega arith)
          ∙ a.rest-stays i h

  pub sorted-arranged : Arranged points start n (sort_by key order) (sorted_first directory n)
  unfolding sorted-words sorted_first
  sorted-arranged = rw order-words words-arranged

-- two directories that differ in the third words of the first n records alone
pub record ThirdsAlone (directory directory' : List ℕ) (n : ℕ) : Type 0 where
  pub as_long : length directory' ≡ length directory
  pub rest-stays : (i : ℕ) → (i % 4 ≡ 2 → 4 * n ≤ i) → get_or directory' i 0 ≡ get_or directory i 0

module _ {points directory directory' : List ℕ} {n : ℕ} where
  -- the high parts of keys, and the classes
  pub high-alone : HighNoted points directory directory' n → ThirdsAlone directory directory' n
  high-alone h = record { as_long = h.as_long; rest-stays = h.rest-stays }

  pub classed-alone : Classed points directory directory' n → ThirdsAlone directory directory' n
  classed-alone c = record { as_long = c.as_long; rest-stays = c.rest-stays }

-- rings and numbers stay, and so does the order
module _ {directory directory' : List ℕ} {n : ℕ} (alone : ThirdsAlone directory directory' n) where
  first-stays : (r : ℕ) → record_first directory' r ≡ record_first directory r
  unfolding record_first
  first-stays r = alone.rest-stays (4 * r) (λ e. absurd (omega arith))

  count-stays : (r : ℕ) → record_count directory' r ≡ record_count directory r
  unfolding record_count
  count-stays r = alone.rest-stays (4 * r + 1) (λ e. absurd (omega arith))

  number-stays : (r : ℕ) → record_number directory' r ≡ record_number directory r
  unfolding record_number
  number-stays r = alone.rest-stays (4 * r + 3) (λ e. absurd (omega arith))

  ring-stays : (points : List ℕ) (r : ℕ) → record_ring points directory' r ≡ record_ring points directory r
  unfolding record_ring
  ring-stays points r = ap₂ (ring_in points) (first-stays r) (count-stays r)

  pub still-arranged : {points start : List ℕ} {order : List Numbered} → Arranged points start n order directory → Arranged points start n order directory'
  still-arranged a = record {
    order-of = a.order-of;
    as_long = alone.as_long ∙ a.as_long;
    records-there = a.records-there;
    firsts = λ r h. first-stays r ∙ a.firsts r h;
    counts = λ r h. count-stays r ∙ a.counts r h;
    numbers = λ r h. number-stays r ∙ a.numbers r h;
    rest-stays = λ i h. alone.rest-stays i (λ e. h) ∙ a.rest-stays i h;
  }

  pub still-filed : {points table : List ℕ} {rings chunks : Ladder} → Filed points directory table n rings chunks → Filed points directory' table n rings chunks
  still-filed {points} {table} f = record {
    rings-there = record {
      records-there = omega (arith, alone.as_long, f.rings-there.records-there);
      ring-there = λ r h. rw (first-stays r, count-stays r) (f.rings-there.ring-there r h);
    };
    ranks-there = f.ranks-there;
    ranks-permute = f.ranks-permute;
    rings-counted = f.rings-counted;
    rings-raised = f.rings-raised;
    extents-filed = λ i h. f.extents-filed i h ∙ ap extent_of (sym (ring-stays points (rank_of table n i)));
    points-chunked = f.points-chunked;
  }

-- rings in any order can be measured again, and then the third words hold the high parts of their keys
module _ {points start : List ℕ} {n : ℕ} {order : List Numbered} {directory : List ℕ} (a : Arranged points start n order directory) where
  pub arranged-measurable : Countable points start n → Measurable points directory n
  arranged-measurable c = record {
    records-there = omega (arith, a.as_long, a.records-there);
    few = c.few;
    counts-within = λ r h. rw (a.counts r h) (c.counts-within (get_or order r nobody).number (within r h));
    points-there = λ r h. omega (arith, ends r h, c.points-there);
    coordinates-within = λ r h i l. c.coordinates-within i (omega (arith, ends r h));
  }
    where
      within : (r : ℕ) → r < n → (get_or order r nobody).number < n
      within r h = (among-at points start n order a.order-of r h).number-within

      ends : (r : ℕ) → r < n → record_first directory r + record_count directory r ≤ start_of start n
      ends r h = rw (a.firsts r h, a.counts r h) (end-within start (get_or order r nobody).number n (within r h))

  pub high-notes : {directory' : List ℕ} → HighNoted points directory directory' n
      → (r : ℕ) → r < n → record_class directory' r ≡ sort_key (get_or order r nobody).ring / 4294967296
  unfolding record_class
  high-notes h₁ r h = h₁.high_is r h ∙ ap (λ (ring : Line). sort_key ring / 4294967296) (record-ring a r h)
