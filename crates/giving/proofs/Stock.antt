-- The stock of links: the free ones are chained from the spare link on, no link is free that is in use, and links from the next number on are neither. A link that
-- is taken was not in use, and what is left is a stock again; so is the stock with a line's links in front. Assumes nothing.
use mathlib.Core.Path.{◌≡◌, refl, sym, ◌∙◌, ap, subst}
use mathlib.Core.Bool.{Bool, cond}
use mathlib.Core.List.{List, [], ◌∷◌, ◌++◌}
use Prim.Native.Nat.{ℕ, max, ◌+◌, ◌-◌, ◌%◌, ◌^◌, ◌≤◌, ◌<◌}
use native.Mathlib.Nat.{mod-eq_of_lt}
use native.Mathlib.Decide.{ℕ_discrete, dec_lt}
use native.Mathlib.Omega.{arith}
use lib.Dec.{eqb}
use lib.ListN.{length, length-append}
use borrow.Author.Tests.{lt-ltb, le-ltb, eq-eqb, ne_eqb}
use Rattle.scope.specs.Cells.{when}
use Rattle.machine.specs.Machine.{word_of, link_next}
use Rattle.machine.proofs.Chains.{Linked, uses, uses-cons, uses-append, uses-last, linked-but-last}
use Rattle.machine.proofs.Held.{Still}
use Rattle.giving.specs.declared.Play.{Play}
use Rattle.giving.specs.Giving.{link_taken, stock_after}

-- links chained from link k on by what each holds; the last may hold anything
abbrev pub FreeFrom : (ℕ → ℕ) → ℕ → List ℕ → Type 0
FreeFrom next k [] = Unit {0}
FreeFrom next k (x ∷ l) = (x ≡ k) × FreeFrom next (next x) l

free-still : (next next' : ℕ → ℕ) (k : ℕ) (l : List ℕ) → FreeFrom next k l → ((x : ℕ) → 1 ≤ uses x l → next' x ≡ next x) → FreeFrom next' k l
free-still next next' k [] h same = tt
free-still next next' k (x ∷ l) h same = (
  h.0,
  rw (same x (omega (arith, uses-cons x x l, ap (when 1) (eq-eqb x x refl))))
      (free-still next next' (next x) l h.1 (λ y used. same y (omega (arith, uses-cons y x l)))),
)

-- the free links behind a chain that leads to them
free-join : (next : ℕ → ℕ) (a : ℕ) (l : List ℕ) (z b : ℕ) (m : List ℕ) → Linked next a l z → next z ≡ b → FreeFrom next b m → FreeFrom next a (l ++ m)
free-join next a [] z b m h e k = absurd h
free-join next a (x ∷ []) z b m h e k = (h.0, subst (λ (n : ℕ). FreeFrom next n m) (sym (ap next h.1 ∙ e)) k)
free-join next a (x ∷ y ∷ l) z b m h e k = (h.0, free-join next (next x) (y ∷ l) z b m h.1 e k)

-- of links below room, in_use says how often each is in use
pub record Stock (room : ℕ) (in_use : ℕ → ℕ) (links : List ℕ) (spare fresh held : ℕ) : Type 0 where
  pub free : List ℕ
  pub linked : FreeFrom (link_next links) spare free
  pub once : (k : ℕ) → in_use k + uses k free ≤ 1
  pub unused : (k : ℕ) → fresh ≤ k → in_use k + uses k free ≡ 0
  pub fresh-is : fresh ≡ held + length free
  pub fits : fresh ≤ room

-- the same stock in another link table that has the links that were ever used, and room for as many
pub stock-kept : {room : ℕ} {in_use : ℕ → ℕ} {links : List ℕ} {spare fresh held : ℕ} → Stock room in_use links spare fresh held → (room' : ℕ) (links' : List ℕ)
    → fresh ≤ room' → ((k : ℕ) → k < fresh → link_next links' k ≡ link_next links k) → Stock room' in_use links' spare fresh held
stock-kept {room} {in_use} {links} {spare} {fresh} {held} s room' links' wide still = record {
  free = s.free;
  linked = free-still (link_next links) (link_next links') spare s.free s.linked (λ x used. still x (below x used (dec_lt x fresh)));
  once = s.once;
  unused = s.unused;
  fresh-is = s.fresh-is;
  fits = wide;
}
  where
    below : (x : ℕ) → 1 ≤ uses x s.free → Dec (x < fresh) → x < fresh
    below x used (yes q) = q
    below x used (no q) = absurd (omega (arith, s.unused x (omega arith)))

-- ---- a link is taken

pub record Taken (p : Play) (room : ℕ) (in_use : ℕ → ℕ) (links : List ℕ) : Type 0 where
  pub no-use : in_use (link_taken p) ≡ 0
  pub inside : link_taken p < room
  pub rest : List ℕ
  pub rest-linked : FreeFrom (link_next links) (stock_after links p).spare rest
  pub rest-once : (x : ℕ) → in_use x + when 1 (eqb x (link_taken p)) + uses x rest ≤ 1
  pub rest-unused : (x : ℕ) → (stock_after links p).fresh ≤ x → in_use x + when 1 (eqb x (link_taken p)) + uses x rest ≡ 0
  pub held_after : (stock_after links p).held ≡ p.held + 1
  pub fresh-after : (stock_after links p).fresh ≡ p.held + 1 + length rest
  pub fits : (stock_after links p).fresh ≤ room

module _ (p : Play) (links : List ℕ) where
  -- where some are free, the spare one
  module _ (some : p.held < p.fresh) where
    taken-spare : link_taken p ≡ p.spare
    unfolding link_taken
    taken-spare = ap (λ (b : Bool). cond b p.spare p.fresh) (lt-ltb p.held p.fresh some)

    spare-next : (stock_after links p).spare ≡ link_next links p.spare
    unfolding stock_after
    spare-next = ap (λ (b : Bool). cond b (link_next links p.spare) p.spare) (lt-ltb p.held p.fresh some)

    fresh-stays : (stock_after links p).fresh ≡ p.fresh
    unfolding stock_after
    fresh-stays = ap (λ (b : Bool). cond b p.fresh (word_of (p.fresh + 1))) (lt-ltb p.held p.fresh some)

  -- and the next number where none is
  module _ (none : p.fresh ≤ p.held) (small : p.fresh + 1 < 2 ^ 32) where
    taken-fresh : link_taken p ≡ p.fresh
    unfolding link_taken
    taken-fresh = ap (λ (b : Bool). cond b p.spare p.fresh) (le-ltb p.held p.fresh none)

    fresh-more : (stock_after links p).fresh ≡ p.fresh + 1
    unfolding stock_after word_of
    fresh-more = ap (λ (b : Bool). cond b p.fresh ((p.fresh + 1) % 2 ^ 32)) (le-ltb p.held p.fresh none) ∙ mod-eq_of_lt small

  pub held_more : p.held + 1 < 2 ^ 32 → (stock_after links p).held ≡ p.held + 1
  unfolding stock_after word_of
  held_more small = mod-eq_of_lt small

-- so the links that were ever used are as many as were ever held at once
pub fresh-follows : (p : Play) (links : List ℕ) → p.held ≤ p.fresh → p.held + 1 < 2 ^ 32 → (stock_after links p).fresh ≡ max p.fresh (p.held + 1)
fresh-follows p links within small = by (dec_lt p.held p.fresh)
  where
    by : Dec (p.held < p.fresh) → (stock_after links p).fresh ≡ max p.fresh (p.held + 1)
    by (yes some) = omega (arith, fresh-stays p links some)
    by (no none) = omega (arith, fresh-more p links (omega arith) (omega arith))

-- the free links as they are, one after the other
taken-by : (p : Play) (room : ℕ) (in_use : ℕ → ℕ) (links : List ℕ) → room < 2 ^ 32 → p.held < room → (free : List ℕ) → FreeFrom (link_next links) p.spare free
    → ((k : ℕ) → in_use k + uses k free ≤ 1) → ((k : ℕ) → p.fresh ≤ k → in_use k + uses k free ≡ 0) → p.fresh ≡ p.held + length free → p.fresh ≤ room → Taken p room in_use links
taken-by p room in_use links small more [] linked once unused fresh-is fits = record {
  no-use = ap in_use taken ∙ omega (arith, unused p.fresh (omega arith));
  inside = omega (arith, taken);
  rest = [];
  rest-linked = tt;
  rest-once = λ x. by x (ℕ_discrete x (link_taken p));
  rest-unused = λ x out. omega (arith, unused x (omega (arith, next)), ap (when 1) (ne_eqb x (link_taken p) (λ e. omega (arith, next, taken))));
  held_after = held_more p links (omega arith);
  fresh-after = omega (arith, next);
  fits = omega (arith, next);
}
  where
    taken : link_taken p ≡ p.fresh
    taken = taken-fresh p links (omega arith) (omega arith)

    next : (stock_after links p).fresh ≡ p.fresh + 1
    next = fresh-more p links (omega arith) (omega arith)

    by : (x : ℕ) → Dec (x ≡ link_taken p) → in_use x + when 1 (eqb x (link_taken p)) + uses x [] ≤ 1
    by x (yes e) = omega (arith, unused x (omega (arith, taken)), ap (when 1) (eq-eqb x (link_taken p) e))
    by x (no ne) = omega (arith, once x, ap (when 1) (ne_eqb x (link_taken p) ne))
taken-by p room in_use links small more (y ∷ rest) linked once unused fresh-is fits = record {
  no-use = ap in_use (sym is_y) ∙ omega (arith, once y, uses-cons y y rest, ap (when 1) (eq-eqb y y refl));
  inside = below (dec_lt y p.fresh);
  rest = rest;
  rest-linked = subst (λ (n : ℕ). FreeFrom (link_next links) n rest) (ap (link_next links) linked.0 ∙ sym (spare-next p links some)) linked.1;
  rest-once = λ x. omega (arith, once x, counted x);
  rest-unused = λ x out. omega (arith, unused x (omega (arith, stays)), counted x);
  held_after = held_more p links (omega arith);
  fresh-after = omega (arith, stays);
  fits = omega (arith, stays);
}
  where
    some : p.held < p.fresh
    some = omega arith

    is_y : y ≡ link_taken p
    is_y = linked.0 ∙ sym (taken-spare p links some)

    stays : (stock_after links p).fresh ≡ p.fresh
    stays = fresh-stays p links some

    counted : (x : ℕ) → uses x (y ∷ rest) ≡ when 1 (eqb x (link_taken p)) + uses x rest
    counted x = uses-cons x y rest ∙ ap (λ (n : ℕ). when 1 (eqb x n) + uses x rest) is_y

    self : 1 ≤ uses y (y ∷ rest)
    self = omega (arith, uses-cons y y rest, ap (when 1) (eq-eqb y y refl))

    below : Dec (y < p.fresh) → link_taken p < room
    below (yes q) = omega (arith, is_y)
    below (no q) = absurd (omega (arith, unused y (omega arith), self))

-- so a link may be taken, as long as there is room for one more
pub taken : (p : Play) (room : ℕ) (in_use : ℕ → ℕ) (links : List ℕ) → room < 2 ^ 32 → p.held < room → Stock room in_use links p.spare p.fresh p.held → Taken p room in_use links
taken p room in_use links small more s = taken-by p room in_use links small more s.free s.linked s.once s.unused s.fresh-is s.fits

-- and what is left is a stock, where of the links not in use that one alone has changed
pub restocked : (p : Play) (room : ℕ) (in_use : ℕ → ℕ) (links : List ℕ) → Taken p room in_use links → (in_use' : ℕ → ℕ) (links' : List ℕ)
    → ((x : ℕ) → in_use' x ≡ in_use x + when 1 (eqb x (link_taken p))) → ((x : ℕ) → (x ≡ link_taken p → ⊥) → in_use x ≡ 0 → Still links links' x)
    → Stock room in_use' links' (stock_after links p).spare (stock_after links p).fresh (stock_after links p).held
restocked p room in_use links t in_use' links' grown still = record {
  free = t.rest;
  linked =
      free-still (link_next links) (link_next links') (stock_after links p).spare t.rest t.rest-linked
      (λ x used. (still x (λ e. omega (arith, t.rest-once x, ap (when 1) (eq-eqb x (link_taken p) e))) (omega (arith, t.rest-once x))).next);
  once = λ x. omega (arith, t.rest-once x, grown x);
  unused = λ x out. omega (arith, t.rest-unused x out, grown x);
  fresh-is = omega (arith, t.fresh-after, t.held_after);
  fits = t.fits;
}

-- ---- a line's links are given back
pub given_back : {room : ℕ} {in_use : ℕ → ℕ} {links : List ℕ} {spare fresh held : ℕ} → Stock room in_use links spare fresh held
    → (in_use' : ℕ → ℕ) (links' : List ℕ) (first : ℕ) (chain : List ℕ) (last : ℕ) → Linked (link_next links) first chain last → length chain ≤ held
    → ((k : ℕ) → in_use' k + uses k chain ≡ in_use k) → ((k : ℕ) → (k ≡ last → ⊥) → link_next links' k ≡ link_next links k) → link_next links' last ≡ spare
    → Stock room in_use' links' first fresh (held - length chain)
given_back {room} {in_use} {links} {spare} {fresh} {held} s in_use' links' first chain last linked enough fewer still told = record {
  free = chain ++ s.free;
  linked =
      free-join (link_next links') first chain last spare s.free
      (linked-but-last (link_next links) (link_next links') first chain last linked (omega (arith, s.once last, fewer last)) (λ x ne used. still x ne))
      told
      (free-still (link_next links) (link_next links') spare s.free s.linked (λ x used. still x (apart x used)));
  once = λ k. omega (arith, s.once k, fewer k, uses-append k chain s.free);
  unused = λ k out. omega (arith, s.unused k out, fewer k, uses-append k chain s.free);
  fresh-is = omega (arith, s.fresh-is, length-append chain s.free);
  fits = s.fits;
}
  where
    apart : (x : ℕ) → 1 ≤ uses x s.free → x ≡ last → ⊥
    apart x used e = omega (arith, s.once x, fewer x, uses-last (link_next links) first chain last linked, ap (λ (n : ℕ). uses n chain) e)
