-- The text of a checked set has each ring once: behind its opening it is brackets, commas and texts of rings, and a closing brace, and among these rings each
-- polygon stands once, each hole that is not dropped once, and nothing else. The pieces are made as document 01 makes the text, and what they spell and which
-- rings they have is read off them. Other crates cite `each-ring-once`. Assumes nothing.
use mathlib.Core.Path.{◌≡◌, refl, sym, ◌∙◌, ap}
use mathlib.Core.Bool.{false}
use mathlib.Core.List.{List, [], ◌∷◌, ◌++◌, map, flat_map, append_assoc, append-nil}
use Prim.Native.Nat.{ℕ, ◌≤◌}
use Rattle.scope.specs.Limits.{no_owner}
use Rattle.scope.specs.GeoJson.{written_at, ring_set_refused, joined, bracketed, ring_text, polygon_numbers, hole_numbers, polygon_text, opening, geo_json_text}
use Rattle.readable.proofs.Text.{text_rings, Told, told}

-- a square bracket, a comma, or a ring by its record number
pub data Piece : Type 0 where
  bracket end_bracket comma : Piece
  ring : ℕ → Piece

unfoldable pub piece_text : List ℕ → List ℕ → Piece → List ℕ
piece_text ps directory bracket = 91 ∷ []
piece_text ps directory end_bracket = 93 ∷ []
piece_text ps directory comma = 44 ∷ []
piece_text ps directory (ring k) = ring_text (written_at ps directory k)

-- what pieces spell, one after the other
unfoldable pub spelled : List ℕ → List ℕ → List Piece → List ℕ
spelled ps directory pieces = flat_map (piece_text ps directory) pieces

unfoldable pub rings_of : Piece → List ℕ
rings_of bracket = []
rings_of end_bracket = []
rings_of comma = []
rings_of (ring k) = k ∷ []

-- the rings among pieces, in order
unfoldable pub rings_among : List Piece → List ℕ
rings_among pieces = flat_map rings_of pieces

-- the text of a set by its pieces, and how often each ring stands among them
pub record EachRingOnce (ps directory : List ℕ) (rings : ℕ) : Type 0 where
  pub pieces : List Piece
  pub text-is : geo_json_text ps directory rings ≡ opening ++ (spelled ps directory pieces ++ (125 ∷ []))
  pub rings-are : rings_among pieces ≡ text_rings directory rings
  pub text-has : Told directory rings

-- ---- lists of parts

module _ {X Y : Type 0} (f : X → List Y) where
  flat_append : (xs ys : List X) → flat_map f (xs ++ ys) ≡ flat_map f xs ++ flat_map f ys
  unfolding flat_map
  flat_append [] ys = refl
  flat_append (x ∷ xs) ys = rw (flat_append xs ys, append_assoc)

pub map-map : {X Y Z : Type 0} (h : Y → Z) (f : X → Y) (g : X → Z) → ((x : X) → h (f x) ≡ g x) → (xs : List X) → map h (map f xs) ≡ map g xs
map-map h f g same [] = refl
map-map h f g same (x ∷ xs) = rw (same x, map-map h f g same xs)

flat-map : {X Y Z : Type 0} (h : Y → List Z) (f : X → Y) (g : X → List Z) → ((x : X) → h (f x) ≡ g x) → (xs : List X) → flat_map h (map f xs) ≡ flat_map g xs
unfolding flat_map
flat-map h f g same [] = refl
flat-map h f g same (x ∷ xs) = rw (same x, flat-map h f g same xs)

-- ---- pieces as document 01 makes the text

-- with commas between, and in brackets
unfoldable commas : List (List Piece) → List Piece
commas [] = []
commas (t ∷ []) = t
commas (t ∷ u ∷ ts) = t ++ (comma ∷ commas (u ∷ ts))

unfoldable in_brackets : List Piece → List Piece
in_brackets t = bracket ∷ t ++ (end_bracket ∷ [])

module _ (ps directory : List ℕ) where
  spelled-commas : (ts : List (List Piece)) → spelled ps directory (commas ts) ≡ joined (map (spelled ps directory) ts)
  unfolding commas joined spelled flat_map piece_text
  spelled-commas [] = refl
  spelled-commas (t ∷ []) = refl
  spelled-commas (t ∷ u ∷ ts) =
      flat_append (piece_text ps directory) t (comma ∷ commas (u ∷ ts)) ∙ ap (λ (s : List ℕ). flat_map (piece_text ps directory) t ++ (44 ∷ s)) (spelled-commas (u ∷ ts))

  spelled-brackets : (t : List Piece) → spelled ps directory (in_brackets t) ≡ bracketed (spelled ps directory t)
  unfolding in_brackets bracketed spelled flat_map piece_text
  spelled-brackets t = ap (λ (s : List ℕ). 91 ∷ s) (flat_append (piece_text ps directory) t (end_bracket ∷ []))

rings-commas : (ts : List (List Piece)) → rings_among (commas ts) ≡ flat_map rings_among ts
unfolding commas rings_among flat_map rings_of
rings-commas [] = refl
rings-commas (t ∷ []) = sym (append-nil (flat_map rings_of t))
rings-commas (t ∷ u ∷ ts) = flat_append rings_of t (comma ∷ commas (u ∷ ts)) ∙ ap (λ (s : List ℕ). flat_map rings_of t ++ s) (rings-commas (u ∷ ts))

rings-brackets : (t : List Piece) → rings_among (in_brackets t) ≡ rings_among t
unfolding in_brackets rings_among flat_map rings_of
rings-brackets t = flat_append rings_of t (end_bracket ∷ []) ∙ append-nil (flat_map rings_of t)

rings-alone : (ks : List ℕ) → flat_map rings_among (map (λ r. ring r ∷ []) ks) ≡ ks
unfolding flat_map rings_among rings_of
rings-alone [] = refl
rings-alone (k ∷ ks) = ap (λ (s : List ℕ). k ∷ s) (rings-alone ks)

module _ (directory : List ℕ) (rings : ℕ) where
  -- a polygon, followed by its holes
  unfoldable polygon_pieces : ℕ → List Piece
  polygon_pieces k = in_brackets (commas (map (λ r. ring r ∷ []) (k ∷ hole_numbers directory rings k)))

  unfoldable text_pieces : List Piece
  text_pieces = in_brackets (commas (map polygon_pieces (polygon_numbers directory rings)))

  polygon-spelled : (ps : List ℕ) (k : ℕ) → spelled ps directory (polygon_pieces k) ≡ polygon_text ps directory rings k
  unfolding polygon_pieces polygon_text
  polygon-spelled ps k =
      spelled-brackets ps directory (commas (map (λ r. ring r ∷ []) (k ∷ hole_numbers directory rings k)))
      ∙ ap bracketed
      (spelled-commas ps directory (map (λ r. ring r ∷ []) (k ∷ hole_numbers directory rings k))
      ∙ ap joined (map-map (spelled ps directory) (λ r. ring r ∷ []) (λ r. ring_text (written_at ps directory r)) (λ r. one r) (k ∷ hole_numbers directory rings k)))
    where
      one : (r : ℕ) → spelled ps directory (ring r ∷ []) ≡ ring_text (written_at ps directory r)
      one r = unfold spelled flat_map piece_text in append-nil (ring_text (written_at ps directory r))

  text-spelled : (ps : List ℕ) → geo_json_text ps directory rings ≡ opening ++ (spelled ps directory text_pieces ++ (125 ∷ []))
  unfolding text_pieces geo_json_text
  text-spelled ps =
      ap (λ (s : List ℕ). opening ++ (s ++ (125 ∷ [])))
      (sym
      (spelled-brackets ps directory (commas (map polygon_pieces (polygon_numbers directory rings)))
      ∙ ap bracketed
      (spelled-commas ps directory (map polygon_pieces (polygon_numbers directory rings))
      ∙ ap joined (map-map (spelled ps directory) polygon_pieces (polygon_text ps directory rings) (polygon-spelled ps) (polygon_numbers directory rings)))))

  polygon-rings : (k : ℕ) → rings_among (polygon_pieces k) ≡ k ∷ hole_numbers directory rings k
  unfolding polygon_pieces
  polygon-rings k =
      rings-brackets (commas (map (λ r. ring r ∷ []) (k ∷ hole_numbers directory rings k)))
      ∙ rings-commas (map (λ r. ring r ∷ []) (k ∷ hole_numbers directory rings k))
      ∙ rings-alone (k ∷ hole_numbers directory rings k)

  text-rings : rings_among text_pieces ≡ text_rings directory rings
  unfolding text_pieces text_rings
  text-rings =
      rings-brackets (commas (map polygon_pieces (polygon_numbers directory rings)))
      ∙ rings-commas (map polygon_pieces (polygon_numbers directory rings))
      ∙ flat-map rings_among polygon_pieces (λ k. k ∷ hole_numbers directory rings k) polygon-rings (polygon_numbers directory rings)

-- the text of a set that passes number 9 has each ring once
pub each-ring-once : (ps directory : List ℕ) (rings : ℕ) → rings ≤ no_owner → ring_set_refused ps directory rings ≡ false → EachRingOnce ps directory rings
each-ring-once ps directory rings few passes = record {
  pieces = text_pieces directory rings;
  text-is = text-spelled directory rings ps;
  rings-are = text-rings directory rings;
  text-has = told ps directory rings few passes;
}
