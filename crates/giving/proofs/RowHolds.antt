-- What it means that the row machine holds a drawing: the tables hold the open lines, each slot has its line's number of links, the other links that were ever used
-- are free, and the rings since the call began stand in the outputs. The rules that take a link keep it, where there is room for the drawing after them.
-- Assumes nothing.
use mathlib.Core.Path.{◌≡◌, ◌∙◌}
use mathlib.Core.List.{List, [], ◌∷◌, ◌++◌}
use Prim.Native.Nat.{ℕ, ◌+◌, ◌*◌, ◌^◌, ◌≤◌, ◌<◌}
use native.Mathlib.Omega.{arith}
use lib.ListN.{length, get_or}
use Rattle.scope.specs.Cells.{Point}
use Rattle.scope.specs.Stitching.{Line, Drawing}
use Rattle.laws.proofs.Total.{total, total-at}
use Rattle.laws.proofs.Sizes.{size, held_in}
use Rattle.laws.proofs.Conservation.{Each}
use Rattle.laws.proofs.Rings.{RingLaw}
use Rattle.machine.specs.Machine.{first_link, last_link, link_count, link_next, Tables}
use Rattle.machine.proofs.Views.{slot_at}
use Rattle.machine.proofs.Chains.{Linked}
use Rattle.machine.proofs.Held.{HeldLine}
use Rattle.machine.proofs.Ready.{used}
use Rattle.machine.proofs.Steps.{Kept, Carried, Handed, Grown}
use Rattle.giving.specs.Giving.{Given, tables_in, link_taken, stock_after, with_taken}
use Rattle.giving.proofs.Sizes.{Sized}
use Rattle.giving.proofs.Stock.{Stock, Taken, taken, restocked}
use Rattle.giving.proofs.Outputs.{Outputs, held-length}

-- what stays as it is: the grid's sides, room for h lines and for so many links, the words past that room, the rings before the call, and the outputs as they were
pub record Setting : Type 0 where
  pub dx : ℕ
  pub dy : ℕ
  pub h : ℕ
  pub room : ℕ
  pub kept : Kept
  pub earlier : List Line
  pub points : List ℕ
  pub directory : List ℕ

-- all of it fits the words that the machine has for it
pub record Modest (S : Setting) : Type 0 where
  pub lines-small : S.h < 2 ^ 32
  pub links-small : S.room + 2 < 2 ^ 32
  pub columns-small : 2 * S.dx < 2 ^ 16
  pub rows-small : 2 * S.dy < 2 ^ 16

-- a drawing's open lines alone
abbrev pub open_in : Drawing → Drawing
open_in d = record { lines = d.lines; rings = [] }

pub record RowHolds (S : Setting) (live : Point → Type 0) (d : Drawing) (g : Given) : Type 0 where
  pub carried : Carried S.dx S.h S.room S.kept S.room live (open_in d) (tables_in g)
  pub sized : Sized S.dx g.lines d.lines
  pub stock : Stock S.room (used carried.chains carried.loops) g.links g.play.spare g.play.fresh g.play.held
  pub held-is : g.play.held ≡ held_in d.lines
  pub given : List Line
  pub rings-are : d.rings ≡ S.earlier ++ given
  pub out : Outputs S.points S.directory given g.points g.directory g.play.rings g.play.points

-- there is room for the drawing, and its rings are rings
pub record RowFits (S : Setting) (d : Drawing) : Type 0 where
  pub lines_fit : length d.lines ≤ S.h
  pub links-fit : held_in d.lines ≤ S.room
  pub rings-fit : length d.rings < 2 ^ 32
  pub points-fit : total length d.rings < 2 ^ 32
  pub rings-within : Each (RingLaw S.dx S.dy) d.rings

module _ {S : Setting} {live : Point → Type 0} {d : Drawing} {g : Given} (now : RowHolds S live d g) where
  pub line-held : (i : ℕ) → i < length d.lines → HeldLine S.dx g.links (slot_at S.dx g.lines i) (get_or now.carried.chains i []) (get_or d.lines i [])
  line-held = now.carried.held.lines-held

  -- a line has two points or more
  pub two-points : (i : ℕ) → i < length d.lines → 2 ≤ length (get_or d.lines i [])
  two-points i hi =
      omega (
        arith,
        held-length S.dx g.links (slot_at S.dx g.lines i) (get_or now.carried.chains i []) (get_or d.lines i []) (line-held i hi),
        some (get_or now.carried.chains i []) (line-held i hi).linked,
      )
    where
      some : (chain : List ℕ) → Linked (link_next g.links) (first_link S.dx g.lines i) chain (last_link S.dx g.lines i) → 1 ≤ length chain
      some [] h = absurd h
      some (x ∷ chain) h = omega arith

  -- a line's links are held
  pub size-within : (i : ℕ) → i < length d.lines → link_count S.dx g.lines i ≤ held_in d.lines
  unfolding held_in
  size-within i hi = omega (arith, now.sized i hi, total-at size d.lines i [] hi)

  module _ (modest : Modest S) (more : held_in d.lines + 1 ≤ S.room) where
    pub taken-now : Taken g.play S.room (used now.carried.chains now.carried.loops) g.links
    taken-now = taken g.play S.room (used now.carried.chains now.carried.loops) g.links (omega (arith, modest.links-small)) (omega (arith, now.held-is)) now.stock

    pub handed : Handed S.room S.room S.room now.carried.chains now.carried.loops (link_taken g.play)
    handed = record {
      fresh = taken-now.no-use;
      inside = taken-now.inside;
      within = omega arith;
      wider = omega arith;
      below = taken-now.inside;
    }

    -- a rule done with the link that is taken
    pub taken-holds : (live' : Point → Type 0) (d' : Drawing) (rule : Tables → ℕ → Tables)
        (after : Carried S.dx S.h S.room S.kept S.room live' (open_in d') (tables_in (with_taken g rule))) → Grown now.carried after (link_taken g.play)
        → Sized S.dx (with_taken g rule).lines d'.lines → held_in d'.lines ≡ held_in d.lines + 1 → d'.rings ≡ d.rings → RowHolds S live' d' (with_taken g rule)
    unfolding with_taken
    taken-holds live' d' rule after grown sized held rings = record {
      carried = after;
      sized = sized;
      stock =
          restocked g.play S.room (used now.carried.chains now.carried.loops) g.links taken-now (used after.chains after.loops) (with_taken g rule).links
          grown.uses-grown grown.still;
      held-is = taken-now.held_after ∙ omega (arith, now.held-is, held);
      given = now.given;
      rings-are = rings ∙ now.rings-are;
      out = unfold stock_after in now.out;
    }
