-- What callers cite of the scan: each contract leaves one result. Assumes nothing.
use mathlib.Core.Path.{◌≡◌, sym, ◌∙◌}
use mathlib.Core.List.{List}
use Prim.Native.Nat.{ℕ, suc}
use lib.Ieee.{Float}
use Rattle.scope.specs.declared.Level.{Level}
use Rattle.scope.specs.Terrain.{above_at, terrain}
use Rattle.scan.specs.Rows.{word_from}
use Rattle.scan.specs.Scanned.{scanned}
use Rattle.scan.specs.Report.{first_report}
use Rattle.scan.specs.declared.Counts.{Counts}
use Rattle.scan.specs.declared.FirstReport.{FirstReport}
use Rattle.std.specs.Prelude.{Result}
use Rattle.error.specs.declared.Refusal.{Refusal}

-- two results that meet a contract of the form `r ≡ definition` on the same entry are equal
one-result : {X : Type 0} {p q answer : X} → p ≡ answer → q ≡ answer → p ≡ q
one-result hp hq = hp ∙ sym hq

module _ (values : List Float) (level : Level) (dx dy : ℕ) where
  pub one-lower-word : (r c p q : ℕ) → p ≡ word_from (terrain (above_at level) values dx dy) (suc r) c → q ≡ word_from (terrain (above_at level) values dx dy) (suc r) c → p ≡ q
  one-lower-word r c p q hp hq = one-result hp hq

  pub one-scan : (p q : Counts) → p ≡ scanned (terrain (above_at level) values dx dy) dx dy → q ≡ scanned (terrain (above_at level) values dx dy) dx dy → p ≡ q
  one-scan p q hp hq = one-result hp hq

  pub one-first-report : (p q : Result FirstReport Refusal) → p ≡ first_report values level dx dy → q ≡ first_report values level dx dy → p ≡ q
  one-first-report p q hp hq = one-result hp hq
