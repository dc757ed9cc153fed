-- The number that document 01 gives each refusal. Every contract that refuses cites it. Assumes nothing.
use Rattle.std.specs.Prelude.{ℕ}
use Rattle.error.specs.declared.Refusal.{Refusal}
use Rattle.error.specs.declared.Refusal.TheVariants.{BadSide, BadDimension, FewThresholds, NoPair, OpenShort, LinksShort, PointsShort, DirectoryShort, BadRingSet, TextShort, BadRing, BadText, BadRow, BadTurn, NotThere}

abbrev pub refusal_number : Refusal → ℕ
refusal_number BadSide = 1
refusal_number BadDimension = 2
refusal_number FewThresholds = 3
refusal_number NoPair = 4
refusal_number OpenShort = 5
refusal_number LinksShort = 6
refusal_number PointsShort = 7
refusal_number DirectoryShort = 8
refusal_number BadRingSet = 9
refusal_number TextShort = 10
refusal_number BadRing = 11
refusal_number BadText = 12
refusal_number BadRow = 13
refusal_number BadTurn = 14
refusal_number NotThere = 15
