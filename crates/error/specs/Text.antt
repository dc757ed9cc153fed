-- The sentence that a refusal is printed as. Assumes nothing.
use Rattle.std.specs.Prelude.{ℕ, List, codes}
use Rattle.error.specs.declared.Refusal.{Refusal}
use Rattle.error.specs.declared.Refusal.TheVariants.{BadSide, BadDimension, FewThresholds, NoPair, OpenShort, LinksShort, PointsShort, DirectoryShort, BadRingSet, TextShort, BadRing, BadText, BadRow, BadTurn, NotThere}

abbrev pub refusal_text : Refusal → List ℕ
refusal_text BadSide = codes "a side of the terrain is 0 or above 4,096"
refusal_text BadDimension = codes "the number of values is not columns times rows"
refusal_text FewThresholds = codes "the list has fewer than two thresholds"
refusal_text NoPair = codes "the list has no pair of thresholds k and k + 1"
refusal_text OpenShort = codes "the open table is short"
refusal_text LinksShort = codes "the link table is short"
refusal_text PointsShort = codes "the points are short"
refusal_text DirectoryShort = codes "the directory is short"
refusal_text BadRingSet = codes "the ring set is faulty"
refusal_text TextShort = codes "the room for the text is short"
refusal_text BadRing = codes "a ring is empty or odd, has over 67,108,864 points or a coordinate above 8,192"
refusal_text BadText = codes "the input text is faulty"
refusal_text BadRow = codes "the row has not a value for each column"
refusal_text BadTurn = codes "all rows are there already, or not yet, or the end was taken"
refusal_text NotThere = codes "there is no ring or vertex of this number, or the vertex stands between no samples"
