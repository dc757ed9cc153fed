-- The owners of rings that were written are found in the first words of the link table: what is asked before, and what is left after. Assumes nothing.
use mathlib.Core.Path.{◌≡◌, refl, sym, ◌∙◌, ap, subst}
use mathlib.Core.Bool.{Bool}
use mathlib.Core.List.{List, ◌++◌}
use Prim.Native.Nat.{ℕ, ◌≤◌}
use native.Mathlib.Omega.{arith}
use lib.ListN.{length, take, drop, length-append, length-drop}
use lib.Seq.{drop_at}
use Rattle.error.specs.declared.Refusal.{Refusal}
use Rattle.scope.specs.Room.{directory_words}
use Rattle.scope.specs.Tables.{written, record_of}
use Rattle.regions.specs.Regions.{counted_rings, Workable}
use Rattle.contourbuilder.specs.Owning.{records_by, Ownable, owned_directory, OwnersFound}
use Rattle.std.specs.Prelude.{Result, Ok, Err}

pub ownable-rings : {answer : Result ℕ Refusal} {rings : ℕ} → answer ≡ Ok rings → (words : ℕ) (links : List ℕ) (filled : ℕ) (points directory : List ℕ) → Ownable answer words links filled points directory
    → (words ≤ length links) × (filled ≤ length points) × Workable (take filled points) directory (take words links) rings × (directory_words rings ≤ length directory)
unfolding Ownable
ownable-rings {answer} {rings} e words links filled points directory o = subst (λ (a : Result ℕ Refusal). Ownable a words links filled points directory) e o

pub none_written : {answer : Result ℕ Refusal} {why : Refusal} → answer ≡ Err why → (band : Bool) (words : ℕ) (links : List ℕ) (filled : ℕ) (points directory : List ℕ)
    → OwnersFound band answer words links links filled points directory directory
unfolding owned_directory
none_written e band words links filled points directory =
    record { directory-is = sym (ap (λ (a : Result ℕ Refusal). owned_directory band a (take filled points) directory) e); as_long = refl; past-stays = refl }

pub owners-written : {answer : Result ℕ Refusal} {rings : ℕ} → answer ≡ Ok rings → (band : Bool) (words : ℕ) (links part : List ℕ) (filled : ℕ) (points directory directory' : List ℕ) → words ≤ length links → length part ≡ words
    → directory' ≡ written (records_by record_of band (counted_rings (take filled points) directory 0 rings)) directory → OwnersFound band answer words links (part ++ drop words links) filled points directory directory'
unfolding owned_directory
owners-written e band words links part filled points directory directory' h long d = record {
  directory-is = d ∙ sym (ap (λ (a : Result ℕ Refusal). owned_directory band a (take filled points) directory) e);
  as_long = omega (arith, length-append part (drop words links), length-drop words links);
  past-stays = drop_at part (drop words links) words long;
}
