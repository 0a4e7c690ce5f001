-- What tests and matches have told.
use Rattle.std.proofs.Common.{◌≡◌, Option, Some, None, refl, sym}
use Rattle.std.specs.Prelude.{MatchOption}

-- a reader answers a value that is spelled so, and none only where no value is
abbrev pub Reads : {X : Type 0} → (X → Type 0) → Option X → Type 0
Reads {X} P found = MatchOption found ((x : X) → ¬ P x) P

-- a reader of what is spelled so answers what a function does that is exact for it
pub reads_same : {X : Type 0} (P : X → Type 0) (r o : Option X) → ((x : X) → o ≡ Some x → P x) → ((x : X) → P x → o ≡ Some x) → Reads P r → r ≡ o
reads_same P None None sound again h = refl
reads_same P None (Some x) sound again h = absurd (h x (sound x refl))
reads_same P (Some x) o sound again h = sym (again x h)
