-- Lists whose elements have keys.
use Rattle.std.specs.Prelude.{Bool, List, [], ◌∷◌, Option, Some, None, if◌then◌else◌}

-- the first element with the key
abbrev pub find_by : {A K : Type 0} → (K → K → Bool) → (A → K) → List A → K → Option A
find_by eq key [] k = None
find_by eq key (x ∷ xs) k = if eq (key x) k then Some x else find_by eq key xs k
