-- What stands behind a settle of a run.
use Rattle.jn_at_rest.proofs.Common.{◌≡◌, List, [], ◌∷◌, ◌++◌, Some, map, ServerNo, Event, Setup, Begins, Rests, CountsCommits, first_of_tasks, servers_of, ending, printing}

pub behind-event : (x : Setup) (later : List Event) → first_of_tasks (map (λ (e : Event). Begins e) later ++ ending x) ≡ Some Rests → ⊥
behind-event x [] e = cc
behind-event x (event ∷ later) e = cc

prints-first : (servers : List ServerNo) → first_of_tasks (printing servers ++ CountsCommits ∷ []) ≡ Some Rests → ⊥
prints-first [] e = cc
prints-first (q ∷ servers) e = cc

pub behind-end : (x : Setup) → first_of_tasks (printing (servers_of x) ++ CountsCommits ∷ []) ≡ Some Rests → ⊥
behind-end x = prints-first (servers_of x)
