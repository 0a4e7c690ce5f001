-- Runs without chances, computed.
use Rattle.jn_wrong.proofs.Common.{◌≡◌, ℕ, zero, suc, Bool, true, false, List, [], ◌∷◌, Option, Some, None, refl, ◌&&◌, Setup, Task, Begins, Meets, Acts, Rests, ComesUp, Dismisses, GoesDown, ClosesClients, CountsCommits, State, next_task, next}
use Rattle.jn_wrong.proofs.StillRuns.{still, goes, does_so, DoesSo, DoesNext, GoesSo}
use Rattle.jn_schedule.specs.declared.Event.TheVariants as events
use Rattle.jn_wrong.proofs.Resting.{never}

-- neither a restart nor a show
abbrev plain_next : Setup → Option Task → State → Bool
plain_next x None s = true
plain_next x (Some task) s = does_so x task s

abbrev pub plain_so : Setup → ℕ → State → Bool
plain_so x zero s = true
plain_so x (suc n) s = plain_next x (next_task s) s && plain_so x n (next x still s)

plain-does : (x : Setup) (task : Task) (s : State) → does_so x task s ≡ true → DoesSo x task s
plain-does x (Begins e) s h = h
plain-does x (Meets (events.Show q)) s h = never h
plain-does x (Meets e) s h = h
plain-does x (Acts (events.Show q)) s h = never h
plain-does x (Acts e) s h = h
plain-does x Rests s h = h
plain-does x (ComesUp q) s h = never h
plain-does x Dismisses s h = h
plain-does x (GoesDown q) s h = h
plain-does x (ClosesClients q) s h = h
plain-does x CountsCommits s h = h

plain-next : (x : Setup) (o : Option Task) (s : State) → plain_next x o s ≡ true → DoesNext x o s
plain-next x None s h = tt
plain-next x (Some task) s h = plain-does x task s h

both : (a b : Bool) → (a && b) ≡ true → (a ≡ true) × (b ≡ true)
both true true e = (refl, refl)
both true false e = never e
both false b e = never e

pub plainly : (x : Setup) (n : ℕ) (s : State) → plain_so x n s ≡ true → GoesSo x n s
plainly x zero s h = tt
plainly x (suc n) s h = let t = both (plain_next x (next_task s) s) (plain_so x n (next x still s)) h in (plain-next x (next_task s) s t.0, plainly x n (next x still s) t.1)

-- so many and then so many more
abbrev pub plus : ℕ → ℕ → ℕ
plus zero n = n
plus (suc m) n = suc (plus m n)

pub then-so : (x : Setup) (m n : ℕ) (s : State) → GoesSo x m s → GoesSo x n (goes x m s) → GoesSo x (plus m n) s
then-so x zero n s h k = k
then-so x (suc m) n s h k = (h.0, then-so x m n (next x still s) h.1 k)

-- so many plain steps and then one, which may be a restart or a show, again and again
abbrev pub Pieces : Setup → List ℕ → State → Type 0
Pieces x [] s = Unit {0}
Pieces x (a ∷ more) s = (plain_so x a s ≡ true) × DoesNext x (next_task (goes x a s)) (goes x a s) × Pieces x more (next x still (goes x a s))

abbrev pub total : List ℕ → ℕ
total [] = 0
total (a ∷ more) = plus a (suc (total more))

pub pieces-so : (x : Setup) (pieces : List ℕ) (s : State) → Pieces x pieces s → GoesSo x (total pieces) s
pieces-so x [] s h = tt
pieces-so x (a ∷ more) s h = then-so x a (suc (total more)) s (plainly x a s h.0) (h.1, pieces-so x more (next x still (goes x a s)) h.2)
