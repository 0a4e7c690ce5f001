-- The list of the works that hold one unit.
use Rattle.std.specs.Prelude.{Bool, true, false, nat_lt, not, ◌&&◌, ◌||◌, filter, vec_len, vec_capacity, List, [], ◌∷◌, ◌++◌}
use Rattle.std.specs.Global.{Vec}
use Rattle.jn_base.specs.declared.names.WorkId.{WorkId}
use Rattle.jn_base.specs.Names.{work_eq}
use Rattle.jn_locks.specs.declared.words.Mode.{Mode}
use Rattle.jn_locks.specs.declared.words.Mode.TheVariants.{Read, IntentionWrite, Commit}
use Rattle.jn_locks.specs.declared.words.Modes.{Modes}
use Rattle.jn_locks.specs.declared.words.Holder.{Holder}
use Rattle.jn_locks.specs.Locks.{together, mode_eq}

abbrev pub has : Modes → Mode → Bool
has ms Read = ms.read
has ms IntentionWrite = ms.intention_write
has ms Commit = ms.commit

abbrev pub with_mode : Modes → Mode → Modes
with_mode ms m = record { read = ms.read || mode_eq m Read; intention_write = ms.intention_write || mode_eq m IntentionWrite; commit = ms.commit || mode_eq m Commit }

abbrev pub union : Modes → Modes → Modes
union a b = record { read = a.read || b.read; intention_write = a.intention_write || b.intention_write; commit = a.commit || b.commit }

abbrev pub committed : Modes → Modes
committed ms = record { read = ms.read; intention_write = false; commit = ms.commit || ms.intention_write }

-- one of the modes does not go with this one of another work
abbrev pub clashes : Mode → Modes → Bool
clashes m ms = (ms.read && not (together m Read)) || ((ms.intention_write && not (together m IntentionWrite)) || (ms.commit && not (together m Commit)))

abbrev pub is_among : List Holder → WorkId → Bool
is_among [] V = false
is_among (h ∷ hs) V = work_eq h.work V || is_among hs V

-- whether the work holds the unit in that mode
abbrev pub holds_in : List Holder → WorkId → Mode → Bool
holds_in [] V m = false
holds_in (h ∷ hs) V m = (work_eq h.work V && has h.modes m) || holds_in hs V m

abbrev pub without : WorkId → List Holder → List Holder
without W hs = filter (λ (h : Holder). not (work_eq W h.work)) hs

abbrev pub with_holder : WorkId → Modes → List Holder → List Holder
with_holder W ms hs = without W hs ++ (record { work = W; modes = ms }) ∷ []

-- no work stands twice
abbrev pub each_once : List Holder → Bool
each_once [] = true
each_once (h ∷ hs) = not (is_among hs h.work) && each_once hs

abbrev pub has_room : Vec Holder → Bool
has_room v = nat_lt (vec_len v) (vec_capacity v)
