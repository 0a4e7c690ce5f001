-- What the steps of the machine change. An atom is a step as small as it can be: what a server does with a message,
-- done or stopped, is a list of atoms.
use Rattle.std.specs.Prelude.{ℕ, ◌+◌, Bool, true, false, not, ◌&&◌, ◌||◌, if◌then◌else◌, List, [], ◌∷◌, ◌++◌, Option, Some, None, is_some}
use Rattle.jn_base.specs.declared.names.ServerNo.{ServerNo}
use Rattle.jn_base.specs.declared.names.LockUnit.{LockUnit}
use Rattle.jn_base.specs.declared.names.Tid.{Tid}
use Rattle.jn_base.specs.declared.names.WorkId.{WorkId}
use Rattle.jn_base.specs.Names.{server_eq}
use Rattle.jn_order.specs.Files.{AllFiles}
use Rattle.jn_records.specs.declared.flag.Flag.{Flag}
use Rattle.jn_records.specs.declared.intention.Intention.{Intention}
use Rattle.jn_records.specs.declared.work.WorkHead.{WorkHead}
use Rattle.jn_rows.specs.Stable.{StableState, Pick, Change, AddReady, MarkGoing, CarryOut, RemoveWork, AddFlag, DropFlag, at_work, at_tid, made_by, carried_at}
use Rattle.jn_order.specs.Answers.{Answered}
use Rattle.jn_system.specs.SmallSteps.World.{World, Working, Knowledge, Unknown, Begun, Committed}
use Rattle.jn_system.specs.WholeSystem.World.{at_server, changed, with_epoch}

pub data Atom : Type 0 where
  -- a coordinator begins a transaction
  Begin : Tid → Atom
  -- a worker opens a work for a transaction
  Open : WorkId → Tid → Atom
  -- an operation is answered, and the work is then so
  Perform : WorkId → Answered → Working → Atom
  -- a work goes from memory: it is broken or dropped
  Lose : WorkId → Atom
  -- a work goes from memory to the stable states, of which only some picks may find it yet
  Prepare : (Pick → Bool) → WorkHead → List Intention → List LockUnit → Atom
  -- a client ends its transaction, with these works
  End : Tid → (ServerNo → Option WorkId) → Atom
  -- a coordinator that is up knows this now
  Learn : Tid → Knowledge → Atom
  -- a work is prepared in each state that may be found
  NoteReady : WorkId → Atom
  -- a work is nowhere, and won't come back
  NoteOver : WorkId → Atom
  -- a coordinator gives a transaction up
  Abort : Tid → Atom
  -- a client asks nothing more of its transaction
  Close : Tid → Atom
  -- another change of the stable states, which only some picks may find yet
  Make : (Pick → Bool) → Change → Atom
  -- of the registers that an intention of a going work writes, each pick finds these written
  CarryPart : WorkId → Intention → (Pick → LockUnit → Bool) → Atom
  -- so many intentions of a work have been carried out
  Count : WorkId → ℕ → Atom
  -- the commit of a transaction whose flag is found
  Name : Tid → Atom
  -- a flag is put and its transaction commits, where nothing stops
  Decide : Flag → Atom
  -- fewer states may be found, as once a recovery has copied one half of a page over the other: each pick finds what this
  -- other one found. A page that goes bad, or that reads again, is no step, since its bytes are kept
  Narrow : ServerNo → (Pick → Pick) → Atom
  RaiseEpoch : ServerNo → (Pick → Bool) → Atom
  Crash : ServerNo → Atom
  -- a server raises the epoch of this state, and comes up with it
  Restart : ServerNo → StableState → Atom

-- ---- the stable states

-- the server whose state is changed
abbrev pub server_of : Change → ServerNo
server_of (AddReady head list reads) = head.work.server
server_of (MarkGoing W) = W.server
server_of (CarryOut W i) = W.server
server_of (RemoveWork W) = W.server
server_of (AddFlag flag) = flag.tid.server
server_of (DropFlag T) = T.server

abbrev pub put : ServerNo → (Pick → Bool) → (StableState → StableState) → World → World
put s done f w = record w { found = changed w.found s done f }

abbrev pub always : Pick → Bool
always c = true

-- an intention is carried out in part
abbrev pub carry_part : ServerNo → (Pick → LockUnit → Bool) → Intention → World → World
carry_part s is i w = record w { found = λ q c. if server_eq s q then carried_at (is c) i (w.found s c) else w.found q c }

abbrev pub narrow : ServerNo → (Pick → Pick) → World → World
narrow s g w = record w { found = λ q c. if server_eq s q then w.found s (g c) else w.found q c }

-- ---- transactions and works

abbrev pub begin_it : Tid → World → World
begin_it T w = record w {
  ticket = at_server w.ticket T.server (w.ticket T.server + 1);
  begun = at_tid w.begun T true;
  knowledge = at_tid w.knowledge T Begun;
}

abbrev pub new_work : Working
new_work = record { list = []; reads = [] }

abbrev pub open_work : WorkId → Tid → World → World
open_work W T w = record w {
  ticket = at_server w.ticket W.server (w.ticket W.server + 1);
  opened = at_work w.opened W true;
  owner = at_work w.owner W T;
  active = at_work w.active W (Some new_work);
}

abbrev pub perform : WorkId → Answered → Working → World → World
perform W answered a w = record w { trace = at_work w.trace W (w.trace W ++ answered ∷ []); active = at_work w.active W (Some a) }

abbrev pub lose : WorkId → World → World
lose W w = record w { active = at_work w.active W None }

abbrev pub end_it : Tid → (ServerNo → Option WorkId) → World → World
end_it T works w = record w { ended = at_tid w.ended T true; part = at_tid w.part T works }

abbrev pub learn : Tid → Knowledge → World → World
learn T k w = record w { knowledge = at_tid w.knowledge T k }

abbrev pub note_ready : WorkId → World → World
note_ready W w = record w { was_ready = at_work w.was_ready W true }

abbrev pub note_over : WorkId → World → World
note_over W w = record w { over = at_work w.over W true }

abbrev pub abort : Tid → World → World
abort T w = record w { aborted = at_tid w.aborted T true; knowledge = at_tid w.knowledge T Unknown }

abbrev pub close : Tid → World → World
close T w = record w { closed = at_tid w.closed T true }

abbrev pub count_to : WorkId → ℕ → World → World
count_to W n w = record w { next = at_work w.next W n }

-- the trace of a transaction's work at a server
abbrev pub trace_of : (WorkId → List Answered) → Option WorkId → List Answered
trace_of trace None = []
trace_of trace (Some W) = trace W

abbrev pub name_it : Tid → World → World
name_it T w = record w {
  named = at_tid w.named T true;
  knowledge = at_tid w.knowledge T (if w.up T.server then Committed (λ W. false) else Unknown);
  history = record { tid = T; traces = λ s. trace_of w.trace (w.part T s) } ∷ w.history;
}

-- ---- stops and restarts

-- what is in memory is lost
abbrev pub crash : ServerNo → World → World
crash s w = record w {
  up = at_server w.up s false;
  active = λ W. if server_eq s W.server then None else w.active W;
  next = λ W. if server_eq s W.server then 0 else w.next W;
  knowledge = λ T. if server_eq s T.server then Unknown else w.knowledge T;
}

abbrev pub found_of : StableState → Tid → Knowledge
found_of x T = if is_some (x.flags T) then Committed (λ W. false) else Unknown

-- what isn't named is aborted
abbrev pub restart : ServerNo → StableState → World → World
restart s x w = record w {
  up = at_server w.up s true;
  ticket = at_server w.ticket s 0;
  knowledge = λ T. if server_eq s T.server then found_of x T else w.knowledge T;
  aborted = λ T. w.aborted T || (server_eq s T.server && (w.begun T && not (w.named T)));
}

-- ---- every step

abbrev pub after : Atom → World → World
after (Begin T) w = begin_it T w
after (Open W T) w = open_work W T w
after (Perform W answered a) w = perform W answered a w
after (Lose W) w = lose W w
after (Prepare done head list reads) w = put head.work.server done (made_by (AddReady head list reads)) (lose head.work w)
after (End T works) w = end_it T works w
after (Learn T k) w = learn T k w
after (NoteReady W) w = note_ready W w
after (NoteOver W) w = note_over W w
after (Abort T) w = abort T w
after (Close T) w = close T w
after (Make done step) w = put (server_of step) done (made_by step) w
after (CarryPart W i is) w = carry_part W.server is i w
after (Count W n) w = count_to W n w
after (Name T) w = name_it T w
after (Decide flag) w = name_it flag.tid (put flag.tid.server always (made_by (AddFlag flag)) w)
after (Narrow s g) w = narrow s g w
after (RaiseEpoch s done) w = put s done with_epoch w
after (Crash s) w = crash s w
after (Restart s x) w = restart s x (put s always with_epoch w)

abbrev pub run : List Atom → World → World
run [] w = w
run (atom ∷ atoms) w = run atoms (after atom w)

-- all servers are up with these files and epochs, and nothing has happened
abbrev pub opening_world : AllFiles → (ServerNo → ℕ) → World
opening_world files epochs = record {
  up = λ s. true;
  found = λ s c. record { epoch = epochs s; files = files s; works = λ W. None; flags = λ T. None };
  active = λ W. None;
  next = λ W. 0;
  knowledge = λ T. Unknown;
  ticket = λ s. 0;
  opening = files;
  history = [];
  trace = λ W. [];
  owner = λ W. record { server = W.server; epoch = 0; ticket = 0 };
  opened = λ W. false;
  begun = λ T. false;
  ended = λ T. false;
  part = λ T s. None;
  was_ready = λ W. false;
  over = λ W. false;
  aborted = λ T. false;
  named = λ T. false;
  closed = λ T. false;
}
