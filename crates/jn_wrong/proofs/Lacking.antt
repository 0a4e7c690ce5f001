-- A transaction of one work ends: it commits, or its client is told what was lacking.
use Rattle.jn_wrong.proofs.Common.{Devices, ◌≡◌, ◌⊎◌, ◌+◌, ◌-◌, inl, inr, ℕ, Bool, true, false, List, [], ◌∷◌, ◌++◌, drop, Option, Some, None, is_some, true≢false, refl, sym, ◌∙◌, ap, subst, arith, nat_lt, if◌then◌else◌, slice_get, list_any, ServerNo, AllFiles, no_files, Client, Server, Counts, Need, DeviceState, Event, Line, Text, Message, Cause, Resource, RowOutcome, StableState, stable, made_all, shortage, vote_of, Held, conflict, commit_wants, need_in, Work, Memory, server_row, of_worker, of_coordinator, Setup, Task, Begins, Meets, Rests, State, Stage, AtEnd, next_at, next_task, done, first_busy, servers_of, Moment, Leads, pages_of, before, AreImages, IsWhole, AreNew, s0, WorkId, client_eq, blank, longer, Longer, may-lead, Phase, Active, Stored, c1, tid, free_on, beside_on, Beside, CountsAll, lacking, IsOnlyOfLacking, Vote, abort_row, end_promised, prepared_row, Transaction, none_free, Ready, Full, ActiveWork, FullAt, IsOnlyWhereLacking, MapPlaces, no_maps, left_over, is_commit}
use Rattle.jn_wrong.proofs.StillRuns.{still, goes, GoesSo, rests_so}
use Rattle.jn_base.specs.declared.names.RequestNo.{RequestNo}
use Rattle.jn_base.specs.declared.names.Resource.TheVariants as resources
use Rattle.jn_base.specs.declared.op.Command.TheVariants as commands
use Rattle.jn_msgs.specs.declared.message.Message.TheVariants as messages
use Rattle.jn_report.specs.declared.line.Text.TheVariants as says
use Rattle.jn_rows.specs.declared.coordinator.Stage.{Stage as Stage'}
use Rattle.jn_rows.specs.declared.coordinator.Stage.TheVariants as stages
use Rattle.jn_schedule.specs.declared.Event.TheVariants as events
use Rattle.jn_wrong.proofs.Bare.{bare}
use Rattle.jn_wrong.proofs.Driving.{Stand, IsStill, begins-one, finishes}
use Rattle.jn_wrong.proofs.Exact.{new_epochs, setup_of, quiet, start}
use Rattle.jn_wrong.proofs.Granted.{with_room, by_row, hands-one, told-one}
use Rattle.jn_wrong.proofs.OneServer.{weaker}
use Rattle.jn_wrong.proofs.Settled.{Reached, reaches, IsClear, settles-clear, tells-one, settles-one}
use Rattle.jn_wrong.proofs.Struck.{any-before}
use Rattle.jn_wrong.proofs.Unused.{so_many, IsUnused, IsEmpty, unused, all-free, no-rubbish}

-- ---- what stands where the transaction ends

abbrev pub the_work : WorkId
the_work = record { server = s0; epoch = 1; ticket = 1 }

abbrev work_in : Phase → Work
work_in phase = record { name = the_work; tid = tid s0 0; phase = phase }

abbrev transaction_in : Stage' → Transaction
transaction_in stage = record { tid = tid s0 0; client = c1; begun = Some (record { 0 = 1 }); stage = stage }

-- what its server remembers of it
abbrev memory_with : Phase → Stage' → Memory
memory_with phase stage = record {
  worker = work_in phase ∷ [];
  coordinator = record { transactions = transaction_in stage ∷ []; seen = λ c. if client_eq c1 c then 1 else 0 };
  tickets = record { server = s0; epoch = 1; next = 2 };
  next = λ W. 0;
}

abbrev prepare_sent : Message
prepare_sent = messages.Prepare (tid s0 0) c1 the_work

abbrev vote_sent : Vote → Message
vote_sent vote = messages.Vote (tid s0 0) the_work vote

abbrev drop_sent : Message
drop_sent = messages.Drop (tid s0 0) the_work

-- a row that no room changes
abbrev plainly : Memory → Message → RowOutcome Memory
plainly m message = server_row m (blank 1) (with_room none_free no_maps false) message

nothing-stored : IsEmpty (blank 1)
nothing-stored = record { works = λ W. refl; flags = λ T. refl; files = λ f. refl }

-- ---- what is free

less-none : (n : ℕ) → n - 0 ≡ n
less-none n = omega arith

-- with so many records promised
left-free : (g : Counts) (n : ℕ) → so_many (g.pool - n) (g.heads - 0) g.leaves ≡ so_many (g.pool - n) g.heads g.leaves
left-free g n = ap (λ (k : ℕ). so_many (g.pool - n) k g.leaves) (less-none g.heads)

all-left : (g : Counts) → so_many (g.pool - 0) g.heads g.leaves ≡ so_many g.pool g.heads g.leaves
all-left g = ap (λ (k : ℕ). so_many k g.heads g.leaves) (less-none g.pool)

-- a shortage is one of something
record IsFull (free need : Need) : Type 0 where
  resource : Resource
  has : ℕ
  wants : ℕ
  is : shortage free need ≡ Some (Full resource has wants)

-- by which of the three is short
abbrev shortage_by : Need → Need → Bool → Bool → Bool → Option Vote
shortage_by free need records leaves heads =
    if records then Some (Full resources.Records free.records need.records)
    else (if leaves then Some (Full resources.Pages free.pages need.pages)
    else (if heads then Some (Full resources.Heads free.heads need.heads)
    else None))

short-or : (free need : Need) → (shortage free need ≡ None) ⊎ IsFull free need
short-or free need = by (nat_lt free.records need.records) (nat_lt free.pages need.pages) (nat_lt free.heads need.heads) refl
  where
    by : (records leaves heads : Bool) → shortage free need ≡ shortage_by free need records leaves heads → (shortage free need ≡ None) ⊎ IsFull free need
    by true leaves heads e = inr (record { resource = resources.Records; has = free.records; wants = need.records; is = e })
    by false true heads e = inr (record { resource = resources.Pages; has = free.pages; wants = need.pages; is = e })
    by false false true e = inr (record { resource = resources.Heads; has = free.heads; wants = need.heads; is = e })
    by false false false e = inl e

-- ---- what lines report

abbrev pub tells_commit : Line → Bool
tells_commit l = is_commit l.text

abbrev wanted_by : Cause → Option Vote
wanted_by (FullAt s resource free need) = Some (Full resource free need)
wanted_by cause = None

abbrev wanted_of : Text → Option Vote
wanted_of (says.Aborted c j T cause) = wanted_by cause
wanted_of text = None

abbrev or_later : Option Vote → Option Vote → Option Vote
or_later None later = later
or_later (Some vote) later = Some vote

-- what the first abort for want of room reports
abbrev pub wanted_in : List Line → Option Vote
wanted_in [] = None
wanted_in (l ∷ lines) = or_later (wanted_of l.text) (wanted_in lines)

-- ---- the run

-- This message waits next, and its server with this memory is to take it.
pub record Waits (s : State) (k : ℕ) (waiting : List ℕ) (message : Message) (m : Memory) : Type 0 where
  pub rests : next_task s ≡ Some Rests
  pub waits : s.course.waiting ≡ k ∷ waiting
  pub sent : slice_get s.course.world.sent k ≡ Some (Server s0, message)
  pub up : s.course.world.memory s0 ≡ Some m

-- this one waits next for the client, who is told the outcome
pub record WaitsToTell (s : State) (k : ℕ) : Type 0 where
  pub outcome : Message
  pub rests : next_task s ≡ Some Rests
  pub waits : s.course.waiting ≡ k ∷ []
  pub sent : slice_get s.course.world.sent k ≡ Some (Client c1, outcome)

-- so many steps more, at which nothing can strike, are the rest of the run, which reports these lines
pub record GoesOn (x : Setup) (s : State) (steps : ℕ) (told : List Line) : Type 0 where
  pub so : GoesSo x steps s
  pub end : next_task (goes x steps s) ≡ None
  pub tells : (goes x steps s).lines ≡ told

-- After so many steps of the schedule a settle is about to end, behind which the transaction ends. Its work stands so, its end is this request and has message k, and
-- it needs so much.
module _ (schedule : List Event) (n : ℕ) (work : ActiveWork) (request : RequestNo) (k : ℕ) (needs : Need) where
  abbrev voting : Stage'
  voting = stages.Voting (record { request = request; works = the_work ∷ []; ready = [] })

  abbrev asking : Memory
  asking = memory_with (Active work) stages.Open

  abbrev preparing : Memory
  preparing = memory_with (Active work) voting

  abbrev stored : Memory
  stored = memory_with (Stored (record { reads = work.reads; writes = work.writes })) voting

  abbrev given_up : Resource → ℕ → ℕ → Memory
  given_up resource free need = memory_with (Active work) (stages.Aborted (FullAt s0 resource free need))

  abbrev end_sent : Message
  end_sent = messages.End c1 request (tid s0 0) (the_work ∷ [])

  -- an end asks for a record
  abbrev ending_row : Bool → ℕ → RowOutcome Memory
  ending_row short free = of_coordinator asking (if short then abort_row asking.coordinator asking.tickets (transaction_in stages.Open) (FullAt s0 resources.Records free 1) (the_work ∷ [])
      else end_promised asking.coordinator asking.tickets (transaction_in stages.Open) request (the_work ∷ []))

  end-row-is : (free : Need) (maps : MapPlaces) (r short : Bool) → nat_lt free.records 1 ≡ short → server_row asking (blank 1) (with_room free maps r) end_sent ≡ ending_row short free.records
  end-row-is free maps r short e = ap (λ (b : Bool). ending_row b free.records) e

  -- a preparation votes
  abbrev preparing_row : Option Vote → RowOutcome Memory
  preparing_row short = of_worker preparing (prepared_row preparing.worker preparing.tickets (tid s0 0) c1 (work_in (Active work)) work (vote_of None short))

  module _ (counts : ServerNo → Counts) (epochs : ServerNo → ℕ) where
    abbrev x : Setup
    x = setup_of 1 false counts

    abbrev g : Counts
    g = counts s0

    abbrev began : State
    began = before x schedule no_files (new_epochs 1 epochs)

    abbrev resting : State
    resting = goes x n began

    abbrev rested : State
    rested = done x still Rests resting

    abbrev ending : Event
    ending = events.Command c1 commands.End

    abbrev ended : State
    ended = done x still (Meets ending) (done x still (Begins ending) rested)

    abbrev asked : State
    asked = done x still (Meets events.Settle) (done x still (Begins events.Settle) ended)

    -- the server's row for the end, and so on
    abbrev answered : Bool → State
    answered short = by_row x asked k (ending_row short g.pool)

    -- its work is dropped, and its client is told
    abbrev refused : State
    refused = by_row x (answered true) (k + 1) (plainly (given_up resources.Records g.pool 1) drop_sent)

    abbrev promised : State
    promised = answered false

    abbrev prepared : Option Vote → State
    prepared short = by_row x promised (k + 1) (preparing_row short)

    abbrev committed : State
    committed = by_row x (prepared None) (k + 2) (plainly stored (vote_sent Ready))

    abbrev lost : Resource → ℕ → ℕ → State
    lost resource free need = by_row x (prepared (Some (Full resource free need))) (k + 2) (plainly preparing (vote_sent (Full resource free need)))

    abbrev aborted : Resource → ℕ → ℕ → State
    aborted resource free need = by_row x (lost resource free need) (k + 3) (plainly (given_up resource free need) drop_sent)

    -- what is computed of it
    pub record IsSo : Type 0 where
      pub so : GoesSo x n began
      pub rests : next_task resting ≡ Some Rests
      pub tasks : resting.tasks ≡ Rests ∷ drop 1 resting.tasks
      pub waits : resting.course.waiting ≡ []
      pub rests_on : rests_so x resting.course.world [] ≡ true
      pub busy : (r : ServerNo → Bool) → first_busy r resting.course.world (servers_of x) ≡ (if r s0 then Some s0 else None)
      pub up : is_some (resting.course.world.memory s0) ≡ true
      pub empty : stable (resting.course.world.found s0) ≡ blank 1
      pub begins : next_task rested ≡ Some (Begins ending)
      pub meets : next_task (done x still (Begins ending) rested) ≡ Some (Meets ending)
      pub then_settles : next_task ended ≡ Some (Begins events.Settle)
      pub settles : next_task (done x still (Begins events.Settle) ended) ≡ Some (Meets events.Settle)
      pub still_empty : stable (asked.course.world.found s0) ≡ blank 1
      pub asks : Waits asked k [] end_sent asking
      pub refuses : Waits (answered true) (k + 1) ((k + 2) ∷ []) drop_sent (given_up resources.Records g.pool 1)
      pub tells_so : WaitsToTell refused (k + 2)
      pub is_told : (new : List Line) → wanted_in ((done x still Rests refused).lines ++ new) ≡ Some (Full resources.Records g.pool 1)
      pub empty_on : stable (promised.course.world.found s0) ≡ blank 1
      pub prepares : Waits promised (k + 1) [] prepare_sent preparing
      pub alone : conflict the_work (commit_wants work.writes) (work_in (Active work) ∷ []) ≡ None
      pub needs_are : (maps : MapPlaces) → need_in maps (blank 1).files work.list ≡ needs
      pub votes : Waits (prepared None) (k + 2) [] (vote_sent Ready) stored
      pub commits : list_any tells_commit committed.lines ≡ true
      pub refuses_work : (resource : Resource) (free need : ℕ) → Waits (prepared (Some (Full resource free need))) (k + 2) [] (vote_sent (Full resource free need)) preparing
      pub drops : (resource : Resource) (free need : ℕ) → Waits (lost resource free need) (k + 3) ((k + 4) ∷ []) drop_sent (given_up resource free need)
      pub tells_outcome : (resource : Resource) (free need : ℕ) → WaitsToTell (aborted resource free need) (k + 4)
      pub outcome_told : (resource : Resource) (free need : ℕ) (new : List Line) → wanted_in ((done x still Rests (aborted resource free need)).lines ++ new) ≡ Some (Full resource free need)

    -- and where something is lacking, which report the run gives to its end
    pub record TellsSo (steps : ℕ) (report : Resource → ℕ → ℕ → List Line) : Type 0 where
      pub no_flag : GoesOn x (done x still Rests refused) steps (report resources.Records g.pool 1)
      pub no_work : (resource : Resource) (free need : ℕ) → GoesOn x (done x still Rests (aborted resource free need)) steps (report resource free need)

    module _ (is : IsSo) (last : Moment) (over : next_task last.state ≡ None) where
      pub record IsReady (d : DeviceState) : Type 0 where
        pub still : IsStill d
        pub unused : IsUnused g (pages_of d)

      to-rested : Reached x refl last over resting → Stand x last rested IsReady
      to-rested h = weaker x last rested (IsClear x refl last over resting ending is.rests is.tasks is.waits is.rests_on is.busy is.begins is.up) IsReady
          (λ d c. record { still = c.still; unused = unused g (blank 1) (pages_of d) nothing-stored (subst (λ (y : StableState). CountsAll g y (pages_of d)) is.empty c.counted) c.rubbish })
          (settles-clear x refl last over resting ending is.rests is.tasks is.waits is.rests_on is.busy is.begins is.up h)

      to-asked : Stand x last rested IsReady → Stand x last asked IsReady
      to-asked h = settles-one x refl last over (done x still (Begins events.Settle) ended) IsReady is.settles
          (begins-one x refl last over ended events.Settle IsReady is.then_settles
          (tells-one x refl last over (done x still (Begins ending) rested) c1 commands.End IsReady is.meets
          (begins-one x refl last over rested ending IsReady is.begins h)))

      -- ---- a message at the server

      -- with everything free but so many records, and no more rubbish afterwards where nothing is stored
      hands-ready : (s : State) (i : ℕ) (waiting : List ℕ) (message : Message) (m : Memory) (row : RowOutcome Memory) (P' : DeviceState → Type 0) → Waits s i waiting message m → stable (s.course.world.found s0) ≡ blank 1
          → ((d : DeviceState) (maps : MapPlaces) (r : Bool) → IsReady d → server_row m (blank 1) (with_room (free_on g (pages_of d) (blank 1) m) maps r) message ≡ row)
          → ((d e : DeviceState) → IsReady d → IsStill e → CountsAll g (made_all row.changes (blank 1)) (pages_of e) → beside_on g (pages_of e) ≡ left_over (blank 1) row.changes (beside_on g (pages_of d)) → P' e)
          → Stand x last s IsReady → Stand x last (by_row x s i row) P'
      hands-ready s i waiting message m row P' w empty rows becomes = hands-one x refl last over s i waiting message m w.rests w.waits w.sent w.up row IsReady P' (λ d p. p.still)
          (λ d maps r p. subst (λ (y : StableState). server_row m y (with_room (free_on g (pages_of d) y m) maps r) message ≡ row) (sym empty) (rows d maps r p)) refl
          (λ d e p still counted left. becomes d e p still (subst (λ (y : StableState). CountsAll g (made_all row.changes y) (pages_of e)) empty counted)
          (subst (λ (y : StableState). beside_on g (pages_of e) ≡ left_over y row.changes (beside_on g (pages_of d))) empty left))

      -- whatever is free
      hands-plainly : (s : State) (i : ℕ) (waiting : List ℕ) (message : Message) (m : Memory) → Waits s i waiting message m → ((y : StableState) (free : Need) (maps : MapPlaces) (r : Bool) → server_row m y (with_room free maps r) message ≡ plainly m message)
          → Stand x last s IsStill → Stand x last (by_row x s i (plainly m message)) IsStill
      hands-plainly s i waiting message m w rows = hands-one x refl last over s i waiting message m w.rests w.waits w.sent w.up (plainly m message) IsStill IsStill (λ d p. p)
          (λ d maps r p. rows (stable (s.course.world.found s0)) (free_on g (pages_of d) (stable (s.course.world.found s0)) m) maps r) refl (λ d e p still counted left. still)

      tells-outcome : (s : State) (i : ℕ) → WaitsToTell s i → Stand x last s IsStill → Stand x last (done x still Rests s) IsStill
      tells-outcome s i w = told-one x refl last over s i [] c1 w.outcome IsStill w.rests w.waits w.sent

      ready-free : (d : DeviceState) → IsReady d → free_on g (pages_of d) (blank 1) asking ≡ so_many g.pool g.heads g.leaves
      ready-free d p = all-free g (pages_of d) p.unused (blank 1) asking ∙ left-free g 0 ∙ all-left g

      promised-free : (d : DeviceState) → IsReady d → free_on g (pages_of d) (blank 1) preparing ≡ so_many (g.pool - 1) g.heads g.leaves
      promised-free d p = all-free g (pages_of d) p.unused (blank 1) preparing ∙ left-free g 1

      ends-so : (short : Bool) → nat_lt g.pool 1 ≡ short → (d : DeviceState) (maps : MapPlaces) (r : Bool) → IsReady d → server_row asking (blank 1) (with_room (free_on g (pages_of d) (blank 1) asking) maps r) end_sent ≡ ending_row short g.pool
      ends-so short e d maps r p = ap (λ (free : Need). server_row asking (blank 1) (with_room free maps r) end_sent) (ready-free d p) ∙ end-row-is (so_many g.pool g.heads g.leaves) maps r short e

      prepares-so : (short : Option Vote) → shortage (so_many (g.pool - 1) g.heads g.leaves) needs ≡ short → (d : DeviceState) (maps : MapPlaces) (r : Bool) → IsReady d
          → server_row preparing (blank 1) (with_room (free_on g (pages_of d) (blank 1) preparing) maps r) prepare_sent ≡ preparing_row short
      prepares-so short e d maps r p = ap (λ (free : Need). server_row preparing (blank 1) (with_room free maps r) prepare_sent) (promised-free d p)
          ∙ ap (λ (held : Option Held). voted held (shortage (so_many (g.pool - 1) g.heads g.leaves) (need_in maps (blank 1).files work.list))) is.alone
          ∙ ap (λ (need : Need). voted None (shortage (so_many (g.pool - 1) g.heads g.leaves) need)) (is.needs_are maps) ∙ ap (λ (vote : Option Vote). voted None vote) e
        where
          voted : Option Held → Option Vote → RowOutcome Memory
          voted held vote = of_worker preparing (prepared_row preparing.worker preparing.tickets (tid s0 0) c1 (work_in (Active work)) work (vote_of held vote))

      -- ---- each way

      to-refused : nat_lt g.pool 1 ≡ true → Stand x last asked IsReady → Stand x last (done x still Rests refused) IsStill
      to-refused short h = tells-outcome refused (k + 2) is.tells_so (hands-plainly (answered true) (k + 1) ((k + 2) ∷ []) drop_sent (given_up resources.Records g.pool 1) is.refuses (λ y free maps r. refl)
          (hands-ready asked k [] end_sent asking (ending_row true g.pool) IsStill is.asks is.still_empty (ends-so true short) (λ d e p still counted left. still) h))

      to-promised : nat_lt g.pool 1 ≡ false → Stand x last asked IsReady → Stand x last promised IsReady
      to-promised enough = hands-ready asked k [] end_sent asking (ending_row false g.pool) IsReady is.asks is.still_empty (ends-so false enough)
          (λ d e p still counted left. record {
            still = still;
            unused = unused g (blank 1) (pages_of e) nothing-stored counted (ap (λ (b : Beside). b.rubbish) left ∙ no-rubbish g (pages_of d) p.unused);
          })

      to-committed : shortage (so_many (g.pool - 1) g.heads g.leaves) needs ≡ None → Stand x last promised IsReady → Stand x last committed IsStill
      to-committed enough h = hands-plainly (prepared None) (k + 2) [] (vote_sent Ready) stored is.votes (λ y free maps r. refl)
          (hands-ready promised (k + 1) [] prepare_sent preparing (preparing_row None) IsStill is.prepares is.empty_on (prepares-so None enough) (λ d e p still counted left. still) h)

      to-aborted : (resource : Resource) (free need : ℕ) → shortage (so_many (g.pool - 1) g.heads g.leaves) needs ≡ Some (Full resource free need) → Stand x last promised IsReady
          → Stand x last (done x still Rests (aborted resource free need)) IsStill
      to-aborted resource free need short h = tells-outcome (aborted resource free need) (k + 4) (is.tells_outcome resource free need)
          (hands-plainly (lost resource free need) (k + 3) ((k + 4) ∷ []) drop_sent (given_up resource free need) (is.drops resource free need) (λ y room maps r. refl)
          (hands-plainly (prepared (Some (Full resource free need))) (k + 2) [] (vote_sent (Full resource free need)) preparing (is.refuses_work resource free need) (λ y room maps r. refl)
          (hands-ready promised (k + 1) [] prepare_sent preparing (preparing_row (Some (Full resource free need))) IsStill is.prepares is.empty_on (prepares-so (Some (Full resource free need)) short)
          (λ d e p still counted left. still) h)))

      -- ---- what its last lines report

      lines-grow : (s : State) → Stand x last s IsStill → (new : List Line) × (last.state.lines ≡ s.lines ++ new)
      lines-grow s h = by (longer x h.moment.state last.state (may-lead x h.moment last h.leads))
        where
          by : Longer h.moment.state last.state → (new : List Line) × (last.state.lines ≡ s.lines ++ new)
          by l = (l.new, l.lines ∙ ap (λ (t : State). t.lines ++ l.new) h.state)

      tells-wanted : (s : State) (v : Option Vote) → Stand x last s IsStill → ((new : List Line) → wanted_in (s.lines ++ new) ≡ v) → wanted_in last.state.lines ≡ v
      tells-wanted s v h told = by (lines-grow s h)
        where
          by : (new : List Line) × (last.state.lines ≡ s.lines ++ new) → wanted_in last.state.lines ≡ v
          by (new, e) = ap wanted_in e ∙ told new

      tells-commit : Stand x last committed IsStill → list_any tells_commit last.state.lines ≡ true
      tells-commit h = by (lines-grow committed h)
        where
          by : (new : List Line) × (last.state.lines ≡ committed.lines ++ new) → list_any tells_commit last.state.lines ≡ true
          by (new, e) = ap (λ (ls : List Line). list_any tells_commit ls) e ∙ any-before tells_commit committed.lines new is.commits

      abbrev lacking_by : Bool → Option Vote
      lacking_by short = if short then Some (Full resources.Records g.pool 1) else shortage (so_many (g.pool - 1) g.heads g.leaves) needs

      abbrev Told : Type 0
      Told = (list_any tells_commit last.state.lines ≡ true) ⊎ (wanted_in last.state.lines ≡ lacking needs g)

      to-end : Reached x refl last over began → Stand x last asked IsReady
      to-end h = to-asked (to-rested (reaches x refl last over n began is.so h))

      pub ends : Reached x refl last over began → Told
      ends h = by (nat_lt g.pool 1) refl
        where
          by : (short : Bool) → nat_lt g.pool 1 ≡ short → Told
          by true e = inr (tells-wanted (done x still Rests refused) (Some (Full resources.Records g.pool 1)) (to-refused e (to-end h)) is.is_told ∙ sym (ap lacking_by e))
          by false e = at (short-or (so_many (g.pool - 1) g.heads g.leaves) needs)
            where
              at : (shortage (so_many (g.pool - 1) g.heads g.leaves) needs ≡ None) ⊎ IsFull (so_many (g.pool - 1) g.heads g.leaves) needs → Told
              at (inl enough) = inl (tells-commit (to-committed enough (to-promised e (to-end h))))
              at (inr f) = inr (tells-wanted (done x still Rests (aborted f.resource f.has f.wants)) (Some (Full f.resource f.has f.wants))
                  (to-aborted f.resource f.has f.wants f.is (to-promised e (to-end h))) (is.outcome_told f.resource f.has f.wants) ∙ sym f.is ∙ sym (ap lacking_by e))

      goes-on : (s : State) (steps : ℕ) (told : List Line) → GoesOn x s steps told → Stand x last s IsStill → last.state.lines ≡ told
      goes-on s steps told r h = finishes x refl last over steps s r.so r.end h ∙ r.tells

      pub ends-lacking : (steps : ℕ) (report : Resource → ℕ → ℕ → List Line) → TellsSo steps report → (resource : Resource) (free need : ℕ) → lacking needs g ≡ Some (Full resource free need)
          → Reached x refl last over began → last.state.lines ≡ report resource free need
      ends-lacking steps report tells resource free need lacks h = by (nat_lt g.pool 1) refl
        where
          same : Some (Full resources.Records g.pool 1) ≡ Some (Full resource free need) → report resources.Records g.pool 1 ≡ report resource free need
          same k = cc

          by : (short : Bool) → nat_lt g.pool 1 ≡ short → last.state.lines ≡ report resource free need
          by true e = goes-on (done x still Rests refused) steps (report resources.Records g.pool 1) tells.no_flag (to-refused e (to-end h)) ∙ same (sym (ap lacking_by e) ∙ lacks)
          by false e = goes-on (done x still Rests (aborted resource free need)) steps (report resource free need) (tells.no_work resource free need)
              (to-aborted resource free need (sym (ap lacking_by e) ∙ lacks) (to-promised e (to-end h)))

  -- ---- whole runs from new images

  one-setup : (setup : Setup) → setup.servers ≡ 1 → setup.trace ≡ false → setup ≡ setup_of 1 false setup.counts
  one-setup setup servers traces = ap (λ (m : ℕ). record setup { servers = m }) servers ∙ ap (λ (b : Bool). record setup { servers = 1; trace = b }) traces

  module _ (counts : ServerNo → Counts) (images closing : Devices) (lines : List Line) (new : AreNew (setup_of 1 false counts) images) (h : IsWhole (setup_of 1 false counts) schedule images closing lines) where
    is-over : next_task h.last.state ≡ None
    is-over = ap (λ (stage : Stage). next_at stage h.last.state.tasks) h.stage ∙ ap (λ (tasks : List Task). next_at AtEnd tasks) h.tasks

    begun-so : (A : Type 0) → ((epochs : ServerNo → ℕ) → Reached (setup_of 1 false counts) refl h.last is-over (began counts epochs) → A) → A
    begun-so A holds = by h.written.files h.written.epochs h.written.are_images h.written.leads
      where
        by : (files : AllFiles) (epochs : ServerNo → ℕ) → AreImages (setup_of 1 false counts) files epochs images → Leads (setup_of 1 false counts) (record { state = before (setup_of 1 false counts) schedule files epochs; devices = images }) h.last → A
        by files epochs are leads = holds epochs (record {
          moment = record { state = before (setup_of 1 false counts) schedule files epochs; devices = images };
          leads = leads;
          state = ap bare (start 1 false schedule counts images new files epochs are);
          well = inl (quiet 1 false schedule counts images new files epochs are);
        })

  module _ (is : (counts : ServerNo → Counts) (epochs : ServerNo → ℕ) → IsSo counts epochs) (report : Resource → ℕ → ℕ → List Line) where
    -- a report of want of room
    pub only-lacking : ((resource : Resource) (free need : ℕ) → (list_any tells_commit (report resource free need) ≡ false) × (wanted_in (report resource free need) ≡ Some (Full resource free need))) → IsOnlyOfLacking needs schedule report
    only-lacking reads setup images closing resource free need servers traces new whole = subst (λ (y : Setup). AreNew y images → IsWhole y schedule images closing (report resource free need) → lacking needs (y.counts s0) ≡ Some (Full resource free need))
        (sym (one-setup setup servers traces)) (tells setup.counts) new whole
      where
        tells : (counts : ServerNo → Counts) → AreNew (setup_of 1 false counts) images → IsWhole (setup_of 1 false counts) schedule images closing (report resource free need) → lacking needs (counts s0) ≡ Some (Full resource free need)
        tells counts new h = begun-so counts images closing (report resource free need) new h (lacking needs (counts s0) ≡ Some (Full resource free need)) (λ epochs r. from (ends counts epochs (is counts epochs) h.last (is-over counts images closing (report resource free need) new h) r))
          where
            from : (list_any tells_commit h.last.state.lines ≡ true) ⊎ (wanted_in h.last.state.lines ≡ lacking needs (counts s0)) → lacking needs (counts s0) ≡ Some (Full resource free need)
            from (inl c) = absurd (true≢false (sym c ∙ ap (λ (ls : List Line). list_any tells_commit ls) h.lines_are ∙ (reads resource free need).0))
            from (inr c) = sym c ∙ ap wanted_in h.lines_are ∙ (reads resource free need).1

    -- and a run where something is lacking
    pub only-where-lacking : (steps : ℕ) → ((counts : ServerNo → Counts) (epochs : ServerNo → ℕ) → TellsSo counts epochs steps report) → IsOnlyWhereLacking needs schedule report
    only-where-lacking steps tells-so setup images closing lines resource free need servers traces new lacks whole = subst (λ (y : Setup). AreNew y images → lacking needs (y.counts s0) ≡ Some (Full resource free need) → IsWhole y schedule images closing lines → lines ≡ report resource free need)
        (sym (one-setup setup servers traces)) (tells setup.counts) new lacks whole
      where
        tells : (counts : ServerNo → Counts) → AreNew (setup_of 1 false counts) images → lacking needs (counts s0) ≡ Some (Full resource free need) → IsWhole (setup_of 1 false counts) schedule images closing lines → lines ≡ report resource free need
        tells counts new lacks h = sym h.lines_are ∙ begun-so counts images closing lines new h (h.last.state.lines ≡ report resource free need)
            (λ epochs r. ends-lacking counts epochs (is counts epochs) h.last (is-over counts images closing lines new h) steps report (tells-so counts epochs) resource free need lacks r)
