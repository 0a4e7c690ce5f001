-- What becomes in a settle of a work that asks for its outcome: it goes, or its transaction stays undecided or is reported.
use Rattle.jn_system_settling.proofs.Common.{length, length-append, ◌≡◌, ◌≢◌, ◌⊎◌, inl, inr, ◌≤◌, ◌<◌, ℕ, Bool, true, false, List, [], ◌∷◌, ◌++◌, Option, Some, None, is_some, true≢false, refl, sym, ◌∙◌, ap, subst, arith, ◌&&◌, ◌||◌, not, if◌then◌else◌, slice_get, nat_eq, drop, list_any, nat_tests, ServerNo, ClientNo, Tid, WorkId, Cause, Client, Server, client_eq, server_eq, tid_eq, work_eq, client_tells, server_tells, tid_tells, work_tells, AllFiles, Intention, Message, Note, Text, Taken, Work, Transaction, Stage, Open, Voting, Committed, Aborted, StableState, stable, is_going, made_all, RowOutcome, Sent, WorkerTable, work_at, without, carried_row, intentions_of, CoordinatorTable, transaction_at, is_work, coordinator_row, inquire_row, told_stage, commits, dropped, ClientTable, take_row, at-less, Says, IsWorkOf, Knows, not_both, World, Memory, opening, has_line, commits_in, at_client, Room, server_row, of_worker, of_coordinator, line_of, lines_of, took, taken_by, done, IsTrue, knowledge_in, Course, In, in-first, get-in, Reached, named-is, in-all, is_undecided, is_held, holds_undecided, tells_outcome, some-memory, row-either, tid-name}
use Rattle.jn_msgs.specs.declared.message.Message.TheVariants as messages
use Rattle.jn_msgs.specs.declared.message.Note.TheVariants as notes
use Rattle.jn_msgs.specs.declared.message.Outcome.TheVariants as outcomes
use Rattle.jn_rows.specs.declared.client.Taken.TheVariants as taken
use Rattle.jn_system_order.proofs.Mirroring.Mirrored.{commits-more}
use Rattle.jn_system_settling.proofs.Settling.Burdens.{are_below}
use Rattle.jn_system_settling.proofs.Settling.ClientFits.{sent_with}
use Rattle.jn_system_settling.proofs.AtRest.Ways.{Has, Waits, any-left, took-memory, took-clients}
use Rattle.jn_system_settling.proofs.AtRest.Votes.{is_begin_message}
use Rattle.jn_system_settling.proofs.AtRest.Answered.{its-client}
use Rattle.jn_system_settling.proofs.AtRest.Begins.{Good}
use Rattle.jn_system_settling.proofs.AtRest.Fates.{Move, starts, notes_one, commits_now, aborts_now, finishes, Fate, stays, moves, forgets, closes, row-fate, row-kept}
use Rattle.jn_system_settling.proofs.AtRest.Calm.{Comes, carried}
use Rattle.jn_system_settling.proofs.AtRest.Standing.{machine, is-known, not-next, inv, up-at}
use Rattle.jn_system_settling.proofs.AtRest.Broken.{BrokenTold}
use Rattle.jn_system_settling.proofs.AtRest.Carrying.{goes_in, message-on, Led, over_now, goes_now, commit-leads}
use Rattle.jn_system_settling.proofs.AtRest.About.{is_about}
use Rattle.jn_system_settling.proofs.AtRest.Living.{NotLive, IsOld, row-none, row-old, drop-leads, Row, carried-none}
use Rattle.jn_system_settling.proofs.AtRest.Order.{NoBegin, NoneBegins, Before, IsOff, first-before, before-more, off-on, off-has}
use Rattle.jn_system_settling.proofs.AtRest.Taking.{is_thanks, take-thanks, thanks-has, thanks-off, thanks-begins, row-begins, row-off, IsIn, TookIn, same_table, told_abort, told_commit, take-in, take-aborts}
use Rattle.jn_system_settling.proofs.AtRest.Flags.{took-sent, took-found}
use Rattle.jn_system_settling.proofs.AtRest.Ends.{IsIt, same-client, same-server, other-party, Longer, took-longer, any-drop-more, any-drop-new}

-- ---- lines

pub line-more : (T : Tid) (a b : List Text) → has_line T a ≡ true → has_line T (a ++ b) ≡ true
line-more T a b h = ap (list_any (λ U. tid_eq U T)) (commits-more a b) ∙ any-left (λ U. tid_eq U T) (commits_in a) (commits_in b) h

note-told : (s : ServerNo) (k : Option ℕ) (T : Tid) (told : List Note) → In (notes.Commit T) told → list_any (tells_outcome T) (lines_of s k told) ≡ true
note-told s k T [] i = absurd i
note-told s k T (note ∷ told) (inl e) = subst (λ (z : Note). list_any (tells_outcome T) (line_of s k z ++ lines_of s k told) ≡ true) (sym e) (grind (arith, tid_tells T T))
note-told s k T (note ∷ told) (inr i) = right (line_of s k note) (note-told s k T told i)
  where
    right : (a : List Text) → list_any (tells_outcome T) (lines_of s k told) ≡ true → list_any (tells_outcome T) (a ++ lines_of s k told) ≡ true
    right [] h = h
    right (x ∷ a) h = let again = right a h in grind arith

module _ (n : ℕ) (at_most : n ≤ 8) (files : AllFiles) (epochs : ServerNo → ℕ) (reached : (d : Course) → Good n at_most (opening n files epochs) files epochs d → Reached files epochs d.world)
    (broken : (d : Course) → Good n at_most (opening n files epochs) files epochs d → BrokenTold d.world) (W : WorkId) where
  abbrev IsGood : Course → Type 0
  IsGood d = Good n at_most (opening n files epochs) files epochs d

  -- ---- whether it is live

  abbrev pub HasOld : Course → Type 0
  HasOld d = (m : Memory) → d.world.memory W.server ≡ Some m → IsOld W m.tickets

  itself : (p q : ServerNo) → p ≡ q → server_eq p q ≡ true
  itself p q e = grind (arith, nat_tests, e)

  module _ (d now : Course) (same : now.world.memory ≡ d.world.memory) where
    pub still-old : HasOld d → HasOld now
    still-old h m up = h m (ap (λ f. f W.server) (sym same) ∙ up)

    pub still-gone : NotLive d.world W → NotLive now.world W
    still-gone h = record { memory = h.memory; up = ap (λ f. f W.server) same ∙ h.up; none = h.none; old = h.old }

  -- a server does something by which an old name stays old
  module _ (d now : Course) (s : ServerNo) (m after : Memory) (up : d.world.memory s ≡ Some m) (is : now.world.memory W.server ≡ (if server_eq s W.server then Some after else d.world.memory W.server)) where
    at-it : s ≡ W.server → now.world.memory W.server ≡ Some after
    at-it e = is ∙ ap (λ (b : Bool). if b then Some after else d.world.memory W.server) (itself s W.server e)

    elsewhere : server_eq s W.server ≡ false → now.world.memory W.server ≡ d.world.memory W.server
    elsewhere e = is ∙ ap (λ (b : Bool). if b then Some after else d.world.memory W.server) e

    pub moved-old : (s ≡ W.server → IsOld W m.tickets → IsOld W after.tickets) → HasOld d → HasOld now
    moved-old on h k up' = by (server_tells s W.server)
      where
        by : ((server_eq s W.server ≡ true) × (s ≡ W.server)) ⊎ ((server_eq s W.server ≡ false) × (s ≢ W.server)) → IsOld W k.tickets
        by (inl p) = subst (λ (z : Memory). IsOld W z.tickets) (some-memory after k (sym (at-it p.1) ∙ up')) (on p.1 (h m (ap d.world.memory (sym p.1) ∙ up)))
        by (inr p) = h k (sym (elsewhere p.0) ∙ up')

    pub moved-gone : (s ≡ W.server → IsOld W m.tickets → IsOld W after.tickets) → (s ≡ W.server → IsOld W m.tickets → work_at W m.worker ≡ None → work_at W after.worker ≡ None) → NotLive d.world W → NotLive now.world W
    moved-gone on none h = by (server_tells s W.server)
      where
        here : s ≡ W.server → h.memory ≡ m
        here e = some-memory h.memory m (sym h.up ∙ ap d.world.memory (sym e) ∙ up)

        by : ((server_eq s W.server ≡ true) × (s ≡ W.server)) ⊎ ((server_eq s W.server ≡ false) × (s ≢ W.server)) → NotLive now.world W
        by (inl p) = let old = subst (λ (z : Memory). IsOld W z.tickets) (here p.1) h.old in record { memory = after; up = at-it p.1; none = none p.1 old (subst (λ (z : Memory). work_at W z.worker ≡ None) (here p.1) h.none); old = on p.1 old }
        by (inr p) = record { memory = h.memory; up = elsewhere p.0 ∙ h.up; none = h.none; old = h.old }

  pub took-same : (d now : Course) (k : ℕ) (e : ClientNo) (message : Message) → Comes d now (Some (Client e, message)) (taken_by e k (take_row (d.world.clients e) message) d.world) → now.world.memory ≡ d.world.memory
  took-same d now k e message comes = ap (λ (z : World). z.memory) comes.world ∙ took-memory e k (take_row (d.world.clients e) message).0 (take_row (d.world.clients e) message).1 d.world

  module _ (d now : Course) (k : ℕ) (room : Room) (s : ServerNo) (message : Message) (m : Memory) (g : IsGood d) (up : d.world.memory s ≡ Some m)
      (comes : Comes d now (Some (Server s, message)) (done s (Some k) (server_row m (stable (d.world.found s)) room message) d.world)) where
    row-memory : (q : ServerNo) → now.world.memory q ≡ (if server_eq s q then Some (server_row m (stable (d.world.found s)) room message).table else d.world.memory q)
    row-memory q = ap (λ (z : World). z.memory q) comes.world

    old-row : s ≡ W.server → IsOld W m.tickets → IsOld W (server_row m (stable (d.world.found s)) room message).table.tickets
    old-row e old = subst (λ (z : ServerNo). IsOld W (server_row m (stable (d.world.found z)) room message).table.tickets) (sym e) (row-old files epochs d.world (reached d g) W m (sym (ap d.world.memory e) ∙ up) old room message)

    none-row : s ≡ W.server → IsOld W m.tickets → work_at W m.worker ≡ None → work_at W (server_row m (stable (d.world.found s)) room message).table.worker ≡ None
    none-row e old none = subst (λ (z : ServerNo). work_at W (server_row m (stable (d.world.found z)) room message).table.worker ≡ None) (sym e) (row-none files epochs d.world (reached d g) W m (sym (ap d.world.memory e) ∙ up) old room message none)

    pub server-old : HasOld d → HasOld now
    server-old = moved-old d now s m (server_row m (stable (d.world.found s)) room message).table up (row-memory W.server) old-row

    pub server-gone : NotLive d.world W → NotLive now.world W
    server-gone = moved-gone d now s m (server_row m (stable (d.world.found s)) room message).table up (row-memory W.server) old-row none-row

  module _ (d now : Course) (s : ServerNo) (m : Memory) (v : Work) (g : IsGood d) (up : d.world.memory s ≡ Some m) (comes : Comes d now None (done s None (carried m d.world s v) d.world)) where
    work-memory : (q : ServerNo) → now.world.memory q ≡ (if server_eq s q then Some (carried m d.world s v).table else d.world.memory q)
    work-memory q = ap (λ (z : World). z.memory q) comes.world

    the-row : (e : s ≡ W.server) (old : IsOld W m.tickets) → Row m.worker m.tickets (up-at files epochs d.world (reached d g) s m up).table.rising (up-at files epochs d.world (reached d g) s m up).table.before W old
        (carried_row m.worker m.tickets v (slice_get (intentions_of ((stable (d.world.found s)).works v.name)) (m.next v.name)))
    the-row e old = carried-none m.worker m.tickets (up-at files epochs d.world (reached d g) s m up).table.rising (up-at files epochs d.world (reached d g) s m up).table.before W old v _

    pub work-old : HasOld d → HasOld now
    work-old = moved-old d now s m (carried m d.world s v).table up (work-memory W.server) (λ e old. (the-row e old).given)

    pub work-gone : NotLive d.world W → NotLive now.world W
    work-gone = moved-gone d now s m (carried m d.world s v).table up (work-memory W.server) (λ e old. (the-row e old).given) (λ e old none. (the-row e old).gone none)

  -- ---- its way

  module _ (T : Tid) (before : ℕ) where
    abbrev pub asking : Sent
    asking = (Server T.server, messages.Inquire T W)

    abbrev pub IsTold : World → Type 0
    IsTold w = list_any (tells_outcome T) (drop before w.lines) ≡ true

    pub data Way (d : Course) : Type 0 where
      asks : Before d.world.sent d.waiting asking → Way d
      drops_it : Waits d.world.sent d.waiting (Server W.server, messages.Drop T W) → Way d
      commits_it : Waits d.world.sent d.waiting (Server W.server, messages.Commit T W) → Way d
      goes_on : goes_in (stable (d.world.found W.server)) W ≡ true → Way d
      over : NotLive d.world W → Way d
      -- the transaction is undecided, and no Begin waits that might end it
      held : holds_undecided (d.world.memory T.server) T ≡ true → NoBegin d.world.sent d.waiting → Way d
      tells : (c : ClientNo) (cause : Cause) → IsIn T (d.world.clients c) → Waits d.world.sent d.waiting (Client c, messages.Outcome c T (outcomes.Aborted cause)) → Way d

    -- who may still have it decided
    pub data Voice (d : Course) : Type 0 where
      nobody : IsOff T d → Voice d
      its_client : (c : ClientNo) → IsIn T (d.world.clients c) → Voice d
      named : has_line T d.world.lines ≡ true → Voice d

    pub record OnWay (d : Course) : Type 0 where
      pub long : before ≤ length d.world.lines
      pub asked : In asking d.world.sent
      pub state : IsTold d.world ⊎ (Way d × Voice d)

    both : (d : Course) → IsTold d.world ⊎ Way d → IsTold d.world ⊎ Voice d → IsTold d.world ⊎ (Way d × Voice d)
    both d (inl h) v = inl h
    both d (inr w) (inl h) = inl h
    both d (inr w) (inr v) = inr (w, v)

    -- ---- what is known

    module _ (d : Course) (g : IsGood d) where
      named-line : (machine files epochs d.world (reached d g)).named T ≡ has_line T d.world.lines
      named-line = named-is files epochs d.world (reached d g) T

      says-true : (x : Sent) → In x d.world.sent → Says (machine files epochs d.world (reached d g)) x.1
      says-true x i = in-all (IsTrue (machine files epochs d.world (reached d g))) d.world.sent x (let R = reached d g in R.mirrors.says) i

      pub its-work : In asking d.world.sent → IsWorkOf (machine files epochs d.world (reached d g)) T W
      its-work i = says-true asking i

      its-old : In asking d.world.sent → HasOld d
      its-old i m up e = let R = reached d g in subst (λ (t : ℕ). W.ticket < t) (R.mirrors.ticket W.server m up)
          (((inv files epochs d.world R).names.works W (λ n. false) (its-work i).0).1 (R.mirrors.up W.server ∙ ap is_some up) (e ∙ (up-at files epochs d.world R W.server m up).epoch ∙ sym (ap (λ x. x.epoch) (R.mirrors.found W.server (λ n. false)))))

      undecided-new : (m : Memory) (x : Transaction) → d.world.memory T.server ≡ Some m → transaction_at T m.coordinator.transactions ≡ Some x → is_undecided x.stage ≡ true → has_line T d.world.lines ≡ true → ⊥
      undecided-new m x up found u h = by x.stage u (is-known files epochs d.world (reached d g) T m x up found)
        where
          is-named : (machine files epochs d.world (reached d g)).named T ≡ true
          is-named = named-line ∙ h

          by : (s : Stage) → is_undecided s ≡ true → Knows (machine files epochs d.world (reached d g)) T (knowledge_in s) → ⊥
          by Open u k = not_both _ is-named k.0
          by (Voting b) u k = not_both _ is-named k.0
          by s u k = true≢false (sym u)

      -- not both outcomes
      not-both-told : (c e : ClientNo) (cause : Cause) → In (Client c, messages.Outcome c T (outcomes.Aborted cause)) d.world.sent → In (Client e, messages.Outcome e T outcomes.Committed) d.world.sent → ⊥
      not-both-told c e cause a b = not_both _ (says-true _ b) (((inv files epochs d.world (reached d g)).core.aborted T (says-true _ a)).not_named)

    told-on : (w now : World) → Longer w now → IsTold w → IsTold now
    told-on w now l h = subst (λ z. list_any (tells_outcome T) (drop before z) ≡ true) (sym l.is) (any-drop-more (tells_outcome T) before w.lines l.more h)

    told-new : (w now : World) (l : Longer w now) → before ≤ length w.lines → list_any (tells_outcome T) l.more ≡ true → IsTold now
    told-new w now l long h = subst (λ z. list_any (tells_outcome T) (drop before z) ≡ true) (sym l.is) (any-drop-new (tells_outcome T) before w.lines l.more long h)

    line-on : (w now : World) → Longer w now → has_line T w.lines ≡ true → has_line T now.lines ≡ true
    line-on w now l h = ap (has_line T) l.is ∙ line-more T w.lines l.more h

    long-on : (w now : World) → Longer w now → before ≤ length w.lines → before ≤ length now.lines
    long-on w now l h = let e = ap length l.is ∙ length-append w.lines l.more in omega (arith, e, h)

    asked-on : (d now : Course) (taken : Option Sent) (w : World) (more : List Sent) → Comes d now taken w → w.sent ≡ d.world.sent ++ more → In asking d.world.sent → In asking now.world.sent
    asked-on d now taken w more comes e i = subst (λ l. In asking l) (sym (ap (λ (z : World). z.sent) comes.world ∙ e)) (in-first asking d.world.sent more i)

    begins-on : (d now : Course) (taken : Option Sent) (w : World) (more : List Sent) → Comes d now taken w → w.sent ≡ d.world.sent ++ more → NoneBegins more → NoBegin d.world.sent d.waiting → NoBegin now.world.sent now.waiting
    begins-on d now taken w more comes e new h y q = by (comes.back more e y q)
      where
        by : Waits d.world.sent d.waiting y ⊎ Has y more → is_begin_message y.1 ≡ false
        by (inl k) = h y k
        by (inr k) = new y k

    -- it is handed over, or asks on
    before-on : (d now : Course) (k : ℕ) (taken : Option Sent) (w : World) (more : List Sent) → IsGood d → (comes : Comes d now taken w) → d.waiting ≡ k ∷ comes.still → w.sent ≡ d.world.sent ++ more → NoneBegins more → Before d.world.sent d.waiting asking
        → ((slice_get d.world.sent k ≡ Some asking) × NoBegin d.world.sent d.waiting) ⊎ Before now.world.sent now.waiting asking
    before-on d now k taken w more g comes first e new b = by (first-before d.world.sent k comes.still asking refl (subst (λ l. Before d.world.sent l asking) first b))
      where
        below : are_below (length d.world.sent) comes.still ≡ true
        below = let all = subst (λ l. are_below (length d.world.sent) l ≡ true) first g.talking.sound.below in grind (arith, all)

        by : ((slice_get d.world.sent k ≡ Some asking) × NoBegin d.world.sent (k ∷ comes.still)) ⊎ Before d.world.sent comes.still asking → ((slice_get d.world.sent k ≡ Some asking) × NoBegin d.world.sent d.waiting) ⊎ Before now.world.sent now.waiting asking
        by (inl p) = inl (p.0, subst (λ l. NoBegin d.world.sent l) (sym first) p.1)
        by (inr q) = inr (subst (λ l. Before l now.waiting asking) (sym (ap (λ (z : World). z.sent) comes.world ∙ e)) (subst (λ l. Before (d.world.sent ++ more) l asking) (sym (comes.numbers more e)) (before-more d.world.sent more comes.still asking below q new)))

    -- ---- a client takes a message

    module _ (d now : Course) (k : ℕ) (e : ClientNo) (message : Message) (g : IsGood d) (is : slice_get d.world.sent k ≡ Some (Client e, message))
        (comes : Comes d now (Some (Client e, message)) (taken_by e k (take_row (d.world.clients e) message) d.world)) (first : d.waiting ≡ k ∷ comes.still) where
      abbrev more : List Sent
      more = sent_with (take_row (d.world.clients e) message).1

      sent-more : (taken_by e k (take_row (d.world.clients e) message) d.world).sent ≡ d.world.sent ++ more
      sent-more = took-sent e k (take_row (d.world.clients e) message).0 (take_row (d.world.clients e) message).1 d.world

      is-thanks : (y : Sent) → Has y more → is_thanks y.1 ≡ true
      is-thanks y h = thanks-has more y (take-thanks (d.world.clients e) message) h

      same : now.world.memory ≡ d.world.memory
      same = took-same d now k e message comes

      same-found : now.world.found ≡ d.world.found
      same-found = ap (λ (z : World). z.found) comes.world ∙ took-found e k (take_row (d.world.clients e) message).0 (take_row (d.world.clients e) message).1 d.world

      longer : Longer d.world now.world
      longer = subst (λ (z : World). Longer d.world z) (sym comes.world) (took-longer e k (take_row (d.world.clients e) message).0 (take_row (d.world.clients e) message).1 d.world)

      server-waits : (s : ServerNo) (r : Message) → Waits d.world.sent d.waiting (Server s, r) → Waits now.world.sent now.waiting (Server s, r)
      server-waits s r w = by (comes.waits (Server s, r) w)
        where
          by : IsIt (Client e, message) (Server s, r) ⊎ Waits now.world.sent now.waiting (Server s, r) → Waits now.world.sent now.waiting (Server s, r)
          by (inl q) = absurd (other-party e s message r q)
          by (inr w) = w

      clients-are : now.world.clients ≡ at_client d.world.clients e (take_row (d.world.clients e) message).0
      clients-are = ap (λ (z : World). z.clients) comes.world ∙ took-clients e k (take_row (d.world.clients e) message).0 (take_row (d.world.clients e) message).1 d.world

      -- the line that it reports
      told-line : (long : before ≤ length d.world.lines) (line : Text) (answer : Option Sent) → (take_row (d.world.clients e) message).1 ≡ taken.Told line answer → tells_outcome T line ≡ true → IsTold now.world
      told-line long line answer q h = subst (λ l. list_any (tells_outcome T) (drop before l) ≡ true) (sym (ap (λ (z : World). z.lines) comes.world ∙ ap (λ (z : Taken). (took e k (take_row (d.world.clients e) message).0 z d.world).lines) q))
          (any-drop-new (tells_outcome T) before d.world.lines (line ∷ []) long (grind (arith, h)))

      -- a client in the transaction stays in it, or it is reported, or has committed
      in-on : before ≤ length d.world.lines → (c : ClientNo) → IsIn T (d.world.clients c) → IsTold now.world ⊎ (IsIn T (now.world.clients c) ⊎ ((c ≡ e) × (message ≡ messages.Outcome e T outcomes.Committed)))
      in-on long c i = by (client_tells e c)
        where
          stays-so : now.world.clients c ≡ d.world.clients c → IsIn T (now.world.clients c)
          stays-so q = subst (λ (z : ClientTable). IsIn T z) (sym q) i

          mine : (p : e ≡ c) → TookIn T (d.world.clients e) message → IsTold now.world ⊎ (IsIn T (now.world.clients c) ⊎ ((c ≡ e) × (message ≡ messages.Outcome e T outcomes.Committed)))
          mine p (same_table q) = inr (inl (stays-so (ap (λ f. f c) clients-are ∙ ap (λ (b : Bool). if b then (take_row (d.world.clients e) message).0 else d.world.clients c) own ∙ q ∙ ap d.world.clients p)))
            where
              own : client_eq e c ≡ true
              own = grind (arith, nat_tests, p)
          mine p (told_abort line answer q h) = inl (told-line long line answer q h)
          mine p (told_commit q) = inr (inr (sym p, q ∙ ap (λ (z : ClientNo). messages.Outcome z T outcomes.Committed) (g.talking.talks e).name))

          by : ((client_eq e c ≡ true) × (e ≡ c)) ⊎ ((client_eq e c ≡ false) × (e ≢ c)) → IsTold now.world ⊎ (IsIn T (now.world.clients c) ⊎ ((c ≡ e) × (message ≡ messages.Outcome e T outcomes.Committed)))
          by (inl p) = mine p.1 (take-in T (d.world.clients e) (subst (λ (z : ClientNo). IsIn T (d.world.clients z)) (sym p.1) i) message)
          by (inr p) = inr (inl (stays-so (ap (λ f. f c) clients-are ∙ ap (λ (b : Bool). if b then (take_row (d.world.clients e) message).0 else d.world.clients c) p.0)))

      committed-said : message ≡ messages.Outcome e T outcomes.Committed → In (Client e, messages.Outcome e T outcomes.Committed) d.world.sent
      committed-said q = subst (λ (z : Message). In (Client e, z) d.world.sent) q (get-in d.world.sent k (Client e, message) is)

      client-voice : before ≤ length d.world.lines → Voice d → IsTold now.world ⊎ Voice now
      client-voice long (nobody off) = inr (nobody (off-on T d now (Some (Client e, message)) _ more comes sent-more (λ y h. thanks-off T y.1 (is-thanks y h)) off))
      client-voice long (named h) = inr (named (line-on d.world now.world longer h))
      client-voice long (its_client c i) = by (in-on long c i)
        where
          by : IsTold now.world ⊎ (IsIn T (now.world.clients c) ⊎ ((c ≡ e) × (message ≡ messages.Outcome e T outcomes.Committed))) → IsTold now.world ⊎ Voice now
          by (inl h) = inl h
          by (inr (inl j)) = inr (its_client c j)
          by (inr (inr q)) = inr (named (line-on d.world now.world longer (sym (named-line d g) ∙ says-true d g _ (committed-said q.1))))

      client-moves : before ≤ length d.world.lines → Way d → IsTold now.world ⊎ Way now
      client-moves long (asks b) = by (before-on d now k (Some (Client e, message)) _ more g comes first sent-more (λ y h. thanks-begins y.1 (is-thanks y h)) b)
        where
          by : ((slice_get d.world.sent k ≡ Some asking) × NoBegin d.world.sent d.waiting) ⊎ Before now.world.sent now.waiting asking → IsTold now.world ⊎ Way now
          by (inl p) = absurd (other-party e T.server message (messages.Inquire T W) (sym is ∙ p.0))
          by (inr b) = inr (asks b)
      client-moves long (drops_it w) = inr (drops_it (server-waits W.server (messages.Drop T W) w))
      client-moves long (commits_it w) = inr (commits_it (server-waits W.server (messages.Commit T W) w))
      client-moves long (goes_on h) = inr (goes_on (ap (λ f. goes_in (stable (f W.server)) W) same-found ∙ h))
      client-moves long (over h) = inr (over (still-gone d now same h))
      client-moves long (held h none) = inr (held (ap (λ f. holds_undecided (f T.server) T) same ∙ h) (begins-on d now (Some (Client e, message)) _ more comes sent-more (λ y h. thanks-begins y.1 (is-thanks y h)) none))
      client-moves long (tells c cause i w) = by (comes.waits (Client c, messages.Outcome c T (outcomes.Aborted cause)) w) (in-on long c i)
        where
          said : In (Client c, messages.Outcome c T (outcomes.Aborted cause)) d.world.sent
          said = get-in d.world.sent w.number _ w.is

          by : IsIt (Client e, message) (Client c, messages.Outcome c T (outcomes.Aborted cause)) ⊎ Waits now.world.sent now.waiting (Client c, messages.Outcome c T (outcomes.Aborted cause))
              → IsTold now.world ⊎ (IsIn T (now.world.clients c) ⊎ ((c ≡ e) × (message ≡ messages.Outcome e T outcomes.Committed))) → IsTold now.world ⊎ Way now
          by z (inl h) = inl h
          by z (inr (inr q)) = absurd (not-both-told d g c e cause said (committed-said q.1))
          by (inr w) (inr (inl j)) = inr (tells c cause j w)
          by (inl z) (inr (inl j)) = mine (same-client e c message _ z)
            where
              mine : (e ≡ c) × (message ≡ messages.Outcome c T (outcomes.Aborted cause)) → IsTold now.world ⊎ Way now
              mine p = inl (on (take-aborts T (d.world.clients c) i c cause (g.talking.talks c).name))
                where
                  on : (line : Text) × (answer : Option Sent) × ((take_row (d.world.clients c) (messages.Outcome c T (outcomes.Aborted cause))).1 ≡ taken.Told line answer) × (tells_outcome T line ≡ true) → IsTold now.world
                  on a = told-line long a.0 a.1 (ap (λ (z : ClientNo). (take_row (d.world.clients z) message).1) p.0 ∙ ap (λ (z : Message). (take_row (d.world.clients c) z).1) p.1 ∙ a.2) a.3

      pub client-decides : OnWay d → OnWay now
      client-decides h = record { long = long-on d.world now.world longer h.long; asked = asked-on d now (Some (Client e, message)) _ more comes sent-more h.asked; state = by h.state }
        where
          by : IsTold d.world ⊎ (Way d × Voice d) → IsTold now.world ⊎ (Way now × Voice now)
          by (inl q) = inl (told-on d.world now.world longer q)
          by (inr p) = both now (client-moves h.long p.0) (client-voice h.long p.1)

    -- ---- a server takes one

    module _ (d now : Course) (k : ℕ) (room : Room) (s : ServerNo) (message : Message) (m : Memory) (g : IsGood d) (is : slice_get d.world.sent k ≡ Some (Server s, message)) (up : d.world.memory s ≡ Some m)
        (comes : Comes d now (Some (Server s, message)) (done s (Some k) (server_row m (stable (d.world.found s)) room message) d.world)) (first : d.waiting ≡ k ∷ comes.still) where
      abbrev row : RowOutcome Memory
      row = server_row m (stable (d.world.found s)) room message

      abbrev Meets : ServerNo → Message → Type 0
      Meets q r = (s ≡ q) × (message ≡ r)

      new-waits : (x : Sent) → Has x row.messages → Waits now.world.sent now.waiting x
      new-waits x h = comes.new row.messages refl x h

      still-or : (q : ServerNo) (r : Message) → Waits d.world.sent d.waiting (Server q, r) → Meets q r ⊎ Waits now.world.sent now.waiting (Server q, r)
      still-or q r w = by (comes.waits (Server q, r) w)
        where
          by : IsIt (Server s, message) (Server q, r) ⊎ Waits now.world.sent now.waiting (Server q, r) → Meets q r ⊎ Waits now.world.sent now.waiting (Server q, r)
          by (inl e) = inl (same-server s q message r e)
          by (inr w) = inr w

      here-now : (q : ServerNo) → s ≡ q → now.world.memory q ≡ Some row.table
      here-now q e = ap (λ (z : World). z.memory q) comes.world ∙ ap (λ (b : Bool). if b then Some row.table else d.world.memory q) (itself s q e)

      clients-same : now.world.clients ≡ d.world.clients
      clients-same = ap (λ (z : World). z.clients) comes.world

      longer-now : Longer d.world now.world
      longer-now = record { more = lines_of s (Some k) row.notes; is = ap (λ (z : World). z.lines) comes.world }

      found-now : goes_in (stable (now.world.found W.server)) W ≡ goes_in (if server_eq s W.server then made_all row.changes (stable (d.world.found s)) else stable (d.world.found W.server)) W
      found-now = ap (λ (z : World). goes_in (stable (z.found W.server)) W) comes.world ∙ by (server_eq s W.server)
        where
          by : (b : Bool) → is_going ((if b then made_all row.changes (d.world.found s (λ n. false)) else d.world.found W.server (λ n. false)).works W) ≡ goes_in (if b then made_all row.changes (stable (d.world.found s)) else stable (d.world.found W.server)) W
          by true = refl
          by false = refl

      goes-still : goes_in (stable (d.world.found W.server)) W ≡ true → goes_in (stable (now.world.found W.server)) W ≡ true
      goes-still q = found-now ∙ by (server_tells s W.server)
        where
          by : ((server_eq s W.server ≡ true) × (s ≡ W.server)) ⊎ ((server_eq s W.server ≡ false) × (s ≢ W.server)) → goes_in (if server_eq s W.server then made_all row.changes (stable (d.world.found s)) else stable (d.world.found W.server)) W ≡ true
          by (inl p) = ap (λ (b : Bool). goes_in (if b then made_all row.changes (stable (d.world.found s)) else stable (d.world.found W.server)) W) p.0
              ∙ message-on files epochs d.world (reached d g) s m room message W up (ap (λ (z : ServerNo). goes_in (stable (d.world.found z)) W) p.1 ∙ q)
          by (inr p) = ap (λ (b : Bool). goes_in (if b then made_all row.changes (stable (d.world.found s)) else stable (d.world.found W.server)) W) p.0 ∙ q

      -- it isn't live any more
      gone-now : In asking d.world.sent → s ≡ W.server → work_at W row.table.worker ≡ None → NotLive now.world W
      gone-now asked e none = record { memory = row.table; up = here-now W.server e; none = none; old = old-row d now k room s message m g up comes e (its-old d g asked m (ap d.world.memory (sym e) ∙ up)) }

      drop-comes : In asking d.world.sent → Meets W.server (messages.Drop T W) → Way now
      drop-comes asked i = by (drop-leads files epochs d.world (reached d g) T W m room (ap d.world.memory (sym i.0) ∙ up))
        where
          by : (work_at W (server_row m (stable (d.world.found W.server)) room (messages.Drop T W)).table.worker ≡ None) ⊎ (goes_in (stable (d.world.found W.server)) W ≡ true) → Way now
          by (inl none) = over (gone-now asked i.0 (ap (λ (z : ServerNo). work_at W (server_row m (stable (d.world.found z)) room message).table.worker) i.0 ∙ ap (λ z. work_at W (server_row m (stable (d.world.found W.server)) room z).table.worker) i.1 ∙ none))
          by (inr q) = goes_on (goes-still q)

      commit-comes : In asking d.world.sent → Meets W.server (messages.Commit T W) → Way now
      commit-comes asked i = by (commit-leads files epochs d.world (reached d g) (broken d g) s m room T W (sym i.0) up said.0 said.1.1)
        where
          said : Says (machine files epochs d.world (reached d g)) (messages.Commit T W)
          said = says-true d g (Server s, messages.Commit T W) (subst (λ (z : Message). In (Server s, z) d.world.sent) i.1 (get-in d.world.sent k (Server s, message) is))

          by : Led files epochs d.world (reached d g) s m room T W → Way now
          by (over_now none has) = over (gone-now asked i.0 (none-row d now k room s message m g up comes i.0 (its-old d g asked m (ap d.world.memory (sym i.0) ∙ up)) none))
          by (goes_now q) = goes_on (found-now ∙ ap (λ (b : Bool). goes_in (if b then made_all row.changes (stable (d.world.found s)) else stable (d.world.found W.server)) W) (itself s W.server i.0)
              ∙ ap (λ z. goes_in (made_all (server_row m (stable (d.world.found s)) room z).changes (stable (d.world.found s))) W) i.1 ∙ q)

      -- its coordinator is asked
      inquire-comes : NoBegin d.world.sent d.waiting → Meets T.server (messages.Inquire T W) → Way now
      inquire-comes none i = by (transaction_at T m.coordinator.transactions) refl
        where
          row-is : row ≡ of_coordinator m (inquire_row m.coordinator m.tickets T W (transaction_at T m.coordinator.transactions))
          row-is = ap (λ z. server_row m (stable (d.world.found s)) room z) i.1

          dropping : row ≡ of_coordinator m (dropped m.coordinator m.tickets T W) → Way now
          dropping e = drops_it (new-waits _ (subst (λ (z : RowOutcome Memory). Has (Server W.server, messages.Drop T W) z.messages) (sym e) (inl refl)))

          waiting : (x : Transaction) → transaction_at T m.coordinator.transactions ≡ Some x → is_undecided x.stage ≡ true → row.table.coordinator ≡ m.coordinator → Way now
          waiting x found u e = held (ap (λ o. holds_undecided o T) (here-now T.server i.0) ∙ ap (λ (z : CoordinatorTable). is_held (transaction_at T z.transactions)) e ∙ ap is_held found ∙ u)
              (begins-on d now (Some (Server s, message)) _ row.messages comes refl (row-begins m (stable (d.world.found s)) room message) none)

          stage : (x : Transaction) → transaction_at T m.coordinator.transactions ≡ Some x → (z : Stage) → x.stage ≡ z → row ≡ of_coordinator m (told_stage m.coordinator m.tickets T W z) → Way now
          stage x found Open q e = waiting x found (ap is_undecided q) (ap (λ (z : RowOutcome Memory). z.table.coordinator) e)
          stage x found (Voting b) q e = waiting x found (ap is_undecided q) (ap (λ (z : RowOutcome Memory). z.table.coordinator) e)
          stage x found (Aborted cause) q e = dropping e
          stage x found (Committed c) q e = on (is_work W c.works && not (is_work W c.done)) e
            where
              on : (b : Bool) → row ≡ of_coordinator m (if b then record { table = m.coordinator; changes = []; messages = commits T (W ∷ []); notes = []; tickets = m.tickets } else dropped m.coordinator m.tickets T W) → Way now
              on true e = commits_it (new-waits _ (subst (λ (z : RowOutcome Memory). Has (Server W.server, messages.Commit T W) z.messages) (sym e) (inl refl)))
              on false e = dropping e

          by : (o : Option Transaction) → transaction_at T m.coordinator.transactions ≡ o → Way now
          by None e = dropping (row-is ∙ ap (λ o. of_coordinator m (inquire_row m.coordinator m.tickets T W o)) e)
          by (Some x) e = stage x e x.stage refl (row-is ∙ ap (λ o. of_coordinator m (inquire_row m.coordinator m.tickets T W o)) e)

      -- it waits here
      here-waits : Waits d.world.sent d.waiting (Server s, message)
      here-waits = record { number = k; waits = ap (list_any (nat_eq k)) first ∙ own k (list_any (nat_eq k) comes.still); is = is }
        where
          own : (k : ℕ) (b : Bool) → (nat_eq k k || b) ≡ true
          own k b = grind (arith, nat_tests)

      -- the undecided transaction stays so, or is decided
      module _ (long : before ≤ length d.world.lines) (none : NoBegin d.world.sent d.waiting) (voice : Voice d) where
        held-so : holds_undecided (now.world.memory T.server) T ≡ true → IsTold now.world ⊎ Way now
        held-so h = inr (held h (begins-on d now (Some (Server s, message)) _ row.messages comes refl (row-begins m (stable (d.world.found s)) room message) none))

        module _ (e : s ≡ T.server) (x : Transaction) (found : transaction_at T m.coordinator.transactions ≡ Some x) (u : is_undecided x.stage ≡ true) where
          up-here : d.world.memory T.server ≡ Some m
          up-here = sym (ap d.world.memory e) ∙ up

          held-by : (y : Transaction) → transaction_at T row.table.coordinator.transactions ≡ Some y → is_undecided y.stage ≡ true → IsTold now.world ⊎ Way now
          held-by y q v = held-so (ap (λ o. holds_undecided o T) (here-now T.server e) ∙ ap is_held q ∙ v)

          moved : (r : RowOutcome CoordinatorTable) → row ≡ of_coordinator m r → (c : ClientNo) → IsIn T (d.world.clients c) → (stage : Stage) → transaction_at T r.table.transactions ≡ Some (record x { stage = stage }) → Move x r.messages r.notes stage → IsTold now.world ⊎ Way now
          unfolding longer-now
          moved r q c i stage f (starts b z) = held-by _ (ap (λ (z : RowOutcome Memory). transaction_at T z.table.coordinator.transactions) q ∙ f) refl
          moved r q c i stage f (notes_one b V z) = held-by _ (ap (λ (z : RowOutcome Memory). transaction_at T z.table.coordinator.transactions) q ∙ f) refl
          moved r q c i stage f (commits_now z v told has works) = inl (told-new d.world now.world longer-now long (note-told s (Some k) T row.notes (subst (λ (z : RowOutcome Memory). In (notes.Commit T) z.notes) (sym q) (subst (λ (U : Tid). In (notes.Commit U) r.notes) (tid-name T m.coordinator.transactions x found) told))))
          moved r q c i stage f (aborts_now cause v has) = inr (tells c cause (subst (λ g. IsIn T (g c)) (sym clients-same) i) (new-waits _ (subst (λ (z : RowOutcome Memory). Has (Client c, messages.Outcome c T (outcomes.Aborted cause)) z.messages) (sym q)
              (subst (λ (z : ClientNo). Has (Client z, messages.Outcome z T (outcomes.Aborted cause)) r.messages) (its-client n at_most (opening n files epochs) files epochs d c T m x g.talking i.current up-here found)
              (subst (λ (U : Tid). Has (Client x.client, messages.Outcome x.client U (outcomes.Aborted cause)) r.messages) (tid-name T m.coordinator.transactions x found) has)))))
          moved r q c i stage f (finishes z later w a b v) = absurd (true≢false (sym u ∙ ap is_undecided w))

          by-fate : (r : RowOutcome CoordinatorTable) → row ≡ of_coordinator m r → (c : ClientNo) → IsIn T (d.world.clients c) → Fate T x m.coordinator message r → IsTold now.world ⊎ Way now
          by-fate r q c i (stays f) = held-by x (ap (λ (z : RowOutcome Memory). transaction_at T z.table.coordinator.transactions) q ∙ f) u
          by-fate r q c i (moves stage f move) = moved r q c i stage f move
          by-fate r q c i (forgets f v) = absurd (true≢false (sym u ∙ v))
          by-fate r q c i (closes z f l v w) = absurd (true≢false (sym (ap is_begin_message f) ∙ none (Server s, message) here-waits))

          at-coordinator : row ≡ of_coordinator m (coordinator_row m.coordinator room.free.records m.tickets message) → Voice d → IsTold now.world ⊎ Way now
          at-coordinator q (nobody off) = held-by x (ap (λ (z : RowOutcome Memory). transaction_at T z.table.coordinator.transactions) q
              ∙ row-kept (machine files epochs d.world (reached d g)) T.server m.coordinator room.free.records m.tickets (let R = reached d g in R.mirrors.transactions T.server m up-here) T x found message (off (Server s, message) here-waits) (none (Server s, message) here-waits) u) u
          at-coordinator q (its_client c i) = by-fate _ q c i (row-fate (machine files epochs d.world (reached d g)) T.server m.coordinator room.free.records m.tickets (let R = reached d g in R.mirrors.transactions T.server m up-here) T x found (not-next files epochs d.world (reached d g) T m x up-here found) message)
          at-coordinator q (named h) = absurd (undecided-new d g m x up-here found u h)

          at-server : IsTold now.world ⊎ Way now
          at-server = row-either (λ z. row ≡ z → IsTold now.world ⊎ Way now) m (stable (d.world.found s)) room message
              (λ q. held-by x (ap (λ (z : RowOutcome Memory). transaction_at T z.table.coordinator.transactions) q ∙ found) u) (λ q. at-coordinator q voice) refl

        held-on : holds_undecided (d.world.memory T.server) T ≡ true → IsTold now.world ⊎ Way now
        held-on h = by (server_tells s T.server)
          where
            at : (o : Option Transaction) → transaction_at T m.coordinator.transactions ≡ o → is_held o ≡ true → s ≡ T.server → IsTold now.world ⊎ Way now
            at None q v e = absurd (true≢false (sym v))
            at (Some x) q v e = at-server e x q v

            by : ((server_eq s T.server ≡ true) × (s ≡ T.server)) ⊎ ((server_eq s T.server ≡ false) × (s ≢ T.server)) → IsTold now.world ⊎ Way now
            by (inl p) = at (transaction_at T m.coordinator.transactions) refl (ap (λ o. holds_undecided o T) (sym up ∙ ap d.world.memory p.1) ∙ h) p.1
            by (inr p) = held-so (ap (λ o. holds_undecided o T) (ap (λ (z : World). z.memory T.server) comes.world ∙ ap (λ (b : Bool). if b then Some row.table else d.world.memory T.server) p.0) ∙ h)

      server-voice : Voice d → Voice now
      server-voice (nobody off) = nobody (off-on T d now (Some (Server s, message)) _ row.messages comes refl (off-has T row.messages (row-off T m (stable (d.world.found s)) room message (off (Server s, message) here-waits))) off)
      server-voice (its_client c i) = its_client c (subst (λ f. IsIn T (f c)) (sym clients-same) i)
      server-voice (named h) = named (line-on d.world now.world longer-now h)

      server-moves : before ≤ length d.world.lines → In asking d.world.sent → Voice d → Way d → IsTold now.world ⊎ Way now
      server-moves long asked voice (asks b) = by (before-on d now k (Some (Server s, message)) _ row.messages g comes first refl (row-begins m (stable (d.world.found s)) room message) b)
        where
          by : ((slice_get d.world.sent k ≡ Some asking) × NoBegin d.world.sent d.waiting) ⊎ Before now.world.sent now.waiting asking → IsTold now.world ⊎ Way now
          by (inl p) = inr (inquire-comes p.1 (same-server s T.server message (messages.Inquire T W) (sym is ∙ p.0)))
          by (inr b) = inr (asks b)
      server-moves long asked voice (drops_it w) = by (still-or W.server (messages.Drop T W) w)
        where
          by : Meets W.server (messages.Drop T W) ⊎ Waits now.world.sent now.waiting (Server W.server, messages.Drop T W) → IsTold now.world ⊎ Way now
          by (inl i) = inr (drop-comes asked i)
          by (inr w) = inr (drops_it w)
      server-moves long asked voice (commits_it w) = by (still-or W.server (messages.Commit T W) w)
        where
          by : Meets W.server (messages.Commit T W) ⊎ Waits now.world.sent now.waiting (Server W.server, messages.Commit T W) → IsTold now.world ⊎ Way now
          by (inl i) = inr (commit-comes asked i)
          by (inr w) = inr (commits_it w)
      server-moves long asked voice (goes_on q) = inr (goes_on (goes-still q))
      server-moves long asked voice (over q) = inr (over (server-gone d now k room s message m g up comes q))
      server-moves long asked voice (held h none) = held-on long none voice h
      server-moves long asked voice (tells c cause i w) = by (comes.waits (Client c, messages.Outcome c T (outcomes.Aborted cause)) w)
        where
          by : IsIt (Server s, message) (Client c, messages.Outcome c T (outcomes.Aborted cause)) ⊎ Waits now.world.sent now.waiting (Client c, messages.Outcome c T (outcomes.Aborted cause)) → IsTold now.world ⊎ Way now
          by (inl q) = absurd (other-party c s _ message (sym q))
          by (inr w) = inr (tells c cause (subst (λ f. IsIn T (f c)) (sym clients-same) i) w)

      pub server-decides : OnWay d → OnWay now
      server-decides h = record { long = long-on d.world now.world longer-now h.long; asked = asked-on d now (Some (Server s, message)) _ row.messages comes refl h.asked; state = by h.state }
        where
          by : IsTold d.world ⊎ (Way d × Voice d) → IsTold now.world ⊎ (Way now × Voice now)
          by (inl q) = inl (told-on d.world now.world longer-now q)
          by (inr p) = both now (server-moves h.long h.asked p.1 p.0) (inr (server-voice p.1))

    -- ---- a server works, where nothing waits

    pub nothing-waits : (d : Course) (x : Sent) → d.waiting ≡ [] → Waits d.world.sent d.waiting x → ⊥
    nothing-waits d x e w = true≢false (sym w.waits ∙ ap (λ l. list_any (nat_eq w.number) l) e)

    pub nothing-before : (d : Course) (x : Sent) → d.waiting ≡ [] → Before d.world.sent d.waiting x → ⊥
    nothing-before d x e b = no b.ahead (sym e ∙ b.split)
      where
        no : (a : List ℕ) → [] ≡ a ++ b.number ∷ b.behind → ⊥
        no [] q = cc
        no (k ∷ a) q = cc

    module _ (d now : Course) (s : ServerNo) (m : Memory) (v : Work) (g : IsGood d) (e : d.waiting ≡ []) (up : d.world.memory s ≡ Some m) (there : work_at v.name m.worker ≡ Some v) (comes : Comes d now None (done s None (carried m d.world s v) d.world)) where
      abbrev its-row : Option Intention → RowOutcome WorkerTable
      its-row o = carried_row m.worker m.tickets v o

      abbrev intention : Option Intention
      intention = slice_get (intentions_of ((stable (d.world.found s)).works v.name)) (m.next v.name)

      one-done : (o : Option Intention) (y : Sent) → Has y (its-row o).messages → (is_about T y.1 ≡ false) × (is_begin_message y.1 ≡ false)
      one-done (Some i) y k = absurd k
      one-done None y (inl q) = subst (λ (z : Sent). (is_about T z.1 ≡ false) × (is_begin_message z.1 ≡ false)) q (refl, refl)
      one-done None y (inr k) = absurd k

      longer-work : Longer d.world now.world
      longer-work = record { more = lines_of s None (carried m d.world s v).notes; is = ap (λ (z : World). z.lines) comes.world }

      coordinator-same : (o : Option Intention) → (of_worker m (its-row o)).table.coordinator ≡ m.coordinator
      coordinator-same None = refl
      coordinator-same (Some i) = refl

      found-then : goes_in (stable (now.world.found W.server)) W ≡ goes_in (if server_eq s W.server then made_all (its-row intention).changes (stable (d.world.found s)) else stable (d.world.found W.server)) W
      found-then = ap (λ (z : World). goes_in (stable (z.found W.server)) W) comes.world ∙ by (server_eq s W.server)
        where
          by : (b : Bool) → is_going ((if b then made_all (its-row intention).changes (d.world.found s (λ n. false)) else d.world.found W.server (λ n. false)).works W) ≡ goes_in (if b then made_all (its-row intention).changes (stable (d.world.found s)) else stable (d.world.found W.server)) W
          by true = refl
          by false = refl

      goes-then : In asking d.world.sent → goes_in (stable (d.world.found W.server)) W ≡ true → Way now
      goes-then asked q = by (server_tells s W.server)
        where
          there-then : s ≡ W.server → (x : StableState) → goes_in (if server_eq s W.server then x else stable (d.world.found W.server)) W ≡ goes_in x W
          there-then p x = ap (λ (b : Bool). goes_in (if b then x else stable (d.world.found W.server)) W) (itself s W.server p)

          carries : s ≡ W.server → goes_in (stable (d.world.found s)) W ≡ true → (o : Option Intention) → intention ≡ o → Way now
          carries p h (Some i) f = goes_on (found-then ∙ there-then p (made_all (its-row intention).changes (stable (d.world.found s))) ∙ ap (λ z. goes_in (made_all (its-row z).changes (stable (d.world.found s))) W) f ∙ h)
          carries p h None f = on (work_tells v.name W)
            where
              on : ((work_eq v.name W ≡ true) × (v.name ≡ W)) ⊎ ((work_eq v.name W ≡ false) × (v.name ≢ W)) → Way now
              on (inr z) = goes_on (found-then ∙ there-then p (made_all (its-row intention).changes (stable (d.world.found s))) ∙ ap (λ z. goes_in (made_all (its-row z).changes (stable (d.world.found s))) W) f
                  ∙ ap (λ (b : Bool). is_going (if b then None else (stable (d.world.found s)).works W)) z.0 ∙ h)
              on (inl z) = over (record {
                memory = (carried m d.world s v).table;
                up = work-memory d now s m v g up comes W.server ∙ ap (λ (b : Bool). if b then Some (carried m d.world s v).table else d.world.memory W.server) (itself s W.server p);
                none = ap (λ o. work_at W (its-row o).table) f ∙ less;
                old = (the-row d now s m v g up comes p old).given;
              })
                where
                  old : IsOld W m.tickets
                  old = its-old d g asked m (ap d.world.memory (sym p) ∙ up)

                  own : work_eq v.name W ≡ true
                  own = z.0

                  less : work_at W (without v.name m.worker) ≡ None
                  less = at-less W v.name m.worker (up-at files epochs d.world (reached d g) s m up).table.rising ∙ ap (λ (b : Bool). if b then None else work_at W m.worker) own

          by : ((server_eq s W.server ≡ true) × (s ≡ W.server)) ⊎ ((server_eq s W.server ≡ false) × (s ≢ W.server)) → Way now
          by (inl p) = carries p.1 (ap (λ (z : ServerNo). goes_in (stable (d.world.found z)) W) p.1 ∙ q) intention refl
          by (inr p) = goes_on (found-then ∙ ap (λ (b : Bool). goes_in (if b then made_all (its-row intention).changes (stable (d.world.found s)) else stable (d.world.found W.server)) W) p.0 ∙ q)

      work-voice : Voice d → Voice now
      work-voice (nobody off) = nobody (off-on T d now None _ (its-row intention).messages comes refl (λ y k. (one-done intention y k).0) off)
      work-voice (its_client c i) = its_client c (subst (λ f. IsIn T (f c)) (sym (ap (λ (z : World). z.clients) comes.world)) i)
      work-voice (named h) = named (line-on d.world now.world longer-work h)

      work-moves : In asking d.world.sent → Way d → Way now
      work-moves asked (asks b) = absurd (nothing-before d asking e b)
      work-moves asked (drops_it w) = absurd (nothing-waits d _ e w)
      work-moves asked (commits_it w) = absurd (nothing-waits d _ e w)
      work-moves asked (tells c cause i w) = absurd (nothing-waits d _ e w)
      work-moves asked (over h) = over (work-gone d now s m v g up comes h)
      work-moves asked (goes_on q) = goes-then asked q
      work-moves asked (held h none) = held (by (server_tells s T.server)) (begins-on d now None _ (its-row intention).messages comes refl (λ y k. (one-done intention y k).1) none)
        where
          by : ((server_eq s T.server ≡ true) × (s ≡ T.server)) ⊎ ((server_eq s T.server ≡ false) × (s ≢ T.server)) → holds_undecided (now.world.memory T.server) T ≡ true
          by (inl p) = ap (λ o. holds_undecided o T) (work-memory d now s m v g up comes T.server ∙ ap (λ (b : Bool). if b then Some (carried m d.world s v).table else d.world.memory T.server) (itself s T.server p.1))
              ∙ ap (λ (z : CoordinatorTable). is_held (transaction_at T z.transactions)) (coordinator-same intention) ∙ ap (λ o. holds_undecided o T) (sym up ∙ ap d.world.memory p.1) ∙ h
          by (inr p) = ap (λ o. holds_undecided o T) (work-memory d now s m v g up comes T.server ∙ ap (λ (b : Bool). if b then Some (carried m d.world s v).table else d.world.memory T.server) p.0) ∙ h

      pub work-decides : OnWay d → OnWay now
      work-decides h = record { long = long-on d.world now.world longer-work h.long; asked = asked-on d now None _ (its-row intention).messages comes refl h.asked; state = by h.state }
        where
          by : IsTold d.world ⊎ (Way d × Voice d) → IsTold now.world ⊎ (Way now × Voice now)
          by (inl q) = inl (told-on d.world now.world longer-work q)
          by (inr p) = inr (work-moves h.asked p.0, work-voice p.1)
