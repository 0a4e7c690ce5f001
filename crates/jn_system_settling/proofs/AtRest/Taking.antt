-- A client that waits for the outcome of its transaction is told of it, or goes on waiting.
use Rattle.jn_system_settling.proofs.Common.{◌≡◌, ◌≢◌, ◌⊎◌, inl, inr, ℕ, Bool, true, false, List, [], ◌∷◌, length, Option, Some, None, true≢false, refl, sym, ◌∙◌, ap, subst, arith, nat_tests, ◌&&◌, if◌then◌else◌, nat_eq, nat_lt, ClientNo, Tid, WorkId, Tickets, Cause, Server, Command, End, Abort, client_eq, tid_eq, client_tells, tid_tells, Message, Outcome, Text, Outstanding, Taken, Transaction, Stage, Open, Voting, Committed, Aborted, StableState, RowOutcome, Sent, CoordinatorTable, after_closing, begun_by, begin_again, coordinator_row, ClientTable, is_begin, is_operation, is_end, is_end_or_abort, told, over, opens, is_tid, is_current, if_waits, outcome_row, take_row, Memory, Room, storage_of, server_row, tells_outcome, request_eq, row-either}
use Rattle.jn_msgs.specs.declared.message.Message.TheVariants as messages
use Rattle.jn_msgs.specs.declared.message.Outcome.TheVariants as outcomes
use Rattle.jn_report.specs.declared.line.Text.TheVariants as says
use Rattle.jn_rows.specs.declared.client.Taken.TheVariants as taken
use Rattle.jn_system_settling.proofs.Settling.ClientFits.{sent_with}
use Rattle.jn_system_settling.proofs.AtRest.Ways.{Has}
use Rattle.jn_system_settling.proofs.AtRest.Votes.{VoteOf, EndOf, Votings, RowVotes, coordinator-votes, is_begin_message, worker-plain}
use Rattle.jn_system_settling.proofs.AtRest.About.{is_about, are_off, worker-off, coordinator-off}
use Rattle.jn_system_settling.proofs.AtRest.Order.{NoneBegins, plain-begins}

-- ---- what is sent for a message

abbrev pub is_thanks : Message → Bool
is_thanks (messages.Thanks c T) = true
is_thanks m = false

abbrev pub are_thanks : List Sent → Bool
are_thanks [] = true
are_thanks (x ∷ xs) = is_thanks x.1 && are_thanks xs

pub take-thanks : (t : ClientTable) (m : Message) → are_thanks (sent_with (take_row t m).1) ≡ true
take-thanks t (messages.Begun c request answer) = grind arith
take-thanks t (messages.Opened c request T answer) = grind arith
take-thanks t (messages.Answer c request answer) = grind arith
take-thanks t (messages.Outcome c T outcome) = grind arith
take-thanks t m = refl

pub thanks-has : (xs : List Sent) (y : Sent) → are_thanks xs ≡ true → Has y xs → is_thanks y.1 ≡ true
thanks-has [] y h k = absurd k
thanks-has (x ∷ xs) y h (inl e) = subst (λ (z : Sent). is_thanks z.1 ≡ true) e (grind (arith, h))
thanks-has (x ∷ xs) y h (inr k) = thanks-has xs y (grind (arith, h)) k

pub thanks-off : (T : Tid) (m : Message) → is_thanks m ≡ true → is_about T m ≡ false
thanks-off T m h = grind arith

pub thanks-begins : (m : Message) → is_thanks m ≡ true → is_begin_message m ≡ false
thanks-begins m h = grind arith

-- what holds of a row that begins nothing, whatever was asked
plain-row : (t : CoordinatorTable) (free : ℕ) (k : Tickets) (m : Message) → is_begin_message m ≡ false → RowVotes (λ c q. Unit {0}) t (coordinator_row t free k m)
plain-row t free k m b = coordinator-votes (λ c q. Unit {0}) t free k m (trivial t.transactions) (any-end m) b
  where
    vote : (c : ClientNo) (s : Stage) → VoteOf (λ c q. Unit {0}) c s
    vote c Open = tt
    vote c (Voting b) = tt
    vote c (Committed d) = tt
    vote c (Aborted cause) = tt

    trivial : (xs : List Transaction) → Votings (λ c q. Unit {0}) xs
    trivial [] = tt
    trivial (x ∷ xs) = (vote x.client x.stage, trivial xs)

    any-end : (m : Message) → EndOf (λ c q. Unit {0}) t m
    any-end (messages.End c q T Ws) = λ y e. tt
    any-end m = tt

choose : (b : Bool) (p q : RowOutcome CoordinatorTable) → NoneBegins p.messages → NoneBegins q.messages → NoneBegins (if b then p else q).messages
choose true p q h l = h
choose false p q h l = l

-- no server begins a transaction
pub row-begins : (m : Memory) (x : StableState) (room : Room) (message : Message) → NoneBegins (server_row m x room message).messages
row-begins m x room message = row-either (λ row. NoneBegins row.messages) m x room message (plain-begins _ (worker-plain m.worker (storage_of m x room) m.tickets message)) (on (is_begin_message message) refl)
  where
    one : (z : Sent) → is_begin_message z.1 ≡ false → NoneBegins (z ∷ [])
    one z h y (inl e) = subst (λ (v : Sent). is_begin_message v.1 ≡ false) e h
    one z h y (inr k) = absurd k

    none : NoneBegins []
    none y k = absurd k

    begins : (message : Message) → is_begin_message message ≡ true → NoneBegins (coordinator_row m.coordinator room.free.records m.tickets message).messages
    begins (messages.Begin c q) e = choose (nat_lt (m.coordinator.seen c) q.0) _ _ (choose (nat_lt (length (after_closing c m.coordinator.transactions)) 64) _ _ (one _ refl) (one _ refl))
        (choose (nat_eq (m.coordinator.seen c) q.0) _ _ (again (begun_by c q m.coordinator.transactions)) none)
      where
        again : (o : Option Transaction) → NoneBegins (begin_again m.coordinator m.tickets c q o).messages
        again None = none
        again (Some y) = one _ refl
    begins message e = absurd (true≢false (sym e))

    on : (b : Bool) → is_begin_message message ≡ b → NoneBegins (coordinator_row m.coordinator room.free.records m.tickets message).messages
    on true e = begins message e
    on false e = plain-begins _ (plain-row m.coordinator room.free.records m.tickets message e).plain

-- nor does it send about what the message isn't about
pub row-off : (T : Tid) (m : Memory) (x : StableState) (room : Room) (message : Message) → is_about T message ≡ false → are_off T (server_row m x room message).messages ≡ true
row-off T m x room message h = row-either (λ row. are_off T row.messages ≡ true) m x room message (worker-off T m.worker (storage_of m x room) m.tickets message h).off (coordinator-off T m.coordinator room.free.records m.tickets message h).off

-- ---- a client in its transaction

pub record IsIn (T : Tid) (t : ClientTable) : Type 0 where
  pub command : Outstanding
  pub waits : t.outstanding ≡ Some command
  pub closing : is_end_or_abort command.command ≡ true
  pub current : t.transaction ≡ Some T

pub data TookIn (T : Tid) (t : ClientTable) (m : Message) : Type 0 where
  same_table : (take_row t m).0 ≡ t → TookIn T t m
  told_abort : (line : Text) (more : Option Sent) → (take_row t m).1 ≡ taken.Told line more → tells_outcome T line ≡ true → TookIn T t m
  told_commit : m ≡ messages.Outcome t.client T outcomes.Committed → TookIn T t m

module _ (T : Tid) (t : ClientTable) (i : IsIn T t) where
  fits-not : (test : Outstanding → Bool) (row : ℕ → ClientTable × Taken) → test i.command ≡ false → (if_waits t t.outstanding test row).0 ≡ t
  fits-not test row h = ap (λ z. (if_waits t z test row).0) i.waits ∙ ap (λ (b : Bool). (if◌then◌else◌ {A = ClientTable × Taken} b (row i.command.event) (t, taken.Ignored)).0) h

  no-begin : (c : Command) → is_end_or_abort c ≡ true → is_begin c ≡ false
  no-begin End h = refl
  no-begin Abort h = refl
  no-begin c h = absurd (true≢false (sym h))

  no-operation : (c : Command) → is_end_or_abort c ≡ true → is_operation c ≡ false
  no-operation End h = refl
  no-operation Abort h = refl
  no-operation c h = absurd (true≢false (sym h))

  no-open : (answer : Option WorkId) (c : Command) → is_end_or_abort c ≡ true → opens answer c ≡ false
  no-open None End h = refl
  no-open None Abort h = refl
  no-open (Some W) End h = refl
  no-open (Some W) Abort h = refl
  no-open answer c h = absurd (true≢false (sym h))

  false-third : (a b c : Bool) → c ≡ false → (a && (b && c)) ≡ false
  false-third a b c h = grind (arith, h)

  current-is : (U : Tid) → is_current t U ≡ tid_eq U T
  current-is U = ap (λ z. is_tid U z) i.current

  outcome-takes : (U : Tid) (outcome : Outcome) → (take_row t (messages.Outcome t.client U outcome)) ≡ outcome_row t U outcome → (b : Bool) → tid_eq U T ≡ b → (U ≡ T) ⊎ (tid_eq U T ≡ false) → TookIn T t (messages.Outcome t.client U outcome)
  outcome-takes U outcome row b e tells = by outcome b e row
    where
      waits-now : (test : Outstanding → Bool) (row : ℕ → ClientTable × Taken) → test i.command ≡ true → if_waits t t.outstanding test row ≡ row i.command.event
      waits-now test row h = ap (λ z. if_waits t z test row) i.waits ∙ ap (λ (b : Bool). if◌then◌else◌ {A = ClientTable × Taken} b (row i.command.event) (t, taken.Ignored)) h

      cut : (b : Bool) → tid_eq U T ≡ b → (p q : ClientTable × Taken) → (if is_current t U then p else q) ≡ (if b then p else q)
      cut b e p q = ap (λ (b : Bool). if◌then◌else◌ {A = ClientTable × Taken} b p q) (current-is U ∙ e)

      it : (U ≡ T) ⊎ (tid_eq U T ≡ false) → tid_eq U T ≡ true → U ≡ T
      it (inl q) h = q
      it (inr q) h = absurd (true≢false (sym h ∙ q))

      by : (outcome : Outcome) (b : Bool) → tid_eq U T ≡ b → (take_row t (messages.Outcome t.client U outcome)) ≡ outcome_row t U outcome → TookIn T t (messages.Outcome t.client U outcome)
      by outcomes.Committed true e row = told_commit (ap (λ (V : Tid). messages.Outcome t.client V outcomes.Committed) (it tells e))
      by outcomes.Committed false e row = same_table (ap (λ z. z.0) (row ∙ cut false e _ _))
      by (outcomes.Aborted cause) true e row = told_abort _ _ (ap (λ z. z.1) (row ∙ cut true e _ _ ∙ waits-now _ _ i.closing)) e
      by (outcomes.Aborted cause) false e row = same_table (ap (λ z. z.0) (row ∙ cut false e _ _))
      by (outcomes.NotKnown s epoch) true e row = told_abort _ _ (ap (λ z. z.1) (row ∙ cut true e _ _ ∙ waits-now _ _ i.closing)) e
      by (outcomes.NotKnown s epoch) false e row = same_table (ap (λ z. z.0) (row ∙ cut false e _ _))
      by (outcomes.Waiting s u held) false e row = same_table (ap (λ z. z.0) (row ∙ cut false e _ _))
      by (outcomes.Waiting s u held) true e row = same_table (ap (λ z. z.0) (row ∙ cut true e _ _) ∙ either t.outstanding)
        where
          either : (z : Option Outstanding) → (if_waits t z (λ p. is_end p.command) (λ j. told t (says.Waiting t.client j s u held))).0 ≡ t
          either None = refl
          either (Some p) = on (is_end p.command)
            where
              on : (b : Bool) → (if b then told t (says.Waiting t.client p.event s u held) else (t, taken.Ignored)).0 ≡ t
              on true = refl
              on false = refl

  pub take-in : (m : Message) → TookIn T t m
  take-in (messages.Begun c q a) = same_table (fits-not _ _ (false-third (client_eq c t.client) (request_eq i.command.request q) (is_begin i.command.command) (no-begin i.command.command i.closing)))
  take-in (messages.Opened c q U a) = same_table (fits-not _ _ (false-third (client_eq c t.client) (request_eq i.command.request q) (is_current t U && opens a i.command.command) (both (is_current t U) (opens a i.command.command) (no-open a i.command.command i.closing))))
    where
      both : (a b : Bool) → b ≡ false → (a && b) ≡ false
      both a b h = grind (arith, h)
  take-in (messages.Answer c q a) = same_table (fits-not _ _ (false-third (client_eq c t.client) (request_eq i.command.request q) (is_operation i.command.command) (no-operation i.command.command i.closing)))
  take-in (messages.Outcome c U outcome) = by (client_tells c t.client)
    where
      tell : ((tid_eq U T ≡ true) × (U ≡ T)) ⊎ ((tid_eq U T ≡ false) × (U ≢ T)) → (U ≡ T) ⊎ (tid_eq U T ≡ false)
      tell (inl p) = inl p.1
      tell (inr p) = inr p.0

      own : client_eq t.client t.client ≡ true
      own = grind (arith, client_tells t.client t.client)

      by : ((client_eq c t.client ≡ true) × (c ≡ t.client)) ⊎ ((client_eq c t.client ≡ false) × (c ≢ t.client)) → TookIn T t (messages.Outcome c U outcome)
      by (inl p) = subst (λ (z : ClientNo). TookIn T t (messages.Outcome z U outcome)) (sym p.1) (outcome-takes U outcome (ap (λ (b : Bool). if◌then◌else◌ {A = ClientTable × Taken} b (outcome_row t U outcome) (t, taken.Ignored)) own) (tid_eq U T) refl (tell (tid_tells U T)))
      by (inr p) = same_table (ap (λ (b : Bool). (if◌then◌else◌ {A = ClientTable × Taken} b (outcome_row t U outcome) (t, taken.Ignored)).0) p.0)
  take-in m = same_table refl

  -- its abort is reported
  pub take-aborts : (c : ClientNo) (cause : Cause) → t.client ≡ c → (line : Text) × (answer : Option Sent) × ((take_row t (messages.Outcome c T (outcomes.Aborted cause))).1 ≡ taken.Told line answer) × (tells_outcome T line ≡ true)
  take-aborts c cause name = (
    _,
    _,
    ap (λ (b : Bool). (if◌then◌else◌ {A = ClientTable × Taken} b (outcome_row t T (outcomes.Aborted cause)) (t, taken.Ignored)).1) own
        ∙ ap (λ (b : Bool). (if◌then◌else◌ {A = ClientTable × Taken} b (if_waits t t.outstanding (λ p. is_end_or_abort p.command) line) (t, taken.Send (Server T.server) (messages.Thanks t.client T))).1) (current-is T ∙ itself)
        ∙ ap (λ z. (if_waits t z (λ p. is_end_or_abort p.command) line).1) i.waits ∙ ap (λ (b : Bool). (if◌then◌else◌ {A = ClientTable × Taken} b (line i.command.event) (t, taken.Ignored)).1) i.closing,
    itself,
  )
    where
      itself : tid_eq T T ≡ true
      itself = grind (arith, tid_tells T T)

      own : client_eq c t.client ≡ true
      own = grind (arith, nat_tests, name)

      line : ℕ → ClientTable × Taken
      line j = (over t, taken.Told (says.Aborted t.client j T cause) (Some (Server T.server, messages.Thanks t.client T)))
