-- A Begin is answered: its request was not seen before, or the reply to it still waits.
use Rattle.jn_system_settling.proofs.Common.{Text, Message, ◌≡◌, ◌⊎◌, inl, inr, ◌≤◌, ◌<◌, ℕ, suc, ◌+◌, Bool, true, false, List, [], ◌∷◌, ◌++◌, length, length-append, Option, Some, None, true≢false, refl, sym, ◌∙◌, ap, subst, arith, ◌&&◌, if◌then◌else◌, nat_lt, nat_eq, slice_get, list_any, nat_tests, slice_get_within, ServerNo, ClientNo, Tid, Client, client_eq, AllFiles, Outstanding, Taken, Ignored, Transaction, Open, Pick, stable, RowOutcome, Sent, ignored_row, CoordinatorTable, after_closing, changes_of_closing, begin_new, begin_again, begun_by, seen_now, name_from, ClientTable, take_row, is_begin, if_waits, begun_row, over, World, Memory, Room, server_row, Step, Deliver, StopDelivery, IsStep, after, handed, Course, numbered, without_number, still_waiting, go, RequestNo, request_eq, request_of, one-client, ClientRow, by_command, by_ignoring, by_answering, by_telling, StepCase, client_row, dismissed, step-case, Grows, grows, Left}
use Rattle.jn_msgs.specs.declared.message.Message.TheVariants as messages
use Rattle.jn_system_settling.proofs.Settling.Burdens.{get-more}
use Rattle.jn_system_settling.proofs.Settling.Courses.{waiting-is}
use Rattle.jn_system_settling.proofs.AtRest.Talk.{take-still}
use Rattle.jn_system_settling.proofs.AtRest.Ways.{any-left, any-right, Has, IsEnd, Reply, Answering, any-without, handed-taken}
use Rattle.jn_system_settling.proofs.AtRest.Requests.{Past, SeenFits, GoesOn, waits_on, waits_not, waits_anew, stays}
use Rattle.jn_system_settling.proofs.AtRest.RequestSteps.{Requests, CommandsAs, commands-as, still-on, take-next, requests-go, has-at}
use Rattle.jn_system_settling.proofs.AtRest.Answered.{Talking, go-talking}

-- a client that doesn't wait for the answer to this request
abbrev pub NotWaited : ClientTable → RequestNo → Type 0
NotWaited t q = (o : Outstanding) → t.outstanding ≡ Some o → o.request ≡ q → ⊥

-- each reply to a Begin waits, or its client doesn't wait for it
pub record RepliesWait (d : Course) : Type 0 where
  pub each : (k : ℕ) (c : ClientNo) (q : RequestNo) (a : Option Tid) → slice_get d.world.sent k ≡ Some (Client c, messages.Begun c q a) → (list_any (nat_eq k) d.waiting ≡ true) ⊎ NotWaited (d.world.clients c) q

in-numbered : (n : ℕ) (ys : List Sent) (k : ℕ) → n ≤ k → k < n + length ys → list_any (nat_eq k) (numbered n ys) ≡ true
in-numbered n [] k l h = absurd (omega (arith, l, h))
in-numbered n (y ∷ ys) k l h = by (nat_eq k n) refl (in-numbered (n + 1) ys k)
  where
    by : (b : Bool) → nat_eq k n ≡ b → (n + 1 ≤ k → k < n + 1 + length ys → list_any (nat_eq k) (numbered (n + 1) ys) ≡ true) → list_any (nat_eq k) (n ∷ numbered (n + 1) ys) ≡ true
    by true e again = grind (arith, e)
    by false e again = let on = again (grind (arith, nat_tests, e, l)) (omega (arith, h)) in grind (arith, on)

-- what a client takes as the reply to the Begin that it waits for
begun-taken : (t : ClientTable) (q : RequestNo) (a : Option Tid) → ((o : Outstanding) → t.outstanding ≡ Some o → o.request ≡ q → is_begin o.command ≡ true) → NotWaited (take_row t (messages.Begun t.client q a)).0 q
begun-taken t q a begins = by t.outstanding refl
  where
    test : Outstanding → Bool
    test p = client_eq t.client t.client && (request_eq p.request q && is_begin p.command)

    row : ℕ → ClientTable × Taken
    row j = begun_row t j a

    same : (o p : Outstanding) → Some o ≡ Some p → o ≡ p
    same o p e = cc

    none : (p : Outstanding) → None ≡ Some p → ⊥
    none p e = cc

    over : (a : Option Tid) (j : ℕ) → (begun_row t j a).0.outstanding ≡ None
    over (Some T) j = refl
    over None j = refl

    tested : (o : Outstanding) → t.outstanding ≡ Some o → (b : Bool) → request_eq o.request q ≡ b → NotWaited (if test o then row o.event else (t, Ignored)).0 q
    tested o e true is = subst (λ (b : Bool). NotWaited (if b then row o.event else (t, Ignored)).0 q) (sym (passes (begins o e (grind (arith, nat_tests, is))))) (λ p k r. none p (sym (over a o.event) ∙ k))
      where
        passes : is_begin o.command ≡ true → test o ≡ true
        passes it = grind (arith, nat_tests, it, is)
    tested o e false is = subst (λ (b : Bool). NotWaited (if b then row o.event else (t, Ignored)).0 q) (sym fails) (λ p k r. other p (same o p (sym e ∙ k)) r)
      where
        fails : test o ≡ false
        fails = grind (arith, is)

        other : (p : Outstanding) → o ≡ p → p.request ≡ q → ⊥
        other p f r = true≢false (sym (grind (arith, nat_tests, ap (λ (z : Outstanding). z.request) f, r)) ∙ is)

    by : (o : Option Outstanding) → t.outstanding ≡ o → NotWaited (if_waits t o test row).0 q
    by None e = λ p k r. none p (sym e ∙ k)
    by (Some o) e = tested o e (request_eq o.request q) refl

begun-ends : (t : ClientTable) (o : Outstanding) (a : Option Tid) → t.outstanding ≡ Some o → is_begin o.command ≡ true → IsEnd t (messages.Begun t.client o.request a)
begun-ends t o a e begins = ap (λ z. (if_waits t z test row).0.outstanding) e ∙ ap (λ (b : Bool). (if b then row o.event else (t, Ignored)).0.outstanding) passes ∙ over a
  where
    test : Outstanding → Bool
    test p = client_eq t.client t.client && (request_eq p.request o.request && is_begin p.command)

    row : ℕ → ClientTable × Taken
    row j = begun_row t j a

    passes : test o ≡ true
    passes = grind (arith, nat_tests, begins)

    over : (a : Option Tid) → (begun_row t o.event a).0.outstanding ≡ None
    over (Some T) = refl
    over None = refl

module _ (n : ℕ) (at_most : n ≤ 8) (start : World) (files : AllFiles) (epochs : ServerNo → ℕ) where
  -- all that is said of what is waited for
  pub record Good (d : Course) : Type 0 where
    pub talking : Talking n at_most start files epochs d
    pub requests : Requests d.world
    pub replies : RepliesWait d

  module _ (d : Course) (h : Good d) where
    abbrev w : World
    w = d.world

    took-on : (c : ClientNo) (message : Message) (t : ClientTable) (r : Taken) → take_row (w.clients c) message ≡ (t, r) → GoesOn (w.clients c) t
    took-on c message t r is = subst (λ (z : ClientTable × Taken). GoesOn (w.clients c) z.0) is (still-on (w.clients c) (take_row (w.clients c) message).0 (take-next (w.clients c) message) (take-still (w.clients c) message))

    row-on : (step : Step) (c : ClientNo) (t : ClientTable) (sent : List Sent) (lines : List Text) → ClientRow w c step t sent lines → GoesOn (w.clients c) t
    row-on _ c _ _ _ (by_command command t to message is) = let shape = subst (CommandsAs (w.clients c)) is (commands-as (w.clients c) w.event command) in
        waits_anew (let l = shape.next in omega (arith, l)) shape.waits shape.outstanding shape.request
    row-on _ c _ _ _ (by_ignoring k room stop message t e is) = took-on c message t _ is
    row-on _ c _ _ _ (by_answering k room stop message t to answer e is) = took-on c message t _ is
    row-on _ c _ _ _ (by_telling k room stop message t line answer e is) = took-on c message t _ is

    -- each client goes on
    goes-on : (step : Step) (now : World) → StepCase w step now → (e : ClientNo) → GoesOn (w.clients e) (now.clients e)
    goes-on step _ (client_row _ c t sent lines row) e = one-client (λ d z. GoesOn (w.clients d) z) w.clients c t (row-on step c t sent lines row) (λ d other. stays w.clients d) e
    goes-on _ _ dismissed e = still-on (w.clients e) (over (w.clients e)) refl (inr refl)
    goes-on _ _ is e = stays w.clients e

    not-waited-on : (t now : ClientTable) (q : RequestNo) → GoesOn t now → q.0 < t.next → NotWaited t q → NotWaited now q
    not-waited-on t now q (waits_on l e) below h = λ o is at. h o (sym e ∙ is) at
    not-waited-on t now q (waits_not l e) below h = λ o is at. none o (sym e ∙ is)
      where
        none : (o : Outstanding) → None ≡ Some o → ⊥
        none o z = cc
    not-waited-on t now q (waits_anew l p e new) below h = λ o is at. let one = ap (λ (z : Outstanding). z.request.0) (same o (sym e ∙ is)) in let its = ap (λ (z : RequestNo). z.0) at in omega (arith, new, one, its, below)
      where
        same : (o : Outstanding) → Some p ≡ Some o → p ≡ o
        same o z = cc

    -- a reply that is handed over
    taken-not : (k : ℕ) (room : Room) (stop : Option (Pick → Left)) (c : ClientNo) (q : RequestNo) (a : Option Tid) → slice_get w.sent k ≡ Some (Client c, messages.Begun c q a) → NotWaited ((handed k room stop (slice_get w.sent k) w).clients c) q
    taken-not k room stop c q a e = subst (λ o. NotWaited ((handed k room stop o w).clients c) q) (sym e) (subst (λ (z : ClientTable). NotWaited z q) (sym (handed-taken c k room stop (messages.Begun c q a) w))
        (subst (λ z. NotWaited (take_row (w.clients c) (messages.Begun z q a)).0 q) (h.talking.talks c).name (begun-taken (w.clients c) q a (subst (λ z. (o : Outstanding) → (w.clients z).outstanding ≡ Some o → o.request ≡ q → is_begin o.command ≡ true) refl past.1))))
      where
        past : Past true w.clients c q
        past = h.requests.sent (Client c, messages.Begun c q a) (has-at w.sent k (Client c, messages.Begun c q a) e)

    replies-go : (step : Step) → RepliesWait (go step d)
    replies-go step = record { each = λ k c q a e. by k c q a e (grows w step) (nat_lt k (length w.sent)) refl }
      where
        below : (k : ℕ) → nat_lt k (length w.sent) ≡ true → k < length w.sent
        below k e = grind (arith, nat_tests, e)

        above : (k : ℕ) → nat_lt k (length w.sent) ≡ false → length w.sent ≤ k
        above k e = grind (arith, nat_tests, e)

        left : (k : ℕ) → list_any (nat_eq k) (still_waiting step d.waiting) ≡ true → list_any (nat_eq k) (go step d).waiting ≡ true
        left k e = subst (λ ks. list_any (nat_eq k) ks ≡ true) (sym (waiting-is n at_most start d step (grows w step).new (grows w step).sent)) (any-left (nat_eq k) (still_waiting step d.waiting) _ e)

        -- one that waited waits on, or is handed over now
        hands : (k : ℕ) (c : ClientNo) (q : RequestNo) (a : Option Tid) → slice_get w.sent k ≡ Some (Client c, messages.Begun c q a) → list_any (nat_eq k) d.waiting ≡ true → (j : ℕ) (room : Room) (stop : Option (Pick → Left)) (b : Bool) → nat_eq k j ≡ b
            → (list_any (nat_eq k) (without_number j d.waiting) ≡ true) ⊎ NotWaited ((handed j room stop (slice_get w.sent j) w).clients c) q
        hands k c q a e waits j room stop false ne = inl (any-without j k d.waiting waits ne)
        hands k c q a e waits j room stop true is = inr (subst (λ i. NotWaited ((handed i room stop (slice_get w.sent i) w).clients c) q) (grind (arith, nat_tests, is)) (taken-not k room stop c q a e))

        onward : (step : Step) (k : ℕ) (c : ClientNo) (q : RequestNo) (a : Option Tid) → slice_get w.sent k ≡ Some (Client c, messages.Begun c q a) → list_any (nat_eq k) d.waiting ≡ true
            → (list_any (nat_eq k) (still_waiting step d.waiting) ≡ true) ⊎ NotWaited ((after step w).clients c) q
        onward (Deliver j room) k c q a e waits = hands k c q a e waits j room None (nat_eq k j) refl
        onward (StopDelivery j room made) k c q a e waits = hands k c q a e waits j room (Some made) (nat_eq k j) refl
        onward step k c q a e waits = inl waits

        by : (k : ℕ) (c : ClientNo) (q : RequestNo) (a : Option Tid) → slice_get (after step w).sent k ≡ Some (Client c, messages.Begun c q a) → (g : Grows w (after step w)) → (b : Bool) → nat_lt k (length w.sent) ≡ b
            → (list_any (nat_eq k) (go step d).waiting ≡ true) ⊎ NotWaited ((after step w).clients c) q
        by k c q a e g true l = old (h.replies.each k c q a was)
          where
            was : slice_get w.sent k ≡ Some (Client c, messages.Begun c q a)
            was = sym (get-more w.sent g.new k (below k l)) ∙ ap (λ xs. slice_get xs k) (sym g.sent) ∙ e

            past : Past true w.clients c q
            past = h.requests.sent (Client c, messages.Begun c q a) (has-at w.sent k (Client c, messages.Begun c q a) was)

            old : (list_any (nat_eq k) d.waiting ≡ true) ⊎ NotWaited (w.clients c) q → (list_any (nat_eq k) (go step d).waiting ≡ true) ⊎ NotWaited ((after step w).clients c) q
            old (inr not) = inr (not-waited-on (w.clients c) ((after step w).clients c) q (goes-on step (after step w) (step-case w step) c) past.0 not)
            old (inl waits) = on (onward step k c q a was waits)
              where
                on : (list_any (nat_eq k) (still_waiting step d.waiting) ≡ true) ⊎ NotWaited ((after step w).clients c) q → (list_any (nat_eq k) (go step d).waiting ≡ true) ⊎ NotWaited ((after step w).clients c) q
                on (inl x) = inl (left k x)
                on (inr x) = inr x
        by k c q a e g false l = inl (subst (λ ks. list_any (nat_eq k) ks ≡ true) (sym (waiting-is n at_most start d step g.new g.sent)) (any-right (nat_eq k) (still_waiting step d.waiting) (numbered (length w.sent) g.new) (in-numbered (length w.sent) g.new k (above k l) within)))
          where
            within : k < length w.sent + length g.new
            within = let inside = slice_get_within (after step w).sent k _ e in let long = ap length g.sent ∙ length-append w.sent g.new in omega (arith, inside, long)

  pub good-go : (d : Course) (step : Step) → Good d → IsStep step d.world → Good (go step d)
  good-go d step h i = record {
    talking = go-talking n at_most start files epochs d step h.talking i;
    requests = requests-go n at_most start files epochs d h.talking h.requests step;
    replies = replies-go d h step;
  }

  -- ---- the reply

  has-number : (xs : List Sent) (x : Sent) → Has x xs → (k : ℕ) × (slice_get xs k ≡ Some x)
  has-number [] x h = absurd h
  has-number (y ∷ ys) x (inl e) = (0, ap (λ z. Some z) e)
  has-number (y ∷ ys) x (inr h) = let on = has-number ys x h in (suc on.0, on.1)

  pub begin-reply : (d : Course) (c : ClientNo) (o : Outstanding) (s : ServerNo) (m : Memory) (room : Room) → Good d → (d.world.clients c).outstanding ≡ Some o → is_begin o.command ≡ true → d.world.memory s ≡ Some m
      → Reply c (d.world.clients c) (server_row m (stable (d.world.found s)) room (messages.Begin (d.world.clients c).client o.request)).messages ⊎ Answering c (d.world.clients c) d
  begin-reply d c o s m room h e begins up = by (nat_lt (m.coordinator.seen me) o.request.0) refl (nat_eq (m.coordinator.seen me) o.request.0) refl (begun_by me o.request m.coordinator.transactions)
    where
      me : ClientNo
      me = (d.world.clients c).client

      name : (d.world.clients c).client ≡ c
      name = (h.talking.talks c).name

      Result : List Sent → Type 0
      Result sent = Reply c (d.world.clients c) sent ⊎ Answering c (d.world.clients c) d

      told : (a : Option Tid) → Reply c (d.world.clients c) ((Client (d.world.clients c).client, messages.Begun (d.world.clients c).client o.request a) ∷ [])
      told a = record { message = messages.Begun (d.world.clients c).client o.request a; has = inl (ap (λ z. (Client z, messages.Begun (d.world.clients c).client o.request a)) name); ends_it = begun-ends (d.world.clients c) o a e begins }

      last : (1 ≤ o.request.0) × (o.request.0 + 1 ≡ (d.world.clients c).next)
      last = (h.requests.draws c).latest o e

      seen : SeenFits d.world.clients d.world.sent c (m.coordinator.seen c)
      seen = (h.requests.servers s).seen m up c

      -- nothing later than what it waits for was seen
      no-later : m.coordinator.seen c ≤ o.request.0
      no-later = fits seen
        where
          fits : SeenFits d.world.clients d.world.sent c (m.coordinator.seen c) → m.coordinator.seen c ≤ o.request.0
          fits (inl z) = let l = last.0 in omega (arith, z, l)
          fits (inr (inl p)) = let one = p.0 in let two = last.1 in omega (arith, one, two)
          fits (inr (inr b)) = let p = h.requests.sent (Client c, messages.Begun c (request_of (m.coordinator.seen c)) b.answer) b.has in let one = p.0 in let two = last.1 in omega (arith, one, two)

      -- what it waits for was seen: the reply waits
      waits : m.coordinator.seen c ≡ o.request.0 → Answering c (d.world.clients c) d
      waits is = fits seen
        where
          fits : SeenFits d.world.clients d.world.sent c (m.coordinator.seen c) → Answering c (d.world.clients c) d
          fits (inl z) = let l = last.0 in absurd (omega (arith, z, l, is))
          fits (inr (inl p)) = absurd (true≢false (sym begins ∙ p.1 o e (ap request_of (sym is))))
          fits (inr (inr b)) = found (has-number d.world.sent (Client c, messages.Begun c (request_of (m.coordinator.seen c)) b.answer) b.has)
            where
              found : (k : ℕ) × (slice_get d.world.sent k ≡ Some (Client c, messages.Begun c (request_of (m.coordinator.seen c)) b.answer)) → Answering c (d.world.clients c) d
              found x = on (h.replies.each x.0 c (request_of (m.coordinator.seen c)) b.answer x.1)
                where
                  on : (list_any (nat_eq x.0) d.waiting ≡ true) ⊎ NotWaited (d.world.clients c) (request_of (m.coordinator.seen c)) → Answering c (d.world.clients c) d
                  on (inl k) = record {
                    message = messages.Begun c (request_of (m.coordinator.seen c)) b.answer;
                    waits = record { number = x.0; waits = k; is = x.1 };
                    ends_it = subst (λ z. IsEnd (d.world.clients c) (messages.Begun z (request_of (m.coordinator.seen c)) b.answer)) name (subst (λ z. IsEnd (d.world.clients c) (messages.Begun (d.world.clients c).client z b.answer)) (ap request_of (sym is)) (begun-ends (d.world.clients c) o b.answer e begins));
                  }
                  on (inr not) = absurd (not o e (ap request_of (sym is)))

      seen-me : m.coordinator.seen (d.world.clients c).client ≡ m.coordinator.seen c
      seen-me = ap m.coordinator.seen name

      by : (a : Bool) → nat_lt (m.coordinator.seen (d.world.clients c).client) o.request.0 ≡ a → (b : Bool) → nat_eq (m.coordinator.seen (d.world.clients c).client) o.request.0 ≡ b → (y : Option Transaction)
          → Result (if a then begin_new (record { transactions = after_closing (d.world.clients c).client m.coordinator.transactions; seen = seen_now m.coordinator.seen (d.world.clients c).client o.request }) (changes_of_closing (d.world.clients c).client m.coordinator.transactions) m.tickets (d.world.clients c).client o.request
          else (if b then begin_again m.coordinator m.tickets (d.world.clients c).client o.request y else ignored_row m.coordinator m.tickets)).messages
      by true l b k y = new (nat_lt (length (after_closing (d.world.clients c).client m.coordinator.transactions)) 64)
        where
          new : (z : Bool) → Result (if◌then◌else◌ {A = RowOutcome CoordinatorTable} z (record { table = record { transactions = after_closing (d.world.clients c).client m.coordinator.transactions ++ (record { tid = name_from m.tickets; client = (d.world.clients c).client; begun = Some o.request; stage = Open }) ∷ []; seen = seen_now m.coordinator.seen (d.world.clients c).client o.request }; changes = changes_of_closing (d.world.clients c).client m.coordinator.transactions; messages = (Client (d.world.clients c).client, messages.Begun (d.world.clients c).client o.request (Some (name_from m.tickets))) ∷ []; notes = []; tickets = record m.tickets { next = m.tickets.next + 1 } }) (record { table = record { transactions = after_closing (d.world.clients c).client m.coordinator.transactions; seen = seen_now m.coordinator.seen (d.world.clients c).client o.request }; changes = changes_of_closing (d.world.clients c).client m.coordinator.transactions; messages = (Client (d.world.clients c).client, messages.Begun (d.world.clients c).client o.request None) ∷ []; notes = []; tickets = m.tickets })).messages
          new true = inl (told (Some (name_from m.tickets)))
          new false = inl (told None)
      by false l true k (Some y) = inl (told (Some y.tid))
      by false l true k None = inr (waits (sym seen-me ∙ grind (arith, nat_tests, k)))
      by false l false k y = absurd (let top = no-later in let same = seen-me in grind (arith, nat_tests, l, k))
