-- Each operation that a client waits for is on its way after every run.
use Rattle.jn_system_settling.proofs.Common.{◌≡◌, ◌⊎◌, inl, inr, ◌≤◌, ℕ, Bool, true, false, List, [], ◌∷◌, ◌++◌, Option, Some, None, true≢false, refl, sym, ◌∙◌, ap, subst, arith, if◌then◌else◌, slice_get, nat_eq, list_any, nat_tests, ServerNo, ClientNo, WorkId, Client, Server, server_eq, Op, Answer, Command, Do, Message, Text, AllFiles, Taken, Pick, Left, stable, Sent, Outstanding, ClientTable, take_row, is_operation, World, Memory, Room, server_row, opening, Step, Deliver, StopDelivery, IsStep, IsRun, after, at_memory, handed, handing, still_waiting, Course, opening_course, go, go_on, ClientRow, by_command, by_ignoring, by_answering, by_telling, StepCase, client_row, dismissed, step-case, one-client, IsAddressed, active_in, OperationNo, ActiveWork, Says, IsOutstanding, IsActive}
use Rattle.jn_base.specs.declared.op.Command.TheVariants as commands
use Rattle.jn_msgs.specs.declared.message.Message.TheVariants as messages
use Rattle.jn_system_settling.specs.AtRest.Calls.{IsOnItsWay, asks, answered, is_over, AreOnTheirWay}
use Rattle.jn_system_settling.proofs.AtRest.Talk.{IsStill, FitsCommand, take-still}
use Rattle.jn_system_settling.proofs.AtRest.Ways.{Has, Waits, any-without, still-waits, now-waits, handed-taken}
use Rattle.jn_system_settling.proofs.AtRest.RequestSteps.{CommandsAs, commands-as}
use Rattle.jn_system_settling.proofs.AtRest.Begins.{Good, good-go}
use Rattle.jn_system_settling.proofs.AtRest.Operations.{Answers, answer-ends, op-answers}
use Rattle.jn_system_settling.proofs.AtRest.Standing.{machine}
use Rattle.jn_system_settling.proofs.AtRest.Untaken.{next-untaken, untaken-is, untaken-active}
use Rattle.jn_system_settling.proofs.AtRest.Settling.{course-twin, course-talking}

same-outstanding : (o p : Outstanding) → Some o ≡ Some p → o ≡ p
same-outstanding o p e = cc

none-outstanding : (o : Outstanding) → None ≡ Some o → ⊥
none-outstanding o e = cc

operation-is : (command : Command) → is_operation command ≡ true → (s : ServerNo) × ((op : Op) × (command ≡ Do s op))
operation-is (commands.Do s op) h = (s, (op, refl))
operation-is command h = absurd (true≢false (sym h))

same-server : (s q : ServerNo) → q ≡ s → server_eq s q ≡ true
same-server s q e = grind (arith, nat_tests, e)

-- ---- what a client waits for after a step it waited for before, or its message was sent now

abbrev Told : World → World → Outstanding → Type 0
Told w now o = (more : List Sent) × ((now.sent ≡ w.sent ++ more) × Has (o.to, o.message) more)

module _ (w : World) where
  taken-was : (c : ClientNo) (message : Message) (t : ClientTable) (r : Taken) → take_row (w.clients c) message ≡ (t, r) → (o : Outstanding) → t.outstanding ≡ Some o
      → (w.clients c).outstanding ≡ Some o
  taken-was c message t r is o e = by (subst (λ (z : ClientTable × Taken). IsStill (w.clients c) z.0) is (take-still (w.clients c) message))
    where
      by : IsStill (w.clients c) t → (w.clients c).outstanding ≡ Some o
      by (inl q) = ap (λ (z : ClientTable). z.outstanding) (sym q) ∙ e
      by (inr q) = absurd (none-outstanding o (sym q ∙ e))

  row-was : (step : Step) (c : ClientNo) (t : ClientTable) (sent : List Sent) (lines : List Text) → ClientRow w c step t sent lines → (o : Outstanding) → t.outstanding ≡ Some o
      → ((w.clients c).outstanding ≡ Some o) ⊎ ((more : List Sent) × ((sent ≡ w.sent ++ more) × Has (o.to, o.message) more))
  row-was _ c _ _ _ (by_command command t to message is) o e = inr ((to, message) ∷ [], (refl, inl its))
    where
      its : ◌≡◌ {A = Sent} (to, message) (o.to, o.message)
      its = let shape = subst (CommandsAs (w.clients c)) is (commands-as (w.clients c) w.event command) in let one = same-outstanding shape.waits o (sym shape.outstanding ∙ e) in
          ap (λ z. (z, message)) (sym shape.place) ∙ ap (λ z. (shape.waits.to, z)) (sym shape.message) ∙ ap (λ (z : Outstanding). (z.to, z.message)) one
  row-was _ c _ _ _ (by_ignoring k room stop message t at is) o e = inl (taken-was c message t _ is o e)
  row-was _ c _ _ _ (by_answering k room stop message t to answer at is) o e = inl (taken-was c message t _ is o e)
  row-was _ c _ _ _ (by_telling k room stop message t line answer at is) o e = inl (taken-was c message t _ is o e)

  waits-was : (step : Step) (now : World) → StepCase w step now → (c : ClientNo) (o : Outstanding) → (now.clients c).outstanding ≡ Some o → ((w.clients c).outstanding ≡ Some o) ⊎ Told w now o
  waits-was step _ (client_row _ c t sent lines row) d o e = one-client (λ e (z : ClientTable). (o : Outstanding) → z.outstanding ≡ Some o
      → ((w.clients e).outstanding ≡ Some o) ⊎ ((more : List Sent) × ((sent ≡ w.sent ++ more) × Has (o.to, o.message) more)))
      w.clients c t (row-was step c t sent lines row) (λ e other o is. inl is) d o e
  waits-was _ _ dismissed d o e = absurd (none-outstanding o e)
  waits-was _ _ is d o e = inl e

-- ---- one step

module _ (n : ℕ) (at_most : n ≤ 8) (files : AllFiles) (epochs : ServerNo → ℕ) where
  abbrev start : World
  start = opening n files epochs

  abbrev IsGood : Course → Type 0
  IsGood d = Good n at_most start files epochs d

  module _ (d : Course) (g : IsGood d) (c : ClientNo) (o : Outstanding) (e : (d.world.clients c).outstanding ≡ Some o) (s : ServerNo) (op : Op) (does : o.command ≡ Do s op) where
    abbrev w : World
    w = d.world

    abbrev fits : FitsCommand (d.world.clients c) o (Do s op)
    fits = subst (λ (z : Command). FitsCommand (d.world.clients c) o z) does ((g.talking.talks c).fits o e)

    abbrev W : WorkId
    W = fits.0

    to : o.to ≡ Server s
    to = fits.3

    message : o.message ≡ messages.Op c o.request W fits.1 op
    message = fits.2 ∙ ap (λ z. messages.Op z o.request W fits.1 op) (g.talking.talks c).name

    said : Says (machine files epochs d.world g.talking.known) o.message × IsAddressed (o.to, o.message)
    said = subst (λ z. IsOutstanding (machine files epochs d.world g.talking.known) z) e (g.talking.known.mirrors.clients c).waits

    place : W.server ≡ s
    place = subst (λ (z : Sent). IsAddressed z) (ap (λ z. (z, o.message)) to ∙ ap (λ z. (Server s, z)) message) said.1

    -- its message is handed over
    hand : (k : ℕ) (room : Room) (stop : Option (Pick → Left)) → slice_get d.world.sent k ≡ Some (o.to, o.message) → IsOnItsWay (go (handing k room stop) d) c o
    hand k room stop at = by (d.world.memory s) refl stop
      where
        world : (stop : Option (Pick → Left)) → after (handing k room stop) d.world ≡ at_memory s k room stop o.message (d.world.memory s) d.world
        world None = ap (λ z. handed k room None z d.world) (at ∙ ap (λ z. Some (z, o.message)) to)
        world (Some made) = ap (λ z. handed k room (Some made) z d.world) (at ∙ ap (λ z. Some (z, o.message)) to)

        leads : (stop : Option (Pick → Left)) (q : Option Memory) → d.world.memory s ≡ q → after (handing k room stop) d.world ≡ at_memory s k room stop o.message q d.world
        leads stop q f = world stop ∙ ap (λ z. at_memory s k room stop o.message z d.world) f

        gone : (stop : Option (Pick → Left)) → active_in ((after (handing k room stop) d.world).memory W.server) W ≡ None → IsOnItsWay (go (handing k room stop) d) c o
        gone stop none = is_over W fits.1 op message (untaken-active (after (handing k room stop) d.world) W none)

        itself : server_eq s W.server ≡ true
        itself = same-server s W.server place

        answers-it : (m : Memory) → d.world.memory s ≡ Some m → Answers c o.request (server_row m (stable (d.world.found s)) room o.message).messages → IsOnItsWay (go (handing k room None) d) c o
        answers-it m f x = answered x.0 (now-waits n at_most start d (Deliver k room) (server_row m (stable (d.world.found s)) room o.message).messages (Client c, messages.Answer c o.request x.0)
            (ap (λ (z : World). z.sent) (leads None (Some m) f))
            (subst (λ l. Has (Client c, messages.Answer c o.request x.0) l) (sym x.1) (inl refl)))

        by : (q : Option Memory) → d.world.memory s ≡ q → (stop : Option (Pick → Left)) → IsOnItsWay (go (handing k room stop) d) c o
        by None f stop = gone stop (ap (λ (z : World). active_in (z.memory W.server) W) (leads stop None f) ∙ ap (λ q. active_in (d.world.memory q) W) place ∙ ap (λ q. active_in q W) f)
        by (Some m) f (Some made) = gone (Some made) (ap (λ (z : World). active_in (z.memory W.server) W) (leads (Some made) (Some m) f)
            ∙ ap (λ (b : Bool). active_in (if b then None else d.world.memory W.server) W) itself)
        by (Some m) f None = answers-it m f (op-answers files epochs d.world (course-twin n at_most files epochs d g.talking.sound) c o s op m room e does f)

    -- what waits still waits unless it is handed over
    kept : (k j : ℕ) (room : Room) (stop : Option (Pick → Left)) → list_any (nat_eq j) d.waiting ≡ true → nat_eq j k ≡ false
        → list_any (nat_eq j) (still_waiting (handing k room stop) d.waiting) ≡ true
    kept k j room None h ne = any-without k j d.waiting h ne
    kept k j room (Some made) h ne = any-without k j d.waiting h ne

    at : (k j : ℕ) → nat_eq j k ≡ true → j ≡ k
    at k j q = grind (arith, nat_tests, q)

    asks-hand : (k : ℕ) (room : Room) (stop : Option (Pick → Left)) (x : Waits d.world.sent d.waiting (o.to, o.message)) (b : Bool) → nat_eq x.number k ≡ b
        → IsOnItsWay (go (handing k room stop) d) c o
    asks-hand k room stop x true q = hand k room stop (ap (slice_get d.world.sent) (sym (at k x.number q)) ∙ x.is)
    asks-hand k room stop x false q = asks (still-waits n at_most start d (handing k room stop) (o.to, o.message) g.talking.sound x (kept k x.number room stop x.waits q))

    asks-on : (step : Step) → Waits d.world.sent d.waiting (o.to, o.message) → IsOnItsWay (go step d) c o
    asks-on (Deliver k room) x = asks-hand k room None x (nat_eq x.number k) refl
    asks-on (StopDelivery k room made) x = asks-hand k room (Some made) x (nat_eq x.number k) refl
    asks-on step x = asks (still-waits n at_most start d step (o.to, o.message) g.talking.sound x x.waits)

    -- an answer that is handed over ends the waiting
    ends : (k : ℕ) (room : Room) (stop : Option (Pick → Left)) (a : Answer) → slice_get d.world.sent k ≡ Some (Client c, messages.Answer c o.request a)
        → ((handed k room stop (slice_get d.world.sent k) d.world).clients c).outstanding ≡ None
    ends k room stop a q = ap (λ (z : Option Sent). ((handed k room stop z d.world).clients c).outstanding) q
        ∙ ap (λ (z : ClientTable). z.outstanding) (handed-taken c k room stop (messages.Answer c o.request a) d.world)
        ∙ subst (λ z. (take_row (d.world.clients c) (messages.Answer z o.request a)).0.outstanding ≡ None) (g.talking.talks c).name (answer-ends (d.world.clients c) o a e (ap is_operation does))

    answered-hand : (k : ℕ) (room : Room) (stop : Option (Pick → Left)) (a : Answer) (x : Waits d.world.sent d.waiting (Client c, messages.Answer c o.request a))
        → ((handed k room stop (slice_get d.world.sent k) d.world).clients c).outstanding ≡ Some o → (b : Bool) → nat_eq x.number k ≡ b
        → IsOnItsWay (go (handing k room stop) d) c o
    answered-hand k room stop a x still true q = absurd (none-outstanding o (sym (ends k room stop a (ap (slice_get d.world.sent) (sym (at k x.number q)) ∙ x.is)) ∙ still))
    answered-hand k room stop a x still false q = answered a (still-waits n at_most start d (handing k room stop) (Client c, messages.Answer c o.request a) g.talking.sound x
        (kept k x.number room stop x.waits q))

    answered-on : (step : Step) (a : Answer) → Waits d.world.sent d.waiting (Client c, messages.Answer c o.request a) → ((after step d.world).clients c).outstanding ≡ Some o
        → IsOnItsWay (go step d) c o
    answered-on (Deliver k room) a x still = answered-hand k room None a x still (nat_eq x.number k) refl
    answered-on (StopDelivery k room made) a x still = answered-hand k room (Some made) a x still (nat_eq x.number k) refl
    answered-on step a x still = answered a (still-waits n at_most start d step (Client c, messages.Answer c o.request a) g.talking.sound x x.waits)

    over-on : (step : Step) → IsStep step d.world → (V : WorkId) (number : OperationNo) (p : Op) → o.message ≡ messages.Op c o.request V number p → ((a : ActiveWork) → IsActive d.world V a → ⊥)
        → IsOnItsWay (go step d) c o
    over-on step i V number p q none = is_over V number p q (untaken-active (after step d.world) V
        (next-untaken files epochs d.world g.talking.known V (subst (λ (z : Message). Says (machine files epochs d.world g.talking.known) z) q said.0) step i (untaken-is d.world V none)))

    way-on : (step : Step) → IsStep step d.world → ((after step d.world).clients c).outstanding ≡ Some o → IsOnItsWay d c o → IsOnItsWay (go step d) c o
    way-on step i still (asks x) = asks-on step x
    way-on step i still (answered a x) = answered-on step a x still
    way-on step i still (is_over V number p q none) = over-on step i V number p q none

  pub way-go : (d : Course) (step : Step) → IsGood d → IsStep step d.world → AreOnTheirWay d → AreOnTheirWay (go step d)
  way-go d step g i h c o still does = by (waits-was d.world step (after step d.world) (step-case d.world step) c o still)
    where
      by : ((d.world.clients c).outstanding ≡ Some o) ⊎ Told d.world (after step d.world) o → IsOnItsWay (go step d) c o
      by (inl e) = let is = operation-is o.command does in way-on d g c o e is.0 is.1.0 is.1.1 step i still (h c o e does)
      by (inr x) = asks (now-waits n at_most start d step x.0 (o.to, o.message) x.1.0 x.1.1)

  -- ---- every run

  pub on-way : (steps : List Step) (d : Course) → IsGood d → IsRun steps d.world → AreOnTheirWay d → AreOnTheirWay (go_on steps d)
  on-way [] d g i h = h
  on-way (step ∷ steps) d g i h = on-way steps (go step d) (good-go n at_most start files epochs d step g i.0) i.1 (way-go d step g i.0 h)

  pub on-their-way : (steps : List Step) → IsRun steps (opening n files epochs) → AreOnTheirWay (go_on steps (opening_course n files epochs))
  on-their-way steps i = on-way steps (opening_course n files epochs) (course-talking n at_most files epochs [] tt) i (λ c o e does. absurd (none-outstanding o e))
