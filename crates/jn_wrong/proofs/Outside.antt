-- The lines of a step that report refused faults are those that its device reported.
use Rattle.jn_wrong.proofs.Common.{◌≡◌, ◌≢◌, ◌⊎◌, inl, inr, ℕ, ◌+◌, Bool, true, false, List, [], ◌∷◌, ◌++◌, append-nil, map, length, Option, Some, None, is_some, refl, ◌∙◌, ap, arith, not, filter, if◌then◌else◌, slice_get, ServerNo, Party, Client, Server, Outside, DeviceState, Event, EventRefusal, TooManyArmed, EpochsUsedUp, Text, Line, Sent, Pick, World, Memory, Printed, FileThere, PageStored, UnitLocked, Step, run, Course, go_on, newly_sent, text_printed, Setup, Chance, prints_found, allowed, Task, Begins, Meets, Acts, Rests, ComesUp, Dismisses, GoesDown, ClosesClients, CountsCommits, CutShort, State, when_of, begun, Use, Nothing, Calls, Reads, Recovers, PowersOff, Decays, Revives, Arms, Disarms, Deed, delivered, delivered_at, is_busy, worked, served, working_steps, nothing, shown, crashed_at, is_used_up, restarted, recovered, given_up, brought_up, Devices, IsCalled, IsRecovery, IsUsed, refusal_of, told_unless, acted, met, next_in, resting, deed_of, outside_texts, own_texts, message_texts, traced, texts_of, lines_at, is_too_much, come_to, cut_short, Moment, DoesStep, may_tell, begun-lines, powered_off, Cleans, step_calls, is_outside, outside_lines, outside_at, TellsOf, TellsRaised, AreToldBy, TellsFaults, Left, ClientNo, ClientTable, list_all, reported, task-says}
use Rattle.jn_base.specs.declared.device.FaultKind.TheVariants as faults
use Rattle.jn_schedule.specs.declared.Event.TheVariants as events
use Rattle.jn_report.specs.declared.line.Text.TheVariants as says
use Rattle.jn_wrong.proofs.Filtered.{filter-both, lines-left, none-left, is_of_step, step-tells, own-filtered}

abbrev no_fault : Text → Bool
no_fault text = not (is_outside text)

of-step : (step : Step) (text : Text) → may_tell step text ≡ true → no_fault text ≡ true
of-step step text h = by (step-tells step text h)
  where
    by : is_of_step text ≡ true → no_fault text ≡ true
    by k = grind arith

own-none : (steps : List Step) (c : Course) → filter is_outside (own_texts c.world (go_on steps c).world) ≡ []
own-none steps c = own-filtered is_outside of-step steps c

-- what a client says in place of that
said-none : (said : Option (List Text)) (own : List Text) → list_all no_fault (reported said []) ≡ true → filter is_outside own ≡ [] → filter is_outside (reported said own) ≡ []
said-none None own h e = e
said-none (Some texts) own h e = none-left is_outside texts h

messages-none : (from : Party) (k : ℕ) (sent : List Sent) → filter is_outside (message_texts from k sent) ≡ []
messages-none from k [] = refl
messages-none from k (one ∷ sent) = messages-none from (k + 1) sent

traced-none : (trace : Bool) (from : Party) (k : ℕ) (sent : List Sent) → filter is_outside (traced trace (message_texts from k sent)) ≡ []
traced-none true from k sent = messages-none from k sent
traced-none false from k sent = refl

printed-none : (q : ServerNo) (prints : List Printed) → filter is_outside (map (text_printed q) prints) ≡ []
printed-none q [] = refl
printed-none q (FileThere f ∷ prints) = printed-none q prints
printed-none q (PageStored f p bytes ∷ prints) = printed-none q prints
printed-none q (UnitLocked u T ∷ prints) = printed-none q prints

shown-none : (q : ServerNo) (prints : List Printed) (stop : Option (Pick → Left)) → filter is_outside (shown q prints stop) ≡ []
shown-none q prints None = printed-none q prints
shown-none q prints (Some made) = refl

-- ---- what is reported of one

-- a decay that the device didn't allow
abbrev of_decay : Use → Chance → List Text
of_decay (Decays q p) h = told_unless (allowed h.found) (says.Outside q (record { kind = faults.Decay p; page = p }))
of_decay device h = []

abbrev Tells_just : Chance → Deed → Type 0
Tells_just h deed = filter is_outside deed.texts ≡ of_decay deed.device h

at-just : (h : Chance) (k : ℕ) (q : ServerNo) (o : Option Memory) → Tells_just h (delivered_at h k q o)
at-just h k q None = refl
at-just h k q (Some m) = refl

delivered-just : (h : Chance) (k : ℕ) (t : ClientNo → ClientTable) (w : World) (o : Option Sent) → Tells_just h (delivered h k t w o)
delivered-just h k t w None = refl
delivered-just h k t w (Some (Client c, message)) = refl
delivered-just h k t w (Some (Server q, message)) = at-just h k q (w.memory q)

worked-just : (h : Chance) (q : ServerNo) (w : World) → Tells_just h (worked h q w)
worked-just h q w = by (is_busy h.rubbish w q)
  where
    by : (b : Bool) → Tells_just h (if b then served q step_calls (working_steps h q) else nothing)
    by true = refl
    by false = refl

crashed-just : (h : Chance) (q : ServerNo) (o : Option Memory) → Tells_just h (crashed_at q o)
crashed-just h q None = refl
crashed-just h q (Some m) = refl

restarted-just : (h : Chance) (q : ServerNo) (w : World) → Tells_just h (restarted h q w)
restarted-just h q w = by (is_used_up h q w)
  where
    by : (b : Bool) → Tells_just h (if b then record (given_up h q) { texts = says.RefusedEvent EpochsUsedUp ∷ [] } else recovered h q)
    by true = refl
    by false = refl

raised-just : (h : Chance) (q : ServerNo) (w : World) → Tells_just h (brought_up h q w)
raised-just h q w = by (is_used_up h q w)
  where
    by : (b : Bool) → Tells_just h (if b then record (given_up h q) { cuts = true } else recovered h q)
    by true = refl
    by false = refl

acts-just : (x : Setup) (h : Chance) (event : Event) (t : ClientNo → ClientTable) (w : World) → Tells_just h (acted x h event t w)
acts-just x h (events.Command c command) t w = refl
acts-just x h (events.Call c s call) t w = refl
acts-just x h (events.Again c) t w = refl
acts-just x h (events.Deliver k) t w = delivered-just h k t w (slice_get w.sent k)
acts-just x h events.Settle t w = refl
acts-just x h (events.Step q) t w = worked-just h q w
acts-just x h (events.Nudge q) t w = refl
acts-just x h (events.Timeout q T) t w = refl
acts-just x h (events.Scrub q) t w = refl
acts-just x h (events.Decay q p) t w = by (allowed h.found)
  where
    fault : Text
    fault = says.Outside q (record { kind = faults.Decay p; page = p })

    by : (b : Bool) → filter is_outside (told_unless b (says.Outside q (record { kind = faults.Decay p; page = p }))) ≡ told_unless b (says.Outside q (record { kind = faults.Decay p; page = p }))
    by true = refl
    by false = refl
acts-just x h (events.Revive q p) t w = refl
acts-just x h (events.Arm q n kind) t w = by (allowed h.found)
  where
    by : (b : Bool) → filter is_outside (told_unless b (says.RefusedEvent TooManyArmed)) ≡ []
    by true = refl
    by false = refl
acts-just x h (events.Crash q) t w = crashed-just h q (w.memory q)
acts-just x h (events.Restart q) t w = restarted-just h q w
acts-just x h (events.Show q) t w = shown-none q (prints_found h.found) h.stop

meets-just : (x : Setup) (h : Chance) (event : Event) (t : ClientNo → ClientTable) (w : World) (o : Option EventRefusal) → Tells_just h (met x h event t w o)
meets-just x h event t w (Some refusal) = refl
meets-just x h event t w None = acts-just x h event t w

rests-just : (x : Setup) (h : Chance) (t : ClientNo → ClientTable) (w : World) (o : Option Event) → Tells_just h (resting x h t w o)
rests-just x h t w None = refl
rests-just x h t w (Some event) = acts-just x h event t w

deed-just : (x : Setup) (h : Chance) (task : Task) (s : State) → Tells_just h (deed_of x h task s)
deed-just x h (Begins event) s = refl
deed-just x h (Meets event) s = meets-just x h event s.clients s.course.world (refusal_of x s.course.world event)
deed-just x h (Acts event) s = acts-just x h event s.clients s.course.world
deed-just x h Rests s = rests-just x h s.clients s.course.world (next_in x h.rubbish s.course)
deed-just x h (ComesUp q) s = raised-just h q s.course.world
deed-just x h Dismisses s = refl
deed-just x h (GoesDown q) s = crashed-just h q (s.course.world.memory q)
deed-just x h (ClosesClients q) s = refl
deed-just x h CountsCommits s = refl

all-outside : (q : ServerNo) (told : List Outside) → filter is_outside (outside_at q told) ≡ outside_at q told
all-outside q [] = refl
all-outside q (fault ∷ told) = ap (λ (texts : List Text). says.Outside q fault ∷ texts) (all-outside q told)

device-told : (device : Use) (told : List Outside) → filter is_outside (outside_texts device told) ≡ outside_texts device told
device-told (Calls q most) told = all-outside q told
device-told (Cleans q) told = all-outside q told
device-told (Reads q) told = all-outside q told
device-told (Recovers q) told = all-outside q told
device-told Nothing told = refl
device-told (PowersOff q) told = refl
device-told (Decays q p) told = refl
device-told (Revives q p) told = refl
device-told (Arms q n kind) told = refl
device-told Disarms told = refl

faults-of : (x : Setup) (h : Chance) (deed : Deed) (c : Course) → list_all no_fault (reported deed.said []) ≡ true → Tells_just h deed → filter is_outside (texts_of x h deed c.world (go_on deed.steps c).world) ≡ outside_texts deed.device h.told ++ of_decay deed.device h
faults-of x h deed c says just = filter-both is_outside (told ++ own ++ deed.texts) messages
    ∙ ap (λ (texts : List Text). filter is_outside (told ++ own ++ deed.texts) ++ texts) (traced-none x.trace deed.actor (length c.world.sent) (newly_sent c.world (go_on deed.steps c).world))
    ∙ append-nil (filter is_outside (told ++ own ++ deed.texts))
    ∙ filter-both is_outside (told ++ own) deed.texts
    ∙ ap (λ (texts : List Text). texts ++ filter is_outside deed.texts) before
    ∙ ap (λ (texts : List Text). told ++ texts) just
  where
    told : List Text
    told = outside_texts deed.device h.told

    own : List Text
    own = reported deed.said (own_texts c.world (go_on deed.steps c).world)

    messages : List Text
    messages = traced x.trace (message_texts deed.actor (length c.world.sent) (newly_sent c.world (go_on deed.steps c).world))

    before : filter is_outside (told ++ own) ≡ told
    before = filter-both is_outside told own ∙ ap (λ (texts : List Text). filter is_outside told ++ texts) (said-none deed.said (own_texts c.world (go_on deed.steps c).world) says (own-none deed.steps c)) ∙ append-nil (filter is_outside told) ∙ device-told deed.device h.told

-- ---- and by which device

module _ (x : Setup) (h : Chance) (w now : World) (ds es : Devices) where
  called : (most : ℕ) (d e : DeviceState) (q : ServerNo) → IsCalled most h d e → (texts : List Text) → texts ≡ outside_at q h.told ++ [] → TellsOf q d e texts
  called most d e q c texts is = record {
    told = h.told;
    tells = record { last = c.last; happens = c.happens; whole = c.whole; told_is = c.told; after = c.after };
    texts_are = is ∙ append-nil (outside_at q h.told);
  }

  raised : (q : ServerNo) (up : Bool) → IsRecovery q (x.counts q) h up (ds q) (es q) → (texts : List Text) → texts ≡ outside_at q h.told ++ [] → TellsRaised q (ds q) (es q) texts
  raised q up r texts is = record { powered = r.powered; last = r.last; power = r.power; tells = called _ r.powered r.last q r.called texts is; after = by up r.after }
    where
      by : (b : Bool) → es q ≡ (if b then r.last else powered_off r.last) → (es q ≡ r.last) ⊎ (es q ≡ powered_off r.last)
      by true e = inl e
      by false e = inr e

  told-by : (device : Use) → IsUsed x h device w now ds es → (texts : List Text) → texts ≡ outside_texts device h.told ++ of_decay device h → AreToldBy device ds es texts
  told-by (Calls q most) a texts is = called most (ds q) (es q) q a.its.called texts is
  told-by (Cleans q) a texts is = called _ (ds q) (es q) q a.its.served.called texts is
  told-by (Reads q) a texts is = called _ (ds q) (es q) q a.its.called texts is
  told-by (Recovers q) a texts is = raised q (is_some (now.memory q)) a.its texts is
  told-by (Decays q p) a texts is = is ∙ ap (λ (b : Bool). told_unless b (says.Outside q (record { kind = faults.Decay p; page = p }))) a.its.answers
  told-by Nothing a texts is = is
  told-by (PowersOff q) a texts is = is
  told-by (Revives q p) a texts is = is
  told-by (Arms q n kind) a texts is = is
  told-by Disarms a texts is = is

pub faults-told : (x : Setup) (a b : Moment) (d : DoesStep x a b) → b.state.stage ≢ CutShort → TellsFaults x a b d
faults-told x a b d goes = record {
  texts = outside_texts deed.device d.chance.told ++ of_decay deed.device d.chance;
  told = by-device d.befalls.used;
  lines = ap (λ (s : State). outside_lines s.lines) d.state_is ∙ by (is_too_much deed (go_on deed.steps u.course)) (λ e. goes (ap (λ (s : State). s.stage) d.state_is ∙ e));
}
  where
    deed : Deed
    deed = deed_of x d.chance d.task a.state

    u : State
    u = begun d.task a.state

    by-device : IsUsed x d.chance deed.device a.state.course.world (run deed.steps a.state.course.world) a.devices b.devices → AreToldBy deed.device a.devices b.devices (outside_texts deed.device d.chance.told ++ of_decay deed.device d.chance)
    by-device used = told-by x d.chance a.state.course.world (run deed.steps a.state.course.world) a.devices b.devices deed.device used (outside_texts deed.device d.chance.told ++ of_decay deed.device d.chance) refl

    texts : List Text
    texts = texts_of x d.chance deed u.course.world (go_on deed.steps u.course).world

    by : (b : Bool) → ((if b then cut_short u else come_to x d.chance deed (go_on deed.steps u.course) u).stage ≡ CutShort → ⊥)
        → outside_lines (if b then cut_short u else come_to x d.chance deed (go_on deed.steps u.course) u).lines ≡ outside_lines a.state.lines ++ lines_at (when_of u) (outside_texts deed.device d.chance.told ++ of_decay deed.device d.chance)
    by true n = absurd (n refl)
    by false n = filter-both (λ (l : Line). is_outside l.text) u.lines (lines_at (when_of u) texts)
        ∙ ap (λ (ls : List Line). outside_lines ls ++ outside_lines (lines_at (when_of u) texts)) (begun-lines d.task a.state)
        ∙ ap (λ (ls : List Line). outside_lines a.state.lines ++ ls) (lines-left is_outside (when_of u) texts ∙ ap (λ (ts : List Text). lines_at (when_of u) ts) (faults-of x d.chance deed u.course (task-says no_fault of-step x d.chance d.task a.state) (deed-just x d.chance d.task a.state)))
