-- One step of a run, with its lines, and many of them.
use Rattle.std.specs.Prelude.{ℕ, zero, suc, ◌+◌, Bool, nat_lt, ◌||◌, if◌then◌else◌, List, [], ◌∷◌, ◌++◌, map, length, Option, Some, None}
use Rattle.jn_system.specs.WholeSystem.World.{own_texts, World}
use Rattle.jn_report.specs.Lines.{lines_at}
use Rattle.jn_base.specs.declared.names.Party.{Party}
use Rattle.jn_base.specs.declared.device.Outside.{Outside}
use Rattle.jn_msgs.specs.Kinds.{kind_of}
use Rattle.jn_report.specs.declared.line.Text.{Text}
use Rattle.jn_report.specs.declared.line.Text.TheVariants as says
use Rattle.jn_rows.specs.Outcomes.{Sent}
use Rattle.jn_system.specs.WholeSystem.Course.{Course, go_on, newly_sent}
use Rattle.jn_machine.specs.Chances.{Setup, Chance}
use Rattle.jn_machine.specs.Tasks.{Task, CutShort, State, when_of, next_task, begun}
use Rattle.jn_machine.specs.Deeds.{Use, Calls, Cleans, Reads, Recovers, Deed}
use Rattle.jn_machine.specs.Events.{deed_of}

-- ---- lines

-- the faults that a device reports while it is called
abbrev pub outside_texts : Use → List Outside → List Text
outside_texts (Calls q most) told = map (λ (fault : Outside). says.Outside q fault) told
outside_texts (Cleans q) told = map (λ (fault : Outside). says.Outside q fault) told
outside_texts (Reads q) told = map (λ (fault : Outside). says.Outside q fault) told
outside_texts (Recovers q) told = map (λ (fault : Outside). says.Outside q fault) told
outside_texts device told = []

-- what a deed says in place of that
abbrev pub reported : Option (List Text) → List Text → List Text
reported None own = own
reported (Some texts) own = texts

-- messages that a party sends, of which the first has this number
abbrev pub message_texts : Party → ℕ → List Sent → List Text
message_texts from k [] = []
message_texts from k (sent ∷ more) = says.Message k from sent.0 (kind_of sent.1) ∷ message_texts from (k + 1) more

abbrev pub traced : Bool → List Text → List Text
traced trace texts = if trace then texts else []

-- the faults that are reported, then what the step or its client says, then its messages
abbrev pub texts_of : Setup → Chance → Deed → World → World → List Text
texts_of x h deed before now = outside_texts deed.device h.told ++ reported deed.said (own_texts before now) ++ deed.texts
    ++ traced x.trace (message_texts deed.actor (length before.sent) (newly_sent before now))

-- ---- one step

abbrev pub most_messages : ℕ
most_messages = 1000000

abbrev pub is_too_much : Deed → Course → Bool
is_too_much deed c = deed.cuts || nat_lt most_messages (length c.world.sent)

abbrev pub come_to : Setup → Chance → Deed → Course → State → State
come_to x h deed c s = record {
  course = c;
  callers = deed.callers s.callers;
  tasks = deed.tasks ++ s.tasks;
  lines = s.lines ++ lines_at (when_of s) (texts_of x h deed s.course.world c.world);
  stage = s.stage;
}

-- the run ends here, and nothing is reported of what can't be
abbrev pub cut_short : State → State
cut_short s = record s { stage = CutShort }

abbrev pub made_to : Setup → Chance → Deed → Course → State → State
made_to x h deed c s = if is_too_much deed c then cut_short s else come_to x h deed c s

abbrev pub made : Setup → Chance → Deed → State → State
made x h deed s = made_to x h deed (go_on deed.steps s.course) s

-- the next task is done, with this chance
abbrev pub done : Setup → Chance → Task → State → State
done x h task s = made x h (deed_of x h task s) (begun task s)

-- ---- many steps

abbrev pub next_by : Setup → Chance → Option Task → State → State
next_by x h None s = s
next_by x h (Some task) s = done x h task s

abbrev pub next : Setup → Chance → State → State
next x h s = next_by x h (next_task s) s

-- so many steps at most, with the chances from this number on
abbrev pub after : Setup → (ℕ → State → Chance) → ℕ → ℕ → State → State
after x chances n zero s = s
after x chances n (suc steps) s = after x chances (n + 1) steps (next x (chances n s) s)
