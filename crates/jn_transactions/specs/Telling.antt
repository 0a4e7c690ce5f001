-- What is sent and noted.
use Rattle.std.specs.Prelude.{◌≡◌, List, ◌++◌, Result, Ok, Err}
use Rattle.jn_msgs.specs.Collected.{Collected}
use Rattle.jn_msgs.specs.declared.message.Note.{Note}
use Rattle.jn_rows.specs.Outcomes.{Sent}
use Rattle.jn_base.specs.declared.fault.CallFault.{CallFault}
use Rattle.jn_base.specs.declared.fault.CallFault.TheVariants.{Stopped, Memory}

abbrev pub added : Collected → List Sent → List Note → Collected
added before messages notes = record { messages = before.messages ++ messages; notes = before.notes ++ notes }

pub record Longer (before after : Collected) : Type 0 where
  pub more_messages : List Sent
  pub more_notes : List Note
  pub is : after ≡ added before more_messages more_notes

-- Messages and notes are added; some of them where there is no memory.
abbrev pub Adds : {A : Type 0} → List Sent → List Note → Collected → Result A CallFault → Collected → Type 0
Adds messages notes before (Ok x) after = after ≡ added before messages notes
Adds messages notes before (Err Memory) after = Longer before after
Adds messages notes before (Err Stopped) after = ⊥
