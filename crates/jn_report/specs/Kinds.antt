-- What a text says: which kind of line it is, of whom, and of what.
use Rattle.std.specs.Prelude.{Bool, true, false, not, List, [], ◌∷◌, ℕ, nat_eq, ◌&&◌, if◌then◌else◌, Option, Some, None, is_some}
use Rattle.jn_report.specs.declared.line.Text.{Text}
use Rattle.jn_report.specs.declared.line.Text.TheVariants as says
use Rattle.jn_base.specs.declared.names.Tid.{Tid}
use Rattle.jn_report.specs.declared.line.Text.TheVariants.{Commit}
use Rattle.jn_base.specs.declared.names.ServerNo.{ServerNo}
use Rattle.jn_base.specs.declared.names.ClientNo.{ClientNo}
use Rattle.jn_base.specs.declared.names.LockUnit.{LockUnit}
use Rattle.jn_base.specs.Names.{server_eq, client_eq, unit_eq, tid_eq}
use Rattle.jn_report.specs.declared.line.Refusal.{Refusal}
use Rattle.jn_report.specs.declared.line.Refusal.TheVariants as refusals
use Rattle.jn_report.specs.declared.kinds.Addressed.{Addressed}

abbrev pub is_up : Text → Bool
is_up (says.Up s epoch) = true
is_up text = false

abbrev pub is_stopped : Text → Bool
is_stopped (says.Stopped s) = true
is_stopped text = false

abbrev pub is_message : Text → Bool
is_message (says.Message k a b kind) = true
is_message text = false

-- it is no message's line
abbrev pub no_message : Text → Bool
no_message text = not (is_message text)

abbrev pub is_commit : Text → Bool
is_commit (says.Commit t) = true
is_commit _ = false

abbrev pub is_aborted : Text → Bool
is_aborted (says.Aborted c j t cause) = true
is_aborted _ = false

-- a command of a client, or an event
abbrev pub is_refused : Text → Bool
is_refused (says.Refused c j refusal) = true
is_refused (says.RefusedEvent refusal) = true
is_refused _ = false

abbrev pub is_outside : Text → Bool
is_outside (says.Outside s fault) = true
is_outside _ = false

abbrev pub commit_in : Text → List Tid
commit_in (Commit t) = t ∷ []
commit_in _ = []

abbrev pub is_locked : Text → Bool
is_locked (says.Locked s u t) = true
is_locked _ = false

-- a show that was refused or stopped
abbrev pub is_no_show : Text → Bool
is_no_show (says.RefusedEvent refusal) = true
is_no_show (says.Stopped s) = true
is_no_show _ = false

abbrev pub begins : ClientNo → ℕ → Tid → Text → Bool
begins c number t (says.Begun d j u) = client_eq c d && (nat_eq number j && tid_eq u t)
begins c number t _ = false

abbrev pub goes_down : ServerNo → Text → Bool
goes_down s (says.Down r) = server_eq r s
goes_down s (says.Stopped r) = server_eq r s
goes_down s _ = false

abbrev pub breaks : ServerNo → Tid → LockUnit → Tid → Text → Bool
breaks s t u by (says.Broke r v w x) = server_eq r s && (tid_eq v t && (unit_eq w u && tid_eq x by))
breaks s t u by _ = false

abbrev pub refuses_event : Text → Bool
refuses_event (says.RefusedEvent refusal) = true
refuses_event _ = false

-- it refuses no event
abbrev pub no_refusal : Text → Bool
no_refusal text = not (refuses_event text)

abbrev pub stops : ServerNo → Text → Bool
stops s (says.Stopped r) = server_eq r s
stops s _ = false

abbrev pub refuses_fault : ServerNo → Text → Bool
refuses_fault s (says.Outside r fault) = server_eq r s
refuses_fault s _ = false

-- the refusals of a command by the client itself, in the command's own event
abbrev pub is_own : Refusal → Bool
is_own refusals.ClientBusy = true
is_own refusals.NoTransaction = true
is_own refusals.HasTransaction = true
is_own refusals.NotOpen = true
is_own refusals.AlreadyOpen = true
is_own refusals.NoSuchServer = true
is_own refusals.Spoiled = true
is_own refusals.TooFar = true
is_own _ = false

-- a refusal by a client itself
abbrev pub is_own_refusal : Text → Bool
is_own_refusal (says.Refused c j refusal) = is_own refusal
is_own_refusal _ = false

-- a line by which a server shows its files
abbrev pub is_print : Text → Bool
is_print (says.File s f) = true
is_print (says.Page s f p bytes) = true
is_print (says.Locked s u t) = true
is_print text = false

-- a stop, or a fault that was refused
abbrev pub is_fault : Text → Bool
is_fault (says.Stopped s) = true
is_fault (says.Outside s fault) = true
is_fault text = false

abbrev pub addressed : ClientNo → ℕ → Option Addressed
addressed c j = Some (record { client = c; number = j })

-- to whom a line speaks of a command, and of which, by the number of its event
abbrev pub speaks_to : Text → Option Addressed
speaks_to (says.Begun c j t) = addressed c j
speaks_to (says.Opened c j s) = addressed c j
speaks_to (says.Did c j) = addressed c j
speaks_to (says.Read c j bytes) = addressed c j
speaks_to (says.Bytes c j bytes) = addressed c j
speaks_to (says.Found c j f) = addressed c j
speaks_to (says.Name c j name f) = addressed c j
speaks_to (says.Refused c j refusal) = addressed c j
speaks_to (says.Waiting c j s u t) = addressed c j
speaks_to (says.Committed c j t) = addressed c j
speaks_to (says.Aborted c j t cause) = addressed c j
speaks_to _ = None

-- what a client is told of its command
abbrev pub is_answer : Text → Bool
is_answer text = is_some (speaks_to text)

-- and whose command it answers
abbrev pub answer_in : Text → Option Addressed
answer_in text = if is_own_refusal text then None else speaks_to text
