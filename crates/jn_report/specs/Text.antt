-- The text of a report: each line is the words of its event and of what it says, with a space between two.
use Rattle.std.specs.Prelude.{ℕ, List, [], ◌∷◌, ◌++◌, codes, decimal}
use Rattle.jn_base.specs.Names.{refusal_number, fault_word}
use Rattle.jn_base.specs.declared.names.ServerNo.{ServerNo}
use Rattle.jn_base.specs.declared.names.ClientNo.{ClientNo}
use Rattle.jn_base.specs.declared.names.Tid.{Tid}
use Rattle.jn_base.specs.declared.names.LockUnit.{LockUnit}
use Rattle.jn_base.specs.declared.names.LockUnit.TheVariants.{File as WholeFile, Block as OneBlock}
use Rattle.jn_base.specs.declared.names.Cause.{Cause}
use Rattle.jn_base.specs.declared.names.Cause.TheVariants.{Requested, Broken as BrokenAt, Lost as LostAt, Full}
use Rattle.jn_base.specs.declared.names.Party.{Party}
use Rattle.jn_base.specs.declared.names.Party.TheVariants.{Client, Server}
use Rattle.jn_base.specs.declared.names.MsgKind.{MsgKind}
use Rattle.jn_base.specs.declared.names.MsgKind.TheVariants as kinds
use Rattle.jn_text.specs.Words.{block_word, hex_word}
use Rattle.jn_report.specs.declared.line.When.{When}
use Rattle.jn_report.specs.declared.line.When.TheVariants.{Event, End}
use Rattle.jn_report.specs.declared.line.Refusal.{Refusal}
use Rattle.jn_report.specs.declared.line.Refusal.TheVariants as refusals
use Rattle.jn_report.specs.declared.line.EventRefusal.{EventRefusal}
use Rattle.jn_report.specs.declared.line.EventRefusal.TheVariants as events
use Rattle.jn_report.specs.declared.line.Text.{Text}
use Rattle.jn_report.specs.declared.line.Text.TheVariants as says
use Rattle.jn_report.specs.declared.line.Line.{Line}

abbrev pub Word : Type 0
Word = List ℕ

abbrev pub server_word : ServerNo → Word
server_word s = codes "s" ++ decimal s.0

abbrev pub client_word : ClientNo → Word
client_word c = codes "c" ++ decimal c.0

abbrev pub tid_word : Tid → Word
tid_word t = decimal t.server.0 ++ codes "." ++ decimal t.epoch ++ codes "." ++ decimal t.ticket

abbrev pub unit_word : LockUnit → Word
unit_word (WholeFile f) = decimal f.0
unit_word (OneBlock f p) = decimal f.0 ++ codes "/" ++ decimal p.0

abbrev pub party_word : Party → Word
party_word (Client c) = client_word c
party_word (Server s) = server_word s

abbrev pub kind_word : MsgKind → Word
kind_word kinds.Begin = codes "begin"
kind_word kinds.Open = codes "open"
kind_word kinds.Op = codes "op"
kind_word kinds.End = codes "end"
kind_word kinds.Abort = codes "abort"
kind_word kinds.Thanks = codes "thanks"
kind_word kinds.Begun = codes "begun"
kind_word kinds.Opened = codes "opened"
kind_word kinds.Answer = codes "answer"
kind_word kinds.Outcome = codes "outcome"
kind_word kinds.Prepare = codes "prepare"
kind_word kinds.Commit = codes "commit"
kind_word kinds.Drop = codes "drop"
kind_word kinds.Vote = codes "vote"
kind_word kinds.Done = codes "done"
kind_word kinds.Inquire = codes "inquire"

-- a unit and the transaction that holds it
abbrev pub held_words : LockUnit → Tid → List Word
held_words u t = unit_word u ∷ codes "by" ∷ tid_word t ∷ []

abbrev pub refusal_words : Refusal → List Word
refusal_words refusals.ClientBusy = codes "1" ∷ []
refusal_words refusals.NoTransaction = codes "2" ∷ []
refusal_words refusals.HasTransaction = codes "3" ∷ []
refusal_words refusals.NotOpen = codes "4" ∷ []
refusal_words refusals.AlreadyOpen = codes "5" ∷ []
refusal_words refusals.NoSuchServer = codes "6" ∷ []
refusal_words refusals.Spoiled = codes "7" ∷ []
refusal_words refusals.NoFile = codes "11" ∷ []
refusal_words refusals.Exists = codes "12" ∷ []
refusal_words (refusals.Locked u t) = codes "13" ∷ held_words u t
refusal_words refusals.TooManyReads = codes "14" ∷ []
refusal_words refusals.TooManyWrites = codes "15" ∷ []
refusal_words (refusals.Broken u t) = codes "16" ∷ held_words u t
refusal_words (refusals.Lost then now) = codes "17" ∷ decimal then ∷ decimal now ∷ []
refusal_words refusals.Closing = codes "18" ∷ []
refusal_words refusals.TooManyTransactions = codes "21" ∷ []
refusal_words refusals.TooManyWorks = codes "22" ∷ []
refusal_words refusals.NotBytes = codes "51" ∷ []
refusal_words refusals.TooFar = codes "52" ∷ []
refusal_words (refusals.PastEnd n) = codes "53" ∷ decimal n ∷ []
refusal_words refusals.BucketFull = codes "54" ∷ []
refusal_words refusals.NoName = codes "55" ∷ []
refusal_words refusals.NotDirectory = codes "56" ∷ []

abbrev pub event_refusal_word : EventRefusal → Word
event_refusal_word events.NoSuchServer = codes "6"
event_refusal_word events.ServerDown = codes "41"
event_refusal_word events.ServerUp = codes "42"
event_refusal_word events.NoSuchMessage = codes "43"
event_refusal_word events.NoSuchWork = codes "44"
event_refusal_word events.EpochsUsedUp = codes "45"
event_refusal_word events.TooManyArmed = codes "46"
event_refusal_word events.NoSuchPage = codes "47"

abbrev pub cause_words : Cause → List Word
cause_words Requested = codes "requested" ∷ []
cause_words (BrokenAt s u t) = codes "broken" ∷ server_word s ∷ held_words u t
cause_words (LostAt s) = codes "lost" ∷ server_word s ∷ []
cause_words (Full s resource free need) = codes "full" ∷ server_word s ∷ decimal (refusal_number resource) ∷ decimal free ∷ decimal need ∷ []

-- the words of what a line says
abbrev pub words_of : Text → List Word
words_of (says.Up s epoch) = codes "up" ∷ server_word s ∷ codes "epoch" ∷ decimal epoch ∷ []
words_of (says.Down s) = codes "down" ∷ server_word s ∷ []
words_of (says.Stopped s) = codes "stopped" ∷ server_word s ∷ []
words_of (says.Outside s o) = codes "outside" ∷ server_word s ∷ fault_word o.kind ∷ decimal o.page ∷ []
words_of (says.Ignored k) = codes "ignored" ∷ decimal k ∷ []
words_of (says.Lost k) = codes "lost" ∷ decimal k ∷ []
words_of (says.Commit t) = codes "commit" ∷ tid_word t ∷ []
words_of (says.Broke s t u by) = codes "broke" ∷ server_word s ∷ tid_word t ∷ held_words u by
words_of (says.Begun c j t) = client_word c ∷ codes "begun" ∷ decimal j ∷ tid_word t ∷ []
words_of (says.Opened c j s) = client_word c ∷ codes "opened" ∷ decimal j ∷ server_word s ∷ []
words_of (says.Did c j) = client_word c ∷ codes "did" ∷ decimal j ∷ []
words_of (says.Read c j bytes) = client_word c ∷ codes "read" ∷ decimal j ∷ block_word bytes ∷ []
words_of (says.Bytes c j bytes) = client_word c ∷ codes "bytes" ∷ decimal j ∷ hex_word bytes ∷ []
words_of (says.Found c j f) = client_word c ∷ codes "found" ∷ decimal j ∷ decimal f.0 ∷ []
words_of (says.Name c j name f) = client_word c ∷ codes "name" ∷ decimal j ∷ name ∷ decimal f.0 ∷ []
words_of (says.Refused c j refusal) = client_word c ∷ codes "refused" ∷ decimal j ∷ refusal_words refusal
words_of (says.Waiting c j s u t) = client_word c ∷ codes "waiting" ∷ decimal j ∷ server_word s ∷ held_words u t
words_of (says.Committed c j t) = client_word c ∷ codes "committed" ∷ decimal j ∷ tid_word t ∷ []
words_of (says.Aborted c j t cause) = client_word c ∷ codes "aborted" ∷ decimal j ∷ tid_word t ∷ cause_words cause
words_of (says.RefusedEvent refusal) = codes "refused" ∷ event_refusal_word refusal ∷ []
words_of (says.File s f) = server_word s ∷ codes "file" ∷ decimal f.0 ∷ []
words_of (says.Page s f p bytes) = server_word s ∷ codes "page" ∷ decimal f.0 ∷ decimal p.0 ∷ block_word bytes ∷ []
words_of (says.Locked s u t) = server_word s ∷ codes "locked" ∷ held_words u t
words_of (says.Commits n) = codes "commits" ∷ decimal n ∷ []
words_of (says.Message k from to kind) = codes "msg" ∷ decimal k ∷ (party_word from ++ codes ">" ++ party_word to) ∷ kind_word kind ∷ []

-- each word with a space before it
abbrev pub spaced : List Word → List ℕ
spaced [] = []
spaced (w ∷ ws) = (32 ∷ w) ++ spaced ws

abbrev pub when_word : When → Word
when_word (Event number) = decimal number
when_word End = codes "end"

-- the text of a line, with the line feed at its end
unfoldable pub text_of : Line → List ℕ
text_of l = when_word l.when ++ codes ":" ++ spaced (words_of l.text) ++ 10 ∷ []

-- the text of a report
abbrev pub report_text : List Line → List ℕ
report_text [] = []
report_text (l ∷ ls) = text_of l ++ report_text ls
