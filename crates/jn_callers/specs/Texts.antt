-- The lines that report how a call ends: each tells its client, of its event.
use Rattle.std.specs.Prelude.{◌≡◌, ℕ, List, [], ◌∷◌, ◌++◌, map}
use Rattle.std.specs.List.{AllByRecursion}
use Rattle.jn_base.specs.declared.names.ClientNo.{ClientNo}
use Rattle.jn_report.specs.declared.line.Refusal.TheVariants as refusals
use Rattle.jn_report.specs.declared.line.Text.{Text}
use Rattle.jn_report.specs.declared.line.Text.TheVariants as says
use Rattle.jn_report.specs.Kinds.{addressed, answer_in}
use Rattle.jn_rows.specs.Client.{answer_line}
use Rattle.jn_bytes.specs.declared.next.Next.TheVariants as byte_nexts
use Rattle.jn_bytes.specs.declared.next.ByteRefusal.{ByteRefusal}
use Rattle.jn_bytes.specs.declared.next.ByteRefusal.TheVariants as byte_refusals
use Rattle.jn_names.specs.declared.entry.Entry.{Entry}
use Rattle.jn_names.specs.declared.next.NameNext.TheVariants as name_nexts
use Rattle.jn_names.specs.declared.next.NameRefusal.{NameRefusal}
use Rattle.jn_names.specs.declared.next.NameRefusal.TheVariants as name_refusals
use Rattle.jn_calls.specs.declared.reply.Reply.{Reply}
use Rattle.jn_calls.specs.declared.reply.Reply.TheVariants as replies

abbrev pub bytes_refused : ClientNo → ℕ → ByteRefusal → Text
bytes_refused c j (byte_refusals.Operation a) = answer_line c j a
bytes_refused c j byte_refusals.NotBytes = says.Refused c j refusals.NotBytes
bytes_refused c j (byte_refusals.PastEnd n) = says.Refused c j (refusals.PastEnd n)

abbrev pub names_refused : ClientNo → ℕ → NameRefusal → Text
names_refused c j (name_refusals.Operation a) = answer_line c j a
names_refused c j name_refusals.BucketFull = says.Refused c j refusals.BucketFull
names_refused c j name_refusals.NoName = says.Refused c j refusals.NoName
names_refused c j name_refusals.NotDirectory = says.Refused c j refusals.NotDirectory

-- a list of names has a line for each, and `did` behind them; no call ends with an operation
abbrev pub texts_of_reply : ClientNo → ℕ → Reply → List Text
texts_of_reply c j (replies.Answered a) = answer_line c j a ∷ []
texts_of_reply c j (replies.OfBytes (byte_nexts.Send op)) = []
texts_of_reply c j (replies.OfBytes (byte_nexts.Done bytes)) = says.Bytes c j bytes ∷ []
texts_of_reply c j (replies.OfBytes byte_nexts.Did) = says.Did c j ∷ []
texts_of_reply c j (replies.OfBytes (byte_nexts.Refused refusal)) = bytes_refused c j refusal ∷ []
texts_of_reply c j (replies.OfNames (name_nexts.Send op)) = []
texts_of_reply c j (replies.OfNames name_nexts.Did) = says.Did c j ∷ []
texts_of_reply c j (replies.OfNames (name_nexts.Found f)) = says.Found c j (record { 0 = f }) ∷ []
texts_of_reply c j (replies.OfNames (name_nexts.Names es)) = map (λ (e : Entry). says.Name c j e.name e.file) es ++ says.Did c j ∷ []
texts_of_reply c j (replies.OfNames (name_nexts.Refused refusal)) = names_refused c j refusal ∷ []

-- the client is told by it, of the event j
abbrev pub Tells : ClientNo → ℕ → Text → Type 0
Tells c j text = answer_in text ≡ addressed c j

-- what each call ends with is told to its client, of its event
abbrev pub RepliesAreTold : Type 0
RepliesAreTold = (c : ClientNo) (j : ℕ) (reply : Reply) → AllByRecursion (Tells c j) (texts_of_reply c j reply)
