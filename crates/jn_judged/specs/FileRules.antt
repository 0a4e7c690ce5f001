-- When a line of a report breaks a rule of the files: it gives another reply than the order of commits (10), or prints other files than
-- the commits leave (11).
use Rattle.std.specs.Prelude.{ℕ, ◌+◌, Bool, true, false, not, ◌&&◌, ◌||◌, nat_eq, if◌then◌else◌, List, [], ◌∷◌, ◌++◌, map, length, Option, Some, None, is_some}
use Rattle.std.specs.List.{list_any}
use Rattle.std.specs.Str.{bytes_eq}
use Rattle.jn_base.specs.declared.names.ClientNo.{ClientNo}
use Rattle.jn_base.specs.declared.names.Tid.{Tid}
use Rattle.jn_base.specs.declared.names.LockUnit.TheVariants.{File, Block}
use Rattle.jn_base.specs.declared.op.Answer.{Answer}
use Rattle.jn_base.specs.declared.op.Answer.TheVariants as answers
use Rattle.jn_base.specs.Names.{file_eq}
use Rattle.jn_order.specs.Files.{AllFiles}
use Rattle.jn_bytes.specs.declared.next.Next.{Next}
use Rattle.jn_bytes.specs.declared.next.Next.TheVariants as byte_nexts
use Rattle.jn_bytes.specs.declared.next.ByteRefusal.{ByteRefusal}
use Rattle.jn_bytes.specs.declared.next.ByteRefusal.TheVariants as byte_refusals
use Rattle.jn_names.specs.declared.entry.Entry.{Entry}
use Rattle.jn_names.specs.declared.next.NameNext.{NameNext}
use Rattle.jn_names.specs.declared.next.NameNext.TheVariants as name_nexts
use Rattle.jn_names.specs.declared.next.NameRefusal.{NameRefusal}
use Rattle.jn_names.specs.declared.next.NameRefusal.TheVariants as name_refusals
use Rattle.jn_calls.specs.declared.reply.Reply.{Reply}
use Rattle.jn_calls.specs.declared.reply.Reply.TheVariants as replies
use Rattle.jn_calls.specs.Calls.{reply_to}
use Rattle.jn_replay.specs.declared.replied.Replied.{Replied}
use Rattle.jn_replay.specs.Replies.{all_files_by, files_by_all}
use Rattle.jn_schedule.specs.declared.Event.{Event}
use Rattle.jn_schedule.specs.declared.Event.TheVariants.{Command, Call, Show}
use Rattle.jn_report.specs.declared.line.When.{When}
use Rattle.jn_report.specs.declared.line.When.TheVariants.{Event as AtEvent, End}
use Rattle.jn_report.specs.declared.line.Text.{Text}
use Rattle.jn_report.specs.declared.line.Text.TheVariants as says
use Rattle.jn_report.specs.declared.line.Line.{Line}
use Rattle.jn_report.specs.Kinds.{is_no_show, is_locked}
use Rattle.jn_serial.specs.Lines.{history_of, lines_at, lines_before, says as any_says, event_at}
use Rattle.jn_serial.specs.Order.{reply_told, first_reply, done_in, done_of, replay}
use Rattle.jn_judged.specs.Rules.{Rule}

-- ---- answers of the order of commits

-- what was replied from the files: its client, the number of its event, and what was done
pub record Answered : Type 0 where
  pub client : ClientNo
  pub number : ℕ
  pub done : Replied

abbrev pub answered_by : ClientNo → ℕ → List Replied → List Answered
answered_by c j rs = map (λ (r : Replied). record { client = c; number = j; done = r }) rs

-- what a client did in its order's event
abbrev pub done_by : ℕ → Event → List Replied → List Answered
done_by j (Command c command) rs = answered_by c j rs
done_by j (Call c s call) rs = answered_by c j rs
done_by j _ rs = []

-- what T did in these events, numbered from j on
abbrev pub answered_from : Tid → List Line → ℕ → List Event → List Answered
answered_from t lines j [] = []
answered_from t lines j (e ∷ es) = done_by j e (done_in t lines j e) ++ answered_from t lines (j + 1) es

-- only answers from the files are compared
abbrev pub same_answer : Answer → Answer → Bool
same_answer answers.Did answers.Did = true
same_answer (answers.Read a) (answers.Read b) = bytes_eq a b
same_answer answers.NoFile answers.NoFile = true
same_answer answers.Exists answers.Exists = true
same_answer _ _ = false

abbrev pub same_byte_refusal : ByteRefusal → ByteRefusal → Bool
same_byte_refusal (byte_refusals.Operation a) (byte_refusals.Operation b) = same_answer a b
same_byte_refusal byte_refusals.NotBytes byte_refusals.NotBytes = true
same_byte_refusal (byte_refusals.PastEnd n) (byte_refusals.PastEnd m) = nat_eq n m
same_byte_refusal _ _ = false

abbrev pub same_next : Next → Next → Bool
same_next (byte_nexts.Done a) (byte_nexts.Done b) = bytes_eq a b
same_next byte_nexts.Did byte_nexts.Did = true
same_next (byte_nexts.Refused a) (byte_nexts.Refused b) = same_byte_refusal a b
same_next _ _ = false

abbrev pub same_entries : List Entry → List Entry → Bool
same_entries [] [] = true
same_entries (a ∷ xs) (b ∷ ys) = (bytes_eq a.name b.name && file_eq a.file b.file) && same_entries xs ys
same_entries _ _ = false

abbrev pub same_name_refusal : NameRefusal → NameRefusal → Bool
same_name_refusal (name_refusals.Operation a) (name_refusals.Operation b) = same_answer a b
same_name_refusal name_refusals.BucketFull name_refusals.BucketFull = true
same_name_refusal name_refusals.NoName name_refusals.NoName = true
same_name_refusal name_refusals.NotDirectory name_refusals.NotDirectory = true
same_name_refusal _ _ = false

abbrev pub same_name_next : NameNext → NameNext → Bool
same_name_next name_nexts.Did name_nexts.Did = true
same_name_next (name_nexts.Found f) (name_nexts.Found g) = nat_eq f g
same_name_next (name_nexts.Names xs) (name_nexts.Names ys) = same_entries xs ys
same_name_next (name_nexts.Refused a) (name_nexts.Refused b) = same_name_refusal a b
same_name_next _ _ = false

abbrev pub same_reply : Reply → Reply → Bool
same_reply (replies.Answered a) (replies.Answered b) = same_answer a b
same_reply (replies.OfBytes a) (replies.OfBytes b) = same_next a b
same_reply (replies.OfNames a) (replies.OfNames b) = same_name_next a b
same_reply _ _ = false

abbrev pub one_unless : Bool → Answered → List Answered
one_unless same d = if same then [] else d ∷ []

-- what was replied, one after another, where the files give another reply
abbrev pub differing : AllFiles → List Answered → List Answered
differing files [] = []
differing files (d ∷ ds) =
    one_unless (same_reply (reply_to d.done.wish (files d.done.server)) d.done.reply) d
    ++ differing (all_files_by d.done.server d.done.wish files) ds

-- and of these transactions, one after another
abbrev pub differing_in : AllFiles → List Event → List Line → List Tid → List Answered
differing_in files events lines [] = []
differing_in files events lines (t ∷ ts) =
    differing files (answered_from t lines 1 events) ++ differing_in (files_by_all (done_of events lines t) files) events lines ts

-- the text is the first one that gives the reply from the files; whether it gives one doesn't depend on names that were listed before
abbrev pub answers_first : List Line → Text → Answered → Bool
answers_first before text d = is_some (reply_told d.done.wish d.client d.number [] text) && not (is_some (first_reply d.done.wish d.client d.number [] before))

-- the line gives a reply to a committed transaction, and the commits run one after another give another one
abbrev pub breaks_order : AllFiles → List Event → Rule
breaks_order files events before l after = let lines = before ++ l ∷ after in
    list_any (answers_first before l.text) (differing_in files events lines (history_of lines))

-- ---- what is shown

abbrev pub is_stored_as : List ℕ → Option (List ℕ) → Bool
is_stored_as bytes None = false
is_stored_as bytes (Some stored) = bytes_eq stored bytes

-- the text prints a file that isn't there, or a page that isn't stored so
abbrev pub prints_wrongly : AllFiles → Text → Bool
prints_wrongly files (says.File s f) = not (is_some (files s (File f)))
prints_wrongly files (says.Page s f p bytes) = not (is_stored_as bytes (files s (Block f p)))
prints_wrongly files _ = false

abbrev pub is_show : Option Event → Bool
is_show (Some (Show s)) = true
is_show _ = false

-- files are printed there: by a show that was neither refused nor stopped, or at the end
abbrev pub has_printed : List Event → List Line → When → Bool
has_printed events lines (AtEvent i) = is_show (event_at events i) && not (any_says is_no_show (lines_at (AtEvent i) lines))
has_printed events lines End = true

-- the files that are to be printed there: those that the commits of earlier events leave
abbrev pub files_when : AllFiles → List Event → List Line → When → AllFiles
files_when files events lines (AtEvent i) = replay files events lines (history_of (lines_before (AtEvent i) lines))
files_when files events lines End = replay files events lines (history_of lines)

abbrev pub is_locked_at_end : When → Text → Bool
is_locked_at_end End text = is_locked text
is_locked_at_end (AtEvent i) text = false

-- a last line that counts the commits wrongly
abbrev pub miscounts : List Line → Text → List Line → Bool
miscounts lines (says.Commits n) [] = not (nat_eq n (length (history_of lines)))
miscounts lines text after = false

-- The line prints what isn't in the files, shows something as locked at the end, or miscounts the commits. What isn't printed at all
-- is no line's fault here; `LeavesOut` of `Faults` tells which line is at fault then.
abbrev pub breaks_shows : AllFiles → List Event → Rule
breaks_shows files events before l after = let lines = before ++ l ∷ after in
    has_printed events lines l.when && prints_wrongly (files_when files events lines l.when) l.text
    || (is_locked_at_end l.when l.text || miscounts lines l.text after)
