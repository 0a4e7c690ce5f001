-- How the words of a line are read, one after the other: an event, or a fault.
use Rattle.std.specs.Prelude.{◌≡◌, ℕ, ◌+◌, ◌-◌, ◌^◌, ◌++◌, ◌≤◌, ◌<◌, Bool, true, not, ◌&&◌, nat_eq, nat_le, nat_lt, List, [], ◌∷◌, length, map, drop, Option, Some, None, Result, Ok, Err, option_and_then, option_map, ok_or, if◌then◌else◌, codes, decimal}
use Rattle.std.specs.Borrow.{Bor}
use Rattle.std.specs.Str.Parse.{digits_value}
use Rattle.hex.specs.Hex.{decode_of, encode_lower}
use Rattle.hex.specs.declared.error.FromHexError.{FromHexError}
use Rattle.jn_base.specs.declared.device.FaultKind.{FaultKind}
use Rattle.jn_base.specs.declared.device.FaultKind.TheVariants as kinds
use Rattle.jn_base.specs.declared.names.BlockNo.{BlockNo}
use Rattle.jn_base.specs.declared.names.ClientNo.{ClientNo}
use Rattle.jn_base.specs.declared.names.FileNo.{FileNo}
use Rattle.jn_base.specs.declared.names.ServerNo.{ServerNo}
use Rattle.jn_base.specs.declared.names.Tid.{Tid}
use Rattle.jn_base.specs.declared.op.Command.{Command}
use Rattle.jn_base.specs.declared.op.Command.TheVariants as commands
use Rattle.jn_base.specs.declared.op.Op.TheVariants as ops
use Rattle.jn_schedule.specs.declared.Event.{Event}
use Rattle.jn_schedule.specs.declared.Event.TheVariants as events
use Rattle.jn_schedule.specs.declared.reading.Verb.{Verb}
use Rattle.jn_schedule.specs.declared.reading.Verb.TheVariants as verbs
use Rattle.jn_schedule.specs.declared.reading.Opening.{Opening}
use Rattle.jn_schedule.specs.declared.reading.Opening.TheVariants as openings
use Rattle.jn_schedule.specs.declared.reading.Kind.{Kind}
use Rattle.jn_schedule.specs.declared.reading.Kind.TheVariants as armed
use Rattle.jn_schedule.specs.declared.fault.LineFault.{LineFault}
use Rattle.jn_schedule.specs.declared.fault.LineFault.TheVariants as faults
use Rattle.jn_schedule.specs.declared.fault.ReadFault.{ReadFault}
use Rattle.jn_schedule.specs.declared.fault.ReadFault.TheVariants as readings
use Rattle.jn_schedule.specs.declared.fault.ParseFault.{ParseFault}
use Rattle.jn_schedule.specs.declared.fault.ParseFault.TheVariants as parse
use Rattle.std.specs.Global.{Vec}
use Rattle.jn_schedule.specs.Faults.{same, line_fault_number}
use Rattle.jn_schedule.specs.Grammar.{filled, is_passed, lines_of}
use Rattle.jn_base.specs.Limits.{most_blocks}

abbrev pub texts : List (Bor (List ℕ)) → List (List ℕ)
texts ws = map (λ w. w.now) ws

infixl 10 ◌>>=◌
abbrev pub ◌>>=◌ : {A B : Type 0} → Result A LineFault → (A → Result B LineFault) → Result B LineFault
(Ok x) >>= f = f x
(Err e) >>= f = Err e

infixl 10 ◌>>?◌
abbrev pub ◌>>?◌ : {A B : Type 0} → Option A → (A → Option B) → Option B
o >>? f = option_and_then f o

-- ---- words

unfoldable pub number_in : ℕ → ℕ → List ℕ → Option ℕ
number_in low high w =
    if nat_le low (digits_value 10 w) && (nat_le (digits_value 10 w) high && same w (decimal (digits_value 10 w)))
    then Some (digits_value 10 w) else None

unfoldable pub value_of : ℕ → ℕ → List ℕ → Result ℕ LineFault
value_of low high w = ok_or (number_in low high w) faults.Value

unfoldable pub client_of : List ℕ → Option ClientNo
client_of (a ∷ b ∷ []) = if nat_eq a 99 && (nat_le 49 b && nat_le b 56) then Some (record { 0 = b - 48 }) else None
client_of _ = None

unfoldable pub server_in : List ℕ → Option ServerNo
server_in w = option_map (λ n. record { 0 = n }) (number_in 0 7 w)

unfoldable pub server_of : List ℕ → Result ServerNo LineFault
server_of w = ok_or (server_in w) faults.Value

unfoldable pub file_of : List ℕ → Result FileNo LineFault
file_of w = value_of 0 (2 ^ 32 - 1) w >>= λ n. Ok (record { 0 = n })

unfoldable pub block_no_of : List ℕ → Result BlockNo LineFault
block_no_of w = value_of 0 (most_blocks - 1) w >>= λ n. Ok (record { 0 = n })

unfoldable pub page_of : List ℕ → Result ℕ LineFault
page_of w = value_of 0 20001 w

abbrev pub with_first : ℕ → Option (List ℕ × List ℕ) → Option (List ℕ × List ℕ)
with_first b cut = option_map (λ x. (b ∷ x.0, x.1)) cut

unfoldable pub cut_at_stop : List ℕ → Option (List ℕ × List ℕ)
cut_at_stop [] = None
cut_at_stop (b ∷ bs) = if nat_eq b 46 then Some ([], bs) else with_first b (cut_at_stop bs)

unfoldable pub name_in : List ℕ → Option Tid
name_in w = cut_at_stop w >>? λ front. cut_at_stop front.1 >>? λ back.
    server_in front.0 >>? λ s. number_in 0 (2 ^ 32 - 1) back.0 >>? λ e. number_in 0 (2 ^ 32 - 1) back.1 >>? λ t.
    Some (record { server = s; epoch = e; ticket = t })

unfoldable pub name_of : List ℕ → Result Tid LineFault
name_of w = ok_or (name_in w) faults.Value

abbrev pub block_if : List ℕ → Result (List ℕ) FromHexError → Option (List ℕ)
block_if w (Ok bytes) = if nat_lt 0 (length bytes) && (nat_le (length bytes) 448 && same w (encode_lower bytes)) then Some (filled bytes) else None
block_if w (Err e) = None

unfoldable pub block_in : List ℕ → Option (List ℕ)
block_in w = if same w (45 ∷ []) then Some (filled []) else block_if w (decode_of w)

unfoldable pub bytes_of : List ℕ → Result (List ℕ) LineFault
bytes_of w = ok_or (block_in w) faults.Bytes

-- ---- what follows the keywords

unfoldable pub nothing : List (List ℕ) → Result (Unit {0}) LineFault
nothing [] = Ok tt
nothing _ = Err faults.Count

unfoldable pub one : List (List ℕ) → Result (Unit {0}) LineFault
one (w ∷ []) = Ok tt
one _ = Err faults.Count

unfoldable pub server_alone : List (List ℕ) → Result ServerNo LineFault
server_alone (s ∷ []) = server_of s
server_alone _ = Err faults.Count

unfoldable pub page_alone : List (List ℕ) → Result ℕ LineFault
page_alone (g ∷ []) = page_of g
page_alone _ = Err faults.Count

unfoldable pub message_alone : List (List ℕ) → Result ℕ LineFault
message_alone (k ∷ []) = value_of 0 999999 k
message_alone _ = Err faults.Count

unfoldable pub server_file : List (List ℕ) → Result (ServerNo × FileNo) LineFault
server_file (s ∷ f ∷ []) = server_of s >>= λ s. file_of f >>= λ f. Ok (s, f)
server_file _ = Err faults.Count

unfoldable pub server_file_block : List (List ℕ) → Result (ServerNo × FileNo × BlockNo) LineFault
server_file_block (s ∷ f ∷ p ∷ []) = server_of s >>= λ s. file_of f >>= λ f. block_no_of p >>= λ p. Ok (s, f, p)
server_file_block _ = Err faults.Count

unfoldable pub write_of : List (List ℕ) → Result (ServerNo × FileNo × BlockNo × List ℕ) LineFault
write_of (s ∷ f ∷ p ∷ b ∷ []) = server_of s >>= λ s. file_of f >>= λ f. block_no_of p >>= λ p. bytes_of b >>= λ b. Ok (s, f, p, b)
write_of _ = Err faults.Count

unfoldable pub written : List (List ℕ) → Result Command LineFault
written args = write_of args >>= λ x. Ok (commands.Do x.0 (ops.Write x.1 x.2 x.3))

unfoldable pub server_name : List (List ℕ) → Result (ServerNo × Tid) LineFault
server_name (s ∷ t ∷ []) = server_of s >>= λ s. name_of t >>= λ t. Ok (s, t)
server_name _ = Err faults.Count

unfoldable pub server_page : List (List ℕ) → Result (ServerNo × ℕ) LineFault
server_page (s ∷ g ∷ []) = server_of s >>= λ s. page_of g >>= λ g. Ok (s, g)
server_page _ = Err faults.Count

-- ---- events

-- what the table has for a word
abbrev pub lookup : {A : Type 0} → List (List ℕ × A) → List ℕ → Option A
lookup [] w = None
lookup (entry ∷ table) w = if same w entry.0 then Some entry.1 else lookup table w

abbrev pub verb_words : List (List ℕ × Verb)
verb_words = (codes "begin", verbs.Begin) ∷ (codes "open", verbs.Open) ∷ (codes "create", verbs.Create) ∷ (codes "remove", verbs.Remove)
    ∷ (codes "cut", verbs.Cut) ∷ (codes "read", verbs.Read) ∷ (codes "write", verbs.Write) ∷ (codes "end", verbs.End) ∷ (codes "abort", verbs.Abort) ∷ []

unfoldable pub verb_of : List ℕ → Option Verb
verb_of w = lookup verb_words w

unfoldable pub command_of : Verb → List (List ℕ) → Result Command LineFault
command_of verbs.Begin args = server_alone args >>= λ s. Ok (commands.Begin s)
command_of verbs.Open args = server_alone args >>= λ s. Ok (commands.Open s)
command_of verbs.Create args = server_file args >>= λ x. Ok (commands.Do x.0 (ops.Create x.1))
command_of verbs.Remove args = server_file args >>= λ x. Ok (commands.Do x.0 (ops.Remove x.1))
command_of verbs.Cut args = server_file_block args >>= λ x. Ok (commands.Do x.0 (ops.Cut x.1 x.2))
command_of verbs.Read args = server_file_block args >>= λ x. Ok (commands.Do x.0 (ops.Read x.1 x.2))
command_of verbs.Write args = written args
command_of verbs.End args = nothing args >>= λ _. Ok commands.End
command_of verbs.Abort args = nothing args >>= λ _. Ok commands.Abort

unfoldable pub client_event : ClientNo → List (List ℕ) → Result Event LineFault
client_event c [] = Err faults.Count
client_event c (w ∷ args) = if same w (codes "again") then (nothing args >>= λ _. Ok (events.Again c))
    else (ok_or (verb_of w) faults.Keyword >>= λ verb. command_of verb args >>= λ command. Ok (events.Command c command))

abbrev pub kind_words : List (List ℕ × Kind)
kind_words = (codes "soft", armed.Alone kinds.Soft) ∷ (codes "null", armed.Alone kinds.Null) ∷ (codes "bad", armed.Alone kinds.Bad)
    ∷ (codes "stop-before", armed.Alone kinds.StopBefore) ∷ (codes "stop-torn", armed.Alone kinds.StopTorn) ∷ (codes "stop-after", armed.Alone kinds.StopAfter)
    ∷ (codes "decay", armed.Decay) ∷ (codes "revive", armed.Revive) ∷ []

unfoldable pub kind_of : List ℕ → Option Kind
kind_of w = lookup kind_words w

unfoldable pub has_count : Kind → List (List ℕ) → Result (Unit {0}) LineFault
has_count (armed.Alone fault) args = nothing args
has_count armed.Decay args = one args
has_count armed.Revive args = one args

unfoldable pub fault_kind_of : Kind → List (List ℕ) → Result FaultKind LineFault
fault_kind_of (armed.Alone fault) args = nothing args >>= λ _. Ok fault
fault_kind_of armed.Decay args = page_alone args >>= λ g. Ok (kinds.Decay g)
fault_kind_of armed.Revive args = page_alone args >>= λ g. Ok (kinds.Revive g)

unfoldable pub arm_of : List (List ℕ) → Result Event LineFault
arm_of (server ∷ call ∷ word ∷ args) = ok_or (kind_of word) faults.Keyword >>= λ kind. has_count kind args >>= λ _.
    server_of server >>= λ s. value_of 1 1000000 call >>= λ n. fault_kind_of kind args >>= λ fault. Ok (events.Arm s n fault)
arm_of _ = Err faults.Count

abbrev pub opening_words : List (List ℕ × Opening)
opening_words = (codes "deliver", openings.Deliver) ∷ (codes "settle", openings.Settle) ∷ (codes "step", openings.Step) ∷ (codes "nudge", openings.Nudge)
    ∷ (codes "timeout", openings.Timeout) ∷ (codes "scrub", openings.Scrub) ∷ (codes "decay", openings.Decay) ∷ (codes "revive", openings.Revive)
    ∷ (codes "crash", openings.Crash) ∷ (codes "restart", openings.Restart) ∷ (codes "show", openings.Show) ∷ []

unfoldable pub opening_of : List ℕ → Option Opening
opening_of w = lookup opening_words w

unfoldable pub other_event : Opening → List (List ℕ) → Result Event LineFault
other_event openings.Deliver args = message_alone args >>= λ k. Ok (events.Deliver k)
other_event openings.Settle args = nothing args >>= λ _. Ok events.Settle
other_event openings.Step args = server_alone args >>= λ s. Ok (events.Step s)
other_event openings.Nudge args = server_alone args >>= λ s. Ok (events.Nudge s)
other_event openings.Timeout args = server_name args >>= λ x. Ok (events.Timeout x.0 x.1)
other_event openings.Scrub args = server_alone args >>= λ s. Ok (events.Scrub s)
other_event openings.Decay args = server_page args >>= λ x. Ok (events.Decay x.0 x.1)
other_event openings.Revive args = server_page args >>= λ x. Ok (events.Revive x.0 x.1)
other_event openings.Crash args = server_alone args >>= λ s. Ok (events.Crash s)
other_event openings.Restart args = server_alone args >>= λ s. Ok (events.Restart s)
other_event openings.Show args = server_alone args >>= λ s. Ok (events.Show s)

unfoldable pub no_client_event : List ℕ → List (List ℕ) → Result Event LineFault
no_client_event w args = if same w (codes "arm") then arm_of args else (ok_or (opening_of w) faults.Keyword >>= λ opening. other_event opening args)

unfoldable pub by_client : Option ClientNo → List ℕ → List (List ℕ) → Result Event LineFault
by_client (Some c) w args = client_event c args
by_client None w args = no_client_event w args

unfoldable pub event_of : List (List ℕ) → Result Event LineFault
event_of [] = Err faults.Count
event_of (w ∷ args) = by_client (client_of w) w args

-- ---- lines

-- the events of one line: none, or one
unfoldable pub read_line : List (List ℕ) → Result (List Event) LineFault
read_line ws = if is_passed ws then Ok [] else (event_of ws >>= λ e. Ok (e ∷ []))

abbrev pub in_front : List Event → Result (List Event) (ℕ × LineFault) → Result (List Event) (ℕ × LineFault)
in_front es (Ok more) = Ok (es ++ more)
in_front es (Err e) = Err e

-- a line's events before those of the lines behind it
abbrev pub then_lines : ℕ → Result (List Event) LineFault → Result (List Event) (ℕ × LineFault) → Result (List Event) (ℕ × LineFault)
then_lines number (Ok es) rest = in_front es rest
then_lines number (Err fault) rest = Err (number, fault)

-- the events of lines of which the first has a number, or the first line at fault and its fault
unfoldable pub read_lines : ℕ → List (List (List ℕ)) → Result (List Event) (ℕ × LineFault)
read_lines number [] = Ok []
read_lines number (ws ∷ lines) = then_lines number (read_line ws) (read_lines (number + 1) lines)

-- ---- what the program answers

-- what is read of a line, unless memory ran out
abbrev pub TellsRead : {A : Type 0} → Result A ReadFault → Result A LineFault → Type 0
TellsRead (Ok x) read = read ≡ Ok x
TellsRead (Err readings.Memory) read = Unit {0}
TellsRead (Err (readings.Line fault)) read = read ≡ Err fault

-- what reading reported, unless memory ran out
abbrev pub Fails : ParseFault → Result (List Event) (ℕ × LineFault) → Type 0
Fails parse.Memory read = Unit {0}
Fails (parse.Syntax line number) read = (fault : LineFault) × (number ≡ line_fault_number fault) × (read ≡ Err (line, fault))

-- the events are those that were read, or those that were read are too many
abbrev pub GivesUpTo : ℕ → Result (Option (Vec Event)) ParseFault → Result (List Event) (ℕ × LineFault) → Type 0
GivesUpTo most (Ok (Some v)) read = (read ≡ Ok v.items) × (length v.items ≤ most)
GivesUpTo most (Ok None) read = (es : List Event) × (read ≡ Ok es) × (most < length es)
GivesUpTo most (Err e) read = Fails e read

-- the events of a line of this number are added, or its fault is reported, unless memory ran out
abbrev pub AddsLine : Result (Unit {0}) ParseFault → ℕ → Result (List Event) LineFault → List Event → List Event → Type 0
AddsLine (Ok x) at read before after = (es : List Event) × (read ≡ Ok es) × (after ≡ before ++ es)
AddsLine (Err parse.Memory) at read before after = Unit {0}
AddsLine (Err (parse.Syntax line number)) at read before after = (fault : LineFault) × (number ≡ line_fault_number fault) × (line ≡ at) × (read ≡ Err fault)

-- ---- places of a text

-- the byte isn't among the bytes
abbrev pub lacks : ℕ → List ℕ → Bool
lacks byte [] = true
lacks byte (b ∷ bs) = not (nat_eq b byte) && lacks byte bs

-- the lines from a place on; behind the last line there is none
abbrev pub lines_from : ℕ → List ℕ → List (List ℕ)
lines_from at text = if nat_le at (length text) then lines_of (drop at text) else []
