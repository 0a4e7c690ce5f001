-- Which events a schedule's text has.
use Rattle.std.specs.Prelude.{◌≡◌, ℕ, ◌+◌, ◌-◌, ◌^◌, ◌≤◌, ◌<◌, ◌⊎◌, ◌++◌, Bool, true, false, not, nat_eq, List, [], ◌∷◌, length, filter, map, replicate, codes, decimal, Option, Some, None, if◌then◌else◌}
use Rattle.std.specs.List.{AllByRecursion, slice_split}
use Rattle.jn_base.specs.declared.device.FaultKind.{FaultKind}
use Rattle.jn_base.specs.declared.device.FaultKind.TheVariants as kinds
use Rattle.jn_base.specs.Names.{fault_word}
use Rattle.jn_base.specs.declared.names.ServerNo.{ServerNo}
use Rattle.jn_base.specs.declared.names.Tid.{Tid}
use Rattle.jn_base.specs.declared.op.Command.{Command}
use Rattle.jn_base.specs.declared.op.Command.TheVariants as commands
use Rattle.jn_base.specs.declared.op.Op.{Op}
use Rattle.jn_base.specs.declared.op.Op.TheVariants as ops
use Rattle.jn_schedule.specs.declared.Event.{Event}
use Rattle.jn_schedule.specs.declared.Event.TheVariants as events
use Rattle.jn_text.specs.Words.{hex_word}
use Rattle.jn_base.specs.Limits.{most_blocks}

-- the lines of a text, cut at line feeds; behind the last line feed stands a line that may have no bytes
abbrev pub lines_of : List ℕ → List (List ℕ)
lines_of text = slice_split (λ b. nat_eq b 10) text

abbrev pub has_bytes : List ℕ → Bool
has_bytes word = not (nat_eq (length word) 0)

-- the words of a line, cut at spaces
abbrev pub words_of : List ℕ → List (List ℕ)
words_of line = filter has_bytes (slice_split (λ b. nat_eq b 32) line)

-- `#`
abbrev pub begins_comment : List ℕ → Bool
begins_comment [] = false
begins_comment (b ∷ bs) = nat_eq b 35

-- a line of no words is no event, nor is a comment
abbrev pub is_passed : List (List ℕ) → Bool
is_passed [] = true
is_passed (w ∷ ws) = begins_comment w

-- what one word of an event spells
pub data Part : Type 0 where
  Keyword : List ℕ → Part
  Client : ℕ → Part
  -- the least number that may stand there, the greatest one, and the number
  Number : ℕ → ℕ → ℕ → Part
  Name : Tid → Part
  -- a block's bytes
  Bytes : List ℕ → Part

-- a client is `c1` to `c8`
abbrev pub SpellsClient : ℕ → List ℕ → Type 0
SpellsClient c w = (1 ≤ c) × (c ≤ 8) × (w ≡ 99 ∷ (48 + c) ∷ [])

abbrev pub SpellsNumber : ℕ → ℕ → ℕ → List ℕ → Type 0
SpellsNumber low high n w = (low ≤ n) × (n ≤ high) × (w ≡ decimal n)

-- a transaction is its server, its epoch and its ticket, with full stops between them
pub record SpellsName (t : Tid) (w : List ℕ) : Type 0 where
  pub server : t.server.0 ≤ 7
  pub epoch : t.epoch < 2 ^ 32
  pub ticket : t.ticket < 2 ^ 32
  pub spelled : w ≡ decimal t.server.0 ++ 46 ∷ (decimal t.epoch ++ 46 ∷ decimal t.ticket)

abbrev pub IsByte : ℕ → Type 0
IsByte b = b < 256

-- bytes as a block: zeros follow them
abbrev pub filled : List ℕ → List ℕ
filled bytes = bytes ++ replicate (448 - length bytes) 0

-- the word spells the first bytes of the block, and zeros follow them
pub record SpellsBlock (stored w : List ℕ) : Type 0 where
  pub bytes : List ℕ
  pub few : length bytes ≤ 448
  pub are_bytes : AllByRecursion IsByte bytes
  pub stores : stored ≡ filled bytes
  pub spelled : w ≡ hex_word bytes

abbrev pub SpellsPart : Part → List ℕ → Type 0
SpellsPart (Keyword k) w = w ≡ k
SpellsPart (Client c) w = SpellsClient c w
SpellsPart (Number low high n) w = SpellsNumber low high n w
SpellsPart (Name t) w = SpellsName t w
SpellsPart (Bytes stored) w = SpellsBlock stored w

-- each part by its word
abbrev pub SpellsParts : List Part → List (List ℕ) → Type 0
SpellsParts [] [] = Unit {0}
SpellsParts [] (w ∷ ws) = ⊥
SpellsParts (p ∷ ps) [] = ⊥
SpellsParts (p ∷ ps) (w ∷ ws) = SpellsPart p w × SpellsParts ps ws

abbrev pub server_part : ℕ → Part
server_part s = Number 0 7 s

abbrev pub file_part : ℕ → Part
file_part f = Number 0 (2 ^ 32 - 1) f

abbrev pub block_part : ℕ → Part
block_part p = Number 0 (most_blocks - 1) p

-- a physical page
abbrev pub page_part : ℕ → Part
page_part g = Number 0 20001 g

-- a keyword and a server, and what follows them
abbrev pub at_server : List ℕ → ServerNo → List Part → List Part
at_server word s parts = Keyword word ∷ server_part s.0 ∷ parts

abbrev pub op_parts : ServerNo → Op → List Part
op_parts s (ops.Create f) = at_server (codes "create") s (file_part f.0 ∷ [])
op_parts s (ops.Remove f) = at_server (codes "remove") s (file_part f.0 ∷ [])
op_parts s (ops.Cut f p) = at_server (codes "cut") s (file_part f.0 ∷ block_part p.0 ∷ [])
op_parts s (ops.Read f p) = at_server (codes "read") s (file_part f.0 ∷ block_part p.0 ∷ [])
op_parts s (ops.Write f p stored) = at_server (codes "write") s (file_part f.0 ∷ block_part p.0 ∷ Bytes stored ∷ [])

abbrev pub command_parts : Command → List Part
command_parts (commands.Begin s) = at_server (codes "begin") s []
command_parts (commands.Open s) = at_server (codes "open") s []
command_parts (commands.Do s op) = op_parts s op
command_parts commands.End = Keyword (codes "end") ∷ []
command_parts commands.Abort = Keyword (codes "abort") ∷ []

abbrev pub kind_parts : FaultKind → List Part
kind_parts (kinds.Decay g) = Keyword (codes "decay") ∷ page_part g ∷ []
kind_parts (kinds.Revive g) = Keyword (codes "revive") ∷ page_part g ∷ []
kind_parts kind = Keyword (fault_word kind) ∷ []

-- no word spells it, and no number is in its range
abbrev pub no_word : Part
no_word = Number 1 0 0

-- the words of each event; calls have none yet
abbrev pub parts_of : Event → List Part
parts_of (events.Command c command) = Client c.0 ∷ command_parts command
parts_of (events.Call c s call) = no_word ∷ []
parts_of (events.Again c) = Client c.0 ∷ Keyword (codes "again") ∷ []
parts_of (events.Deliver k) = Keyword (codes "deliver") ∷ Number 0 999999 k ∷ []
parts_of events.Settle = Keyword (codes "settle") ∷ []
parts_of (events.Step s) = at_server (codes "step") s []
parts_of (events.Nudge s) = at_server (codes "nudge") s []
parts_of (events.Timeout s t) = at_server (codes "timeout") s (Name t ∷ [])
parts_of (events.Scrub s) = at_server (codes "scrub") s []
parts_of (events.Decay s g) = at_server (codes "decay") s (page_part g ∷ [])
parts_of (events.Revive s g) = at_server (codes "revive") s (page_part g ∷ [])
parts_of (events.Arm s n kind) = at_server (codes "arm") s (Number 1 1000000 n ∷ kind_parts kind)
parts_of (events.Crash s) = at_server (codes "crash") s []
parts_of (events.Restart s) = at_server (codes "restart") s []
parts_of (events.Show s) = at_server (codes "show") s []

-- the words of a line spell the event
abbrev pub Spells : Event → List (List ℕ) → Type 0
Spells e ws = SpellsParts (parts_of e) ws

-- each line is passed over, or spells the next event
abbrev pub AreLines : List (List (List ℕ)) → List Event → Type 0
AreLines [] es = es ≡ []
AreLines (ws ∷ lines) es = ((is_passed ws ≡ true) × AreLines lines es)
    ⊎ ((e : Event) × (more : List Event) × (es ≡ e ∷ more) × Spells e ws × AreLines lines more)

-- the words of each line
abbrev pub word_lines : List ℕ → List (List (List ℕ))
word_lines text = map words_of (lines_of text)

-- of lines of which the first has a number, the line of the event of an index, from 0
abbrev pub event_line : ℕ → List (List (List ℕ)) → ℕ → Option ℕ
event_line first [] index = None
event_line first (ws ∷ lines) index =
    if is_passed ws then event_line (first + 1) lines index
    else (if nat_eq index 0 then Some first else event_line (first + 1) lines (index - 1))

-- the line of a text, from 1, at which the event of an index stands
abbrev pub line_of_event : List ℕ → ℕ → Option ℕ
line_of_event text index = event_line 1 (word_lines text) index

-- the text is a schedule with these events
abbrev pub IsSchedule : List ℕ → List Event → Type 0
IsSchedule text es = AreLines (word_lines text) es
