-- Where a text is no schedule: its first fault.
use Rattle.std.specs.Prelude.{◌≡◌, ℕ, ◌+◌, ◌-◌, ◌^◌, ◌⊎◌, ◌++◌, Bool, true, false, ◌&&◌, nat_eq, nat_le, List, [], ◌∷◌, length, Result, Ok, Err, MatchResult, MatchBool, if◌then◌else◌, codes}
use Rattle.std.specs.Cmp.Lexicographic.{pointwise}
use Rattle.jn_base.specs.declared.names.Tid.{Tid}
use Rattle.jn_schedule.specs.declared.Event.{Event}
use Rattle.jn_schedule.specs.declared.fault.LineFault.{LineFault}
use Rattle.jn_schedule.specs.declared.fault.LineFault.TheVariants as faults
use Rattle.jn_schedule.specs.Grammar.{SpellsNumber, SpellsName, SpellsBlock, Spells, is_passed, word_lines}
use Rattle.jn_base.specs.Limits.{most_blocks}

-- what has to stand in a place of a line
pub data Place : Type 0 where
  -- a word that told what the line is
  Keyword : Place
  -- a number, from the least to the greatest one
  Number : ℕ → ℕ → Place
  Name : Place
  Bytes : Place

abbrev pub Fills : Place → List ℕ → Type 0
Fills Keyword w = Unit {0}
Fills (Number low high) w = (n : ℕ) × SpellsNumber low high n w
Fills Name w = (t : Tid) × SpellsName t w
Fills Bytes w = (stored : List ℕ) × SpellsBlock stored w

-- the fault of a place that isn't filled
abbrev pub fault_at : Place → LineFault
fault_at Bytes = faults.Bytes
fault_at _ = faults.Value

abbrev pub same : List ℕ → List ℕ → Bool
same a b = pointwise nat_eq a b

abbrev pub server_place : Place
server_place = Number 0 7

abbrev pub file_place : Place
file_place = Number 0 (2 ^ 32 - 1)

abbrev pub block_place : Place
block_place = Number 0 (most_blocks - 1)

abbrev pub page_place : Place
page_place = Number 0 20001

-- the commands of a client, and what follows each
abbrev pub commands : List (List ℕ × List Place)
commands =
    (codes "again", [])
    ∷ (codes "begin", server_place ∷ [])
    ∷ (codes "open", server_place ∷ [])
    ∷ (codes "create", server_place ∷ file_place ∷ [])
    ∷ (codes "remove", server_place ∷ file_place ∷ [])
    ∷ (codes "cut", server_place ∷ file_place ∷ block_place ∷ [])
    ∷ (codes "read", server_place ∷ file_place ∷ block_place ∷ [])
    ∷ (codes "write", server_place ∷ file_place ∷ block_place ∷ Bytes ∷ [])
    ∷ (codes "end", [])
    ∷ (codes "abort", [])
    ∷ []

-- the kinds of faults of a device, and what follows each
abbrev pub kinds : List (List ℕ × List Place)
kinds =
    (codes "soft", [])
    ∷ (codes "null", [])
    ∷ (codes "bad", [])
    ∷ (codes "stop-before", [])
    ∷ (codes "stop-torn", [])
    ∷ (codes "stop-after", [])
    ∷ (codes "decay", page_place ∷ [])
    ∷ (codes "revive", page_place ∷ [])
    ∷ []

-- the other events but `arm`, and what follows each
abbrev pub others : List (List ℕ × List Place)
others =
    (codes "deliver", Number 0 999999 ∷ [])
    ∷ (codes "settle", [])
    ∷ (codes "step", server_place ∷ [])
    ∷ (codes "nudge", server_place ∷ [])
    ∷ (codes "timeout", server_place ∷ Name ∷ [])
    ∷ (codes "scrub", server_place ∷ [])
    ∷ (codes "decay", server_place ∷ page_place ∷ [])
    ∷ (codes "revive", server_place ∷ page_place ∷ [])
    ∷ (codes "crash", server_place ∷ [])
    ∷ (codes "restart", server_place ∷ [])
    ∷ (codes "show", server_place ∷ [])
    ∷ []

-- the places of a line whose last keyword is this one, behind those in front
abbrev pub places_by : List (List ℕ × List Place) → List Place → List ℕ → Result (List Place) LineFault
places_by [] front w = Err faults.Keyword
places_by (entry ∷ table) front w = if same w entry.0 then Ok (front ++ entry.1) else places_by table front w

abbrev pub command_places : List (List ℕ) → Result (List Place) LineFault
command_places [] = Err faults.Count
command_places (w ∷ ws) = places_by commands (Keyword ∷ Keyword ∷ []) w

abbrev pub arm_places : List (List ℕ) → Result (List Place) LineFault
arm_places (server ∷ call ∷ kind ∷ ws) = places_by kinds (Keyword ∷ server_place ∷ Number 1 1000000 ∷ Keyword ∷ []) kind
arm_places _ = Err faults.Count

-- `c1` to `c8`
abbrev pub is_client_word : List ℕ → Bool
is_client_word (a ∷ b ∷ []) = nat_eq a 99 && (nat_le 49 b && nat_le b 56)
is_client_word _ = false

-- the places of a line with these words, told by its keywords
abbrev pub places_of : List (List ℕ) → Result (List Place) LineFault
places_of [] = Err faults.Count
places_of (w ∷ ws) = if is_client_word w then command_places ws
    else (if same w (codes "arm") then arm_places ws else places_by others (Keyword ∷ []) w)

-- the first place that isn't filled has this fault
abbrev pub FirstUnfilled : List Place → List (List ℕ) → LineFault → Type 0
FirstUnfilled [] ws fault = ⊥
FirstUnfilled (p ∷ ps) [] fault = ⊥
FirstUnfilled (p ∷ ps) (w ∷ ws) fault = (Fills p w × FirstUnfilled ps ws fault) ⊎ (¬ Fills p w × (fault ≡ fault_at p))

abbrev pub PlacesFault : List Place → List (List ℕ) → LineFault → Type 0
PlacesFault places ws fault = MatchBool (nat_eq (length places) (length ws)) (FirstUnfilled places ws fault) (fault ≡ faults.Count)

-- what is wrong with the words of a line
abbrev pub HasFault : List (List ℕ) → LineFault → Type 0
HasFault ws fault = MatchResult (places_of ws) (λ places. PlacesFault places ws fault) (λ other. fault ≡ other)

abbrev pub line_fault_number : LineFault → ℕ
line_fault_number faults.Keyword = 1
line_fault_number faults.Count = 2
line_fault_number faults.Value = 3
line_fault_number faults.Bytes = 4

-- of lines of which the first has a number, the first line at fault, and what is wrong with it
abbrev pub LinesFault : ℕ → List (List (List ℕ)) → ℕ → LineFault → Type 0
LinesFault first [] line fault = ⊥
LinesFault first (ws ∷ lines) line fault = ((is_passed ws ≡ false) × (line ≡ first) × HasFault ws fault)
    ⊎ (((is_passed ws ≡ true) ⊎ ((e : Event) × Spells e ws)) × LinesFault (first + 1) lines line fault)

-- the first line at fault of a text, and the number of its fault; lines count from 1
abbrev pub IsFirstFault : List ℕ → ℕ → ℕ → Type 0
IsFirstFault text line number = (fault : LineFault) × (number ≡ line_fault_number fault) × LinesFault 1 (word_lines text) line fault
