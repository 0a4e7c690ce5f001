-- The ranges of what the words of an event spell.
use Rattle.std.specs.Prelude.{◌≡◌, ◌≤◌, ◌<◌, ◌^◌, List, [], ◌∷◌, length}
use Rattle.jn_schedule.specs.declared.Event.{Event}
use Rattle.jn_schedule.specs.Grammar.{Part, Keyword, Client, Number, Name, Bytes, parts_of}

abbrev pub PartInRange : Part → Type 0
PartInRange (Keyword k) = Unit {0}
PartInRange (Client c) = (1 ≤ c) × (c ≤ 8)
PartInRange (Number low high n) = (low ≤ n) × (n ≤ high)
PartInRange (Name t) = (t.server.0 ≤ 7) × (t.epoch < 2 ^ 32) × (t.ticket < 2 ^ 32)
PartInRange (Bytes stored) = length stored ≡ 448

abbrev pub PartsInRange : List Part → Type 0
PartsInRange [] = Unit {0}
PartsInRange (p ∷ ps) = PartInRange p × PartsInRange ps

-- clients are 1 to 8, servers 0 to 7, blocks below `most_blocks`, pages 0 to 20001, calls 1 to 1000000, messages 0 to 999999
abbrev pub EventInRange : Event → Type 0
EventInRange e = PartsInRange (parts_of e)
