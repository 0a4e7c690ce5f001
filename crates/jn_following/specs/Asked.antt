-- What clients wait for, from a list of what they asked and were answered.
use Rattle.std.specs.Prelude.{List, [], ◌∷◌}
use Rattle.jn_following.specs.declared.following.Entry.{Entry}
use Rattle.jn_serial.specs.Follows.{Outstanding, nothing_asked, with_asked}

abbrev pub outstanding_then : Outstanding → List Entry → Outstanding
outstanding_then out [] = out
outstanding_then out (x ∷ xs) = outstanding_then (with_asked out x.client x.asked) xs

-- the last entry of a client counts
abbrev pub outstanding_of : List Entry → Outstanding
outstanding_of entries = outstanding_then nothing_asked entries
