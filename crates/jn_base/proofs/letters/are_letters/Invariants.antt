use Rattle.std.proofs.Common.{◌≡◌, drop}
use Rattle.std.specs.List.{list_all}
use Rattle.jn_base.specs.Names.{is_letter}
use Rattle.jn_base.proofs.letters.are_letters.Given as goal

-- the answer for the rest is the answer for all
abbrev pub invariant-loop-byte : goal.invariant-loop-byte
invariant-loop-byte l = list_all is_letter (drop l.byte-index l.bytes) ≡ list_all is_letter l.bytes
