use Rattle.jn_gen.proofs.Common.{◌≡◌, ◌++◌, drop, take, text_of}
use Rattle.jn_gen.proofs.Parsing.{AreOfBytes}
use Rattle.jn_gen.proofs.text.text_of.Given as goal

-- the text so far, and then that of the rest
abbrev pub invariant-loop-event : goal.invariant-loop-event
invariant-loop-event l = record {
  whole : l.out.items ++ text_of (drop l.event-index l.events) ≡ text_of l.events;
  bytes : AreOfBytes (take l.event-index l.events);
}
