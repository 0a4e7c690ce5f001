use Rattle.jn_world.proofs.Common.{message_texts, traced, lines_at, standing_of, with_sent, posted_by, ◌≡◌, ◌≤◌, ◌++◌, length}
use Rattle.jn_world.proofs.world.World.post_all.Given as goal

abbrev pub invariant-loop-to : goal.invariant-loop-to
invariant-loop-to g l = record {
  others : l.self ≡ record l.initial.self { net = l.self.net };
  sent : l.self.net.sent ≡ l.initial.self.net.sent ++ posted_by l.from l.yielded;
  limit : length l.self.net.sent ≤ 1000000;
  stands : standing_of l.self ≡ with_sent (posted_by l.from l.yielded) (standing_of l.initial.self);
  told : l.told.items ≡ l.initial.told.items ++ lines_at l.when (traced l.initial.self.trace (message_texts l.from (length l.initial.self.net.sent) l.yielded));
}
