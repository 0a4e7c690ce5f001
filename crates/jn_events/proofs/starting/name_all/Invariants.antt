use Rattle.jn_events.proofs.Common.{newly_named, lines_at, commits_in, ◌≡◌, ◌++◌, drop}
use Rattle.jn_events.proofs.starting.name_all.Given as goal

abbrev pub invariant-loop-tid : goal.invariant-loop-tid
invariant-loop-tid g l = record {
  others : l.world ≡ record l.initial.world { named = l.world.named };
  names : l.world.named.names.items ++ commits_in (newly_named (drop l.tid-index l.tids) l.world.named.names.items) ≡ l.initial.world.named.names.items ++ commits_in (newly_named l.tids l.initial.world.named.names.items);
  told : l.told.items ++ lines_at l.when (newly_named (drop l.tid-index l.tids) l.world.named.names.items) ≡ l.initial.told.items ++ lines_at l.when (newly_named l.tids l.initial.world.named.names.items);
}
