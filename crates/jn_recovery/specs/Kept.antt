-- What is kept beside the store, before it is joined with it.
use Rattle.jn_recovery.specs.Memory.{Memory}
use Rattle.jn_recovery.specs.declared.gathering.Kept.{Kept as KeptParts}

abbrev pub memory_kept : KeptParts → Memory
memory_kept k = record {
  server = k.server;
  epoch = k.epoch;
  records = k.sets;
  table = k.table;
  works = k.works.items;
  flags = k.flags.items;
  promised = 0;
}
