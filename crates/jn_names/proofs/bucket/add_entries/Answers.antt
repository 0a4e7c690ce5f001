use Rattle.std.proofs.Common.{◌+◌, ◌-◌, ◌++◌, length-drop, arith}
use Rattle.jn_names.specs.Buckets.{places_in}
use Rattle.jn_names.specs.Calls.{entries_of}
use Rattle.jn_names.proofs.Places.{entries-begin, names-begin, names-first, names-go, entries-go, entries-end}
use Rattle.jn_names.proofs.bucket.add_entries.Goals as goal

pub loop-init : goal.loop-init
loop-init c = record {
  all = entries-begin c.args.block.now c.args.entries.now;
  named = names-begin c.args.block.now c.requires;
  long = omega arith;
}

pub add_entry-requires-clause-named : goal.add_entry-requires-clause-named
add_entry-requires-clause-named c = names-first (6 - c.loop.counter) c.loop.rest.now (omega arith) c.loop.invariant.named

pub loop-preserved : goal.loop-preserved
loop-preserved c =
    let l = length-drop 69 c.loop.rest.now in
    record {
      all = entries-go (6 - c.loop.counter) (6 - (c.loop.counter + 1)) c.loop.rest.now c.behind-rest.result.now c.loop.entries c.add_entry.new.entries (c.args.entries.now ++ entries_of (places_in c.args.block.now)) (omega arith) (omega arith) c.behind-rest.ensures c.in_ok-add_entry.ensures c.loop.invariant.all;
      named = names-go (6 - c.loop.counter) (6 - (c.loop.counter + 1)) c.loop.rest.now c.behind-rest.result.now (omega arith) (omega arith) c.behind-rest.ensures c.loop.invariant.named;
      long = (let m = c.behind-rest.ensures in rw m (omega (arith, l)));
    }

pub returns : goal.returns
returns c = entries-end (6 - c.loop.counter) c.loop.rest.now c.loop.entries (c.args.entries.now ++ entries_of (places_in c.args.block.now)) (omega arith) c.loop.invariant.all
