use Rattle.std.proofs.Common.{refl, arith}
use Rattle.jn_replay.proofs.StoredLemmas.{no_file_place, some_file_place}
use Rattle.jn_replay.proofs.DoesLemmas.{create_there, create_new}
use Rattle.jn_replay.proofs.perform.create.Goals as goal

pub returns-then-is_some : goal.returns-then-is_some
returns-then-is_some c =
    let x = some_file_place c.args.server c.args.file c.args.stored.now.items (grind (arith, c.if-is_some.ensures)) in
    create_there c.args.server c.args.file c.args.stored.now.items x.0 x.1

pub returns : goal.returns
returns c = rw c.in_ok-push.ensures.items (create_new c.args.server c.args.file c.args.stored.now.items _ (no_file_place c.args.server c.args.file c.args.stored.now.items (grind arith)) refl refl c.new.ensures.items)
