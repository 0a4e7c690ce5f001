use Rattle.jn_replay.proofs.Common.{not, rules, arith, filter_same, StoredFile, is_file}
use Rattle.jn_replay.proofs.StoredLemmas.{no_file_place, some_file_place}
use Rattle.jn_replay.proofs.DoesLemmas.{remove_absent, remove_there}
use Rattle.jn_replay.proofs.perform.remove.Goals as goal

pub returns-then-is_none : goal.returns-then-is_none
returns-then-is_none c = remove_absent c.args.server c.args.file c.args.stored.now.items (no_file_place c.args.server c.args.file c.args.stored.now.items (grind (arith, c.if-is_none.ensures)))

pub returns : goal.returns
returns c =
    let s = c.args.server in
    let f = c.args.file in
    let xs = c.args.stored.now.items in
    let x = some_file_place s f xs (grind (arith, c.if-is_none.ensures)) in
    remove_there s f xs c.retain.new.self.items x.0 x.1 (filter_same _ (λ (x : StoredFile). not (is_file s f x)) _ (λ x b q h. search rules) xs c.retain.new.self.items c.retain.ensures.filtered)
