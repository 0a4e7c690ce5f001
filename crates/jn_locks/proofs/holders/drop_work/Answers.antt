use Rattle.jn_locks.proofs.Common.{◌≡◌, rules, arith, List, length, ap, nat_tests, Holder, without}
use Rattle.std.proofs.lemmas.Fn.{filter_same}
use Rattle.jn_locks.proofs.Holding.{length_without, shorter_without}
use Rattle.jn_locks.proofs.holders.drop_work.Goals as goal

pub returns-clause-items : goal.returns-clause-items
returns-clause-items c = filter_same _ _ _ (λ x b f' k. search rules) _ _ c.retain.ensures.filtered

pub returns-clause-room : goal.returns-clause-room
returns-clause-room c k =
    let items : c.retain.new.self.items ≡ without c.args.work c.args.all.now.items = filter_same _ _ _ (λ x b f' k. search rules) _ _ c.retain.ensures.filtered in
    grind (arith, nat_tests, ap (λ (hs : List Holder). length hs) items, shorter_without c.args.work c.args.all.now.items, length_without c.args.work c.args.all.now.items, c.retain.ensures.capacity, c.args.all.now.ok.0, c.retain.new.self.ok.0)
