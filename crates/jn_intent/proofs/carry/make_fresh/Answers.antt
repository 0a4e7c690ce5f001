use Rattle.jn_intent.proofs.Common.{subst, is_ok, created, fresh_head, SetsHead}
use Rattle.jn_intent.proofs.carry.make_fresh.Goals as goal

pub returns : goal.returns
returns g c = subst (λ t. SetsHead t (g.S.StableStore.view c.args.store.now) c.args.file (fresh_head c.args.file) (created c.args.file) (is_ok c.set_fresh.result) c.set_fresh.new.self (g.S.StableStore.view c.set_fresh.new.store)) c.free_promise.ensures c.set_fresh.ensures
