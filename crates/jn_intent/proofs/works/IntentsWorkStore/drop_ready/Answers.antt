use Rattle.jn_intent.proofs.Common.{state, view_of}
use Rattle.jn_intent.proofs.Removing.{is_ready_some}
use Rattle.jn_intent.proofs.works.IntentsWorkStore.drop_ready.Goals as goal

pub remove-requires-clause-prepared : goal.remove-requires-clause-prepared
remove-requires-clause-prepared g c = is_ready_some ((state (view_of c.args.self.now.1 (g.S.StableStore.view c.args.self.now.0))).works c.args.work) c.requires.ready
