use Rattle.jn_coord.proofs.Common.{sym, ◌∙◌, ap, option_copied, table_of}
use Rattle.jn_coord.proofs.coordinator.Coordinator.inquire.Goals as goal

pub returns : goal.returns
returns c = λ k. rw (sym c.find.ensures ∙ ap option_copied c.in-Some.is) (c.tell_work.ensures (table_of c.args.self.now) k)
