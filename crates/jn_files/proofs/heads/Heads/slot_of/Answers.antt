use Rattle.jn_files.proofs.Common.{ap, ◌∙◌, List, Head, exists}
use Rattle.jn_files.proofs.Indexed.{there_by}
use Rattle.jn_files.proofs.heads.Heads.slot_of.Goals as goal

pub returns-clause-there : goal.returns-clause-there
returns-clause-there c = there_by c.self.inside.files c.self.inside.slots.items c.self.invariant c.args.f c.slot_from.result c.slot_from.ensures.found c.slot_from.ensures.none ∙ ap (λ (l : List Head). exists l c.args.f) c.self.view_is
