use Rattle.jn_gen.proofs.Common.{◌∙◌, List, ap, length, sym, Event}
use Rattle.jn_gen.proofs.Drawing.{events_count}
use Rattle.jn_gen.proofs.schedule.TrialEvents.left.Goals as goal

pub returns : goal.returns
returns c = sym (events_count c.self.inside.generator.state c.self.inside.left) ∙ ap (λ (es : List Event). length es) c.self.view_is
