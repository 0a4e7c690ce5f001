use Rattle.jn_gen.proofs.Common.{◌∙◌, List, ap, drop, take, Event}
use Rattle.jn_gen.proofs.Drawing.{next_given, next_left}
use Rattle.jn_gen.proofs.schedule.TrialEvents.next.Goals as goal

pub returns-clause-given : goal.returns-clause-given
returns-clause-given c =
    next_given c.self.inside.generator.state c.draw_events.new.generator.state c.args.most c.self.inside.left c.min-count.result c.in_ok-events.events.items c.min-count.ensures c.in_ok-events.ensures
    ∙ ap (λ (es : List Event). take c.args.most es) c.self.view_is

pub returns-clause-left : goal.returns-clause-left
returns-clause-left c =
    next_left c.self.inside.generator.state c.draw_events.new.generator.state c.args.most c.self.inside.left c.min-count.result c.in_ok-events.events.items c.min-count.ensures c.in_ok-events.ensures
    ∙ ap (λ (es : List Event). drop c.args.most es) c.self.view_is
