use Rattle.jn_options.proofs.Common.{◌∙◌, ◌||◌, ap₂, IfOk-weaker, with_rule, trial_app}
use Rattle.jn_options.proofs.command.trial_command.Goals as goal

pub returns-clause-app : goal.returns-clause-app
unfolding trial_app
returns-clause-app c =
    let seed = c.in_ok-arg.ensures.shape c.placed_value.ensures.local ∙ ap₂ with_rule c.new.ensures.app c.placed_value.ensures.rule in
    IfOk-weaker c.arg-2.result _ _ (λ command adds. adds.shape c.placed_value-2.ensures.local ∙ ap₂ with_rule seed c.placed_value-2.ensures.rule) c.arg-2.ensures

pub returns-clause-local : goal.returns-clause-local
returns-clause-local c =
    let seed = c.in_ok-arg.ensures.globals ∙ ap₂ ◌||◌ c.new.ensures.local c.placed_value.ensures.local in
    IfOk-weaker c.arg-2.result _ _ (λ command adds. adds.globals ∙ ap₂ ◌||◌ seed c.placed_value-2.ensures.local) c.arg-2.ensures
