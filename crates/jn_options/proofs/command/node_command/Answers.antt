use Rattle.jn_options.proofs.Common.{◌∙◌, ◌||◌, ap₂, IfOk-weaker, with_rule, node_app}
use Rattle.jn_options.proofs.command.node_command.Goals as goal

pub returns-clause-app : goal.returns-clause-app
unfolding node_app
returns-clause-app c =
    let server = c.in_ok-arg.ensures.shape c.placed_value.ensures.local ∙ ap₂ with_rule c.new.ensures.app c.placed_value.ensures.rule in
    let opening = c.in_ok-arg-2.ensures.shape c.needed_option.ensures.local ∙ ap₂ with_rule server c.needed_option.ensures.rule in
    IfOk-weaker c.arg-3.result _ _ (λ command adds. adds.shape c.needed_option-2.ensures.local ∙ ap₂ with_rule opening c.needed_option-2.ensures.rule) c.arg-3.ensures

pub returns-clause-local : goal.returns-clause-local
returns-clause-local c =
    let server = c.in_ok-arg.ensures.globals ∙ ap₂ ◌||◌ c.new.ensures.local c.placed_value.ensures.local in
    let opening = c.in_ok-arg-2.ensures.globals ∙ ap₂ ◌||◌ server c.needed_option.ensures.local in
    IfOk-weaker c.arg-3.result _ _ (λ command adds. adds.globals ∙ ap₂ ◌||◌ opening c.needed_option-2.ensures.local) c.arg-3.ensures
