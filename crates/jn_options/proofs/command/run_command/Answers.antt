use Rattle.jn_options.proofs.Common.{◌∙◌, ◌||◌, ap₂, IfOk-weaker, with_rule, run_app}
use Rattle.jn_options.proofs.command.run_command.Goals as goal

pub returns-clause-app : goal.returns-clause-app
unfolding run_app
returns-clause-app c =
    let servers = c.in_ok-arg.ensures.shape c.valued_option.ensures.local ∙ ap₂ with_rule c.new.ensures.app c.valued_option.ensures.rule in
    let pool = c.in_ok-arg-2.ensures.shape c.valued_option-2.ensures.local ∙ ap₂ with_rule servers c.valued_option-2.ensures.rule in
    let heads = c.in_ok-arg-3.ensures.shape c.valued_option-3.ensures.local ∙ ap₂ with_rule pool c.valued_option-3.ensures.rule in
    let leaves = c.in_ok-arg-4.ensures.shape c.valued_option-4.ensures.local ∙ ap₂ with_rule heads c.valued_option-4.ensures.rule in
    let opening = c.in_ok-arg-5.ensures.shape c.valued_option-5.ensures.local ∙ ap₂ with_rule leaves c.valued_option-5.ensures.rule in
    let closing = c.in_ok-arg-6.ensures.shape c.valued_option-6.ensures.local ∙ ap₂ with_rule opening c.valued_option-6.ensures.rule in
    IfOk-weaker c.arg-7.result _ _ (λ command adds. adds.shape c.switch_option.ensures.local ∙ ap₂ with_rule closing c.switch_option.ensures.rule) c.arg-7.ensures

pub returns-clause-local : goal.returns-clause-local
returns-clause-local c =
    let servers = c.in_ok-arg.ensures.globals ∙ ap₂ ◌||◌ c.new.ensures.local c.valued_option.ensures.local in
    let pool = c.in_ok-arg-2.ensures.globals ∙ ap₂ ◌||◌ servers c.valued_option-2.ensures.local in
    let heads = c.in_ok-arg-3.ensures.globals ∙ ap₂ ◌||◌ pool c.valued_option-3.ensures.local in
    let leaves = c.in_ok-arg-4.ensures.globals ∙ ap₂ ◌||◌ heads c.valued_option-4.ensures.local in
    let opening = c.in_ok-arg-5.ensures.globals ∙ ap₂ ◌||◌ leaves c.valued_option-5.ensures.local in
    let closing = c.in_ok-arg-6.ensures.globals ∙ ap₂ ◌||◌ opening c.valued_option-6.ensures.local in
    IfOk-weaker c.arg-7.result _ _ (λ command adds. adds.globals ∙ ap₂ ◌||◌ closing c.switch_option.ensures.local) c.arg-7.ensures
