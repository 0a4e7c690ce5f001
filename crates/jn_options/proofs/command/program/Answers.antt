use Rattle.jn_options.proofs.Common.{◌≡◌, ◌∙◌, ap, ap₂, true, codes, IfOk-weaker, App, app_of, new_app, with_subcommand, program_app, without_help}
use Rattle.clap.specs.Simple.{app_of_fields}
use Rattle.jn_options.proofs.command.program.Goals as goal

abbrev without_flag : App → App
without_flag a = record a { top = record a.top { disable_help_flag = true } }

abbrev without_command : App → App
without_command a = record a { top = record a.top { disable_help_subcommand = true } }

pub returns : goal.returns
unfolding program_app
returns c =
    let flag : app_of c.disable_help_flag.result ≡ without_flag (new_app (codes "juniper")) = ap app_of_fields c.disable_help_flag.ensures ∙ ap without_flag c.new.ensures.app in
    let bare : app_of c.disable_help_subcommand.result ≡ without_help (new_app (codes "juniper")) = ap app_of_fields c.disable_help_subcommand.ensures ∙ ap without_command flag in
    let first = c.in_ok-subcommand.ensures.shape c.in_ok-run.ensures.local ∙ ap₂ with_subcommand bare (ap (λ (a : App). a.top) c.in_ok-run.ensures.app) in
    let second = c.in_ok-subcommand-2.ensures.shape c.in_ok-trial.ensures.local ∙ ap₂ with_subcommand first (ap (λ (a : App). a.top) c.in_ok-trial.ensures.app) in
    IfOk-weaker c.subcommand-3.result _ _ (λ command adds. adds.shape c.in_ok-node.ensures.local ∙ ap₂ with_subcommand second (ap (λ (a : App). a.top) c.in_ok-node.ensures.app)) c.subcommand-3.ensures
