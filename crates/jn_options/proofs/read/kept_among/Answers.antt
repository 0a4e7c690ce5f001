use Rattle.jn_options.proofs.Common.{◌∙◌, ap, codes, Option, Some, option_map_or, IfOk-weaker, Text, found_of, kept_as}
use Rattle.jn_options.proofs.Found.{none_found, text_found}
use Rattle.jn_options.proofs.read.kept_among.Goals as goal

pub returns-in-Some : goal.returns-in-Some
returns-in-Some c =
    let found = found_of c.args.given.now in
    let first = text_found found (codes "out") c.get_str.result c.in-Some.name c.in-Some.is c.get_str.ensures in
    IfOk-weaker c.kept_under.result _ _ (λ kept is. is ∙ ap (λ (o : Option Text). option_map_or (kept_as c.args.options) o (Some c.args.options)) first) c.kept_under.ensures

pub returns-in-None : goal.returns-in-None
returns-in-None c =
    let found = found_of c.args.given.now in
    let first = none_found found (codes "out") c.get_str.result c.in-None.is c.get_str.ensures in
    ap (λ (o : Option Text). option_map_or (kept_as c.args.options) o (Some c.args.options)) first
