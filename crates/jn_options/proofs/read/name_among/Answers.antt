use Rattle.jn_options.proofs.Common.{◌∙◌, ap, Option, option_and_then, IfOk-weaker, Text, found_of, name_in}
use Rattle.jn_options.proofs.Found.{none_found, text_found}
use Rattle.jn_options.proofs.read.name_among.Goals as goal

pub returns-in-Some : goal.returns-in-Some
returns-in-Some c =
    let found = found_of c.args.given.now in
    let first = text_found found c.args.name.now c.get_str.result c.in-Some.text c.in-Some.is c.get_str.ensures in
    IfOk-weaker c.new.result _ _ (λ name is. is ∙ ap (λ (o : Option Text). option_and_then name_in o) first) c.new.ensures

pub returns-in-None : goal.returns-in-None
returns-in-None c =
    let found = found_of c.args.given.now in
    let first = none_found found c.args.name.now c.get_str.result c.in-None.is c.get_str.ensures in
    ap (λ (o : Option Text). option_and_then name_in o) first
