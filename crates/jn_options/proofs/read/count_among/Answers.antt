use Rattle.jn_options.proofs.Common.{◌∙◌, ap, Option, Some, option_map_or, Text, found_of, number_in}
use Rattle.jn_options.proofs.Found.{none_found, text_found}
use Rattle.jn_options.proofs.read.count_among.Goals as goal

pub returns-in-Some-clause-value : goal.returns-in-Some-clause-value
returns-in-Some-clause-value c =
    let found = found_of c.args.given.now in
    let first = text_found found c.args.name.now c.get_str.result c.in-Some.text c.in-Some.is c.get_str.ensures in
    c.read_count.ensures.value ∙ ap (λ (o : Option Text). option_map_or (number_in 1 c.args.most) o (Some c.args.without)) first

pub returns-in-None-clause-value : goal.returns-in-None-clause-value
returns-in-None-clause-value c =
    let found = found_of c.args.given.now in
    let first = none_found found c.args.name.now c.get_str.result c.in-None.is c.get_str.ensures in
    ap (λ (o : Option Text). option_map_or (number_in 1 c.args.most) o (Some c.args.without)) first
