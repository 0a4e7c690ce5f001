use Rattle.jn_options.proofs.Common.{◌∙◌, ap, option_and_then, found_of, number_in}
use Rattle.jn_options.proofs.Found.{none_found, text_found}
use Rattle.jn_options.proofs.read.number_among.Goals as goal

pub returns-in-Some-clause-value : goal.returns-in-Some-clause-value
returns-in-Some-clause-value c =
    let found = found_of c.args.given.now in
    let first = text_found found c.args.name.now c.get_str.result c.in-Some.text c.in-Some.is c.get_str.ensures in
    c.read_whole.ensures.value ∙ ap (option_and_then (number_in c.args.least c.args.most)) first

pub returns-in-None-clause-value : goal.returns-in-None-clause-value
returns-in-None-clause-value c =
    let found = found_of c.args.given.now in
    let first = none_found found c.args.name.now c.get_str.result c.in-None.is c.get_str.ensures in
    ap (option_and_then (number_in c.args.least c.args.most)) first
