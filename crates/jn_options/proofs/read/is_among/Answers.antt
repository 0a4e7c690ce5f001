use Rattle.jn_options.proofs.Common.{◌∙◌, ap, false, codes, Option, option_map_or, bytes_eq, Text, found_of}
use Rattle.jn_options.proofs.Found.{none_found, text_found}
use Rattle.jn_options.proofs.read.is_among.Goals as goal

pub returns-in-Some : goal.returns-in-Some
returns-in-Some c =
    let found = found_of c.args.given.now in
    let first = text_found found c.args.name.now c.get_str.result c.in-Some.text c.in-Some.is c.get_str.ensures in
    c.eq.ensures ∙ ap (λ (o : Option Text). option_map_or (λ text. bytes_eq text (codes "true")) o false) first

pub returns-in-None : goal.returns-in-None
returns-in-None c =
    let found = found_of c.args.given.now in
    let first = none_found found c.args.name.now c.get_str.result c.in-None.is c.get_str.ensures in
    ap (λ (o : Option Text). option_map_or (λ text. bytes_eq text (codes "true")) o false) first
