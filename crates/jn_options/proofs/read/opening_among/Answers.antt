use Rattle.jn_options.proofs.Common.{◌∙◌, ap, codes, Option, option_map, option_map_or, IfOk-weaker, Text, found_of, rows_of, geometry_given, images_given, New}
use Rattle.jn_options.proofs.Found.{none_found, text_found}
use Rattle.jn_options.proofs.read.opening_among.Goals as goal

pub returns-in-Some : goal.returns-in-Some
returns-in-Some c =
    let found = found_of c.args.given.now in
    let first = text_found found (codes "in") c.get_str.result c.in-Some.name c.in-Some.is c.get_str.ensures in
    let rows = rows_of found in
    IfOk-weaker c.images_among.result _ _ (λ opening is. is ∙ ap (λ (o : Option Text). option_map_or (images_given rows) o (option_map New (geometry_given rows))) first) c.images_among.ensures

pub returns-in-None : goal.returns-in-None
returns-in-None c =
    let found = found_of c.args.given.now in
    let first = none_found found (codes "in") c.get_str.result c.in-None.is c.get_str.ensures in
    let rows = rows_of found in
    c.new_among.ensures ∙ ap (λ (o : Option Text). option_map_or (images_given rows) o (option_map New (geometry_given rows))) first
