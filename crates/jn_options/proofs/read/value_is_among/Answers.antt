use Rattle.jn_options.proofs.Common.{◌∙◌, found_of}
use Rattle.jn_options.proofs.Found.{if_found}
use Rattle.jn_options.proofs.read.value_is_among.Goals as goal

pub returns : goal.returns
returns c = c.is_some.ensures ∙ if_found (found_of c.args.given.now) c.args.name.now c.get_str.result c.get_str.ensures
