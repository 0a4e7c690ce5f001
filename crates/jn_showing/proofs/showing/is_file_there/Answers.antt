use Rattle.jn_showing.proofs.Common.{◌∙◌, ap, is_some}
use Rattle.jn_showing.proofs.ShownLemmas.{file_there}
use Rattle.jn_showing.proofs.showing.is_file_there.Goals as goal

pub returns : goal.returns
returns c = c.is_some.ensures ∙ ap is_some c.place_of_file.ensures ∙ file_there c.args.server c.args.file c.args.stored.now.items
