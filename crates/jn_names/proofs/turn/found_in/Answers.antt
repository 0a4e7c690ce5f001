use Rattle.std.proofs.Common.{◌∙◌, ap, sym}
use Rattle.jn_names.specs.Buckets.{find_in}
use Rattle.jn_names.specs.Calls.{found}
use Rattle.jn_names.proofs.Checking.{parts}
use Rattle.jn_names.proofs.turn.found_in.Goals as goal

pub returns : goal.returns
returns c = λ k slots h. c.found.ensures ∙ ap found (c.find_name.ensures ∙ ap (find_in c.args.name.now) (sym (parts k c.args.block.now slots h).front))
