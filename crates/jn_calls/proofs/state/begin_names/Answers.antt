use Rattle.jn_calls.proofs.Given.{names_start}
use Rattle.jn_calls.proofs.state.begin_names.Goals as goal

pub returns : goal.returns
returns c = names_start c.args.command.now c.in_ok-call.call c.next.new.self c.in_ok-next.field-0 c.in_ok-call.ensures c.in_ok-next.ensures.ok c.in_ok-next.ensures.command
