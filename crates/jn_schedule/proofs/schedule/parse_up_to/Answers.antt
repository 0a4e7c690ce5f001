use Rattle.jn_schedule.proofs.Lines.{found, only, fault, first}
use Rattle.jn_schedule.proofs.schedule.parse_up_to.Goals as goal

pub returns-clause-found : goal.returns-clause-found
returns-clause-found c = found c.args.text.now c.args.most c.read_text.result c.read_text.ensures

pub returns-clause-only : goal.returns-clause-only
returns-clause-only c = only c.args.text.now c.args.most c.read_text.result c.read_text.ensures

pub returns-clause-fault : goal.returns-clause-fault
returns-clause-fault c = fault c.args.text.now c.args.most c.read_text.result c.read_text.ensures

pub returns-clause-first : goal.returns-clause-first
returns-clause-first c = first c.args.text.now c.args.most c.read_text.result c.read_text.ensures
