use Rattle.std.proofs.Common.{◌-◌, sym, ◌∙◌, arith}
use Rattle.jn_index.proofs.Order.{before_up_to}
use Rattle.jn_index.proofs.are_before.Goals as goal

pub returns : goal.returns
returns c e i lt = before_up_to c.args.entries.now c.requires.rising c.args.sought (c.args.place - 1) i (omega arith) (sym c.comes_before.ensures ∙ e) (omega arith)
