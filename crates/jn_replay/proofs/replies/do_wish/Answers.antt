use Rattle.jn_replay.proofs.replies.do_wish.Goals as goal

pub returns-in_ok-do_op-in-Operation-clause-after : goal.returns-in_ok-do_op-in-Operation-clause-after
returns-in_ok-do_op-in-Operation-clause-after c = rw c.in-Operation.is c.in_ok-do_op-in-Operation.ensures.after

pub returns-in-Call-clause-after : goal.returns-in-Call-clause-after
returns-in-Call-clause-after c = rw c.in-Call.is c.do_call.ensures.after
