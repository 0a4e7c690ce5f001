use Rattle.jn_replay.proofs.Common.{files_of}
use Rattle.jn_replay.proofs.Replying.{named_so, fits_so, stands-first, stands-next, stands-over, falls_so}
use Rattle.jn_replay.proofs.replies.do_call.Goals as goal

pub begin-requires : goal.begin-requires
begin-requires c = fits_so c.args.call.now c.requires

pub first_op-op-requires : goal.first_op-op-requires
first_op-op-requires c = named_so c.args.call.now c.requires

pub turns-init : goal.turns-init
turns-init c = rw (c.in_ok-state.ensures, c.first_op-op.ensures) (stands-first c.args.server c.args.call.now (files_of c.args.files.now) c.requires)

pub turns-smaller : goal.turns-smaller
turns-smaller c = falls_so c.turns.state c.do_turn.new.state c.in-Send.next c.in_ok-next.field-0 _ c.in_ok-next.ensures.turn c.in-Send.is

pub turns-preserved : goal.turns-preserved
turns-preserved c =
    stands-next c.args.server c.args.call.now (files_of c.args.files.now) (files_of c.turns.files) (files_of c.do_turn.new.files) c.turns.op c.in-Send.next c.in_ok-next.field-0 c.turns.state c.do_turn.new.state c.turns.invariant c.in_ok-next.ensures.after c.in_ok-next.ensures.turn c.in-Send.is

pub returns-in-Over-clause-reply : goal.returns-in-Over-clause-reply
returns-in-Over-clause-reply c =
    (stands-over c.args.server c.args.call.now (files_of c.args.files.now) (files_of c.turns.files) (files_of c.do_turn.new.files) c.turns.op c.in-Over.reply c.in_ok-next.field-0 c.turns.state c.do_turn.new.state c.turns.invariant c.in_ok-next.ensures.after c.in_ok-next.ensures.turn c.in-Over.is).0

pub returns-in-Over-clause-after : goal.returns-in-Over-clause-after
returns-in-Over-clause-after c =
    (stands-over c.args.server c.args.call.now (files_of c.args.files.now) (files_of c.turns.files) (files_of c.do_turn.new.files) c.turns.op c.in-Over.reply c.in_ok-next.field-0 c.turns.state c.do_turn.new.state c.turns.invariant c.in_ok-next.ensures.after c.in_ok-next.ensures.turn c.in-Over.is).1
