-- A settle in which a client goes on, step by step.
use Rattle.jn_system_settling.proofs.Common.{None, refl, Course, Step, go_on, first_busy, next_step, servers_from, asked, in_two, [], ◌∷◌, ◌++◌, ◌≡◌, Some, Did, much, the_client, the_server, the_transaction, delivered, request_of}
use Rattle.jn_base.specs.declared.op.Op.TheVariants as ops
use Rattle.jn_locks.specs.Locks as locks
use Rattle.jn_report.specs.declared.line.Text.TheVariants as says
use Rattle.jn_system_settling.specs.AtRest.Calls.{ComesOrIsTold, comes, told, ComeToRestTold}
use Rattle.jn_system_settling.specs.AtRest.CallExample.{another_file, to_the_call, at_the_call, the_call, behind_it}

next : (c : Course) (step : Step) → next_step (record { room = much; stop = None }) c.waiting (first_busy c.world (servers_from 0 1)) ≡ Some step → ComesOrIsTold (servers_from 0 1) c step
next c step e = comes step (record { chance = record { room = much; stop = None }; is_next = e })

pub first : ComeToRestTold (servers_from 0 1) the_call at_the_call
unfolding locks.unit_before
first = record {
  each = (
    next _ _ refl,
    (
      next _ _ refl,
      (
        told the_client the_server (ops.Create another_file)
            (record { before = to_the_call ++ delivered 4 ∷ []; number = 5; room = much; stop = None; request = request_of 3; answer = Did; is = refl; message = refl; given = refl }),
        (next _ _ refl, (next _ _ refl, tt)),
      ),
    ),
  );
  rest = record { waits = refl; idle = refl };
}

pub second : ComeToRestTold (servers_from 0 1) behind_it (asked 1 (go_on the_call at_the_call))
unfolding locks.unit_before
second = record { each = (next _ _ refl, tt); rest = record { waits = refl; idle = refl } }

pub lines : (in_two 1 the_call behind_it at_the_call).world.lines ≡ says.Begun the_client 1 the_transaction ∷ says.Opened the_client 2 the_server ∷ says.Did the_client 3 ∷ says.Did the_client 3 ∷ []
unfolding locks.unit_before
lines = refl
