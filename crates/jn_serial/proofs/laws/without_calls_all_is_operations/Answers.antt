use Rattle.jn_serial.proofs.Common.{history_of}
use Rattle.jn_serial.proofs.WithCalls.{done_is_operations, replay_is_of_operations, agrees_as_operations, so_far_as_operations, at_end_as_operations}
use Rattle.jn_serial.proofs.laws.without_calls_all_is_operations.Goals as goal

pub returns-clause-done : goal.returns-clause-done
returns-clause-done c = λ events lines t h. done_is_operations events lines t h

pub returns-clause-files : goal.returns-clause-files
returns-clause-files c = λ files events lines ts h. replay_is_of_operations files events lines ts h

pub returns-clause-agrees : goal.returns-clause-agrees
returns-clause-agrees c = λ files events lines h. agrees_as_operations files events lines (history_of lines) h

pub returns-clause-shown : goal.returns-clause-shown
returns-clause-shown c = λ files events lines h. so_far_as_operations files events lines h

pub returns-clause-at_end : goal.returns-clause-at_end
returns-clause-at_end c = λ files events lines h. at_end_as_operations files events lines h
