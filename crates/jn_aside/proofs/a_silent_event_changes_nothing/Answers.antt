use Rattle.jn_aside.proofs.Common.{[], ◌∷◌}
use Rattle.jn_serial.proofs.CausedGrowth.{Caused-events}
use Rattle.jn_aside.proofs.Silent.{silent-agrees, silent-shown, silent-follows}
use Rattle.jn_aside.proofs.a_silent_event_changes_nothing.Goals as goal

pub returns-clause-agrees : goal.returns-clause-agrees
returns-clause-agrees c = λ files events e lines h. silent-agrees events e lines h files

pub returns-clause-so_far : goal.returns-clause-so_far
returns-clause-so_far c = λ files events e lines h other. silent-shown events e lines h files other

pub returns-clause-caused : goal.returns-clause-caused
returns-clause-caused c = λ events e lines. Caused-events events (e ∷ []) lines

pub returns-clause-follows : goal.returns-clause-follows
returns-clause-follows c = λ events e lines silent h. silent-follows events e lines h silent
