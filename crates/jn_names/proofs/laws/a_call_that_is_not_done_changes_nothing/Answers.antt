use Rattle.jn_names.proofs.Keeping.{find-leaves, list-leaves, refused-leaves}
use Rattle.jn_names.proofs.Unwritten.{unwritten}
use Rattle.jn_names.proofs.laws.a_call_that_is_not_done_changes_nothing.Goals as goal

pub returns-clause-found : goal.returns-clause-found
returns-clause-found c = λ d name files. find-leaves d name files

pub returns-clause-listed : goal.returns-clause-listed
returns-clause-listed c = λ d files. list-leaves d files

pub returns-clause-refused : goal.returns-clause-refused
returns-clause-refused c = λ command files why h. refused-leaves command files why h

pub returns-clause-unwritten : goal.returns-clause-unwritten
returns-clause-unwritten c = λ command os why h. unwritten command os why h
