use Rattle.jn_system_reports.proofs.Showing.Ends.{end-shown, end-all, so-far, end-whole, end-agrees}
use Rattle.jn_system_reports.proofs.shown.the_end_is_of_commits.Goals as goal

pub returns-clause-shown : goal.returns-clause-shown
returns-clause-shown c = λ servers files epochs items e h. end-shown servers files epochs items e h.reported h.ending

pub returns-clause-all : goal.returns-clause-all
returns-clause-all c = λ servers files epochs items e h. end-all servers files epochs items e h.reported h.ending

pub returns-clause-so_far : goal.returns-clause-so_far
returns-clause-so_far c = λ servers files epochs items e h. so-far servers files epochs items e h.reported h.ending

pub returns-clause-whole : goal.returns-clause-whole
returns-clause-whole c = λ servers files epochs items e h. end-whole servers files epochs items e h.reported h.ending

pub returns-clause-agrees : goal.returns-clause-agrees
returns-clause-agrees c = λ servers files epochs items e h. (end-agrees servers files epochs items e h.reported h.ending).agrees
