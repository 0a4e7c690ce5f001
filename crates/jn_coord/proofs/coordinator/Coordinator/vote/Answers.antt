use Rattle.jn_coord.proofs.Common.{sym, ◌∙◌, ap, option_copied, table_of}
use Rattle.jn_coord.proofs.Tables.{at-named}
use Rattle.jn_coord.proofs.Rows.{tells, decided-vote, told-still}
use Rattle.jn_coord.proofs.coordinator.Coordinator.vote.Goals as goal

pub returns-in_default-stage : goal.returns-in_default-stage
returns-in_default-stage g c = λ k. let found = sym c.find.ensures ∙ ap option_copied c.in-Some.is in let t = table_of c.args.self.now in
    rw (found, decided-vote t k c.in-Some.x.now c.args.work c.args.vote c.in-Some.x.now.stage c.in_default-stage.not-Open c.in_default-stage.not-Voting, at-named c.args.tid _ c.in-Some.x.now found)
    (tells _ _ _ _ _ _ (told-still t k c.args.tid c.args.work c.in-Some.x.now.stage).0 (told-still t k c.args.tid c.args.work c.in-Some.x.now.stage).1 c.requires.fits (c.tell_work.ensures t k))
