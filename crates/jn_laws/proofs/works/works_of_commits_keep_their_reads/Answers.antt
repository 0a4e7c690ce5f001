use Rattle.jn_laws.proofs.Kept.{their-reads, hold-reads}
use Rattle.jn_laws.proofs.works.works_of_commits_keep_their_reads.Goals as goal

pub returns-clause-hold : goal.returns-clause-hold
returns-clause-hold c = λ x schedule images m few ranges h. hold-reads x schedule images m few ranges h

pub returns-clause-reads : goal.returns-clause-reads
returns-clause-reads c = λ x schedule images m later few ranges h leads. their-reads x schedule images m later few ranges h leads
