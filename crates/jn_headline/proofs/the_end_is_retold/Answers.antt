use Rattle.jn_headline.proofs.Headline.{whole-end, cut-end}
use Rattle.jn_headline.proofs.the_end_is_retold.Goals as goal

pub returns-clause-whole : goal.returns-clause-whole
returns-clause-whole c = λ x schedule files now few r stage tasks. whole-end x schedule files now r few stage tasks

pub returns-clause-cut : goal.returns-clause-cut
returns-clause-cut c = λ x schedule files now r unfinished. cut-end x schedule files now r unfinished
