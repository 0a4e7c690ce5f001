use Rattle.jn_unfolding.proofs.Example.{is-whole, done-two, answers-given}
use Rattle.jn_unfolding.proofs.examples.a_write_counts_once.Goals as goal

pub returns-clause-whole : goal.returns-clause-whole
returns-clause-whole c = is-whole

pub returns-clause-done : goal.returns-clause-done
returns-clause-done c = done-two

pub returns-clause-answers : goal.returns-clause-answers
returns-clause-answers c = answers-given
