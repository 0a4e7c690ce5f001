use Rattle.jn_laws.proofs.Reaching.{reached, ended-so, closed-so}
use Rattle.jn_laws.proofs.worlds.a_world_is_at_the_moment_of_its_events.Goals as goal

pub returns-clause-reached : goal.returns-clause-reached
returns-clause-reached g c = λ x files epochs images stores events rest lines w few theirs are ranges has. reached _ _ x files epochs images stores few theirs are events lines w has rest ranges

pub returns-clause-ended : goal.returns-clause-ended
returns-clause-ended g c = λ x files epochs images stores events event lines w v few theirs are ranges has done e old told is limit does. ended-so _ _ x files epochs images stores few theirs are events event lines w v ranges has done e old told is limit does

pub returns-clause-closed : goal.returns-clause-closed
returns-clause-closed g c = λ x files epochs images stores events lines w few theirs are ranges has given old told gives. closed-so _ _ x files epochs images stores few theirs are events lines w ranges has given old told gives
