use Rattle.jn_wrong.proofs.Misreported.{unforgiving}
use Rattle.jn_wrong.proofs.faulty.a_power_up_that_forgives_nothing_is_none.Goals as goal

pub returns : goal.returns
returns c = unforgiving
