use Rattle.jn_options.proofs.Numbers.{number_is, number_stands}
use Rattle.jn_options.proofs.laws.numbers_are_those_of_schedules.Goals as goal

pub returns : goal.returns
returns c = λ least most n text fits. (number_stands least most n text, number_is least most n text fits)
