use Rattle.jn_wire.proofs.Taking.{decoded-may, given-may, given-few}
use Rattle.jn_wire.proofs.taken.what_is_read_can_be_taken.Goals as goal

pub returns-clause-read : goal.returns-clause-read
returns-clause-read c = decoded-may

pub returns-clause-given : goal.returns-clause-given
returns-clause-given c = given-may

pub returns-clause-few : goal.returns-clause-few
returns-clause-few c = given-few
