use Rattle.byteorder.specs.Numbers.{big_number-reads_back}
use Rattle.jn_base.proofs.fields.numbers_are_read_back.Goals as goal

pub returns : goal.returns
returns c = big_number-reads_back
