use Rattle.jn_laws.proofs.ReadBack.{is_read_back}
use Rattle.jn_laws.proofs.texts.hex_is_read_back.Goals as goal

pub returns : goal.returns
returns c = record {
  read = λ before content after bytes small ends. is_read_back before content after bytes small ends;
  alone = λ text start content end read. read.digits;
}
