use Rattle.jn_page_state.proofs.Saying.{pool_says, heads_say}
use Rattle.jn_page_state.proofs.stop_laws.pages_say_their_records_and_heads.Goals as goal

pub returns : goal.returns
returns a = record {
  pool = λ g pages records size says. pool_says g pages records size says;
  heads = λ g pages heads few size says. heads_say g pages heads few size says;
}
