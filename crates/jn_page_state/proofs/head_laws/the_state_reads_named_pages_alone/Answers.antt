use Rattle.jn_page_state.proofs.FillLaws.{named_read}
use Rattle.jn_page_state.proofs.head_laws.the_state_reads_named_pages_alone.Goals as goal

pub returns : goal.returns
returns a c blocks same = named_read c blocks same
