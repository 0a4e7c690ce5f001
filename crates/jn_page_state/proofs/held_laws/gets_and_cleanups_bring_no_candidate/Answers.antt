use Rattle.jn_page_state.proofs.HeldLaws.{got_fewer, cleaned_fewer, fewer_refl, fewer_trans}
use Rattle.jn_page_state.proofs.held_laws.gets_and_cleanups_bring_no_candidate.Goals as goal

pub returns : goal.returns
returns a = record {
  got = λ v i answer w step. got_fewer v i answer w step;
  cleaned = λ v i answer w step. cleaned_fewer v i answer w step;
  none = λ v. fewer_refl v;
  then_more = λ u v w before after. fewer_trans u v w before after;
}
