use Rattle.jn_page_state.proofs.ConsistentPuts.{idle_consistent, going_consistent, removed_consistent, flag_consistent, dropped_consistent}
use Rattle.jn_page_state.proofs.ReadyPut.{ready_consistent}
use Rattle.jn_page_state.proofs.kept_laws.a_record_keeps_what_a_recovery_asks.Goals as goal

pub returns : goal.returns
returns a = record {
  idle = λ g c slot new put. idle_consistent c slot new put g;
  ready = λ g c slot head n list reads put. ready_consistent c slot head n list reads put g;
  going = λ g c slot head n reads at. going_consistent c slot head n reads at g;
  removed = λ g c slot work at. removed_consistent c slot work at g;
  flagged = λ g c slot flag put. flag_consistent c slot flag put g;
  dropped = λ g c slot t at. dropped_consistent c slot t at g;
}
