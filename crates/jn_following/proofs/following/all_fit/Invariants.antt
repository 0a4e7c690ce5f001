use Rattle.std.proofs.Common.{◌≡◌, ◌↔◌, drop}
use Rattle.jn_serial.specs.Follows.{AllFit, after_answers}
use Rattle.jn_following.specs.Asked.{outstanding_of}
use Rattle.jn_following.proofs.following.all_fit.Given as goal

abbrev pub invariant-loop-line : goal.invariant-loop-line
invariant-loop-line l = record {
  fit : AllFit (outstanding_of l.initial.entries.items) l.here ↔ AllFit (outstanding_of l.entries.items) (drop l.line-index l.here);
  after : after_answers (outstanding_of l.entries.items) (drop l.line-index l.here) ≡ after_answers (outstanding_of l.initial.entries.items) l.here;
}
