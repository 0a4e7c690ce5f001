use Rattle.std.proofs.Common.{sym, subst}
use Rattle.jn_names.specs.Turns.{TurnFits}
use Rattle.jn_names.proofs.Fitting.{turn-fits}
use Rattle.jn_names.proofs.call.NameCall.next.Goals as goal

pub follow-requires : goal.follow-requires
follow-requires c = subst TurnFits (sym c.in_ok-turn.ensures.ok) (turn-fits c.self.inside.command _ _)
