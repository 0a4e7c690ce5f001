use Rattle.std.proofs.Common.{sym, subst}
use Rattle.jn_names.specs.Turns.{TurnFits}
use Rattle.jn_names.proofs.Fitting.{first-fits}
use Rattle.jn_names.proofs.call.NameCall.begin.Goals as goal

pub follow-requires : goal.follow-requires
follow-requires c = subst TurnFits (sym c.first_turn-turn.ensures) (first-fits _)
