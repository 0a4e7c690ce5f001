use Rattle.jn_intent.proofs.Common.{subst, Befalls, memory_of, view_of}
use Rattle.jn_intent.proofs.Scrubbing.{same_kept, same_power, befalls}
use Rattle.jn_intent.proofs.intents.Intents.decay.Goals as goal

pub invariant_of-self : goal.invariant_of-self
invariant_of-self g c =
    let power = same_power _ _ (g.S.Powered.device c.self.inside.store) (g.S.Powered.device c.decay.new.self) (g.met.S.Powered.seen c.self.inside.store) (g.met.S.Powered.seen c.decay.new.self) c.decay.ensures.decays.becomes.power_is in
    let safe = same_kept (memory_of c.self.inside) _ _ c.decay.ensures.pages power (c.self.invariant.kept, c.self.invariant.recoverable) in
    record {
      kept = safe.0;
      recoverable = safe.1;
      flags_room = c.self.invariant.flags_room;
      rooms = c.self.invariant.rooms;
    }

pub returns-clause-befalls : goal.returns-clause-befalls
returns-clause-befalls g c =
    let power = same_power _ _ (g.S.Powered.device c.self.inside.store) (g.S.Powered.device c.decay.new.self) (g.met.S.Powered.seen c.self.inside.store) (g.met.S.Powered.seen c.decay.new.self) c.decay.ensures.decays.becomes.power_is in
    subst (λ s. Befalls (view_of s.1 (g.S.StableStore.view s.0)) (view_of (memory_of c.self.inside) (g.S.StableStore.view c.decay.new.self))) c.self.view_is
    (befalls (memory_of c.self.inside) _ _ c.decay.ensures.pages power)
