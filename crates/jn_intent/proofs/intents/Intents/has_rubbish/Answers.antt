use Rattle.jn_intent.proofs.Common.{◌≡◌, ◌∙◌, length, subst, nat_lt, view_of}
use Rattle.jn_intent.proofs.Rubbish.{some_rubbish}
use Rattle.jn_intent.proofs.intents.Intents.has_rubbish.Goals as goal

pub returns : goal.returns
returns g c = subst (λ s. c.has_rubbish.result ≡ nat_lt 0 (length (view_of s.1 (g.S.StableStore.view s.0)).accounts.rubbish)) c.self.view_is
    (c.has_rubbish.ensures ∙ some_rubbish c.self.inside.sets c.self.inside.sets)
