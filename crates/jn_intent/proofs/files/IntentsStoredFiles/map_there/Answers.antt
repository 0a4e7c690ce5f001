use Rattle.jn_intent.proofs.Common.{◌≡◌, subst, accounts_of}
use Rattle.jn_intent.proofs.files.IntentsStoredFiles.map_there.Goals as goal

pub returns : goal.returns
returns g c = subst (λ s. c.map_there.result ≡ (accounts_of s.1).maps c.args.f c.args.j) c.self.view_is c.map_there.ensures
