use Rattle.jn_lock_rows.proofs.Common.{◌≡◌, List, [], ◌∷◌, ◌++◌, sym, ◌∙◌, subst, table, Work, new_work, LocksMatch}
use Rattle.jn_lock_rows.proofs.Granting.{match_opened}
use Rattle.jn_lock_rows.proofs.grants.open_work.Goals as goal

pub returns-in-Ok-clause-matches : goal.returns-in-Ok-clause-matches
returns-in-Ok-clause-matches c = let kept : c.reserve.new.self.items ≡ c.args.works.now.items = cc in
    let joined : c.reserve.new.self.items ++ c.new_work.result ∷ [] ≡ c.args.works.now.items ++ new_work c.args.name c.args.tid ∷ [] = let e = c.new_work.ensures in cc in
    subst (λ (ws : List Work). LocksMatch ws (table c.ask.new.self)) (sym (c.push_reserved.ensures.items ∙ joined))
    (match_opened c.args.works.now.items (table c.args.locks.now) (table c.ask.new.self) c.args.name c.args.tid c.in-Ok._granted c.requires.matches c.requires.last c.in-Ok.ensures.granted)
