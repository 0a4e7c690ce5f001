use Rattle.std.proofs.Common.{rules}
use Rattle.jn_coord.proofs.ClosingLemmas.{all-stopped, all-closed}
use Rattle.jn_coord.proofs.Knowing.{client-closed}
use Rattle.jn_coord.proofs.coordinator.Coordinator.close_client.Goals as goal

pub returns-then-is_err : goal.returns-then-is_err
returns-then-is_err g c = all-stopped c.args.who _ _ _ _ c.close.result c.close.ensures (search rules)

pub returns : goal.returns
returns g c = let h = all-closed c.args.who _ _ _ _ c.close.result c.close.ensures (search rules) in client-closed c.args.who _ _ _ _ _ h.0 h.1 c.know_all.ensures
