use Rattle.jn_server.proofs.Common.{ap, subst, sym, view_of, StoreView, IsRestarted, IsNotRestarted}
use Rattle.jn_recovery.specs.Counts.{counts_by}
use Rattle.jn_server.proofs.Restarted.{restarted, not_restarted, no_tables}
use Rattle.jn_server.proofs.restarting.restart.Goals as goal

pub tables-requires : goal.tables-requires
tables-requires g c = let (server, before) = c.requires.recoverable in let l = c.in-Ok.ensures in record { recovered = let h = l.loaded server before in h.recovered }

pub returns-in-Err-clause-down : goal.returns-in-Err-clause-down
returns-in-Err-clause-down g c = λ server before. let l = c.in-Err.ensures in
    not_restarted server (counts_by c.args.counts) (g.S.StableStore.view c.args.store) _ _ (l.down server before)

pub returns-in-Err-tables-clause-down : goal.returns-in-Err-tables-clause-down
returns-in-Err-tables-clause-down g c = λ server before. let l = c.in-Ok.ensures in
    let look : g.row.S.Denot → StoreView = λ s. g.S.StableStore.view s in
    subst (λ cause. IsNotRestarted server (counts_by c.args.counts) (look c.args.store) cause (look c.given_back.result.store)) (sym c.given_back.ensures.cause)
    (not_restarted server (counts_by c.args.counts) (look c.args.store) _ _
    (no_tables server (counts_by c.args.counts) (look c.args.store) c.in-Ok.found (view_of c.in-Ok.storage.1 (look c.in-Ok.storage.0)) (l.loaded server before) (look c.given_back.result.store) (ap look c.given_back.ensures.store)))

pub returns-in-Ok-tables-clause-up : goal.returns-in-Ok-tables-clause-up
returns-in-Ok-tables-clause-up g c = λ server before. let l = c.in-Ok.ensures in let t = c.in-Ok-tables.ensures in
    let look : g.row.S.Denot → StoreView = λ s. g.S.StableStore.view s in
    subst (λ own. IsRestarted server (counts_by c.args.counts) (look c.args.store) c.in-Ok.found (record { storage = view_of c.in-Ok.storage.1 (look c.in-Ok.storage.0); worker = c.in-Ok-tables.worker; coordinator = c.in-Ok-tables.coordinator; tickets = record { server = own; epoch = c.in-Ok.found.epoch; next = 0 } })) (sym c.server.ensures)
    (restarted server (counts_by c.args.counts) (look c.args.store) c.in-Ok.found (view_of c.in-Ok.storage.1 (look c.in-Ok.storage.0)) (l.loaded server before) c.in-Ok-tables.worker c.in-Ok-tables.coordinator t)
