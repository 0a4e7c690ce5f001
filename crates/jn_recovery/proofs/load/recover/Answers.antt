use Rattle.jn_recovery.proofs.Common.{◌∙◌, Err, ap, refl, rules, flags_on, counts_by, IsDown, err_from_is_err_and}
use Rattle.jn_recovery.specs.declared.load.DownCause.TheVariants.{Memory}
use Rattle.jn_recovery.proofs.Downs.{if_err_is}
use Rattle.jn_recovery.proofs.Loads.{no_memory, may_hold, may_promise, kept_matches, kept_loaded, kept_untouched}
use Rattle.jn_recovery.proofs.load.recover.Goals as goal

pub returns-in_err-opened-clause-down : goal.returns-in_err-opened-clause-down
returns-in_err-opened-clause-down g c = λ server before. let counts = counts_by c.args.counts in
    if_err_is c.from_residual.result (λ cause. IsDown server counts (g.S.StableStore.view c.args.store.now) cause (g.S.StableStore.view c.begin_epoch.new.store)) c.in_err-opened.field-0.0 (search rules) (c.in_err-opened.ensures.down server before)

pub gather-requires-clause-hold : goal.gather-requires-clause-hold
gather-requires-clause-hold g c = let (server, before) = c.requires.recoverable in let counts = counts_by c.args.counts in
    may_hold server counts (g.S.StableStore.view c.args.store.now) c.in_ok-opened.opened c.in_ok-opened.epoch (g.S.StableStore.view c.begin_epoch.new.store) (c.in_ok-opened.ensures.begun server before)

pub gather-requires-clause-promise : goal.gather-requires-clause-promise
gather-requires-clause-promise g c = let (server, before) = c.requires.recoverable in let counts = counts_by c.args.counts in
    may_promise server counts (g.S.StableStore.view c.args.store.now) c.in_ok-opened.opened c.in_ok-opened.epoch (g.S.StableStore.view c.begin_epoch.new.store) (c.in_ok-opened.ensures.begun server before)

pub returns-in_err-kept-clause-down : goal.returns-in_err-kept-clause-down
returns-in_err-kept-clause-down g c = λ server before. let counts = counts_by c.args.counts in
    if_err_is c.from_residual-in_err-kept.result (λ cause. IsDown server counts (g.S.StableStore.view c.args.store.now) cause (g.S.StableStore.view c.begin_epoch.new.store)) Memory (search rules)
    (no_memory server counts (g.S.StableStore.view c.args.store.now) c.in_ok-opened.opened c.in_ok-opened.epoch (g.S.StableStore.view c.begin_epoch.new.store) (c.in_ok-opened.ensures.begun server before))

pub returns-in_err-collect_flags-clause-down : goal.returns-in_err-collect_flags-clause-down
returns-in_err-collect_flags-clause-down g c = λ server before. let counts = counts_by c.args.counts in
    let p = err_from_is_err_and c.from_residual-in_err-collect_flags.result c.from_residual-in_err-collect_flags.ensures.1 in
    if_err_is c.from_residual-in_err-collect_flags.result (λ cause. IsDown server counts (g.S.StableStore.view c.args.store.now) cause (g.S.StableStore.view c.begin_epoch.new.store)) Memory (p.1 ∙ ap (λ e. Err e) p.2)
    (no_memory server counts (g.S.StableStore.view c.args.store.now) c.in_ok-opened.opened c.in_ok-opened.epoch (g.S.StableStore.view c.begin_epoch.new.store) (c.in_ok-opened.ensures.begun server before))

pub returns-clause-matches : goal.returns-clause-matches
returns-clause-matches g c = let (server, before) = c.requires.recoverable in let counts = counts_by c.args.counts in
    kept_matches server counts (g.S.StableStore.view c.args.store.now) c.in_ok-opened.opened c.in_ok-opened.epoch (g.S.StableStore.view c.begin_epoch.new.store) (c.in_ok-opened.ensures.begun server before)
    c.in_ok-kept.kept c.in_ok-kept.ensures.server c.in_ok-kept.ensures.epoch c.in_ok-kept.ensures.sets c.in_ok-kept.ensures.works c.in_ok-kept.ensures.flags c.in_ok-kept.ensures.table c.in_ok-kept.ensures.is_table

pub returns-clause-loaded : goal.returns-clause-loaded
returns-clause-loaded g c = λ server before. let counts = counts_by c.args.counts in
    kept_loaded server counts (g.S.StableStore.view c.args.store.now) c.in_ok-opened.opened c.in_ok-opened.epoch (g.S.StableStore.view c.begin_epoch.new.store) (c.in_ok-opened.ensures.begun server before)
    c.in_ok-kept.kept c.in_ok-kept.ensures.server c.in_ok-kept.ensures.epoch c.in_ok-kept.ensures.sets c.in_ok-kept.ensures.works c.in_ok-kept.ensures.flags c.in_ok-kept.ensures.table c.in_ok-kept.ensures.is_table before
    (record { epoch = c.in_ok-opened.epoch; flags = c.from_vec-flags.result }) refl (c.from_vec-flags.ensures ∙ c.in_ok-collect_flags.ensures ∙ ap flags_on c.in_ok-kept.ensures.sets)

pub returns-clause-untouched : goal.returns-clause-untouched
returns-clause-untouched g c = let (server, before) = c.requires.recoverable in let counts = counts_by c.args.counts in
    kept_untouched server counts (g.S.StableStore.view c.args.store.now) c.in_ok-opened.opened c.in_ok-opened.epoch (g.S.StableStore.view c.begin_epoch.new.store) (c.in_ok-opened.ensures.begun server before)
    c.in_ok-kept.kept c.in_ok-kept.ensures.server c.in_ok-kept.ensures.epoch c.in_ok-kept.ensures.sets c.in_ok-kept.ensures.works c.in_ok-kept.ensures.flags c.in_ok-kept.ensures.table c.in_ok-kept.ensures.is_table
