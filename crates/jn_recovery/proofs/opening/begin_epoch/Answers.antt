use Rattle.jn_recovery.proofs.Common.{◌≡◌, ◌+◌, ◌∙◌, Err, ap, true, refl, sym, subst, arith, rules, is_ok, root_page, StorePut, counts_by, IsDown, reading_calls, next_root, IsBegun, Stopped, err_from_is_err_and}
use Rattle.jn_recovery.proofs.Begins.{has_root, put_down, put_stands, erase_down, begun}
use Rattle.jn_recovery.proofs.Downs.{if_err_is}
use Rattle.jn_recovery.proofs.CleanPages.{on_ok, on_err}
use Rattle.jn_recovery.proofs.opening.begin_epoch.Goals as goal

pub returns-in_err-opened-clause-down : goal.returns-in_err-opened-clause-down
returns-in_err-opened-clause-down g c = λ server before. let counts = counts_by c.args.counts in
    if_err_is c.from_residual.result (λ cause. IsDown server counts (g.S.StableStore.view c.args.store.now) cause (g.S.StableStore.view c.open_store.new.store)) c.in_err-opened.field-0.0 (search rules) (c.in_err-opened.ensures.down server before)

pub count_restart-requires-clause-there : goal.count_restart-requires-clause-there
count_restart-requires-clause-there g c = let (server, before) = c.requires.recoverable in let counts = counts_by c.args.counts in
    has_root server counts (g.S.StableStore.view c.args.store.now) c.in_ok-opened.opened (g.S.StableStore.view c.open_store.new.store) (c.in_ok-opened.ensures.opened server before)

pub count_restart-requires-clause-before_last : goal.count_restart-requires-clause-before_last
count_restart-requires-clause-before_last g c = let (server, before) = c.requires.recoverable in let counts = counts_by c.args.counts in (c.in_ok-opened.ensures.opened server before).last

pub returns-in_err-epoch-clause-down : goal.returns-in_err-epoch-clause-down
returns-in_err-epoch-clause-down g c = λ server before. let counts = counts_by c.args.counts in
    let w = g.S.StableStore.view c.count_restart.new.store in
    if_err_is c.from_residual-in_err-epoch.result (λ cause. IsDown server counts (g.S.StableStore.view c.args.store.now) cause w) Stopped (search rules)
    (put_down server counts (g.S.StableStore.view c.args.store.now) c.in_ok-opened.opened (g.S.StableStore.view c.open_store.new.store) (c.in_ok-opened.ensures.opened server before) (is_ok c.count_restart.result) w c.count_restart.ensures.put (search rules))

pub erase_all-requires : goal.erase_all-requires
erase_all-requires g c =
    let (server, before) = c.requires.recoverable in let counts = counts_by c.args.counts in
    let o = c.in_ok-opened.opened in
    let at = put_stands server counts (g.S.StableStore.view c.args.store.now) o (g.S.StableStore.view c.open_store.new.store) (c.in_ok-opened.ensures.opened server before) (is_ok c.count_restart.result) (g.S.StableStore.view c.count_restart.new.store)
    c.count_restart.ensures.put (search rules) in
    record { standing = (server, counts, o.root.epoch + 1, o.table.heads, o.table.maps, at.standing) }

pub returns-in_err-erase_all-clause-down : goal.returns-in_err-erase_all-clause-down
returns-in_err-erase_all-clause-down g c = λ server before. let counts = counts_by c.args.counts in
    let v = g.S.StableStore.view c.args.store.now in
    let o = c.in_ok-opened.opened in
    let x = g.S.StableStore.view c.count_restart.new.store in
    let w = g.S.StableStore.view c.erase_all.new.store in
    let at = put_stands server counts v o (g.S.StableStore.view c.open_store.new.store) (c.in_ok-opened.ensures.opened server before) (is_ok c.count_restart.result) x c.count_restart.ensures.put (search rules) in
    let p = err_from_is_err_and c.from_residual-in_err-erase_all.result c.from_residual-in_err-erase_all.ensures.1 in
    if_err_is c.from_residual-in_err-erase_all.result (λ cause. IsDown server counts v cause w) Stopped (p.1 ∙ ap (λ e. Err e) p.2)
    (erase_down server counts v (reading_calls counts + 16) o.root.epoch o.sets o.table.heads o.table.maps x at (omega arith) w
    (on_err c.erase_all.result _ (c.erase_all.ensures.stopped server counts (o.root.epoch + 1) o.table.heads o.table.maps at.standing) (search rules)))

pub returns-clause-begun : goal.returns-clause-begun
returns-clause-begun g c = λ server before. let counts = counts_by c.args.counts in
    let v = g.S.StableStore.view c.args.store.now in
    let o = c.in_ok-opened.opened in
    let u = g.S.StableStore.view c.open_store.new.store in
    let x = g.S.StableStore.view c.count_restart.new.store in
    let y = g.S.StableStore.view c.erase_all.new.store in
    let opened = c.in_ok-opened.ensures.opened server before in
    let done : is_ok c.count_restart.result ≡ true = search rules in
    let at = put_stands server counts v o u opened (is_ok c.count_restart.result) x c.count_restart.ensures.put done in
    subst (λ n. IsBegun server counts v (record { root = o.root; sets = c.erase_all.new.sets; table = o.table }) n y) (sym c.in_ok-epoch.ensures.epoch)
    (begun server counts v o u x opened (subst (λ b. StorePut u 0 (root_page (next_root o.root)) b x) done c.count_restart.ensures.put) c.erase_all.new.sets y
    (on_ok c.erase_all.result _ (c.erase_all.ensures.done server counts (o.root.epoch + 1) o.table.heads o.table.maps at.standing) (search rules)) (record { root = o.root; sets = c.erase_all.new.sets; table = o.table }) refl refl refl)
