use Rattle.jn_recovery.proofs.Common.{◌≡◌, ◌*◌, inr, Err, false, refl, sym, ◌∙◌, ap, true≢false, arith, rules, is_ok, heads_on, pages_by, data_place, down_of, counts_by, front_count, IsDown, Stopped}
use Rattle.jn_recovery.proofs.CleanStore.{root_there, root_is, root_only}
use Rattle.jn_recovery.proofs.Downs.{recovering_fewer, stopped_down, few_calls, if_err_is}
use Rattle.jn_recovery.proofs.Openings.{reads_none, root_exit, counts_fit, readable, sets_exit, heads_loadable, table_exit, opened}
use Rattle.jn_recovery.proofs.CleanPages.{front_cleaned, on_err}
use Rattle.jn_recovery.proofs.opening.open_store.Goals as goal

pub clean_pages-requires-clause-below : goal.clean_pages-requires-clause-below
clean_pages-requires-clause-below g c = let (server, before) = c.requires.recoverable in
    let e = before.count in
    let front = c.front-front.ensures in
    omega (arith, e, front)

pub returns-in_err-clean_pages-clause-down : goal.returns-in_err-clean_pages-clause-down
returns-in_err-clean_pages-clause-down g c = λ server before. let counts = counts_by c.args.counts in
    let v = g.S.StableStore.view c.args.store.now in
    let w = g.S.StableStore.view c.clean_pages.new.store in
    let bad : is_ok c.clean_pages.result ≡ false = search rules in
    if_err_is c.from_residual.result (λ cause. IsDown server counts v cause w) Stopped (search rules)
    (stopped_down server counts v (λ n. false) w (recovering_fewer server counts v (λ n. false) w before c.clean_pages.ensures.fewer c.clean_pages.ensures.later
    (few_calls counts v (λ n. false) w.calls (16 * front_count counts) (let front = c.front-front.ensures in let calls = c.clean_pages.ensures.calls in omega (arith, front, calls)) (omega arith))
    (λ d lt none. c.clean_pages.ensures.others (data_place counts d) (let e = before.count in omega (arith, e, lt)) (inr (let front = c.front-front.ensures in omega (arith, front)))))
    (on_err c.clean_pages.result _ c.clean_pages.ensures.stop bad) (λ quiet. true≢false (sym (c.clean_pages.ensures.calm quiet) ∙ bad)))

pub read_root-requires-clause-readable : goal.read_root-requires-clause-readable
read_root-requires-clause-readable g c = let (server, before) = c.requires.recoverable in let counts = counts_by c.args.counts in
    let read = reads_none server counts (g.S.StableStore.view c.args.store.now) (g.S.StableStore.view c.clean_pages.new.store) before (front_cleaned _ _ _ _ c.front-front.ensures c.clean_pages.result c.clean_pages.ensures.cleaned (search rules)) in
    let u = g.S.StableStore.view c.clean_pages.new.store in
    (root_there server counts u read.recoverable read.clean, root_is server counts u read.recoverable read.clean, root_only server counts u read.recoverable read.clean)

pub returns-in_err-root-clause-down : goal.returns-in_err-root-clause-down
returns-in_err-root-clause-down g c = λ server before. let counts = counts_by c.args.counts in
    let w = g.S.StableStore.view c.read_root.new.store in
    if_err_is c.from_residual-in_err-root.result (λ cause. IsDown server counts (g.S.StableStore.view c.args.store.now) cause w) c.in_err-root.field-0.0 (search rules)
    (root_exit server counts _ before (g.S.StableStore.view c.clean_pages.new.store) (front_cleaned _ _ _ _ c.front-front.ensures c.clean_pages.result c.clean_pages.ensures.cleaned (search rules)) c.read_root.result w c.read_root.ensures.read c.read_root.ensures.root
    c.in_err-root.field-0.0 c.in_err-root.was c.read_root.ensures.stop c.read_root.ensures.calm c.read_root.ensures.served)

pub load-requires-clause-counts : goal.load-requires-clause-counts
load-requires-clause-counts g c = let (server, before) = c.requires.recoverable in let counts = counts_by c.args.counts in counts_fit server counts (g.S.StableStore.view c.args.store.now) before (g.S.StableStore.view c.clean_pages.new.store) (front_cleaned _ _ _ _ c.front-front.ensures c.clean_pages.result c.clean_pages.ensures.cleaned (search rules))
    c.read_root.result (g.S.StableStore.view c.read_root.new.store) c.read_root.ensures.read c.read_root.ensures.root c.in_ok-root.root c.in_ok-root.was (g.S.StableStore.view c.read_root.new.store) refl

pub load-requires-clause-readable : goal.load-requires-clause-readable
load-requires-clause-readable g c = let (server, before) = c.requires.recoverable in let counts = counts_by c.args.counts in readable server counts (g.S.StableStore.view c.args.store.now) before (g.S.StableStore.view c.clean_pages.new.store) (front_cleaned _ _ _ _ c.front-front.ensures c.clean_pages.result c.clean_pages.ensures.cleaned (search rules))
    c.read_root.result (g.S.StableStore.view c.read_root.new.store) c.read_root.ensures.read c.read_root.ensures.root c.in_ok-root.root c.in_ok-root.was

pub returns-in_err-sets-clause-down : goal.returns-in_err-sets-clause-down
returns-in_err-sets-clause-down g c = λ server before. let counts = counts_by c.args.counts in
    let w = g.S.StableStore.view c.load.new.store in
    if_err_is c.from_residual-in_err-sets.result (λ cause. IsDown server counts (g.S.StableStore.view c.args.store.now) cause w) (down_of c.in_err-sets.field-0.0) (search rules)
    (sets_exit server counts _ before (g.S.StableStore.view c.clean_pages.new.store) (front_cleaned _ _ _ _ c.front-front.ensures c.clean_pages.result c.clean_pages.ensures.cleaned (search rules)) c.read_root.result (g.S.StableStore.view c.read_root.new.store) c.read_root.ensures.read c.read_root.ensures.root
    c.in_ok-root.root c.in_ok-root.was w c.load.ensures.read c.in_err-sets.field-0.0 (λ e. c.load.ensures.stop (c.in_err-sets.was ∙ ap Err e)) (λ quiet e. c.load.ensures.calm quiet (c.in_err-sets.was ∙ ap Err e)))

pub load-requires-2-clause-counts : goal.load-requires-2-clause-counts
load-requires-2-clause-counts g c = let (server, before) = c.requires.recoverable in let counts = counts_by c.args.counts in counts_fit server counts (g.S.StableStore.view c.args.store.now) before (g.S.StableStore.view c.clean_pages.new.store) (front_cleaned _ _ _ _ c.front-front.ensures c.clean_pages.result c.clean_pages.ensures.cleaned (search rules))
    c.read_root.result (g.S.StableStore.view c.read_root.new.store) c.read_root.ensures.read c.read_root.ensures.root c.in_ok-root.root c.in_ok-root.was (g.S.StableStore.view c.load.new.store) c.load.ensures.read.later.count

pub load-requires-2-clause-loadable : goal.load-requires-2-clause-loadable
load-requires-2-clause-loadable g c = let (server, before) = c.requires.recoverable in let counts = counts_by c.args.counts in (
  heads_on counts (pages_by (g.S.StableStore.view c.load.new.store) (λ n. false)),
  heads_loadable server counts (g.S.StableStore.view c.args.store.now) before (g.S.StableStore.view c.clean_pages.new.store) (front_cleaned _ _ _ _ c.front-front.ensures c.clean_pages.result c.clean_pages.ensures.cleaned (search rules))
      c.read_root.result (g.S.StableStore.view c.read_root.new.store) c.read_root.ensures.read c.read_root.ensures.root c.in_ok-root.root c.in_ok-root.was (g.S.StableStore.view c.load.new.store) c.load.ensures.read,
)

pub returns-in_err-table-clause-down : goal.returns-in_err-table-clause-down
returns-in_err-table-clause-down g c = λ server before. let counts = counts_by c.args.counts in
    let w = g.S.StableStore.view c.load-2.new.store in
    let heads = heads_on counts (pages_by (g.S.StableStore.view c.load.new.store) (λ n. false)) in
    let may = heads_loadable server counts (g.S.StableStore.view c.args.store.now) before (g.S.StableStore.view c.clean_pages.new.store) (front_cleaned _ _ _ _ c.front-front.ensures c.clean_pages.result c.clean_pages.ensures.cleaned (search rules))
    c.read_root.result (g.S.StableStore.view c.read_root.new.store) c.read_root.ensures.read c.read_root.ensures.root c.in_ok-root.root c.in_ok-root.was (g.S.StableStore.view c.load.new.store) c.load.ensures.read in
    if_err_is c.from_residual-in_err-table.result (λ cause. IsDown server counts (g.S.StableStore.view c.args.store.now) cause w) (down_of c.in_err-table.field-0.0) (search rules)
    (table_exit server counts (g.S.StableStore.view c.args.store.now) before (g.S.StableStore.view c.clean_pages.new.store) (front_cleaned _ _ _ _ c.front-front.ensures c.clean_pages.result c.clean_pages.ensures.cleaned (search rules))
    c.read_root.result (g.S.StableStore.view c.read_root.new.store) c.read_root.ensures.read c.read_root.ensures.root c.in_ok-root.root c.in_ok-root.was (g.S.StableStore.view c.load.new.store) c.load.ensures.read w (c.load-2.ensures.read heads may)
    c.in_err-table.field-0.0 (λ e. c.load-2.ensures.stop (c.in_err-table.was ∙ ap Err e)) (λ quiet e. c.load-2.ensures.calm quiet (c.in_err-table.was ∙ ap Err e)))

pub returns-clause-opened : goal.returns-clause-opened
returns-clause-opened g c = λ server before. let counts = counts_by c.args.counts in
    let heads = heads_on counts (pages_by (g.S.StableStore.view c.load.new.store) (λ n. false)) in
    let may = heads_loadable server counts (g.S.StableStore.view c.args.store.now) before (g.S.StableStore.view c.clean_pages.new.store) (front_cleaned _ _ _ _ c.front-front.ensures c.clean_pages.result c.clean_pages.ensures.cleaned (search rules))
    c.read_root.result (g.S.StableStore.view c.read_root.new.store) c.read_root.ensures.read c.read_root.ensures.root c.in_ok-root.root c.in_ok-root.was (g.S.StableStore.view c.load.new.store) c.load.ensures.read in
    opened server counts (g.S.StableStore.view c.args.store.now) before (g.S.StableStore.view c.clean_pages.new.store) (front_cleaned _ _ _ _ c.front-front.ensures c.clean_pages.result c.clean_pages.ensures.cleaned (search rules))
    c.read_root.result (g.S.StableStore.view c.read_root.new.store) c.read_root.ensures.read c.read_root.ensures.root c.in_ok-root.root c.in_ok-root.was (g.S.StableStore.view c.load.new.store) c.load.ensures.read (g.S.StableStore.view c.load-2.new.store) (c.load-2.ensures.read heads may)
    c.in_ok-sets.sets (search rules) (search rules) c.in_ok-table.table c.in_ok-table.ensures.loaded (c.in_ok-table.ensures.heads heads may) c.in_ok-table.ensures.holds (c.in_ok-table.ensures.mended (search rules) heads may)
    (c.read_root.ensures.served (search rules)) (c.load.ensures.stops (search rules)) (c.load-2.ensures.stops (search rules)) _ refl refl refl
