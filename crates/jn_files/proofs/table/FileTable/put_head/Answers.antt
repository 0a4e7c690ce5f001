use Rattle.jn_files.proofs.Common.{◌≡◌, Bool, true, false, rules, sym, subst, refl, is_ok, StorePut, TableView, IsTable}
use Rattle.jn_files.proofs.Stored.{puts_head}
use Rattle.jn_files.proofs.table.FileTable.put_head.Goals as goal

pub returns : goal.returns
returns g c ch changes =
    let is = subst (λ (x : TableView). IsTable x) c.self.view_is c.self.invariant.table in
    puts_head c.args.self.now (g.S.StableStore.view c.args.store.now) c.args.slot c.args.head c.args.n is c.requires.may c.requires.fits ch true c.set_head.new.self (g.S.StableStore.view c.put.new.self) c.head_page.result c.page.result
    c.head_page.ensures c.page.ensures c.in_ok-put.ensures.put changes (λ e. c.set_head.ensures) (λ e. absurd (cc e))

pub returns-in_err-put : goal.returns-in_err-put
returns-in_err-put g c ch changes =
    let is = subst (λ (x : TableView). IsTable x) c.self.view_is c.self.invariant.table in
    let no_ok : is_ok c.from_residual.result ≡ false = search rules in
    puts_head c.args.self.now (g.S.StableStore.view c.args.store.now) c.args.slot c.args.head c.args.n is c.requires.may c.requires.fits ch (is_ok c.from_residual.result) c.args.self.now (g.S.StableStore.view c.put.new.self) c.head_page.result c.page.result
    c.head_page.ensures c.page.ensures (subst (λ (b : Bool). StorePut (g.S.StableStore.view c.args.store.now) c.head_page.result c.page.result b (g.S.StableStore.view c.put.new.self)) (sym no_ok) c.in_err-put.ensures.put)
    changes (λ e. absurd (cc (e, no_ok))) (λ e. refl)
